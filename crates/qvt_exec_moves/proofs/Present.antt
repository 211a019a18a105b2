-- What a collection puts into a slot.
use Rattle.std.proofs.Common.{◌≡◌, ◌∙◌, ◌||◌, Bool, true, false, cond, not, filter, refl, ap, List, [], ◌∷◌}
use Rattle.std.specs.List.{list_any}
use Rattle.qvt_value.specs.declared.value.Value.{Value, items_hidden-the_row-Value-0}
use Rattle.qvt_value.specs.declared.value.Value.TheViews.{Coll}
use Rattle.qvt_value.specs.declared.value.Kind.{Kind}
use Rattle.qvt_ocl_words.specs.Lists.{is_null}
use Rattle.qvt_run_rules.specs.Store.{slot_items}

abbrev is_present : Value → Bool
is_present v = not (is_null v)

all_present : (vs : List Value) → list_any is_null vs ≡ false → filter is_present vs ≡ vs
all_present [] h = refl
all_present (v ∷ vs) h = by (is_null v) h (all_present vs)
  where
    by : (b : Bool) → (b || list_any is_null vs) ≡ false → (list_any is_null vs ≡ false → filter is_present vs ≡ vs) → cond (not b) (v ∷ filter is_present vs) (filter is_present vs) ≡ v ∷ vs
    by true k rest = cc
    by false k rest = ap (λ l. v ∷ l) (rest k)

-- without nulls it is all of it
pub items_put : (k : Kind) (vs : List Value) → list_any is_null vs ≡ false → slot_items false (Coll k vs) ≡ vs
items_put k vs h = ap (filter is_present) (items_hidden-the_row-Value-0 vs) ∙ all_present vs h
