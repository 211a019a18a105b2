-- The dot on the items of collections.
use Rattle.std.proofs.Common.{◌≡◌, ◌∙◌, refl, sym, ap, List, [], ◌∷◌}
use Rattle.qvt_base.specs.declared.numbers.Place.{Place}
use Rattle.qvt_value.specs.declared.value.Value.{Value, Coll', Row_of-Value, end_of-Value, more_of-Value, items-the_row-Value, items_hidden-the_row-Value-0}
use Rattle.qvt_value.specs.declared.value.Value.TheViews.{Coll}
use Rattle.qvt_value.specs.declared.value.Kind.{Kind}
use Rattle.qvt_run_data.specs.declared.late.LateWrite.{LateWrite}
use Rattle.qvt_run_rules.specs.State.{Does}
use Rattle.qvt_run_rules.specs.Sources.{as_flat, collected_kind, for_items, for_row, in_turn}
use Rattle.qvt_exec_leaves.specs.Leaves.{for_list}

pub row_is_list : (at : Place) (f : Value → Does LateWrite Value) {m : _} (r : Row_of-Value m) → for_list at f (items-the_row-Value m r) ≡ for_row at f r
row_is_list at f end_of-Value = refl
row_is_list at f (more_of-Value v vs) = ap (λ l. for_items at f v ∷ l) (row_is_list at f vs)

abbrev items_of : Value → List Value
items_of (Coll' k s r) = items-the_row-Value _ r
items_of v = []

abbrev kind_of : Value → Kind → Kind
kind_of (Coll' k s r) l = k
kind_of v l = l

abbrev IsColl : Value → Type 0
IsColl (Coll' k s r) = Unit {0}
IsColl v = ⊥

inner : (at : Place) (f : Value → Does LateWrite Value) (l : Kind) (v : Value) → IsColl v → for_items at f v ≡ in_turn (as_flat at (collected_kind (kind_of v l))) [] (for_list at f (items_of v))
inner at f l (Coll' k s r) h = ap (λ ps. in_turn (as_flat at (collected_kind k)) [] ps) (sym (row_is_list at f r))
inner at f l v h = absurd h

pub for_coll : (at : Place) (f : Value → Does LateWrite Value) (k : Kind) (vs : List Value) → for_items at f (Coll k vs) ≡ in_turn (as_flat at (collected_kind k)) [] (for_list at f vs)
for_coll at f k vs = inner at f k (Coll k vs) tt ∙ ap (λ xs. in_turn (as_flat at (collected_kind k)) [] (for_list at f xs)) (items_hidden-the_row-Value-0 vs)
