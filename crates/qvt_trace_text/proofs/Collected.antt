-- What is written for a collection.
use Rattle.std.proofs.Common.{◌≡◌, ◌∙◌, refl, sym, ap, ℕ, List, [], ◌∷◌, map, Option}
use Rattle.serde_json.specs.View.{items_of}
use Rattle.qvt_store.specs.Contents.{Contents}
use Rattle.qvt_value.specs.declared.value.Kind.{Kind}
use Rattle.qvt_value.specs.declared.value.Kind.TheVariants.{Set}
use Rattle.qvt_value.specs.declared.value.Value.{Value, Coll', Row_of-Value, end_of-Value, more_of-Value, items-the_row-Value, items_hidden-the_row-Value-0}
use Rattle.qvt_value.specs.declared.value.Value.TheViews.{Coll}
use Rattle.qvt_meaning_report.specs.TraceText.{value_data, row_data}
use Rattle.qvt_trace_text.specs.Parts.{coll_data}

module _ (s : Contents) (ids : List (Option (List ℕ))) where
  row_is : {m : _} (r : Row_of-Value m) → map (value_data s ids) (items-the_row-Value m r) ≡ row_data s ids r
  row_is end_of-Value = refl
  row_is (more_of-Value v vs) = ap (λ ds. value_data s ids v ∷ ds) (row_is vs)

  abbrev kind_in : Value → Kind
  kind_in (Coll' k shape row) = k
  kind_in v = Set

  abbrev items_in : Value → List Value
  items_in (Coll' k shape row) = items-the_row-Value _ row
  items_in v = []

  abbrev IsColl : Value → Type 0
  IsColl (Coll' k shape row) = Unit {0}
  IsColl v = ⊥

  inner : (v : Value) → IsColl v → value_data s ids v ≡ coll_data (kind_in v) (items_of (map (value_data s ids) (items_in v)))
  inner (Coll' k shape row) h = ap (λ ds. coll_data k (items_of ds)) (sym (row_is row))
  inner v h = absurd h

  pub coll_is : (k : Kind) (vs : List Value) → value_data s ids (Coll k vs) ≡ coll_data k (items_of (map (value_data s ids) vs))
  coll_is k vs = inner (Coll k vs) tt ∙ ap (λ xs. coll_data k (items_of (map (value_data s ids) xs))) (items_hidden-the_row-Value-0 vs)
