use Rattle.std.proofs.Common.{◌≡◌, drop}
use Rattle.std.specs.List.{AllByRecursion}
use Rattle.serde_json.specs.View.{items_view}
use Rattle.qvt_json.specs.Steps.{all_items}
use Rattle.qvt_json.proofs.Each.{with_all}
use Rattle.qvt_model.specs.Reading.{datum_of}
use Rattle.qvt_model.specs.WellFormed.{IsPlainDatum}
use Rattle.qvt_model.proofs.items.all_items.Given as goal

abbrev pub invariant-loop-value : goal.invariant-loop-value
invariant-loop-value l = record {
  items : with_all l.items (all_items (datum_of l.dictionary l.places l.kind) (items_view (drop l.value-index l.value-items))) ≡ all_items (datum_of l.dictionary l.places l.kind) (items_view l.value-items);
  plain : AllByRecursion IsPlainDatum l.items;
}
