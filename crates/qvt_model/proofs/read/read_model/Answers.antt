use Rattle.std.proofs.Common.{rules, ◌≡◌, ◌∙◌, Some, sym, ap, subst}
use Rattle.std.specs.Prelude.{option_map, unwrap_or, codes}
use Rattle.serde_json.specs.Data.{no_items}
use Rattle.serde_json.specs.View.{view, items_view}
use Rattle.qvt_json.specs.Json.{json, items_or}
use Rattle.qvt_json.proofs.Ordered.{ItemsOrdered, IsOrdered-json, items_or-ordered}
use Rattle.qvt_model.specs.Reading.{model_of, model_from, distinct_ids}
use Rattle.qvt_model.proofs.Sound.{IsModel-model_from}
use Rattle.qvt_model.proofs.read.read_model.Goals as goal

pub returns-in_default-items_at-clause-data : goal.returns-in_default-items_at-clause-data
unfolding model_of model_from distinct_ids
returns-in_default-items_at-clause-data c = search rules

pub returns-clause-well_formed : goal.returns-clause-well_formed
returns-clause-well_formed c =
    let value = c.in-Some.value in
    let items = c.in-Some-items_at.items.now.items in
    let read : json c.args.bytes.now ≡ Some (view value) = sym c.in_ok-value.ensures ∙ ap (option_map view) c.in-Some.is in
    let there : items_or (codes "objects") (view value) ≡ items_view items = ap (λ o. unwrap_or o no_items) (sym c.in-Some-items_at.ensures) in
    let ordered : ItemsOrdered (items_view items) = subst ItemsOrdered there (items_or-ordered (codes "objects") (view value) (IsOrdered-json c.args.bytes.now (view value) read)) in
    IsModel-model_from c.args.metas.now c.args.metamodel (items_view items) c.in_ok-objects.objects ordered c.in_ok-objects.ensures.value c.in_ok-objects.ensures.plain
