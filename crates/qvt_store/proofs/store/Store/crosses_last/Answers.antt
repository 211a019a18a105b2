use Rattle.std.proofs.Common.{◌∙◌, ◌&&◌, sym, ap}
use Rattle.qvt_slots.specs.Assign.{is_elsewhere}
use Rattle.qvt_store_laws.proofs.Own.{crosses-last}
use Rattle.qvt_store.proofs.store.Store.crosses_last.Goals as goal

pub returns-then-is_in_model : goal.returns-then-is_in_model
returns-then-is_in_model c = c.is_elsewhere.ensures
    ∙ sym (ap (λ b. b && is_elsewhere c.args.self.now c.args.object.0 c.args.value.now) (sym c.is_in_model.ensures ∙ c.if-is_in_model.true))
    ∙ sym (crosses-last c.args.self.now c.args.object.0 c.args.feature.0 c.args.value.now (c.holds_own.ensures c.if-holds_own.true))
