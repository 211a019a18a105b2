use Rattle.std.proofs.Common.{◌∙◌, sym}
use Rattle.qvt_slots.specs.Contents.{slot_of}
use Rattle.qvt_store.proofs.Appending.{new_last, new_none}
use Rattle.qvt_store.proofs.store.Store.append_value.Goals as goal

pub append_none-requires-clause-same : goal.append_none-requires-clause-same
append_none-requires-clause-same c =
    let u = sym c.is_unique_feature-unique.ensures.value ∙ c.if-not-unique.false in
    new_none c.args.self.now.metas c.args.feature.0 (slot_of c.args.self.now c.args.object.0 c.args.feature.0) c.args.value.now u
    ((c.is_distinct.ensures c.if-not-is_distinct.false).unique c.args.object.0 c.args.feature.0 u)
    (sym c.has_value.ensures ∙ c.if-has_value.true)

pub append_last-requires-2-clause-last : goal.append_last-requires-2-clause-last
append_last-requires-2-clause-last c =
    let u = sym c.is_unique_feature-unique.ensures.value ∙ c.if-not-unique.false in
    new_last c.args.self.now.metas c.args.feature.0 (slot_of c.args.self.now c.args.object.0 c.args.feature.0) c.args.value.now u
    ((c.is_distinct.ensures c.if-not-is_distinct.false).unique c.args.object.0 c.args.feature.0 u)
    (sym c.has_value.ensures ∙ c.if-has_value.false)
