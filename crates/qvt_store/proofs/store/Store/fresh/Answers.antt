use Rattle.std.proofs.Common.{◌∙◌, ◌++◌, cond, sym, ap, subst, List}
use Rattle.std.specs.Prelude.{All, filter}
use Rattle.std.proofs.lemmas.List.Elements.{All-filter}
use Rattle.qvt_value.specs.declared.value.Value.{Value}
use Rattle.qvt_slots.specs.Contents.{slot_of}
use Rattle.qvt_slots.specs.Types.{HasCodeType}
use Rattle.qvt_value.specs.Kept.{firsts}
use Rattle.qvt_value.specs.Order.{order_of}
use Rattle.qvt_store.specs.Ready.{is_absent}
use Rattle.qvt_store.proofs.Appending.{plain_last, new_more}
use Rattle.qvt_store.proofs.store.Store.fresh.Goals as goal

pub returns-then-not-unique-clause-list : goal.returns-then-not-unique-clause-list
returns-then-not-unique-clause-list c =
    plain_last c.args.self.now.metas c.args.feature.0 (slot_of c.args.self.now c.args.object.0 c.args.feature.0 ++ c.args.values.now) (sym c.is_unique_feature-unique.ensures.value ∙ c.if-not-unique.true)
    ∙ ap (λ (l : List Value). slot_of c.args.self.now c.args.object.0 c.args.feature.0 ++ l)
    (sym (c.in_ok-news.ensures.list ∙ ap (λ b. cond b (firsts order_of c.args.values.now) c.args.values.now) c.if-not-unique.true))

pub returns-clause-list : goal.returns-clause-list
returns-clause-list c =
    let u = sym c.is_unique_feature-unique.ensures.value ∙ c.if-not-unique.false in
    new_more c.args.self.now.metas c.args.feature.0 (slot_of c.args.self.now c.args.object.0 c.args.feature.0) c.args.values.now c.in_ok-news.news c.in_ok-fresh.fresh u
    ((c.requires u).unique c.args.object.0 c.args.feature.0 u)
    (c.in_ok-news.ensures.list ∙ ap (λ b. cond b (firsts order_of c.args.values.now) c.args.values.now) c.if-not-unique.false)
    (c.in_ok-fresh.ensures ∙ ap (λ (l : List Value). filter (is_absent (slot_of c.args.self.now c.args.object.0 c.args.feature.0)) l) c.as_slice.ensures)

pub returns-clause-plain : goal.returns-clause-plain
returns-clause-plain c = subst (All HasCodeType) (sym (c.in_ok-fresh.ensures ∙ ap (λ (l : List Value). filter (is_absent (slot_of c.args.self.now c.args.object.0 c.args.feature.0)) l) c.as_slice.ensures))
    (All-filter (is_absent (slot_of c.args.self.now c.args.object.0 c.args.feature.0)) HasCodeType c.in_ok-news.news c.in_ok-news.ensures.plain)
