use Rattle.std.proofs.Common.{◌≡◌, ◌∙◌, ◌&&◌, sym, ap}
use Rattle.std.specs.Cmp.Lexicographic.{slice_cmp}
use Rattle.std.specs.Ordering.{is_eq}
use Rattle.qvt_value.specs.declared.value.Value.TheViews.{Coll}
use Rattle.qvt_value.specs.contracts.value.ValueOrd.TheImpl.{ghosts}
use Rattle.qvt_value.specs.Kept.{is_same}
use Rattle.qvt_value.specs.Order.{order_of}
use Rattle.qvt_value.proofs.SameItems.{same_items}
use Rattle.qvt_value.proofs.items.is_collection_of.Goals as goal

pub returns-then-eq : goal.returns-then-eq
returns-then-eq c =
    c.is_eq.ensures ∙ ap is_eq c.cmp.ensures
    ∙ ap (λ ys. is_eq (slice_cmp ghosts.cmp c.args.items.now ys)) c.as_slice.ensures
    ∙ ap (λ b. b && is_eq (slice_cmp ghosts.cmp c.args.items.now c.in-Coll.others)) c.if-eq.ensures
    ∙ sym (same_items c.args.kind c.in-Coll.own c.args.items.now c.in-Coll.others)
    ∙ ap (λ v. is_same order_of (Coll c.args.kind c.args.items.now) v) (sym c.in-Coll.is)
