use Rattle.std.proofs.Common.{◌∙◌, sym, subst}
use Rattle.qvt_metas.specs.Extended.{AreGiven}
use Rattle.qvt_metamodel.proofs.Bools.{clash}
use Rattle.qvt_meta_given.proofs.Sound.{given_of, live_given, loose_given}
use Rattle.qvt_meta_given.proofs.given.are_given.Goals as goal

pub returns-then-not-are_live-clause-refused : goal.returns-then-not-are_live-clause-refused
returns-then-not-are_live-clause-refused c = λ no alone given room.
    clash (live_given c.args.metas.now c.as_slice-given.result.now (subst (AreGiven c.args.metas.now) (sym c.as_slice-given.ensures) given)) (sym c.are_live.ensures ∙ c.if-not-are_live.true)

pub returns-then-not-are_loose-clause-refused : goal.returns-then-not-are_loose-clause-refused
returns-then-not-are_loose-clause-refused c = λ no alone given room.
    clash (loose_given c.args.metas.now c.as_slice-given.result.now (subst (AreGiven c.args.metas.now) (sym c.as_slice-given.ensures) given)) (sym c.are_loose.ensures ∙ c.if-not-are_loose.true)

pub returns-clause-given : goal.returns-clause-given
returns-clause-given c = λ yes alone.
    subst (AreGiven c.args.metas.now) c.as_slice-given.ensures (given_of c.args.metas.now c.as_slice-given.result.now (sym c.are_live.ensures ∙ c.if-not-are_live.false) (sym c.are_loose.ensures ∙ c.if-not-are_loose.false) (c.in_ok-sound.ensures.sound yes))
