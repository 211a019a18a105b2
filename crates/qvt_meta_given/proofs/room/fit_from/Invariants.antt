use Rattle.std.proofs.Common.{◌≡◌, ◌+◌, drop}
use Rattle.qvt_metas.specs.Extended.{given_count}
use Rattle.qvt_meta_given.proofs.room.fit_from.Given as goal

abbrev pub invariant-loop-class : goal.invariant-loop-class
invariant-loop-class l = l.next + given_count (drop l.class-index l.classes) ≡ l.start + given_count l.classes
