use Rattle.std.proofs.Common.{◌≡◌, ◌++◌, None, eqb, drop}
use Rattle.qvt_repeats.specs.Repeats.{repeated_by}
use Rattle.qvt_model.specs.Extents.{numbers}
use Rattle.qvt_model.proofs.write.numbers_of.Given as goal

abbrev pub invariant-loop-member : goal.invariant-loop-member
invariant-loop-member l = record {
  new : repeated_by eqb l.places (numbers (drop l.member-index l.members)) ≡ None;
  all : l.places ++ numbers (drop l.member-index l.members) ≡ numbers l.members;
}
