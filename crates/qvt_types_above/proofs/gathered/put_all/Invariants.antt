use Rattle.std.proofs.Common.{◌≡◌, drop}
use Rattle.qvt_types_above.specs.Gathered.{put_all, AreThere}
use Rattle.qvt_types_above.proofs.gathered.put_all.Given as goal

abbrev pub invariant-loop-number : goal.invariant-loop-number
invariant-loop-number l = record {
  numbers : put_all l.numbers (drop l.number-index l.more) ≡ put_all l.fn.numbers l.more;
  seen : AreThere l.numbers l.seen;
}
