-- The items so far are looked up, each of them once.
use Rattle.std.proofs.Common.{◌≡◌, take}
use Rattle.qvt_value.proofs.Differing.{Few, now_of}
use Rattle.qvt_value.proofs.make.all_differ.Given as goal

abbrev pub invariant-loop-item : goal.invariant-loop-item
invariant-loop-item l = record {
  seen : now_of l.earlier.keys ≡ take l.item-index l.items;
  few : Few (take l.item-index l.items);
}
