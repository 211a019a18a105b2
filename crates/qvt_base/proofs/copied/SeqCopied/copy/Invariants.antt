use Rattle.std.proofs.Common.{◌≡◌, take}
use Rattle.qvt_base.proofs.copied.SeqCopied.copy.Given as goal

abbrev pub invariant-loop-item : goal.invariant-loop-item
invariant-loop-item g l = l.copies ≡ take l.item-index l.self
