use Rattle.std.proofs.Common.{◌≡◌, take}
use Rattle.qvt_dictionary.proofs.dictionary.set_of.Given as goal

abbrev pub invariant-loop-text : goal.invariant-loop-text
invariant-loop-text l = l.set ≡ take l.text-index l.texts
