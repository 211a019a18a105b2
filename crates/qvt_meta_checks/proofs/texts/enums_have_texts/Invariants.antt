use Rattle.std.proofs.Common.{◌≡◌, true, take}
use Rattle.std.specs.List.{list_all}
use Rattle.qvt_metamodel.specs.Checked.{are_texts}
use Rattle.qvt_meta_checks.proofs.texts.enums_have_texts.Given as goal

abbrev pub invariant-loop-item : goal.invariant-loop-item
invariant-loop-item l = list_all are_texts (take l.item-index l.enums) ≡ true
