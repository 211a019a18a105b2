use Rattle.std.proofs.Common.{◌≡◌, true, take}
use Rattle.std.specs.List.{list_all}
use Rattle.qvt_metamodel.specs.Extended.{has_texts}
use Rattle.qvt_metas.proofs.extending.have_texts.Given as goal

abbrev pub invariant-loop-class : goal.invariant-loop-class
invariant-loop-class l = list_all has_texts (take l.class-index l.classes) ≡ true
