use Rattle.std.proofs.Common.{◌≡◌, map, take}
use Rattle.qvt_conform.specs.Containment.{contents_of_object}
use Rattle.qvt_conform.proofs.contents.contents.Given as goal

abbrev pub invariant-loop-object : goal.invariant-loop-object
invariant-loop-object l = l.all ≡ map (contents_of_object l.metas) (take l.object-index l.objects)
