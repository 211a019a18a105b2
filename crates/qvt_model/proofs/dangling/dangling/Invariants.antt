use Rattle.std.proofs.Common.{◌≡◌, drop}
use Rattle.qvt_model.specs.Reading.{dangling}
use Rattle.qvt_model.proofs.dangling.dangling.Given as goal

abbrev pub invariant-loop-object : goal.invariant-loop-object
invariant-loop-object l = dangling l.metas l.count (drop l.object-index l.objects) ≡ dangling l.metas l.count l.objects
