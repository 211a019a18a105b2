use Rattle.std.proofs.Common.{◌≡◌, ◌++◌, suc, map, drop}
use Rattle.serde_json.specs.View.{view}
use Rattle.qvt_model.specs.Extents.{numbers}
use Rattle.qvt_model.specs.Writing.{objects_written}
use Rattle.qvt_model.proofs.write.objects_written.Given as goal

abbrev pub invariant-loop-place : goal.invariant-loop-place
invariant-loop-place l = map view l.written.items ++ objects_written l.store l.places (suc l.place) (numbers (drop l.place l.members)) ≡ objects_written l.store l.places 1 (numbers l.members)
