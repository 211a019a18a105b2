use Rattle.std.proofs.Common.{◌≡◌, take, map}
use Rattle.std.specs.Prelude.{filter}
use Rattle.qvt_value.specs.declared.value.Value.{Obj}
use Rattle.qvt_exec_reads.specs.Asked.{is_asked}
use Rattle.qvt_exec_reads.proofs.models.asked_of.Given as goal

abbrev pub invariant-loop-object : goal.invariant-loop-object
invariant-loop-object l = l.objects ≡ map Obj (filter (is_asked l.store l.query) (take l.object-index l.members))
