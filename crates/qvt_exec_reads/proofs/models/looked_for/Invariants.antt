use Rattle.std.proofs.Common.{◌≡◌, take}
use Rattle.qvt_store.specs.Contents.{members_from}
use Rattle.qvt_exec_reads.proofs.models.looked_for.Given as goal

abbrev pub invariant-loop-number : goal.invariant-loop-number
invariant-loop-number l = l.members ≡ members_from 0 (take l.number l.store.objects) l.extent
