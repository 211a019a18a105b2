use Rattle.std.proofs.Common.{◌≡◌, [], drop, take, map}
use Rattle.qvt_json.specs.Repeated.{repeated}
use Rattle.qvt_job.proofs.read_job.repeated_file.Given as goal

abbrev pub invariant-loop-i : goal.invariant-loop-i
invariant-loop-i l = repeated (map (λ o. o.file) (take l.i l.outputs)) (map (λ o. o.file) (drop l.i l.outputs)) ≡ repeated [] (map (λ o. o.file) l.outputs)
