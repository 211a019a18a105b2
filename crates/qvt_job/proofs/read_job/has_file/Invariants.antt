use Rattle.std.proofs.Common.{◌≡◌, drop, map}
use Rattle.std.specs.List.{list_any}
use Rattle.std.specs.Str.{bytes_eq}
use Rattle.qvt_job.proofs.read_job.has_file.Given as goal

abbrev pub invariant-loop-model : goal.invariant-loop-model
invariant-loop-model l = list_any (bytes_eq l.file) (map (λ o. o.file) (drop l.model-index l.models)) ≡ list_any (bytes_eq l.file) (map (λ o. o.file) l.models)
