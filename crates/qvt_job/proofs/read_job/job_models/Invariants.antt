use Rattle.std.proofs.Common.{◌≡◌, ◌++◌, drop}
use Rattle.serde_json.specs.View.{items_view}
use Rattle.qvt_json.specs.Json.{map_items}
use Rattle.qvt_job.specs.Job.{job_model_in}
use Rattle.qvt_job.proofs.read_job.job_models.Given as goal

abbrev pub invariant-loop-item : goal.invariant-loop-item
invariant-loop-item l = l.models ++ map_items job_model_in (items_view (drop l.item-index l.item-items)) ≡ map_items job_model_in (items_view l.item-items)
