-- Whether the models of a job are those of a transformation's model parameters (QVT 1.3, 8.2.1.5).
use Rattle.std.specs.Prelude.{ℕ, Bool, true, false, not, ◌==◌, ◌&&◌, List, count_by, find, Option, option_map, if◌then◌else◌}
use Rattle.std.specs.List.{list_any}
use Rattle.std.specs.Str.{bytes_eq}
use Rattle.qvt_json.specs.Steps.{or_next}
use Rattle.qvt_tree_types.specs.declared.words.Direction.{Direction}
use Rattle.qvt_tree_types.specs.declared.words.Direction.TheVariants as direction
use Rattle.qvt_tree_types.specs.declared.module.ModelParam.{ModelParam}
use Rattle.qvt_job.specs.declared.job.JobModel.{JobModel}
use Rattle.qvt_job.specs.declared.job.Job.{Job}

abbrev pub is_read : Direction → Bool
is_read direction.Input = true
is_read direction.Output = false
is_read direction.Both = true

abbrev pub is_written : Direction → Bool
is_written direction.Input = false
is_written direction.Output = true
is_written direction.Both = true

-- how many of these are models for the parameter of this name
abbrev pub times : List ℕ → List JobModel → ℕ
times name models = count_by (λ m. bytes_eq name m.model) models

abbrev pub has_one_if : Bool → List ℕ → List JobModel → Bool
has_one_if is_wanted name models = times name models == (if is_wanted then 1 else 0)

-- a parameter that is read is once among the inputs, else not at all; one that is written once among the outputs, else not at all
unfoldable pub is_served : Job → ModelParam → Bool
is_served job p = has_one_if (is_read p.direction) p.name job.inputs && has_one_if (is_written p.direction) p.name job.outputs

abbrev pub unserved : Job → List ModelParam → Option (List ℕ)
unserved job params = option_map (λ p. p.name) (find (λ p. not (is_served job p)) params)

abbrev pub is_parameter : List ModelParam → List ℕ → Bool
is_parameter params name = list_any (λ p. bytes_eq name p.name) params

abbrev pub stray : List ModelParam → List JobModel → Option (List ℕ)
stray params models = option_map (λ m. m.model) (find (λ m. not (is_parameter params m.model)) models)

-- the first parameter that the job does not serve, else the first model of the job that is for none: its inputs, then its outputs
unfoldable pub mismatch : Job → List ModelParam → Option (List ℕ)
mismatch job params = or_next (unserved job params) (or_next (stray params job.inputs) (stray params job.outputs))
