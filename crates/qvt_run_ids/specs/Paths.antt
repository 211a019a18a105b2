-- An object by the name of its model and its id.
use Rattle.std.specs.Prelude.{ℕ, List, ◌++◌, codes, Option}
use Rattle.qvt_store.specs.Contents.{Contents, extent_at, extent_of}
use Rattle.qvt_model.specs.RunIds.{run_id}

abbrev pub model_name : Contents → ℕ → List ℕ
model_name s x = (extent_at s (extent_of s x)).name

abbrev pub object_path : Contents → List (Option (List ℕ)) → ℕ → List ℕ
object_path s ids x = model_name s x ++ (codes ":" ++ run_id s ids x)
