-- The text of a transformation, read: it is UTF-8, and it has a tree.
use Rattle.std.specs.Prelude.{ℕ, List, Result, Err, if◌then◌else◌}
use Rattle.std.specs.Str.{is_utf8}
use Rattle.qvt_tree_types.specs.Module.{ModuleTerm}
use Rattle.qvt_parsed.specs.Parsed.{parsed}
use Rattle.qvt_outcome.specs.Outcome.{Outcome, refused}
use Rattle.qvt_outcome.specs.Steps.{or_refused}
use Rattle.qvt_outcome.specs.declared.refusal.Refusal.TheVariants as refusal

-- the tree of a file's bytes
unfoldable pub tree_in : List ℕ → List ℕ → Result ModuleTerm Outcome
tree_in name bytes = if is_utf8 bytes then or_refused refusal.Parse name (parsed bytes) else Err (refused name refusal.Utf8)
