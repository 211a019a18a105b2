-- The metamodels of files, in order: each has a name that none before it has.
use Rattle.std.specs.Prelude.{ℕ, List, [], None, Result, Ok, Err, if◌then◌else◌}
use Rattle.qvt_results.specs.Bind.{◌>>=◌}
use Rattle.qvt_metamodel.specs.Metamodels.{Metamodels}
use Rattle.qvt_metamodel.specs.Added.{added}
use Rattle.qvt_metamodel.specs.Named.{has_metamodel}
use Rattle.qvt_metamodel.specs.declared.declared.MetaData.{MetaData}
use Rattle.qvt_metamodel.specs.declared.fault.MetasFault.{MetasFault}
use Rattle.qvt_metamodel.specs.declared.fault.MetasFault.TheVariants.{SameMetamodel}
use Rattle.qvt_meta.specs.MetaOf.{meta_of}
use Rattle.qvt_outcome.specs.Outcome.{Outcome}
use Rattle.qvt_outcome.specs.Steps.{or_refused}
use Rattle.qvt_outcome.specs.Chain.{Chain, step, folded, ◌>=>◌, read_step}
use Rattle.qvt_outcome.specs.declared.refusal.Refusal.TheVariants as refusal

abbrev pub no_metamodels : Metamodels
no_metamodels = record { metamodels = []; classes = []; features = []; element = None }

-- one more, unless a metamodel of its name is there
abbrev pub with_metamodel : Metamodels → MetaData → Result Metamodels MetasFault
with_metamodel m d = if has_metamodel m d.name then Err (SameMetamodel d.name) else Ok (added m d)

-- with the metamodel of a file's bytes
unfoldable pub metas_in : Metamodels → List ℕ → List ℕ → Result Metamodels Outcome
metas_in m name bytes = or_refused refusal.Metamodel name (meta_of bytes) >>= (λ d. or_refused refusal.Metamodels name (with_metamodel m d))

-- reads a metamodel
unfoldable pub metamodel_read : Metamodels → List ℕ → Chain Metamodels
metamodel_read m name = read_step name 1048576 >=> (λ bytes. step (metas_in m name bytes))

-- reads the metamodels of these files, in order
unfoldable pub metamodels_read : List (List ℕ) → Chain Metamodels
metamodels_read names = folded metamodel_read no_metamodels names
