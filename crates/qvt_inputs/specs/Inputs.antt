-- The input models of a run, read in the order of the job and loaded one after the other, each into the extent of the model
-- parameter that it is for (QVT 1.3, 8.2.1.5).
use Rattle.std.specs.Prelude.{◌≡◌, ◌≢◌, ◌<◌, ⊤, ℕ, IsTrue, List, [], ◌∷◌, length, position, unwrap_or, Ok}
use Rattle.std.specs.Str.{bytes_eq}
use Rattle.qvt_store.specs.Contents.{Contents, extent_at, is_extent, members_of}
use Rattle.qvt_model.specs.declared.data.ObjectData.{ObjectData}
use Rattle.qvt_store.specs.Sound.{Sound}
use Rattle.qvt_store.specs.Stay.{StaysIn}
use Rattle.qvt_model.specs.Loaded.{loaded, all_told, TellsAll, TellsNoOther}
use Rattle.qvt_job.specs.declared.job.JobModel.{JobModel}
use Rattle.qvt_outcome.specs.Chain.{Chain, step, ◌>=>◌, folded}
use Rattle.qvt_inputs.specs.Conforming.{model_read}
use Rattle.qvt_inputs.specs.declared.loaded.Loaded.{Loaded}

-- the extent of this name; every input of a job that fits its transformation has one
abbrev pub extent_named : Contents → List ℕ → ℕ
extent_named s name = unwrap_or (position (λ e. bytes_eq name e.name) s.extents) 0

abbrev pub metamodel_of : Contents → ℕ → ℕ
metamodel_of s e = (extent_at s e).metamodel

-- a store into which no input is loaded yet
abbrev pub nothing_loaded : Contents → Loaded
nothing_loaded s = record { store = s; ids = [] }

-- with these objects in extent e, and the ids that they have in their file
unfoldable pub with_input : Loaded → ℕ → List ObjectData → Loaded
with_input l e os = record { store = loaded l.store e os; ids = all_told (length l.store.objects) os l.ids }

-- reads an input, and loads it
unfoldable pub input_read : Loaded → JobModel → Chain Loaded
input_read l input =
    model_read l.store.metas (metamodel_of l.store (extent_named l.store input.model)) (length l.store.objects) input.file
    >=> (λ os. step (Ok (with_input l (extent_named l.store input.model) os)))

-- reads the inputs, in order
unfoldable pub inputs_read : Contents → List JobModel → Chain Loaded
inputs_read s inputs = folded input_read (nothing_loaded s) inputs

-- the extent of the input is there and has no objects, and its metamodel is there
pub record HasExtent (s : Contents) (input : JobModel) : Type 0 where
  pub there : IsTrue (is_extent s (extent_named s input.model))
  pub empty : members_of s (extent_named s input.model) ≡ []
  pub metamodel : metamodel_of s (extent_named s input.model) < length s.metas.metamodels

-- none of the inputs is for extent e
abbrev pub AreElsewhere : Contents → ℕ → List JobModel → Type 0
AreElsewhere s e [] = ⊤
AreElsewhere s e (input ∷ inputs) = (extent_named s input.model ≢ e) × AreElsewhere s e inputs

-- each of the inputs has an extent of its own
abbrev pub HaveExtents : Contents → List JobModel → Type 0
HaveExtents s [] = ⊤
HaveExtents s (input ∷ inputs) = HasExtent s input × AreElsewhere s (extent_named s input.model) inputs × HaveExtents s inputs

-- what stands once inputs are loaded into store s
pub record IsLoaded (s : Contents) (l : Loaded) : Type 0 where
  pub sound : Sound l.store
  pub stays : StaysIn s l.store
  -- the table tells an id of each object, and of no other
  pub told : TellsAll l.store l.ids
  pub no_other : TellsNoOther l.store l.ids
