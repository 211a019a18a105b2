-- A model of a file, where models with so many objects were read before it: the first refusal of its form, then that there are
-- too many objects, then its first fault against its metamodel (EMOF 12.4 and 12.5).
use Rattle.std.specs.Prelude.{ℕ, ◌+◌, List, length, nat_lt, Option, option_map, Result, Ok, Err, if◌then◌else◌, ⊤}
use Rattle.qvt_results.specs.Bind.{◌>>=◌}
use Rattle.qvt_json.specs.Steps.{none_of}
use Rattle.qvt_metas.specs.Metamodels.{Metamodels}
use Rattle.qvt_store.specs.Limits.{most_objects}
use Rattle.qvt_model.specs.Reading.{model_of}
use Rattle.qvt_model.specs.declared.data.ObjectData.{ObjectData}
use Rattle.qvt_conform.specs.Conformance.{conform_fault}
use Rattle.qvt_conform.specs.declared.fault.ConformFault.{ConformFault}
use Rattle.qvt_outcome.specs.Outcome.{Outcome, refused}
use Rattle.qvt_outcome.specs.Steps.{or_refused}
use Rattle.qvt_outcome.specs.Chain.{Chain, step, ◌>=>◌, read_step}
use Rattle.qvt_outcome.specs.declared.refusal.Refusal.TheVariants as refusal

abbrev pub few_objects : List ℕ → ℕ → Result ⊤ Outcome
few_objects name n = if nat_lt most_objects n then Err (refused name refusal.TooManyObjects) else Ok tt

abbrev pub without_fault : List ℕ → Option ConformFault → Result ⊤ Outcome
without_fault name fault = none_of (option_map (λ why. refused name (refusal.Conform why)) fault)

-- the objects, if there are few enough and they conform
unfoldable pub conforming : Metamodels → ℕ → List ℕ → List ObjectData → Result (List ObjectData) Outcome
conforming m before name os = do
  _ ← few_objects name (before + length os)
  _ ← without_fault name (conform_fault m os)
  Ok os

-- the model of metamodel k that the bytes are
unfoldable pub model_in : Metamodels → ℕ → ℕ → List ℕ → List ℕ → Result (List ObjectData) Outcome
model_in m k before name bytes = or_refused refusal.Model name (model_of m k bytes) >>= conforming m before name

-- reads the model of a file
unfoldable pub model_read : Metamodels → ℕ → ℕ → List ℕ → Chain (List ObjectData)
model_read m k before name = read_step name 16777216 >=> (λ bytes. step (model_in m k before name bytes))
