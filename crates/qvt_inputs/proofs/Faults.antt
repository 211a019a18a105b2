-- What is stated of a model that is read, where the code ends or goes on.
use Rattle.std.proofs.Common.{◌≡◌, ◌≢◌, ◌∙◌, ap, ℕ, ◌+◌, List, length, true, false, Some, None, Ok, Err}
use Rattle.std.specs.Prelude.{nat_lt, if◌then◌else◌, ⊤}
use Rattle.qvt_results.specs.Bind.{◌>>=◌}
use Rattle.qvt_metas.specs.Metamodels.{Metamodels}
use Rattle.qvt_model.specs.declared.data.ObjectData.{ObjectData}
use Rattle.qvt_model.specs.WellFormed.{IsModel}
use Rattle.qvt_conform.specs.Conformance.{IsSomeModel, conform_fault}
use Rattle.qvt_conform.specs.declared.fault.ConformFault.{ConformFault}
use Rattle.qvt_conform.specs.declared.fault.ConformFault.TheVariants as conform
use Rattle.qvt_outcome.specs.Outcome.{refused}
use Rattle.qvt_outcome.specs.Steps.{Stops, StopsBy}
use Rattle.qvt_outcome.specs.declared.refusal.Refusal.TheVariants as refusal
use Rattle.qvt_outcome.specs.declared.stop.Stop.{Stop}
use Rattle.qvt_outcome.proofs.Refused.{stops_at}
use Rattle.qvt_store.specs.Limits.{most_objects}
use Rattle.qvt_inputs.specs.Conforming.{few_objects, without_fault, conforming}

pub well_formed_of : (m : Metamodels) (k : ℕ) (os : List ObjectData) → IsModel m k os → IsSomeModel m os
well_formed_of m k os h = record { metamodel = k; model = h }

few : (name : List ℕ) (n : ℕ) → nat_lt most_objects n ≡ false → few_objects name n ≡ Ok tt
few name n h = ap (λ b. if b then Err (refused name refusal.TooManyObjects) else Ok tt) h

pub too_many : (m : Metamodels) (before : ℕ) (name : List ℕ) (os : List ObjectData) → nat_lt most_objects (before + length os) ≡ true
    → conforming m before name os ≡ Err (refused name refusal.TooManyObjects)
unfolding conforming
too_many m before name os h = ap (λ b. (if b then Err (refused name refusal.TooManyObjects) else Ok tt) >>= (λ (_ : ⊤). without_fault name (conform_fault m os) >>= (λ (_ : ⊤). Ok os))) h

-- a model that does not conform
pub conform_stops : (m : Metamodels) (before : ℕ) (name : List ℕ) (os : List ObjectData) (why : ConformFault) (e : Stop) → nat_lt most_objects (before + length os) ≡ false
    → StopsBy conform.NoMemory refusal.Conform name why e → (why ≢ conform.NoMemory → conform_fault m os ≡ Some why) → Stops e (conforming m before name os)
unfolding conforming
conform_stops m before name os why e small h is = stops_at conform.NoMemory refusal.Conform name why e _ h
    (λ other. ap (λ r. r >>= (λ (_ : ⊤). without_fault name (conform_fault m os) >>= (λ (_ : ⊤). Ok os))) (few name (before + length os) small)
    ∙ ap (λ fault. without_fault name fault >>= (λ (_ : ⊤). Ok os)) (is other))

pub conform_goes_on : (m : Metamodels) (before : ℕ) (name : List ℕ) (os : List ObjectData) → nat_lt most_objects (before + length os) ≡ false → conform_fault m os ≡ None
    → conforming m before name os ≡ Ok os
unfolding conforming
conform_goes_on m before name os small none =
    ap (λ r. r >>= (λ (_ : ⊤). without_fault name (conform_fault m os) >>= (λ (_ : ⊤). Ok os))) (few name (before + length os) small)
    ∙ ap (λ fault. without_fault name fault >>= (λ (_ : ⊤). Ok os)) none
