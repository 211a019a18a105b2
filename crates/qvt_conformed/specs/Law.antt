-- A model without a fault can be loaded.
use Rattle.std.specs.Prelude.{◌≡◌, ℕ, List, None}
use Rattle.qvt_metamodel.specs.Metamodels.{Metamodels}
use Rattle.qvt_model.specs.declared.data.ObjectData.{ObjectData}
use Rattle.qvt_model.specs.WellFormed.{IsModel}
use Rattle.qvt_conform.specs.Conformance.{conform_fault}
use Rattle.qvt_model.specs.Conforming.{Conforms}

-- data that have no fault against their metamodel conform in the terms of a store
abbrev pub FaultlessConforms : Type 0
FaultlessConforms = (m : Metamodels) (k : ℕ) (os : List ObjectData) → IsModel m k os → conform_fault m os ≡ None → Conforms m os
