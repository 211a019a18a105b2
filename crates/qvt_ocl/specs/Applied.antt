-- What `apply` answers of what an operation gives: that, or TypeFault exactly where it gives nothing.
use Rattle.std.specs.Prelude.{◌≡◌, ⊤, Option, Some, None, Result, Ok, Err}
use Rattle.qvt_value.specs.declared.value.Value.{Value}
use Rattle.qvt_ocl.specs.declared.fault.OclFault.{OclFault}
use Rattle.qvt_ocl.specs.declared.fault.OclFault.TheVariants.{NoMemory, TypeFault}

abbrev pub IsApplied : Option Value → Result Value OclFault → Type 0
IsApplied o (Ok w) = o ≡ Some w
IsApplied o (Err NoMemory) = ⊤
IsApplied o (Err TypeFault) = o ≡ None
