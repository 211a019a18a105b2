-- When the calls of a store are refused.
use Rattle.std.specs.Prelude.{◌≡◌, ℕ}
use Rattle.qvt_slots.specs.Limits.{most_objects}
use Rattle.qvt_slots.specs.declared.fault.StoreFault.{StoreFault}
use Rattle.qvt_slots.specs.declared.fault.StoreFault.TheVariants.{TooManyObjects, NoMemory}

-- an object is refused for want of memory, or where there are as many as a store holds
abbrev pub IsAddFault : ℕ → StoreFault → Type 0
IsAddFault count TooManyObjects = count ≡ most_objects
IsAddFault count NoMemory = Unit {0}
IsAddFault count _ = ⊥
