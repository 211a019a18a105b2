-- A result without a value, as the fault that it is.
use Rattle.std.specs.Prelude.{◌≡◌, ◌≢◌, Result, Ok, Err, Option, Some, None}

abbrev pub err_of : {A F : Type 0} → Result A F → Option F
err_of (Ok x) = None
err_of (Err e) = Some e

-- the fault is the one that is stated, but for want of memory, which is free
abbrev pub TellsFault : {A F : Type 0} → F → Result A F → Option F → Type 0
TellsFault free (Ok x) stated = stated ≡ None
TellsFault free (Err e) stated = e ≢ free → stated ≡ Some e
