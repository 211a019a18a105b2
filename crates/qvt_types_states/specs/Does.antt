-- What a call that judges gives: what the definition gives, and its state. Only memory may be wanting.
use Rattle.std.specs.Prelude.{◌≡◌, Result, Ok, Err}
use Rattle.qvt_base.specs.declared.list_fault.ListFault.{ListFault}
use Rattle.qvt_types_states.specs.declared.state.TypingState.{TypingState}

abbrev pub GivesAndLeaves : {A : Type 0} → A × TypingState → Result A ListFault → TypingState → Type 0
GivesAndLeaves meant (Ok a) new = meant ≡ (a, new)
GivesAndLeaves meant (Err e) new = Unit {0}
