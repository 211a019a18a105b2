-- A helper, query or constructor that is found by its number.
use Rattle.std.proofs.Common.{◌≡◌, ◌∙◌, ap, ℕ, Option, option_map}
use Rattle.qvt_types_nodes.specs.Module.{TypedUnitTerm}
use Rattle.qvt_types_units.specs.declared.signature.Signature.{Signature}
use Rattle.qvt_typing.specs.Accepts.{ProgramTerm}
use Rattle.qvt_run_data.specs.declared.late.LateWrite.{LateWrite}
use Rattle.qvt_run_rules.specs.Calls.{CallRule}
use Rattle.qvt_meaning.specs.Program.{signature_of, unit_term}
use Rattle.qvt_meaning.specs.Readings.{Setting}
use Rattle.qvt_meaning.specs.Units as of_units
use Rattle.qvt_meaning.specs.Units.{routine_at}
use Rattle.qvt_exec_called.specs.Routines.{routine_in}
use Rattle.qvt_exec_called.specs.declared.routine_at.RoutineUnit.{RoutineUnit}

pub found : (x : Setting LateWrite) (calls : CallRule LateWrite) (n : ℕ) (p : ProgramTerm) (u : Signature) (t : Option TypedUnitTerm) (r : Option RoutineUnit)
    → p ≡ x.program → u ≡ signature_of p n → t ≡ unit_term p n
    → option_map (routine_in x calls) r ≡ of_units.routine_in x calls u t → option_map (routine_in x calls) r ≡ routine_at x calls n
unfolding routine_at
found x calls n p u t r same head text given =
    given
    ∙ ap (λ (v : Signature). of_units.routine_in x calls v t) (head ∙ ap (λ (q : ProgramTerm). signature_of q n) same)
    ∙ ap (λ (v : Option TypedUnitTerm). of_units.routine_in x calls (signature_of x.program n) v) (text ∙ ap (λ (q : ProgramTerm). unit_term q n) same)
