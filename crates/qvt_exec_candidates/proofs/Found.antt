-- A mapping that is found by its number.
use Rattle.std.proofs.Common.{◌≡◌, ◌∙◌, ap, ℕ, Option, Some, option_map}
use Rattle.qvt_types_nodes.specs.Module.{TypedUnitTerm}
use Rattle.qvt_types_units.specs.declared.signature.Signature.{Signature}
use Rattle.qvt_typing.specs.Accepts.{ProgramTerm}
use Rattle.qvt_run_data.specs.declared.late.LateWrite.{LateWrite}
use Rattle.qvt_run_rules.specs.Calls.{CallRule}
use Rattle.qvt_meaning.specs.Program.{mapping_unit, signature_of, unit_term}
use Rattle.qvt_meaning.specs.Readings.{Setting}
use Rattle.qvt_meaning.specs.Units.{mapping_at, mapping_in, mapping_of}
use Rattle.qvt_exec_candidates.specs.Stage.{rule_in}
use Rattle.qvt_exec_candidates.specs.declared.mapping.MappingUnit.{MappingUnit}

pub found : (x : Setting LateWrite) (calls : CallRule LateWrite) (k n : ℕ) (p : ProgramTerm) (u : Signature) (t : Option TypedUnitTerm) (r : Option MappingUnit)
    → p ≡ x.program → Some n ≡ mapping_unit p k → u ≡ signature_of p n → t ≡ unit_term p n
    → option_map (rule_in x calls) r ≡ mapping_in x calls k u t → option_map (rule_in x calls) r ≡ mapping_at x calls k
unfolding mapping_at
found x calls k n p u t r same is head text given =
    given
    ∙ ap (λ (v : Signature). mapping_in x calls k v t) (head ∙ ap (λ (q : ProgramTerm). signature_of q n) same)
    ∙ ap (λ (v : Option TypedUnitTerm). mapping_in x calls k (signature_of x.program n) v) (text ∙ ap (λ (q : ProgramTerm). unit_term q n) same)
    ∙ ap (λ (v : Option ℕ). mapping_of x calls k v) (is ∙ ap (λ (q : ProgramTerm). mapping_unit q k) same)
