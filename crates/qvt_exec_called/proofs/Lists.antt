-- A mapping with candidates is a dispatcher.
use Rattle.std.proofs.Common.{◌≡◌, ◌≤◌, ℕ, List, [], ◌∷◌, length, Option, refl, arith}
use Rattle.qvt_base.specs.declared.numbers.Oid.{Oid}
use Rattle.qvt_base.specs.declared.numbers.Place.{Place}
use Rattle.qvt_value.specs.declared.value.Value.{Value}
use Rattle.qvt_run_data.specs.declared.late.LateWrite.{LateWrite}
use Rattle.qvt_run_data.specs.declared.local.Local.{Local}
use Rattle.qvt_run_rules.specs.Calls.{CallRule}
use Rattle.qvt_run_rules.specs.Mappings as rule
use Rattle.qvt_run_rules.specs.Mappings.{MappingRule}

pub dispatched : (mappings : ℕ → Option (MappingRule LateWrite)) (calls : CallRule LateWrite) (ns : List ℕ) (m : MappingRule LateWrite) (o : Option Oid) (vs : List Value) (ls : List Local) (at : Place)
    → 1 ≤ length ns → rule.chosen_by mappings calls ns m o vs ls at ≡ rule.dispatch mappings calls ns o vs at
dispatched mappings calls [] m o vs ls at some = absurd (omega (arith, some))
dispatched mappings calls (n ∷ ns) m o vs ls at some = refl
