-- Parts of the steps of a mapping call, as they are taken one after another.
use Rattle.std.specs.Prelude.{ℕ, Bool, List, Option}
use Rattle.qvt_base.specs.declared.numbers.Oid.{Oid}
use Rattle.qvt_base.specs.declared.numbers.Place.{Place}
use Rattle.qvt_value.specs.declared.value.Value.{Value}
use Rattle.qvt_run_data.specs.declared.late.LateWrite.{LateWrite}
use Rattle.qvt_run_data.specs.declared.local.Local.{Local}
use Rattle.qvt_run_data.specs.declared.record.Key.{Key}
use Rattle.qvt_run_rules.specs.Calls.{CallRule}
use Rattle.qvt_run_rules.specs.State.{Does, ◌>>=◌, ◌>>◌, pure, caught}
use Rattle.qvt_run_rules.specs.Mappings as rule
use Rattle.qvt_run_rules.specs.Mappings.{MappingRule}

-- the init section and the result, and the record
abbrev pub first_noted : MappingRule LateWrite → Key → List Local → Does LateWrite rule.BegunCall
first_noted m k ls = rule.first m ls >>= rule.noted k

-- population and end
abbrev pub sections_inside : MappingRule LateWrite → Does LateWrite (Unit {0})
sections_inside m = caught m.population >> (caught m.finish >> pure tt)

-- whether `when` is true over the variables of a call
abbrev pub framed_holds : (ℕ → Option (MappingRule LateWrite)) → CallRule LateWrite → MappingRule LateWrite → Option Oid → List Value → Place → Does LateWrite Bool
framed_holds mappings calls m o vs at = rule.frame_of mappings calls m o vs at >>= rule.when_holds m.when
