-- What records are looked up by (QVT 1.3, 8.1.12): their keys, and their ends.
use Rattle.std.specs.Prelude.{Bool, List, Option, Some}
use Rattle.qvt_base.specs.declared.numbers.MappingNo.{MappingNo}
use Rattle.qvt_base.specs.declared.numbers.Oid.{Oid}
use Rattle.qvt_value.specs.declared.value.Value.{Value}
use Rattle.qvt_run_rules.specs.declared.record.Record.{Record}
use Rattle.qvt_run_rules.specs.Trace.{key_of, same_end, same_key}

-- the record is of a call of this mapping, on this context, with these arguments
abbrev pub is_of : MappingNo → Option Oid → List Value → Record → Bool
is_of m c args r = same_key (key_of r) (record { mapping = m; context = c; args = args })

abbrev pub has_context : Oid → Record → Bool
has_context o r = same_end r.context (Some o)

abbrev pub has_result : Oid → Record → Bool
has_result o r = same_end r.result (Some o)
