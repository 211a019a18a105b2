-- What is answered for a refusal.
use Rattle.std.specs.Prelude.{Result, Ok, Err}
use Rattle.qvt_base.specs.declared.numbers.Place.{Place}
use Rattle.qvt_types_data.specs.declared.refusal.TypingRefusal.{TypingRefusal}
use Rattle.qvt_types_data.specs.declared.refusal.RefusalKind.{RefusalKind}
use Rattle.qvt_types_data.specs.declared.refusal.RefusalKind.TheVariants as refusal
use Rattle.qvt_types_program.specs.Accepts.{ProgramTerm}
use Rattle.qvt_types.specs.declared.fault.TypingFault.{TypingFault}
use Rattle.qvt_types.specs.declared.fault.TypingFault.TheVariants as fault

abbrev pub fault_at : RefusalKind → Place → TypingFault
fault_at refusal.UnknownMetamodel at = fault.UnknownMetamodel at
fault_at refusal.UnknownName at = fault.UnknownName at
fault_at refusal.UnknownType at = fault.UnknownType at
fault_at refusal.SameName at = fault.SameName at
fault_at refusal.Ambiguous at = fault.Ambiguous at
fault_at refusal.WrongType at = fault.WrongType at
fault_at refusal.WrongCount at = fault.WrongCount at
fault_at refusal.NotPure at = fault.NotPure at
fault_at refusal.LatePlace at = fault.LatePlace at
fault_at refusal.NotPlain at = fault.NotPlain at
fault_at refusal.ReuseCycle at = fault.ReuseCycle at
fault_at refusal.BadReuse at = fault.BadReuse at
fault_at refusal.BadOverride at = fault.BadOverride at
fault_at refusal.BadContext at = fault.BadContext at
fault_at refusal.BadTarget at = fault.BadTarget at
fault_at refusal.BadReturn at = fault.BadReturn at
fault_at refusal.BadExtent at = fault.BadExtent at
fault_at refusal.AbstractClass at = fault.AbstractClass at
fault_at refusal.ResultPlace at = fault.ResultPlace at
fault_at refusal.BadDisjunct at = fault.BadDisjunct at
fault_at refusal.ModelUse at = fault.ModelUse at
fault_at refusal.NoMain at = fault.NoMain at

abbrev pub fault_of : TypingRefusal → TypingFault
fault_of r = fault_at r.kind r.place

-- a refusal as it is answered
abbrev pub answered : Result ProgramTerm TypingRefusal → Result ProgramTerm TypingFault
answered (Ok p) = Ok p
answered (Err r) = Err (fault_of r)
