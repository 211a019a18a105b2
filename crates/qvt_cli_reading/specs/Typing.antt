-- The refusal that a fault of typing tells.
use Rattle.std.specs.Prelude.{Option, Some, None}
use Rattle.qvt_types_data.specs.declared.refusal.TypingRefusal.{TypingRefusal}
use Rattle.qvt_types_data.specs.declared.refusal.RefusalKind.TheVariants as kind
use Rattle.qvt_types.specs.declared.fault.TypingFault.{TypingFault}
use Rattle.qvt_types.specs.declared.fault.TypingFault.TheVariants as fault

-- none where there was no memory
abbrev pub refusal_in : TypingFault → Option TypingRefusal
refusal_in fault.NoMemory = None
refusal_in (fault.UnknownMetamodel place) = Some (record { kind = kind.UnknownMetamodel; place = place })
refusal_in (fault.UnknownName place) = Some (record { kind = kind.UnknownName; place = place })
refusal_in (fault.UnknownType place) = Some (record { kind = kind.UnknownType; place = place })
refusal_in (fault.SameName place) = Some (record { kind = kind.SameName; place = place })
refusal_in (fault.Ambiguous place) = Some (record { kind = kind.Ambiguous; place = place })
refusal_in (fault.WrongType place) = Some (record { kind = kind.WrongType; place = place })
refusal_in (fault.WrongCount place) = Some (record { kind = kind.WrongCount; place = place })
refusal_in (fault.NotPure place) = Some (record { kind = kind.NotPure; place = place })
refusal_in (fault.LatePlace place) = Some (record { kind = kind.LatePlace; place = place })
refusal_in (fault.NotPlain place) = Some (record { kind = kind.NotPlain; place = place })
refusal_in (fault.ReuseCycle place) = Some (record { kind = kind.ReuseCycle; place = place })
refusal_in (fault.BadReuse place) = Some (record { kind = kind.BadReuse; place = place })
refusal_in (fault.BadOverride place) = Some (record { kind = kind.BadOverride; place = place })
refusal_in (fault.BadContext place) = Some (record { kind = kind.BadContext; place = place })
refusal_in (fault.BadTarget place) = Some (record { kind = kind.BadTarget; place = place })
refusal_in (fault.BadReturn place) = Some (record { kind = kind.BadReturn; place = place })
refusal_in (fault.BadExtent place) = Some (record { kind = kind.BadExtent; place = place })
refusal_in (fault.AbstractClass place) = Some (record { kind = kind.AbstractClass; place = place })
refusal_in (fault.ResultPlace place) = Some (record { kind = kind.ResultPlace; place = place })
refusal_in (fault.BadDisjunct place) = Some (record { kind = kind.BadDisjunct; place = place })
refusal_in (fault.ModelUse place) = Some (record { kind = kind.ModelUse; place = place })
refusal_in (fault.NoMain place) = Some (record { kind = kind.NoMain; place = place })
