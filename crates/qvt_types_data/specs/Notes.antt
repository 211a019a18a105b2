-- The notes of nodes, by how they are read.
use Rattle.std.specs.Prelude.{Bool, true, false, Option, Some, None}
use Rattle.qvt_base.specs.declared.numbers.ExprNo.{ExprNo}
use Rattle.qvt_types_data.specs.declared.ty.Ty.{Ty}
use Rattle.qvt_types_data.specs.declared.note.Reading.{Reading}
use Rattle.qvt_types_data.specs.declared.note.Reading.TheVariants.{Nothing}
use Rattle.qvt_types_data.specs.declared.note.Note.{Note}
use Rattle.qvt_types_data.specs.declared.refusal.RefusalKind.{RefusalKind}
use Rattle.qvt_types_data.specs.declared.ruling.Read.{Read}
use Rattle.qvt_types_data.specs.declared.ruling.Ruling.{Ruling}
use Rattle.qvt_types_data.specs.declared.ruling.Ruling.TheVariants.{Holds, Fails, Silent}

-- a reading without an implicit source, a wrap or an implicit collect
abbrev pub plain : Reading → Option Ty → Read
plain reading answer = record { reading = reading; source = None; wrap = false; collect = false; answer = answer }

-- the same, with or without a wrap
abbrev pub wrapped : Bool → Read → Read
wrapped w r = record { reading = r.reading; source = r.source; wrap = w; collect = r.collect; answer = r.answer }

-- the same for each item of a collection, with the type of all answers
abbrev pub for_each_item : Option Ty → Read → Read
for_each_item all r = record { reading = r.reading; source = r.source; wrap = r.wrap; collect = true; answer = all }

-- the same of a ruling, where it holds
abbrev pub ruled_wrapped : Bool → Ruling → Ruling
ruled_wrapped w (Holds r) = Holds (wrapped w r)
ruled_wrapped w (Fails k) = Fails k
ruled_wrapped w Silent = Silent

abbrev pub ruled_for_each_item : Option Ty → Ruling → Ruling
ruled_for_each_item all (Holds r) = Holds (for_each_item all r)
ruled_for_each_item all (Fails k) = Fails k
ruled_for_each_item all Silent = Silent

-- of an expression
abbrev pub noted : ExprNo → Read → Note
noted n r = record { reading = r.reading; source = r.source; wrap = r.wrap; collect = r.collect; number = Some n; answer = r.answer }

-- of a node that is no expression
abbrev pub marked : Read → Note
marked r = record { reading = r.reading; source = r.source; wrap = r.wrap; collect = r.collect; number = None; answer = None }

-- nothing is written
abbrev pub bare : Note
bare = record { reading = Nothing; source = None; wrap = false; collect = false; number = None; answer = None }

-- nothing is read, and there is no type
abbrev pub unread : Read
unread = plain Nothing None

-- what a ruling tells, if anything, and how the node is read then: one that fails has no type
abbrev pub told : Ruling → Option RefusalKind × Read
told (Holds r) = (None, r)
told (Fails k) = (Some k, unread)
told Silent = (None, unread)
