-- Which notes are those of expressions with a type (OCL 2.4, 7.4: every expression has a type).
use Rattle.std.specs.Prelude.{◌||◌, not, Bool, true, false, is_some}
use Rattle.qvt_types_data.specs.declared.note.Note.{Note}
use Rattle.qvt_types_data.specs.declared.note.Reading.{Reading}
use Rattle.qvt_types_data.specs.declared.note.Reading.TheVariants as reading

-- a model is the source of its operations, and is no value
abbrev pub is_model : Reading → Bool
is_model (reading.Model i) = true
is_model r = false

-- a note with a number is that of an expression
abbrev pub is_typed_note : Note → Bool
is_typed_note n = not (is_some n.number) || (is_some n.answer || is_model n.reading)
