-- Which names behind an arrow are operations (OCL 2.4, 11.3 to 11.9).
use Rattle.std.specs.Prelude.{ℕ, if◌then◌else◌, List, Option, Some, None}
use Rattle.qvt_ocl_words.specs.declared.op.Op.{Op}
use Rattle.qvt_types_steps.specs.Classes.{is_selection}
use Rattle.qvt_types_steps.specs.IteratorTable.{iterator_named}
use Rattle.qvt_types_steps.specs.OperationNames.{operation_named}
use Rattle.qvt_types_steps.specs.declared.iterators.IteratorKind.{IteratorKind}

abbrev pub unless_iterator : Option IteratorKind → Option Op → Option Op
unless_iterator None o = o
unless_iterator (Some i) o = None

-- the operation that a name is: it is no selection and no iterator
abbrev pub operation_alone : List ℕ → Option Op
operation_alone name = if is_selection name then None else unless_iterator (iterator_named name) (operation_named name)
