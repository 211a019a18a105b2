-- The extents of a run of a program: one for each model, in the order of the header, and after them that of the instances of
-- intermediate classes (QVT 1.3, 8.2.1.5 and 8.2.1.1).
use Rattle.std.specs.Prelude.{ℕ, ◌+◌, ◌-◌, true, List, [], ◌∷◌, ◌++◌, length, slice_index_or}
use Rattle.qvt_slots.specs.declared.extent.Extent.{Extent}
use Rattle.qvt_types_paths.specs.Models.{nowhere_row}
use Rattle.qvt_types_paths.specs.declared.models.ModelRow.{ModelRow}
use Rattle.qvt_types_heads.specs.Accepts.{ProgramTerm}
use Rattle.qvt_types_program.specs.Known.{known}

abbrev pub row_at : List ModelRow → ℕ → ModelRow
row_at rows i = slice_index_or rows i nowhere_row

-- a model may be changed unless its direction is `in`
abbrev pub model_extent : List ℕ → ModelRow → Extent
model_extent name r = record { name = name; metamodel = known r.metamodel; writable = r.written }

abbrev pub extents_from : List ModelRow → ℕ → List (List ℕ) → List Extent
extents_from rows i [] = []
extents_from rows i (name ∷ names) = model_extent name (row_at rows i) ∷ extents_from rows (i + 1) names

-- it has no name, and the last of the metamodels
abbrev pub intermediate_extent : ℕ → Extent
intermediate_extent count = record { name = []; metamodel = count - 1; writable = true }

abbrev pub extents : ProgramTerm → List Extent
extents p = extents_from p.heads.models.rows 0 p.heads.models.names ++ intermediate_extent (length p.heads.metas.metamodels) ∷ []
