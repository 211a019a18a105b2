-- The parameters of a transformation that are models (QVT 1.3, 8.2.1.5), and the extents in which objects are made: one for each
-- parameter, in order, and after them that of the instances of intermediate classes.
use Rattle.std.specs.Prelude.{ℕ, ◌==◌, ◌&&◌, Bool, true, false, List, [], ◌∷◌, ◌++◌, map, length, position, Option, Some, None, is_some, not, if◌then◌else◌, slice_index_or}
use Rattle.std.specs.List.{range_with_len}
use Rattle.std.specs.Str.{bytes_eq}
use Rattle.qvt_meta_names.specs.Names.{is_among}
use Rattle.qvt_tree_types.specs.declared.module.ModelParam.{ModelParam}
use Rattle.qvt_tree_types.specs.declared.words.Direction.{Direction}
use Rattle.qvt_tree_types.specs.declared.words.Direction.TheVariants.{Input, Output, Both}
use Rattle.qvt_types_data.specs.declared.refusal.TypingRefusal.{TypingRefusal}
use Rattle.qvt_types_data.specs.declared.refusal.RefusalKind.TheVariants.{UnknownName, SameName}
use Rattle.qvt_types_paths.specs.declared.models.ModelRow.{ModelRow}
use Rattle.qvt_types_paths.specs.declared.models.Models.{Models}
use Rattle.qvt_types_paths.specs.ModelTypes.{NamedTypes, model_type_metamodel}
use Rattle.qvt_types_paths.specs.Told.{told_if}

-- no model type has the name; an earlier parameter has this one's
unfoldable pub model_told : NamedTypes → List (List ℕ) → ModelParam → List TypingRefusal
model_told t earlier p = told_if (not (is_some (position (bytes_eq p.model_type) t.model_types))) UnknownName p.place ++ told_if (is_among p.name earlier) SameName p.place

abbrev pub models_told : NamedTypes → List (List ℕ) → List ModelParam → List TypingRefusal
models_told t earlier [] = []
models_told t earlier (p ∷ ps) = model_told t earlier p ++ models_told t (earlier ++ p.name ∷ []) ps

-- models of this direction are written
abbrev pub is_written : Direction → Bool
is_written Input = false
is_written Output = true
is_written Both = true

abbrev pub model_row : NamedTypes → ModelParam → ModelRow
model_row t p = record { written = is_written p.direction; metamodel = model_type_metamodel t p.model_type }

abbrev pub is_number : Option ℕ → ℕ → Bool
is_number None k = false
is_number (Some j) k = j == k

-- objects of classes of metamodel k can be made in the extent of the parameter
abbrev pub takes : ℕ → ModelRow → Bool
takes k r = r.written && is_number r.metamodel k

-- the first extent in which objects of metamodel k can be made
abbrev pub first_extent : List ModelRow → ℕ → Option ℕ
first_extent rows k = position (takes k) rows

-- of a job with this many metamodels
unfoldable pub models : NamedTypes → ℕ → List ModelParam → Models
models t count ps = record {
  names = map (λ p. p.name) ps;
  rows = map (model_row t) ps;
  firsts = map (first_extent (map (model_row t) ps)) (range_with_len 0 count);
}

abbrev pub nowhere_row : ModelRow
nowhere_row = record { written = false; metamodel = None }

abbrev pub row_extent : List ModelRow → ℕ → Option ℕ → Option ℕ
row_extent rows k None = None
row_extent rows k (Some i) = if takes k (slice_index_or rows i nowhere_row) then Some i else None

-- the extent in which an object of a class of metamodel k is made, where a name may stand after `@`: None is BadExtent. Metamodel
-- `last` is that of the intermediate classes and of Element.
abbrev pub extent : Models → ℕ → Option (List ℕ) → ℕ → Option ℕ
extent s last (Some name) k = if k == last then None else row_extent s.rows k (position (bytes_eq name) s.names)
extent s last None k = if k == last then Some (length s.names) else slice_index_or s.firsts k None
