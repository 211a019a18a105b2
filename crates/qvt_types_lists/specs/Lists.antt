-- What is told of a unit by the lists of mappings.
use Rattle.std.specs.Prelude.{ℕ, Bool, List, [], ◌++◌}
use Rattle.qvt_metamodel.specs.Metamodels.{Metamodels}
use Rattle.qvt_tree_types.specs.Module.{MappingTerm, UnitTerm, ClassOf, MainOf, HelperOf, ConstructorOf, MappingOf}
use Rattle.qvt_types_data.specs.declared.refusal.TypingRefusal.{TypingRefusal}
use Rattle.qvt_types_data.specs.declared.refusal.RefusalKind.TheVariants.{ReuseCycle, BadDisjunct}
use Rattle.qvt_types_paths.specs.ModelTypes.{NamedTypes}
use Rattle.qvt_types_paths.specs.Told.{told_if}
use Rattle.qvt_types_groups.specs.declared.signature.Signature.{Signature}
use Rattle.qvt_types_groups.specs.declared.reuse.Reuse.TheVariants.{Shared, Disjunct}
use Rattle.qvt_types_groups.specs.Reuse.{paths_told, is_bad_disjunct, mapping_told}

-- of mapping u with signature s
abbrev pub told_of_lists : Metamodels → Metamodels → NamedTypes → List Signature → Signature → Bool → MappingTerm → List TypingRefusal
told_of_lists m e t us s on_cycle u =
    paths_told m e t us Shared s u.inherits
    ++ paths_told m e t us Shared s u.merges
    ++ paths_told m e t us Disjunct s u.disjuncts
    ++ told_if on_cycle ReuseCycle u.place
    ++ told_if (is_bad_disjunct u) BadDisjunct u.place

abbrev pub unit_told : Metamodels → Metamodels → NamedTypes → List Signature → List (List ℕ) → ℕ → UnitTerm → List TypingRefusal
unit_told m e t us lists n (MappingOf u) = mapping_told m e t us lists n u
unit_told m e t us lists n (ClassOf c) = []
unit_told m e t us lists n (MainOf body at) = []
unit_told m e t us lists n (HelperOf h) = []
unit_told m e t us lists n (ConstructorOf h) = []
