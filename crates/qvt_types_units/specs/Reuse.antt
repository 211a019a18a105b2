-- The reuse of mappings (QVT 1.3, 8.2.1.15: inherited, merged, disjunct): what a path in one of the lists names, and which mappings
-- may reuse which.
use Rattle.std.specs.Prelude.{ℕ, ◌==◌, ◌&&◌, ◌||◌, not, Bool, true, false, List, [], ◌∷◌, ◌++◌, length, Option, Some, None, Result, Ok, Err, if◌then◌else◌}
use Rattle.std.specs.List.{flat_map}
use Rattle.qvt_base.specs.declared.numbers.ClassNo.{ClassNo}
use Rattle.qvt_base.specs.declared.numbers.Place.{Place}
use Rattle.qvt_types_classes.specs.Successors.{is_on_cycle}
use Rattle.qvt_metamodel.specs.Metamodels.{Metamodels}
use Rattle.qvt_metamodel.specs.Descends.{descends}
use Rattle.qvt_tree_types.specs.Tree.{StmtTerms, NoStmts, MoreStmts}
use Rattle.qvt_tree_types.specs.Module.{MappingTerm, UnitTerm, ClassOf, MainOf, HelperOf, ConstructorOf, MappingOf}
use Rattle.qvt_tree_types.specs.declared.types.PathTree.{PathTree}
use Rattle.qvt_types_data.specs.declared.refusal.TypingRefusal.{TypingRefusal}
use Rattle.qvt_types_data.specs.declared.refusal.RefusalKind.{RefusalKind}
use Rattle.qvt_types_data.specs.declared.refusal.RefusalKind.TheVariants.{UnknownName, BadReuse, BadDisjunct, ReuseCycle}
use Rattle.qvt_types_classes.specs.ModelTypes.{NamedTypes}
use Rattle.qvt_types_classes.specs.Paths.{path_class, unless_ambiguous}
use Rattle.qvt_types_classes.specs.Told.{told_if}
use Rattle.qvt_types_units.specs.declared.signature.HeadClass.{HeadClass}
use Rattle.qvt_types_units.specs.declared.signature.HeadClass.TheVariants.{Missing, Unknown, Known}
use Rattle.qvt_types_units.specs.declared.signature.Signature.{Signature}
use Rattle.qvt_types_units.specs.declared.reuse.Reuse.{Reuse}
use Rattle.qvt_types_units.specs.declared.reuse.Reuse.TheVariants.{Shared, Disjunct}
use Rattle.qvt_types_units.specs.Signatures.{front_of, last_of}
use Rattle.qvt_types_units.specs.Numbers.{unit_at, free_unit, mapping_named}
use Rattle.qvt_types_units.specs.Overrides.{params_differ}

abbrev pub or_unknown : Option ℕ → Result ℕ RefusalKind
or_unknown None = Err UnknownName
or_unknown (Some n) = Ok n

abbrev pub mapping_of : List Signature → List ℕ → Result ClassNo RefusalKind → Result ℕ RefusalKind
mapping_of us name (Ok c) = or_unknown (mapping_named c.0 name us)
mapping_of us name (Err kind) = Err (unless_ambiguous kind)

abbrev pub mapping_under : Metamodels → NamedTypes → List Signature → List ℕ → List (List ℕ) → Result ℕ RefusalKind
mapping_under m t us name front = if length front == 0 then or_unknown (free_unit true name us) else mapping_of us name (path_class m t front)

-- the unit that a path in a list or in a resolve names: the mapping of exactly this context and name
unfoldable pub listed : Metamodels → NamedTypes → List Signature → List (List ℕ) → Result ℕ RefusalKind
listed m t us path = mapping_under m t us (last_of path) (front_of path)

-- a class conforms to the one that stands in the head of a reused mapping, if one stands there
abbrev pub is_loose : Metamodels → HeadClass → HeadClass → Bool
is_loose m h Missing = false
is_loose m h Unknown = false
is_loose m Missing (Known d) = true
is_loose m Unknown (Known d) = false
is_loose m (Known c) (Known d) = not (descends m c.0 d.0)

-- neither context is below the other, or one alone is there
abbrev pub are_unrelated : Metamodels → HeadClass → HeadClass → Bool
are_unrelated m Missing Missing = false
are_unrelated m Unknown _ = false
are_unrelated m _ Unknown = false
are_unrelated m Missing (Known d) = true
are_unrelated m (Known c) Missing = true
are_unrelated m (Known c) (Known d) = not (descends m c.0 d.0 || descends m d.0 c.0)

-- a result conforms to another; none conforms to none alone
abbrev pub is_other_result : Metamodels → HeadClass → HeadClass → Bool
is_other_result m Missing Missing = false
is_other_result m Unknown _ = false
is_other_result m _ Unknown = false
is_other_result m Missing (Known d) = true
is_other_result m (Known c) Missing = true
is_other_result m (Known c) (Known d) = not (descends m c.0 d.0)

abbrev pub is_bad : Metamodels → Reuse → Signature → Signature → Bool
is_bad m Shared u v = is_loose m u.context v.context || is_loose m u.result v.result
is_bad m Disjunct u v = are_unrelated m u.context v.context || is_other_result m v.result u.result

-- mapping u may not reuse mapping v
unfoldable pub is_bad_reuse : Metamodels → Reuse → Signature → Signature → Bool
is_bad_reuse m r u v = params_differ u.params v.params || is_bad m r u v

abbrev pub reuse_of : Metamodels → Reuse → List Signature → Signature → Place → Result ℕ RefusalKind → List TypingRefusal
reuse_of e r us u at (Ok n) = told_if (is_bad_reuse e r u (unit_at us n)) BadReuse at
reuse_of e r us u at (Err kind) = record { kind = kind; place = at } ∷ []

-- of a path in a list of mapping u. Paths are looked up over the metamodels m that are given; e is those with the intermediate classes.
unfoldable pub reuse_told : Metamodels → Metamodels → NamedTypes → List Signature → Reuse → Signature → PathTree → List TypingRefusal
reuse_told m e t us r u path = reuse_of e r us u path.place (listed m t us path.names)

abbrev pub paths_told : Metamodels → Metamodels → NamedTypes → List Signature → Reuse → Signature → List PathTree → List TypingRefusal
paths_told m e t us r u paths = flat_map (reuse_told m e t us r u) paths

abbrev pub is_some_list : {X : Type 0} → List X → Bool
is_some_list [] = false
is_some_list (x ∷ xs) = true

abbrev pub has_stmts : StmtTerms → Bool
has_stmts NoStmts = false
has_stmts (MoreStmts s ss) = true

-- a dispatcher has no statements, and inherits and merges nothing
unfoldable pub is_bad_disjunct : MappingTerm → Bool
is_bad_disjunct u = is_some_list u.disjuncts && (is_some_list u.inherits || is_some_list u.merges || has_stmts u.init || has_stmts u.population || has_stmts u.finish)

abbrev pub numbers_of : Result ℕ RefusalKind → List ℕ
numbers_of (Ok n) = n ∷ []
numbers_of (Err kind) = []

-- the units that the three lists of a mapping name
abbrev pub reused : Metamodels → NamedTypes → List Signature → MappingTerm → List ℕ
reused m t us u = flat_map (λ (path : PathTree). numbers_of (listed m t us path.names)) (u.inherits ++ u.merges ++ u.disjuncts)

abbrev pub unit_reuses : Metamodels → NamedTypes → List Signature → UnitTerm → List ℕ
unit_reuses m t us (MappingOf u) = reused m t us u
unit_reuses m t us (ClassOf c) = []
unit_reuses m t us (MainOf body at) = []
unit_reuses m t us (HelperOf h) = []
unit_reuses m t us (ConstructorOf h) = []

-- of unit n, a mapping that is called so: u; `lists` are what all units reuse
unfoldable pub mapping_told : Metamodels → Metamodels → NamedTypes → List Signature → List (List ℕ) → ℕ → MappingTerm → List TypingRefusal
mapping_told m e t us lists n u =
    paths_told m e t us Shared (unit_at us n) u.inherits
    ++ paths_told m e t us Shared (unit_at us n) u.merges
    ++ paths_told m e t us Disjunct (unit_at us n) u.disjuncts
    ++ told_if (is_on_cycle lists n) ReuseCycle u.place
    ++ told_if (is_bad_disjunct u) BadDisjunct u.place
