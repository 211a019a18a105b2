-- Acceptance: the program of a transformation, or the refusal that is told of it, the first in the text; of refusals at one place the
-- one that stands first in their order.
use Rattle.std.specs.Prelude.{ℕ, ◌==◌, ◌&&◌, ◌||◌, nat_lt, Bool, if◌then◌else◌, List, [], ◌∷◌, ◌++◌, length, map, Option, Some, None, Result, Ok, Err}
use Rattle.std.specs.List.{flat_map}
use Rattle.qvt_metamodel.specs.Metamodels.{Metamodels}
use Rattle.qvt_tree_types.specs.Module.{ModuleTerm, UnitTerm}
use Rattle.qvt_types_units.specs.Classes.{own_classes, read_classes, above_told, extended_by, typed_flags}
use Rattle.qvt_types_units.specs.Written.{all_declared, classes_told}
use Rattle.qvt_types_data.specs.declared.refusal.TypingRefusal.{TypingRefusal}
use Rattle.qvt_types_data.specs.declared.refusal.RefusalKind.{RefusalKind}
use Rattle.qvt_types_data.specs.declared.refusal.RefusalKind.TheVariants as refusal
use Rattle.qvt_types_laws.specs.JoinModule.{joined}
use Rattle.qvt_types_nodes.specs.Module.{TypedModuleTerm}
use Rattle.qvt_types_units.specs.ModelTypes.{NamedTypes, type_names, model_types_told}
use Rattle.qvt_types_units.specs.Models.{models, models_told}
use Rattle.qvt_types_states.specs.Judge.{Judges, ◌>>=◌, gives, writes_nothing}
use Rattle.qvt_types_states.specs.declared.state.TypingState.{TypingState}
use Rattle.qvt_types_units.specs.Reuse.{unit_reuses}
use Rattle.qvt_types_units.specs.Signatures.{signatures}
use Rattle.qvt_types_units.specs.Units.{head_told, same_told, overrides_told, lists_told, main_told}
use Rattle.qvt_typing.specs.Context.{DeclaredHeads}
use Rattle.qvt_typing.specs.Units.{units}

-- what the heads declare
abbrev pub heads_with : Metamodels → ModuleTerm → NamedTypes → DeclaredHeads
heads_with m t names = record {
  given = m;
  metas = extended_by m names (read_classes (own_classes (all_declared m names t.units)));
  types = names;
  models = models names (length m.metamodels) t.params;
  units = signatures m names t.units;
  first = length m.features;
  flags = typed_flags (read_classes (own_classes (all_declared m names t.units)));
}

unfoldable pub heads_of : Metamodels → ModuleTerm → DeclaredHeads
heads_of m t = heads_with m t (type_names m t.model_types t.units)

abbrev pub reuse_lists : DeclaredHeads → List UnitTerm → List (List ℕ)
reuse_lists h us = map (unit_reuses h.given h.types h.units) us

-- what is told of the heads
unfoldable pub heads_told : DeclaredHeads → ModuleTerm → List TypingRefusal
heads_told h t =
    model_types_told h.given [] t.model_types
    ++ models_told h.types [] t.params
    ++ classes_told h.given h.types [] t.units
    ++ above_told (all_declared h.given h.types t.units)
    ++ flat_map (head_told h.given h.metas h.types h.models) t.units
    ++ same_told [] h.units
    ++ overrides_told h.metas h.units h.units
    ++ lists_told h.given h.metas h.types h.units (reuse_lists h t.units) 0 t.units
    ++ main_told h.units t.end

abbrev pub bare_notes : {A : Type 0} → List A → Judges (Unit {0})
bare_notes [] = gives tt
bare_notes (x ∷ xs) = writes_nothing >>= (λ _. bare_notes xs)

-- all nodes, in text order
abbrev pub whole : DeclaredHeads → ModuleTerm → Judges (Unit {0})
whole h t = bare_notes t.model_types >>= (λ _. bare_notes t.params >>= (λ _. units h 0 t.units))

-- after what is told of the heads
abbrev pub start : List TypingRefusal → TypingState
start told = record { scope = record { named = []; sources = [] }; next = 0; log = told; notes = [] }

unfoldable pub judged : DeclaredHeads → ModuleTerm → TypingState
judged h t = (whole h t (start (heads_told h t))).1

-- the order of the refusals
abbrev pub rank : RefusalKind → ℕ
rank refusal.UnknownMetamodel = 1
rank refusal.UnknownName = 2
rank refusal.UnknownType = 3
rank refusal.SameName = 4
rank refusal.Ambiguous = 5
rank refusal.WrongType = 6
rank refusal.WrongCount = 7
rank refusal.NotPure = 8
rank refusal.LatePlace = 9
rank refusal.NotPlain = 10
rank refusal.ReuseCycle = 11
rank refusal.BadReuse = 12
rank refusal.BadOverride = 13
rank refusal.BadContext = 14
rank refusal.BadTarget = 15
rank refusal.BadReturn = 16
rank refusal.BadExtent = 17
rank refusal.AbstractClass = 18
rank refusal.ResultPlace = 19
rank refusal.BadDisjunct = 20
rank refusal.ModelUse = 21
rank refusal.NoMain = 22

abbrev pub comes_before : TypingRefusal → TypingRefusal → Bool
comes_before r s = nat_lt r.place.offset s.place.offset || ((r.place.offset == s.place.offset) && nat_lt (rank r.kind) (rank s.kind))

abbrev pub sooner : Option TypingRefusal → TypingRefusal → TypingRefusal
sooner None r = r
sooner (Some s) r = if comes_before r s then r else s

abbrev pub least_from : Option TypingRefusal → List TypingRefusal → Option TypingRefusal
least_from first [] = first
least_from first (r ∷ rs) = least_from (Some (sooner first r)) rs

-- the one before which no other comes
abbrev pub least : List TypingRefusal → Option TypingRefusal
least rs = least_from None rs

pub record ProgramTerm : Type 0 where
  pub module_ : TypedModuleTerm
  pub heads : DeclaredHeads

abbrev pub accepted : DeclaredHeads → TypedModuleTerm → Option TypingRefusal → Result ProgramTerm TypingRefusal
accepted h t None = Ok (record { module_ = t; heads = h })
accepted h t (Some r) = Err r

abbrev pub accepted_by : DeclaredHeads → ModuleTerm → TypingState → Result ProgramTerm TypingRefusal
accepted_by h t s = accepted h (joined t s.notes) (least s.log)

-- the program, or the refusal that is told
unfoldable pub accepts : Metamodels → ModuleTerm → Result ProgramTerm TypingRefusal
accepts m t = accepted_by (heads_of m t) t (judged (heads_of m t) t)
