-- The heads of units have types where nothing is told of them.
use Rattle.std.proofs.Common.{◌≡◌, refl, sym, ℕ, Bool, true, false, List, [], ◌∷◌, ◌++◌, length, Option, Some, None}
use Rattle.std.proofs.lemmas.Bool.{false≢true}
use Rattle.std.specs.Prelude.{if◌then◌else◌, ◌==◌, Result, Ok, Err}
use Rattle.std.specs.List.{flat_map}
use Rattle.qvt_base.specs.declared.numbers.ClassNo.{ClassNo}
use Rattle.qvt_base.specs.declared.numbers.Place.{Place}
use Rattle.qvt_metas.specs.Metamodels.{Metamodels}
use Rattle.qvt_tree_types.specs.Tree.{TypeTerm}
use Rattle.qvt_tree_types.specs.Module.{ModuleTerm, HelperTerm, MappingTerm, UnitTerm, ClassOf, MainOf, HelperOf, ConstructorOf, MappingOf}
use Rattle.qvt_tree_types.specs.declared.module.ResultDecl.{ResultDecl}
use Rattle.qvt_types_data.specs.declared.refusal.TypingRefusal.{TypingRefusal}
use Rattle.qvt_types_data.specs.declared.refusal.RefusalKind.{RefusalKind}
use Rattle.qvt_types_data.specs.declared.ty.Ty.{Ty}
use Rattle.qvt_types_paths.specs.ModelTypes.{NamedTypes, type_names, model_types_told}
use Rattle.qvt_types_paths.specs.Models.{models_told}
use Rattle.qvt_types_paths.specs.declared.models.Models.{Models}
use Rattle.qvt_types_paths.specs.Paths.{path_class, written_type}
use Rattle.qvt_types_classes.specs.Classes.{above_told}
use Rattle.qvt_types_classes.specs.Written.{all_declared, classes_told, told_of}
use Rattle.qvt_types_units.specs.Choice.{is_unknown}
use Rattle.qvt_types_units.specs.Numbers.{no_unit}
use Rattle.qvt_types_units.specs.Signatures as signatures
use Rattle.qvt_types_units.specs.Units as told
use Rattle.qvt_types_units.specs.declared.signature.UnitSort.{UnitSort}
use Rattle.qvt_types_units.specs.declared.signature.UnitSort.TheVariants as sort
use Rattle.qvt_types_units.specs.declared.signature.HeadClass.{HeadClass}
use Rattle.qvt_types_units.specs.declared.signature.HeadClass.TheVariants as head
use Rattle.qvt_typing.specs.Accepts.{heads_of, heads_told, reuse_lists}
use Rattle.qvt_typed_laws.proofs.Contexts.{TypedUnit, TypedHeads}
use Rattle.qvt_typed_laws.proofs.Every.{Every, none, also, every_at}
use Rattle.qvt_typed_laws.proofs.Keeps.{SomeTy}
use Rattle.qvt_typed_laws.proofs.Properties.{nothing_first, nothing_last, all_typed}

class_known : (at : Place) (r : Result ClassNo RefusalKind) → told_of at r ≡ [] → is_unknown (signatures.head_class r) ≡ false
class_known at (Ok c) e = refl
class_known at (Err k) e = absurd (cc)

front_known : (m : Metamodels) (t : NamedTypes) (at : Place) (front : List (List ℕ)) → told.front_told m t at front ≡ [] → is_unknown (signatures.front_class m t front) ≡ false
front_known m t at front e = by (length front == 0) e
  where
    by : (b : Bool) → (if b then [] else told_of at (path_class m t front)) ≡ [] → is_unknown (if b then head.Missing else signatures.head_class (path_class m t front)) ≡ false
    by true e = refl
    by false e = class_known at (path_class m t front) e

context_known : (m : Metamodels) (t : NamedTypes) (at : Place) (path : List (List ℕ)) → told.context_told m t at path ≡ [] → is_unknown (signatures.context_of m t path) ≡ false
unfolding told.context_told signatures.context_of
context_known m t at path e = front_known m t at (signatures.front_of path) e

found_some : (r : Result Ty TypingRefusal) → told.type_told r ≡ [] → SomeTy (signatures.found r)
found_some (Ok t) e = refl
found_some (Err told) e = absurd (cc)

answer_some : (m : Metamodels) (t : NamedTypes) (o : Option TypeTerm) → told.answer_told m t o ≡ [] → SomeTy (signatures.answer_of m t o)
answer_some m t None e = refl
answer_some m t (Some T) e = found_some (written_type m t T) e

result_known : (m e : Metamodels) (t : NamedTypes) (s : Models) (o : Option ResultDecl) → told.result_told m e t s o ≡ [] → is_unknown (signatures.result_of m t o) ≡ false
result_known m e t s None empty = refl
result_known m e t s (Some r) empty = class_known r.path.place (path_class m t r.path.names) (nothing_first (told_of r.path.place (path_class m t r.path.names)) _ empty)

result_some : (c : HeadClass) → is_unknown c ≡ false → SomeTy (signatures.result_type c)
result_some head.Missing e = refl
result_some head.Unknown e = absurd (false≢true (sym e))
result_some (head.Known c) e = refl

helper_typed : (m : Metamodels) (t : NamedTypes) (s : UnitSort) (h : HelperTerm) → told.helper_told m t h ≡ [] → TypedUnit (signatures.of_helper m t s h)
helper_typed m t s h e = record {
  context = context_known m t h.place h.path (nothing_first (told.context_told m t h.place h.path) (told.params_told m t h.params) (nothing_first (told.context_told m t h.place h.path ++ told.params_told m t h.params) (told.answer_told m t h.answer) e));
  answer = answer_some m t h.answer (nothing_last (told.context_told m t h.place h.path ++ told.params_told m t h.params) (told.answer_told m t h.answer) e);
  result = refl;
}

mapping_typed : (m e : Metamodels) (t : NamedTypes) (s : Models) (n : ℕ) (u : MappingTerm) → told.mapping_head_told m e t s u ≡ [] → TypedUnit (signatures.of_mapping m t n u)
mapping_typed m e t s n u empty =
    let known = result_known m e t s u.result_decl (nothing_last (told.context_told m t u.place u.path ++ told.params_told m t u.params) (told.result_told m e t s u.result_decl) empty) in
    record {
      context = context_known m t u.place u.path (nothing_first (told.context_told m t u.place u.path) (told.params_told m t u.params) (nothing_first (told.context_told m t u.place u.path ++ told.params_told m t u.params) (told.result_told m e t s u.result_decl) empty));
      answer = result_some (signatures.result_of m t u.result_decl) known;
      result = known;
    }

signature_typed : (m e : Metamodels) (t : NamedTypes) (s : Models) (n : ℕ) (u : UnitTerm) → told.head_told m e t s u ≡ [] → TypedUnit (signatures.signature m t n u)
unfolding told.head_told signatures.signature
signature_typed m e t s n (ClassOf c) empty = record { context = refl; answer = refl; result = refl }
signature_typed m e t s n (MainOf body at) empty = record { context = refl; answer = refl; result = refl }
signature_typed m e t s n (HelperOf h) empty = helper_typed m t (signatures.helper_sort h) h empty
signature_typed m e t s n (ConstructorOf h) empty = helper_typed m t sort.Constructor h (nothing_first (told.helper_told m t h) _ empty)
signature_typed m e t s n (MappingOf u) empty = mapping_typed m e t s n u empty

signatures_typed : (m e : Metamodels) (t : NamedTypes) (s : Models) (n : ℕ) (us : List UnitTerm) → flat_map (told.head_told m e t s) us ≡ [] → Every TypedUnit (signatures.signatures_from m t n us)
signatures_typed m e t s n [] empty = none
signatures_typed m e t s n (u ∷ us) empty = also (signature_typed m e t s n u (nothing_first (told.head_told m e t s u) _ empty)) (signatures_typed m e t s (signatures.mappings_with n u) us (nothing_last (told.head_told m e t s u) _ empty))

pub heads_typed : (m : Metamodels) (t : ModuleTerm) → heads_told (heads_of m t) t ≡ [] → TypedHeads (heads_of m t)
unfolding heads_told heads_of
heads_typed m t e =
    let h = heads_of m t in
    let before_main = nothing_first _ (told.main_told h.units t.end) e in
    let before_lists = nothing_first _ (told.lists_told h.given h.metas h.types h.units (reuse_lists h t.units) 0 t.units) before_main in
    let before_overrides = nothing_first _ (told.overrides_told h.metas h.units h.units) before_lists in
    let before_same = nothing_first _ (told.same_told [] h.units) before_overrides in
    let of_heads = nothing_last (model_types_told h.given [] t.model_types ++ models_told h.types [] t.params ++ classes_told h.given h.types [] t.units ++ above_told (all_declared h.given h.types t.units)) (flat_map (told.head_told h.given h.metas h.types h.models) t.units) before_same in
    let before_heads = nothing_first _ (flat_map (told.head_told h.given h.metas h.types h.models) t.units) before_same in
    let before_above = nothing_first _ (above_told (all_declared h.given h.types t.units)) before_heads in
    let of_classes = nothing_last (model_types_told h.given [] t.model_types ++ models_told h.types [] t.params) (classes_told h.given h.types [] t.units) before_above in
    record {
      properties = all_typed m (type_names m t.model_types t.units) (length m.features) t.units of_classes;
      units = λ n. every_at TypedUnit h.units n no_unit (signatures_typed h.given h.metas h.types h.models 0 t.units of_heads) (record { context = refl; answer = refl; result = refl });
    }
