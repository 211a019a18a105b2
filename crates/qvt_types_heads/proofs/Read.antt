-- The heads as they are read, one part after the other.
use Rattle.std.proofs.Common.{◌≡◌, ◌∙◌, ℕ, Bool, List, [], ◌++◌, length, refl, sym, ap, append_assoc}
use Rattle.qvt_metamodel.specs.Metamodels.{Metamodels}
use Rattle.qvt_tree_types.specs.Module.{ModuleTerm, UnitTerm}
use Rattle.qvt_tree_types.specs.declared.module.ModelType.{ModelType}
use Rattle.qvt_types_lists.specs.Classes.{above_told, extended_by, own_classes, read_classes, typed_flags}
use Rattle.qvt_types_lists.specs.Written.{all_declared, classes_told}
use Rattle.qvt_types_data.specs.declared.refusal.TypingRefusal.{TypingRefusal}
use Rattle.qvt_types_paths.specs.ModelTypes.{NamedTypes, model_types_told, type_names}
use Rattle.qvt_types_paths.specs.Models.{models, models_told}
use Rattle.qvt_types_paths.specs.declared.models.Models.{Models}
use Rattle.qvt_types_lists.specs.Signatures.{signatures}
use Rattle.qvt_types_lists.specs.declared.signature.Signature.{Signature}
use Rattle.qvt_types_context.specs.Accepts.{heads_of}
use Rattle.qvt_types_context.specs.Context.{DeclaredHeads}
use Rattle.qvt_types_heads.specs.Heads.{types_told}

-- by the units and the names of types
heads_by : Metamodels → ModuleTerm → List UnitTerm → NamedTypes → DeclaredHeads
heads_by m t us names = record {
  given = m;
  metas = extended_by m names (read_classes (own_classes (all_declared m names us)));
  types = names;
  models = models names (length m.metamodels) t.params;
  units = signatures m names us;
  first = length m.features;
  flags = typed_flags (read_classes (own_classes (all_declared m names us)));
}

all_by : (m : Metamodels) (t : ModuleTerm) → heads_by m t t.units (type_names m t.model_types t.units) ≡ heads_of m t
unfolding heads_by heads_of
all_by m t = refl

part_by : (m : Metamodels) (t : ModuleTerm) (us : List UnitTerm) (names : NamedTypes) (ms : Models) (metas : Metamodels) (all : List Signature) (first : ℕ) (flags : List Bool)
    → ms ≡ models names (length m.metamodels) t.params
    → metas ≡ extended_by m names (read_classes (own_classes (all_declared m names us)))
    → flags ≡ typed_flags (read_classes (own_classes (all_declared m names us)))
    → all ≡ signatures m names us
    → first ≡ length m.features
    → (let h : DeclaredHeads = record { given = m; metas = metas; types = names; models = ms; units = all; first = first; flags = flags } in h) ≡ heads_by m t us names
unfolding heads_by
part_by m t us names ms metas all first flags ms-is metas-is flags-is all-is first-is =
    λ i. record { given = m; metas = metas-is i; types = names; models = ms-is i; units = all-is i; first = first-is i; flags = flags-is i }

pub heads_read : (m : Metamodels) (t : ModuleTerm) (types : List ModelType) (us : List UnitTerm) (names : NamedTypes) (ms : Models) (metas : Metamodels) (all : List Signature) (first : ℕ) (flags : List Bool)
    → types ≡ t.model_types → us ≡ t.units
    → names ≡ type_names m types us
    → ms ≡ models names (length m.metamodels) t.params
    → metas ≡ extended_by m names (read_classes (own_classes (all_declared m names us)))
    → flags ≡ typed_flags (read_classes (own_classes (all_declared m names us)))
    → all ≡ signatures m names us
    → first ≡ length m.features
    → (let h : DeclaredHeads = record { given = m; metas = metas; types = names; models = ms; units = all; first = first; flags = flags } in h) ≡ heads_of m t
heads_read m t types us names ms metas all first flags types-are us-are names-are ms-is metas-is flags-is all-is first-is =
    part_by m t us names ms metas all first flags ms-is metas-is flags-is all-is first-is
    ∙ ap (heads_by m t us) names-are
    ∙ ap (λ xs. heads_by m t us (type_names m xs us)) types-are
    ∙ ap (λ xs. heads_by m t xs (type_names m t.model_types xs)) us-are
    ∙ all_by m t

names_by : (m : Metamodels) (t : ModuleTerm) → type_names m t.model_types t.units ≡ (heads_of m t).types
unfolding heads_of
names_by m t = refl

regrouped : (l a b c d : List TypingRefusal) → l ++ (a ++ b) ++ (c ++ d) ≡ l ++ (a ++ b ++ c ++ d)
regrouped l a b c d = append_assoc l (a ++ b) (c ++ d) ∙ ap (λ xs. l ++ xs) (sym (append_assoc (a ++ b) c d))

types_by : (m : Metamodels) (t : ModuleTerm) (names : NamedTypes) (l : List TypingRefusal)
    → l ++ (model_types_told m [] t.model_types ++ models_told names [] t.params) ++ (classes_told m names [] t.units ++ above_told (all_declared m names t.units))
    ≡ l ++ types_told m names t
unfolding types_told
types_by m t names l =
    regrouped l (model_types_told m [] t.model_types) (models_told names [] t.params) (classes_told m names [] t.units) (above_told (all_declared m names t.units))

pub told_read : (m : Metamodels) (t : ModuleTerm) (types : List ModelType) (us : List UnitTerm) (names : NamedTypes) (l0 l1 l2 : List TypingRefusal)
    → types ≡ t.model_types → us ≡ t.units → names ≡ type_names m types us
    → l1 ≡ l0 ++ (model_types_told m [] t.model_types ++ models_told names [] t.params)
    → l2 ≡ l1 ++ (classes_told m names [] us ++ above_told (all_declared m names us))
    → l2 ≡ l0 ++ types_told m (heads_of m t).types t
told_read m t types us names l0 l1 l2 types-are us-are names-are first second =
    second
    ∙ ap (λ xs. l1 ++ (classes_told m names [] xs ++ above_told (all_declared m names xs))) us-are
    ∙ ap (λ xs. xs ++ (classes_told m names [] t.units ++ above_told (all_declared m names t.units))) first
    ∙ types_by m t names l0
    ∙ ap (λ ns. l0 ++ types_told m ns t) (names-are ∙ ap (λ xs. type_names m xs us) types-are ∙ ap (type_names m t.model_types) us-are ∙ names_by m t)
