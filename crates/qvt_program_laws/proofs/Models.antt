-- Where nothing is told of model types and model parameters, each parameter has a metamodel.
use Rattle.std.proofs.Common.{◌≡◌, ◌∙◌, refl, sym, ap, subst, ℕ, zero, suc, ◌<◌, Bool, true, List, [], ◌∷◌, ◌++◌, length, map, Option, Some, None, arith}
use Rattle.std.specs.Prelude.{position, slice_index_or, is_some, is_none, not}
use Rattle.std.specs.List.{flat_map}
use Rattle.std.specs.Str.{bytes_eq}
use Rattle.std.proofs.lemmas.List.{length-map}
use Rattle.std.proofs.lemmas.List.Quantifiers.{position-Some}
use Rattle.qvt_base.specs.declared.numbers.Place.{Place}
use Rattle.qvt_metamodel.specs.Extended.{extended}
use Rattle.qvt_metamodel.specs.Metamodels.{Metamodels}
use Rattle.qvt_metamodel.specs.Named.{nowhere_metamodel}
use Rattle.qvt_tree_types.specs.Module.{ModuleTerm, UnitTerm}
use Rattle.qvt_tree_types.specs.declared.module.ModelParam.{ModelParam}
use Rattle.qvt_tree_types.specs.declared.module.ModelType.{ModelType}
use Rattle.qvt_types_data.specs.declared.note.Note.{Note}
use Rattle.qvt_types_data.specs.declared.refusal.RefusalKind.{RefusalKind}
use Rattle.qvt_types_laws.specs.JoinModule.{joined}
use Rattle.qvt_types_nodes.specs.StripModule.{strip}
use Rattle.qvt_types_classes.specs.Classes.{above_told}
use Rattle.qvt_types_classes.specs.Written.{all_declared, classes_told}
use Rattle.qvt_types_paths.specs.ModelTypes.{type_names, meant, model_type_told, model_types_told, metamodel_at}
use Rattle.qvt_types_paths.specs.Models.{model_row, model_told, models, models_told}
use Rattle.qvt_types_paths.specs.Told.{told_if}
use Rattle.qvt_types_units.specs.Units.{head_told, same_told, overrides_told, lists_told, main_told}
use Rattle.qvt_typing.specs.Context.{DeclaredHeads}
use Rattle.qvt_typing.specs.Accepts.{ProgramTerm, heads_of, heads_told, reuse_lists}
use Rattle.qvt_types_program.specs.Extents.{row_at}
use Rattle.qvt_types_program.specs.Known.{known}
use Rattle.qvt_types_program.specs.Program.{model_metamodel}
use Rattle.qvt_typed_laws.specs.Accepted.{AcceptedIsJudged}
use Rattle.qvt_program_laws.specs.Models.{HasMetamodel, ModelsHaveMetamodels, HasModels, ModelsAreDeclared}

nothing_first : {A : Type 0} (xs ys : List A) → xs ++ ys ≡ [] → xs ≡ []
nothing_first [] ys e = refl
nothing_first (x ∷ xs) ys e = absurd (cc)

nothing_last : {A : Type 0} (xs ys : List A) → xs ++ ys ≡ [] → ys ≡ []
nothing_last [] ys e = e
nothing_last (x ∷ xs) ys e = absurd (cc)

-- a number below this one
pub record Below (count : ℕ) (o : Option ℕ) : Type 0 where
  pub number : ℕ
  pub is : o ≡ Some number
  pub less : number < count

-- what is looked up is there
there : {X : Type 0} (p : X → Bool) (xs : List X) (d : X) (o : Option ℕ) → position p xs ≡ o → is_some o ≡ true → Below (length xs) (position p xs)
there p xs d None e h = absurd (cc)
there p xs d (Some i) e h = record { number = i; is = e; less = (position-Some p xs i d e).0 }

untold_none : (o : Option ℕ) (k : RefusalKind) (at : Place) → told_if (is_none o) k at ≡ [] → is_some o ≡ true
untold_none None k at e = absurd (cc)
untold_none (Some i) k at e = refl

untold_some : (o : Option ℕ) (k : RefusalKind) (at : Place) → told_if (not (is_some o)) k at ≡ [] → is_some o ≡ true
untold_some None k at e = absurd (cc)
untold_some (Some i) k at e = refl

-- the metamodel of a model type
type_known : (m : Metamodels) (earlier : List (List ℕ)) (t : ModelType) → model_type_told m earlier t ≡ [] → Below (length m.metamodels) (meant m t)
unfolding model_type_told
type_known m earlier t e = there _ m.metamodels nowhere_metamodel (meant m t) refl (untold_none (meant m t) _ t.place (nothing_first _ _ e))

types_known : (m : Metamodels) (earlier : List (List ℕ)) (ts : List ModelType) → model_types_told m earlier ts ≡ [] → (i : ℕ) → i < length ts
    → Below (length m.metamodels) (slice_index_or (map (meant m) ts) i None)
types_known m earlier [] e i l = absurd (omega arith)
types_known m earlier (t ∷ ts) e zero l = type_known m earlier t (nothing_first (model_type_told m earlier t) _ e)
types_known m earlier (t ∷ ts) e (suc i) l = types_known m (earlier ++ t.name ∷ []) ts (nothing_last (model_type_told m earlier t) _ e) i (omega arith)

-- the metamodel of a model type that is found
at_known : (n count : ℕ) (ks : List (Option ℕ)) (o : Option ℕ) → Below n o → ((i : ℕ) → i < n → Below count (slice_index_or ks i None)) → Below count (metamodel_at ks o)
at_known n count ks o b f = subst (λ x. Below count (metamodel_at ks x)) (sym b.is) (f b.number b.less)

-- the metamodel of a model
model_known : (m : Metamodels) (ts : List ModelType) (us : List UnitTerm) (earlier : List (List ℕ)) (p : ModelParam) → model_types_told m [] ts ≡ [] → model_told (type_names m ts us) earlier p ≡ []
    → Below (length m.metamodels) (model_row (type_names m ts us) p).metamodel
unfolding model_told type_names
model_known m ts us earlier p of_types e =
    let names = map (λ (t : ModelType). t.name) ts in
    let found = there (bytes_eq p.model_type) names [] (position (bytes_eq p.model_type) names) refl (untold_some (position (bytes_eq p.model_type) names) _ p.place (nothing_first _ _ e)) in
    at_known (length names) (length m.metamodels) (map (meant m) ts) (position (bytes_eq p.model_type) names) found
    (λ i l. types_known m [] ts of_types i (subst (λ n. i < n) (length-map ts (λ (t : ModelType). t.name)) l))

models_known : (m : Metamodels) (ts : List ModelType) (us : List UnitTerm) (earlier : List (List ℕ)) (ps : List ModelParam) → model_types_told m [] ts ≡ []
    → models_told (type_names m ts us) earlier ps ≡ [] → (i : ℕ) → i < length ps → Below (length m.metamodels) (row_at (map (model_row (type_names m ts us)) ps) i).metamodel
models_known m ts us earlier [] of_types e i l = absurd (omega arith)
models_known m ts us earlier (p ∷ ps) of_types e zero l = model_known m ts us earlier p of_types (nothing_first (model_told (type_names m ts us) earlier p) _ e)
models_known m ts us earlier (p ∷ ps) of_types e (suc i) l =
    models_known m ts us (earlier ++ p.name ∷ []) ps of_types (nothing_last (model_told (type_names m ts us) earlier p) _ e) i (omega arith)

-- of a whole transformation
untold_known : (m : Metamodels) (t : ModuleTerm) → heads_told (heads_of m t) t ≡ [] → (i : ℕ) → i < length t.params → Below (length m.metamodels) (row_at (heads_of m t).models.rows i).metamodel
unfolding heads_told heads_of models
untold_known m t e i l =
    let h = heads_of m t in
    let before_main = nothing_first _ (main_told h.units t.end) e in
    let before_lists = nothing_first _ (lists_told h.given h.metas h.types h.units (reuse_lists h t.units) 0 t.units) before_main in
    let before_overrides = nothing_first _ (overrides_told h.metas h.units h.units) before_lists in
    let before_same = nothing_first _ (same_told [] h.units) before_overrides in
    let before_heads = nothing_first _ (flat_map (head_told h.given h.metas h.types h.models) t.units) before_same in
    let before_above = nothing_first _ (above_told (all_declared h.given h.types t.units)) before_heads in
    let before_classes = nothing_first (model_types_told h.given [] t.model_types ++ models_told h.types [] t.params) (classes_told h.given h.types [] t.units) before_above in
    models_known m t.model_types t.units [] t.params
    (nothing_first (model_types_told h.given [] t.model_types) (models_told h.types [] t.params) before_classes)
    (nothing_last (model_types_told h.given [] t.model_types) (models_told h.types [] t.params) before_classes)
    i l

has_metamodel : (m : Metamodels) (p : ProgramTerm) (i : ℕ) → Below (length m.metamodels) (row_at p.heads.models.rows i).metamodel → HasMetamodel m p i
has_metamodel m p i b =
    let same : model_metamodel p i ≡ b.number = ap known b.is in
    record { known = b.is ∙ ap (λ k. Option.Some k) (sym same); given = subst (λ k. k < length m.metamodels) (sym same) b.less }

pub models_have_metamodels : AcceptedIsJudged → ((t : ModuleTerm) (ns : List Note) → strip (joined t ns) ≡ t) → ModelsHaveMetamodels
models_have_metamodels judged leaves m t p e i l =
    let is = judged m t p e in
    let stripped : strip p.module_ ≡ t = ap strip is.tree ∙ leaves t _ in
    has_metamodel m p i
    (subst (λ h. Below (length m.metamodels) (row_at h.models.rows i).metamodel) (sym is.heads)
    (untold_known m t is.heads_untold i (subst (λ x. i < length x.params) stripped l)))

of_heads : (m : Metamodels) (t : ModuleTerm) (p : ProgramTerm) → p.heads ≡ heads_of m t → ((i : ℕ) → i < length t.params → HasMetamodel m p i) → HasModels m t p
unfolding heads_of extended models
of_heads m t p h k = record {
  metamodels = ap (λ (x : DeclaredHeads). x.metas.metamodels) h;
  names = ap (λ (x : DeclaredHeads). x.models.names) h;
  known = k;
}

pub models_are_declared : AcceptedIsJudged → ((t : ModuleTerm) (ns : List Note) → strip (joined t ns) ≡ t) → ModelsAreDeclared
models_are_declared judged leaves m t p e =
    let is = judged m t p e in
    of_heads m t p is.heads (λ i l. has_metamodel m p i (subst (λ (h : DeclaredHeads). Below (length m.metamodels) (row_at h.models.rows i).metamodel) (sym is.heads) (untold_known m t is.heads_untold i l)))
