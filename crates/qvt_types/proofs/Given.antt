-- The metamodels of the job are those of the program without what was put after them.
use Rattle.std.proofs.Common.{◌≡◌, ◌∙◌, ℕ, ◌+◌, ◌-◌, List, [], ◌∷◌, ◌++◌, length, take, Option, None, refl, sym, ap, arith, length-append}
use Rattle.qvt_base.specs.declared.numbers.ClassNo.{ClassNo}
use Rattle.qvt_metas.specs.Extended.{extended, unnamed, element_class, given_classes, given_features}
use Rattle.qvt_metas.specs.Metamodels.{Metamodels}
use Rattle.qvt_metamodel.specs.declared.given.ClassData.{ClassData}
use Rattle.qvt_metamodel.specs.declared.info.ClassInfo.{ClassInfo}
use Rattle.qvt_metamodel.specs.declared.info.FeatureInfo.{FeatureInfo}
use Rattle.qvt_metamodel.specs.declared.info.MetamodelInfo.{MetamodelInfo}
use Rattle.qvt_tree_types.specs.Module.{ModuleTerm}
use Rattle.qvt_types_paths.specs.ModelTypes.{type_names}
use Rattle.qvt_types_program.specs.declared.declarations.Declarations.{Declarations}
use Rattle.qvt_types_program.specs.Heads.{heads_over}
use Rattle.qvt_types_program.specs.Accepts.{heads_of}
use Rattle.qvt_types_program.specs.Context.{DeclaredHeads}
use Rattle.qvt_types_program.specs.Program.{given_in}

before : {A : Type 0} (xs ys : List A) → take (length xs) (xs ++ ys) ≡ xs
before [] ys = refl
before (x ∷ xs) ys = ap (λ zs. x ∷ zs) (before xs ys)

without_last : {A : Type 0} (xs : List A) (x : A) → take (length (xs ++ x ∷ []) - 1) (xs ++ x ∷ []) ≡ xs
without_last xs x =
    ap (λ n. take n (xs ++ x ∷ [])) (let less : length (xs ++ x ∷ []) - 1 ≡ length xs = omega (arith, length-append xs (x ∷ [])) in less)
    ∙ before xs (x ∷ [])

-- what is left of metamodels before class c and feature f, and of all metamodels but the last
abbrev pub cut : Metamodels → ℕ → ℕ → Metamodels
cut m c f = record { metamodels = take (length m.metamodels - 1) m.metamodels; classes = take c m.classes; features = take f m.features; element = None }

abbrev with_metamodels : Metamodels → List MetamodelInfo → Metamodels
with_metamodels m ms = record m { metamodels = ms }

abbrev with_classes : Metamodels → List ClassInfo → Metamodels
with_classes m cs = record m { classes = cs }

abbrev with_features : Metamodels → List FeatureInfo → Metamodels
with_features m fs = record m { features = fs }

abbrev with_element : Metamodels → Option ClassNo → Metamodels
with_element m e = record m { element = e }

pub cut-extended : (m : Metamodels) (cs : List ClassData) → m.element ≡ None → cut (extended m cs) (length m.classes) (length m.features) ≡ m
unfolding extended
cut-extended m cs none =
    ap (with_metamodels (cut (extended m cs) (length m.classes) (length m.features))) (without_last m.metamodels unnamed)
    ∙ ap (with_classes (with_metamodels (cut (extended m cs) (length m.classes) (length m.features)) m.metamodels))
    (before m.classes (element_class (length m.metamodels) ∷ given_classes (length m.metamodels) (length m.features) cs))
    ∙ ap (with_features (with_element m None)) (before m.features (given_features (length m.classes + 1) cs))
    ∙ ap (with_element m) (sym none)

abbrev cut_in : DeclaredHeads → Metamodels
cut_in h = cut h.metas h.types.element h.first

cut_again : (m : Metamodels) (t : ModuleTerm) → m.element ≡ None → cut_in (heads_of m t) ≡ m
unfolding heads_of type_names
cut_again m t none = cut-extended m _ none

pub given_again : (m : Metamodels) (t : ModuleTerm) (d : Declarations) → m.element ≡ None → heads_over m d ≡ heads_of m t → given_in d ≡ m
given_again m t d none same = ap cut_in same ∙ cut_again m t none
