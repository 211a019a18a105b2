-- Without metamodels everything is kept.
use Rattle.std.proofs.Common.{◌≡◌, ℕ, [], None, true, false, refl, arith, lit<, sym, subst, ◌∙◌, ◌==◌, ◌||◌, inl, inr}
use Rattle.std.specs.Str.{is_utf8}
use Rattle.std.proofs.lemmas.Str.{is_utf8-from_IsUtf8, IsUtf8-nil}
use Rattle.qvt_metamodel.specs.Metamodels.{Metamodels, features_of}
use Rattle.std.proofs.lemmas.Bool.{eqb-true}
use Rattle.qvt_relation.specs.Closure.{directly, through, reaches_by}
use Rattle.qvt_metamodel.specs.Descends.{Inherits, reaches, descends}
use Rattle.qvt_metamodel.specs.WellFormed.{IsWellFormed, IsRegular}
use Rattle.qvt_metamodel.specs.Kept.{IsKept}
use Rattle.qvt_metamodel.proofs.Bools.{or_cases, clash}
use Rattle.qvt_metamodel.proofs.Regular.{regular}
use Rattle.qvt_metamodel.proofs.Rows.{no_mark}

abbrev pub no_metamodels : Metamodels
no_metamodels = record { metamodels = []; classes = []; features = []; element = None }

no_features : (c : ℕ) → features_of no_metamodels c ≡ []
unfolding features_of
no_features c = refl

no_ancestor : (c d : ℕ) → reaches no_metamodels c d ≡ false
unfolding reaches_by
no_ancestor c d = refl

no_path : {c d : ℕ} → Inherits no_metamodels c d → ⊥
no_path (directly {x} {y} h) = cc
no_path (through {x} {y} {z} h p) = cc

same : (c d : ℕ) → descends no_metamodels c d ≡ true → c ≡ d
same c d h = elim (or_cases ((c == d) || false) (reaches no_metamodels c d) h) [
  | inl e ↦ elim (or_cases (c == d) false e) [ inl i ↦ eqb-true c d i | inr never ↦ absurd (cc) ]
  | inr up ↦ clash up (no_ancestor c d)
]

no_text : is_utf8 [] ≡ true
no_text = is_utf8-from_IsUtf8 [] IsUtf8-nil

none_irregular : IsRegular no_metamodels
unfolding features_of
none_irregular = record {
  acyclic = λ c p. no_path p;
  antisymmetric = λ c d h k. same c d h;
  transitive = λ c d e h k. subst (λ x. descends no_metamodels x e ≡ true) (sym (same c d h)) k;
  inherited = λ c d f h k. absurd (cc);
  live_element = λ c h. absurd (cc);
  abstract_element = λ c h. absurd (cc);
  featureless_element = λ c f h. absurd (cc);
  topmost_element = λ c d h. absurd (cc);
  object_containments = λ f h. absurd (cc);
  unique_containments = λ f h. absurd (cc);
  unnamed_empty = λ c f h i. absurd (cc);
  unnamed_optional = λ c f h i. absurd (cc);
}

pub well_formed : IsWellFormed no_metamodels
unfolding features_of
well_formed = record {
  few_metamodels = lit< tt;
  few_classes = lit< tt;
  few_features = lit< tt;
  few_enumerations = λ k. lit< tt;
  few_literals = λ k e. lit< tt;
  live_metamodel = λ c h. absurd (omega arith);
  live_superclass = λ c d h. absurd (cc);
  live_owner = λ f h. absurd (omega arith);
  live_feature = λ c f h. absurd (cc);
  live_class = λ c f h. absurd (cc);
  live_opposite = λ p q h. absurd (cc);
  live_type = λ f h. absurd (omega arith);
  regular = regular no_metamodels none_irregular;
  mutual_opposites = λ p q h. absurd (cc);
  other_feature = λ p. refl;
  one_containment = λ p q h i. absurd (cc);
  one_container = λ p q h i. absurd (cc);
  unique_opposites = λ p q h. absurd (cc);
  opposite_has_type = λ p q c h i. absurd (cc);
  type_has_opposite = λ p q c h i. absurd (cc);
  unnamed_alone = λ p q c h i. absurd (cc);
  distinct_features = λ c i j h k. absurd (omega arith);
  text_metamodel = λ k. no_text;
  text_class = λ c. no_text;
  text_feature = λ f. no_text;
  text_enumeration = λ k e. no_text;
  text_literal = λ k e l. no_text;
  class_found = λ c h named. absurd (omega arith);
  feature_found = λ c f h. absurd (cc);
  enumeration_found = λ k e h. absurd (omega arith);
  literal_found = λ k e l h. absurd (omega arith);
}

pub kept : IsKept no_metamodels [] [] []
kept = record {
  well_formed = well_formed;
  ranked = record { each = refl; bounded = λ c h. absurd (omega arith); rise = λ c. tt };
  each = refl;
  each_row = refl;
  starts = λ c. omega arith;
  features = λ c. sym (no_features c);
  ancestors = λ c d. no_mark d ∙ sym (no_ancestor c d);
}
