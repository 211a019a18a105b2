-- A unit that does not fit another does not fit one that asks all that this one asks.
use Rattle.std.proofs.Common.{◌≡◌, ◌∙◌, ℕ, List, [], ◌∷◌, length, Bool, true, false, not, ◌&&◌, ◌||◌, Option, Some, None, inl, inr, refl, sym, ap, subst, arith}
use Rattle.std.specs.Prelude.{◌==◌, nat_lt}
use Rattle.std.proofs.lemmas.Bool.{eqb-true}
use Rattle.qvt_value.specs.declared.value.Kind.{Kind}
use Rattle.qvt_value.specs.declared.value.Kind.TheVariants.{Set, Bag, Sequence, OrderedSet}
use Rattle.qvt_metas.specs.Metamodels.{Metamodels}
use Rattle.qvt_metas.specs.Descends.{descends}
use Rattle.qvt_metamodel.proofs.Bools.{and_both, and_left, and_right, or_left, or_right, or_cases, clash}
use Rattle.qvt_types_data.specs.Term.{TyTerm, Void, Boolean, Integer, Text, Literals, Class, Collection, same_type, ty_view}
use Rattle.qvt_types_data.specs.declared.ty.Ty.{Ty}
use Rattle.qvt_ocl_words.specs.Collections.{same_kind}
use Rattle.qvt_ocl_types.specs.Types as types
use Rattle.qvt_types_words.specs.Types.{conforms}
use Rattle.qvt_types_groups.specs.declared.signature.Signature.{Signature}
use Rattle.qvt_types_groups.specs.Numbers.{unit_at}
use Rattle.qvt_types_groups.specs.Overrides.{differ, any_differ, params_differ, is_wider, are_unlike, is_misfit}
use Rattle.qvt_types_groups.proofs.Lowest.{Transitive}
use Rattle.qvt_types_above.specs.Shapes.{same_sort}
use Rattle.qvt_types_above.specs.Covers.{knows, all_known, know_all, covers, covers_at}
use Rattle.qvt_types_above.specs.Tells.{Asks}
use Rattle.qvt_types_above.proofs.SameShapes.{Law, unlike_is}

same : (k l : Kind) → same_kind k l ≡ true → k ≡ l
same Set Set h = refl
same Bag Bag h = refl
same Sequence Sequence h = refl
same OrderedSet OrderedSet h = refl
same k l h = cc

-- types conform through another
module _ (below : ℕ → ℕ → Bool) (t : (c d e : ℕ) → below c d ≡ true → below d e ≡ true → below c e ≡ true) where
  through : (S T U : TyTerm) → types.conforms below S T ≡ true → types.conforms below T U ≡ true → types.conforms below S U ≡ true
  through Void T U p q = refl
  through Boolean Boolean U p q = q
  through Integer Integer U p q = q
  through Text Text U p q = q
  through (Literals m e) (Literals n f) U p q =
      subst (λ x. types.conforms below (Literals x e) U ≡ true) (sym (eqb-true m n (and_left (m == n) (e == f) p)))
      (subst (λ x. types.conforms below (Literals n x) U ≡ true) (sym (eqb-true e f (and_right (m == n) (e == f) p))) q)
  through (Class c) (Class d) (Class e) p q = t c d e p q
  through (Collection k S) (Collection l T) (Collection j U) p q = and_both (same_kind k j) (types.conforms below S U)
      (ap (λ x. same_kind x j) (same k l (and_left (same_kind k l) (types.conforms below S T) p)) ∙ and_left (same_kind l j) (types.conforms below T U) q)
      (through S T U (and_right (same_kind k l) (types.conforms below S T) p) (and_right (same_kind l j) (types.conforms below T U) q))
  through S T U p q = cc

is_so : (b : Bool) → not b ≡ false → b ≡ true
is_so true h = refl
is_so false h = absurd (cc)

pub is_not : (b : Bool) → not b ≡ true → b ≡ false
is_not true h = absurd (cc)
is_not false h = refl

not_so : (a b : Bool) → (a ≡ true → b ≡ true) → not b ≡ true → not a ≡ true
not_so true b f h = clash (f refl) (is_not b h)
not_so false b f h = refl

pub neither : (a b : Bool) → (a || b) ≡ false → (a ≡ false) × (b ≡ false)
neither true b h = absurd (cc)
neither false b h = (refl, h)

module _ (law : Law) where
  differs : (u v w : Option Ty) → knows v w ≡ true → differ v w ≡ false → differ u w ≡ true → differ u v ≡ true
  differs None v w k f d = absurd (cc)
  differs (Some S) v None k f d = absurd (cc)
  differs (Some S) None (Some U) k f d = absurd (cc)
  differs (Some S) (Some T) (Some U) k f d =
      ap (λ x. not (same_type (ty_view S) (ty_view x))) (law T U (is_so (same_type (ty_view T) (ty_view U)) f)) ∙ d

  some_differ : (us vs ws : List (Option Ty)) → length vs ≡ length ws → all_known vs ws ≡ true → any_differ vs ws ≡ false → any_differ us ws ≡ true → any_differ us vs ≡ true
  some_differ [] vs ws l k f d = absurd (cc)
  some_differ (u ∷ us) vs [] l k f d = absurd (cc)
  some_differ (u ∷ us) [] (w ∷ ws) l k f d = absurd (omega (arith, l))
  some_differ (u ∷ us) (v ∷ vs) (w ∷ ws) l k f d = elim (or_cases (differ u w) (any_differ us ws) d) [
    | inl here ↦ or_left (differ u v) (any_differ us vs) (differs u v w (and_left (knows v w) (all_known vs ws) k) (neither (differ v w) (any_differ vs ws) f).0 here)
    | inr rest ↦ or_right (differ u v) (any_differ us vs) (some_differ us vs ws (let shorter : length vs ≡ length ws = omega (arith, l) in shorter)
        (and_right (knows v w) (all_known vs ws) k) (neither (differ v w) (any_differ vs ws) f).1 rest)
  ]

  params : (us vs ws : List (Option Ty)) → know_all vs ws ≡ true → params_differ vs ws ≡ false → params_differ us ws ≡ true → params_differ us vs ≡ true
  params us vs ws k f d =
      let long : length vs ≡ length ws = eqb-true (length vs) (length ws) (and_left (length vs == length ws) (all_known vs ws) k) in
      elim (or_cases (not (length us == length ws)) (any_differ us ws) d) [
        | inl here ↦ or_left (not (length us == length vs)) (any_differ us vs) (ap (λ n. not (length us == n)) long ∙ here)
        | inr rest ↦ or_right (not (length us == length vs)) (any_differ us vs) (some_differ us vs ws long (and_right (length vs == length ws) (all_known vs ws) k)
            (neither (not (length vs == length ws)) (any_differ vs ws) f).1 rest)
      ]

  module _ (m : Metamodels) (t : Transitive m) where
    wider : (u v w : Option Ty) → knows v w ≡ true → is_wider m v w ≡ false → is_wider m u w ≡ true → is_wider m u v ≡ true
    wider None v w k f d = absurd (cc)
    wider (Some S) v None k f d = absurd (cc)
    wider (Some S) None (Some U) k f d = absurd (cc)
    wider (Some S) (Some T) (Some U) k f d = not_so (conforms m S T) (conforms m S U)
        (λ h. through (descends m) t (ty_view S) (ty_view T) (ty_view U) h (is_so (conforms m T U) f)) d

    asks_all : (u v w : Signature) → covers m v w ≡ true → is_misfit m u w ≡ true → is_misfit m u v ≡ true
    unfolding covers is_misfit
    asks_all u v w c d =
        let sorts : same_sort v.sort w.sort ≡ true = and_left (same_sort v.sort w.sort) _ c in
        let others : (not (params_differ v.params w.params || (is_wider m v.answer w.answer || are_unlike v.sort w.sort)) && (know_all v.params w.params && knows v.answer w.answer)) ≡ true
        = and_right (same_sort v.sort w.sort) _ c in
        let fits : (params_differ v.params w.params || (is_wider m v.answer w.answer || are_unlike v.sort w.sort)) ≡ false
        = is_not (params_differ v.params w.params || (is_wider m v.answer w.answer || are_unlike v.sort w.sort)) (and_left _ (know_all v.params w.params && knows v.answer w.answer) others) in
        let known : (know_all v.params w.params && knows v.answer w.answer) ≡ true = and_right (not (params_differ v.params w.params || (is_wider m v.answer w.answer || are_unlike v.sort w.sort))) _ others in
        let rest : (is_wider m v.answer w.answer || are_unlike v.sort w.sort) ≡ false = (neither (params_differ v.params w.params) _ fits).1 in
        elim (or_cases (params_differ u.params w.params) (is_wider m u.answer w.answer || are_unlike u.sort w.sort) d) [
          | inl here ↦ or_left (params_differ u.params v.params) (is_wider m u.answer v.answer || are_unlike u.sort v.sort)
              (params u.params v.params w.params (and_left (know_all v.params w.params) _ known) (neither (params_differ v.params w.params) _ fits).0 here)
          | inr more ↦ or_right (params_differ u.params v.params) (is_wider m u.answer v.answer || are_unlike u.sort v.sort)
              (elim (or_cases (is_wider m u.answer w.answer) (are_unlike u.sort w.sort) more) [
                | inl here ↦ or_left (is_wider m u.answer v.answer) (are_unlike u.sort v.sort)
                    (wider u.answer v.answer w.answer (and_right (know_all v.params w.params) _ known) (neither (is_wider m v.answer w.answer) _ rest).0 here)
                | inr unlike ↦ or_right (is_wider m u.answer v.answer) (are_unlike u.sort v.sort) (unlike_is u.sort v.sort w.sort sorts ∙ unlike)
              ])
        ]

    pub asks : (us : List Signature) (n k : ℕ) → covers_at m us n k ≡ true → Asks m us n k
    asks us n k c u d = asks_all u (unit_at us n) (unit_at us k)
        (and_right (nat_lt k (length us)) (covers m (unit_at us n) (unit_at us k)) (and_right (nat_lt n (length us)) (nat_lt k (length us) && covers m (unit_at us n) (unit_at us k)) c)) d
