-- A unit that asks all that the first of a bounded list asks, and answers objects of the bound, asks all that the list asks.
use Rattle.std.proofs.Common.{◌≡◌, ◌∙◌, ℕ, List, [], ◌∷◌, length, Bool, true, false, not, ◌&&◌, ◌||◌, Option, Some, None, inl, inr, refl, sym, ap}
use Rattle.std.specs.Prelude.{nat_lt}
use Rattle.std.specs.List.{list_all}
use Rattle.qvt_base.specs.declared.numbers.MappingNo.{MappingNo}
use Rattle.qvt_metas.specs.Metamodels.{Metamodels}
use Rattle.qvt_metas.specs.Descends.{descends}
use Rattle.qvt_metamodel.proofs.Bools.{and_both, and_left, and_right}
use Rattle.qvt_types_data.specs.Term.{TyTerm, Class, ty_view}
use Rattle.qvt_types_data.specs.declared.ty.Ty.{Ty}
use Rattle.qvt_ocl_types.specs.Types as types
use Rattle.qvt_types_groups.specs.declared.signature.Signature.{Signature}
use Rattle.qvt_types_groups.specs.declared.signature.UnitSort.{UnitSort}
use Rattle.qvt_types_groups.specs.declared.signature.UnitSort.TheVariants as sort
use Rattle.qvt_types_groups.specs.Numbers.{unit_at}
use Rattle.qvt_types_groups.specs.Overrides.{params_differ, is_wider, are_unlike, is_misfit}
use Rattle.qvt_types_groups.proofs.Lowest.{Transitive}
use Rattle.qvt_types_above.specs.Shapes.{same_sort, same_types}
use Rattle.qvt_types_above.specs.Covers.{knows, know_all, covers, covers_at}
use Rattle.qvt_types_above.specs.Bounds.{is_class_below, answers_below, is_class_above, answers_above, is_like, is_like_at, are_bounded, asks_bounded}
use Rattle.qvt_types_above.specs.Tells.{Asks, SomeAsks}
use Rattle.qvt_types_above.proofs.SameShapes.{Law, types_are, unlike_is}
use Rattle.qvt_types_above.proofs.Covered.{is_not, neither}
use Rattle.qvt_types_above.proofs.Tellings.{through}

same_mapping : (n k j : MappingNo) → same_sort (sort.Mapping n) (sort.Mapping j) ≡ true
same_mapping n k j = refl

sorts : (s r q : UnitSort) → same_sort s r ≡ true → same_sort r q ≡ true → same_sort s q ≡ true
sorts sort.Helper sort.Helper q e f = f
sorts sort.Query sort.Query q e f = f
sorts (sort.Mapping n) (sort.Mapping k) (sort.Mapping j) e f = refl
sorts s r q e f = cc

-- objects of a class below one conform to those of a class above it
between : (m : Metamodels) → Transitive m → (T U : TyTerm) (e : ℕ) → is_class_below m T e ≡ true → is_class_above m U e ≡ true → types.conforms (descends m) T U ≡ true
between m t (Class c) (Class d) e p q = t c e d p q
between m t T U e p q = cc

fits_between : (m : Metamodels) → Transitive m → (v w : Option Ty) (e : ℕ) → answers_below m v e ≡ true → answers_above m w e ≡ true → (is_wider m v w ≡ false) × (knows v w ≡ true)
fits_between m t None w e p q = absurd (cc)
fits_between m t (Some T) None e p q = absurd (cc)
fits_between m t (Some T) (Some U) e p q = (ap not (between m t (ty_view T) (ty_view U) e p q), refl)

none_of : (a b c : Bool) → a ≡ false → b ≡ false → c ≡ false → (a || (b || c)) ≡ false
none_of false false false p q r = refl
none_of true b c p q r = absurd (cc)
none_of false true c p q r = absurd (cc)
none_of false false true p q r = absurd (cc)

module _ (law : Law) (m : Metamodels) (t : Transitive m) where
  -- what covers one that another is like covers the other, where its answer is below the bound
  covers_like : (v w x : Signature) (e : ℕ) → covers m v w ≡ true → answers_below m v.answer e ≡ true → is_like m w x e ≡ true → covers m v x ≡ true
  unfolding covers is_misfit
  covers_like v w x e c below like =
      let sort_is : same_sort v.sort w.sort ≡ true = and_left (same_sort v.sort w.sort) _ c in
      let others : (not (params_differ v.params w.params || (is_wider m v.answer w.answer || are_unlike v.sort w.sort)) && (know_all v.params w.params && knows v.answer w.answer)) ≡ true
      = and_right (same_sort v.sort w.sort) _ c in
      let fits : (params_differ v.params w.params || (is_wider m v.answer w.answer || are_unlike v.sort w.sort)) ≡ false
      = is_not (params_differ v.params w.params || (is_wider m v.answer w.answer || are_unlike v.sort w.sort)) (and_left _ (know_all v.params w.params && knows v.answer w.answer) others) in
      let known : (know_all v.params w.params && knows v.answer w.answer) ≡ true = and_right (not (params_differ v.params w.params || (is_wider m v.answer w.answer || are_unlike v.sort w.sort))) _ others in
      let sort_like : same_sort w.sort x.sort ≡ true = and_left (same_sort w.sort x.sort) _ like in
      let rest : (same_types w.params x.params && answers_above m x.answer e) ≡ true = and_right (same_sort w.sort x.sort) _ like in
      let params : w.params ≡ x.params = types_are law w.params x.params (and_left (same_types w.params x.params) (answers_above m x.answer e) rest) in
      let answers : (is_wider m v.answer x.answer ≡ false) × (knows v.answer x.answer ≡ true)
      = fits_between m t v.answer x.answer e below (and_right (same_types w.params x.params) (answers_above m x.answer e) rest) in
      and_both (same_sort v.sort x.sort) _ (sorts v.sort w.sort x.sort sort_is sort_like)
      (and_both (not (params_differ v.params x.params || (is_wider m v.answer x.answer || are_unlike v.sort x.sort))) (know_all v.params x.params && knows v.answer x.answer)
      (ap not (none_of (params_differ v.params x.params) (is_wider m v.answer x.answer) (are_unlike v.sort x.sort)
      (ap (params_differ v.params) (sym params) ∙ (neither (params_differ v.params w.params) _ fits).0)
      answers.0
      (sym (unlike_is v.sort w.sort x.sort sort_like) ∙ (neither (is_wider m v.answer w.answer) _ (neither (params_differ v.params w.params) _ fits).1).1)))
      (and_both (know_all v.params x.params) (knows v.answer x.answer) (ap (know_all v.params) (sym params) ∙ and_left (know_all v.params w.params) _ known) answers.1))

  module _ (us : List Signature) (n : ℕ) where
    -- unit k asks what unit x asks: so it is covered
    one_like : (k x e : ℕ) → covers_at m us n k ≡ true → answers_below m (unit_at us n).answer e ≡ true → is_like_at m us (unit_at us k) e x ≡ true → covers_at m us n x ≡ true
    one_like k x e c below like =
        and_both (nat_lt n (length us)) _ (and_left (nat_lt n (length us)) _ c)
        (and_both (nat_lt x (length us)) (covers m (unit_at us n) (unit_at us x)) (and_left (nat_lt x (length us)) _ like)
        (covers_like (unit_at us n) (unit_at us k) (unit_at us x) e
        (and_right (nat_lt k (length us)) (covers m (unit_at us n) (unit_at us k)) (and_right (nat_lt n (length us)) _ c)) below (and_right (nat_lt x (length us)) _ like)))

    each_like : (k e : ℕ) → covers_at m us n k ≡ true → answers_below m (unit_at us n).answer e ≡ true → (ks : List ℕ) → list_all (is_like_at m us (unit_at us k) e) ks ≡ true
        → (x : ℕ) → SomeAsks m us ks x → Asks m us n x
    each_like k e c below [] all x some = absurd some
    each_like k e c below (i ∷ is) all x some = elim some [
      | inl a ↦ through m us law t n i x (one_like k i e c below (and_left (is_like_at m us (unit_at us k) e i) _ all)) a
      | inr r ↦ each_like k e c below is (and_right (is_like_at m us (unit_at us k) e i) _ all) x r
    ]

    pub bound_asks : (ks : List ℕ) (e : ℕ) → are_bounded m us ks e ≡ true → asks_bounded m us n ks e ≡ true → (x : ℕ) → SomeAsks m us ks x → Asks m us n x
    bound_asks [] e bounded asks x some = absurd some
    bound_asks (k ∷ ks) e bounded asks x some = each_like k e (and_left (covers_at m us n k) _ asks)
        (and_right (nat_lt n (length us)) (answers_below m (unit_at us n).answer e) (and_right (covers_at m us n k) _ asks)) (k ∷ ks) (and_right (nat_lt k (length us)) _ bounded) x some
