-- The place of a feature among those of a class.
use Rattle.std.proofs.Common.{◌≡◌, ◌≢◌, ℕ, zero, suc, ◌<◌, Bool, true, false, ◌||◌, ◌==◌, cond, refl, sym, ap, ◌∙◌, List, [], ◌∷◌, map, length, set, get_or, position, Option, Some, None, arith}
use Rattle.std.specs.Prelude.{slice_index_or, IfNone, IfSome, IsFalse}
use Rattle.std.specs.List.{position_or_len}
use Rattle.std.proofs.lemmas.Bool.{eq-eqb, ne_eqb, eqb-true, lt-ltb}
use Rattle.std.proofs.lemmas.List.Quantifiers.{position-Some}
use Rattle.std.proofs.lemmas.Bool.Decides.{Decides-eqb}
use Rattle.qvt_base.specs.declared.numbers.FeatureNo.{FeatureNo}
use Rattle.qvt_value.specs.declared.value.Value.{Value}
use Rattle.qvt_metas.specs.Metamodels.{among_features}
use Rattle.qvt_metamodel.proofs.Positions.{any-within}
use Rattle.qvt_relation.proofs.Bools.{or_none, refuted, clash}
use Rattle.qvt_slots.specs.Cells.{IsPlaceOf}
use Rattle.qvt_slots.specs.Contents.{list_of, set_list}

pub absent : (gs : List FeatureNo) (f : ℕ) → ((k : ℕ) → k < length gs → (slice_index_or gs k (record { 0 = 0 })).0 ≢ f) → among_features f gs ≡ false
absent [] f none = refl
absent (g ∷ gs) f none = or_none _ _ (refuted _ (λ e. none 0 (omega arith) ((Decides-eqb g.0 f).0 e))) (absent gs f (λ k h. none (suc k) (omega arith)))

pub later : (g : FeatureNo) (gs : List FeatureNo) (f i : ℕ) → IsPlaceOf (g ∷ gs) f (suc i) → IsPlaceOf gs f i
later g gs f i at = let w : suc i < length (g ∷ gs) = at.within in record { within = omega arith; here = at.here; earlier = λ k h. at.earlier (suc k) (omega arith) }

pub list_of-place : (gs : List FeatureNo) (lists : List (List Value)) (f i : ℕ) → length lists ≡ length gs → IsPlaceOf gs f i → list_of gs lists f ≡ slice_index_or lists i []
list_of-place [] lists f i l at = let w : i < length (let n : List FeatureNo = [] in n) = at.within in absurd (omega arith)
list_of-place (g ∷ gs) [] f i l at = absurd (omega arith)
list_of-place (g ∷ gs) (vs ∷ lists) f zero l at = ap (λ b. cond b vs (list_of gs lists f)) (eq-eqb g.0 f at.here)
list_of-place (g ∷ gs) (vs ∷ lists) f (suc i) l at =
    ap (λ b. cond b vs (list_of gs lists f)) (ne_eqb g.0 f (at.earlier 0 (omega arith)))
    ∙ list_of-place gs lists f i (omega arith) (later g gs f i at)

pub set_list-place : (gs : List FeatureNo) (lists : List (List Value)) (f i : ℕ) (vs : List Value) → length lists ≡ length gs → IsPlaceOf gs f i → set_list gs lists f vs ≡ set lists i vs
set_list-place [] lists f i vs l at = let w : i < length (let n : List FeatureNo = [] in n) = at.within in absurd (omega arith)
set_list-place (g ∷ gs) [] f i vs l at = absurd (omega arith)
set_list-place (g ∷ gs) (us ∷ lists) f zero vs l at = ap (λ b. cond b (vs ∷ lists) (us ∷ set_list gs lists f vs)) (eq-eqb g.0 f at.here)
set_list-place (g ∷ gs) (us ∷ lists) f (suc i) vs l at =
    ap (λ b. cond b (vs ∷ lists) (us ∷ set_list gs lists f vs)) (ne_eqb g.0 f (at.earlier 0 (omega arith)))
    ∙ ap (λ t. us ∷ t) (set_list-place gs lists f i vs (omega arith) (later g gs f i at))

pub list_of-other : (gs : List FeatureNo) (lists : List (List Value)) (p i f : ℕ) (vs : List Value) → length lists ≡ length gs → IsPlaceOf gs p i → f ≢ p → list_of gs (set lists i vs) f ≡ list_of gs lists f
list_of-other [] lists p i f vs l at other = refl
list_of-other (g ∷ gs) [] p i f vs l at other = absurd (omega arith)
list_of-other (g ∷ gs) (us ∷ lists) p zero f vs l at other =
    let n : g.0 ≢ f = λ e. other (sym e ∙ at.here) in
    ap (λ b. cond b vs (list_of gs lists f)) (ne_eqb g.0 f n) ∙ sym (ap (λ b. cond b us (list_of gs lists f)) (ne_eqb g.0 f n))
list_of-other (g ∷ gs) (us ∷ lists) p (suc i) f vs l at other =
    ap (λ t. cond (g.0 == f) us t) (list_of-other gs lists p i f vs (omega arith) (later g gs p i at) other)

pub list_of-absent : (gs : List FeatureNo) (lists : List (List Value)) (f : ℕ) → among_features f gs ≡ false → list_of gs lists f ≡ []
list_of-absent [] lists f e = refl
list_of-absent (g ∷ gs) [] f e = refl
list_of-absent (g ∷ gs) (vs ∷ lists) f e = go (g.0 == f) e (list_of-absent gs lists f)
  where
    go : (b : Bool) → (b || among_features f gs) ≡ false → (among_features f gs ≡ false → list_of gs lists f ≡ []) → cond b vs (list_of gs lists f) ≡ []
    go true e ih = cc
    go false e ih = ih e

pub list_of-nil : (gs : List FeatureNo) (f : ℕ) → list_of gs [] f ≡ []
list_of-nil [] f = refl
list_of-nil (g ∷ gs) f = refl

pub no_lists : (gs : List FeatureNo) (f : ℕ) → list_of gs (map (λ _. []) gs) f ≡ []
no_lists [] f = refl
no_lists (g ∷ gs) f = go (g.0 == f) (no_lists gs f)
  where
    go : (b : Bool) → list_of gs (map (λ _. []) gs) f ≡ [] → cond b [] (list_of gs (map (λ _. []) gs) f) ≡ []
    go true e = refl
    go false e = e

-- the first place at which a feature stands, as it is looked up

pub place_found : (gs : List FeatureNo) (f i : ℕ) → position (λ (g : FeatureNo). g.0 == f) gs ≡ Some i → IsPlaceOf gs f i
place_found gs f i e =
    let at = position-Some (λ (g : FeatureNo). g.0 == f) gs i (record { 0 = 0 }) e in
    record {
      within = at.0;
      here = eqb-true (get_or gs i (record { 0 = 0 })).0 f at.1;
      earlier = λ k l same. clash _ (eq-eqb (get_or gs k (record { 0 = 0 })).0 f same) (at.2 k l);
    }

pub place_missing : (gs : List FeatureNo) (f : ℕ) → position (λ (g : FeatureNo). g.0 == f) gs ≡ None → among_features f gs ≡ false
place_missing gs f e = by (among_features f gs) refl
  where
    by : (b : Bool) → among_features f gs ≡ b → among_features f gs ≡ false
    by false h = h
    by true h = absurd (let some : position (λ (g : FeatureNo). g.0 == f) gs ≡ Some (position_or_len (λ (g : FeatureNo). g.0 == f) gs) =
        ap (λ b. cond b (Some (position_or_len (λ (g : FeatureNo). g.0 == f) gs)) None) (lt-ltb _ (length gs) (any-within (λ (g : FeatureNo). g.0 == f) gs h)) in
        let no : None ≡ Some (position_or_len (λ (g : FeatureNo). g.0 == f) gs) = sym e ∙ some in cc)

pub if_missing : (gs : List FeatureNo) (f : ℕ) (o : Option ℕ) → o ≡ position (λ (g : FeatureNo). g.0 == f) gs → IfNone o (IsFalse (among_features f gs))
if_missing gs f None e = place_missing gs f (sym e)
if_missing gs f (Some i) e = tt

pub if_found : (gs : List FeatureNo) (f : ℕ) (o : Option ℕ) → o ≡ position (λ (g : FeatureNo). g.0 == f) gs → IfSome o (λ i. IsPlaceOf gs f i)
if_found gs f None e = tt
if_found gs f (Some i) e = place_found gs f i (sym e)
