-- The features of a class that ask for an item: listed, and met by slots one after the other.
use Rattle.std.proofs.Common.{◌≡◌, ◌∙◌, ℕ, zero, suc, ◌+◌, ◌<◌, ◌==◌, nat_eq, cond, List, [], ◌∷◌, ◌||◌, length, take, get_or, Bool, true, false, refl, sym, ap, subst, arith}
use Rattle.std.specs.Prelude.{Some, if◌then◌else◌}
use Rattle.std.specs.List.Sorted.{IsPermutation}
use Rattle.std.specs.Map.{lookup}
use Rattle.std.proofs.lemmas.Bool.{eqb-true, eq-eqb, or_left, or_right}
use Rattle.std.proofs.lemmas.List.{take_all}
use Rattle.std.proofs.lemmas.List.Folds.{list_any_more}
use Rattle.std.proofs.lemmas.List.Sorted.{list_any-IsPermutation}
use Rattle.indexmap.specs.IndexMap.{IndexMap, get, IsEmpty, Updates}
use Rattle.qvt_base.specs.declared.numbers.FeatureNo.{FeatureNo}
use Rattle.qvt_metas.specs.Metamodels.{Metamodels, among_features, features_of}
use Rattle.qvt_model.specs.declared.data.SlotData.{SlotData}
use Rattle.qvt_conform.specs.Asked.{asks, asking, has_slot, HasAsked, HaveAsked, AreMet, IfListed, AreListed}

-- those that ask are among them
asking_has : (m : Metamodels) (fs : List FeatureNo) (f : ℕ) → among_features f fs ≡ true → asks m f ≡ true → among_features f (asking m fs) ≡ true
asking_has m [] f h a = h
asking_has m (g ∷ fs) f h a = by (asks m g.0) refl (g.0 == f) refl h (λ k. asking_has m fs f k a)
  where
    by : (b : Bool) → asks m g.0 ≡ b → (c : Bool) → (g.0 == f) ≡ c → (c || among_features f fs) ≡ true → (among_features f fs ≡ true → among_features f (asking m fs) ≡ true)
        → among_features f (if b then g ∷ asking m fs else asking m fs) ≡ true
    by true e true d there ih = or_left (g.0 == f) (among_features f (asking m fs)) d
    by true e false d there ih = or_right (g.0 == f) (among_features f (asking m fs)) (ih there)
    by false e true d there ih = (let n : true ≡ false = sym a ∙ ap (asks m) (sym (eqb-true g.0 f d)) ∙ e in absurd cc)
    by false e false d there ih = ih there

-- in any order
pub asked_reordered : (m : Metamodels) (fs asked : List FeatureNo) → IsPermutation (asking m fs) asked → HasAsked m fs asked
asked_reordered m fs asked p = record { each = λ f h a. sym (list_any-IsPermutation (λ g. g.0 == f) (asking m fs) asked p) ∙ asking_has m fs f h a }

slot_there : (ts : List SlotData) (j : ℕ) (d : SlotData) (f : ℕ) → j < length ts → (get_or ts j d).feature.0 ≡ f → has_slot ts f ≡ true
slot_there [] j d f lt e = absurd (omega (arith, lt))
slot_there (t ∷ ts) zero d f lt e = or_left (t.feature.0 == f) (has_slot ts f) (eq-eqb t.feature.0 f e)
slot_there (t ∷ ts) (suc j) d f lt e = or_right (t.feature.0 == f) (has_slot ts f) (slot_there ts j d f (omega (arith, lt)) e)

pub none_yet : (asked : List FeatureNo) (ts : List SlotData) → HaveAsked (take 0 asked) ts
none_yet asked ts = record { each = λ f h. cc }

-- the next of them has the slot that stands here
pub next_met : (asked : List FeatureNo) (ts : List SlotData) (n j : ℕ) (g : FeatureNo) (t : SlotData) → n < length asked → g ≡ get_or asked n g → j < length ts → t ≡ get_or ts j t
    → g.0 ≡ t.feature.0 → HaveAsked (take n asked) ts → HaveAsked (take (n + 1) asked) ts
next_met asked ts n j g t lt is below at same have = record { each = λ f h. either f (among_features f (take n asked)) refl (sym (list_any_more (λ k. k.0 == f) asked n g lt) ∙ h) }
  where
    either : (f : ℕ) (b : Bool) → among_features f (take n asked) ≡ b → (b || ((get_or asked n g).0 == f)) ≡ true → has_slot ts f ≡ true
    either f true e k = have.each f e
    either f false e k = slot_there ts j t f below (ap (λ (s : SlotData). s.feature.0) (sym at) ∙ sym same ∙ ap (λ (x : FeatureNo). x.0) is ∙ eqb-true (get_or asked n g).0 f k)

pub all_met : (asked : List FeatureNo) (ts : List SlotData) (n : ℕ) → n ≡ length asked → HaveAsked (take n asked) ts → HaveAsked asked ts
all_met asked ts n e have = subst (λ fs. HaveAsked fs ts) (take_all n asked (omega (arith, e))) have

-- no class is listed
pub nothing_listed : {S : Type 0} (m : Metamodels) (lists : IndexMap ℕ (List FeatureNo) S) → IsEmpty lists → AreListed m lists
nothing_listed m lists none = record { each = λ c. subst (λ es. IfListed m c (lookup (nat_eq c) es)) (sym none) tt }

-- one more is
pub one_listed : {S : Type 0} (m : Metamodels) (lists next : IndexMap ℕ (List FeatureNo) S) (c : ℕ) (asked : List FeatureNo) → HasAsked m (features_of m c) asked
    → Updates nat_eq lists next c (Some asked) → AreListed m lists → AreListed m next
one_listed m lists next c asked has new old = record { each = λ q. subst (IfListed m q) (sym (new.0 q)) (by q (nat_eq c q) refl) }
  where
    by : (q : ℕ) (b : Bool) → nat_eq c q ≡ b → IfListed m q (cond b (Some asked) (get nat_eq lists q))
    by q true e = subst (λ d. HasAsked m (features_of m d) asked) (eqb-true c q e) has
    by q false e = old.each q

-- the slots that meet a list meet the class
pub class_met : {S : Type 0} (m : Metamodels) (lists : IndexMap ℕ (List FeatureNo) S) (c : ℕ) (asked : List FeatureNo) (ts : List SlotData) → AreListed m lists
    → get nat_eq lists c ≡ Some asked → HaveAsked asked ts → AreMet m (features_of m c) ts
class_met m lists c asked ts old is have =
    let has : HasAsked m (features_of m c) asked = subst (IfListed m c) is (old.each c) in
    record { each = λ f h a. have.each f (has.each f h a) }
