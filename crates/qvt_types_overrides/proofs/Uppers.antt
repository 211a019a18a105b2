-- A class that another is below is above all others, or a superclass of one.
use Rattle.std.proofs.Common.{◌≡◌, ◌∙◌, ℕ, zero, suc, ◌+◌, ◌<◌, ◌≤◌, ◌==◌, List, [], ◌∷◌, length, drop, get_or, Bool, true, false, not, ◌||◌, inl, inr, refl, sym, ap, arith}
use Rattle.std.specs.List.{list_any}
use Rattle.std.proofs.lemmas.Bool.{eq-eqb}
use Rattle.std.proofs.lemmas.List.{at_drop_more}
use Rattle.qvt_relation.specs.Closure.{directly, through}
use Rattle.qvt_metas.specs.Metamodels.{Metamodels, is_element, nowhere_class}
use Rattle.qvt_metas.specs.Descends.{Inherits, IsAncestor, descends}
use Rattle.qvt_metamodel.specs.declared.info.ClassInfo.{ClassInfo}
use Rattle.qvt_metamodel.proofs.Bools.{and_left, and_right, or_left, or_right, clash}
use Rattle.qvt_types_groups.specs.declared.signature.HeadClass.{HeadClass}
use Rattle.qvt_types_groups.specs.declared.signature.HeadClass.TheVariants.{Missing, Unknown, Known}
use Rattle.qvt_types_groups.specs.Overrides.{is_strictly_below}
use Rattle.qvt_types_groups.proofs.ByClass.{AreLeast}
use Rattle.qvt_types_overrides.specs.Upper.{is_super, is_upper}

super_there : (ks : List ClassInfo) (i c : ℕ) → list_any (λ s. s.0 == c) (get_or ks i nowhere_class).supers ≡ true → is_super ks c ≡ true
super_there [] i c h = absurd (cc)
super_there (k ∷ ks) zero c h = or_left (list_any (λ s. s.0 == c) k.supers) (is_super ks c) h
super_there (k ∷ ks) (suc i) c h = or_right (list_any (λ s. s.0 == c) k.supers) (is_super ks c) (super_there ks i c h)

inherits_super : (m : Metamodels) {c d : ℕ} → Inherits m c d → is_super m.classes d ≡ true
inherits_super m (directly {x} {y} up) = super_there m.classes x y up
inherits_super m (through {x} {y} {z} up rest) = inherits_super m rest

ancestor_upper : (m : Metamodels) (c d : ℕ) → IsAncestor m c d → (is_element m d || is_super m.classes d) ≡ true
ancestor_upper m c d (inl up) = or_right (is_element m d) (is_super m.classes d) (inherits_super m up)
ancestor_upper m c d (inr over) = or_left (is_element m d) (is_super m.classes d) over

pub below_upper : (m : Metamodels) → AreLeast m → (h i : HeadClass) → is_strictly_below m h i ≡ true → is_upper m i ≡ true
below_upper m least Missing i e = absurd (cc)
below_upper m least Unknown i e = absurd (cc)
below_upper m least (Known c) Missing e = absurd (cc)
below_upper m least (Known c) Unknown e = absurd (cc)
below_upper m least (Known c) (Known d) e = elim ((least c.0 d.0).0 (and_right (not (c.0 == d.0)) (descends m c.0 d.0) e)) [
  | inl same ↦ clash (and_left (not (c.0 == d.0)) (descends m c.0 d.0) e) (ap not (eq-eqb c.0 d.0 same))
  | inr up ↦ ancestor_upper m c.0 d.0 up
]

-- The walk over items, where a test of them is joined to what it was of others.

or_or : (a b c : Bool) → ((a || b) || c) ≡ (a || (b || c))
or_or true b c = refl
or_or false b c = refl

or_false : (a : Bool) → (a || false) ≡ a
or_false true = refl
or_false false = refl

pub goes_on : {X : Type 0} (p : X → Bool) (xs : List X) (k : ℕ) (d : X) (a b all : Bool) → k < length xs
    → b ≡ (a || p (get_or xs k d)) → (a || list_any p (drop k xs)) ≡ all → (b || list_any p (drop (k + 1) xs)) ≡ all
goes_on p xs k d a b all l joined h =
    ap (λ t. t || list_any p (drop (k + 1) xs)) joined
    ∙ or_or a (p (get_or xs k d)) (list_any p (drop (k + 1) xs))
    ∙ ap (λ t. a || t) (sym (at_drop_more (list_any p) xs k d l)) ∙ h

none_left : {X : Type 0} (xs : List X) (k : ℕ) → length xs ≤ k → drop k xs ≡ []
none_left [] zero l = refl
none_left [] (suc k) l = refl
none_left (x ∷ xs) zero l = absurd (omega (arith, l))
none_left (x ∷ xs) (suc k) l = none_left xs k (omega (arith, l))

pub ended : {X : Type 0} (p : X → Bool) (xs : List X) (k : ℕ) (a all : Bool) → length xs ≤ k → (a || list_any p (drop k xs)) ≡ all → a ≡ all
ended p xs k a all l h = sym (or_false a) ∙ ap (λ ys. a || list_any p ys) (sym (none_left xs k l)) ∙ h
