-- What a feature that is no bad containment and no bad opposite keeps.
use Rattle.std.proofs.Common.{◌≡◌, ◌∙◌, List, [], ◌∷◌, Bool, true, false, ◌||◌, ◌&&◌, not, is_some, refl, ap}
use Rattle.std.specs.List.{list_any}
use Rattle.qvt_metamodel.specs.declared.declared.DeclaredFeature.{DeclaredFeature}
use Rattle.qvt_metamodel.specs.declared.declared.DeclaredClass.{DeclaredClass}
use Rattle.qvt_metamodel.specs.MetaData.{MetaData, class_names}
use Rattle.qvt_metamodel.specs.Names.{is_among}
use Rattle.qvt_metamodel.specs.Checks.{is_mutual, is_one_at_most, type_features, declares_link, has_no_class, may_repeat, is_undeclared, is_own_opposite, are_both_containments, has_many_containers, is_bad_opposite}

-- both ends are containments, or one is and the other has another upper bound than 1
abbrev pub is_contained_wrong : DeclaredFeature → DeclaredFeature → Bool
is_contained_wrong f g = g.containment && (f.containment || not (is_one_at_most f.upper))

left_no : (a b : Bool) → (a || b) ≡ false → a ≡ false
left_no true b h = h
left_no false b h = refl

right_no : (a b : Bool) → (a || b) ≡ false → b ≡ false
right_no true b h = absurd (cc)
right_no false b h = h

and_left_no : (a b : Bool) → a ≡ true → (a && b) ≡ false → b ≡ false
and_left_no true b t h = h
and_left_no false b t h = absurd (cc)

not_no : (a : Bool) → not a ≡ false → a ≡ true
not_no true h = refl
not_no false h = absurd (cc)

-- where neither both ends are containments nor the container is one of many, no opposite is contained wrongly
both_no : (k : DeclaredClass) (f : DeclaredFeature) (gs : List DeclaredFeature)
    → (f.containment && list_any (λ g. is_mutual k f g && g.containment) gs) ≡ false → (not (is_one_at_most f.upper) && list_any (λ g. is_mutual k f g && g.containment) gs) ≡ false
    → list_any (λ g. is_mutual k f g && is_contained_wrong f g) gs ≡ false
both_no k f [] p q = refl
both_no k f (g ∷ gs) p q =
    let e : ((is_mutual k f g && is_contained_wrong f g) ≡ false) × ((f.containment && list_any (λ g. is_mutual k f g && g.containment) gs) ≡ false) × ((not (is_one_at_most f.upper) && list_any (λ g. is_mutual k f g && g.containment) gs) ≡ false) =
    by f.containment (not (is_one_at_most f.upper)) (is_mutual k f g) g.containment (list_any (λ g. is_mutual k f g && g.containment) gs) p q in
    ap (λ t. t || list_any (λ g. is_mutual k f g && is_contained_wrong f g) gs) e.0 ∙ both_no k f gs e.1 e.2
  where
    by : (c w m h r : Bool) → (c && ((m && h) || r)) ≡ false → (w && ((m && h) || r)) ≡ false → ((m && (h && (c || w))) ≡ false) × ((c && r) ≡ false) × ((w && r) ≡ false)
    by true w true true r p q = absurd (cc)
    by true true true false r p q = (refl, p, q)
    by true false true false r p q = (refl, p, refl)
    by true true false h r p q = (refl, p, q)
    by true false false h r p q = (refl, p, refl)
    by false true true true r p q = absurd (cc)
    by false true true false r p q = (refl, refl, q)
    by false true false h r p q = (refl, refl, q)
    by false false true true r p q = (refl, refl, refl)
    by false false true false r p q = (refl, refl, refl)
    by false false false h r p q = (refl, refl, refl)

module _ (d : MetaData) (k : DeclaredClass) (f : DeclaredFeature) (fine : is_bad_opposite d k f ≡ false) where
  five : (has_no_class d f || may_repeat f || is_undeclared d k f || is_own_opposite k f || are_both_containments d k f) ≡ false
  five = left_no _ (has_many_containers d k f) fine

  four : (has_no_class d f || may_repeat f || is_undeclared d k f || is_own_opposite k f) ≡ false
  four = left_no _ (are_both_containments d k f) five

  three : (has_no_class d f || may_repeat f || is_undeclared d k f) ≡ false
  three = left_no _ (is_own_opposite k f) four

  two : (has_no_class d f || may_repeat f) ≡ false
  two = left_no _ (is_undeclared d k f) three

  pub typed_by_class : declares_link f ≡ true → is_among f.kind (class_names d) ≡ true
  typed_by_class linked = not_no _ (and_left_no (declares_link f) _ linked (left_no _ (may_repeat f) two))

  pub linked_once : declares_link f ≡ true → f.unique ≡ true
  linked_once linked = not_no _ (and_left_no (declares_link f) _ linked (right_no (has_no_class d f) _ two))

  pub declared_opposite : is_some f.opposite ≡ true → list_any (is_mutual k f) (type_features d f) ≡ true
  declared_opposite some = not_no _ (and_left_no (is_some f.opposite) _ some (right_no (has_no_class d f || may_repeat f) _ three))

  pub other_opposite : is_own_opposite k f ≡ false
  other_opposite = right_no (has_no_class d f || may_repeat f || is_undeclared d k f) _ four

  pub contained_right : list_any (λ g. is_mutual k f g && is_contained_wrong f g) (type_features d f) ≡ false
  contained_right = both_no k f (type_features d f) (right_no (has_no_class d f || may_repeat f || is_undeclared d k f || is_own_opposite k f) _ five) (right_no (has_no_class d f || may_repeat f || is_undeclared d k f || is_own_opposite k f || are_both_containments d k f) _ fine)
