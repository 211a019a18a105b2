-- Ends of opposites that are put into sets, and looked up there.
use Rattle.std.proofs.Common.{◌≡◌, ◌∙◌, ℕ, zero, suc, ◌+◌, ◌<◌, ◌≤◌, List, [], ◌∷◌, ◌++◌, length, drop, get_or, Bool, true, false, cond, ◌||◌, ◌&&◌, not, Some, None, is_some, refl, sym, ap, subst, arith}
use Rattle.std.proofs.lemmas.List.{at_drop_more, get_or_past}
use Rattle.std.proofs.lemmas.Slice.Eq.{bytes_eq-Decides}
use Rattle.std.specs.List.{list_any}
use Rattle.std.specs.Str.{bytes_eq}
use Rattle.qvt_metamodel.specs.declared.declared.DeclaredFeature.{DeclaredFeature}
use Rattle.qvt_metamodel.specs.declared.declared.DeclaredClass.{DeclaredClass}
use Rattle.qvt_metamodel.specs.declared.declared.MetaData.{MetaData}
use Rattle.qvt_metamodel.specs.Checks.{is_given_name, is_one_at_most, is_mutual, type_features, is_contained, has_no_class, may_repeat, is_undeclared, is_own_opposite, are_both_containments, has_many_containers, is_bad_opposite}
use Rattle.qvt_metamodel.specs.Added.{declared_at, nothing_declared}
use Rattle.qvt_metamodel.proofs.Bools.{not_true, clash}
use Rattle.qvt_metamodel.proofs.Halves.{Half, old, new, half, old-at, new-at}
use Rattle.qvt_metamodel.proofs.ListFacts.{list_any-cong, list_any-none, all-every}
use Rattle.qvt_meta_checks.specs.declared.ends.OppositeEnd.{OppositeEnd}
use Rattle.qvt_meta_checks.specs.declared.ends.Ends.{Ends}
use Rattle.qvt_meta_checks.specs.Ends.{same_end, is_end, JoinedEnd, AreEnds, AreEndsOf, AreAllEnds, no_ends, may_not_be_contained}

or_or : (a b c : Bool) → ((a || b) || c) ≡ (a || (b || c))
or_or true b c = refl
or_or false b c = refl

and_and : (a b c : Bool) → (a && (b && c)) ≡ ((a && b) && c)
and_and true b c = refl
and_and false b c = refl

or_false : (a : Bool) → (a || false) ≡ a
or_false true = refl
or_false false = refl

flip : (x y : List ℕ) → bytes_eq x y ≡ bytes_eq y x
flip x y = by (bytes_eq x y) refl
  where
    by : (t : Bool) → bytes_eq x y ≡ t → bytes_eq x y ≡ bytes_eq y x
    by true e = e ∙ sym ((bytes_eq-Decides y x).1 (sym ((bytes_eq-Decides x y).0 e)))
    by false e = e ∙ sym (not_true (bytes_eq y x) (λ h. clash ((bytes_eq-Decides x y).1 (sym ((bytes_eq-Decides y x).0 h))) e))

-- one end more
same_flip : (a b : OppositeEnd) → same_end a b ≡ same_end b a
same_flip a b = λ i. flip a.name b.name i && (flip a.kind b.kind i && flip a.opposite b.opposite i)

pub end_joined : (had has : List OppositeEnd) (k : OppositeEnd) → ((q : OppositeEnd) → list_any (same_end q) has ≡ cond (same_end k q) true (list_any (same_end q) had))
    → (e : OppositeEnd) → list_any (same_end e) has ≡ (list_any (same_end e) had || same_end e k)
end_joined had has k is e = is e ∙ ap (λ t. cond t true (list_any (same_end e) had)) (same_flip k e) ∙ by (same_end e k) (list_any (same_end e) had)
  where
    by : (t a : Bool) → cond t true a ≡ (a || t)
    by true true = refl
    by true false = refl
    by false true = refl
    by false false = refl

pub one_joined : (had has : List OppositeEnd) (g : DeclaredFeature) (k : OppositeEnd) → k.name ≡ g.name → k.kind ≡ g.kind → g.opposite ≡ Some k.opposite
    → ((e : OppositeEnd) → list_any (same_end e) has ≡ (list_any (same_end e) had || same_end e k)) → JoinedEnd false had g has
one_joined had has g k en ek eo is = record {
  holds = λ e. is e ∙ (λ i. list_any (same_end e) had || (bytes_eq e.name (en i) && (bytes_eq e.kind (ek i) && is_given_name (sym eo i) e.opposite)));
}

pub none_joined : (only : Bool) (had : List OppositeEnd) (g : DeclaredFeature) → g.opposite ≡ None → JoinedEnd only had g had
none_joined only had g e = record {
  holds = λ x. none only (list_any (same_end x) had) (bytes_eq x.name g.name) (bytes_eq x.kind g.kind) g.containment
      ∙ ap (λ o. list_any (same_end x) had || ((not only || g.containment) && (bytes_eq x.name g.name && (bytes_eq x.kind g.kind && is_given_name o x.opposite)))) (sym e);
}
  where
    none : (only a b c d : Bool) → a ≡ (a || ((not only || d) && (b && (c && false))))
    none true true b c d = refl
    none false true b c d = refl
    none true false true true true = refl
    none true false true true false = refl
    none true false true false true = refl
    none true false true false false = refl
    none true false false c true = refl
    none true false false c false = refl
    none false false true true d = refl
    none false false true false d = refl
    none false false false c d = refl

-- a feature that does not count, and one that does
pub uncounted : (only : Bool) (had : List OppositeEnd) (g : DeclaredFeature) → (only && not g.containment) ≡ true → JoinedEnd only had g had
uncounted only had g h = record { holds = λ e. by only g.containment (is_end e g) (list_any (same_end e) had) h }
  where
    by : (o c i a : Bool) → (o && not c) ≡ true → a ≡ (a || ((not o || c) && i))
    by true true i a h = absurd (cc)
    by false c i a h = absurd (cc)
    by true false i true h = refl
    by true false i false h = refl

pub counted : (only : Bool) (had has : List OppositeEnd) (g : DeclaredFeature) → (only && not g.containment) ≡ false → JoinedEnd false had g has → JoinedEnd only had g has
counted only had has g h is = record { holds = λ e. is.holds e ∙ ap (λ t. list_any (same_end e) had || t) (by only g.containment (is_end e g) h) }
  where
    by : (o c i : Bool) → (o && not c) ≡ false → ((not false || c) && i) ≡ ((not o || c) && i)
    by true true i h = refl
    by true false i h = absurd (cc)
    by false c i h = refl

-- the ends of the class at a place
pub declared_there : (ks : List DeclaredClass) (ends : List Ends) (c : ℕ) (e : OppositeEnd) → AreAllEnds ks ends → list_any (same_end e) (get_or ends c no_ends).all ≡ list_any (is_end e) (declared_at ks c).features
declared_there ks ends c e are = (are.at c).all e

pub same_ends : (ks ls : List DeclaredClass) (es fs : List Ends) → ls ≡ ks → fs ≡ es → AreAllEnds ls es → AreAllEnds ks fs
same_ends ks ls es fs ek ef are = subst (λ (xs : List DeclaredClass). AreAllEnds xs fs) ek (subst (AreAllEnds ls) (sym ef) are)

pub contained_there : (ks : List DeclaredClass) (ends : List Ends) (c : ℕ) (e : OppositeEnd) → AreAllEnds ks ends
    → list_any (same_end e) (get_or ends c no_ends).containers ≡ list_any (λ g. g.containment && is_end e g) (declared_at ks c).features
contained_there ks ends c e are = (are.at c).containers e

-- the walk over features goes on by one
pub goes_on : (p : DeclaredFeature → Bool) (gs : List DeclaredFeature) (k : ℕ) (x : DeclaredFeature) (a b all : Bool) → k < length gs → x ≡ get_or gs k x
    → b ≡ (a || p x) → (a || list_any p (drop k gs)) ≡ all → (b || list_any p (drop (k + 1) gs)) ≡ all
goes_on p gs k x a b all l is joined h =
    ap (λ t. t || list_any p (drop (k + 1) gs)) (joined ∙ ap (λ y. a || p y) is)
    ∙ or_or a (p (get_or gs k x)) (list_any p (drop (k + 1) gs))
    ∙ ap (λ t. a || t) (sym (at_drop_more (list_any p) gs k x l)) ∙ h

pub ended : (p : DeclaredFeature → Bool) (gs : List DeclaredFeature) (k : ℕ) (a : Bool) → length gs ≤ k → (a || list_any p (drop k gs)) ≡ list_any p gs → a ≡ list_any p gs
ended p gs k a l h = sym (or_false a) ∙ ap (λ fs. a || list_any p fs) (sym (none_left gs k l)) ∙ h
  where
    none_left : (gs : List DeclaredFeature) (k : ℕ) → length gs ≤ k → drop k gs ≡ []
    none_left [] zero l = refl
    none_left [] (suc k) l = refl
    none_left (g ∷ gs) zero l = absurd (omega (arith, l))
    none_left (g ∷ gs) (suc k) l = none_left gs k (omega (arith, l))

pub both_ends : (gs fs : List DeclaredFeature) (all containers : List OppositeEnd) → fs ≡ gs → AreEnds false fs all → AreEnds true fs containers → AreEndsOf gs (record { all = all; containers = containers })
both_ends gs fs all containers e x y = record {
  all = λ n. x.holds n ∙ ap (list_any (is_end n)) e;
  containers = λ n. y.holds n ∙ ap (list_any (λ (g : DeclaredFeature). g.containment && is_end n g)) e;
}

-- a fact of each item, when one more is put last
pub each-more : {X : Type 0} (P : ℕ → X → Type 0) (d : X) (xs : List X) (n : ℕ) (x : X) → length xs ≡ n → ((k : ℕ) → k < n → P k (get_or xs k d)) → P n x
    → (k : ℕ) → k < n + 1 → P k (get_or (xs ++ x ∷ []) k d)
each-more P d xs n x each all here k h = by k (half n k) h
  where
    place : (i : ℕ) → get_or (xs ++ x ∷ []) (n + i) d ≡ get_or (x ∷ []) i d
    place i = ap (λ y. get_or (xs ++ x ∷ []) (y + i) d) (sym each) ∙ new-at xs (x ∷ []) i d

    last : (i : ℕ) → n + i < n + 1 → P (n + i) (get_or (xs ++ x ∷ []) (n + i) d)
    last zero l = subst (P (n + 0)) (sym (place 0)) (subst (λ y. P y x) (let same : n ≡ n + 0 = omega arith in same) here)
    last (suc i) l = absurd (omega (arith, l))

    by : (k : ℕ) → Half n k → k < n + 1 → P k (get_or (xs ++ x ∷ []) k d)
    by _ (old k l) h = subst (P k) (sym (old-at xs (x ∷ []) k d (omega (arith, l, each)))) (all k l)
    by _ (new i) h = last i h

-- the ends of all classes, where those of each are there
pub all_of : (ks : List DeclaredClass) (k : ℕ) (es : List Ends) → length ks ≤ k → length es ≡ k
    → ((c : ℕ) → c < k → AreEndsOf (declared_at ks c).features (get_or es c no_ends)) → AreAllEnds ks es
all_of ks k es l total before = record { at = λ c. by c (half k c) }
  where
    by : (c : ℕ) → Half k c → AreEndsOf (declared_at ks c).features (get_or es c no_ends)
    by _ (old c l) = before c l
    by _ (new i) =
        subst (λ (y : DeclaredClass). AreEndsOf y.features (get_or es (k + i) no_ends)) (sym (get_or_past ks (k + i) nothing_declared (omega (arith, l))))
        (subst (AreEndsOf []) (sym (get_or_past es (k + i) no_ends (omega (arith, total)))) (record { all = λ e. refl; containers = λ e. refl }))

-- what the test asks of the features of the type, as a question to the sets
abbrev pub wanted : DeclaredClass → DeclaredFeature → List ℕ → OppositeEnd
wanted k f name = record { name = name; kind = k.name; opposite = f.name }

mutual_is : (k : DeclaredClass) (f : DeclaredFeature) (name : List ℕ) → f.opposite ≡ Some name → (g : DeclaredFeature) → is_end (wanted k f name) g ≡ is_mutual k f g
mutual_is k f name e g =
    and_and (bytes_eq name g.name) (bytes_eq k.name g.kind) (is_given_name g.opposite f.name)
    ∙ (λ i. (flip name g.name i && flip k.name g.kind i) && is_given_name g.opposite f.name)
    ∙ ap (λ o. (is_given_name o g.name && bytes_eq g.kind k.name) && is_given_name g.opposite f.name) (sym e)

pub has_mutual : (k : DeclaredClass) (f : DeclaredFeature) (name : List ℕ) (gs : List DeclaredFeature) → f.opposite ≡ Some name → list_any (is_end (wanted k f name)) gs ≡ list_any (is_mutual k f) gs
has_mutual k f name gs e = list_any-cong _ _ gs (all-every (λ g. is_end (wanted k f name) g ≡ is_mutual k f g) gs (mutual_is k f name e))

contained_is : (k : DeclaredClass) (f : DeclaredFeature) (name : List ℕ) → f.opposite ≡ Some name → (g : DeclaredFeature) → (g.containment && is_end (wanted k f name) g) ≡ (is_mutual k f g && g.containment)
contained_is k f name e g = by g.containment (is_end (wanted k f name) g) ∙ ap (λ t. t && g.containment) (mutual_is k f name e g)
  where
    by : (a b : Bool) → (a && b) ≡ (b && a)
    by true true = refl
    by true false = refl
    by false true = refl
    by false false = refl

pub has_container : (k : DeclaredClass) (f : DeclaredFeature) (name : List ℕ) (gs : List DeclaredFeature) → f.opposite ≡ Some name
    → list_any (λ g. g.containment && is_end (wanted k f name) g) gs ≡ list_any (λ g. is_mutual k f g && g.containment) gs
has_container k f name gs e = list_any-cong _ _ gs (all-every (λ g. (g.containment && is_end (wanted k f name) g) ≡ (is_mutual k f g && g.containment)) gs (contained_is k f name e))

pub unpaired : (m : MetaData) (k : DeclaredClass) (f : DeclaredFeature) (name : List ℕ) (d c i : Bool) → f.opposite ≡ Some name
    → d ≡ list_any (is_end (wanted k f name)) (type_features m f)
    → c ≡ (may_not_be_contained f && list_any (λ g. g.containment && is_end (wanted k f name) g) (type_features m f))
    → i ≡ (bytes_eq f.kind k.name && bytes_eq f.name name)
    → (not d || c || i) ≡ (is_undeclared m k f || is_own_opposite k f || are_both_containments m k f || has_many_containers m k f)
unpaired m k f name d c i e ed ec ei =
    let gs : List DeclaredFeature = type_features m f in
    let one : d ≡ list_any (is_mutual k f) gs = ed ∙ has_mutual k f name gs e in
    let two : c ≡ (may_not_be_contained f && is_contained m k f) = ec ∙ ap (λ t. may_not_be_contained f && t) (has_container k f name gs e) in
    let three : i ≡ is_own_opposite k f = ei ∙ ap (λ o. bytes_eq f.kind k.name && is_given_name o f.name) (sym e) in
    (λ t. not (one t) || two t || three t)
    ∙ by (list_any (is_mutual k f) gs) f.containment (not (is_one_at_most f.upper)) (is_contained m k f) (is_own_opposite k f)
    ∙ ap (λ o. (is_some o && not (list_any (is_mutual k f) gs)) || is_own_opposite k f || are_both_containments m k f || has_many_containers m k f) (sym e)
  where
    by : (d h w c i : Bool) → (not d || ((h || w) && c) || i) ≡ ((true && not d) || i || (h && c) || (w && c))
    by false h w c i = refl
    by true true true true true = refl
    by true true true true false = refl
    by true true true false true = refl
    by true true true false false = refl
    by true true false true true = refl
    by true true false true false = refl
    by true true false false true = refl
    by true true false false false = refl
    by true false true true true = refl
    by true false true true false = refl
    by true false true false true = refl
    by true false true false false = refl
    by true false false c true = refl
    by true false false c false = refl

-- a feature without an opposite has none that is wrong
pub alone : (m : MetaData) (k : DeclaredClass) (f : DeclaredFeature) → f.opposite ≡ None → (is_undeclared m k f || is_own_opposite k f || are_both_containments m k f || has_many_containers m k f) ≡ false
alone m k f e =
    (λ i. (is_some (e i) && not (list_any (is_mutual k f) (type_features m f))) || (bytes_eq f.kind k.name && is_given_name (e i) f.name) || (f.containment && none i) || (not (is_one_at_most f.upper) && none i))
    ∙ by (bytes_eq f.kind k.name) f.containment (not (is_one_at_most f.upper))
  where
    no_mutual : (g : DeclaredFeature) → (is_mutual k f g && g.containment) ≡ false
    no_mutual g = ap (λ o. is_given_name o g.name && bytes_eq g.kind k.name && is_given_name g.opposite f.name && g.containment) e

    none : is_contained m k f ≡ false
    none = list_any-none _ (type_features m f) (all-every (λ g. (is_mutual k f g && g.containment) ≡ false) (type_features m f) no_mutual)

    by : (a h w : Bool) → ((a && false) || (h && false) || (w && false)) ≡ false
    by true true true = refl
    by true true false = refl
    by true false true = refl
    by true false false = refl
    by false true true = refl
    by false true false = refl
    by false false true = refl
    by false false false = refl

-- a feature fails by its type or its uniqueness, or by its opposite alone
pub misplaced : (m : MetaData) (k : DeclaredClass) (f : DeclaredFeature) → (has_no_class m f || may_repeat f) ≡ true → is_bad_opposite m k f ≡ true
misplaced m k f h = ap (λ t. t || is_undeclared m k f || is_own_opposite k f || are_both_containments m k f || has_many_containers m k f) h

pub placed : (m : MetaData) (k : DeclaredClass) (f : DeclaredFeature) → (has_no_class m f || may_repeat f) ≡ false
    → is_bad_opposite m k f ≡ (is_undeclared m k f || is_own_opposite k f || are_both_containments m k f || has_many_containers m k f)
placed m k f h = ap (λ t. t || is_undeclared m k f || is_own_opposite k f || are_both_containments m k f || has_many_containers m k f) h
