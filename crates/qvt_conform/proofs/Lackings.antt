-- The set of references tells which opposites lack an object, so that the checks by it are the checks of the slots.
use Rattle.std.proofs.Common.{◌≡◌, ◌≢◌, ◌∙◌, ℕ, zero, suc, ◌+◌, ◌<◌, ◌==◌, List, [], ◌∷◌, ◌++◌, length, Bool, true, false, not, ◌||◌, ◌&&◌, is_some, refl, sym, ap, subst, arith}
use Rattle.std.specs.Prelude.{Option, Some, None, option_map, if◌then◌else◌}
use Rattle.std.specs.List.{list_any, AllByRecursion}
use Rattle.std.specs.Ordering.{nat_cmp}
use Rattle.std.specs.Cmp.Lexicographic.{slice_cmp}
use Rattle.std.specs.declared.cmp.Ordering.TheVariants.{Greater}
use Rattle.std.proofs.lemmas.Bool.{eqb-true, eq-eqb}
use Rattle.qvt_base.specs.declared.numbers.FeatureNo.{FeatureNo}
use Rattle.qvt_json.specs.Steps.{or_next}
use Rattle.qvt_metas.specs.Metamodels.{Metamodels, class_at, feature_at, shape_of, opposite, is_opposite, is_feature_number, features_of}
use Rattle.qvt_model.specs.declared.data.Datum.{Datum}
use Rattle.qvt_model.specs.declared.data.Datum.TheVariants.{Bool as BoolDatum, Int, Str, Literal, Ref}
use Rattle.qvt_model.specs.declared.data.SlotData.{SlotData}
use Rattle.qvt_model.specs.declared.data.ObjectData.{ObjectData}
use Rattle.qvt_model.specs.WellFormed.{IsModel, IsObjectIn, AreInNameOrder, ComeAfter, object_data_at}
use Rattle.qvt_conform.specs.declared.links.ObjectLink.{ObjectLink}
use Rattle.qvt_conform.specs.declared.fault.ConformFault.TheVariants.{Abstract, Bounds, NotUnique, Opposite}
use Rattle.qvt_model.specs.Items.{items_in}
use Rattle.qvt_repeats.specs.Repeats.{repeats_by}
use Rattle.qvt_conform.specs.Items.{items_of, is_within, same_item, is_ref, lacks, lack_opposite}
use Rattle.qvt_conform.specs.Links.{link, same_link, links_of_item, links_of_items, links_of_slot, links_of_slots, links_from}
use Rattle.qvt_conform.specs.Joined.{Joined}
use Rattle.qvt_conform.specs.Breaches.{lacks_link, lack_links, breach_of, fault_named}
use Rattle.qvt_conform.specs.declared.breach.Breach.TheVariants.{Bounds as BoundsBroken, NotUnique as UniqueBroken, Opposite as OppositeBroken}
use Rattle.qvt_conform.specs.Lacking.{feature_fault_by, features_fault_by, object_fault_by, faults_by}
use Rattle.qvt_conform.specs.Containment.{contents}
use Rattle.qvt_conform.specs.Conformance.{fault_if, feature_fault, features_fault, containment_fault, object_fault, faults_from, conform_fault}
use Rattle.qvt_conform.proofs.Orders.{not_after_itself}

any-append : (p : ObjectLink → Bool) (xs ys : List ObjectLink) → list_any p (xs ++ ys) ≡ (list_any p xs || list_any p ys)
any-append p [] ys = refl
any-append p (x ∷ xs) ys = ap (λ b. p x || b) (any-append p xs ys) ∙ sym (or_or (p x) (list_any p xs) (list_any p ys))
  where
    or_or : (a b d : Bool) → ((a || b) || d) ≡ (a || (b || d))
    or_or true b d = refl
    or_or false b d = refl

or_false : (a : Bool) → (a || false) ≡ a
or_false true = refl
or_false false = refl

both : (a b d e : Bool) → a ≡ d → b ≡ e → (a || b) ≡ (d || e)
both a b d e p q = λ i. p i || q i

unlike : (a b : ℕ) → a ≢ b → (a == b) ≡ false
unlike a b n = by (a == b) refl
  where
    by : (t : Bool) → (a == b) ≡ t → t ≡ false
    by false e = refl
    by true e = absurd (n (eqb-true a b e))

and_none : (a b : Bool) → a ≡ false → (a && b) ≡ false
and_none true b e = cc
and_none false b e = refl

and_none_next : (a b d : Bool) → b ≡ false → (a && b && d) ≡ false
and_none_next true true d e = cc
and_none_next true false d e = refl
and_none_next false b d e = refl

-- links of one item
item_itself : (x q i : ℕ) (d : Datum) → list_any (same_link (link x q i)) (links_of_item x q d) ≡ is_ref i d
item_itself x q i (BoolDatum b) = refl
item_itself x q i (Int z) = refl
item_itself x q i (Str s) = refl
item_itself x q i (Literal l) = refl
item_itself x q i (Ref j) = or_false _ ∙ step (x == x) (q == q) (eq-eqb x x refl) (eq-eqb q q refl)
  where
    step : (a b : Bool) → a ≡ true → b ≡ true → (a && b && (i == j)) ≡ (i == j)
    step true true p r = refl
    step true false p r = cc
    step false b p r = cc

items_themselves : (x q i : ℕ) (ds : List Datum) → list_any (same_link (link x q i)) (links_of_items x q ds) ≡ list_any (is_ref i) ds
items_themselves x q i [] = refl
items_themselves x q i (d ∷ ds) = any-append (same_link (link x q i)) (links_of_item x q d) (links_of_items x q ds) ∙ both _ _ _ _ (item_itself x q i d) (items_themselves x q i ds)

-- links of another object, or of another feature
item_else : (x q i y f : ℕ) → ((i j : ℕ) → same_link (link x q i) (link y f j) ≡ false) → (d : Datum) → list_any (same_link (link x q i)) (links_of_item y f d) ≡ false
item_else x q i y f none (BoolDatum b) = refl
item_else x q i y f none (Int z) = refl
item_else x q i y f none (Str s) = refl
item_else x q i y f none (Literal l) = refl
item_else x q i y f none (Ref j) = or_false _ ∙ none i j

items_else : (x q i y f : ℕ) → ((i j : ℕ) → same_link (link x q i) (link y f j) ≡ false) → (ds : List Datum) → list_any (same_link (link x q i)) (links_of_items y f ds) ≡ false
items_else x q i y f none [] = refl
items_else x q i y f none (d ∷ ds) = any-append (same_link (link x q i)) (links_of_item y f d) (links_of_items y f ds) ∙ both _ _ _ _ (item_else x q i y f none d) (items_else x q i y f none ds)

slot_else : (m : Metamodels) (x q i y : ℕ) (s : SlotData) → ((i j : ℕ) → same_link (link x q i) (link y s.feature.0 j) ≡ false) → list_any (same_link (link x q i)) (links_of_slot m y s) ≡ false
slot_else m x q i y s none = by (is_some (opposite m s.feature.0))
  where
    by : (b : Bool) → list_any (same_link (link x q i)) (if b then links_of_items y s.feature.0 s.items else []) ≡ false
    by true = items_else x q i y s.feature.0 none s.items
    by false = refl

object_else : (x q i y f j : ℕ) → x ≢ y → same_link (link x q i) (link y f j) ≡ false
object_else x q i y f j n = step (x == y) (q == f) (unlike x y n)
  where
    step : (a b : Bool) → a ≡ false → (a && b && (i == j)) ≡ false
    step true b e = cc
    step false b e = refl

feature_else : (x q i y f j : ℕ) → q ≢ f → same_link (link x q i) (link y f j) ≡ false
feature_else x q i y f j n = and_none_next (x == y) (q == f) (i == j) (unlike q f n)

slots_of_another : (m : Metamodels) (x q i y : ℕ) → x ≢ y → (ss : List SlotData) → list_any (same_link (link x q i)) (links_of_slots m y ss) ≡ false
slots_of_another m x q i y n [] = refl
slots_of_another m x q i y n (s ∷ ss) = any-append (same_link (link x q i)) (links_of_slot m y s) (links_of_slots m y ss)
    ∙ both _ _ _ _ (slot_else m x q i y s (λ i j. object_else x q i y s.feature.0 j n)) (slots_of_another m x q i y n ss)

none_before : (m : Metamodels) (x q i k : ℕ) → x < k → (os : List ObjectData) → list_any (same_link (link x q i)) (links_from m k os) ≡ false
none_before m x q i k lt [] = refl
none_before m x q i k lt (o ∷ os) = any-append (same_link (link x q i)) (links_of_slots m k o.slots) (links_from m (suc k) os)
    ∙ both _ _ _ _ (slots_of_another m x q i k (λ e. absurd (omega (arith, lt, e))) o.slots) (none_before m x q i (suc k) (omega (arith, lt)) os)

absent : (m : Metamodels) (x q i y : ℕ) (ss : List SlotData) → ComeAfter m (feature_at m q).name ss → list_any (same_link (link x q i)) (links_of_slots m y ss) ≡ false
absent m x q i y [] h = refl
absent m x q i y (s ∷ ss) h = any-append (same_link (link x q i)) (links_of_slot m y s) (links_of_slots m y ss)
    ∙ both _ _ _ _ (slot_else m x q i y s (λ i j. feature_else x q i y s.feature.0 j other)) (absent m x q i y ss h.1)
  where
    other : q ≢ s.feature.0
    other e = not_after_itself (feature_at m q).name (subst (λ f. slice_cmp nat_cmp (feature_at m f).name (feature_at m q).name ≡ Greater) (sym e) h.0)

own_slots : (m : Metamodels) (x q i : ℕ) (ss : List SlotData) → is_some (opposite m q) ≡ true → AreInNameOrder m ss
    → list_any (same_link (link x q i)) (links_of_slots m x ss) ≡ list_any (is_ref i) (items_in q ss)
own_slots m x q i [] there h = refl
own_slots m x q i (s ∷ ss) there h = any-append (same_link (link x q i)) (links_of_slot m x s) (links_of_slots m x ss) ∙ by (s.feature.0 == q) refl (own_slots m x q i ss there h.1)
  where
    here : s.feature.0 ≡ q → list_any (same_link (link x q i)) (links_of_slot m x s) ≡ list_any (is_ref i) s.items
    here e = ap (λ b. list_any (same_link (link x q i)) (if b then links_of_items x s.feature.0 s.items else [])) (ap (λ f. is_some (opposite m f)) e ∙ there)
        ∙ ap (λ f. list_any (same_link (link x q i)) (links_of_items x f s.items)) e ∙ items_themselves x q i s.items

    by : (b : Bool) → (s.feature.0 == q) ≡ b → list_any (same_link (link x q i)) (links_of_slots m x ss) ≡ list_any (is_ref i) (items_in q ss)
        → (list_any (same_link (link x q i)) (links_of_slot m x s) || list_any (same_link (link x q i)) (links_of_slots m x ss)) ≡ list_any (is_ref i) (if b then s.items else items_in q ss)
    by true e ih =
        let is : s.feature.0 ≡ q = eqb-true s.feature.0 q e in
        both _ _ _ _ (here is) (absent m x q i x ss (subst (λ f. ComeAfter m (feature_at m f).name ss) is h.0)) ∙ or_false _
    by false e ih = both _ _ _ _ (slot_else m x q i x s (λ i j. feature_else x q i x s.feature.0 j (λ is. (let d : true ≡ false = sym (eq-eqb s.feature.0 q (sym is)) ∙ e in absurd cc)))) ih

abbrev AreOrdered : Metamodels → List ObjectData → Type 0
AreOrdered m os = AllByRecursion (λ o. AreInNameOrder m o.slots) os

linked : (m : Metamodels) (q i k j : ℕ) (os : List ObjectData) → is_some (opposite m q) ≡ true → AreOrdered m os
    → list_any (same_link (link (k + j) q i)) (links_from m k os) ≡ list_any (is_ref i) (items_of (object_data_at os j) q)
linked m q i k j [] there h = refl
linked m q i k zero (o ∷ os) there h =
    subst (λ x. list_any (same_link (link x q i)) (links_from m k (o ∷ os)) ≡ list_any (is_ref i) (items_of o q)) same
    (any-append (same_link (link k q i)) (links_of_slots m k o.slots) (links_from m (suc k) os)
    ∙ both _ _ _ _ (own_slots m k q i o.slots there h.0) (none_before m k q i (suc k) (omega arith) os) ∙ or_false _)
  where
    same : k ≡ k + zero
    same = omega arith
linked m q i k (suc j) (o ∷ os) there h =
    any-append (same_link (link (k + suc j) q i)) (links_of_slots m k o.slots) (links_from m (suc k) os)
    ∙ both _ _ _ _ (slots_of_another m (k + suc j) q i k (λ e. absurd (omega (arith, e))) o.slots)
    (subst (λ x. list_any (same_link (link x q i)) (links_from m (suc k) os) ≡ list_any (is_ref i) (items_of (object_data_at os j) q)) same (linked m q i (suc k) j os there h.1))
  where
    same : suc k + j ≡ k + suc j
    same = omega arith

-- what the checks by references need of a model
pub record IsLinked (m : Metamodels) (os : List ObjectData) (ls : List ObjectLink) : Type 0 where
  pub mutual_opposites : (p q : ℕ) → is_opposite m p q ≡ true → is_opposite m q p ≡ true
  pub ordered : AreOrdered m os
  pub joined : Joined [] (links_from m 0 os) ls

some_opposite : (o : Option FeatureNo) (p : ℕ) → is_feature_number o p ≡ true → is_some o ≡ true
some_opposite None p h = cc
some_opposite (Some f) p h = refl

item_lacks : (m : Metamodels) (os : List ObjectData) (ls : List ObjectLink) (q i : ℕ) → IsLinked m os ls → is_some (opposite m q) ≡ true → (d : Datum) → lacks_link ls q i d ≡ lacks os q i d
item_lacks m os ls q i h there (BoolDatum b) = refl
item_lacks m os ls q i h there (Int z) = refl
item_lacks m os ls q i h there (Str s) = refl
item_lacks m os ls q i h there (Literal l) = refl
item_lacks m os ls q i h there (Ref j) = ap not (h.joined.holds (link j q i) ∙ subst (λ x. list_any (same_link (link x q i)) (links_from m 0 os) ≡ list_any (is_ref i) (items_of (object_data_at os j) q)) same (linked m q i 0 j os there h.ordered))
  where
    same : 0 + j ≡ j
    same = omega arith

items_lack : (m : Metamodels) (os : List ObjectData) (ls : List ObjectLink) (q i : ℕ) → IsLinked m os ls → is_some (opposite m q) ≡ true → (ds : List Datum) → list_any (lacks_link ls q i) ds ≡ list_any (lacks os q i) ds
items_lack m os ls q i h there [] = refl
items_lack m os ls q i h there (d ∷ ds) = both _ _ _ _ (item_lacks m os ls q i h there d) (items_lack m os ls q i h there ds)

slot_lacks : (m : Metamodels) (os : List ObjectData) (ls : List ObjectLink) (f i : ℕ) → IsLinked m os ls → (ds : List Datum) → lack_links ls (opposite m f) i ds ≡ lack_opposite (opposite m f) os i ds
slot_lacks m os ls f i h ds = by (opposite m f) refl
  where
    by : (o : Option FeatureNo) → opposite m f ≡ o → lack_links ls o i ds ≡ lack_opposite o os i ds
    by None e = refl
    by (Some q) e =
        let one : is_opposite m f q.0 ≡ true = ap (λ o. is_feature_number o q.0) e ∙ eq-eqb q.0 q.0 refl in
        items_lack m os ls q.0 i h (some_opposite (opposite m q.0) f (h.mutual_opposites f q.0 one)) ds

-- the breach told as a fault
told : (id name : List ℕ) (b u l : Bool)
    → option_map (fault_named id name) (if not b then Some BoundsBroken else (if u then Some UniqueBroken else (if l then Some OppositeBroken else None)))
    ≡ or_next (fault_if (not b) (Bounds id name)) (or_next (fault_if u (NotUnique id name)) (fault_if l (Opposite id name)))
told id name false u l = refl
told id name true true l = refl
told id name true false true = refl
told id name true false false = refl

feature_same : (m : Metamodels) (os : List ObjectData) (ls : List ObjectLink) (i : ℕ) (o : ObjectData) (f : FeatureNo) → IsLinked m os ls → feature_fault_by m ls i o f ≡ feature_fault m os i o f
unfolding feature_fault_by feature_fault breach_of
feature_same m os ls i o f h = told o.id (feature_at m f.0).name (is_within (shape_of m f.0) (length (items_of o f.0))) ((shape_of m f.0).unique && repeats_by same_item (items_of o f.0)) (lack_links ls (opposite m f.0) i (items_of o f.0))
    ∙ ap (λ b. or_next (fault_if (not (is_within (shape_of m f.0) (length (items_of o f.0)))) (Bounds o.id (feature_at m f.0).name))
    (or_next (fault_if ((shape_of m f.0).unique && repeats_by same_item (items_of o f.0)) (NotUnique o.id (feature_at m f.0).name)) (fault_if b (Opposite o.id (feature_at m f.0).name))))
    (slot_lacks m os ls f.0 i h (items_of o f.0))

features_same : (m : Metamodels) (os : List ObjectData) (ls : List ObjectLink) (i : ℕ) (o : ObjectData) (fs : List FeatureNo) → IsLinked m os ls → features_fault_by m ls i o fs ≡ features_fault m os i o fs
features_same m os ls i o [] h = refl
features_same m os ls i o (f ∷ fs) h = λ k. or_next (feature_same m os ls i o f h k) (features_same m os ls i o fs h k)

object_same : (m : Metamodels) (os : List ObjectData) (ls : List ObjectLink) (i : ℕ) (o : ObjectData) → IsLinked m os ls → object_fault_by m ls (contents m os) i o ≡ object_fault m os i o
unfolding object_fault_by object_fault
object_same m os ls i o h = ap (λ x. or_next (fault_if (class_at m o.class.0).is_abstract (Abstract o.id)) (or_next x (containment_fault (contents m os) i o)))
    (features_same m os ls i o (features_of m o.class.0) h)

faults_same : (m : Metamodels) (all : List ObjectData) (ls : List ObjectLink) (i : ℕ) (os : List ObjectData) → IsLinked m all ls → faults_by m ls (contents m all) i os ≡ faults_from m all i os
faults_same m all ls i [] h = refl
faults_same m all ls i (o ∷ os) h = λ k. or_next (object_same m all ls i o h k) (faults_same m all ls (suc i) os h k)

pub conform_same : (m : Metamodels) (os : List ObjectData) (ls : List ObjectLink) → IsLinked m os ls → faults_by m ls (contents m os) 0 os ≡ conform_fault m os
unfolding conform_fault
conform_same m os ls h = faults_same m os ls 0 os h

in_order : (m : Metamodels) (k : ℕ) (all os : List ObjectData) → AllByRecursion (IsObjectIn m k all) os → AreOrdered m os
in_order m k all [] h = tt
in_order m k all (o ∷ os) h = (h.0.order, in_order m k all os h.1)

pub ordered : (m : Metamodels) (k : ℕ) (os : List ObjectData) → IsModel m k os → AreOrdered m os
ordered m k os h = in_order m k os os h.objects
