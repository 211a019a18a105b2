-- The objects that are added and set slot by slot are those of a loaded model.
use Rattle.std.proofs.Common.{◌≡◌, ℕ, zero, suc, ◌+◌, Bool, true, false, ◌==◌, ◌||◌, cond, inl, inr, refl, sym, ap, ◌∙◌, subst, List, [], ◌∷◌, ◌++◌, map, length, Greater}
use Rattle.std.specs.Prelude.{⊤, slice_index_or, slice_set}
use Rattle.std.specs.List.{AllByRecursion}
use Rattle.std.specs.Ordering.{nat_cmp, is_eq}
use Rattle.std.specs.Cmp.Lexicographic.{slice_cmp}
use Rattle.std.specs.Str.{bytes_eq}
use Rattle.std.proofs.lemmas.Bool.{cases_eq, eq-eqb, ne_eqb}
use Rattle.std.proofs.lemmas.Bool.Decides.{Decides-eqb}
use Rattle.std.proofs.lemmas.Slice.Eq.{bytes_eq-Decides}
use Rattle.std.proofs.lemmas.Map.Text.{is_eq-slice_cmp}
use Rattle.qvt_base.specs.declared.numbers.FeatureNo.{FeatureNo}
use Rattle.qvt_value.specs.declared.value.Value.{Value}
use Rattle.qvt_metas.specs.Metamodels.{Metamodels, feature_at, features_of, among_features}
use Rattle.qvt_metas.specs.WellFormed.{IsWellFormed}
use Rattle.qvt_relation.proofs.Bools.{or_none, none_left, none_right, clash, refuted}
use Rattle.qvt_store.specs.Contents.{Contents, Instance, no_instance, list_of, set_list, set_slot, with_new}
use Rattle.qvt_slots.proofs.Places.{no_lists}
use Rattle.qvt_slots.proofs.Lists.{length-push, length-map}
use Rattle.qvt_slots.proofs.Instances.{length-set_list, list-set}
use Rattle.qvt_store_laws.proofs.Told.{lists_told}
use Rattle.qvt_model.specs.declared.data.SlotData.{SlotData}
use Rattle.qvt_model.specs.declared.data.ObjectData.{ObjectData}
use Rattle.qvt_model.specs.WellFormed.{IsSlot, ComeAfter, AreInNameOrder, IsObjectIn}
use Rattle.qvt_model.specs.Items.{items_in}
use Rattle.qvt_model.specs.Loaded.{value_at, list_in, instance_at}
use Rattle.qvt_model.specs.Steps.{objects_added, put_slot, slot_values, put_slots, put_objects}

-- ---- slots without repeats

abbrev pub listed : ℕ → List SlotData → Bool
listed f [] = false
listed f (t ∷ ts) = (t.feature.0 == f) || listed f ts

abbrev pub AreDistinct : List SlotData → Type 0
AreDistinct [] = ⊤
AreDistinct (t ∷ ts) = (listed t.feature.0 ts ≡ false) × AreDistinct ts

not_greater : (a b : List ℕ) → a ≡ b → slice_cmp nat_cmp a b ≡ Greater → ⊥
not_greater a b same g = clash (bytes_eq a b) ((bytes_eq-Decides a b).1 same) (sym (is_eq-slice_cmp a b) ∙ ap is_eq g)

after_unlisted : (m : Metamodels) (f : ℕ) (ts : List SlotData) → ComeAfter m (feature_at m f).name ts → listed f ts ≡ false
after_unlisted m f [] h = refl
after_unlisted m f (t ∷ ts) h = or_none (t.feature.0 == f) (listed f ts)
    (refuted _ (λ e. not_greater (feature_at m t.feature.0).name (feature_at m f).name (ap (λ n. (feature_at m n).name) ((Decides-eqb t.feature.0 f).0 e)) h.0))
    (after_unlisted m f ts h.1)

pub distinct_slots : (m : Metamodels) (ts : List SlotData) → AreInNameOrder m ts → AreDistinct ts
distinct_slots m [] h = tt
distinct_slots m (t ∷ ts) h = (after_unlisted m t.feature.0 ts h.0, distinct_slots m ts h.1)

pub unlisted_none : (f : ℕ) (ts : List SlotData) → listed f ts ≡ false → items_in f ts ≡ []
unlisted_none f [] n = refl
unlisted_none f (t ∷ ts) n = ap (λ b. cond b t.items (items_in f ts)) (none_left (t.feature.0 == f) (listed f ts) n) ∙ unlisted_none f ts (none_right (t.feature.0 == f) (listed f ts) n)

-- ---- one object

abbrev pub set_lists : List FeatureNo → ℕ → List (List Value) → List SlotData → List (List Value)
set_lists gs n lists [] = lists
set_lists gs n lists (t ∷ ts) = set_lists gs n (set_list gs lists t.feature.0 (slot_values n t)) ts

abbrev pub set_slots : Metamodels → ℕ → Instance → List SlotData → Instance
set_slots m n ob ts = record ob { slots = set_lists (features_of m ob.class) n ob.slots ts }

length-set_lists : (gs : List FeatureNo) (n : ℕ) (lists : List (List Value)) (ts : List SlotData) → length lists ≡ length gs → length (set_lists gs n lists ts) ≡ length gs
length-set_lists gs n lists [] l = l
length-set_lists gs n lists (t ∷ ts) l = length-set_lists gs n (set_list gs lists t.feature.0 (slot_values n t)) ts (length-set_list gs lists t.feature.0 (slot_values n t) l ∙ l)

list-sets : (m : Metamodels) (all : List ObjectData) (c n : ℕ) (lists : List (List Value)) (ts : List SlotData) (f : ℕ) → length lists ≡ length (features_of m c) →
    AllByRecursion (IsSlot m all c) ts → AreDistinct ts →
    list_of (features_of m c) (set_lists (features_of m c) n lists ts) f ≡ cond (listed f ts) (map (value_at n) (items_in f ts)) (list_of (features_of m c) lists f)
list-sets m all c n lists [] f l own distinct = refl
list-sets m all c n lists (t ∷ ts) f l own distinct =
    list-sets m all c n (set_list (features_of m c) lists t.feature.0 (slot_values n t)) ts f (length-set_list (features_of m c) lists t.feature.0 (slot_values n t) l ∙ l) own.1 distinct.1
    ∙ ap (λ r. cond (listed f ts) (map (value_at n) (items_in f ts)) r) (list-set (features_of m c) lists t.feature.0 f (slot_values n t) l here)
    ∙ elim (cases_eq t.feature.0 f) [
      | inl e ↦
          ap (λ b. cond b (map (value_at n) (items_in f ts)) (cond (f == t.feature.0) (slot_values n t) (list_of (features_of m c) lists f))) (subst (λ k. listed k ts ≡ false) e distinct.0)
          ∙ ap (λ b. cond b (slot_values n t) (list_of (features_of m c) lists f)) (eq-eqb f t.feature.0 (sym e))
          ∙ sym (ap (λ b. cond (b || listed f ts) (map (value_at n) (cond b t.items (items_in f ts))) (list_of (features_of m c) lists f)) (eq-eqb t.feature.0 f e))
      | inr n' ↦
          ap (λ b. cond (listed f ts) (map (value_at n) (items_in f ts)) (cond b (slot_values n t) (list_of (features_of m c) lists f))) (ne_eqb f t.feature.0 (λ q. n' (sym q)))
          ∙ sym (ap (λ b. cond (b || listed f ts) (map (value_at n) (cond b t.items (items_in f ts))) (list_of (features_of m c) lists f)) (ne_eqb t.feature.0 f n'))
    ]
  where
    here : among_features t.feature.0 (features_of m c) ≡ true
    here = let is : IsSlot m all c t = own.0 in is.own

abbrev pub empty_of : Metamodels → ℕ → ObjectData → Instance
empty_of m e o = record { class = o.class.0; extent = e; slots = map (λ _. []) (features_of m o.class.0) }

filled : (m : Metamodels) (well : IsWellFormed m) (k e n : ℕ) (all : List ObjectData) (o : ObjectData) → IsObjectIn m k all o → set_slots m n (empty_of m e o) o.slots ≡ instance_at m e n o
filled m well k e n all o is = ap (λ (l : List (List Value)). record { class = o.class.0; extent = e; slots = l })
    (lists_told m well o.class.0 (set_lists (features_of m o.class.0) n none o.slots) (list_in n o) (length-set_lists (features_of m o.class.0) n none o.slots count) told)
  where
    none : List (List Value)
    none = map (λ _. []) (features_of m o.class.0)

    count : length none ≡ length (features_of m o.class.0)
    count = length-map (λ (g : FeatureNo). let l : List Value = [] in l) (features_of m o.class.0)

    either_list : (f : ℕ) (b : Bool) → listed f o.slots ≡ b → cond b (map (value_at n) (items_in f o.slots)) [] ≡ list_in n o f
    either_list f true e = refl
    either_list f false e = sym (ap (map (value_at n)) (unlisted_none f o.slots e))

    told : (f : ℕ) → among_features f (features_of m o.class.0) ≡ true → list_of (features_of m o.class.0) (set_lists (features_of m o.class.0) n none o.slots) f ≡ list_in n o f
    told f _ = list-sets m all o.class.0 n none o.slots f count is.slots (distinct_slots m o.slots is.order)
        ∙ ap (λ (r : List Value). cond (listed f o.slots) (map (value_at n) (items_in f o.slots)) r) (no_lists (features_of m o.class.0) f)
        ∙ either_list f (listed f o.slots) refl

-- ---- all objects

push_app : {X : Type 0} (xs : List X) (x : X) (ys : List X) → (xs ++ x ∷ []) ++ ys ≡ xs ++ x ∷ ys
push_app [] x ys = refl
push_app (z ∷ xs) x ys = ap (λ l. z ∷ l) (push_app xs x ys)

app_none : {X : Type 0} (xs : List X) → xs ++ [] ≡ xs
app_none [] = refl
app_none (x ∷ xs) = ap (λ l. x ∷ l) (app_none xs)

at_mid : (obs : List Instance) (ob : Instance) (more : List Instance) (d : Instance) → slice_index_or (obs ++ ob ∷ more) (length obs) d ≡ ob
at_mid [] ob more d = refl
at_mid (x ∷ obs) ob more d = at_mid obs ob more d

set_mid : (obs : List Instance) (ob new : Instance) (more : List Instance) → slice_set (obs ++ ob ∷ more) (length obs) new ≡ obs ++ new ∷ more
set_mid [] ob new more = refl
set_mid (x ∷ obs) ob new more = ap (λ l. x ∷ l) (set_mid obs ob new more)

put_mid : (m : Metamodels) (n : ℕ) (obs : List Instance) (ob : Instance) (more : List Instance) (ts : List SlotData) → put_slots m n (length obs) (obs ++ ob ∷ more) ts ≡ obs ++ set_slots m n ob ts ∷ more
put_mid m n obs ob more [] = refl
put_mid m n obs ob more (t ∷ ts) = ap (λ l. put_slots m n (length obs) l ts) one
    ∙ put_mid m n obs (set_slot (features_of m ob.class) ob t.feature.0 (slot_values n t)) more ts
  where
    one : put_slot m (obs ++ ob ∷ more) (length obs) t.feature.0 (slot_values n t) ≡ obs ++ set_slot (features_of m ob.class) ob t.feature.0 (slot_values n t) ∷ more
    one = ap (λ (i : Instance). slice_set (obs ++ ob ∷ more) (length obs) (set_slot (features_of m i.class) i t.feature.0 (slot_values n t))) (at_mid obs ob more no_instance)
        ∙ set_mid obs ob (set_slot (features_of m ob.class) ob t.feature.0 (slot_values n t)) more

put_all : (m : Metamodels) (n e : ℕ) (obs : List Instance) (os : List ObjectData) →
    put_objects m n (length obs) (obs ++ map (empty_of m e) os) os ≡ obs ++ map (λ (o : ObjectData). set_slots m n (empty_of m e o) o.slots) os
put_all m n e obs [] = refl
put_all m n e obs (o ∷ os) =
    ap (λ l. put_objects m n (suc (length obs)) l os) (put_mid m n obs (empty_of m e o) (map (empty_of m e) os) o.slots)
    ∙ ap (λ k. put_objects m n k (obs ++ new ∷ map (empty_of m e) os) os) (sym (length-push obs new))
    ∙ ap (λ l. put_objects m n (length (obs ++ new ∷ [])) l os) (sym (push_app obs new (map (empty_of m e) os)))
    ∙ put_all m n e (obs ++ new ∷ []) os
    ∙ push_app obs new (map (λ (o : ObjectData). set_slots m n (empty_of m e o) o.slots) os)
  where
    new : Instance
    new = set_slots m n (empty_of m e o) o.slots

all_filled : (m : Metamodels) (well : IsWellFormed m) (k e n : ℕ) (all os : List ObjectData) → AllByRecursion (IsObjectIn m k all) os →
    map (λ (o : ObjectData). set_slots m n (empty_of m e o) o.slots) os ≡ map (instance_at m e n) os
all_filled m well k e n all [] h = refl
all_filled m well k e n all (o ∷ os) h = λ i. filled m well k e n all o h.0 i ∷ all_filled m well k e n all os h.1 i

-- the store with the objects added
pub added_is : (s : Contents) (e : ℕ) (os : List ObjectData) → objects_added s e os ≡ record s { objects = s.objects ++ map (empty_of s.metas e) os }
added_is s e [] = ap (λ (l : List Instance). record s { objects = l }) (sym (app_none s.objects))
added_is s e (o ∷ os) = added_is (with_new s o.class.0 e) e os ∙ ap (λ (l : List Instance). record s { objects = l }) (push_app s.objects (empty_of s.metas e o) (map (empty_of s.metas e) os))

pub put_is : (m : Metamodels) (well : IsWellFormed m) (k e : ℕ) (obs : List Instance) (os : List ObjectData) → AllByRecursion (IsObjectIn m k os) os →
    put_objects m (length obs) (length obs) (obs ++ map (empty_of m e) os) os ≡ obs ++ map (instance_at m e (length obs)) os
put_is m well k e obs os h = put_all m (length obs) e obs os ∙ ap (λ l. obs ++ l) (all_filled m well k e (length obs) os os h)
