-- What every slot of a store holds once a model is loaded.
use Rattle.std.proofs.Common.{◌≡◌, ℕ, zero, suc, ◌+◌, ◌<◌, ◌≤◌, Bool, true, false, ◌==◌, ◌||◌, cond, inl, inr, refl, sym, ap, ◌∙◌, subst, List, [], ◌∷◌, ◌++◌, map, length, get_or, arith}
use Rattle.std.specs.Prelude.{slice_index_or}
use Rattle.std.specs.List.{AllByRecursion}
use Rattle.std.proofs.lemmas.Bool.{cases_lt, ltb-true}
use Rattle.std.proofs.lemmas.Bool.Decides.{Decides-eqb}
use Rattle.std.proofs.lemmas.List.{get_or-map}
use Rattle.qvt_base.specs.declared.numbers.FeatureNo.{FeatureNo}
use Rattle.qvt_value.specs.declared.value.Value.{Value}
use Rattle.qvt_metas.specs.Metamodels.{Metamodels, features_of, among_features, has_feature, is_containment}
use Rattle.qvt_relation.proofs.Bools.{and_left, clash}
use Rattle.qvt_store.specs.Slots.{has, Inside, directly, through}
use Rattle.qvt_store.specs.Contents.{Contents, Instance, no_instance, list_of, slot_in, slot_of}
use Rattle.qvt_store.specs.Types.{AreTyped}
use Rattle.qvt_slots.proofs.Places.{list_of-nil}
use Rattle.qvt_slots.proofs.Lists.{length-map, past_end}
use Rattle.qvt_store_laws.proofs.After.{item_object}
use Rattle.qvt_model.specs.declared.data.SlotData.{SlotData}
use Rattle.qvt_model.specs.declared.data.ObjectData.{ObjectData}
use Rattle.qvt_model.specs.WellFormed.{object_data_at, no_object, IsSlot, IsObjectIn, IsModel}
use Rattle.qvt_model.specs.Items.{items_in}
use Rattle.qvt_model.specs.Loaded.{value_at, list_in, instance_at}
use Rattle.qvt_model.specs.Conforming.{slots_at, Conforms}
use Rattle.qvt_model.proofs.Shift.{HeldItem, held_item}

pub app_left : {X : Type 0} (xs ys : List X) (i : ℕ) (d : X) → i < length xs → get_or (xs ++ ys) i d ≡ get_or xs i d
app_left [] ys i d h = absurd (omega arith)
app_left (x ∷ xs) ys zero d h = refl
app_left (x ∷ xs) ys (suc i) d h = app_left xs ys i d (omega arith)

pub app_right : {X : Type 0} (xs ys : List X) (i : ℕ) (d : X) → get_or (xs ++ ys) (length xs + i) d ≡ get_or ys i d
app_right [] ys i d = ap (λ k. get_or ys k d) (let q : 0 + i ≡ i = omega arith in q)
app_right (x ∷ xs) ys i d = ap (λ k. get_or (x ∷ (xs ++ ys)) k d) (let q : suc (length xs) + i ≡ suc (length xs + i) = omega arith in q) ∙ app_right xs ys i d

pub length-app : {X : Type 0} (xs ys : List X) → length (xs ++ ys) ≡ length xs + length ys
length-app [] ys = let q : length ys ≡ 0 + length ys = omega arith in q
length-app (x ∷ xs) ys = ap suc (length-app xs ys) ∙ (let q : suc (length xs + length ys) ≡ suc (length xs) + length ys = omega arith in q)

pub beyond : (n x : ℕ) → n ≤ x → (i : ℕ) × (x ≡ n + i)
beyond zero x h = (x, omega arith)
beyond (suc n) zero h = absurd (omega arith)
beyond (suc n) (suc x) h = let r : (i : ℕ) × (x ≡ n + i) = beyond n x (omega arith) in (r.0, let q : x ≡ n + r.0 = r.1 in omega arith)

-- the list of a feature, where each feature's is told
list_of-map : (gs : List FeatureNo) (h : ℕ → List Value) (f : ℕ) → list_of gs (map (λ (g : FeatureNo). h g.0) gs) f ≡ cond (among_features f gs) (h f) []
list_of-map [] h f = refl
list_of-map (g ∷ gs) h f = go (g.0 == f) refl (list_of-map gs h f)
  where
    go : (b : Bool) → (g.0 == f) ≡ b → list_of gs (map (λ (g : FeatureNo). h g.0) gs) f ≡ cond (among_features f gs) (h f) [] →
        cond b (h g.0) (list_of gs (map (λ (g : FeatureNo). h g.0) gs) f) ≡ cond (b || among_features f gs) (h f) []
    go true e rest = ap h ((Decides-eqb g.0 f).0 e)
    go false e rest = rest

pub not_own : (m : Metamodels) (all : List ObjectData) (c f : ℕ) (ts : List SlotData) → AllByRecursion (IsSlot m all c) ts → has_feature m c f ≡ false → items_in f ts ≡ []
not_own m all c f [] h n = refl
not_own m all c f (t ∷ ts) h n = go (t.feature.0 == f) refl (not_own m all c f ts h.1 n)
  where
    go : (b : Bool) → (t.feature.0 == f) ≡ b → items_in f ts ≡ [] → cond b t.items (items_in f ts) ≡ []
    go true e rest = let is : IsSlot m all c t = h.0 in clash _ (subst (λ g. has_feature m c g ≡ true) ((Decides-eqb t.feature.0 f).0 e) is.own) n
    go false e rest = rest

pub all_at : (m : Metamodels) (k : ℕ) (all os : List ObjectData) (i : ℕ) → AllByRecursion (IsObjectIn m k all) os → i < length os → IsObjectIn m k all (object_data_at os i)
all_at m k all [] i h l = absurd (omega arith)
all_at m k all (o ∷ os) zero h l = h.0
all_at m k all (o ∷ os) (suc i) h l = all_at m k all os i h.1 (omega arith)

module _ (s : Contents) (e k : ℕ) (os : List ObjectData) (model : IsModel s.metas k os) where
  abbrev m : Metamodels
  m = s.metas

  abbrev n : ℕ
  n = length s.objects

  abbrev pub final : List Instance
  final = s.objects ++ map (instance_at m e n) os

  pub object : (i : ℕ) → i < length os → IsObjectIn m k os (object_data_at os i)
  object i h = all_at m k os os i model.objects h

  pub at_old : (x : ℕ) → x < n → slice_index_or final x no_instance ≡ slice_index_or s.objects x no_instance
  at_old x h = app_left s.objects (map (instance_at m e n) os) x no_instance h

  pub at_new : (i : ℕ) → i < length os → slice_index_or final (n + i) no_instance ≡ instance_at m e n (object_data_at os i)
  at_new i h = app_right s.objects (map (instance_at m e n) os) i no_instance ∙ get_or-map (instance_at m e n) os i no_object no_instance h

  pub count : length final ≡ n + length os
  count = length-app s.objects (map (instance_at m e n) os) ∙ ap (λ l. n + l) (length-map (instance_at m e n) os)

  pub slot-old : (x f : ℕ) → x < n → slot_in m final x f ≡ slot_of s x f
  slot-old x f h = ap (λ (ob : Instance). list_of (features_of m ob.class) ob.slots f) (at_old x h)

  pub slot-new : (i f : ℕ) → slot_in m final (n + i) f ≡ list_in n (object_data_at os i) f
  slot-new i f = elim (cases_lt i (length os)) [
    | inl l ↦ ap (λ (ob : Instance). list_of (features_of m ob.class) ob.slots f) (at_new i l)
        ∙ list_of-map (features_of m (object_data_at os i).class.0) (list_in n (object_data_at os i)) f
        ∙ known i l (has_feature m (object_data_at os i).class.0 f) refl
    | inr l ↦ ap (λ (ob : Instance). list_of (features_of m ob.class) ob.slots f) (past_end final (n + i) no_instance (let c : length final ≡ n + length os = count in omega arith))
        ∙ list_of-nil (features_of m 0) f
        ∙ sym (ap (λ (o : ObjectData). list_in n o f) (past_end os i no_object l))
  ]
    where
      known : (i : ℕ) → i < length os → (b : Bool) → has_feature m (object_data_at os i).class.0 f ≡ b → cond b (list_in n (object_data_at os i) f) [] ≡ list_in n (object_data_at os i) f
      known i l true e = refl
      known i l false e = sym (ap (map (value_at n)) (let is : IsObjectIn m k os (object_data_at os i) = object i l in not_own m os (object_data_at os i).class.0 f (object_data_at os i).slots is.slots e))

  -- a new object holds new objects alone
  pub new_held : (i f y : ℕ) → has (slot_in m final (n + i) f) y ≡ true → HeldItem n y (items_in f (object_data_at os i).slots)
  new_held i f y h = held_item n y (items_in f (object_data_at os i).slots) (ap (λ l. has l y) (sym (slot-new i f)) ∙ h)

  module _ (typed : AreTyped s) where
    -- an old object holds old objects alone
    pub old_held : (x f y : ℕ) → x < n → has (slot_in m final x f) y ≡ true → y < n
    old_held x f y l h = ltb-true y n (and_left _ _ (item_object s f (slot_of s x f) y (typed.types x f) (ap (λ t. has t y) (sym (slot-old x f l)) ∙ h)))

    module _ (conforms : Conforms m os) where
      pub one_new : (x f x' f' y : ℕ) → is_containment m f ≡ true → is_containment m f' ≡ true → n ≤ x → has (slot_in m final x f) y ≡ true → has (slot_in m final x' f') y ≡ true → (x ≡ x') × (f ≡ f')
      one_new x f x' f' y k k' l h h' =
          let a : (i : ℕ) × (x ≡ n + i) = beyond n x l in
          let p : HeldItem n y (items_in f (object_data_at os a.0).slots) = new_held a.0 f y (subst (λ z. has (slot_in m final z f) y ≡ true) a.1 h) in
          elim (cases_lt x' n) [
            | inl old ↦ let b : y < n = old_held x' f' y old h' in let q : y ≡ n + p.place = p.number in absurd (omega arith)
            | inr new ↦
                let b : (i : ℕ) × (x' ≡ n + i) = beyond n x' new in
                let q : HeldItem n y (items_in f' (object_data_at os b.0).slots) = new_held b.0 f' y (subst (λ z. has (slot_in m final z f') y ≡ true) b.1 h') in
                let p_is : y ≡ n + p.place = p.number in
                let q_is : y ≡ n + q.place = q.number in
                let same : q.place ≡ p.place = omega arith in
                let r : (a.0 ≡ b.0) × (f ≡ f') = conforms.containers.one a.0 f b.0 f' p.place k k' p.held (subst (λ j. has (slots_at os b.0 f') j ≡ true) same q.held) in
                (a.1 ∙ ap (λ i. n + i) r.0 ∙ sym b.1, r.1)
          ]

      old_path : {x y : ℕ} → Inside m (slot_in m final) x y → x < n → Inside m (slot_of s) x y
      old_path (directly {x} {y} c) l = directly (record { feature = c.feature; containment = c.containment; held = ap (λ t. has t y) (sym (slot-old x c.feature l)) ∙ c.held })
      old_path (through {x} {y} {z} c p) l = through (record { feature = c.feature; containment = c.containment; held = ap (λ t. has t y) (sym (slot-old x c.feature l)) ∙ c.held }) (old_path p (old_held x c.feature y l c.held))

      record NewPath (i y : ℕ) : Type 0 where
        place : ℕ
        number : y ≡ n + place
        path : Inside m (slots_at os) i place

      new_path : {x y : ℕ} → Inside m (slot_in m final) x y → (i : ℕ) → x ≡ n + i → NewPath i y
      new_path (directly {x} {y} c) i e =
          let p : HeldItem n y (items_in c.feature (object_data_at os i).slots) = new_held i c.feature y (subst (λ z. has (slot_in m final z c.feature) y ≡ true) e c.held) in
          record { place = p.place; number = p.number; path = directly (record { feature = c.feature; containment = c.containment; held = p.held }) }
      new_path (through {x} {y} {z} c q) i e =
          let p : HeldItem n y (items_in c.feature (object_data_at os i).slots) = new_held i c.feature y (subst (λ z. has (slot_in m final z c.feature) y ≡ true) e c.held) in
          let r : NewPath p.place z = new_path q p.place p.number in
          record { place = r.place; number = r.number; path = through (record { feature = c.feature; containment = c.containment; held = p.held }) r.path }

      pub final_acyclic : ((x : ℕ) → Inside m (slot_of s) x x → ⊥) → (x : ℕ) → Inside m (slot_in m final) x x → ⊥
      final_acyclic acyclic x p = elim (cases_lt x n) [
        | inl old ↦ acyclic x (old_path p old)
        | inr new ↦
            let a : (i : ℕ) × (x ≡ n + i) = beyond n x new in
            let r : NewPath a.0 x = new_path p a.0 a.1 in
            let r_is : x ≡ n + r.place = r.number in
            let a_is : x ≡ n + a.0 = a.1 in
            let same : r.place ≡ a.0 = omega arith in
            conforms.outside_itself a.0 (subst (λ j. Inside m (slots_at os) a.0 j) same r.path)
      ]
