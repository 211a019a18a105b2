-- Objects as plain data: one more with empty slots, and one with a slot set.
use Rattle.std.proofs.Common.{◌≡◌, ◌≢◌, ℕ, suc, ◌<◌, ◌≤◌, Bool, true, false, ◌&&◌, ◌==◌, cond, inl, inr, refl, sym, ap, ◌∙◌, subst, List, [], ◌∷◌, ◌++◌, map, length, arith}
use Rattle.std.specs.Prelude.{nat_lt}
use Rattle.std.proofs.lemmas.Bool.{cases_eq, cases_order, eq-eqb, ne_eqb, lt-ltb, ltb-true}
use Rattle.std.proofs.lemmas.Bool.Decides.{Decides-eqb}
use Rattle.std.proofs.lemmas.List.{get_or-set_same, get_or-set_other, length-set}
use Rattle.qvt_base.specs.declared.numbers.FeatureNo.{FeatureNo}
use Rattle.qvt_value.specs.declared.value.Value.{Value}
use Rattle.qvt_metas.specs.Metamodels.{Metamodels, among_features, features_of, has_feature}
use Rattle.qvt_relation.proofs.Bools.{or_cases}
use Rattle.qvt_slots.specs.Contents.{Instance, Contents, no_instance, object_at, class_of, extent_of, is_live, list_of, slot_in, slot_of, set_list, set_slot, with_new, with_slot}
use Rattle.qvt_slots.specs.Cells.{with_list}
use Rattle.qvt_slots.proofs.Lists.{length-push, below_end, at_end, past_end}
use Rattle.qvt_slots.proofs.Places.{no_lists, list_of-nil}

-- an object with empty slots, put last, leaves every slot as it is
pub slot-push : (m : Metamodels) (obs : List Instance) (ob : Instance) → ob.slots ≡ map (λ _. []) (features_of m ob.class) → (x f : ℕ) → slot_in m (obs ++ ob ∷ []) x f ≡ slot_in m obs x f
slot-push m obs ob empty x f = elim (cases_order x (length obs)) [
  | inl e ↦ subst (λ n. slot_in m (obs ++ ob ∷ []) n f ≡ slot_in m obs n f) (sym e)
      (ap (λ (i : Instance). list_of (features_of m i.class) i.slots f) (at_end obs ob no_instance)
      ∙ ap (λ l. list_of (features_of m ob.class) l f) empty ∙ no_lists (features_of m ob.class) f
      ∙ sym (ap (λ (i : Instance). list_of (features_of m i.class) i.slots f) (past_end obs (length obs) no_instance (omega arith)) ∙ list_of-nil (features_of m 0) f))
  | inr (inl l) ↦ ap (λ (i : Instance). list_of (features_of m i.class) i.slots f) (below_end obs ob x no_instance l)
  | inr (inr l) ↦ ap (λ (i : Instance). list_of (features_of m i.class) i.slots f) (past_end (obs ++ ob ∷ []) x no_instance (subst (λ n. n ≤ x) (sym (length-push obs ob)) (omega arith)))
      ∙ sym (ap (λ (i : Instance). list_of (features_of m i.class) i.slots f) (past_end obs x no_instance (omega arith)))
]

module _ (s : Contents) (c e : ℕ) where
  abbrev grown : Contents
  grown = with_new s c e

  abbrev last : Instance
  last = record { class = c; extent = e; slots = map (λ _. []) (features_of s.metas c) }

  pub slot-new : (x f : ℕ) → slot_of grown x f ≡ slot_of s x f
  slot-new x f = slot-push s.metas s.objects last refl x f

  pub slots-new : slot_of grown ≡ slot_of s
  slots-new = λ i x f. slot-new x f i

  pub object-new : (x : ℕ) → is_live s x ≡ true → object_at grown x ≡ object_at s x
  object-new x live = below_end s.objects last x no_instance (ltb-true x (length s.objects) live)

  pub object-last : object_at grown (length s.objects) ≡ last
  object-last = at_end s.objects last no_instance

  pub live-new : (x : ℕ) → is_live s x ≡ true → is_live grown x ≡ true
  live-new x live =
      let h : x < length s.objects = ltb-true x (length s.objects) live in
      lt-ltb x (length grown.objects) (subst (λ n. x < n) (sym (length-push s.objects last)) (omega arith))

  -- an object that is there was there before, or is the new one
  pub each_object : (P : ℕ → Type 0) → ((x : ℕ) → is_live s x ≡ true → P x) → P (length s.objects) → (x : ℕ) → is_live grown x ≡ true → P x
  each_object P old new x live =
      let h : x < length grown.objects = ltb-true x (length grown.objects) live in
      let n : length grown.objects ≡ suc (length s.objects) = length-push s.objects last in
      elim (cases_order x (length s.objects)) [
        | inl e ↦ subst P (sym e) new
        | inr (inl l) ↦ old x (lt-ltb x (length s.objects) l)
        | inr (inr l) ↦ absurd (omega arith)
      ]

pub length-set_list : (gs : List FeatureNo) (lists : List (List Value)) (p : ℕ) (vs : List Value) → length lists ≡ length gs → length (set_list gs lists p vs) ≡ length lists
length-set_list [] lists p vs l = refl
length-set_list (g ∷ gs) [] p vs l = refl
length-set_list (g ∷ gs) (us ∷ lists) p vs l = go (g.0 == p) (length-set_list gs lists p vs (omega arith))
  where
    go : (b : Bool) → length (set_list gs lists p vs) ≡ length lists → length (cond b (vs ∷ lists) (us ∷ set_list gs lists p vs)) ≡ suc (length lists)
    go true e = refl
    go false e = ap suc e

pub list-set : (gs : List FeatureNo) (lists : List (List Value)) (p f : ℕ) (vs : List Value) → length lists ≡ length gs → among_features p gs ≡ true → list_of gs (set_list gs lists p vs) f ≡ cond (f == p) vs (list_of gs lists f)
list-set [] lists p f vs l a = cc
list-set (g ∷ gs) [] p f vs l a = absurd (omega arith)
list-set (g ∷ gs) (us ∷ lists) p f vs l a = elim (cases_eq g.0 p) [
  | inl here ↦ ap (λ b. list_of (g ∷ gs) (cond b (vs ∷ lists) (us ∷ set_list gs lists p vs)) f) (eq-eqb g.0 p here)
      ∙ elim (cases_eq f p) [
        | inl e ↦ ap (λ b. cond b vs (list_of gs lists f)) (eq-eqb g.0 f (here ∙ sym e)) ∙ sym (ap (λ b. cond b vs (cond (g.0 == f) us (list_of gs lists f))) (eq-eqb f p e))
        | inr n ↦ ap (λ b. cond b vs (list_of gs lists f)) (ne_eqb g.0 f (λ q. n (sym q ∙ here)))
            ∙ sym (ap (λ b. cond b vs (cond (g.0 == f) us (list_of gs lists f))) (ne_eqb f p n) ∙ ap (λ b. cond b us (list_of gs lists f)) (ne_eqb g.0 f (λ q. n (sym q ∙ here))))
      ]
  | inr there ↦ ap (λ b. list_of (g ∷ gs) (cond b (vs ∷ lists) (us ∷ set_list gs lists p vs)) f) (ne_eqb g.0 p there)
      ∙ ap (λ t. cond (g.0 == f) us t) (list-set gs lists p f vs (omega arith) (elim (or_cases (g.0 == p) (among_features p gs) a) [
        | inl q ↦ absurd (there ((Decides-eqb g.0 p).0 q))
        | inr q ↦ q
      ]))
      ∙ elim (cases_eq g.0 f) [
        | inl e ↦ ap (λ b. cond b us (cond (f == p) vs (list_of gs lists f))) (eq-eqb g.0 f e)
            ∙ sym (ap (λ b. cond b vs (cond (g.0 == f) us (list_of gs lists f))) (ne_eqb f p (λ q. there (e ∙ q))) ∙ ap (λ b. cond b us (list_of gs lists f)) (eq-eqb g.0 f e))
        | inr n ↦ ap (λ b. cond b us (cond (f == p) vs (list_of gs lists f))) (ne_eqb g.0 f n)
            ∙ sym (ap (λ b. cond (f == p) vs (cond b us (list_of gs lists f))) (ne_eqb g.0 f n))
      ]
]

module _ (s : Contents) (o p : ℕ) (vs : List Value) (live : is_live s o ≡ true) (there : has_feature s.metas (class_of s o) p ≡ true)
    (lists : length (object_at s o).slots ≡ length (features_of s.metas (class_of s o))) where
  abbrev placed : Contents
  placed = with_slot s o p vs

  abbrev changed : Instance
  changed = set_slot (features_of s.metas (class_of s o)) (object_at s o) p vs

  pub object-here : object_at placed o ≡ changed
  object-here = get_or-set_same s.objects o changed no_instance (ltb-true o (length s.objects) live)

  pub object-other : (x : ℕ) → x ≢ o → object_at placed x ≡ object_at s x
  object-other x n = get_or-set_other s.objects o x changed no_instance n

  pub class-placed : (x : ℕ) → class_of placed x ≡ class_of s x
  class-placed x = elim (cases_eq x o) [
    | inl e ↦ subst (λ n. class_of placed n ≡ class_of s n) (sym e) (ap (λ (i : Instance). i.class) object-here)
    | inr n ↦ ap (λ (i : Instance). i.class) (object-other x n)
  ]

  pub extent-placed : (x : ℕ) → extent_of placed x ≡ extent_of s x
  extent-placed x = elim (cases_eq x o) [
    | inl e ↦ subst (λ n. extent_of placed n ≡ extent_of s n) (sym e) (ap (λ (i : Instance). i.extent) object-here)
    | inr n ↦ ap (λ (i : Instance). i.extent) (object-other x n)
  ]

  pub live-placed : (x : ℕ) → is_live placed x ≡ is_live s x
  live-placed x = ap (λ n. nat_lt x n) (length-set s.objects o changed)

  pub lists-placed : (x : ℕ) → length (object_at s x).slots ≡ length (features_of s.metas (class_of s x)) → length (object_at placed x).slots ≡ length (features_of s.metas (class_of placed x))
  lists-placed x same = elim (cases_eq x o) [
    | inl e ↦ subst (λ n. length (object_at placed n).slots ≡ length (features_of s.metas (class_of placed n))) (sym e)
        (ap (λ (i : Instance). length i.slots) object-here ∙ length-set_list (features_of s.metas (class_of s o)) (object_at s o).slots p vs lists ∙ lists
        ∙ ap (λ n. length (features_of s.metas n)) (sym (class-placed o)))
    | inr n ↦ ap (λ (i : Instance). length i.slots) (object-other x n) ∙ same ∙ ap (λ n. length (features_of s.metas n)) (sym (class-placed x))
  ]

  pub slot-placed : (x f : ℕ) → slot_of placed x f ≡ with_list (slot_of s) o p vs x f
  slot-placed x f = elim (cases_eq x o) [
    | inl e ↦ subst (λ n. slot_of placed n f ≡ with_list (slot_of s) o p vs n f) (sym e)
        (ap (λ (i : Instance). list_of (features_of s.metas i.class) i.slots f) object-here
        ∙ list-set (features_of s.metas (class_of s o)) (object_at s o).slots p f vs lists there
        ∙ sym (ap (λ b. cond (b && (f == p)) vs (slot_of s o f)) (eq-eqb o o refl)))
    | inr n ↦ ap (λ (i : Instance). list_of (features_of s.metas i.class) i.slots f) (object-other x n)
        ∙ sym (ap (λ b. cond (b && (f == p)) vs (slot_of s x f)) (ne_eqb x o n))
  ]

  pub slots-placed : slot_of placed ≡ with_list (slot_of s) o p vs
  slots-placed = λ i x f. slot-placed x f i
