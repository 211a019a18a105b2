-- A change puts an object inside itself exactly where an added object is over the changed one or under it, in the old store.
use Rattle.std.proofs.Common.{◌≡◌, ℕ, ◌≤◌, true, false, ◌&&◌, ◌==◌, ◌⊎◌, inl, inr, refl, sym, ap, ◌∙◌, subst, length}
use Rattle.std.specs.Prelude.{Option, Some, None}
use Rattle.std.proofs.lemmas.Bool.Decides.{Decides-eqb}
use Rattle.qvt_base.specs.declared.numbers.FeatureNo.{FeatureNo}
use Rattle.qvt_metamodel.specs.Metamodels.{Metamodels, opposite, is_opposite, is_feature_number, is_containment, is_single}
use Rattle.qvt_metamodel.specs.WellFormed.{IsWellFormed}
use Rattle.qvt_relation.proofs.Bools.{and_left, and_right, and_both, and_false, and_false_left, or_none, either, refuted, clash, none_of}
use Rattle.qvt_slots.specs.Slots.{Slots, has, Contains, Inside, directly, through}
use Rattle.qvt_slots.specs.Change.{Change, is_some_object, is_here, is_added, names_containment, is_container, gains, is_taken, is_replaced, is_moved_in, is_moved, leaves, is_left, slot_after}
use Rattle.qvt_store_laws.specs.Law.{HasDifferences, FitsSingle}
use Rattle.qvt_slots.specs.Walk.{IsOver, SomeOver, IsOverSome, ClosesCycle, by_items, by_end, IsCyclic}
use Rattle.qvt_slots.proofs.Objects.{one_object}
use Rattle.qvt_store_laws.proofs.Held.{given, kept, gained, held_after, after_held, added_new, adds}
use Rattle.qvt_store_laws.proofs.Opposites.{container-of, here, here_again}
use Rattle.qvt_slots.proofs.Walks.{inside_directly}

pub join_inside : (m : Metamodels) (s : Slots) {x y z : ℕ} → Inside m s x y → Inside m s y z → Inside m s x z
join_inside m s (directly k) q = through k q
join_inside m s (through k p) q = through k (join_inside m s p q)

pub over_inside : (m : Metamodels) (s : Slots) (x y z : ℕ) → IsOver m s x y → Inside m s y z → Inside m s x z
over_inside m s x y z over i = elim over [
  | inl same ↦ subst (λ n. Inside m s n z) (sym same) i
  | inr more ↦ join_inside m s more i
]

pub over_over : (m : Metamodels) (s : Slots) (x y z : ℕ) → IsOver m s x y → IsOver m s y z → IsOver m s x z
over_over m s x y z p q = elim q [
  | inl same ↦ subst (λ n. IsOver m s x n) same p
  | inr more ↦ inr (over_inside m s x y z p more)
]

-- a pair of containment that is new
pub record IsNew (c : Change) (u v : ℕ) : Type 0 where
  pub after : Contains c.metas (slot_after c) u v
  pub ends : ((u ≡ c.object) × (is_added c v ≡ true) × (is_containment c.metas c.feature ≡ true)) ⊎ ((v ≡ c.object) × (is_added c u ≡ true) × (is_container c.metas c.feature ≡ true))

pub record ViaNew (c : Change) (x y : ℕ) : Type 0 where
  pub u : ℕ
  pub v : ℕ
  pub u' : ℕ
  pub v' : ℕ
  pub first : IsNew c u v
  pub last : IsNew c u' v'
  pub before : IsOver c.metas c.slots x u
  pub behind : IsOver c.metas c.slots v' y

pub not_container : (m : Metamodels) (well : IsWellFormed m) (p : ℕ) → is_containment m p ≡ true → is_container m p ≡ false
not_container m well p k = go (opposite m p) refl
  where
    go : (q : Option FeatureNo) → opposite m p ≡ q → names_containment m q ≡ false
    go None e = refl
    go (Some q) e = well.one_containment p q.0 (ap (λ r. is_feature_number r q.0) e ∙ (Decides-eqb q.0 q.0).1 refl) k

module _ (c : Change) (made : HasDifferences c) (well : IsWellFormed c.metas) (fits : FitsSingle c) (acyclic : (x : ℕ) → Inside c.metas c.slots x x → ⊥) where
  abbrev m : Metamodels
  m = c.metas

  edge_back : (x y : ℕ) → Contains m (slot_after c) x y → Contains m c.slots x y ⊎ IsNew c x y
  edge_back x y k = elim (held_after c x k.feature y k.held) [
    | given at new ↦
        let x_is : x ≡ c.object = (here c x k.feature at).0 in
        let f_is : k.feature ≡ c.feature = (here c x k.feature at).1 in
        elim (either (has (c.slots c.object c.feature) y)) [
          | inl was ↦ inl (record { feature = k.feature; containment = k.containment; held = subst (λ n. has (c.slots n k.feature) y ≡ true) (sym x_is) (subst (λ n. has (c.slots c.object n) y ≡ true) (sym f_is) was) })
          | inr was ↦ inr (record { after = k; ends = inl (x_is, adds c made y new was, subst (λ n. is_containment m n ≡ true) f_is k.containment) })
        ]
    | kept n was stays ↦ inl (record { feature = k.feature; containment = k.containment; held = was })
    | gained n g at ↦ inr (record { after = k; ends = inr (sym at, and_right (is_opposite m c.feature k.feature) _ g, container-of m (opposite m c.feature) k.feature (and_left _ _ g) ∙ k.containment) })
  ]

  via_new : {x y : ℕ} → Inside m (slot_after c) x y → Inside m c.slots x y ⊎ ViaNew c x y
  via_new (directly {x} {y} k) = elim (edge_back x y k) [
    | inl old ↦ inl (directly old)
    | inr new ↦ inr (record { u = x; v = y; u' = x; v' = y; first = new; last = new; before = inl refl; behind = inl refl })
  ]
  via_new (through {x} {y} {z} k i) = elim (edge_back x y k) [
    | inl old ↦ elim (via_new i) [
      | inl rest ↦ inl (through old rest)
      | inr r ↦ inr (record { u = r.u; v = r.v; u' = r.u'; v' = r.v'; first = r.first; last = r.last; before = inr (inside_directly m c.slots x y r.u old r.before); behind = r.behind })
    ]
    | inr new ↦ elim (via_new i) [
      | inl rest ↦ inr (record { u = x; v = y; u' = x; v' = y; first = new; last = new; before = inl refl; behind = inr rest })
      | inr r ↦ inr (record { u = x; v = y; u' = r.u'; v' = r.v'; first = new; last = r.last; before = inl refl; behind = r.behind })
    ]
  ]

  -- a cycle shows an added object over the changed one, or the changed one over an added one
  record Meets : Type 0 where
    u : ℕ
    v : ℕ
    u' : ℕ
    v' : ℕ
    first : IsNew c u v
    last : IsNew c u' v'
    over : IsOver m c.slots v' u

  cycle_meets : (x : ℕ) → Inside m (slot_after c) x x → Meets
  cycle_meets x i = elim (via_new i) [
    | inl old ↦ absurd (acyclic x old)
    | inr r ↦ record { u = r.u; v = r.v; u' = r.u'; v' = r.v'; first = r.first; last = r.last; over = over_over m c.slots r.v' x r.u r.behind r.before }
  ]

  pub cycle_closes : (x : ℕ) → Inside m (slot_after c) x x → ClosesCycle c
  cycle_closes x i =
      let r : Meets = cycle_meets x i in
      elim r.first.ends [
        | inl (u_is, b, k) ↦ elim r.last.ends [
          | inl (a', added, k') ↦ by_items k (record { object = r.v'; listed = added; over = subst (λ n. IsOver m c.slots r.v' n) u_is r.over })
          | inr (a', b', k') ↦ clash _ k' (not_container m well c.feature k)
        ]
        | inr (v_is, added, k) ↦ elim r.last.ends [
          | inl (a', b', k') ↦ clash _ k (not_container m well c.feature k')
          | inr (v'_is, added', k') ↦ by_end k (record { object = r.u; listed = added; under = subst (λ n. IsOver m c.slots n r.u) v'_is r.over })
        ]
      ]

  module _ (cont : is_containment c.metas c.feature ≡ true) where
    no_container : is_container m c.feature ≡ false
    no_container = not_container m well c.feature cont

    edge_stays : (x y : ℕ) → Contains m c.slots x y → is_added c y ≡ false → (x ≡ c.object → ⊥) → Contains m (slot_after c) x y
    edge_stays x y k free other = record { feature = k.feature; containment = k.containment; held = after_held c x k.feature y (kept not_here k.held (or_none _ _ direct (mirrored (opposite m k.feature) refl))) }
      where
        not_here : is_here c x k.feature ≡ false
        not_here = refuted _ (λ h. other (here c x k.feature h).0)

        no_gain : gains c x k.feature ≡ false
        no_gain = and_false_left _ _ (refuted _ (λ e. clash _ k.containment (well.one_containment c.feature k.feature e cont)))

        direct : leaves c x k.feature y ≡ false
        direct = none_of (is_taken c x k.feature y) (is_replaced c x k.feature y) (is_moved_in c x k.feature y) (is_moved c x k.feature y)
            (and_false_left _ _ not_here)
            (and_false_left _ _ (and_false_left _ _ no_gain))
            (and_false_left _ _ (and_false (is_containment m c.feature && is_containment m k.feature) _ (λ _. free)))
            (and_false_left _ _ (and_false_left _ _ (and_false_left _ _ (and_false_left _ _ no_container))))

        mirrored : (q : Option FeatureNo) → opposite m k.feature ≡ q → is_left c q x y ≡ false
        mirrored None e = refl
        mirrored (Some g) e =
            let opp : is_opposite m k.feature g.0 ≡ true = ap (λ r. is_feature_number r g.0) e ∙ (Decides-eqb g.0 g.0).1 refl in
            let plain : is_containment m g.0 ≡ false = well.one_containment k.feature g.0 opp k.containment in
            and_false (has (c.slots y g.0) x) _ (λ _. none_of (is_taken c y g.0 x) (is_replaced c y g.0 x) (is_moved_in c y g.0 x) (is_moved c y g.0 x)
            (and_false_left _ _ (refuted _ (λ h. clash _ (subst (λ n. is_containment m n ≡ true) (sym (here c y g.0 h).1) cont) plain)))
            (and_false_left _ _ (and_false_left _ _ (and_false (is_opposite m c.feature g.0) _ (λ _. free))))
            (and_false_left _ _ (and_false_left _ _ (and_false (is_containment m c.feature) _ (λ _. plain))))
            (and_false_left _ _ (and_false_left _ _ (and_false_left _ _ (and_false_left _ _ no_container)))))

    new_edge : (y : ℕ) → is_added c y ≡ true → Contains m (slot_after c) c.object y
    new_edge y added = record { feature = c.feature; containment = cont; held = after_held c c.object c.feature y (given (here_again c) (added_new c made y added)) }

    record LowestAdded : Type 0 where
      object : ℕ
      added : is_added c object ≡ true
      over : IsOver m (slot_after c) object c.object

    lowest : {b y : ℕ} → Inside m c.slots b y → y ≡ c.object → Inside m (slot_after c) b y ⊎ LowestAdded
    lowest (directly {x} {y} k) e = elim (either (is_added c y)) [
      | inl added ↦ inr (record { object = y; added = added; over = inl e })
      | inr free ↦ inl (directly (edge_stays x y k free (λ same. acyclic x (directly (subst (λ n. Contains m c.slots x n) (e ∙ sym same) k)))))
    ]
    lowest (through {x} {y} {z} k i) e = elim (lowest i e) [
      | inr found ↦ inr found
      | inl rest ↦ elim (either (is_added c y)) [
        | inl added ↦ inr (record { object = y; added = added; over = inr (subst (λ n. Inside m (slot_after c) y n) e rest) })
        | inr free ↦ inl (through (edge_stays x y k free (λ same. acyclic x (through k (subst (λ n. Inside m c.slots y n) (e ∙ sym same) i)))) rest)
      ]
    ]

    closes : (a : ℕ) → is_added c a ≡ true → IsOver m (slot_after c) a c.object → Inside m (slot_after c) c.object c.object
    closes a added over = inside_directly m (slot_after c) c.object a c.object (new_edge a added) over

    pub over_cycle : SomeOver m c.slots c.added c.object → Inside m (slot_after c) c.object c.object
    over_cycle some = elim some.over [
      | inl same ↦ closes some.object some.listed (inl same)
      | inr more ↦ elim (lowest more refl) [
        | inl stays ↦ closes some.object some.listed (inr stays)
        | inr found ↦ closes found.object found.added found.over
      ]
    ]

  module _ (holds' : is_container c.metas c.feature ≡ true) where
    not_containment : is_containment m c.feature ≡ false
    not_containment = refuted _ (λ k. clash _ holds' (not_container m well c.feature k))

    single_of : (q : Option FeatureNo) → opposite m c.feature ≡ q → names_containment m q ≡ true → is_single m c.feature ≡ true
    single_of None e k = cc
    single_of (Some q) e k = well.one_container q.0 c.feature (well.mutual_opposites c.feature q.0 (ap (λ r. is_feature_number r q.0) e ∙ (Decides-eqb q.0 q.0).1 refl)) k

    one_item : length c.items ≤ 1
    one_item = fits.single (single_of (opposite m c.feature) refl holds')

    one_added : (x a : ℕ) → is_added c x ≡ true → is_added c a ≡ true → x ≡ a
    one_added x a p q = one_object c.items x a one_item (added_new c made x p) (added_new c made a q)

    edge_kept : (x y : ℕ) → Contains m c.slots x y → is_added c x ≡ false → (y ≡ c.object → ⊥) → Contains m (slot_after c) x y
    edge_kept x y k free other = record { feature = k.feature; containment = k.containment; held = after_held c x k.feature y (kept not_here k.held (or_none _ _ direct (mirrored (opposite m k.feature) refl))) }
      where
        not_o : (y == c.object) ≡ false
        not_o = refuted _ (λ h. other ((Decides-eqb y c.object).0 h))

        not_here : is_here c x k.feature ≡ false
        not_here = refuted _ (λ h. clash _ (subst (λ n. is_containment m n ≡ true) (here c x k.feature h).1 k.containment) not_containment)

        direct : leaves c x k.feature y ≡ false
        direct = none_of (is_taken c x k.feature y) (is_replaced c x k.feature y) (is_moved_in c x k.feature y) (is_moved c x k.feature y)
            (and_false_left _ _ not_here)
            (and_false_left _ _ (and_false_left _ _ (and_false (is_opposite m c.feature k.feature) _ (λ _. free))))
            (and_false_left _ _ (and_false_left _ _ (and_false_left _ _ not_containment)))
            (and_false_left _ _ (and_false (is_container m c.feature && is_some_object c.added && is_containment m k.feature) _ (λ _. not_o)))

        mirrored : (q : Option FeatureNo) → opposite m k.feature ≡ q → is_left c q x y ≡ false
        mirrored None e = refl
        mirrored (Some g) e =
            let opp : is_opposite m k.feature g.0 ≡ true = ap (λ r. is_feature_number r g.0) e ∙ (Decides-eqb g.0 g.0).1 refl in
            let plain : is_containment m g.0 ≡ false = well.one_containment k.feature g.0 opp k.containment in
            and_false (has (c.slots y g.0) x) _ (λ _. none_of (is_taken c y g.0 x) (is_replaced c y g.0 x) (is_moved_in c y g.0 x) (is_moved c y g.0 x)
            (and_false_left _ _ (refuted _ (λ h. other (here c y g.0 h).0)))
            (and_false_left _ _ (and_false_left _ _ (and_false_left _ _ (refuted _ (λ e'. clash _ holds' (container-of m (opposite m c.feature) g.0 e' ∙ plain))))))
            (and_false_left _ _ (and_false_left _ _ (and_false (is_containment m c.feature) _ (λ _. plain))))
            (and_false_left _ _ (and_false_left _ _ (and_false (is_container m c.feature && is_some_object c.added) _ (λ _. plain)))))

    -- the whole path from the changed object down to the added one stays
    path_kept : (a : ℕ) → is_added c a ≡ true → {x y : ℕ} → Inside m c.slots x y → y ≡ a → IsOver m c.slots c.object x → Inside m (slot_after c) x y
    path_kept a added (directly {x} {y} k) e over = directly (edge_kept x y k
        (refuted _ (λ new. acyclic a (directly (subst (λ n. Contains m c.slots n a) (one_added x a new added) (subst (λ n. Contains m c.slots x n) e k)))))
        (λ same. acyclic c.object (over_inside m c.slots c.object x c.object over (directly (subst (λ n. Contains m c.slots x n) same k)))))
    path_kept a added (through {x} {y} {z} k i) e over = through (edge_kept x y k
        (refuted _ (λ new. acyclic a (subst (λ n. Inside m c.slots n a) (one_added x a new added) (through k (subst (λ n. Inside m c.slots y n) e i)))))
        (λ same. acyclic c.object (over_inside m c.slots c.object x c.object over (directly (subst (λ n. Contains m c.slots x n) same k)))))
        (path_kept a added i e (inr (over_inside m c.slots c.object x y over (directly k))))

    added_edge : (a : ℕ) → is_added c a ≡ true → Contains m (slot_after c) a c.object
    added_edge a added = go (opposite m c.feature) refl holds'
      where
        go : (q : Option FeatureNo) → opposite m c.feature ≡ q → names_containment m q ≡ true → Contains m (slot_after c) a c.object
        go None e k = cc
        go (Some q) e k =
            let opp : is_opposite m c.feature q.0 ≡ true = ap (λ r. is_feature_number r q.0) e ∙ (Decides-eqb q.0 q.0).1 refl in
            record {
              feature = q.0;
              containment = k;
              held = after_held c a q.0 c.object (gained
                  (refuted _ (λ h. clash _ opp (subst (λ n. is_opposite m c.feature n ≡ false) (sym (here c a q.0 h).1) (well.other_feature c.feature))))
                  (and_both _ _ opp added) refl);
            }

    pub under_cycle : IsOverSome m c.slots c.object c.added → Inside m (slot_after c) c.object c.object
    under_cycle some = elim some.under [
      | inl same ↦ directly (subst (λ n. Contains m (slot_after c) n c.object) (sym same) (added_edge some.object some.listed))
      | inr more ↦ join_inside m (slot_after c) (path_kept some.object some.listed more refl (inl refl)) (directly (added_edge some.object some.listed))
    ]

  pub closes_cycle : ClosesCycle c → IsCyclic m (slot_after c)
  closes_cycle (by_items k some) = record { object = c.object; inside = over_cycle k some }
  closes_cycle (by_end k some) = record { object = c.object; inside = under_cycle k some }
