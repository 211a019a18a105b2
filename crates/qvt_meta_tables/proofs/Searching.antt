-- The search for an order of classes: each visit leaves it as it is to be, and where none is left all classes are placed.
use Rattle.std.proofs.Common.{◌≡◌, ◌∙◌, ℕ, zero, suc, ◌+◌, ◌<◌, List, [], ◌∷◌, ◌++◌, length, map, get_or, set, take, Bool, true, false, refl, ap, sym, subst, arith, ◌==◌, ◌||◌, ◌⊎◌, inl, inr, append_assoc, replicate}
use Rattle.std.specs.List.{list_any, list_all, AllByRecursion}
use Rattle.std.specs.Prelude.{slice_index, nat_lt, if◌then◌else◌}
use Rattle.std.proofs.lemmas.List.{get_or_past, get_or-set_other, length-set, length-append, append-nil, take-append-le, length-replicate}
use Rattle.std.proofs.Math.Seq.{take-append_seam}
use Rattle.std.proofs.lemmas.Bool.{eqb-true, eq-eqb, cases_eq, lt-ltb}
use Rattle.std.proofs.lemmas.Bool.Decides.{leb_tells}
use Rattle.qvt_base.specs.declared.numbers.ClassNo.{ClassNo}
use Rattle.qvt_relation.specs.Closure.{Closure, directly}
use Rattle.qvt_relation.proofs.Closures.{join}
use Rattle.qvt_metamodel.specs.declared.info.ClassInfo.{ClassInfo}
use Rattle.qvt_metamodel.specs.Metamodels.{class_at, nowhere_class}
use Rattle.qvt_metamodel.proofs.Bools.{or_cases, or_left, or_right, and_both, clash}
use Rattle.qvt_metamodel.proofs.Halves.{old-at, new-at}
use Rattle.qvt_metamodel.proofs.ListFacts.{list_any-map, all-found}
use Rattle.qvt_meta_tables.specs.declared.visit.Visit.{Visit}
use Rattle.qvt_meta_tables.specs.declared.visit.Visit.TheVariants.{Enter, Leave}
use Rattle.qvt_meta_tables.specs.Tables.{of_classes, IsOrder}
use Rattle.qvt_meta_tables.specs.Search.{visited_class, is_leave, is_waiting, is_open, opens, stands_in, flag, unmarked_count, work, IsSuper, AreLive, IsAcyclic, Rise, Owe, IsClosed, IsSearch, place_of}
use Rattle.qvt_meta_tables.proofs.Filling.{replicate-at}

any_append : {X : Type 0} (p : X → Bool) (xs ys : List X) → list_any p (xs ++ ys) ≡ (list_any p xs || list_any p ys)
any_append p [] ys = refl
any_append p (x ∷ xs) ys = ap (λ t. p x || t) (any_append p xs ys) ∙ by (p x)
  where
    by : (t : Bool) → (t || (list_any p xs || list_any p ys)) ≡ ((t || list_any p xs) || list_any p ys)
    by true = refl
    by false = refl

any_left : {X : Type 0} (p : X → Bool) (xs ys : List X) → list_any p xs ≡ true → list_any p (xs ++ ys) ≡ true
any_left p xs ys h = any_append p xs ys ∙ or_left (list_any p xs) (list_any p ys) h

any_right : {X : Type 0} (p : X → Bool) (xs ys : List X) → list_any p ys ≡ true → list_any p (xs ++ ys) ≡ true
any_right p xs ys h = any_append p xs ys ∙ or_right (list_any p xs) (list_any p ys) h

any_either : {X : Type 0} (p : X → Bool) (xs ys : List X) → list_any p (xs ++ ys) ≡ true → (list_any p xs ≡ true) ⊎ (list_any p ys ≡ true)
any_either p xs ys h = or_cases (list_any p xs) (list_any p ys) (sym (any_append p xs ys) ∙ h)

any_one : {X : Type 0} (p : X → Bool) (x : X) → list_any p (x ∷ []) ≡ true → p x ≡ true
any_one p x h = elim (or_cases (p x) false h) [ inl t ↦ t | inr never ↦ absurd (cc) ]

one_any : {X : Type 0} (p : X → Bool) (x : X) → p x ≡ true → list_any p (x ∷ []) ≡ true
one_any p x h = or_left (p x) false h

abbrev waits : ℕ → Visit → Bool
waits c v = visited_class v == c

abbrev is_number : ℕ → ℕ → Bool
is_number c d = d == c

abbrev pub enters : List ClassNo → List Visit
enters ss = map (λ s. Enter s.0) ss

itself : (v : Visit) → is_waiting (visited_class v) (v ∷ []) ≡ true
itself v = one_any (waits (visited_class v)) v (eq-eqb (visited_class v) (visited_class v) refl)

waiting_enters : (d : ℕ) (ss : List ClassNo) → is_waiting d (enters ss) ≡ list_any (λ s. s.0 == d) ss
waiting_enters d ss = list_any-map (waits d) (λ (s : ClassNo). Enter s.0) ss

opens_append : (vs ws : List Visit) → opens (vs ++ ws) ≡ opens vs + opens ws
opens_append [] ws = omega arith
opens_append (Enter c ∷ vs) ws = opens_append vs ws
opens_append (Leave c ∷ vs) ws = (let rest : opens (vs ++ ws) ≡ opens vs + opens ws = opens_append vs ws in omega (arith, rest))

opens_enters : (ss : List ClassNo) → opens (enters ss) ≡ 0
opens_enters [] = refl
opens_enters (s ∷ ss) = opens_enters ss

pub fewer_set : (marks : List Bool) (i : ℕ) → i < length marks → get_or marks i false ≡ false → unmarked_count marks ≡ 1 + unmarked_count (set marks i true)
fewer_set [] i l h = absurd (omega arith)
fewer_set (true ∷ marks) zero l h = absurd (cc)
fewer_set (false ∷ marks) zero l h = refl
fewer_set (true ∷ marks) (suc i) l h = fewer_set marks i (omega arith) h
fewer_set (false ∷ marks) (suc i) l h = ap (λ n. 1 + n) (fewer_set marks i (omega arith) h)

pub work_set : (marks : List Bool) (ks : List ClassInfo) (i : ℕ) → length marks ≡ length ks → i < length marks → get_or marks i false ≡ false
    → work marks ks ≡ 1 + length (get_or ks i nowhere_class).supers + work (set marks i true) ks
work_set [] ks i e l h = absurd (omega arith)
work_set (b ∷ marks) [] i e l h = absurd (let never : suc (length marks) ≡ 0 = e in omega (arith, never))
work_set (true ∷ marks) (k ∷ ks) zero e l h = absurd (cc)
work_set (false ∷ marks) (k ∷ ks) zero e l h = refl
work_set (true ∷ marks) (k ∷ ks) (suc i) e l h = work_set marks ks i (omega (arith, e)) (omega arith) h
work_set (false ∷ marks) (k ∷ ks) (suc i) e l h =
    (let rest : work marks ks ≡ 1 + length (get_or ks i nowhere_class).supers + work (set marks i true) ks = work_set marks ks i (omega (arith, e)) (omega arith) h in omega (arith, rest))

none_unmarked : (marks : List Bool) → ((c : ℕ) → c < length marks → get_or marks c false ≡ true) → unmarked_count marks ≡ 0
none_unmarked [] h = refl
none_unmarked (true ∷ marks) h = none_unmarked marks (λ c l. h (suc c) (omega (arith, l)))
none_unmarked (false ∷ marks) h = clash (h 0 (omega arith)) refl

unmarked_all : (n : ℕ) → unmarked_count (replicate n false) ≡ n
unmarked_all zero = refl
unmarked_all (suc n) = (let rest : unmarked_count (replicate n false) ≡ n = unmarked_all n in omega (arith, rest))

module _ (ks : List ClassInfo) where
  rise_next : (vs : List Visit) (v : Visit) (tail : List Visit) → Rise ks (vs ++ v ∷ []) → Rise ks tail
      → ((d : ℕ) → is_waiting d tail ≡ true → (visited_class v ≡ d) ⊎ Closure (IsSuper ks) (visited_class v) d) → Rise ks (vs ++ tail)
  rise_next [] v tail r t from = t
  rise_next (Enter c ∷ vs) v tail r t from = rise_next vs v tail r t from
  rise_next (Leave c ∷ vs) v tail r t from = (after, rise_next vs v tail r.1 t from)
    where
      last : Closure (IsSuper ks) c (visited_class v)
      last = r.0 (visited_class v) (any_right (waits (visited_class v)) vs (v ∷ []) (itself v))

      after : (d : ℕ) → is_waiting d (vs ++ tail) ≡ true → Closure (IsSuper ks) c d
      after d h = elim (any_either (waits d) vs tail h) [
        | inl old ↦ r.0 d (any_left (waits d) vs (v ∷ []) old)
        | inr new ↦ elim (from d new) [
          | inl same ↦ subst (Closure (IsSuper ks) c) same last
          | inr way ↦ join (IsSuper ks) last way
        ]
      ]

  owe_next : (placed after : List ℕ) (vs : List Visit) (v : Visit) (tail : List Visit) → ((d : ℕ) → stands_in d placed ≡ true → stands_in d after ≡ true)
      → Owe ks placed (vs ++ v ∷ []) → Owe ks after tail → (stands_in (visited_class v) after ≡ true) ⊎ (is_waiting (visited_class v) tail ≡ true) → Owe ks after (vs ++ tail)
  owe_next placed after [] v tail more o t there = t
  owe_next placed after (Enter c ∷ vs) v tail more o t there = owe_next placed after vs v tail more o t there
  owe_next placed after (Leave c ∷ vs) v tail more o t there = (owes, owe_next placed after vs v tail more o.1 t there)
    where
      last : (d : ℕ) → visited_class v ≡ d → (stands_in d after ≡ true) ⊎ (is_waiting d (vs ++ tail) ≡ true)
      last d same = elim there [
        | inl p ↦ inl (subst (λ x. stands_in x after ≡ true) same p)
        | inr w ↦ inr (any_right (waits d) vs tail (subst (λ x. is_waiting x tail ≡ true) same w))
      ]

      owes : (d : ℕ) → IsSuper ks c d → (stands_in d after ≡ true) ⊎ (is_waiting d (vs ++ tail) ≡ true)
      owes d up = elim (o.0 d up) [
        | inl p ↦ inl (more d p)
        | inr w ↦ elim (any_either (waits d) vs (v ∷ []) w) [
          | inl old ↦ inr (any_left (waits d) vs tail old)
          | inr new ↦ last d (eqb-true (visited_class v) d (any_one (waits d) v new))
        ]
      ]

  owe_last : (placed : List ℕ) (vs : List Visit) (c : ℕ) → Owe ks placed (vs ++ Leave c ∷ []) → (d : ℕ) → IsSuper ks c d → stands_in d placed ≡ true
  owe_last placed [] c o d up = elim (o.0 d up) [ inl p ↦ p | inr never ↦ absurd (cc) ]
  owe_last placed (Enter x ∷ vs) c o d up = owe_last placed vs c o d up
  owe_last placed (Leave x ∷ vs) c o d up = owe_last placed vs c o.1 d up

  rise_last : (vs : List Visit) (v : Visit) → Rise ks (vs ++ v ∷ []) → (c : ℕ) → is_open c vs ≡ true → Closure (IsSuper ks) c (visited_class v)
  rise_last [] v r c h = absurd (cc)
  rise_last (Enter d ∷ vs) v r c h = rise_last vs v r c h
  rise_last (Leave d ∷ vs) v r c h = elim (or_cases (d == c) (is_open c vs) h) [
    | inl same ↦ subst (λ x. Closure (IsSuper ks) x (visited_class v)) (eqb-true d c same) (r.0 (visited_class v) (any_right (waits (visited_class v)) vs (v ∷ []) (itself v)))
    | inr more ↦ rise_last vs v r.1 c more
  ]

  closed_next : (placed : List ℕ) (c : ℕ) → IsClosed ks placed → ((d : ℕ) → IsSuper ks c d → stands_in d placed ≡ true) → IsClosed ks (placed ++ c ∷ [])
  closed_next placed c h all i l d up = elim (leb_tells (suc i) (length placed)) [
    | inl t ↦
        let low : i < length placed = omega (arith, t.1) in
        subst (λ xs. stands_in d xs ≡ true) (sym (take-append-le i placed (c ∷ []) (omega (arith, low))))
        (h i low d (subst (λ x. IsSuper ks x d) (old-at placed (c ∷ []) i 0 low) up))
    | inr f ↦
        let same : i ≡ length placed = omega (arith, f.1, l, length-append placed (c ∷ [])) in
        subst (λ n. stands_in d (take n (placed ++ c ∷ [])) ≡ true) (sym same)
        (subst (λ xs. stands_in d xs ≡ true) (sym (take-append_seam placed (c ∷ [])))
        (all d (subst (λ x. IsSuper ks x d) (ap (λ n. get_or (placed ++ c ∷ []) n 0) (let more : i ≡ length placed + 0 = omega (arith, same) in more) ∙ new-at placed (c ∷ []) 0 0) up)))
  ]

  rise_enters : (ss : List ClassNo) → Rise ks (enters ss)
  rise_enters [] = tt
  rise_enters (s ∷ ss) = rise_enters ss

  owe_enters : (placed : List ℕ) (ss : List ClassNo) → Owe ks placed (enters ss)
  owe_enters placed [] = tt
  owe_enters placed (s ∷ ss) = owe_enters placed ss

  open_front : (d : ℕ) (vs : List Visit) (c : ℕ) → is_open d (vs ++ Enter c ∷ []) ≡ true → is_open d vs ≡ true
  open_front d vs c h = elim (any_either (is_leave d) vs (Enter c ∷ []) h) [ inl old ↦ old | inr never ↦ absurd (cc) ]

  -- a class that was met before
  pub skipped : (met : List Bool) (placed : List ℕ) (vs : List Visit) (c : ℕ) → IsAcyclic ks → IsSearch ks met placed (vs ++ Enter c ∷ []) → flag met c ≡ true → IsSearch ks met placed vs
  skipped met placed vs c acyclic s old = record {
    each = s.each;
    live = λ d w. s.live d (any_left (waits d) vs (Enter c ∷ []) w);
    rise = subst (Rise ks) (append-nil vs) (rise_next vs (Enter c) [] s.rise tt (λ d never. absurd (cc)));
    owe = subst (Owe ks placed) (append-nil vs) (owe_next placed placed vs (Enter c) [] (λ d p. p) s.owe tt (inl there));
    seen = λ d f. elim (s.seen d f) [ inl p ↦ inl p | inr o ↦ inr (open_front d vs c o) ];
    closed = s.closed;
    count = omega (arith, s.count, opens_append vs (Enter c ∷ []));
  }
    where
      there : stands_in c placed ≡ true
      there = elim (s.seen c old) [ inl p ↦ p | inr o ↦ absurd (acyclic c (rise_last vs (Enter c) s.rise c (open_front c vs c o))) ]

  -- a class whose superclasses are placed
  pub left : (met : List Bool) (placed : List ℕ) (vs : List Visit) (c : ℕ) → IsSearch ks met placed (vs ++ Leave c ∷ []) → IsSearch ks met (placed ++ c ∷ []) vs
  left met placed vs c s = record {
    each = s.each;
    live = λ d w. s.live d (any_left (waits d) vs (Leave c ∷ []) w);
    rise = subst (Rise ks) (append-nil vs) (rise_next vs (Leave c) [] s.rise tt (λ d never. absurd (cc)));
    owe = subst (Owe ks (placed ++ c ∷ [])) (append-nil vs) (owe_next placed (placed ++ c ∷ []) vs (Leave c) [] (λ d p. any_left (is_number d) placed (c ∷ []) p) s.owe tt (inl (here c refl)));
    seen = λ d f. elim (s.seen d f) [
      | inl p ↦ inl (any_left (is_number d) placed (c ∷ []) p)
      | inr o ↦ elim (any_either (is_leave d) vs (Leave c ∷ []) o) [
        | inl old ↦ inr old
        | inr last ↦ inl (here d (eqb-true c d (any_one (is_leave d) (Leave c) last)))
      ]
    ];
    closed = closed_next placed c s.closed (owe_last placed vs c s.owe);
    count = omega (arith, s.count, opens_append vs (Leave c ∷ []), length-append placed (c ∷ []));
  }
    where
      here : (d : ℕ) → c ≡ d → stands_in d (placed ++ c ∷ []) ≡ true
      here d same = any_right (is_number d) placed (c ∷ []) (one_any (is_number d) c (eq-eqb c d same))

  abbrev supers : ℕ → List ClassNo
  supers c = (class_at (of_classes ks) c).supers

  -- a class that is met for the first time
  entered_tail : (met : List Bool) (placed : List ℕ) (vs : List Visit) (c : ℕ) → AreLive ks → IsSearch ks met placed (vs ++ Enter c ∷ []) → flag met c ≡ false
      → IsSearch ks (set met c true) placed (vs ++ Leave c ∷ enters (supers c))
  entered_tail met placed vs c live s new = record {
    each = length-set met c true ∙ s.each;
    live = λ d w. elim (any_either (waits d) vs (Leave c ∷ enters (supers c)) w) [
      | inl old ↦ s.live d (any_left (waits d) vs (Enter c ∷ []) old)
      | inr more ↦ elim (in_tail d more) [
        | inl same ↦ subst (λ x. x < length ks) same here
        | inr up ↦ live c d up
      ]
    ];
    rise = rise_next vs (Enter c) (Leave c ∷ enters (supers c)) s.rise ((λ d w. directly (above d w)), rise_enters (supers c))
        (λ d w. elim (in_tail d w) [ inl same ↦ inl same | inr up ↦ inr (directly up) ]);
    owe = owe_next placed placed vs (Enter c) (Leave c ∷ enters (supers c)) (λ d p. p) s.owe ((λ d up. inr (waiting_enters d (supers c) ∙ up)), owe_enters placed (supers c))
        (inr (or_left (c == c) (is_waiting c (enters (supers c))) (eq-eqb c c refl)));
    seen = λ d f. elim (cases_eq d c) [
      | inl same ↦ inr (any_right (is_leave d) vs (Leave c ∷ enters (supers c)) (or_left (c == d) (is_open d (enters (supers c))) (eq-eqb c d (sym same))))
      | inr other ↦ elim (s.seen d (sym (get_or-set_other met c d true false other) ∙ f)) [
        | inl p ↦ inl p
        | inr o ↦ inr (any_left (is_leave d) vs (Leave c ∷ enters (supers c)) (open_front d vs c o))
      ]
    ];
    closed = s.closed;
    count = omega (arith, s.count, opens_append vs (Enter c ∷ []), opens_append vs (Leave c ∷ enters (supers c)), opens_enters (supers c), fewer_set met c (omega (arith, here, s.each)) new);
  }
    where
      here : c < length ks
      here = s.live c (any_right (waits c) vs (Enter c ∷ []) (itself (Enter c)))

      above : (d : ℕ) → is_waiting d (enters (supers c)) ≡ true → IsSuper ks c d
      above d w = sym (waiting_enters d (supers c)) ∙ w

      in_tail : (d : ℕ) → is_waiting d (Leave c ∷ enters (supers c)) ≡ true → (c ≡ d) ⊎ IsSuper ks c d
      in_tail d w = elim (or_cases (c == d) (is_waiting d (enters (supers c))) w) [ inl same ↦ inl (eqb-true c d same) | inr up ↦ inr (above d up) ]

  pub entered : (met : List Bool) (placed : List ℕ) (vs : List Visit) (c : ℕ) → AreLive ks → IsSearch ks met placed (vs ++ Enter c ∷ []) → flag met c ≡ false
      → IsSearch ks (set met c true) placed ((vs ++ Leave c ∷ []) ++ enters (supers c))
  entered met placed vs c live s new = subst (IsSearch ks (set met c true) placed) (sym (append_assoc vs (Leave c ∷ []) (enters (supers c)))) (entered_tail met placed vs c live s new)

  pub here_is : (met : List Bool) (placed : List ℕ) (vs : List Visit) (c : ℕ) → IsSearch ks met placed (vs ++ Enter c ∷ []) → c < length met
  here_is met placed vs c s = (let low : c < length ks = s.live c (any_right (waits c) vs (Enter c ∷ []) (itself (Enter c))) in omega (arith, low, s.each))

  pub first : IsSearch ks (replicate (length ks) false) [] []
  first = record {
    each = length-replicate (length ks) false;
    live = λ d w. absurd (cc);
    rise = tt;
    owe = tt;
    seen = λ d f. clash f (replicate-at (length ks) d false);
    closed = λ i l d up. absurd (omega arith);
    count = omega (arith, unmarked_all (length ks));
  }

  pub again : (met : List Bool) (placed : List ℕ) (vs : List Visit) (c : ℕ) → IsSearch ks met placed vs → vs ≡ [] → c < length ks → IsSearch ks met placed (vs ++ Enter c ∷ [])
  again met placed vs c s e l = subst (λ v. IsSearch ks met placed (v ++ Enter c ∷ [])) (sym e) (next (subst (IsSearch ks met placed) e s))
    where
      next : IsSearch ks met placed [] → IsSearch ks met placed (Enter c ∷ [])
      next s = record {
        each = s.each;
        live = λ d w. subst (λ x. x < length ks) (eqb-true c d (any_one (waits d) (Enter c) w)) l;
        rise = tt;
        owe = tt;
        seen = λ d f. elim (s.seen d f) [ inl p ↦ inl p | inr o ↦ absurd (cc) ];
        closed = s.closed;
        count = s.count;
      }

  pub all_placed : (met : List Bool) (placed : List ℕ) (vs : List Visit) → IsSearch ks met placed vs → vs ≡ [] → ((c : ℕ) → c < length ks → flag met c ≡ true) → length placed ≡ length ks
  all_placed met placed vs s e all =
      (let none : unmarked_count met ≡ 0 = none_unmarked met (λ c l. all c (omega (arith, l, s.each))) in let shut : opens vs ≡ 0 = ap opens e in omega (arith, s.count, none, shut))

  pub each_placed : (met : List Bool) (placed : List ℕ) (vs : List Visit) → IsSearch ks met placed vs → vs ≡ [] → (c : ℕ) → flag met c ≡ true → stands_in c placed ≡ true
  each_placed met placed vs s e c f = elim (s.seen c f) [ inl p ↦ p | inr o ↦ clash (subst (λ v. is_open c v ≡ true) e o) refl ]

nothing_taken : (i c : ℕ) → stands_in c (take i []) ≡ false
nothing_taken zero c = refl
nothing_taken (suc i) c = refl

tail_of : (d c : ℕ) (more : Bool) → ((d == c) || more) ≡ true → (d == c) ≡ false → more ≡ true
tail_of d c more h e = elim (or_cases (d == c) more h) [ inl same ↦ clash same e | inr there ↦ there ]

place_take : (order : List ℕ) (i c : ℕ) → stands_in c (take i order) ≡ true → place_of c order < i
place_take [] i c h = clash h (nothing_taken i c)
place_take (d ∷ order) zero c h = absurd (cc)
place_take (d ∷ order) (suc i) c h = by (d == c) refl (λ e. place_take order i c (tail_of d c (stands_in c (take i order)) h e))
  where
    by : (t : Bool) → (d == c) ≡ t → ((d == c) ≡ false → place_of c order < i) → (if t then 0 else suc (place_of c order)) < suc i
    by true e low = omega arith
    by false e low = (let l : place_of c order < i = low e in omega (arith, l))

place_within : (order : List ℕ) (c : ℕ) → stands_in c order ≡ true → place_of c order < length order
place_within [] c h = absurd (cc)
place_within (d ∷ order) c h = by (d == c) refl (λ e. place_within order c (tail_of d c (stands_in c order) h e))
  where
    by : (t : Bool) → (d == c) ≡ t → ((d == c) ≡ false → place_of c order < length order) → (if t then 0 else suc (place_of c order)) < suc (length order)
    by true e low = omega arith
    by false e low = (let l : place_of c order < length order = low e in omega (arith, l))

place_at : (order : List ℕ) (c : ℕ) → stands_in c order ≡ true → get_or order (place_of c order) 0 ≡ c
place_at [] c h = absurd (cc)
place_at (d ∷ order) c h = by (d == c) refl (λ e. place_at order c (tail_of d c (stands_in c order) h e))
  where
    by : (t : Bool) → (d == c) ≡ t → ((d == c) ≡ false → get_or order (place_of c order) 0 ≡ c) → get_or (d ∷ order) (if t then 0 else suc (place_of c order)) 0 ≡ c
    by true e more = eqb-true d c e
    by false e more = more e

pub is_order : (ks : List ClassInfo) (order ranks : List ℕ) → AreLive ks → length order ≡ length ks → length ranks ≡ length ks
    → ((c : ℕ) → c < length ks → stands_in c order ≡ true) → IsClosed ks order → ((c : ℕ) → c < length ks → stands_in c order ≡ true → slice_index ranks c ≡ place_of c order) → IsOrder (of_classes ks) order ranks
is_order ks order ranks live all each there closed places = record {
  ranked = record {
    each = each;
    bounded = λ c l. (let low : place_of c order < length order = place_within order c (there c l) in omega (arith, low, all, rank c l));
    rise = rise_at;
  };
  placed = λ c l. ap (slice_index order) (rank c l) ∙ place_at order c (there c l);
  all = all;
  live = live_at;
}
  where
    rank : (c : ℕ) → c < length ks → slice_index ranks c ≡ place_of c order
    rank c l = places c l (there c l)

    live_at : (c : ℕ) → list_all (λ s. nat_lt s.0 (length ks)) (class_at (of_classes ks) c).supers ≡ true
    live_at c = all_true (class_at (of_classes ks) c).supers (all-found (λ d. nat_lt d (length ks) ≡ true) (class_at (of_classes ks) c).supers (λ d up. lt-ltb d (length ks) (live c d up)))
      where
        all_true : (ss : List ClassNo) → AllByRecursion (λ s. nat_lt s.0 (length ks) ≡ true) ss → list_all (λ s. nat_lt s.0 (length ks)) ss ≡ true
        all_true [] a = refl
        all_true (s ∷ ss) a = and_both (nat_lt s.0 (length ks)) (list_all (λ s. nat_lt s.0 (length ks)) ss) a.0 (all_true ss a.1)

    rise_at : (c : ℕ) → AllByRecursion (λ s. slice_index ranks s.0 < slice_index ranks c) (class_at (of_classes ks) c).supers
    rise_at c = elim (leb_tells (suc c) (length ks)) [
      | inl t ↦ all-found (λ d. slice_index ranks d < slice_index ranks c) (class_at (of_classes ks) c).supers (λ d up. lower c (omega (arith, t.1)) d up)
      | inr f ↦ subst (λ (k : ClassInfo). AllByRecursion (λ s. slice_index ranks s.0 < slice_index ranks c) k.supers) (sym (get_or_past ks c nowhere_class (omega (arith, f.1)))) tt
    ]
      where
        lower : (c : ℕ) → c < length ks → (d : ℕ) → IsSuper ks c d → slice_index ranks d < slice_index ranks c
        lower c l d up =
            (let before : place_of d order < place_of c order = place_take order (place_of c order) d
            (closed (place_of c order) (place_within order c (there c l)) d (subst (λ x. IsSuper ks x d) (sym (place_at order c (there c l))) up)) in
            omega (arith, before, rank c l, rank d (live c d up)))
