-- The choices that are told once for all classes.
use Rattle.std.proofs.Common.{eqb, ◌≡◌, ◌∙◌, ℕ, ◌<◌, List, [], ◌∷◌, length, Bool, true, false, ◌&&◌, ◌||◌, not, Option, Some, None, refl, sym, ap, arith}
use Rattle.std.specs.Prelude.{if◌then◌else◌, filter, is_some, IsTrue}
use Rattle.std.specs.List.{list_any, range_with_len, IsDistinct}
use Rattle.std.proofs.lemmas.Bool.{eq-eqb, lt-ltb}
use Rattle.std.proofs.lemmas.List.FromFn.{get_or-map-range_with_len}
use Rattle.qvt_metas.specs.Metamodels.{Metamodels, class_at, is_element}
use Rattle.qvt_metas.specs.Descends.{descends, reaches}
use Rattle.qvt_metas.specs.Kept.{is_marked}
use Rattle.qvt_metamodel.specs.declared.row.Row.{Row}
use Rattle.qvt_metamodel.proofs.Bools.{and_left, and_right, not_true, clash}
use Rattle.qvt_types_units.specs.declared.choice.FoundUnit.{FoundUnit}
use Rattle.qvt_types_units.specs.declared.choice.FoundUnit.TheVariants.{NoUnit, Untyped, Unclear, Chosen}
use Rattle.qvt_types_units.specs.declared.signature.HeadClass.{HeadClass}
use Rattle.qvt_types_units.specs.declared.signature.HeadClass.TheVariants.{Missing, Unknown, Known}
use Rattle.qvt_types_units.specs.declared.signature.Signature.{Signature}
use Rattle.qvt_types_units.specs.Choice.{is_context_above, is_below, context_at, candidates, lowest, single, chosen, is_concrete_below, lacks_choice, is_ambiguous, is_unknown, is_unsure, is_empty, chosen_of, looked_up}
use Rattle.qvt_types_choices.specs.Stuck.{is_stuck, all_stuck, lacks_one, found_alone}
use Rattle.qvt_types_choices.specs.Sets.{IsSetOf}
use Rattle.qvt_types_choices.specs.ByClass.{choice_among, choice_for, choices, choice_at, is_unclear, is_stuck_by, settled, some_below}
use Rattle.qvt_types_choices.specs.Only.{is_only, least_above}
use Rattle.qvt_types_choices.proofs.ByClass.{Antisymmetric}
use Rattle.qvt_types_choices.proofs.Sets.{any_same, in_range_below}
use Rattle.qvt_types_choices.proofs.Singly.{only_choice, no_choice}

abbrev pub Transitive : Metamodels → Type 0
Transitive m = (c d e : ℕ) → IsTrue (descends m c d) → IsTrue (descends m d e) → IsTrue (descends m c e)

-- whether a class is without a single choice is told by its choice
pub stuck_by : (m : Metamodels) (us : List Signature) (ns : List ℕ) (c : ℕ) → is_stuck_by m c (choice_for m us ns c) ≡ is_stuck m us ns c
unfolding choice_for is_stuck chosen
stuck_by m us ns c = ap (λ b. not (class_at m c).is_abstract && b) (by (is_empty (candidates m us ns c)) (single (lowest m us (candidates m us ns c))))
  where
    by : (b : Bool) (o : Option ℕ) → is_unclear (if b then NoUnit else chosen_of false o) ≡ (not b && not (is_some o))
    by true o = refl
    by false None = refl
    by false (Some n) = refl

-- the choice for a class among those of all
pub choice_there : (m : Metamodels) (us : List Signature) (ns : List ℕ) (all : List FoundUnit) (n c : ℕ) (f : FoundUnit) → all ≡ choices m us ns n → c < n → f ≡ choice_at all c → f ≡ choice_for m us ns c
choice_there m us ns all n c f are low e = e ∙ ap (λ fs. choice_at fs c) are ∙ get_or-map-range_with_len (choice_for m us ns) 0 n c c NoUnit low (omega arith)

abbrev kept_if : ℕ → Bool → List ℕ
kept_if n b = if b then n ∷ [] else []

any_filter : (p q : ℕ → Bool) (xs : List ℕ) → list_any q (filter p xs) ≡ list_any (λ x. p x && q x) xs
any_filter p q [] = refl
any_filter p q (x ∷ xs) = by (p x) (any_filter p q xs)
  where
    by : (b : Bool) → list_any q (filter p xs) ≡ list_any (λ y. p y && q y) xs → list_any q (if b then x ∷ filter p xs else filter p xs) ≡ ((b && q x) || list_any (λ y. p y && q y) xs)
    by true rest = ap (λ t. q x || t) rest
    by false rest = rest

some_left : (p q : ℕ → Bool) (xs : List ℕ) → ((x : ℕ) → p x ≡ true → q x ≡ true) → is_empty (filter p xs) ≡ false → is_empty (filter q xs) ≡ false
some_left p q [] implies some = some
some_left p q (x ∷ xs) implies some = by (q x) (p x) refl refl some (some_left p q xs implies)
  where
    by : (b a : Bool) → q x ≡ b → p x ≡ a → is_empty (if a then x ∷ filter p xs else filter p xs) ≡ false → (is_empty (filter p xs) ≡ false → is_empty (filter q xs) ≡ false) → is_empty (if b then x ∷ filter q xs else filter q xs) ≡ false
    by true a e f some rest = refl
    by false true e f some rest = clash (implies x f) e
    by false false e f some rest = rest some

above_also : (m : Metamodels) → Transitive m → (h : HeadClass) (c d : ℕ) → descends m d c ≡ true → is_context_above m h c ≡ true → is_context_above m h d ≡ true
above_also m t Missing c d down h = absurd (cc)
above_also m t Unknown c d down h = absurd (cc)
above_also m t (Known e) c d down h = t d c e.0 down h

module _ (m : Metamodels) (us : List Signature) (t : Transitive m) where
  still_there : (ns : List ℕ) (c d : ℕ) → descends m d c ≡ true → is_empty (candidates m us ns c) ≡ false → is_empty (candidates m us ns d) ≡ false
  still_there ns c d down some = some_left (λ n. is_context_above m (context_at us n) c) (λ n. is_context_above m (context_at us n) d) ns (λ n h. above_also m t (context_at us n) c d down h) some

  -- below a class that some units are above, a class that lacks a choice is one of those that are told
  stuck_is : (ns : List ℕ) (c d : ℕ) → is_empty (candidates m us ns c) ≡ false → (is_stuck m us ns d && descends m d c) ≡ lacks_choice m us ns c d
  unfolding is_stuck lacks_choice
  stuck_is ns c d some = by (descends m d c) refl
    where
      two : (a b : Bool) → ((a && b) && true) ≡ ((a && true) && b)
      two true true = refl
      two true false = refl
      two false b = refl

      none : (a b k : Bool) → ((a && b) && false) ≡ ((a && false) && k)
      none true true k = refl
      none true false k = refl
      none false b k = refl

      by : (x : Bool) → descends m d c ≡ x
          → ((not (class_at m d).is_abstract && (not (is_empty (candidates m us ns d)) && not (is_some (chosen m us ns d)))) && x)
          ≡ ((not (class_at m d).is_abstract && x) && not (is_some (chosen m us ns d)))
      by true e =
          ap (λ b. (not (class_at m d).is_abstract && (not b && not (is_some (chosen m us ns d)))) && true) (still_there ns c d e some)
          ∙ two (not (class_at m d).is_abstract) (not (is_some (chosen m us ns d)))
      by false e = none (not (class_at m d).is_abstract) (not (is_empty (candidates m us ns d)) && not (is_some (chosen m us ns d))) (not (is_some (chosen m us ns d)))

  pub ambiguous_is : (ns : List ℕ) (c : ℕ) → is_empty (candidates m us ns c) ≡ false
      → lacks_one m (all_stuck m us ns) c (chosen m us ns c) ≡ is_ambiguous m us ns c
  unfolding is_ambiguous
  ambiguous_is ns c some = ap (λ b. not (is_some (chosen m us ns c)) || b)
      (any_filter (is_stuck m us ns) (λ d. descends m d c) (range_with_len 0 (length m.classes))
      ∙ (λ i. list_any (λ d. stuck_is ns c d some i) (range_with_len 0 (length m.classes))))

  -- what is found for a class that some units are above
  pub found_is : (ns : List ℕ) (c : ℕ) → is_unsure us ns ≡ false → is_empty (candidates m us ns c) ≡ false
      → chosen_of (lacks_one m (all_stuck m us ns) c (single (lowest m us (candidates m us ns c)))) (single (lowest m us (candidates m us ns c))) ≡ looked_up m us ns c
  unfolding chosen
  found_is ns c sure some =
      ap (λ b. chosen_of b (chosen m us ns c)) (ambiguous_is ns c some)
      ∙ sym ((λ i. if sure i then Untyped else if is_empty (candidates m us ns c) then NoUnit else chosen_of (is_ambiguous m us ns c) (chosen m us ns c))
      ∙ (λ i. if some i then NoUnit else chosen_of (is_ambiguous m us ns c) (chosen m us ns c)))

  -- what is found for a class is settled by its choice
  pub settled_is : (ns : List ℕ) (c : ℕ) → settled (is_unsure us ns) (list_any (λ d. descends m d c) (all_stuck m us ns)) (choice_for m us ns c) ≡ looked_up m us ns c
  unfolding choice_for
  settled_is ns c = by (is_unsure us ns) refl
    where
      several : List ℕ
      several = candidates m us ns c

      lacking : Bool
      lacking = list_any (λ d. descends m d c) (all_stuck m us ns)

      clear : (o : Option ℕ) → settled false lacking (chosen_of false o) ≡ chosen_of (lacks_one m (all_stuck m us ns) c o) o
      clear None = refl
      clear (Some n) = one lacking
        where
          one : (b : Bool) → (if b then Unclear else Chosen n) ≡ chosen_of (false || b) (Some n)
          one true = refl
          one false = refl

      among : (b : Bool) → is_unsure us ns ≡ false → is_empty several ≡ b
          → settled false lacking (if b then NoUnit else chosen_of false (single (lowest m us several))) ≡ (if b then NoUnit else chosen_of (is_ambiguous m us ns c) (chosen m us ns c))
      among true sure e = refl
      among false sure e = clear (single (lowest m us several)) ∙ found_is ns c sure e
          ∙ (λ i. if sure i then Untyped else if e i then NoUnit else chosen_of (is_ambiguous m us ns c) (chosen m us ns c))

      by : (b : Bool) → is_unsure us ns ≡ b
          → settled b lacking (choice_among m us several) ≡ (if b then Untyped else if is_empty several then NoUnit else chosen_of (is_ambiguous m us ns c) (chosen m us ns c))
      by true e = refl
      by false e = among (is_empty several) e refl

  -- the same, where the choice and the set of the classes without one are told
  pub settled_so : (ns : List ℕ) (stuck : Row) (c : ℕ) (b : Bool) (f x : FoundUnit) → b ≡ is_unsure us ns → IsSetOf m (is_stuck m us ns) stuck → f ≡ choice_for m us ns c
      → x ≡ settled b (some_below m stuck c) f → x ≡ looked_up m us ns c
  settled_so ns stuck c b f x sure told is e =
      e ∙ (λ i. settled (sure i) (some_below m stuck c) (is i))
      ∙ ap (λ l. settled (is_unsure us ns) l (choice_for m us ns c))
      (any_same (λ d. is_marked stuck d && descends m d c) (λ d. is_stuck m us ns d && descends m d c) (range_with_len 0 (length m.classes))
      (λ d i. ap (λ t. t && descends m d c) (told.marks d ∙ ap (λ t. t && is_stuck m us ns d) (lt-ltb d (length m.classes) (in_range_below (length m.classes) d i))))
      ∙ sym (any_filter (is_stuck m us ns) (λ d. descends m d c) (range_with_len 0 (length m.classes))))
      ∙ settled_is ns c

  -- one unit alone
  itself : (d : ℕ) → descends m d d ≡ true
  itself d = ap (λ b. b || is_element m d || reaches m d d) (eq-eqb d d refl)

  none_lack : (p : ℕ → Bool) (xs : List ℕ) → ((x : ℕ) → p x ≡ false) → list_any p xs ≡ false
  none_lack p [] fails = refl
  none_lack p (x ∷ xs) fails = ap (λ b. b || list_any p xs) (fails x) ∙ none_lack p xs fails

  module _ (n d : ℕ) (h : context_at us n ≡ Known (record { 0 = d })) where
    alone_chosen : (c : ℕ) → descends m c d ≡ true → chosen m us (n ∷ []) c ≡ Some n
    unfolding chosen
    alone_chosen c up =
        ap (λ b. single (lowest m us (if b then n ∷ [] else []))) (ap (λ k. is_context_above m k c) h ∙ up)
        ∙ ap (λ b. single (if b && true then n ∷ [] else [])) ((λ i. is_below m (h i) (h i)) ∙ itself d)

    alone_clear : (c : ℕ) → descends m c d ≡ true → is_ambiguous m us (n ∷ []) c ≡ false
    unfolding is_ambiguous lacks_choice
    alone_clear c up =
        ap (λ o. not (is_some o) || list_any (lacks_choice m us (n ∷ []) c) (range_with_len 0 (length m.classes))) (alone_chosen c up)
        ∙ none_lack (lacks_choice m us (n ∷ []) c) (range_with_len 0 (length m.classes))
        (λ x. not_true (lacks_choice m us (n ∷ []) c x)
        (λ l. clash (ap (λ o. not (is_some o)) (sym (alone_chosen x (t x c d (and_right (not (class_at m x).is_abstract) (descends m x c) (and_left (is_concrete_below m c x) (not (is_some (chosen m us (n ∷ []) x))) l)) up)))
        ∙ and_right (is_concrete_below m c x) (not (is_some (chosen m us (n ∷ []) x))) l) refl))

    alone_known : (c : ℕ) → looked_up m us (n ∷ []) c ≡ (if descends m c d then Chosen n else NoUnit)
    alone_known c = by (descends m c d) refl
      where
        start : looked_up m us (n ∷ []) c ≡ (if is_empty (kept_if n (descends m c d)) then NoUnit else chosen_of (is_ambiguous m us (n ∷ []) c) (chosen m us (n ∷ []) c))
        start = λ i. if (is_unknown (h i) || false) then Untyped else if is_empty (kept_if n (is_context_above m (h i) c)) then NoUnit else chosen_of (is_ambiguous m us (n ∷ []) c) (chosen m us (n ∷ []) c)

        by : (b : Bool) → descends m c d ≡ b → looked_up m us (n ∷ []) c ≡ (if b then Chosen n else NoUnit)
        by true e = start ∙ ap (λ b. if is_empty (kept_if n b) then NoUnit else chosen_of (is_ambiguous m us (n ∷ []) c) (chosen m us (n ∷ []) c)) e
            ∙ (λ i. chosen_of (alone_clear c e i) (alone_chosen c e i))
        by false e = start ∙ ap (λ b. if is_empty (kept_if n b) then NoUnit else chosen_of (is_ambiguous m us (n ∷ []) c) (chosen m us (n ∷ []) c)) e

  pub alone_found : (n c : ℕ) (h : HeadClass) (d : ℕ) → h ≡ context_at us n → h ≡ Known (record { 0 = d }) → descends m c d ≡ true → Chosen n ≡ looked_up m us (n ∷ []) c
  alone_found n c h d is known up = sym (alone_known n d (sym is ∙ known) c ∙ ap (λ b. if b then Chosen n else NoUnit) up)

  alone_by : (n c : ℕ) (h : HeadClass) → context_at us n ≡ h → looked_up m us (n ∷ []) c ≡ found_alone m n h c
  alone_by n c Missing h = λ i. if (is_unknown (h i) || false) then Untyped else if is_empty (if is_context_above m (h i) c then n ∷ [] else []) then NoUnit else chosen_of (is_ambiguous m us (n ∷ []) c) (chosen m us (n ∷ []) c)
  alone_by n c Unknown h = λ i. if (is_unknown (h i) || false) then Untyped else if is_empty (if is_context_above m (h i) c then n ∷ [] else []) then NoUnit else chosen_of (is_ambiguous m us (n ∷ []) c) (chosen m us (n ∷ []) c)
  alone_by n c (Known d) h = alone_known n d.0 h c

  pub alone_is : (n c : ℕ) → found_alone m n (context_at us n) c ≡ looked_up m us (n ∷ []) c
  alone_is n c = sym (alone_by n c (context_at us n) refl)

-- a unit that is the lowest above a concrete class with a single choice is that
pub told_single : (m : Metamodels) (us : List Signature) → Antisymmetric m → Transitive m → (ns : List ℕ) → IsDistinct eqb ns → (c n : ℕ) → least_above m us ns c ≡ Some n
    → (class_at m c).is_abstract ≡ false → is_stuck m us ns c ≡ false → Chosen n ≡ choice_for m us ns c
told_single m us a t ns distinct c n least concrete has_one = by (is_only m us ns n c) refl
  where
    by : (b : Bool) → is_only m us ns n c ≡ b → Chosen n ≡ choice_for m us ns c
    by true e = only_choice m us a ns c t distinct n least e
    by false e = clash (sym (ap (λ b. not b && true) (sym concrete) ∙ ap (is_stuck_by m c) (no_choice m us a ns c t n least e) ∙ stuck_by m us ns c)) has_one
