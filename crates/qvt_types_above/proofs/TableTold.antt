-- What is told of the units of each class and those above it is so.
use Rattle.std.proofs.Common.{◌≡◌, ◌∙◌, ℕ, zero, suc, ◌+◌, ◌<◌, ◌==◌, List, [], ◌∷◌, ◌++◌, length, set, get_or, Bool, true, false, not, ◌⊎◌, Option, Some, None, inl, inr, refl, sym, ap, subst, arith, length-append}
use Rattle.std.specs.List.{list_any}
use Rattle.std.proofs.lemmas.Bool.{eq-eqb, eqb-true}
use Rattle.std.proofs.lemmas.List.{get_or_past}
use Rattle.qvt_base.specs.declared.numbers.ClassNo.{ClassNo}
use Rattle.qvt_metas.specs.Metamodels.{Metamodels, class_at, is_class_number, is_element}
use Rattle.qvt_metas.specs.Descends.{is_superclass, Inherits, IsAncestor, descends, Descends}
use Rattle.qvt_metamodel.proofs.Ancestors.{begins}
use Rattle.qvt_metamodel.proofs.Bools.{and_both, and_left, and_right, or_cases, clash}
use Rattle.qvt_metamodel.proofs.Halves.{Half, old, new, half, old-at, new-at}
use Rattle.qvt_types_groups.specs.declared.signature.HeadClass.{HeadClass}
use Rattle.qvt_types_groups.specs.declared.signature.HeadClass.TheVariants.{Missing, Unknown, Known}
use Rattle.qvt_types_groups.specs.declared.signature.Signature.{Signature}
use Rattle.qvt_types_groups.specs.ByClass.{is_top}
use Rattle.qvt_types_groups.specs.Choice.{context_at}
use Rattle.qvt_types_groups.specs.Numbers.{is_context}
use Rattle.qvt_types_groups.specs.Overrides.{is_strictly_below}
use Rattle.qvt_types_groups.proofs.ByClass.{AreLeast}
use Rattle.qvt_types_groups.proofs.Lowest.{Transitive}
use Rattle.qvt_types_above.specs.declared.above.Above.{Above}
use Rattle.qvt_types_above.specs.declared.above.Above.TheVariants.{Untold, Nothing, Least, Both, Listed}
use Rattle.qvt_types_above.specs.declared.table.AboveTable.{AboveTable}
use Rattle.qvt_types_above.specs.Above.{combined, above_at, from_all}
use Rattle.qvt_types_above.specs.Asks.{Guards, no_guard, guard_at}
use Rattle.qvt_types_above.specs.Gathered.{gathered, are_told}
use Rattle.qvt_types_above.specs.Own.{base_of}
use Rattle.qvt_types_above.specs.Table.{AreAlike, IsShort, IsToldOrListed, with_more, untold}
use Rattle.qvt_types_above.specs.Tells.{IsNumberIn, SomeAsks, Tells, IsGuard, AreGuarded, IsFrom, AreOwn, IsAboveTable}
use Rattle.qvt_types_above.proofs.AsksTold.{none_guards}
use Rattle.qvt_types_above.proofs.GatheredTold.{OfSome, gathered_tell, asked_tells}
use Rattle.qvt_types_above.proofs.SameShapes.{Law}
use Rattle.qvt_types_above.proofs.Tellings.{of_each, fewer, told_set, grown, both_tell}
use Rattle.qvt_types_above.proofs.OwnTold.{IsBase, base_tells}

abbrev known : ℕ → HeadClass
known c = Known (record { 0 = c })

-- of two classes that are above all one is the other
one_element : (o : Option ClassNo) (c d : ℕ) → is_class_number o c ≡ true → is_class_number o d ≡ true → c ≡ d
one_element None c d p q = absurd (cc)
one_element (Some e) c d p q = sym (eqb-true e.0 c p) ∙ eqb-true e.0 d q

module _ (m : Metamodels) (us : List Signature) (ns : List ℕ) where
  abbrev From : ℕ → ℕ → Type 0
  From c x = IsFrom m us ns c x

  -- of the class by itself, or of a superclass
  abbrev Reached : ℕ → List ClassNo → ℕ → Type 0
  Reached c cs x = IsBase m us ns c x ⊎ OfSome From cs x

  -- A unit of a class above is one of a superclass or of a class above that, or of the class above all.

  module _ (least : AreLeast m) where
    of_one : (x k : ℕ) (cs : List ClassNo) → list_any (λ s. s.0 == k) cs ≡ true → From k x → OfSome From cs x
    of_one x k [] e f = absurd (cc)
    of_one x k (c ∷ cs) e f = elim (or_cases (c.0 == k) (list_any (λ s. s.0 == k) cs) e) [
      | inl here ↦ inl (subst (λ d. From d x) (sym (eqb-true c.0 k here)) f)
      | inr rest ↦ inr (of_one x k cs rest f)
    ]

    module _ (x : ℕ) (there : IsNumberIn x ns) (d : ClassNo) (is : context_at us x ≡ Known d) where
      own_of : (k : ℕ) → (d.0 == k) ≡ true → From k x
      own_of k e = inl (there, ap (λ h. is_context h k) is ∙ e)

      over_of : (k : ℕ) → (k == d.0) ≡ false → descends m k d.0 ≡ true → From k x
      over_of k e up = inr (there, ap (is_strictly_below m (known k)) is ∙ and_both (not (k == d.0)) (descends m k d.0) (ap not e) up)

      from : (k : ℕ) → descends m k d.0 ≡ true → From k x
      from k up = by (k == d.0) refl
        where
          by : (b : Bool) → (k == d.0) ≡ b → From k x
          by true e = own_of k (eq-eqb d.0 k (sym (eqb-true k d.0 e)))
          by false e = over_of k e up

      reached : (c : ℕ) → IsAncestor m c d.0 → (c ≡ d.0 → ⊥) → Reached c (class_at m c).supers x
      reached c (inl up) other =
          (let s : (s : ℕ) × (is_superclass m c s ≡ true) × ((s ≡ d.0) ⊎ Inherits m s d.0) = begins m c d.0 up in
          inr (of_one x s.0 (class_at m c).supers s.1 (from s.0 ((least s.0 d.0).1 (onward s.0 s.2)))))
        where
          onward : (s : ℕ) → (s ≡ d.0) ⊎ Inherits m s d.0 → Descends m s d.0
          onward s (inl same) = inl same
          onward s (inr more) = inr (inl more)
      reached c (inr over) other = inl (inr (by (is_element m c) refl, (there, ap (is_top m) is ∙ over)))
        where
          by : (b : Bool) → is_element m c ≡ b → b ≡ false
          by true f = absurd (other (one_element m.element c d.0 f over))
          by false f = refl

    reaches : (c x : ℕ) → From c x → Reached c (class_at m c).supers x
    reaches c x f = elim f [
      | inl own ↦ inl (inl own)
      | inr over ↦ by over.0 (context_at us x) refl over.1
    ]
      where
        by : IsNumberIn x ns → (h : HeadClass) → context_at us x ≡ h → is_strictly_below m (known c) h ≡ true → Reached c (class_at m c).supers x
        by there Missing e below = absurd (cc)
        by there Unknown e below = absurd (cc)
        by there (Known d) e below = elim ((least c d.0).0 (and_right (not (c == d.0)) (descends m c d.0) below)) [
          | inl same ↦ clash (and_left (not (c == d.0)) (descends m c d.0) below) (ap not (eq-eqb c d.0 same))
          | inr up ↦ reached x there d e c up (λ same. clash (and_left (not (c == d.0)) (descends m c d.0) below) (ap not (eq-eqb c d.0 same)))
        ]

  module _ (law : Law) (t : Transitive m) where
    from_tell : (ls : List (List ℕ)) (row : List Above) → ((c : ℕ) → Tells m us ls (From c) (above_at row c)) → (cs : List ClassNo) (P : ℕ → Type 0) (a : Above) → Tells m us ls P a
        → Tells m us ls (λ x. P x ⊎ OfSome From cs x) (from_all m us row a cs)
    from_tell ls row told [] P a h = fewer m us ls P (λ x. P x ⊎ OfSome From [] x) a (λ x r. elim r [ inl p ↦ p | inr q ↦ absurd q ]) h
    from_tell ls row told (c ∷ cs) P a h = fewer m us ls (λ x. (P x ⊎ From c.0 x) ⊎ OfSome From cs x) (λ x. P x ⊎ OfSome From (c ∷ cs) x)
        (from_all m us row (combined m us a (above_at row c.0)) cs)
        (λ x r. elim r [ inl p ↦ inl (inl p) | inr q ↦ elim q [ inl f ↦ inl (inr f) | inr g ↦ inr g ] ])
        (from_tell ls row told cs (λ x. P x ⊎ From c.0 x) (combined m us a (above_at row c.0)) (both_tell m us law t ls P (From c.0) a (above_at row c.0) h (told c.0)))

    short_tells : (had : AboveTable) → IsAboveTable m us ns had → (P : ℕ → Type 0) (a : Above) → Tells m us had.lists P a → (cs : List ClassNo) (short : Above)
        → IsShort m us had.lists had.row a cs short → Tells m us had.lists (λ x. P x ⊎ OfSome From cs x) short
    short_tells had is P a h cs short tells = elim tells [
      | inl one ↦ subst (λ x. Tells m us had.lists (λ x. P x ⊎ OfSome From cs x) x) (sym one.0) (asked_tells m us had.lists had.row From is.row P a h cs one.1)
      | inr all ↦ subst (λ x. Tells m us had.lists (λ x. P x ⊎ OfSome From cs x) x) (sym all) (from_tell had.lists had.row is.row cs P a h)
    ]

  alike_table : (had mid : AboveTable) → IsAboveTable m us ns had → AreAlike m us had mid → IsAboveTable m us ns mid
  alike_table had mid is alike = record {
    row = λ c. subst (λ ls. Tells m us ls (From c) (above_at mid.row c)) (sym alike.lists)
        (subst (λ row. Tells m us had.lists (From c) (above_at row c)) (sym alike.row) (is.row c));
    each = alike.each ∙ is.each ∙ ap length (sym alike.lists);
    guards = subst (λ ls. AreGuarded m us ls mid.guards) (sym alike.lists) alike.guards;
  }

  -- A list more has no guard.

  more_guarded : (ls : List (List ℕ)) (l : List ℕ) (guards : Guards) → length guards ≡ length ls → AreGuarded m us ls guards → AreGuarded m us (ls ++ l ∷ []) (guards ++ no_guard ∷ [])
  more_guarded ls l guards long are s = by s (half (length guards) s)
    where
      by : (s : ℕ) → Half (length guards) s → IsGuard m us (get_or (ls ++ l ∷ []) s []) (guard_at (guards ++ no_guard ∷ []) s)
      by _ (old s low) = subst (IsGuard m us (get_or (ls ++ l ∷ []) s [])) (sym (old-at guards (no_guard ∷ []) s no_guard low))
          (subst (λ ks. IsGuard m us ks (guard_at guards s)) (sym (old-at ls (l ∷ []) s [] (let less : s < length ls = omega (arith, long, low) in less))) (are s))
      by _ (new zero) = subst (IsGuard m us (get_or (ls ++ l ∷ []) (length guards + 0) [])) (sym (new-at guards (no_guard ∷ []) zero no_guard)) (none_guards m us (get_or (ls ++ l ∷ []) (length guards + 0) []))
      by _ (new (suc k)) = subst (IsGuard m us (get_or (ls ++ l ∷ []) (length guards + suc k) [])) (sym (new-at guards (no_guard ∷ []) (suc k) no_guard))
          (none_guards m us (get_or (ls ++ l ∷ []) (length guards + suc k) []))

  module _ (had : AboveTable) (is : IsAboveTable m us ns had) (P : ℕ → Type 0) (a : Above) (h : Tells m us had.lists P a) (cs : List ClassNo) where
    abbrev Whole : ℕ → Type 0
    Whole x = P x ⊎ OfSome From cs x

    abbrev list : List ℕ
    list = gathered had.lists had.row a cs

    more_table : IsAboveTable m us ns (with_more had list)
    more_table = record {
      row = λ c. grown m us had.lists list (From c) (above_at had.row c) (is.row c);
      each = longer (length had.guards) (length had.lists) is.each (length-append had.guards (no_guard ∷ [])) (length-append had.lists (list ∷ []));
      guards = more_guarded had.lists list had.guards is.each is.guards;
    }
      where
        longer : (n k : ℕ) {p q : ℕ} → n ≡ k → p ≡ n + 1 → q ≡ k + 1 → p ≡ q
        longer n k e f g = omega (arith, e, f, g)

    list_tells : are_told had.row a cs ≡ true → Tells m us (had.lists ++ list ∷ []) Whole (Listed (length had.lists))
    list_tells told = λ x r. subst (λ ks. SomeAsks m us ks x) (sym at) (gathered_tell m us had.lists had.row From is.row P a h cs told x r)
      where
        at : get_or (had.lists ++ list ∷ []) (length had.lists) [] ≡ list
        at = ap (λ k. get_or (had.lists ++ list ∷ []) k []) (let same : length had.lists ≡ length had.lists + 0 = omega arith in same) ∙ new-at had.lists (list ∷ []) 0 []

    abbrev Told : AboveTable → Above → Type 0
    Told has told = IsAboveTable m us ns has × Tells m us has.lists Whole told

    as_it_was : (has : AboveTable) (short told : Above) → Tells m us had.lists Whole short → (told ≡ short) × (has ≡ had) → Told has told
    as_it_was has short told k same = subst (λ x. Told x told) (sym same.1) (is, subst (λ x. Tells m us had.lists Whole x) (sym same.0) k)

    whole_tells : (has : AboveTable) (short told : Above) → Tells m us had.lists Whole short → IsToldOrListed had has short a cs told → Told has told
    whole_tells has Nothing told k w = as_it_was has Nothing told k w
    whole_tells has (Least n) told k w = as_it_was has (Least n) told k w
    whole_tells has (Both i n) told k w = as_it_was has (Both i n) told k w
    whole_tells has (Listed s) told k w = as_it_was has (Listed s) told k w
    whole_tells has Untold told k w = elim w [
      | inl none ↦ as_it_was has Untold told tt none
      | inr all ↦ subst (λ x. Told x told) (sym all.1.1) (more_table, subst (λ x. Tells m us (had.lists ++ list ∷ []) Whole x) (sym all.0) (list_tells all.1.0))
    ]

  -- One class more is told of.

  abbrev with_class : AboveTable → ℕ → Above → AboveTable
  with_class t c a = record { row = set t.row c a; lists = t.lists; guards = t.guards }

  module _ (law : Law) (t : Transitive m) (least : AreLeast m) (own : List Above) (top : Above) (are : AreOwn m us ns own top) (had mid has : AboveTable) (c : ℕ) (short told : Above)
      (is : IsAboveTable m us ns had) (alike : AreAlike m us had mid) where
    abbrev base : Above
    base = base_of m us own top c

    abbrev its : List ClassNo
    its = (class_at m c).supers

    based : (ls : List (List ℕ)) → Tells m us ls (IsBase m us ns c) base
    based ls = base_tells m us law t ns own top are ls c

    tells : IsShort m us had.lists had.row base its short → IsToldOrListed mid has short base its told → IsAboveTable m us ns has × Tells m us has.lists (Reached c its) told
    tells shorts whole = whole_tells mid (alike_table had mid is alike) (IsBase m us ns c) base (based mid.lists) its has short told
        (subst (λ ls. Tells m us ls (Reached c its) short) (sym alike.lists) (short_tells law t had is (IsBase m us ns c) base (based had.lists) its short shorts)) whole

    one_told : IsAboveTable m us ns has × Tells m us has.lists (Reached c its) told → IsAboveTable m us ns (with_class has c told)
    one_told both = record {
      row = told_set m us has.lists From has.row c told (λ d other. both.0.row d) (fewer m us has.lists (Reached c its) (From c) told (reaches least c) both.1);
      each = both.0.each;
      guards = both.0.guards;
    }

    pub class_tells : (a : Above) (cs : List ClassNo) → cs ≡ its → a ≡ base → IsShort m us had.lists had.row a cs short → IsToldOrListed mid has short a cs told → IsAboveTable m us ns (with_class has c told)
    class_tells a cs supers bases shorts whole = one_told (tells
        (subst (λ x. IsShort m us had.lists had.row x its short) bases (subst (λ xs. IsShort m us had.lists had.row a xs short) supers shorts))
        (subst (λ x. IsToldOrListed mid has short x its told) bases (subst (λ xs. IsToldOrListed mid has short a xs told) supers whole)))

  pub untold_is : (count : ℕ) → IsAboveTable m us ns (untold count)
  untold_is count = record {
    row = λ c. of_each (Tells m us [] (From c)) Untold count c tt tt;
    each = refl;
    guards = λ s. subst (IsGuard m us (get_or [] s [])) (sym (get_or_past [] s no_guard (omega arith))) (none_guards m us (get_or [] s []));
  }
