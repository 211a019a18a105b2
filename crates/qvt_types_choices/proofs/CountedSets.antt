-- The set of the classes with a single choice, by how many of the units are above each class.
use Rattle.std.proofs.Common.{◌≡◌, ◌∙◌, ℕ, zero, suc, [], ◌∷◌, ◌+◌, ◌/◌, ◌<◌, ◌≤◌, ◌==◌, eqb, List, length, get_or, take, Bool, true, false, ◌&&◌, ◌||◌, not, inl, inr, refl, sym, ap, arith}
use Rattle.std.specs.Prelude.{nat_lt}
use Rattle.std.specs.List.{list_any, IsDistinct}
use Rattle.std.proofs.lemmas.Bool.{cases_lt, ltb-true}
use Rattle.qvt_metas.specs.Metamodels.{Metamodels, class_at}
use Rattle.qvt_metas.specs.Tables.{EndsWithin}
use Rattle.qvt_metamodel.specs.declared.row.Row.{Row}
use Rattle.qvt_metas.specs.Kept.{is_marked}
use Rattle.qvt_metamodel.proofs.Bools.{ap2}
use Rattle.qvt_rows.proofs.SetWords.{no_mark_behind}
use Rattle.qvt_counts.specs.declared.counter.Counter.{Counter}
use Rattle.qvt_counts.specs.Counts.{bits, count_at, one}
use Rattle.qvt_counts.proofs.Counted.{past_at}
use Rattle.qvt_types_units.specs.declared.signature.Signature.{Signature}
use Rattle.qvt_types_units.specs.Choice.{is_context_above, context_at}
use Rattle.qvt_types_units.specs.Overrides.{is_strictly_below}
use Rattle.qvt_types_choices.specs.HowMany.{how_many}
use Rattle.qvt_types_choices.specs.Only.{is_only, is_rival}
use Rattle.qvt_types_choices.specs.Sets.{IsSetOf, word_count}
use Rattle.qvt_types_choices.specs.Stuck.{is_stuck}
use Rattle.qvt_types_choices.proofs.ByClass.{Antisymmetric}
use Rattle.qvt_types_choices.proofs.HowMany.{how_many_more, how_many_none, few_taken, some_pass, only_by_count}
use Rattle.qvt_types_choices.proofs.Lowest.{Transitive, In}
use Rattle.qvt_types_choices.proofs.Marked.{word_few, word_there}
use Rattle.qvt_types_choices.proofs.Sets.{any_more, set_same, set_without}
use Rattle.qvt_types_choices.proofs.Singly.{stuck_only}

is_in : (xs : List ℕ) (i : ℕ) → i < length xs → In (get_or xs i 0) xs
is_in [] i low = absurd (omega (arith, low))
is_in (x ∷ xs) zero low = inl refl
is_in (x ∷ xs) (suc i) low = inr (is_in xs i (omega (arith, low)))

module _ (m : Metamodels) (us : List Signature) where
  abbrev over : ℕ → ℕ → Bool
  over d k = is_context_above m (context_at us k) d

  -- of a class that there is
  abbrev pub over_in : ℕ → ℕ → Bool
  over_in d k = nat_lt d (length m.classes) && over d k

  pub counts_next : (ns : List ℕ) (i : ℕ) (old new : List Counter) (set : Row) → i < length ns → length ns ≤ 126 → IsSetOf m (λ d. over d (get_or ns i 0)) set → length new ≡ length old
      → ((d : ℕ) → d / 64 < length old → count_at old d < 127 → count_at new d ≡ count_at old d + one (is_marked set d))
      → ((d : ℕ) → d / 64 < length old → count_at old d ≡ how_many (over_in d) (take i ns))
      → (d : ℕ) → d / 64 < length new → count_at new d ≡ how_many (over_in d) (take (i + 1) ns)
  counts_next ns i old new set low few is long more had d there =
      let here : d / 64 < length old = omega (arith, there, long) in
      let told = had d here in
      let taken = few_taken (over_in d) ns i in
      more d here (omega (arith, told, taken, few))
      ∙ (λ j. told j + one (is.marks d j))
      ∙ sym (how_many_more (over_in d) ns i low)

  -- whether a unit is the single choice for a class, by how many are above it
  only_is : Transitive m → (ns : List ℕ) (n d level : ℕ) → IsDistinct eqb ns → In n ns → level ≡ how_many (λ k. is_strictly_below m (context_at us n) (context_at us k)) ns + 1
      → (over d n && (how_many (over d) ns == level)) ≡ is_only m us ns n d
  only_is t ns n d level distinct i is = by (over d n) refl
    where
      by : (b : Bool) → over d n ≡ b → (b && (how_many (over d) ns == level)) ≡ is_only m us ns n d
      by true e = ap (λ l. how_many (over d) ns == l) is ∙ sym (only_by_count m us t n d e ns distinct i)
      by false e = sym (ap (λ b. b && not (list_any (λ k. is_rival m us n k && over d k) ns)) e)

  module _ (ns : List ℕ) (counts : List Counter) (each : length counts ≡ word_count (length m.classes))
      (told : (d : ℕ) → d / 64 < length counts → count_at counts d ≡ how_many (over_in d) ns) where
    there : (d : ℕ) → nat_lt d (length m.classes) ≡ true → d / 64 < length counts
    there d e = (let low = word_there d (length m.classes) (ltb-true d (length m.classes) e) in omega (arith, low, each))

    told_there : (d : ℕ) → nat_lt d (length m.classes) ≡ true → count_at counts d ≡ how_many (over d) ns
    told_there d e = told d (there d e) ∙ (λ i. how_many (λ k. e i && over d k) ns)

    told_none : (d : ℕ) → nat_lt d (length m.classes) ≡ false → count_at counts d ≡ 0
    told_none d e = elim (cases_lt (d / 64) (length counts)) [
      | inl here ↦ told d here ∙ (λ i. how_many (λ k. e i && over d k) ns) ∙ how_many_none ns
      | inr past ↦ past_at counts d past
    ]

    module _ (t : Transitive m) (distinct : IsDistinct eqb ns) where
      pub words_next : (i : ℕ) (old new : List ℕ) (set : Row) (level : ℕ) → i < length ns → IsSetOf m (λ d. over d (get_or ns i 0)) set → length old ≡ length counts → length new ≡ length old
          → ((d : ℕ) → d / 64 < length old → is_marked (bits new) d ≡ (is_marked (bits old) d || (is_marked set d && (count_at counts d == level))))
          → level ≡ how_many (λ k. is_strictly_below m (context_at us (get_or ns i 0)) (context_at us k)) ns + 1
          → IsSetOf m (λ d. list_any (λ k. is_only m us ns k d) (take i ns)) (bits old)
          → IsSetOf m (λ d. list_any (λ k. is_only m us ns k d) (take (i + 1) ns)) (bits new)
      words_next i old new set level low is one_each long put at had = record {
        within = record { start = refl; words = (let few = word_few (length m.classes) in omega (arith, one_each, long, each, few)) };
        marks = λ d. by d (nat_lt d (length m.classes)) refl;
      }
        where
          next : (d : ℕ) → (list_any (λ k. is_only m us ns k d) (take i ns) || is_only m us ns (get_or ns i 0) d) ≡ list_any (λ k. is_only m us ns k d) (take (i + 1) ns)
          next d = sym (any_more (λ k. is_only m us ns k d) ns i low) ∙ ap (λ j. list_any (λ k. is_only m us ns k d) (take j ns)) (let same : suc i ≡ i + 1 = omega arith in same)

          by : (d : ℕ) (b : Bool) → nat_lt d (length m.classes) ≡ b → is_marked (bits new) d ≡ (b && list_any (λ k. is_only m us ns k d) (take (i + 1) ns))
          by d true e =
              (let here = there d e in
              put d (omega (arith, here, one_each))
              ∙ ap2 (λ a b. a || (b && (count_at counts d == level)))
              (had.marks d ∙ ap (λ b. b && list_any (λ k. is_only m us ns k d) (take i ns)) e)
              (is.marks d ∙ ap (λ b. b && over d (get_or ns i 0)) e)
              ∙ ap (λ n. list_any (λ k. is_only m us ns k d) (take i ns) || (over d (get_or ns i 0) && (n == level))) (told_there d e)
              ∙ ap (λ b. list_any (λ k. is_only m us ns k d) (take i ns) || b) (only_is t ns (get_or ns i 0) d level distinct (is_in ns i low) at)
              ∙ next d)
          by d false e = elim (cases_lt (d / 64) (length old)) [
            | inl here ↦ put d here
                ∙ ap2 (λ a b. a || (b && (count_at counts d == level)))
                (had.marks d ∙ ap (λ b. b && list_any (λ k. is_only m us ns k d) (take i ns)) e)
                (is.marks d ∙ ap (λ b. b && over d (get_or ns i 0)) e)
            | inr past ↦ no_mark_behind (bits new) refl d (omega (arith, past, long))
          ]

    -- the classes with units above them and without a single choice
    pub others_are : (singles : List ℕ) (others : Row) → IsSetOf m (λ d. list_any (λ k. is_only m us ns k d) ns) (bits singles) → others.skipped + length others.words ≡ length counts → others.start ≡ 0
        → ((d : ℕ) → is_marked others d ≡ (nat_lt 0 (count_at counts d) && not (is_marked (bits singles) d)))
        → IsSetOf m (λ d. list_any (over d) ns && not (list_any (λ k. is_only m us ns k d) ns)) others
    others_are singles others are long start marks = record {
      within = record { start = start; words = (let few = word_few (length m.classes) in omega (arith, long, each, few)) };
      marks = λ d. marks d ∙ by d (nat_lt d (length m.classes)) refl;
    }
      where
        by : (d : ℕ) (b : Bool) → nat_lt d (length m.classes) ≡ b
            → (nat_lt 0 (count_at counts d) && not (is_marked (bits singles) d)) ≡ (b && (list_any (over d) ns && not (list_any (λ k. is_only m us ns k d) ns)))
        by d true e = ap2 (λ a b. a && not b)
            (ap (nat_lt 0) (told_there d e) ∙ some_pass (over d) ns)
            (are.marks d ∙ ap (λ b. b && list_any (λ k. is_only m us ns k d) ns) e)
        by d false e = ap (λ n. nat_lt 0 n && not (is_marked (bits singles) d)) (told_none d e)

in_order : (s x a : Bool) → ((s && x) && a) ≡ (a && (s && x))
in_order true true true = refl
in_order true true false = refl
in_order true false true = refl
in_order true false false = refl
in_order false x true = refl
in_order false x false = refl

-- those of them that are not abstract
pub stuck_are : (m : Metamodels) (us : List Signature) → Antisymmetric m → (ns : List ℕ) → IsDistinct eqb ns → (others abstracts stuck : Row)
    → IsSetOf m (λ d. list_any (λ n. is_context_above m (context_at us n) d) ns && not (list_any (λ k. is_only m us ns k d) ns)) others
    → IsSetOf m (λ d. (class_at m d).is_abstract) abstracts → EndsWithin (length m.classes) stuck
    → ((d : ℕ) → is_marked stuck d ≡ (is_marked others d && not (is_marked abstracts d))) → IsSetOf m (is_stuck m us ns) stuck
stuck_are m us a ns distinct others abstracts stuck are hold within marks =
    set_same m (λ d. some d && not (class_at m d).is_abstract) (is_stuck m us ns) stuck
    (set_without m some (λ d. (class_at m d).is_abstract) others abstracts stuck are hold within marks)
    (λ d low. in_order (list_any (λ n. is_context_above m (context_at us n) d) ns) (not (list_any (λ k. is_only m us ns k d) ns)) (not (class_at m d).is_abstract) ∙ sym (stuck_only m us a ns d distinct))
  where
    some : ℕ → Bool
    some d = list_any (λ n. is_context_above m (context_at us n) d) ns && not (list_any (λ k. is_only m us ns k d) ns)
