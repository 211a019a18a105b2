-- The first places of names that trees find.
use Rattle.std.proofs.Common.{◌≡◌, ◌∙◌, ℕ, ◌+◌, ◌-◌, ◌<◌, ◌==◌, ◌&&◌, inl, inr, List, [], length, get_or, take, Bool, true, false, nat_lt, Option, Some, None, refl, ap, sym, arith, position}
use Rattle.std.specs.Prelude.{if◌then◌else◌}
use Rattle.std.proofs.lemmas.Bool.{eqb-true, lt-ltb, ltb-true}
use Rattle.std.proofs.lemmas.List.{take_more, length-take-le}
use Rattle.std.proofs.lemmas.List.Quantifiers.{position-Some}
use Rattle.qvt_base.specs.declared.numbers.FeatureNo.{FeatureNo}
use Rattle.qvt_metamodel.proofs.Bools.{and_both, and_left, and_right, clash, not_true}
use Rattle.qvt_meta_names.specs.Named.{number_at}
use Rattle.qvt_meta_names.specs.Rooted.{tree_word, rest_above, empty_tree, GoesOn, IsTreeWith, no_number, told_place, HaveDigits, FindsPlaces, AreReady, FindsOn}
use Rattle.qvt_meta_names.proofs.Trees.{kept_word, goes_further, goes_nowhere}
use Rattle.qvt_meta_names.proofs.Fronts.{position-none, position-of_front, position-last}

-- the test for a number
abbrev pub has_number : List ℕ → ℕ → FeatureNo → Bool
has_number numbers n f = n == number_at numbers f

pub finds_nothing : (numbers words : List ℕ) (levels root : ℕ) → FindsPlaces numbers [] words levels root
finds_nothing numbers words levels root = record { first = λ n p e. absurd (cc) }

pub finds_front : (numbers : List ℕ) (list : List FeatureNo) (words : List ℕ) (levels root count : ℕ) → FindsPlaces numbers list words levels root → FindsPlaces numbers (take count list) words levels root
finds_front numbers list words levels root count finds = record { first = λ n p e. finds.first n p (position-of_front (has_number numbers n) list count p no_number e) }

pub still_finds : (numbers : List ℕ) (list : List FeatureNo) (old new : List ℕ) (levels root : ℕ) → GoesOn empty_tree old → GoesOn old new → FindsPlaces numbers list old levels root → FindsPlaces numbers list new levels root
still_finds numbers list old new levels root empty more finds = record { first = λ n p e. kept_word old new empty more levels root n (p + 1) (omega arith) (finds.first n p e) }

-- what a tree tells of a number is its first place
pub told_first : (numbers : List ℕ) (list : List FeatureNo) (words : List ℕ) (levels root word n : ℕ) → FindsPlaces numbers list words levels root → word ≡ tree_word words levels root n → told_place numbers list word n ≡ position (has_number numbers n) list
told_first numbers list words levels root word n finds is = by (position (has_number numbers n) list) refl
  where
    test : Bool
    test = nat_lt 0 word && (nat_lt (word - 1) (length list) && (n == number_at numbers (get_or list (word - 1) no_number)))

    by : (o : Option ℕ) → position (has_number numbers n) list ≡ o → told_place numbers list word n ≡ position (has_number numbers n) list
    by None e =
        let no : test ≡ false = not_true test (λ t. (let rest : (nat_lt (word - 1) (length list) && (n == number_at numbers (get_or list (word - 1) no_number))) ≡ true = and_right (nat_lt 0 word) _ t in
        let within : word - 1 < length list = ltb-true (word - 1) (length list) (and_left _ (n == number_at numbers (get_or list (word - 1) no_number)) rest) in
        clash (and_right (nat_lt (word - 1) (length list)) _ rest) (position-none (has_number numbers n) list (word - 1) no_number e within))) in
        ap (λ b. if b then Some (word - 1) else None) no ∙ sym e
    by (Some p) e =
        let one : word ≡ p + 1 = is ∙ finds.first n p e in
        let here : word - 1 ≡ p = omega (arith, one) in
        let at = position-Some (has_number numbers n) list p no_number e in
        let yes : test ≡ true = and_both (nat_lt 0 word) _ (lt-ltb 0 word (omega (arith, one))) (and_both (nat_lt (word - 1) (length list)) _ (lt-ltb (word - 1) (length list) (omega (arith, here, at.0)))
        (ap (λ k. has_number numbers n (get_or list k no_number)) here ∙ at.1)) in
        ap (λ b. if b then Some (word - 1) else None) yes ∙ ap Some here ∙ sym e

-- one feature more, whose name has a place

pub finds_with_old : (numbers : List ℕ) (line : List FeatureNo) (words : List ℕ) (levels place root word q : ℕ) → place < length line → FindsPlaces numbers (take place line) words levels root
    → word ≡ tree_word words levels root (number_at numbers (get_or line place no_number)) → told_place numbers (take place line) word (number_at numbers (get_or line place no_number)) ≡ Some q
    → FindsPlaces numbers (take (place + 1) line) words levels root
finds_with_old numbers line words levels place root word q within finds is told = record {
  first = λ n p e.
      (let xs = take place line in
      let f = get_or line place no_number in
      let there : position (has_number numbers (number_at numbers f)) xs ≡ Some q = sym (told_first numbers xs words levels root word (number_at numbers f) finds is) ∙ told in
      elim (position-last (has_number numbers n) xs f p (ap (position (has_number numbers n)) (sym (take_more line place no_number within)) ∙ e)) [
        | inl before ↦ finds.first n p before
        | inr last ↦ (let same : n ≡ number_at numbers f = eqb-true n (number_at numbers f) last.1 in
            let none : Some q ≡ None = sym there ∙ ap (λ k. position (has_number numbers k) xs) (sym same) ∙ last.2 in absurd (cc))
      ]);
}

-- one whose name is new
pub finds_with_new : (numbers : List ℕ) (line : List FeatureNo) (old new : List ℕ) (levels place root word after : ℕ) → HaveDigits numbers levels → place < length line → FindsPlaces numbers (take place line) old levels root
    → word ≡ tree_word old levels root (number_at numbers (get_or line place no_number)) → told_place numbers (take place line) word (number_at numbers (get_or line place no_number)) ≡ None
    → IsTreeWith old new levels root (number_at numbers (get_or line place no_number)) (place + 1) after → FindsPlaces numbers (take (place + 1) line) new levels after
finds_with_new numbers line old new levels place root word after digits within finds is told tree = record {
  first = λ n p e.
      (let xs = take place line in
      let f = get_or line place no_number in
      let none : position (has_number numbers (number_at numbers f)) xs ≡ None = sym (told_first numbers xs old levels root word (number_at numbers f) finds is) ∙ told in
      elim (position-last (has_number numbers n) xs f p (ap (position (has_number numbers n)) (sym (take_more line place no_number within)) ∙ e)) [
        | inl before ↦ (let own : n ≡ number_at numbers (get_or xs p no_number) = eqb-true n _ (position-Some (has_number numbers n) xs p no_number before).1 in
            tree.others n (p + 1)
            (λ same. (let both : Some p ≡ None = sym before ∙ ap (λ k. position (has_number numbers k) xs) same ∙ none in absurd (cc)))
            (ap (rest_above levels) own ∙ digits (get_or xs p no_number).0) (digits f.0) (omega arith) (finds.first n p before))
        | inr last ↦ (let same : n ≡ number_at numbers f = eqb-true n (number_at numbers f) last.1 in
            ap (tree_word new levels after) same ∙ tree.there ∙ ap (λ k. k + 1) (sym (last.0 ∙ length-take-le place line (omega (arith, within)))))
      ]);
}

-- words that go on

pub ready_on : (numbers old new : List ℕ) (levels : ℕ) → AreReady numbers old levels → GoesOn old new → AreReady numbers new levels
ready_on numbers old new levels ready more = record { empty = goes_further empty_tree old new ready.empty more; digits = ready.digits }

pub finds_here : (numbers : List ℕ) (list : List FeatureNo) (words : List ℕ) (levels root : ℕ) → FindsPlaces numbers list words levels root → FindsOn numbers list words words levels root
finds_here numbers list words levels root finds = record { more = goes_nowhere words; finds = finds }

pub finds_further : (numbers : List ℕ) (list : List FeatureNo) (old mid new : List ℕ) (levels root : ℕ) → GoesOn old mid → FindsOn numbers list mid new levels root → FindsOn numbers list old new levels root
finds_further numbers list old mid new levels root more on = record { more = goes_further old mid new more on.more; finds = on.finds }
