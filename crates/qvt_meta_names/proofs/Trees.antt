-- Trees of words by number, and the first places that they find.
use Rattle.std.proofs.Common.{◌≡◌, ◌∙◌, ℕ, zero, suc, ◌+◌, ◌-◌, ◌*◌, ◌/◌, ◌%◌, ◌<◌, ◌≤◌, ◌==◌, inl, inr, List, [], ◌++◌, length, get_or, refl, ap, sym, arith, cond}
use Rattle.std.proofs.lemmas.Bool.{cases_eq, cases_lt, eq-eqb, eqb-true}
use Rattle.std.proofs.lemmas.List.{get_or_past, append_assoc, append-nil}
use Rattle.std.proofs.lemmas.Nat.{div-add-mod'}
use Rattle.qvt_metamodel.proofs.Bools.{ap2, not_true}
use Rattle.qvt_metamodel.proofs.Halves.{old-at, new-at}
use Rattle.qvt_meta_names.specs.Rooted.{tree_word, rest_above, empty_tree, GoesOn, cell_with, node_with, IsTreeWith}

-- the empty tree

no_word : (rest : List ℕ) (d : ℕ) → d < 4 → get_or (empty_tree ++ rest) d 0 ≡ 0
no_word rest zero l = refl
no_word rest (suc zero) l = refl
no_word rest (suc (suc zero)) l = refl
no_word rest (suc (suc (suc zero))) l = refl
no_word rest (suc (suc (suc (suc d)))) l = absurd (omega (arith, l))

none_in_empty : (words : List ℕ) → GoesOn empty_tree words → (levels number : ℕ) → tree_word words levels 0 number ≡ 0
none_in_empty words empty zero number = refl
none_in_empty words empty (suc levels) number =
    let here : get_or words (number % 4) 0 ≡ 0 = ap (λ ws. get_or ws (number % 4) 0) empty.1 ∙ no_word empty.0 (number % 4) (omega arith) in
    ap (λ k. tree_word words levels k (number / 4)) (ap (λ k. get_or words k 0) (let same : 0 + number % 4 ≡ number % 4 = omega arith in same) ∙ here) ∙ none_in_empty words empty levels (number / 4)

pub goes_further : (old mid new : List ℕ) → GoesOn old mid → GoesOn mid new → GoesOn old new
goes_further old mid new a b = (a.0 ++ b.0, b.1 ∙ ap (λ ws. ws ++ b.0) a.1 ∙ append_assoc old a.0 b.0)

pub goes_nowhere : (words : List ℕ) → GoesOn words words
goes_nowhere words = ([], sym (append-nil words))

-- what a tree has stays where more words are put last
pub kept_word : (old new : List ℕ) → GoesOn empty_tree old → GoesOn old new → (levels node number w : ℕ) → 0 < w → tree_word old levels node number ≡ w → tree_word new levels node number ≡ w
kept_word old new empty more zero node number w positive e = e
kept_word old new empty more (suc levels) node number w positive e = elim (cases_lt (node + number % 4) (length old)) [
  | inl within ↦ (let same : get_or new (node + number % 4) 0 ≡ get_or old (node + number % 4) 0 = ap (λ ws. get_or ws (node + number % 4) 0) more.1 ∙ old-at old more.0 (node + number % 4) 0 within in
      ap (λ k. tree_word new levels k (number / 4)) same ∙ kept_word old new empty more levels (get_or old (node + number % 4) 0) (number / 4) w positive e)
  | inr past ↦ (let none : tree_word old levels (get_or old (node + number % 4) 0) (number / 4) ≡ 0 = ap (λ k. tree_word old levels k (number / 4)) (get_or_past old (node + number % 4) 0 past) ∙ none_in_empty old empty levels (number / 4) in
      absurd (omega (arith, positive, e, none)))
]

-- one more node

node_cell : (words : List ℕ) (node digit word d : ℕ) → d < 4 → get_or (node_with words node digit word) d 0 ≡ cell_with words node digit word d
node_cell words node digit word zero l = refl
node_cell words node digit word (suc zero) l = refl
node_cell words node digit word (suc (suc zero)) l = refl
node_cell words node digit word (suc (suc (suc zero))) l = refl
node_cell words node digit word (suc (suc (suc (suc d)))) l = absurd (omega (arith, l))

new_cell : (words new : List ℕ) (node digit word at d : ℕ) → at ≡ length words → new ≡ words ++ node_with words node digit word → d < 4 → get_or new (at + d) 0 ≡ cell_with words node digit word d
new_cell words new node digit word at d here last l =
    ap2 (λ ws k. get_or ws (k + d) 0) last here ∙ new-at words (node_with words node digit word) d 0 ∙ node_cell words node digit word d l

same_number : (n m : ℕ) → n / 4 ≡ m / 4 → n % 4 ≡ m % 4 → n ≡ m
same_number n m q r = sym (div-add-mod' n 4) ∙ ap2 (λ x y. x * 4 + y) q r ∙ div-add-mod' m 4

pub tree_at_leaf : (words : List ℕ) (node number word : ℕ) → IsTreeWith words words 0 node number word word
tree_at_leaf words node number word = record {
  more = goes_nowhere words;
  there = refl;
  others = λ n w other fits here positive e. absurd (other (fits ∙ sym here));
}

pub tree_above : (old mid new : List ℕ) (levels node number word child below at : ℕ) → GoesOn empty_tree old → 0 < word → child ≡ get_or old (node + number % 4) 0
    → IsTreeWith old mid levels child (number / 4) word below → at ≡ length mid → new ≡ mid ++ node_with mid node (number % 4) below → IsTreeWith old new (suc levels) node number word at
tree_above old mid new levels node number word child below at empty positive is_child tree is_at last =
    let more : GoesOn mid new = (node_with mid node (number % 4) below, last) in
    let mid_empty : GoesOn empty_tree mid = goes_further empty_tree old mid empty tree.more in
    let own : get_or new (at + number % 4) 0 ≡ below = new_cell mid new node (number % 4) below at (number % 4) is_at last (omega arith)
    ∙ ap (λ b. cond b below (get_or mid (node + number % 4) 0)) (eq-eqb (number % 4) (number % 4) refl) in
    record {
      more = goes_further old mid new tree.more more;
      there = ap (λ k. tree_word new levels k (number / 4)) own ∙ kept_word mid new mid_empty more levels below (number / 4) word positive tree.there;
      others = λ n w other fits here above e. elim (cases_eq (n % 4) (number % 4)) [
        | inl same ↦ (let down : tree_word old levels child (n / 4) ≡ w = ap (λ k. tree_word old levels k (n / 4)) (is_child ∙ ap (λ d. get_or old (node + d) 0) (sym same)) ∙ e in
            let there : tree_word mid levels below (n / 4) ≡ w = tree.others (n / 4) w (λ q. other (same_number n number q same)) fits here above down in
            ap (λ k. tree_word new levels k (n / 4)) (ap (λ d. get_or new (at + d) 0) same ∙ own) ∙ kept_word mid new mid_empty more levels below (n / 4) w above there)
        | inr differs ↦ (let cell : get_or new (at + n % 4) 0 ≡ get_or mid (node + n % 4) 0 = new_cell mid new node (number % 4) below at (n % 4) is_at last (omega arith)
            ∙ ap (λ b. cond b below (get_or mid (node + n % 4) 0)) (not_true (n % 4 == number % 4) (λ t. differs (eqb-true (n % 4) (number % 4) t))) in
            ap (λ k. tree_word new levels k (n / 4)) cell
            ∙ kept_word mid new mid_empty more levels (get_or mid (node + n % 4) 0) (n / 4) w above (kept_word old mid empty tree.more (suc levels) node n w above e))
      ];
    }

-- digits

pub fewer_digits : (levels n m : ℕ) → n ≤ m → rest_above levels m ≡ 0 → rest_above levels n ≡ 0
fewer_digits zero n m l e = omega (arith, l, e)
fewer_digits (suc levels) n m l e = fewer_digits levels (n / 4) (m / 4) (omega (arith, l)) e

pub rest_none : (levels : ℕ) → rest_above levels 0 ≡ 0
rest_none zero = refl
rest_none (suc levels) = rest_none levels

pub next_word : (words : List ℕ) (levels level node number : ℕ) → level < levels → tree_word words (levels - (level + 1)) (get_or words (node + number % 4) 0) (number / 4) ≡ tree_word words (levels - level) node number
next_word words levels level node number l = ap (λ n. tree_word words n node number) (let one : suc (levels - (level + 1)) ≡ levels - level = omega (arith, l) in one)
