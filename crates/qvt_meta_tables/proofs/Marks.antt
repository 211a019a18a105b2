-- The marks of rows.
use Rattle.std.proofs.Common.{◌≡◌, ◌∙◌, ℕ, zero, suc, ◌+◌, ◌<◌, List, [], ◌∷◌, length, get_or, set, drop, Bool, true, false, refl, ap, sym, subst, arith, ◌==◌, ◌||◌, inl, inr}
use Rattle.std.specs.List.{list_any, list_all}
use Rattle.std.specs.Prelude.{slice_index, nat_lt}
use Rattle.std.proofs.lemmas.List.{get_or_past, drop_more, get_or-set_same, get_or-set_other}
use Rattle.std.proofs.lemmas.Bool.{cases_eq, ltb-true}
use Rattle.std.proofs.lemmas.Bool.Decides.{leb_tells}
use Rattle.qvt_base.specs.declared.numbers.ClassNo.{ClassNo}
use Rattle.qvt_metamodel.specs.declared.row.Row.{Row}
use Rattle.qvt_metamodel.specs.declared.info.ClassInfo.{ClassInfo}
use Rattle.qvt_metamodel.specs.Metamodels.{class_at}
use Rattle.qvt_metamodel.specs.Descends.{reaches}
use Rattle.qvt_metamodel.specs.Kept.{is_marked, no_row}
use Rattle.qvt_meta_tables.specs.Tables.{of_classes, IsOrder, EndsWithin}
use Rattle.qvt_metamodel.proofs.Ancestors.{one_more, none_past}
use Rattle.qvt_metamodel.proofs.Bools.{and_left, and_right}
use Rattle.qvt_metamodel.proofs.Rows.{no_mark}
use Rattle.qvt_meta_tables.proofs.Filling.{done_next}
use Rattle.qvt_metamodel.proofs.ListFacts.{all-imply, list_any-cong}

or_assoc : (a b c r : Bool) → ((a || b || c) || r) ≡ (a || ((b || c) || r))
or_assoc true b c r = refl
or_assoc false b c r = refl

-- the next of the superclasses that are left
pub marks_next : (rows : List Row) (row next : Row) (ss : List ClassNo) (i : ℕ) (e : ClassNo) → i < length ss
    → ((d : ℕ) → is_marked next d ≡ (is_marked row d || ((get_or ss i e).0 == d) || is_marked (get_or rows (get_or ss i e).0 no_row) d))
    → ((d : ℕ) → (is_marked row d || list_any (λ s. (s.0 == d) || is_marked (get_or rows s.0 no_row) d) (drop i ss)) ≡ list_any (λ s. (s.0 == d) || is_marked (get_or rows s.0 no_row) d) ss)
    → (d : ℕ) → (is_marked next d || list_any (λ s. (s.0 == d) || is_marked (get_or rows s.0 no_row) d) (drop (i + 1) ss)) ≡ list_any (λ s. (s.0 == d) || is_marked (get_or rows s.0 no_row) d) ss
marks_next rows row next ss i e l is before d =
    ap (λ b. b || list_any (λ s. (s.0 == d) || is_marked (get_or rows s.0 no_row) d) (drop (i + 1) ss)) (is d)
    ∙ or_assoc (is_marked row d) ((get_or ss i e).0 == d) (is_marked (get_or rows (get_or ss i e).0 no_row) d) (list_any (λ s. (s.0 == d) || is_marked (get_or rows s.0 no_row) d) (drop (i + 1) ss))
    ∙ ap (λ xs. is_marked row d || list_any (λ s. (s.0 == d) || is_marked (get_or rows s.0 no_row) d) xs) (sym (drop_more ss i e l))
    ∙ before d

pub live_at : (n : ℕ) (ss : List ClassNo) (i : ℕ) (e : ClassNo) → list_all (λ s. nat_lt s.0 n) ss ≡ true → i < length ss → (get_or ss i e).0 < n
live_at n [] i e h l = absurd (omega arith)
live_at n (s ∷ ss) zero e h l = ltb-true s.0 n (and_left (nat_lt s.0 n) (list_all (λ s. nat_lt s.0 n) ss) h)
live_at n (s ∷ ss) (suc i) e h l = live_at n ss i e (and_right (nat_lt s.0 n) (list_all (λ s. nat_lt s.0 n) ss) h) (omega arith)

pub within_next : (n : ℕ) (rows : List Row) (place : ℕ) (row : Row) → ((c : ℕ) → EndsWithin n (get_or rows c no_row)) → EndsWithin n row → length rows ≡ n → (c : ℕ) → EndsWithin n (get_or (set rows place row) c no_row)
within_next n rows place row all here each c = elim (cases_eq c place) [
  | inl same ↦ elim (leb_tells (suc place) n) [
    | inl t ↦ subst (λ i. EndsWithin n (get_or (set rows place row) i no_row)) (sym same) (subst (EndsWithin n) (sym (get_or-set_same rows place row no_row (omega (arith, t.1, each)))) here)
    | inr f ↦ subst (EndsWithin n) (sym (get_or_past (set rows place row) c no_row (omega (arith, f.1, each, same, length_set rows place row)))) nothing
  ]
  | inr other ↦ subst (EndsWithin n) (sym (get_or-set_other rows place c row no_row other)) (all c)
]
  where
    nothing : EndsWithin n no_row
    nothing = record { start = refl; words = omega arith }

    length_set : (rows : List Row) (place : ℕ) (row : Row) → length (set rows place row) ≡ length rows
    length_set [] place row = refl
    length_set (r ∷ rows) zero row = refl
    length_set (r ∷ rows) (suc place) row = ap suc (length_set rows place row)

module _ (ks : List ClassInfo) (order ranks : List ℕ) (ok : IsOrder (of_classes ks) order ranks) where
  row_right : (rows : List Row) (k c : ℕ) → length rows ≡ length ks
      → ((c : ℕ) → c < length ks → slice_index ranks c < k → (d : ℕ) → is_marked (get_or rows c no_row) d ≡ reaches (of_classes ks) c d) → c < length ks → slice_index ranks c < k + 1
      → (d : ℕ) → list_any (λ s. (s.0 == d) || is_marked (get_or rows s.0 no_row) d) (class_at (of_classes ks) c).supers ≡ reaches (of_classes ks) c d
  row_right rows k c each done live low d =
      list_any-cong _ _ (class_at (of_classes ks) c).supers
      (all-imply (λ (s : ClassNo). slice_index ranks s.0 < slice_index ranks c) (λ (s : ClassNo). ((s.0 == d) || is_marked (get_or rows s.0 no_row) d) ≡ ((s.0 == d) || reaches (of_classes ks) s.0 d)) (class_at (of_classes ks) c).supers
      (λ s less. ap (λ t. (s.0 == d) || t) (at s.0 (omega (arith, less, low)))) (ok.ranked.rise c))
      ∙ sym (one_more (of_classes ks) c d)
    where
      at : (s : ℕ) → slice_index ranks s < k → is_marked (get_or rows s no_row) d ≡ reaches (of_classes ks) s d
      at s l = elim (leb_tells (suc s) (length ks)) [
        | inl t ↦ done s (omega (arith, t.1)) l d
        | inr f ↦ ap (λ r. is_marked r d) (get_or_past rows s no_row (omega (arith, each, f.1))) ∙ no_mark d ∙ sym (none_past (of_classes ks) s d (omega (arith, f.1)))
      ]

  pub rows_next : (rows : List Row) (k place : ℕ) (row : Row) → length rows ≡ length ks → slice_index order k ≡ place
      → ((c : ℕ) → c < length ks → slice_index ranks c < k → (d : ℕ) → is_marked (get_or rows c no_row) d ≡ reaches (of_classes ks) c d)
      → ((d : ℕ) → is_marked row d ≡ list_any (λ s. (s.0 == d) || is_marked (get_or rows s.0 no_row) d) (class_at (of_classes ks) place).supers)
      → (c : ℕ) → c < length ks → slice_index ranks c < k + 1 → (d : ℕ) → is_marked (get_or (set rows place row) c no_row) d ≡ reaches (of_classes ks) c d
  rows_next rows k place row each at done is =
      done_next no_row (λ c x. (d : ℕ) → is_marked x d ≡ reaches (of_classes ks) c d) (length ks) order ranks ok.placed k rows place row each at done
      (λ live low d. is d ∙ row_right rows k place each done live low d)

  pub rows_all : (rows : List Row) → length rows ≡ length ks → ((c : ℕ) → c < length ks → slice_index ranks c < length order → (d : ℕ) → is_marked (get_or rows c no_row) d ≡ reaches (of_classes ks) c d)
      → (c d : ℕ) → is_marked (get_or rows c no_row) d ≡ reaches (of_classes ks) c d
  rows_all rows each done c d = elim (leb_tells (suc c) (length ks)) [
    | inl t ↦ done c (omega (arith, t.1)) (omega (arith, ok.ranked.bounded c (omega (arith, t.1)), ok.all)) d
    | inr f ↦ ap (λ r. is_marked r d) (get_or_past rows c no_row (omega (arith, each, f.1))) ∙ no_mark d ∙ sym (none_past (of_classes ks) c d (omega (arith, f.1)))
  ]
