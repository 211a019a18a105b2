-- The walk over the extents finds those that are written.
use Rattle.std.proofs.Common.{◌≡◌, ◌∙◌, refl, sym, ap, ℕ, zero, suc, ◌+◌, ◌==◌, Bool, true, false, cond, List, [], ◌∷◌, length, filter, get_or, arith, IsTrue}
use Rattle.std.specs.List.{AllByRecursion, range_with_len}
use Rattle.std.proofs.lemmas.Bool.{eqb-true, lt-ltb}
use Rattle.qvt_slots.specs.declared.extent.Extent.{Extent}
use Rattle.qvt_store.specs.Contents.{Contents, extent_at, is_extent, is_named, no_extent}
use Rattle.qvt_meaning_report.specs.Meaning as report
use Rattle.qvt_report.specs.Extents.{is_written, numbers_along}

pub is_unnamed : (name : List ℕ) → (length name == 0) ≡ true → is_named name ≡ false
is_unnamed [] h = refl
is_unnamed (b ∷ bs) h = let none : suc (length bs) ≡ 0 = eqb-true (suc (length bs)) 0 h in absurd (omega (arith, none))

pub has_name : (name : List ℕ) → (length name == 0) ≡ false → is_named name ≡ true
has_name [] h = absurd (cc)
has_name (b ∷ bs) h = refl

-- the look-ups of the extents from e on are these
along : (s : Contents) (e : ℕ) (xs : List Extent) → ((k : ℕ) → extent_at s (e + k) ≡ get_or xs k no_extent) → numbers_along e xs ≡ filter (report.is_written s) (range_with_len e (length xs))
along s e [] h = refl
along s e (x ∷ xs) h =
    ap (λ b. cond b (e ∷ numbers_along (e + 1) xs) (numbers_along (e + 1) xs)) (sym (ap is_written here))
    ∙ ap (λ es. cond (report.is_written s e) (e ∷ es) es) (along s (e + 1) xs (λ k. ap (extent_at s) (let q : e + 1 + k ≡ e + suc k = omega arith in q) ∙ h (suc k)))
  where
    here : extent_at s e ≡ x
    here = ap (extent_at s) (let q : e ≡ e + 0 = omega arith in q) ∙ h 0

pub along_is : (s : Contents) → numbers_along 0 s.extents ≡ report.written_extents s
along_is s = along s 0 s.extents (λ k. ap (extent_at s) (let q : 0 + k ≡ k = omega arith in q))

within : (s : Contents) (e n : ℕ) → e + n ≡ length s.extents → AllByRecursion (λ k. IsTrue (is_extent s k)) (filter (report.is_written s) (range_with_len e n))
within s e zero h = tt
within s e (suc n) h = by (report.is_written s e) (within s (e + 1) n (omega arith))
  where
    rest : List ℕ
    rest = filter (report.is_written s) (range_with_len (e + 1) n)

    by : (b : Bool) → AllByRecursion (λ k. IsTrue (is_extent s k)) rest → AllByRecursion (λ k. IsTrue (is_extent s k)) (cond b (e ∷ rest) rest)
    by true all = (lt-ltb e (length s.extents) (omega arith), all)
    by false all = all

pub are_extents : (s : Contents) → AllByRecursion (λ k. IsTrue (is_extent s k)) (report.written_extents s)
are_extents s = within s 0 (length s.extents) (omega arith)
