-- The first record of a key, looked for among those whose keys have the same hash.
use Rattle.std.proofs.Common.{◌≡◌, ℕ, ◌+◌, Bool, true, false, cond, ◌&&◌, ◌==◌, List, [], ◌∷◌, slice_get, filter, position, Option, Some, None, refl, ap, sym, ◌∙◌}
use Rattle.std.specs.Cmp.{first_so, second_so}
use Rattle.std.specs.List.{position_from}
use Rattle.std.specs.Option.{option_map_or}
use Rattle.std.proofs.lemmas.Bool.{eqb-true, eq-eqb}
use Rattle.std.proofs.lemmas.Iterator.Adapters.{position_from-zero}
use Rattle.qvt_base.specs.declared.numbers.MappingNo.{MappingNo}
use Rattle.qvt_base.specs.declared.numbers.Oid.{Oid}
use Rattle.qvt_value.specs.declared.value.Value.{Value}
use Rattle.qvt_run_rules.specs.declared.record.Record.{Record}
use Rattle.qvt_run_rules.specs.Trace.{same_end, same_key, same_values}
use Rattle.qvt_trace.specs.Hashes.{has_hash, key_hash}
use Rattle.qvt_trace.specs.Keys.{is_of}
use Rattle.qvt_trace.specs.Numbers.{numbers_from, numbers}
use Rattle.qvt_trace.proofs.Numbers.{numbers_both}
use Rattle.qvt_trace.proofs.Same.{end_is, values_are}

abbrev pub first_of : List ℕ → Option ℕ
first_of [] = None
first_of (n ∷ ns) = Some n

-- ---- the first of all numbers

first_from : {X : Type 0} (test : X → Bool) (n : ℕ) (xs : List X) → position_from test n xs ≡ first_of (numbers_from test n xs)
first_from test n [] = refl
first_from test n (x ∷ xs) = by (test x) _ (first_from test (n + 1) xs)
  where
    by : {o : Option ℕ} (b : Bool) (ns : List ℕ) → o ≡ first_of ns → cond b (Some n) o ≡ first_of (cond b (n ∷ ns) ns)
    by true ns e = refl
    by false ns e = e

first_is : {X : Type 0} (test : X → Bool) (xs : List X) → position test xs ≡ first_of (numbers test xs)
first_is test xs = position_from-zero test xs ∙ first_from test 0 xs

-- ---- a record of the key has its hash

module _ (m : MappingNo) (c : Option Oid) (args : List Value) where
  hash_is : (r : Record) → is_of m c args r ≡ true → has_hash (key_hash m c args) r ≡ true
  unfolding same_key
  hash_is r h =
      let rest : (same_end r.context c && same_values r.args args) ≡ true = second_so (r.mapping.0 == m.0) _ h in
      let of_mapping : r.mapping.0 ≡ m.0 = eqb-true r.mapping.0 m.0 (first_so (r.mapping.0 == m.0) _ h) in
      let same : key_hash r.mapping r.context r.args ≡ key_hash m c args
      = λ i. key_hash (record { 0 = of_mapping i }) (end_is r.context c (first_so (same_end r.context c) _ rest) i) (values_are r.args args (second_so (same_end r.context c) _ rest) i) in
      eq-eqb _ _ same

  both : (r : Record) → is_of m c args r ≡ (has_hash (key_hash m c args) r && is_of m c args r)
  both r = by (is_of m c args r) refl
    where
      by : (b : Bool) → is_of m c args r ≡ b → b ≡ (has_hash (key_hash m c args) r && b)
      by true h = sym (ap (λ x. x && true) (hash_is r h))
      by false h = none (has_hash (key_hash m c args) r)
        where
          none : (x : Bool) → false ≡ (x && false)
          none true = refl
          none false = refl

  -- the record with the number is of the key
  abbrev pub is_at : List Record → ℕ → Bool
  is_at rs n = option_map_or (is_of m c args) (slice_get rs n) false

  pub begun : (rs : List Record) (ns : List ℕ) → ns ≡ numbers (has_hash (key_hash m c args)) rs → position (is_of m c args) rs ≡ first_of (filter (is_at rs) ns)
  begun rs ns e =
      first_is (is_of m c args) rs
      ∙ ap first_of ((λ i. numbers (λ r. both r i) rs) ∙ numbers_both (has_hash (key_hash m c args)) (is_of m c args) rs)
      ∙ ap (λ (l : List ℕ). first_of (filter (is_at rs) l)) (sym e)
