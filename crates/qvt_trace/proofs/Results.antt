-- The result that records have for a key is that of the first record of the key.
use Rattle.std.proofs.Common.{◌≡◌, ℕ, ◌+◌, Bool, true, false, cond, List, [], ◌∷◌, slice_get, drop, position, Option, Some, None, refl, ap, sym, ◌∙◌}
use Rattle.std.specs.List.{position_from}
use Rattle.std.specs.Option.{option_map}
use Rattle.std.proofs.lemmas.Iterator.Adapters.{position_from-zero}
use Rattle.qvt_base.specs.declared.numbers.Oid.{Oid}
use Rattle.qvt_run_rules.specs.declared.record.Key.{Key}
use Rattle.qvt_run_rules.specs.declared.record.Record.{Record}
use Rattle.qvt_run_rules.specs.Trace.{key_of, result_for, same_key}
use Rattle.qvt_trace.specs.Keys.{is_of}
use Rattle.qvt_trace.proofs.Numbers.{after}

module _ (k : Key) where
  abbrev is_first : Record → Bool
  is_first r = same_key (key_of r) k

  result_of : List Record → Option ℕ → Option (Option Oid)
  result_of whole None = None
  result_of whole (Some n) = option_map (λ r. r.result) (slice_get whole n)

  looked : (whole : List Record) (i : ℕ) (rs : List Record) → drop i whole ≡ rs → result_for k rs ≡ result_of whole (position_from is_first i rs)
  unfolding result_of
  looked whole i [] h = refl
  looked whole i (r ∷ rs) h =
      let a = after whole i r rs h in
      by (is_first r) _ (ap (option_map (λ (x : Record). x.result)) (sym a.here)) (looked whole (i + 1) rs a.rest)
    where
      by : {e f : Option (Option Oid)} (b : Bool) (o : Option ℕ) → e ≡ result_of whole (Some i) → f ≡ result_of whole o → cond b e f ≡ result_of whole (cond b (Some i) o)
      by true o p q = p
      by false o p q = q

  pub result_at : (rs : List Record) (n : ℕ) (r : Record) → position (is_of k.mapping k.context k.args) rs ≡ Some n → slice_get rs n ≡ Some r → result_for k rs ≡ Some r.result
  unfolding result_of
  result_at rs n r h there =
      looked rs 0 rs refl ∙ ap (result_of rs) (sym (position_from-zero is_first rs) ∙ h)
      ∙ ap (option_map (λ (x : Record). x.result)) there

  pub result_none : (rs : List Record) → position (is_of k.mapping k.context k.args) rs ≡ None → result_for k rs ≡ None
  unfolding result_of
  result_none rs h = looked rs 0 rs refl ∙ ap (result_of rs) (sym (position_from-zero is_first rs) ∙ h)
