-- What tables give, and tables of one record more.
use Rattle.std.proofs.Common.{◌≡◌, ℕ, ◌<◌, Bool, if◌then◌else◌, List, [], ◌∷◌, ◌++◌, length, Option, Some, ap, sym, ◌∙◌}
use Rattle.std.specs.List.{All}
use Rattle.qvt_base.specs.declared.numbers.Oid.{Oid}
use Rattle.qvt_run_rules.specs.declared.record.Record.{Record}
use Rattle.qvt_run_rules.specs.Trace.{same_end}
use Rattle.qvt_trace.specs.Indexed.{is_end}
use Rattle.qvt_trace.specs.Numbers.{numbers}
use Rattle.qvt_trace.specs.Tables.{kept}
use Rattle.qvt_trace.specs.declared.table.Table.{Table}
use Rattle.qvt_trace.proofs.Numbers.{numbers_below, numbers_more}
use Rattle.qvt_trace.proofs.Same.{ends_alike}

pub noted : {K : Type 0} (eq : K → K → Bool) (key : Record → K) (ready new : Table K) (rs : List Record) (r : Record) (w : K) (n : ℕ) → w ≡ key r → n ≡ length rs
    → ((k : K) → kept eq ready k ≡ numbers (λ x. eq (key x) k) rs)
    → ((k : K) → kept eq new k ≡ (if eq w k then kept eq ready k ++ n ∷ [] else kept eq ready k))
    → (k : K) → kept eq new k ≡ numbers (λ x. eq (key x) k) (rs ++ r ∷ [])
noted eq key ready new rs r w n is e was now k =
    now k ∙ ap (λ x. if eq x k then kept eq ready k ++ n ∷ [] else kept eq ready k) is ∙ ap (λ l. if eq (key r) k then l ++ n ∷ [] else l) (was k) ∙ sym (numbers_more (λ x. eq (key x) k) rs r n e)

-- the numbers under an end
pub ended : (end : Record → Option Oid) (o : Oid) (rs : List Record) → numbers (λ r. is_end (end r) (Some o)) rs ≡ numbers (λ r. same_end (end r) (Some o)) rs
ended end o rs = λ i. numbers (λ r. ends_alike (end r) (Some o) i) rs

pub all_below : {X : Type 0} (test : X → Bool) (xs : List X) (ns : List ℕ) → ns ≡ numbers test xs → All (λ n. n < length xs) ns
all_below test xs ns e = rw e (numbers_below test xs)
