-- The closure goes by visits (OCL 2.4, 11.9.2).
use Rattle.std.specs.Prelude.{◌≡◌, ℕ, suc, List, Option, Some, None}
use Rattle.qvt_base.specs.declared.numbers.Place.{Place}
use Rattle.qvt_value.specs.declared.value.Value.{Value}
use Rattle.qvt_value.specs.Limits.{built}
use Rattle.qvt_run_data.specs.declared.late.LateWrite.{LateWrite}
use Rattle.qvt_run_rules.specs.State.{Does, ◌>>=◌, pure}
use Rattle.qvt_run_rules.specs.Sources.{reached_kind, unless_invalid}
use Rattle.qvt_run_rules.specs.Iterators as each
use Rattle.qvt_exec_visits.specs.Visited.{Visited, begun, visited, IsNextItem, rest_of}

-- the rule is an iterator that goes by visits, from all items of the source
abbrev pub ClosureIsItsVisits : Type 0
ClosureIsItsVisits = (spend : ℕ → Does LateWrite (Unit {0})) (at : Place) (name : Option (List ℕ)) (body : Does LateWrite Value) (turns : ℕ) (v : Value) →
    each.closure spend at name body turns v ≡ each.iterated spend at name body (λ k xs. rest_of at (each.for_item name body) (suc turns) (begun k xs)) v

-- the body is evaluated for the next item, and then the item is visited
abbrev pub EachItemIsAVisit : Type 0
EachItemIsAVisit = (at : Place) (f : Value → Does LateWrite Value) (n : ℕ) (v w : Visited) (x : Value) → IsNextItem v (Some x) w →
    rest_of at f (suc n) v ≡ (f x >>= (λ g. unless_invalid g (rest_of at f n (visited w x g))))

-- without a next item what was visited is what the closure gives
abbrev pub NoItemIsTheEnd : Type 0
NoItemIsTheEnd = (at : Place) (f : Value → Does LateWrite Value) (n : ℕ) (v w : Visited) → IsNextItem v None w →
    rest_of at f (suc n) v ≡ pure (built at (reached_kind w.kind) w.done)
