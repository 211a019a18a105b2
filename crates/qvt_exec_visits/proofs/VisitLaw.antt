-- What a closure does with the next item is its body for the item, and then its visit.
use Rattle.std.proofs.Common.{◌≡◌, ◌∙◌, ℕ, suc, Bool, true, false, refl, sym, ap, subst, List, [], ◌∷◌, ◌++◌, Some}
use Rattle.std.specs.Prelude.{if◌then◌else◌}
use Rattle.qvt_base.specs.declared.numbers.Place.{Place}
use Rattle.qvt_value.specs.declared.value.Value.{Value}
use Rattle.qvt_value.specs.declared.value.Kind.{Kind}
use Rattle.qvt_value.specs.Limits.{built}
use Rattle.qvt_ocl_words.specs.Lists.{has}
use Rattle.qvt_run_data.specs.declared.late.LateWrite.{LateWrite}
use Rattle.qvt_run_rules.specs.State.{Does, ◌>>=◌, pure}
use Rattle.qvt_run_rules.specs.Sources.{items_of, present_items, reached_kind, unless_invalid}
use Rattle.qvt_run_rules.specs.Iterators.{closure_from, unvisited}
use Rattle.qvt_run_rules.specs.Iterators as each
use Rattle.qvt_exec_visits.specs.Laws.{ClosureIsItsVisits, EachItemIsAVisit, NoItemIsTheEnd}
use Rattle.qvt_exec_visits.specs.Visited.{Visited, with_item, IsNextItem}

-- the next item was not visited
fresh : (done xs : List Value) (x : Value) (ws : List Value) → unvisited done xs ≡ x ∷ ws → has done x ≡ false
fresh done [] x ws e = cc
fresh done (v ∷ vs) x ws e = by (has done v) refl (fresh done vs x ws) e
  where
    by : (b : Bool) → has done v ≡ b → (unvisited done vs ≡ x ∷ ws → has done x ≡ false) → (if b then unvisited done vs else v ∷ vs) ≡ x ∷ ws → has done x ≡ false
    by true h rest e = rest e
    by false h rest e = let same : v ≡ x = cc in subst (λ y. has done y ≡ false) same h

-- so it comes last
added : (v w : Visited) (x : Value) → IsNextItem v (Some x) w → v.done ++ x ∷ [] ≡ with_item w.done x
added v w x next =
    sym (ap (λ ys. with_item ys x) next.done ∙ ap (λ b. if b then v.done else v.done ++ x ∷ []) (fresh v.done v.left x w.left next.left))

-- what follows the value of the body
abbrev behind : Place → (Value → Does LateWrite Value) → ℕ → Kind → List Value → List Value → Value → Does LateWrite Value
behind at f n k done left g = unless_invalid g (closure_from at f n k done (unvisited done (present_items (items_of g) ++ left)))

pub visit : EachItemIsAVisit
visit at f n v w x next =
    ap (λ ys. closure_from at f (suc n) v.kind v.done ys) next.left
    ∙ ap (λ k. f x >>= behind at f n k (v.done ++ x ∷ []) w.left) (sym next.kind)
    ∙ ap (λ ys. f x >>= behind at f n w.kind ys w.left) (added v w x next)

pub at_end : NoItemIsTheEnd
at_end at f n v w next =
    ap (λ ys. closure_from at f (suc n) v.kind v.done ys) next.left
    ∙ (λ i. pure (built at (reached_kind (sym next.kind i)) (sym next.done i)))

pub by_visits : ClosureIsItsVisits
unfolding each.closure
by_visits spend at name body turns v = refl
