-- Items of a collection literal, one phrase after another.
use Rattle.std.proofs.Common.{◌≡◌, ◌∙◌, ℕ, ◌<◌, ◌≤◌, ◌+◌, zero, suc, refl, sym, ap, subst, List, [], ◌∷◌, ◌++◌, length, drop, Bool, true, false, Option, Some, None, Result, Ok, Err, IsErrAnd, arith}
use Rattle.std.specs.Prelude.{MatchOption}
use Rattle.std.proofs.Math.Seq.{drop-cons}
use Rattle.std.proofs.Math.ListN.{get_or}
use Rattle.qvt_base.specs.declared.numbers.Place.{Place}
use Rattle.qvt_value.specs.declared.value.Value.{Value}
use Rattle.qvt_value.specs.declared.value.Kind.{Kind}
use Rattle.qvt_run_data.specs.declared.exit.Exit.{Exit}
use Rattle.qvt_run_data.specs.declared.late.LateWrite.{LateWrite}
use Rattle.qvt_run_rules.specs.State.{State, Done, Does, on_outcome, found, misfit, pure}
use Rattle.qvt_run_rules.specs.Expressions as rule
use Rattle.qvt_exec_words.specs.declared.literals.Gathered.{Gathered}
use Rattle.qvt_exec_words.specs.Gathered.{AreGathered, HasMore}
use Rattle.qvt_run_data.specs.declared.exit.Halt.{Halt}
use Rattle.qvt_run_data.specs.declared.exit.Halt.TheVariants.{Exits, NoMemory}
use Rattle.qvt_types_nodes.specs.declared.tree.TypedItem.{TypedItem}
use Rattle.qvt_meaning.specs.Phrases as phrase
use Rattle.qvt_exec_state.specs.Runs.{Runs, seen}
use Rattle.qvt_exec_state.specs.declared.state.RunState.{RunState}
use Rattle.qvt_exec_steps.specs.Means.{Scene, item_of, items_of}
use Rattle.qvt_exec_exprs.specs.Gathering.{Gathers, GivesItems, IsGathering}

abbrev Only : Bool → Type 0
Only true = Unit {0}
Only false = ⊥

-- what follows the first of them
abbrev onwards : List Value → List (Does LateWrite (List Value)) → Done LateWrite (List Value) → Done LateWrite (List Value)
onwards done ps d = on_outcome d.0 d.1 (λ vs. rule.lists_onto (done ++ vs) ps)

-- the first gives its items
pub gathered_on : (kind : Kind) (d : Done LateWrite (List Value)) (p : Does LateWrite (List Value)) (ps : List (Does LateWrite (List Value))) (g h : Gathered) (s : State LateWrite) (t : RunState) →
    IsGathering kind d (p ∷ ps) g s → GivesItems (p s) g h t → IsGathering kind d ps h (seen t)
gathered_on kind d p ps g h s t i e = record {
  done = i.done ++ e.items;
  gathered = e.more kind i.done i.gathered;
  rest = sym (ap (onwards i.done ps) e.given) ∙ i.rest;
}

-- the first ends it
pub gathered_end : (kind : Kind) (d : Done LateWrite (List Value)) (p : Does LateWrite (List Value)) (ps : List (Does LateWrite (List Value))) (g : Gathered) (s t : State LateWrite) (e : Exit) →
    IsGathering kind d (p ∷ ps) g s → p s ≡ (Err e, t) → d ≡ (Err e, t)
gathered_end kind d p ps g s t e i h = sym i.rest ∙ ap (onwards i.done ps) h

first_item : (x : Scene) (i : TypedItem) (is : List TypedItem) → items_of x (i ∷ is) ≡ item_of x i ∷ items_of x is
unfolding items_of item_of phrase.items
first_item x i is = refl

next_items : (x : Scene) (is : List TypedItem) (n : ℕ) (i : TypedItem) → n < length is → i ≡ get_or is n i → items_of x (drop n is) ≡ item_of x i ∷ items_of x (drop (n + 1) is)
next_items x is n i within at =
    let next_is : suc n ≡ n + 1 = omega arith in
    ap (items_of x) (drop-cons is n i within) ∙ first_item x (get_or is n i) (drop (suc n) is)
    ∙ ap (λ (j : TypedItem). item_of x j ∷ items_of x (drop (suc n) is)) (sym at)
    ∙ ap (λ m. item_of x i ∷ items_of x (drop m is)) next_is

-- an item alone
pub one_gives : (g h : Gathered) (t : RunState) (v : Value) → HasMore (v ∷ []) g h → GivesItems (Ok (v ∷ []), seen t) g h t
one_gives g h t v m = record { items = v ∷ []; given = refl; more = m }

-- a range that is put
pub range_gives : (o : Option (List Value)) (at : Place) (g h : Gathered) (t : RunState) (put : Bool) →
    MatchOption o (put ≡ false) (λ items. (put ≡ true) × HasMore items g h) → put ≡ true → GivesItems (found o at (seen t)) g h t
range_gives None at g h t put m is = absurd (subst Only (sym is ∙ m) tt)
range_gives (Some items) at g h t put m is = record { items = items; given = refl; more = m.1 }

-- ends that have no range
pub range_misfits : (o : Option (List Value)) (at : Place) (g h : Gathered) (t : RunState) (put : Bool) →
    MatchOption o (put ≡ false) (λ items. (put ≡ true) × HasMore items g h) → put ≡ false → found {E = LateWrite} o at (seen t) ≡ misfit at (seen t)
range_misfits None at g h t put m is = refl
range_misfits (Some items) at g h t put m is = absurd (subst Only (sym m.0 ∙ is) tt)

-- before the first of them
pub gathering_none : (kind : Kind) (ps : List (Does LateWrite (List Value))) (g : Gathered) (s : State LateWrite) → AreGathered kind [] g → IsGathering kind (rule.lists_onto [] ps s) ps g s
gathering_none kind ps g s none = record { done = []; gathered = none; rest = refl }

-- one more of them
pub gathering_on : (x : Scene) (is : List TypedItem) (n : ℕ) (i : TypedItem) (kind : Kind) (d : Done LateWrite (List Value)) (g h : Gathered) (s : State LateWrite) (t : RunState) → n < length is → i ≡ get_or is n i →
    IsGathering kind d (items_of x (drop n is)) g s → GivesItems (item_of x i s) g h t → IsGathering kind d (items_of x (drop (n + 1) is)) h (seen t)
gathering_on x is n i kind d g h s t within at so_far gives =
    gathered_on kind d (item_of x i) (items_of x (drop (n + 1) is)) g h s t (subst (λ ps. IsGathering kind d ps g s) (next_items x is n i within at) so_far) gives

-- one of them ends it
pub gathering_end : (x : Scene) (is : List TypedItem) (n : ℕ) (i : TypedItem) (kind : Kind) (d : Done LateWrite (List Value)) (g k : Gathered) (s : State LateWrite) (f : List Value → Does LateWrite Value) (h : Halt) (r : Result Value Halt) (t : RunState) → n < length is → i ≡ get_or is n i →
    IsGathering kind d (items_of x (drop n is)) g s → Gathers (item_of x i s) g k (Err h) t → IsErrAnd r (λ e. e ≡ h) → Runs (on_outcome d.0 d.1 f) r t
gathering_end x is n i kind d g k s f h (Ok w) t within at so_far gives err = absurd err
gathering_end x is n i kind d g k s f NoMemory (Err e) t within at so_far gives err = subst (λ (z : Halt). Runs (on_outcome d.0 d.1 f) (Err z) t) (sym err) tt
gathering_end x is n i kind d g k s f (Exits o) (Err e) t within at so_far gives err =
    subst (λ (z : Halt). Runs (on_outcome d.0 d.1 f) (Err z) t) (sym err) (ap (λ (q : Done LateWrite (List Value)). on_outcome q.0 q.1 f)
    (gathered_end kind d (item_of x i) (items_of x (drop (n + 1) is)) g s (seen t) o (subst (λ ps. IsGathering kind d ps g s) (next_items x is n i within at) so_far) gives))

abbrev given : RunState → Value → Done LateWrite Value
given t v = (Ok v, seen t)

-- all of them
pub gathering_all : (kind : Kind) (d : Done LateWrite (List Value)) (g : Gathered) (t : RunState) (at : Place) (v : Value) → IsGathering kind d [] g (seen t) → ((k : Kind) (all : List Value) → AreGathered k all g → v ≡ rule.collection at k all) →
    on_outcome d.0 d.1 (λ vs. pure (rule.collection at kind vs)) ≡ (Ok v, seen t)
gathering_all kind d g t at v i made =
    ap (λ (q : Done LateWrite (List Value)). on_outcome q.0 q.1 (λ vs. pure (rule.collection at kind vs))) (sym i.rest)
    ∙ ap (given t) (sym (made kind i.done i.gathered))

items_end : (x : Scene) (is : List TypedItem) (n : ℕ) → length is ≤ n → items_of x (drop n is) ≡ []
unfolding items_of phrase.items
items_end x [] zero h = refl
items_end x [] (suc n) h = refl
items_end x (i ∷ is) zero h = absurd (omega (arith, h))
items_end x (i ∷ is) (suc n) h = items_end x is n (omega (arith, h))

-- the last of them is behind
pub gathering_over : (x : Scene) (is : List TypedItem) (n : ℕ) (kind : Kind) (d : Done LateWrite (List Value)) (g : Gathered) (t : RunState) (at : Place) (v : Value) → length is ≤ n → IsGathering kind d (items_of x (drop n is)) g (seen t) →
    ((k : Kind) (all : List Value) → AreGathered k all g → v ≡ rule.collection at k all) → on_outcome d.0 d.1 (λ vs. pure (rule.collection at kind vs)) ≡ (Ok v, seen t)
gathering_over x is n kind d g t at v over i made = gathering_all kind d g t at v (subst (λ ps. IsGathering kind d ps g (seen t)) (items_end x is n over) i) made
