-- The first variable of a name, and its place.
use Rattle.std.proofs.Common.{◌≡◌, ◌∙◌, ◌<◌, ◌≤◌, ◌+◌, ℕ, suc, zero, Bool, true, false, cond, not, refl, sym, ap, subst, List, [], ◌∷◌, length, get_or, Option, Some, None, Result, Ok, Err, slice_get, slice_set, if◌then◌else◌, arith}
use Rattle.std.specs.List.{position_or_len}
use Rattle.std.specs.Str.{bytes_eq}
use Rattle.std.proofs.lemmas.Grind.{common_steps}
use Rattle.std.proofs.lemmas.List.Quantifiers.{position-Some}
use Rattle.std.proofs.lemmas.Option.{get_or_from_slice_get}
use Rattle.std.proofs.lemmas.Slice.Eq.{bytes_eq-Decides}
use Rattle.qvt_base.specs.declared.numbers.Place.{Place}
use Rattle.qvt_types_data.specs.declared.ty.Ty.{Ty}
use Rattle.qvt_value.specs.declared.value.Value.{Value, Null, Invalid}
use Rattle.qvt_run_data.specs.declared.exit.End.TheVariants.{Fault}
use Rattle.qvt_run_data.specs.declared.exit.Exit.TheVariants.{Ends}
use Rattle.qvt_run_data.specs.declared.exit.Halt.{Halt}
use Rattle.qvt_run_data.specs.declared.exit.Halt.TheVariants.{Exits}
use Rattle.qvt_run_data.specs.declared.fault.RunFault.TheVariants.{TypeFault}
use Rattle.qvt_run_data.specs.declared.late.LateWrite.{LateWrite}
use Rattle.qvt_run_data.specs.declared.local.Local.{Local}
use Rattle.qvt_run_rules.specs.State.{State, Done, ◌>>=◌, found, on_outcome, misfit, turn_to}
use Rattle.qvt_run_rules.specs.Typed.{asked, has_asked, valid}
use Rattle.qvt_run_rules.specs.Locals.{local, local_named, place_in, read_local, set, set_as, set_local, set_place}
use Rattle.qvt_run_rules.specs.Statements.{added, added_as, collection_type}
use Rattle.qvt_exec_state.specs.Runs.{Runs, seen}
use Rattle.qvt_exec_state.specs.declared.state.RunState.{RunState}
use Rattle.qvt_exec_moves.specs.Moves.{add_there, added_on, set_there}

abbrev is_named : List ℕ → Local → Bool
is_named name v = bytes_eq name v.name

-- what stands past the end
nobody : Local
nobody = record { name = []; asked = None; value = Null }

named_at : (name : List ℕ) (vs : List Local) (k : ℕ) (d : Local) → k < length vs → is_named name (get_or vs k d) ≡ true → ((j : ℕ) → j < k → is_named name (get_or vs j d) ≡ false) →
    local_named name vs ≡ slice_get vs k
named_at name [] k d inside is before = absurd (omega (arith, inside))
named_at name (v ∷ vs) zero d inside is before = ap (λ b. if b then Some v else local_named name vs) is
named_at name (v ∷ vs) (suc k) d inside is before =
    ap (λ b. if b then Some v else local_named name vs) (before 0 (omega arith))
    ∙ named_at name vs k d (omega (arith, inside)) is (λ j h. before (suc j) (omega (arith, h)))

-- the variable that is found stands where the place says
pub known : (name : List ℕ) (vs : List Local) (k : ℕ) → place_in name vs ≡ Some k → local_named name vs ≡ slice_get vs k
known name vs k h = let there = position-Some (is_named name) vs k nobody h in named_at name vs k nobody there.0 there.1 there.2

none_named : (name : List ℕ) (vs : List Local) → length vs ≤ position_or_len (is_named name) vs → local_named name vs ≡ None
none_named name [] h = refl
none_named name (v ∷ vs) h = by (is_named name v) (none_named name vs) h
  where
    by : (b : Bool) → (length vs ≤ position_or_len (is_named name) vs → local_named name vs ≡ None) → suc (length vs) ≤ cond (not b) (1 + position_or_len (is_named name) vs) 0 →
        (if b then Some v else local_named name vs) ≡ None
    by true rest k = absurd (omega (arith, k))
    by false rest k = rest (omega (arith, k))

pub unknown : (name : List ℕ) (vs : List Local) → place_in name vs ≡ None → local_named name vs ≡ None
unknown name vs h = let past : length vs ≤ position_or_len (is_named name) vs = grind (arith, common_steps) in none_named name vs past

-- it is also the first with its own name
renamed : (name : List ℕ) (vs : List Local) (k : ℕ) (old : Local) → place_in name vs ≡ Some k → slice_get vs k ≡ Some old → place_in old.name vs ≡ Some k
renamed name vs k old h e =
    let one : is_named name (get_or vs k nobody) ≡ true = (position-Some (is_named name) vs k nobody h).1 in
    let same : name ≡ old.name = (bytes_eq-Decides name old.name).0 (subst (λ (l : Local). is_named name l ≡ true) (get_or_from_slice_get vs k old nobody e) one) in
    subst (λ (n : List ℕ). place_in n vs ≡ Some k) same h

set_at : (name : List ℕ) (vs : List Local) (k : ℕ) (old : Local) (w : Value) → place_in name vs ≡ Some k → slice_get vs k ≡ Some old →
    set_local (local old.name old.asked w) vs ≡ slice_set vs k (local old.name old.asked w)
unfolding set_local
set_at name vs k old w h e = ap (λ o. set_place o (local old.name old.asked w) vs) (renamed name vs k old h e)

-- what follows the look for a variable
abbrev then_sets : Value → Place → Option Local → State LateWrite → Done LateWrite (Unit {0})
then_sets v at o s = on_outcome (found o at s).0 (found o at s).1 (λ old. set_as old v at)

abbrev then_sets_at : ℕ → Value → Place → Option Local → State LateWrite → Done LateWrite (Unit {0})
then_sets_at k v at o s = on_outcome (found o at s).0 (found o at s).1
    (λ old. asked old.asked at v >>= (λ w. turn_to (λ t. record t { locals = slice_set t.locals k (local old.name old.asked w) })))

pub set_known : (name : List ℕ) (v : Value) (at : Place) (k : ℕ) (s : State LateWrite) → place_in name s.locals ≡ Some k → set name v at s ≡ set_there k v at s
unfolding set read_local
set_known name v at k s h = ap (λ o. then_sets v at o s) (known name s.locals k h) ∙ on (slice_get s.locals k) refl
  where
    passed : (old : Local) → slice_get s.locals k ≡ Some old → (b : Bool) →
        on_outcome (found (if b then Some v else None) at s).0 (found (if b then Some v else None) at s).1 (λ w. turn_to (λ t. record t { locals = set_local (local old.name old.asked w) t.locals }))
        ≡ on_outcome (found (if b then Some v else None) at s).0 (found (if b then Some v else None) at s).1 (λ w. turn_to (λ t. record t { locals = slice_set t.locals k (local old.name old.asked w) }))
    passed old e true = ap (λ (ls : List Local). (Ok tt, record s { locals = ls })) (set_at name s.locals k old v h e)
    passed old e false = refl

    on : (o : Option Local) → slice_get s.locals k ≡ o → then_sets v at o s ≡ then_sets_at k v at o s
    on None e = refl
    on (Some old) e = passed old e (has_asked s.store old.asked v)

pub set_unknown : (name : List ℕ) (v : Value) (at : Place) (s : State LateWrite) → place_in name s.locals ≡ None → set name v at s ≡ misfit at s
unfolding set read_local
set_unknown name v at s h = ap (λ o. then_sets v at o s) (unknown name s.locals h)

pub by_place : (name : List ℕ) (v : Value) (at : Place) (k : ℕ) (s : State LateWrite) (r : Result (Unit {0}) Halt) (t : RunState) →
    Some k ≡ place_in name s.locals → Runs (set_there k v at s) r t → Runs (set name v at s) r t
by_place name v at k s r t there runs = subst (λ (d : Done LateWrite (Unit {0})). Runs d r t) (sym (set_known name v at k s (sym there))) runs

pub without_place : (name : List ℕ) (v : Value) (at : Place) (s : RunState) (r : Result (Unit {0}) Halt) →
    None ≡ place_in name s.locals → r ≡ Err (Exits (Ends (Fault TypeFault at))) → Runs (set name v at (seen s)) r s
without_place name v at s r there is = subst (λ (x : Result (Unit {0}) Halt). Runs (set name v at (seen s)) x s) (sym is) (set_unknown name v at (seen s) (sym there))

-- `+=` to a variable is `+=` to the one at its place
pub added_known : (name : List ℕ) (u : Option Ty) (v : Value) (at : Place) (k : ℕ) (s : State LateWrite) → place_in name s.locals ≡ Some k → added_on name u v at s ≡ add_there k u v at s
unfolding read_local
added_known name u v at k s h = ap (λ (o : Option Local). on_outcome (found o at s).0 (found o at s).1 (λ old. added old u v at >>= valid >>= (λ w. set name w at))) (known name s.locals k h) ∙ on (slice_get s.locals k)
  where
    on_valid : (w : Value) → on_outcome (valid w s).0 (valid w s).1 (λ x. set name x at) ≡ on_outcome (valid w s).0 (valid w s).1 (λ x. set_there k x at)
    on_valid (Invalid r p) = refl
    on_valid w = set_known name w at k s h

    on_sum : (o : Option Value) →
        on_outcome (on_outcome (found o at s).0 (found o at s).1 valid).0 (on_outcome (found o at s).0 (found o at s).1 valid).1 (λ x. set name x at)
        ≡ on_outcome (on_outcome (found o at s).0 (found o at s).1 valid).0 (on_outcome (found o at s).0 (found o at s).1 valid).1 (λ x. set_there k x at)
    on_sum None = refl
    on_sum (Some w) = on_valid w

    on : (o : Option Local) →
        on_outcome (found o at s).0 (found o at s).1 (λ old. added old u v at >>= valid >>= (λ w. set name w at))
        ≡ on_outcome (on_outcome (found o at s).0 (found o at s).1 (λ old. added old u v at >>= valid)).0 (on_outcome (found o at s).0 (found o at s).1 (λ old. added old u v at >>= valid)).1 (λ w. set_there k w at)
    on None = refl
    on (Some old) = on_sum (added_as s.store at (collection_type old.asked) (collection_type u) old.value v)

pub added_by_place : (name : List ℕ) (u : Option Ty) (v : Value) (at : Place) (k : ℕ) (s : State LateWrite) (r : Result (Unit {0}) Halt) (t : RunState) →
    Some k ≡ place_in name s.locals → Runs (add_there k u v at s) r t → Runs (added_on name u v at s) r t
added_by_place name u v at k s r t there runs = subst (λ (d : Done LateWrite (Unit {0})). Runs d r t) (sym (added_known name u v at k s (sym there))) runs

added_unknown : (name : List ℕ) (u : Option Ty) (v : Value) (at : Place) (s : State LateWrite) → place_in name s.locals ≡ None → added_on name u v at s ≡ misfit at s
unfolding read_local
added_unknown name u v at s h = ap (λ (o : Option Local). on_outcome (found o at s).0 (found o at s).1 (λ old. added old u v at >>= valid >>= (λ w. set name w at))) (unknown name s.locals h)

pub added_without_place : (name : List ℕ) (u : Option Ty) (v : Value) (at : Place) (s : RunState) (r : Result (Unit {0}) Halt) →
    None ≡ place_in name s.locals → r ≡ Err (Exits (Ends (Fault TypeFault at))) → Runs (added_on name u v at (seen s)) r s
added_without_place name u v at s r there is = subst (λ (x : Result (Unit {0}) Halt). Runs (added_on name u v at (seen s)) x s) (sym is) (added_unknown name u v at (seen s) (sym there))
