-- Tables of ids that grow.
use Rattle.std.proofs.Common.{◌≡◌, ℕ, zero, suc, ◌+◌, ◌<◌, ◌≤◌, ◌==◌, cond, refl, sym, ap, ◌∙◌, List, [], ◌∷◌, ◌++◌, length, set, replicate, min, ◌-◌, append-nil, append_assoc, inl, inr, arith}
use Rattle.std.specs.Prelude.{Option, Some, None}
use Rattle.std.proofs.lemmas.Bool.{cases_eq, eq-eqb, ne_eqb}
use Rattle.std.proofs.lemmas.List.{get_or-set_same, get_or-set_other, replicate_more}
use Rattle.qvt_model.specs.IdTables.{id_in, with_room}

pub no_id_pushed : (table : List (Option (List ℕ))) (x : ℕ) → id_in (table ++ None ∷ []) x ≡ id_in table x
no_id_pushed [] zero = refl
no_id_pushed [] (suc x) = refl
no_id_pushed (t ∷ table) zero = refl
no_id_pushed (t ∷ table) (suc x) = no_id_pushed table x

pub id_set : (table : List (Option (List ℕ))) (at : ℕ) (id : List ℕ) (x : ℕ) → at < length table → id_in (set table at (Some id)) x ≡ cond (x == at) (Some id) (id_in table x)
id_set table at id x h = elim (cases_eq x at) [
  | inl e ↦ ap (id_in (set table at (Some id))) e ∙ get_or-set_same table at (Some id) None h ∙ sym (ap (λ b. cond b (Some id) (id_in table x)) (eq-eqb x at e))
  | inr n ↦ get_or-set_other table at x (Some id) None n ∙ sym (ap (λ b. cond b (Some id) (id_in table x)) (ne_eqb x at n))
]

-- room as the table grows
pub room_none : (table : List (Option (List ℕ))) (count : ℕ) → table ≡ with_room table (min (length table) count)
room_none table count = sym (ap (λ n. table ++ replicate n None) (let none : min (length table) count - length table ≡ 0 = omega arith in none) ∙ append-nil table)

pub room_more : (table : List (Option (List ℕ))) (place count : ℕ) → length table ≤ place → place < count
    → with_room table (min place count) ++ None ∷ [] ≡ with_room table (min (place + 1) count)
room_more table place count before less =
    append_assoc table (replicate (min place count - length table) None) (None ∷ [])
    ∙ ap (λ (t : List (Option (List ℕ))). table ++ t) (replicate_more (min place count - length table) None)
    ∙ ap (λ n. table ++ replicate n None) (omega arith)

pub room_enough : (table : List (Option (List ℕ))) (place count : ℕ) → count ≤ place → with_room table (min place count) ≡ with_room table count
room_enough table place count most = ap (with_room table) (omega arith)
