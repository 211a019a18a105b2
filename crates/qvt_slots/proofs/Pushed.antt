-- A value put last in a slot, or not.
use Rattle.std.proofs.Common.{◌≡◌, ℕ, ◌<◌, sym, ap, ◌∙◌, subst, List, length, get_or, set, cond, ◌==◌, inl, inr}
use Rattle.std.specs.Prelude.{slice_index_or, Result, Ok, Err, OnErr}
use Rattle.std.proofs.lemmas.List.{set-get_or}
use Rattle.std.proofs.lemmas.Bool.Decides.{Decides-eqb}
use Rattle.std.proofs.lemmas.Bool.{cases_eq, ne_eqb}
use Rattle.qvt_value.specs.declared.value.Value.{Value}
use Rattle.qvt_slots.specs.declared.cell.Cell.{Cell}
use Rattle.qvt_slots.specs.Cells.{instance_of, holder_at, IsSameCells, IsPut}
use Rattle.qvt_metas.specs.Metamodels.{Metamodels}
use Rattle.qvt_slots.proofs.Cells.{cell-holder}
use Rattle.qvt_slots.proofs.Holds.{hold_is}
use Rattle.qvt_slots.specs.Writes.{IsHeld}

get-same : {X : Type 0} (xs : List X) (i : ℕ) (x : X) → x ≡ get_or xs i x → set xs i x ≡ xs
get-same xs i x e = ap (λ y. set xs i y) e ∙ set-get_or xs i x

pub same_cells : (cells : List Cell) (o i : ℕ) (list : List Value) (cell k : Cell) → o < length cells → cell ≡ get_or cells o cell →
    list ≡ slice_index_or cell.slots.items i list → k.class.0 ≡ cell.class.0 → k.extent ≡ cell.extent → k.holder ≡ cell.holder → k.slots.items ≡ set cell.slots.items i list → IsSameCells cells (set cells o k)
same_cells cells o i list cell k live is same a b h e =
    let inst : instance_of k ≡ instance_of cell = λ j. record { class = a j; extent = b j; slots = (e ∙ get-same cell.slots.items i list same) j } in
    let r : IsHeld cells (set cells o k) o k.holder = hold_is cells o cell k live is inst in
    record {
      objects = r.objects;
      holders = λ y. r.holders y ∙ go y;
    }
  where
    go : (y : ℕ) → cond (y == o) k.holder (holder_at cells y) ≡ holder_at cells y
    go y = elim (cases_eq y o) [
      | inl q ↦ ap (λ t. cond t k.holder (holder_at cells y)) ((Decides-eqb y o).1 q) ∙ h ∙ sym (cell-holder cells o cell live is) ∙ ap (holder_at cells) (sym q)
      | inr n ↦ ap (λ t. cond t k.holder (holder_at cells y)) (ne_eqb y o n)
    ]

pub on_err : {T E P : Type 0} (r : Result T E) → P → OnErr r P
on_err (Ok x) p = tt
on_err (Err e) p = p

pub put_same : (m : Metamodels) (old new : List Cell) (o p : ℕ) (vs ws : List Value) → IsPut m old new o p vs → vs ≡ ws → IsPut m old new o p ws
put_same m old new o p vs ws put e = subst (λ (l : List Value). IsPut m old new o p l) e put
