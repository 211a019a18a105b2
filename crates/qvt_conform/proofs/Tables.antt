-- Slots entered into a table from the last to the first: the first of a feature counts.
use Rattle.std.proofs.Common.{◌≡◌, ◌∙◌, ℕ, ◌+◌, ◌≤◌, nat_eq, cond, List, [], ◌∷◌, length, drop, get_or, Bool, true, false, Bor, refl, sym, ap, arith}
use Rattle.std.specs.Prelude.{Some, unwrap_or, option_map, if◌then◌else◌}
use Rattle.std.specs.Map.{lookup}
use Rattle.std.proofs.lemmas.List.{at_drop_more, at_drop_all}
use Rattle.indexmap.specs.IndexMap.{IndexMap, get, IsEmpty, Updates}
use Rattle.qvt_model.specs.Items.{items_in}
use Rattle.qvt_model.specs.declared.data.Datum.{Datum}
use Rattle.qvt_model.specs.declared.data.SlotData.{SlotData}
use Rattle.qvt_conform.specs.declared.slots.SlotTable.{SlotTable}
use Rattle.qvt_conform.specs.Slots.{IsSlotTable}

abbrev pub items_at : {S : Type 0} → IndexMap ℕ (Bor SlotData) S → ℕ → List Datum
items_at m f = unwrap_or (option_map (λ t. t.now.items) (get nat_eq m f)) []

-- the table has what the slots from place `left` on hold
pub record HasFrom {S : Type 0} (m : IndexMap ℕ (Bor SlotData) S) (ts : List SlotData) (left : ℕ) : Type 0 where
  pub within : left ≤ length ts
  pub items : (f : ℕ) → items_at m f ≡ items_in f (drop left ts)

pub nothing_entered : {S : Type 0} (m : IndexMap ℕ (Bor SlotData) S) (ts : List SlotData) (left : ℕ) → left ≡ length ts → IsEmpty m → HasFrom m ts left
nothing_entered m ts left e none = record {
  within = omega (arith, e);
  items = λ f. ap (λ es. unwrap_or (option_map (λ (t : Bor SlotData). t.now.items) (lookup (nat_eq f) es)) []) none ∙ sym (at_drop_all (items_in f) ts left (omega (arith, e)));
}

pub one_entered : {S : Type 0} (m n : IndexMap ℕ (Bor SlotData) S) (ts : List SlotData) (more left : ℕ) (t : Bor SlotData) → more ≡ left + 1 → t.now ≡ get_or ts left t.now
    → Updates nat_eq m n t.now.feature.0 (Some t) → HasFrom m ts more → HasFrom n ts left
one_entered m n ts more left t e is new old = record {
  within = omega (arith, e, old.within);
  items = λ f. ap (λ o. unwrap_or (option_map (λ (s : Bor SlotData). s.now.items) o) []) (new.0 f)
      ∙ by f (nat_eq t.now.feature.0 f)
      ∙ ap (λ s. items_in f (s ∷ drop (left + 1) ts)) is
      ∙ sym (at_drop_more (items_in f) ts left t.now (omega (arith, e, old.within)));
}
  where
    by : (f : ℕ) (b : Bool) → unwrap_or (option_map (λ (s : Bor SlotData). s.now.items) (cond b (Some t) (get nat_eq m f))) [] ≡ (if b then t.now.items else items_in f (drop (left + 1) ts))
    by f true = refl
    by f false = old.items f ∙ ap (λ k. items_in f (drop k ts)) e

pub all_entered : (table : SlotTable) (ts : List SlotData) (left : ℕ) → left ≤ 0 → HasFrom table.slots ts left → IsSlotTable ts table
all_entered table ts left e from = record { items = λ f. from.items f ∙ ap (λ k. items_in f (drop k ts)) none }
  where
    none : left ≡ 0
    none = omega (arith, e)
