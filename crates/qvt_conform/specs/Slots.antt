-- The slots of an object, looked up by feature.
use Rattle.std.specs.Prelude.{◌≡◌, ℕ, nat_eq, List, [], unwrap_or, option_map}
use Rattle.indexmap.specs.IndexMap.{get}
use Rattle.qvt_model.specs.Items.{items_in}
use Rattle.qvt_model.specs.declared.data.Datum.{Datum}
use Rattle.qvt_model.specs.declared.data.SlotData.{SlotData}
use Rattle.qvt_conform.specs.declared.slots.SlotTable.{SlotTable}

-- what the table has for feature f
abbrev pub items_by : SlotTable → ℕ → List Datum
items_by table f = unwrap_or (option_map (λ t. t.now.items) (get nat_eq table.slots f)) []

pub record IsSlotTable (ts : List SlotData) (table : SlotTable) : Type 0 where
  pub items : (f : ℕ) → items_by table f ≡ items_in f ts
