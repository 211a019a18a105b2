use Rattle.std.proofs.Common.{◌≡◌, ℕ, length, min}
use Rattle.qvt_model.specs.IdTables.{id_in, with_room}
use Rattle.qvt_model.proofs.id_table.reach.Given as goal

abbrev pub invariant-loop-place : goal.invariant-loop-place
invariant-loop-place l = record {
  room : length l.ids.items ≡ l._place;
  same : (x : ℕ) → id_in l.ids.items x ≡ id_in l.fn.ids.items x;
  exact : l.ids.items ≡ with_room l.fn.ids.items (min l._place l.count);
}
