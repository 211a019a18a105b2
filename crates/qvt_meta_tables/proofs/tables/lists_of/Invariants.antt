use Rattle.std.proofs.Common.{◌≡◌, ◌<◌, ℕ, [], length, slice_index_or}
use Rattle.std.specs.Prelude.{IsTrue, slice_index}
use Rattle.qvt_metamodel.specs.Metamodels.{features_of}
use Rattle.qvt_metamodel.specs.Lists.{all_lists}
use Rattle.qvt_meta_tables.specs.Placed.{AreNoted, HasJustOf}
use Rattle.qvt_meta_tables.specs.Tables.{of_classes}
use Rattle.qvt_meta_tables.proofs.tables.lists_of.Given as goal

abbrev pub invariant-loop-class : goal.invariant-loop-class
invariant-loop-class l = record {
  each : length (all_lists l.lists) ≡ length l.classes;
  done : (c : ℕ) → c < length l.classes → slice_index l.order.ranks c < l.class-index → slice_index_or (all_lists l.lists) c [] ≡ features_of (of_classes l.classes) c;
  seen : HasJustOf (all_lists l.lists) l.seen.class l.seen.first;
  noted : IsTrue l.placed.once → AreNoted (all_lists l.lists) l.placed.features;
}
