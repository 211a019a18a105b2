-- Whether a unit asks all that is told of others. A list has a guard: a unit that asks all that its units ask, and a class by which
-- they are bounded, where they are known.
use Rattle.std.specs.Prelude.{ℕ, ◌||◌, Bool, false, List, Option, Some, None, slice_index_or}
use Rattle.std.specs.List.{list_all}
use Rattle.qvt_base.specs.declared.numbers.ClassNo.{ClassNo}
use Rattle.qvt_metas.specs.Metamodels.{Metamodels}
use Rattle.qvt_types_groups.specs.declared.signature.Signature.{Signature}
use Rattle.qvt_types_above.specs.declared.asks.Guard.{Guard}
use Rattle.qvt_types_above.specs.Covers.{covers_at}
use Rattle.qvt_types_above.specs.Bounds.{asks_bounded}

abbrev pub Guards : Type 0
Guards = List Guard

abbrev pub no_guard : Guard
no_guard = record { unit = None; class = None }

abbrev pub guard_at : Guards → ℕ → Guard
guard_at guards s = slice_index_or guards s no_guard

abbrev pub asks_unit : Metamodels → List Signature → ℕ → Option ℕ → Bool
asks_unit m us n None = false
asks_unit m us n (Some g) = covers_at m us n g

abbrev pub asks_class : Metamodels → List Signature → ℕ → List ℕ → Option ClassNo → Bool
asks_class m us n ks None = false
asks_class m us n ks (Some e) = asks_bounded m us n ks e.0

abbrev pub asks_guard : Metamodels → List Signature → ℕ → List ℕ → Guard → Bool
asks_guard m us n ks g = asks_unit m us n g.unit || asks_class m us n ks g.class

abbrev pub asks_each : Metamodels → List Signature → ℕ → List ℕ → Bool
asks_each m us n ks = list_all (covers_at m us n) ks
