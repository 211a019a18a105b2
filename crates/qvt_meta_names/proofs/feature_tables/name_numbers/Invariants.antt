use Rattle.std.proofs.Common.{◌≡◌, take}
use Rattle.qvt_meta_names.specs.Named.{numbers_of}
use Rattle.qvt_meta_names.proofs.feature_tables.name_numbers.Given as goal

abbrev pub invariant-loop-feature : goal.invariant-loop-feature
invariant-loop-feature l = l.numbers ≡ numbers_of l.table (take l.feature-index l.features)
