-- A metamodel that was read: its data passed the checks, and beside it stands the same with numbers.
use Rattle.std.specs.Prelude.{◌≡◌}
use Rattle.qvt_metamodel.specs.Metamodels.{Metamodels}
use Rattle.qvt_metamodel.specs.MetaData.{MetaData}
use Rattle.qvt_metamodel.specs.Checked.{IsChecked}
use Rattle.qvt_metamodel.specs.Added.{numbered}

pub record IsMeta (d : MetaData) (alone : Metamodels) : Type 0 where
  pub checked : IsChecked d
  pub numbers : alone ≡ numbered d
