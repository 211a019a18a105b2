-- What well formed metamodels keep beside their numbers, opposites and names.
use Rattle.qvt_metamodel.specs.Metamodels.{Metamodels}
use Rattle.qvt_metamodel.specs.WellFormed.{IsWellFormed, IsRegular, Regular}

pub regular_of : (m : Metamodels) → IsWellFormed m → IsRegular m
unfolding Regular
regular_of m well = well.regular

pub regular : (m : Metamodels) → IsRegular m → Regular m
unfolding Regular
regular m is = is
