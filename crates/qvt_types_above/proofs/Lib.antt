pub mod SameShapes
pub mod Covered
pub mod Tellings
pub mod OwnTold
pub mod BoundsAsk
pub mod AsksTold
pub mod GatheredTold
pub mod TableTold
