pub mod Items
pub mod VisitLaw
pub mod VisitLoop
