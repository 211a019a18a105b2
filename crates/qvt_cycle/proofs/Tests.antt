-- Tests that crates above use.
pub use Rattle.qvt_relation.proofs.Bools.{same_test, or_cases, either, not_true, clash}
