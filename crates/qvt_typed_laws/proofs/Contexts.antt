-- What has types where a node stands: the heads of units, properties, `self` and `result`.
use Rattle.std.proofs.Common.{◌≡◌, ℕ, true, false}
use Rattle.qvt_types_classes.specs.Classes.{is_typed}
use Rattle.qvt_types_units.specs.Choice.{is_unknown}
use Rattle.qvt_types_units.specs.Numbers.{unit_at}
use Rattle.qvt_types_units.specs.declared.signature.Signature.{Signature}
use Rattle.qvt_typing.specs.Context.{TypingContext, DeclaredHeads}
use Rattle.qvt_typed_laws.proofs.Keeps.{SomeTy}
use Rattle.qvt_typed_laws.proofs.Solid.{Typed}

pub record TypedUnit (u : Signature) : Type 0 where
  pub context : is_unknown u.context ≡ false
  pub answer : SomeTy u.answer
  pub result : is_unknown u.result ≡ false

pub record TypedHeads (h : DeclaredHeads) : Type 0 where
  pub properties : (f : ℕ) → is_typed h.first h.flags f ≡ true
  pub units : (n : ℕ) → TypedUnit (unit_at h.units n)

pub record TypedContext (x : TypingContext) : Type 0 where
  pub heads : TypedHeads x.heads
  pub self : Typed x.self
  pub result : Typed x.result
