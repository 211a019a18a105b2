-- A word of logic says nothing of two values of which one is not logical.
use Rattle.std.proofs.Common.{◌≡◌, ◌&&◌, false, refl, ap}
use Rattle.std.specs.Prelude.{Option, Some, None, if◌then◌else◌}
use Rattle.qvt_tree_types.specs.declared.words.BinaryOp.{BinaryOp}
use Rattle.qvt_value.specs.declared.value.Value.{Value}
use Rattle.qvt_run_rules.specs.Logic.{is_logical, word_of, worded}

none : (o : Option (Value → Value → Value)) (v w : Value) → (is_logical v && is_logical w) ≡ false → worded o v w ≡ None
none None v w h = refl
none (Some f) v w h = ap (λ b. if b then Some (f v w) else None) h

pub not_both : (o : BinaryOp) (v w : Value) → (is_logical v && is_logical w) ≡ false → worded (word_of o) v w ≡ None
not_both o v w h = none (word_of o) v w h
