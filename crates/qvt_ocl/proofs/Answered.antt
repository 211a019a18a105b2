-- Answers of collections as made.
use Rattle.std.proofs.Common.{◌≡◌, List, subst}
use Rattle.std.specs.Prelude.{All, IfOk, IfSome, Option, Result, Ok, Err}
use Rattle.qvt_base.specs.declared.numbers.Place.{Place}
use Rattle.qvt_value.specs.declared.value.Value.{Value}
use Rattle.qvt_value.specs.declared.value.Value.TheViews.{Coll}
use Rattle.qvt_value.specs.declared.value.Kind.{Kind}
use Rattle.qvt_value.specs.Make.{made}
use Rattle.qvt_ocl_words.specs.declared.op.Op.{Op}
use Rattle.qvt_ocl_words.specs.Operation.{operation}
use Rattle.qvt_ocl_made.specs.AsMade.{IsAsMade}
use Rattle.qvt_ocl_made.proofs.Collections.{parts}
use Rattle.qvt_ocl_made.proofs.Operations.{answer_is}
use Rattle.qvt_ocl.specs.Applied.{IsApplied}
use Rattle.qvt_ocl.specs.declared.fault.OclFault.{OclFault}

pub list_of : (k : Kind) (xs : List Value) → IsAsMade (Coll k xs) → made k xs ≡ xs
list_of k xs h = (parts k xs h).0

pub list_in : (v : Value) (k : Kind) (xs : List Value) → IsAsMade v → v ≡ Coll k xs → made k xs ≡ xs
list_in v k xs h e = list_of k xs (subst IsAsMade e h)

told_of : (o : Option Value) (r : Result Value OclFault) → IsApplied o r → IfSome o IsAsMade → IfOk r IsAsMade
told_of o (Ok w) a g = subst (λ p. IfSome p IsAsMade) a g
told_of o (Err f) a g = tt

pub answer_of : (op : Op) (at : Place) (v : Value) (vs : List Value) (r : Result Value OclFault) → IsApplied (operation op at v vs) r → IsAsMade v → All IsAsMade vs → IfOk r IsAsMade
answer_of op at v vs r a p q = told_of (operation op at v vs) r a (answer_is op at v vs p q)
