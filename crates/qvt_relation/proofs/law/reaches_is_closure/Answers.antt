use Rattle.std.proofs.Common.{◌≡◌, true}
use Rattle.qvt_relation.proofs.Closures.{reaches_is_closure}
use Rattle.qvt_relation.proofs.law.reaches_is_closure.Goals as goal

pub returns : goal.returns
returns c = λ step n below x y. reaches_is_closure step (λ u v. step u v ≡ true) (record { sound = λ u v h. h; complete = λ u v h. h }) n (record { starts = below }) x y
