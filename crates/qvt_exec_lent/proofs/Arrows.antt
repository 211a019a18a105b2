-- An arrow goes over a collection as it stands.
use Rattle.std.proofs.Common.{◌≡◌, sym, ap, Bool, false, List}
use Rattle.qvt_value.specs.declared.value.Kind.{Kind}
use Rattle.qvt_value.specs.declared.value.Value.{Value}
use Rattle.qvt_value.specs.declared.value.Value.TheViews.{Coll}
use Rattle.qvt_run_rules.specs.Sources.{before_arrow}

pub as_it_stands : (wrap : Bool) (k own : Kind) (xs : List Value) → wrap ≡ false → Coll own xs ≡ before_arrow wrap k (Coll own xs)
as_it_stands wrap k own xs h = ap (λ b. before_arrow b k (Coll own xs)) (sym h)
