-- Resolves, under a closed relation.
use Rattle.std.proofs.Common.{List, Option, Some, None}
use Rattle.qvt_base.specs.declared.numbers.Oid.{Oid}
use Rattle.qvt_base.specs.declared.numbers.Place.{Place}
use Rattle.qvt_value.specs.declared.value.Value.{Value}
use Rattle.qvt_run_data.specs.declared.request.RequestForm.{RequestForm}
use Rattle.qvt_run_rules.specs.Sources.{sources_in}
use Rattle.qvt_run_rules.specs.Resolve as by
use Rattle.qvt_meaning.specs.Readings.{Setting}
use Rattle.qvt_meaning_laws.proofs.Closed.{Relation, Repeated, Closed}
use Rattle.qvt_meaning_laws.proofs.Parts.{on, ticks, looks, valids}

module _ {E F : Type 0} {R : Relation E F} {T : Repeated E F} {x : Setting E} {y : Setting F} (c : Closed E F R T x y) where
  sources : (at : Place) (v : Option Value) → R (Option (List Oid)) (by.sources_of at v) (by.sources_of at v)
  sources at None = c.gives (Option (List Oid)) None
  sources at (Some v) = on c (looks c (List Oid) (λ st. by.all_live st (sources_in v)) at) (λ os. c.gives (Option (List Oid)) (Some os))

  pub resolve_alone : (f : RequestForm) (at : Place) → R Value (by.resolve_alone x.spend (x.resolve at) f) (by.resolve_alone y.spend (y.resolve at) f)
  unfolding by.resolve_alone
  resolve_alone f at = ticks c (c.resolves at (by.query_of f None))

  pub resolve_step : (f : RequestForm) (at : Place) (v : Value) → R Value (by.resolve_step x.spend (x.resolve at) f at v) (by.resolve_step y.spend (y.resolve at) f at v)
  unfolding by.resolve_step
  resolve_step f at v = on c (valids c v) (λ w. ticks c (on c (sources at (Some w)) (λ os. c.resolves at (by.query_of f os))))
