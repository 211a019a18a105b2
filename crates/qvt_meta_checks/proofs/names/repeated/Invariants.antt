use Rattle.std.proofs.Common.{◌≡◌, drop, map}
use Rattle.qvt_json.specs.Repeated.{repeated}
use Rattle.qvt_meta_checks.proofs.names.repeated.Given as goal

abbrev pub invariant-loop-item : goal.invariant-loop-item
invariant-loop-item g l = repeated l.taken (map g.T.WithName.name_of (drop l.item-index l.items)) ≡ repeated l.initial.taken (map g.T.WithName.name_of l.items)
