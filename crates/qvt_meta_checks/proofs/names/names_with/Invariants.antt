use Rattle.std.proofs.Common.{◌≡◌, ◌++◌, None, drop, map}
use Rattle.qvt_json.specs.Repeated.{repeated}
use Rattle.qvt_meta_checks.proofs.names.names_with.Given as goal

abbrev pub invariant-loop-item : goal.invariant-loop-item
invariant-loop-item g l = record {
  built : l.names ++ map g.T.WithName.name_of (drop l.item-index l.items) ≡ l.initial.names ++ map g.T.WithName.name_of l.items;
  fresh : repeated l.names (map g.T.WithName.name_of (drop l.item-index l.items)) ≡ None;
}
