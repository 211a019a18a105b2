use Rattle.std.proofs.Common.{◌≡◌, drop, length}
use Rattle.qvt_types_above.specs.Tells.{AsksClasses, AreGuarded}
use Rattle.qvt_types_above.proofs.asks.asks_classes.Given as goal

abbrev pub invariant-loop-class : goal.invariant-loop-class
invariant-loop-class l = record {
  asks : AsksClasses l.metas l.units l.lists l.row l.number (drop l.class-index l.classes) → AsksClasses l.metas l.units l.lists l.row l.number l.classes;
  guards : AreGuarded l.metas l.units l.lists l.guards;
  each : length l.guards ≡ length l.fn.guards;
}
