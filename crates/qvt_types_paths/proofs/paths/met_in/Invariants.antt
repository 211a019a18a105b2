use Rattle.std.proofs.Common.{◌≡◌, drop}
use Rattle.qvt_types_paths.specs.Paths.{met_in}
use Rattle.qvt_types_paths.proofs.paths.met_in.Given as goal

abbrev pub invariant-loop-metamodel : goal.invariant-loop-metamodel
invariant-loop-metamodel l = met_in l.metas l.name l.met (drop l.metamodel-index l.used) ≡ met_in l.metas l.name l.initial.met l.used
