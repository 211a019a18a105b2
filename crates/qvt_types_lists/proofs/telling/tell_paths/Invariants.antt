use Rattle.std.proofs.Common.{◌≡◌, ◌++◌, take}
use Rattle.qvt_types_groups.specs.Reuse.{paths_told}
use Rattle.qvt_types_lists.proofs.telling.tell_paths.Given as goal

abbrev pub invariant-loop-path : goal.invariant-loop-path
invariant-loop-path l = l.log ≡ l.initial.log ++ paths_told l.listing.given.now l.listing.metas.now l.listing.names.now l.listing.units.now l.how l.unit (take l.path-index l.paths)
