use Rattle.std.proofs.Common.{◌≡◌, take}
use Rattle.std.specs.List.{flat_map}
use Rattle.qvt_types_nodes.specs.declared.types.TypedPathTree.{TypedPathTree}
use Rattle.qvt_meaning.specs.Nodes.{mappings_in}
use Rattle.qvt_meaning.specs.Program.{numbers}
use Rattle.qvt_exec_resolves.proofs.units.named_by.Given as goal

abbrev pub invariant-loop-path : goal.invariant-loop-path
invariant-loop-path l = l.all ≡ flat_map (λ (path : TypedPathTree). numbers (mappings_in path.note.reading)) (take l.path-index l.paths)
