use Rattle.std.proofs.Common.{◌∙◌, ap, List, take_all}
use Rattle.std.specs.List.{flat_map}
use Rattle.qvt_types_nodes.specs.declared.types.TypedPathTree.{TypedPathTree}
use Rattle.qvt_meaning.specs.Nodes.{mappings_in}
use Rattle.qvt_meaning.specs.Program.{numbers}
use Rattle.qvt_exec_resolves.proofs.Named.{numbers_joined}
use Rattle.qvt_exec_resolves.proofs.units.named_by.Goals as goal

pub returns : goal.returns
returns c =
    c.loop-path.invariant
    ∙ ap (λ (ps : List TypedPathTree). flat_map (λ (path : TypedPathTree). numbers (mappings_in path.note.reading)) ps) (take_all c.loop-path.path-index c.args.paths.now c.loop-path-test.false)
    ∙ numbers_joined c.args.paths.now
