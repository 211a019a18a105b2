use Rattle.std.proofs.Common.{◌∙◌, ap}
use Rattle.std.specs.Map.{lookup}
use Rattle.std.specs.Str.{bytes_eq}
use Rattle.qvt_meta_names.proofs.Tables.{lookup-last}
use Rattle.qvt_meta_given.proofs.named.add_first.Goals as goal

pub returns : goal.returns
returns c = λ other.
    ap (lookup (bytes_eq other)) c.in_ok-add.ensures.ok
    ∙ lookup-last (bytes_eq other) c.args.table.now c.args.name.now c.args.number
