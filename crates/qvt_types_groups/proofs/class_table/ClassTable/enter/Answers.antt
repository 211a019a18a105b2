use Rattle.std.proofs.Common.{◌∙◌, ap}
use Rattle.std.specs.Map.{lookup}
use Rattle.qvt_meta_names.proofs.Tables.{lookup-last}
use Rattle.qvt_types_groups.specs.Keys.{same_key}
use Rattle.qvt_types_groups.proofs.class_table.ClassTable.enter.Goals as goal

pub returns : goal.returns
returns c = λ k. ap (lookup (same_key k)) c.in_ok-add.ensures ∙ lookup-last (same_key k) c.args.self.now c.args.key c.args.place
