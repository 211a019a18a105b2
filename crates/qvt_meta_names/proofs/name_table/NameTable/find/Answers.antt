use Rattle.std.proofs.Common.{◌∙◌, ap}
use Rattle.std.specs.Map.{lookup}
use Rattle.std.specs.Str.{bytes_eq}
use Rattle.qvt_meta_names.proofs.Tables.{lookup-named}
use Rattle.qvt_meta_names.proofs.name_table.NameTable.find.Goals as goal

pub returns : goal.returns
returns c = c.copied.ensures ∙ c.get.ensures.value ∙ lookup-named c.args.name.now c.self.inside.numbers.entries ∙ ap (lookup (bytes_eq c.args.name.now)) c.self.view_is
