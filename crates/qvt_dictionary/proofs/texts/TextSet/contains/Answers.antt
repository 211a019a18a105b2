use Rattle.std.proofs.Common.{◌∙◌, ap}
use Rattle.std.specs.List.{list_any}
use Rattle.std.specs.Str.{bytes_eq}
use Rattle.qvt_dictionary.proofs.TextSets.{any-texts}
use Rattle.qvt_dictionary.proofs.texts.TextSet.contains.Goals as goal

pub returns : goal.returns
returns c = c.contains.ensures ∙ any-texts c.args.text.now c.self.inside.keys.keys ∙ ap (list_any (bytes_eq c.args.text.now)) c.self.view_is
