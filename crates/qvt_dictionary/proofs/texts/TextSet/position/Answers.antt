use Rattle.std.proofs.Common.{◌∙◌, ap, position}
use Rattle.std.specs.Str.{bytes_eq}
use Rattle.qvt_dictionary.proofs.TextSets.{position-texts}
use Rattle.qvt_dictionary.proofs.texts.TextSet.position.Goals as goal

pub returns : goal.returns
returns c = c.get_index_of.ensures.index ∙ position-texts c.args.text.now c.self.inside.keys.keys ∙ ap (position (bytes_eq c.args.text.now)) c.self.view_is
