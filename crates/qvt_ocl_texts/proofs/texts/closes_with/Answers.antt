use Rattle.std.proofs.lemmas.Str.Pattern.{ends_text}
use Rattle.qvt_ocl_texts.proofs.texts.closes_with.Goals as goal

pub returns : goal.returns
returns c = ends_text _ c.args.end.now c.args.text.now c.ends_with.ensures.cases
