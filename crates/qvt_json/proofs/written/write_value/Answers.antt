use Rattle.std.proofs.Common.{◌∙◌, [], ◌∷◌, ◌++◌, ap}
use Rattle.serde_json.specs.View.{view}
use Rattle.qvt_json.specs.Plain.{file_text}
use Rattle.qvt_json.proofs.Utf8.{has_float-plain}
use Rattle.qvt_json.proofs.written.write_value.Goals as goal

pub returns-in-Ok-push : goal.returns-in-Ok-push
unfolding file_text
returns-in-Ok-push c =
    c.from_vec.ensures ∙ c.in-Ok-push.ensures.items ∙ ap (λ text. text ++ 10 ∷ []) (c.in-Ok.ensures.text (has_float-plain (view c.args.value.now) c.requires))
