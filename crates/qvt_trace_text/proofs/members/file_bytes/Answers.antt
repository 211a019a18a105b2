use Rattle.std.proofs.Common.{◌∙◌, [], ◌∷◌, ◌++◌, ap}
use Rattle.qvt_json.specs.Plain.{file_text}
use Rattle.qvt_trace_text.proofs.members.file_bytes.Goals as goal

pub returns-in-Ok-push : goal.returns-in-Ok-push
unfolding file_text
returns-in-Ok-push c = c.from_vec.ensures ∙ c.in-Ok-push.ensures.items ∙ ap (λ text. text ++ 10 ∷ []) (c.in-Ok.ensures.text c.requires)
