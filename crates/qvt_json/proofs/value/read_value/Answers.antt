use Rattle.std.proofs.Common.{◌∙◌, ap, sym}
use Rattle.serde_json.specs.Read.{read}
use Rattle.qvt_json.proofs.Json.{no_json, json_of_text}
use Rattle.qvt_json.proofs.value.read_value.Goals as goal

pub returns-in_default : goal.returns-in_default
returns-in_default c = no_json c.args.bytes.now c.in_default.ensures.cases.0

pub returns-in-Ok-from_str : goal.returns-in-Ok-from_str
returns-in-Ok-from_str c = json_of_text c.args.bytes.now _ c.in-Ok.ensures.cases.1 (ap read (sym c.in-Ok.ensures.cases.0) ∙ c.in-Ok-from_str.ensures.ok)
