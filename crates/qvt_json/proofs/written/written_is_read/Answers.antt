use Rattle.qvt_json.proofs.Back.{json-file_text}
use Rattle.qvt_json.proofs.written.written_is_read.Goals as goal

pub returns : goal.returns
returns c = json-file_text
