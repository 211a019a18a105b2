use Rattle.qvt_types_data.proofs.PlainTypes.{plain, again}
use Rattle.qvt_types_laws.proofs.laws.types_are_plain_data.Goals as goal

pub returns : goal.returns
returns c = record { plain = plain; again = again }
