use Rattle.qvt_rows.proofs.SetWords.{bit_of_rest}
use Rattle.qvt_rows.proofs.sets.word_without.Goals as goal

pub returns : goal.returns
returns c = λ k l. bit_of_rest c.args.one c.args.other k c.ranges.other.fits l
