use Rattle.std.proofs.Common.{◌∙◌, ◌++◌, ◌∷◌, []}
use Rattle.qvt_rows.proofs.SetWords.{alone}
use Rattle.qvt_rows.proofs.below.row_of_one.Goals as goal

pub returns-clause-own : goal.returns-clause-own
returns-clause-own c = alone c.args.class c.push.new.self (c.in_ok-push.ensures.ok ∙ (λ i. c.in_ok-words.ensures i ++ c.bit_of.ensures i ∷ []))
