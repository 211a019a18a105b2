use Rattle.std.proofs.Common.{◌∙◌, sym}
use Rattle.qvt_lists_tests.proofs.Same.{all_same}
use Rattle.qvt_lists_tests.proofs.tests.lists.same_lines.Goals as goal

pub returns : goal.returns
returns c = (λ f. f, c.in_ok-same.ensures ∙ c.lines.ensures ∙ sym (all_same c.args.lists.now.lines))
