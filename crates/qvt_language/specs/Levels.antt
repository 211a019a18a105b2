-- What may go on after a chain of operands: what goes on after one operand, and the operators of its levels.
use Rattle.std.specs.Prelude.{ℕ, zero, suc, List, ◌++◌}
use Rattle.qvt_language.specs.Firsts.{post_next}
use Rattle.qvt_language.specs.Reading.{operators}

abbrev pub next_at : ℕ → List ℕ
next_at zero = post_next
next_at (suc k) = operators k ++ next_at k
