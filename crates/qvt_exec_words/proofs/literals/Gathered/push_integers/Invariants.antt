-- The Integers before this one were gathered.
use Rattle.qvt_exec_words.proofs.Ranges.{IsAlong}
use Rattle.qvt_exec_words.proofs.literals.Gathered.push_integers.Given as goal

abbrev pub invariant-loop-number : goal.invariant-loop-number
invariant-loop-number l = IsAlong l.first l.last l.number l.initial.self l.self
