use Rattle.std.proofs.Common.{◌≡◌, map, take, false}
use Rattle.qvt_cycle.proofs.search.no_marks.Given as goal

abbrev pub invariant-loop-object : goal.invariant-loop-object
invariant-loop-object l = l.marks ≡ map (λ x. false) (take l._object-index l.lists)
