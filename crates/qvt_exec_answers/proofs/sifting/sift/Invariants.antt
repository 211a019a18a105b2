use Rattle.std.proofs.Common.{◌≡◌, drop, []}
use Rattle.qvt_run_rules.specs.Resolve.{sifted}
use Rattle.qvt_exec_answers.specs.Weights.{test_of}
use Rattle.qvt_exec_answers.proofs.sifting.sift.Given as goal

abbrev pub invariant-loop-object : goal.invariant-loop-object
invariant-loop-object l =
    let test = test_of l.a l.store l.question in
    sifted test l.question.one l.done l.cost (drop l.object-index l.objects) ≡ sifted test l.question.one [] 0 l.objects
