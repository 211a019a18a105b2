use Rattle.std.proofs.Common.{◌≤◌, length, sym, arith}
use Rattle.std.proofs.lemmas.Bool.{le-ltb}
use Rattle.qvt_exec_reads.proofs.Roots.{root_alone, root_dead, root_held}
use Rattle.qvt_exec_reads.proofs.models.is_root.Goals as goal

pub returns-then-at-len : goal.returns-then-at-len
returns-then-at-len c =
    let past : length c.args.store.now.objects ≤ c.args.object.0 = omega arith in
    sym (root_dead c.args.store.now c.args.object c.is_whole.ensures.typed (le-ltb c.args.object.0 (length c.args.store.now.objects) past))

pub returns-in-None : goal.returns-in-None
returns-in-None c = sym (root_alone c.args.store.now c.args.object (λ x k. let held = c.in-None.ensures.only x k in cc))

pub returns-in-Some : goal.returns-in-Some
returns-in-Some c = sym (root_held c.args.store.now c.args.object c.in-Some.field-0.0 c.in-Some.ensures.some)
