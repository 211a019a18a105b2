use Rattle.std.proofs.Common.{◌≡◌, ◌∙◌, ◌+◌, sym, ap, length, nat_lt, false}
use Rattle.qvt_store.specs.Limits.{most_objects}
use Rattle.qvt_inputs.proofs.Faults.{conform_stops}
use Rattle.qvt_inputs.proofs.conforming.conforming.Goals as goal

pub returns-in-Err-clause-gives : goal.returns-in-Err-clause-gives
returns-in-Err-clause-gives c =
    let few : nat_lt most_objects (c.args.before + length c.args.model.objects) ≡ false =
    sym (c.are_too_many.ensures ∙ ap (λ n. nat_lt most_objects (c.args.before + n)) c.len-count.ensures) ∙ c.if-are_too_many.false in
    conform_stops c.args.metas.now c.args.before c.args.name.now c.args.model.objects c.in-Err.why c.conform_stop.result few c.conform_stop.ensures.stop c.in-Err.ensures
