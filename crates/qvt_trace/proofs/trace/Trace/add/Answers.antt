use Rattle.std.proofs.Common.{◌∙◌, ap, nat_eq, refl}
use Rattle.qvt_trace.specs.Hashes.{key_hash}
use Rattle.qvt_trace.specs.Indexed.{is_end}
use Rattle.qvt_trace.proofs.Indexed.{noted}
use Rattle.qvt_trace.proofs.trace.Trace.add.Goals as goal

pub invariant_of-self-in_err-ready-2 : goal.invariant_of-self-in_err-ready-2
invariant_of-self-in_err-ready-2 c = record {
  by_key = λ k. c.ready.ensures.same k ∙ c.self.invariant.by_key k;
  by_context = λ k. c.ready-2.ensures.same k ∙ c.self.invariant.by_context k;
  by_result = c.self.invariant.by_result;
}

pub invariant_of-self-in_err-ready-3 : goal.invariant_of-self-in_err-ready-3
invariant_of-self-in_err-ready-3 c = record {
  by_key = λ k. c.ready.ensures.same k ∙ c.self.invariant.by_key k;
  by_context = λ k. c.ready-2.ensures.same k ∙ c.self.invariant.by_context k;
  by_result = λ k. c.ready-3.ensures.same k ∙ c.self.invariant.by_result k;
}

pub invariant_of-self-in_err-push : goal.invariant_of-self-in_err-push
invariant_of-self-in_err-push c = rw c.in_err-push.ensures.err (record {
  by_key = λ k. c.ready.ensures.same k ∙ c.self.invariant.by_key k;
  by_context = λ k. c.ready-2.ensures.same k ∙ c.self.invariant.by_context k;
  by_result = λ k. c.ready-3.ensures.same k ∙ c.self.invariant.by_result k;
})

pub invariant_of-self-2 : goal.invariant_of-self-2
invariant_of-self-2 c = rw c.in_ok-push.ensures.ok (record {
  by_key = noted nat_eq (λ r. key_hash r.mapping r.context r.args) c.ready.new.self c.note.new.self c.self.inside.records c.args.item c.key_hash-hash.result c.len-number.result (c.key_hash-hash.ensures ∙ ap (key_hash c.args.item.mapping c.args.item.context) c.as_slice.ensures) c.len-number.ensures (λ k. c.ready.ensures.same k ∙ c.self.invariant.by_key k) c.note.ensures;
  by_context = noted is_end (λ r. r.context) c.ready-2.new.self c.note-2.new.self c.self.inside.records c.args.item c.args.item.context c.len-number.result refl c.len-number.ensures (λ k. c.ready-2.ensures.same k ∙ c.self.invariant.by_context k) c.note-2.ensures;
  by_result = noted is_end (λ r. r.result) c.ready-3.new.self c.note-3.new.self c.self.inside.records c.args.item c.args.item.result c.len-number.result refl c.len-number.ensures (λ k. c.ready-3.ensures.same k ∙ c.self.invariant.by_result k) c.note-3.ensures;
})
