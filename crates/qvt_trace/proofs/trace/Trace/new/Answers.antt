use Rattle.qvt_trace.proofs.trace.Trace.new.Goals as goal

pub invariant_of-result : goal.invariant_of-result
invariant_of-result c = rw c.new.ensures (record { by_key = c.new-2.ensures; by_context = c.new-3.ensures; by_result = c.new-4.ensures })
