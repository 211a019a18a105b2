use Rattle.std.proofs.Common.{ap, arith}
use Rattle.qvt_slots.specs.declared.planned.SlotKey.{SlotKey}
use Rattle.qvt_slots.proofs.Keyed.{keys_more}
use Rattle.qvt_slots.proofs.planned.note_later.Goals as goal

pub returns-in-Ok-clause-ok : goal.returns-in-Ok-clause-ok
returns-in-Ok-clause-ok c = λ ws w l is so.
    keys_more c.args.later.now.keys c.insert.new.self.keys ws w c.args.key 8 so (omega (arith, l, c.if-count-lt-FEW.false)) (ap (λ (k : SlotKey). k.object) is) (ap (λ (k : SlotKey). k.feature) is) c.in-Ok.ensures.keys
