use Rattle.std.proofs.Common.{◌∙◌, length, ap, sym, subst, arith}
use Rattle.qvt_metas.specs.Search.{AreLive}
use Rattle.qvt_meta.proofs.Cyclic.{total, live}
use Rattle.qvt_meta.proofs.meta.classes_checked.Goals as goal

pub overflow_cast-count : goal.overflow_cast-count
overflow_cast-count c = omega (arith, c.in_ok-numbers.ensures.room.classes, ap length c.in_ok-numbers.ensures.classes, total c.args.meta, c.len-count.ensures)

pub tables_of-requires-clause-live : goal.tables_of-requires-clause-live
tables_of-requires-clause-live c = subst AreLive (sym (c.as_slice-2.ensures.value ∙ c.in_ok-numbers.ensures.classes)) (live c.args.meta)
