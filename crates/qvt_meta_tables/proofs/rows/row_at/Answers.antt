use Rattle.std.proofs.Common.{◌<◌, ◌∙◌, ap, arith, length, get_or, ◌==◌, ◌||◌}
use Rattle.std.proofs.lemmas.List.{get_or_default}
use Rattle.qvt_metamodel.specs.declared.row.Row.{Row}
use Rattle.qvt_metamodel.specs.Kept.{is_marked, no_row}
use Rattle.qvt_meta_tables.proofs.Marks.{marks_next, live_at}
use Rattle.qvt_meta_tables.proofs.rows.row_at.Goals as goal

pub loop-superclass-preserved : goal.loop-superclass-preserved
loop-superclass-preserved c =
    let turn : c.loop-superclass.superclass-index < length c.args.supers.now = omega (arith, c.loop-superclass-test.true) in
    let live : (get_or c.args.supers.now c.loop-superclass.superclass-index (record { 0 = 0 })).0 < c.args.bound = live_at c.args.bound c.args.supers.now c.loop-superclass.superclass-index (record { 0 = 0 }) c.requires.live turn in
    record {
      marks = marks_next c.args.rows.now.items c.loop-superclass.row c.in_ok-row.row c.args.supers.now c.loop-superclass.superclass-index (record { 0 = 0 }) turn
          (λ d. c.in_ok-row.ensures.marks d
          ∙ ap (λ (r : Row). is_marked c.loop-superclass.row d || ((get_or c.args.supers.now c.loop-superclass.superclass-index (record { 0 = 0 })).0 == d) || is_marked r d)
          (c.index.ensures ∙ get_or_default c.args.rows.now.items (get_or c.args.supers.now c.loop-superclass.superclass-index (record { 0 = 0 })).0 c.index.result.now no_row (omega (arith, live, c.requires.count))))
          c.loop-superclass.invariant.marks;
      within = c.in_ok-row.ensures.within;
    }
