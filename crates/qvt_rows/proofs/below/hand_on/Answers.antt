use Rattle.std.proofs.Common.{◌∙◌, ℕ, ◌<◌, ◌||◌, get_or, set, length, ap, sym, subst, arith, rules}
use Rattle.std.proofs.lemmas.List.{get_or_default, length-set, take_all}
use Rattle.qvt_metamodel.specs.declared.row.Row.{Row}
use Rattle.qvt_metamodel.specs.Kept.{is_marked, no_row}
use Rattle.qvt_meta_tables.specs.Tables.{EndsWithin}
use Rattle.qvt_metamodel.proofs.Bools.{ap2}
use Rattle.qvt_meta_tables.proofs.Marks.{within_next}
use Rattle.qvt_rows.specs.Sets.{handed_on}
use Rattle.qvt_rows.proofs.Handed.{are_there, handed_next, handed_back}
use Rattle.qvt_rows.proofs.below.hand_on.Goals as goal

pub unite-requires-clause-row : goal.unite-requires-clause-row
unite-requires-clause-row c =
    let there = are_there c.args.classes.now c.args.bound c.args.class c.supers_at-supers.result.now c.loop-superclass.superclass-index c.requires.classes c.supers_at-supers.ensures c.requires.live c.loop-superclass-test.true in
    subst (EndsWithin c.args.bound) (sym (c.index_mut.ensures.value ∙ get_or_default c.loop-superclass.rows.items _ c.index_mut.result.now no_row (omega (arith, there.0, c.loop-superclass.invariant.each)))) (c.loop-superclass.invariant.within _)

pub loop-superclass-preserved : goal.loop-superclass-preserved
loop-superclass-preserved c =
    let there = are_there c.args.classes.now c.args.bound c.args.class c.supers_at-supers.result.now c.loop-superclass.superclass-index c.requires.classes c.supers_at-supers.ensures c.requires.live c.loop-superclass-test.true in
    let super : ℕ = (get_or c.supers_at-supers.result.now c.loop-superclass.superclass-index (record { 0 = 0 })).0 in
    let live : super < length c.loop-superclass.rows.items = omega (arith, there.0, c.loop-superclass.invariant.each) in
    record {
      each = length-set c.loop-superclass.rows.items super c.unite.new.row ∙ c.loop-superclass.invariant.each;
      within = within_next c.args.bound c.loop-superclass.rows.items super c.unite.new.row c.loop-superclass.invariant.within c.in_ok-unite.ensures.within c.loop-superclass.invariant.each;
      marks = handed_next c.args.rows.now.items c.loop-superclass.rows.items c.unite.new.row c.args.class c.supers_at-supers.result.now c.loop-superclass.superclass-index (record { 0 = 0 })
          c.loop-superclass-test.true live c.loop-superclass.invariant.marks
          (λ e. c.in_ok-unite.ensures.marks e
          ∙ ap2 (λ (r t : Row). is_marked r e || is_marked t e)
          (c.index_mut.ensures.value ∙ get_or_default c.loop-superclass.rows.items super c.index_mut.result.now no_row live)
          c.take_row-row.ensures.row);
    }

pub returns-clause-marks : goal.returns-clause-marks
returns-clause-marks c = λ x d.
    let some : 0 < length c.supers_at-supers.result.now = search rules in
    let there = are_there c.args.classes.now c.args.bound c.args.class c.supers_at-supers.result.now 0 c.requires.classes c.supers_at-supers.ensures c.requires.live some in
    ap (λ rs. is_marked (get_or rs x no_row) d) (c.put.ensures ∙ ap (set c.loop-superclass.rows.items c.args.class) c.take_row-row.ensures.row)
    ∙ handed_back c.args.rows.now.items c.loop-superclass.rows.items c.args.class c.supers_at-supers.result.now (omega (arith, there.1, c.loop-superclass.invariant.each))
    (λ y e apart. c.loop-superclass.invariant.marks y e apart
    ∙ ap (λ ss. handed_on c.args.rows.now.items c.args.class ss y e) (take_all c.loop-superclass.superclass-index c.supers_at-supers.result.now (omega (arith, c.loop-superclass-test.false)))) x d
    ∙ ap (λ ss. handed_on c.args.rows.now.items c.args.class ss x d) c.supers_at-supers.ensures
