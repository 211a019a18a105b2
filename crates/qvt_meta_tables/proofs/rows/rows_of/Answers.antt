use Rattle.std.proofs.Common.{◌∙◌, ap, sym, length, get_or, arith, subst, ◌==◌, ◌||◌}
use Rattle.std.specs.Prelude.{slice_index}
use Rattle.std.specs.List.{list_any}
use Rattle.std.proofs.lemmas.List.{length-set}
use Rattle.qvt_metamodel.specs.Kept.{is_marked, no_row}
use Rattle.qvt_meta_tables.specs.Tables.{EndsWithin}
use Rattle.qvt_meta_tables.proofs.Marks.{rows_next, rows_all, within_next}
use Rattle.qvt_meta_tables.proofs.rows.rows_of.Goals as goal

pub loop-class-preserved : goal.loop-class-preserved
loop-class-preserved c = record {
  each = ap length c.put.ensures ∙ length-set c.loop-class.rows.items _ _ ∙ c.loop-class.invariant.each;
  within = λ x. subst (λ rs. EndsWithin c.args.count (get_or rs x no_row)) (sym c.put.ensures)
      (within_next c.args.count c.loop-class.rows.items _ c.in_ok-row.row c.loop-class.invariant.within c.in_ok-row.ensures.within c.loop-class.invariant.each x);
  done = λ x live low d.
      ap (λ rs. is_marked (get_or rs x no_row) d) c.put.ensures
      ∙ rows_next c.args.classes.now c.args.order.now.classes c.args.order.now.ranks c.requires.order c.loop-class.rows.items c.loop-class.class-index _ c.in_ok-row.row
      (c.loop-class.invariant.each ∙ sym c.requires.count) (sym (ap (λ xs. slice_index xs c.loop-class.class-index) c.as_slice-class-items.ensures)) c.loop-class.invariant.done
      (λ e. c.in_ok-row.ensures.marks e ∙ ap (list_any (λ s. (s.0 == e) || is_marked (get_or c.loop-class.rows.items s.0 no_row) e)) c.supers_at.ensures)
      x live low d;
}

pub returns-clause-ancestors : goal.returns-clause-ancestors
returns-clause-ancestors c =
    rows_all c.args.classes.now c.args.order.now.classes c.args.order.now.ranks c.requires.order c.loop-class.rows.items (c.loop-class.invariant.each ∙ sym c.requires.count)
    (λ x live low d. c.loop-class.invariant.done x live (omega (arith, low, c.loop-class-test.false, ap length c.as_slice-class-items.ensures)) d)
