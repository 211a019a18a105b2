use Rattle.std.proofs.Common.{◌∙◌, [], length, replicate, false, sym, subst, arith}
use Rattle.qvt_meta_tables.specs.Search.{IsSearch}
use Rattle.qvt_meta_tables.proofs.Searching.{first, all_placed}
use Rattle.qvt_meta_tables.proofs.order.placed.Goals as goal

pub loop-class-init : goal.loop-class-init
loop-class-init c = record {
  search = subst (λ m. IsSearch c.args.classes.now m c.in_ok-with_room.field-0 c.new.result) (sym c.in_ok-flags.ensures)
      (subst (λ p. IsSearch c.args.classes.now (replicate (length c.args.classes.now) false) p c.new.result) (sym c.in_ok-with_room.ensures)
      (subst (λ v. IsSearch c.args.classes.now (replicate (length c.args.classes.now) false) [] v) (sym c.new.ensures) (first c.args.classes.now)));
  done = c.new.ensures;
  met = λ x l. absurd (omega arith);
}

pub returns-clause-all : goal.returns-clause-all
returns-clause-all c =
    all_placed c.args.classes.now c.loop-class.search.met c.loop-class.search.placed c.loop-class.search.visits c.loop-class.invariant.search c.loop-class.invariant.done
    (λ x l. c.loop-class.invariant.met x (omega (arith, l, c.requires.count, c.loop-class-test.false)))
    ∙ c.requires.count
