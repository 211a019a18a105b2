use Rattle.std.proofs.Common.{◌≡◌, ◌∙◌, ◌+◌, ◌-◌, get_or, refl, ap, sym, subst, arith}
use Rattle.std.specs.Prelude.{IsTrue, nat_lt}
use Rattle.std.specs.List.{list_all}
use Rattle.std.proofs.lemmas.Bool.{eq-eqb}
use Rattle.qvt_metamodel.specs.Metamodels.{class_at}
use Rattle.qvt_meta_tables.specs.Tables.{of_classes}
use Rattle.qvt_rows.proofs.Handed.{AreDone, none_done, descends_itself, owns_next, sound_next, done_before, below_all}
use Rattle.qvt_rows.proofs.below.rows_below.Goals as goal

pub loop-place-init : goal.loop-place-init
loop-place-init c = record {
  each = c.in_ok-rows.ensures.each;
  within = c.in_ok-rows.ensures.within;
  own = λ x l. c.in_ok-rows.ensures.own x (omega (arith, l, c.requires.count)) x ∙ eq-eqb x x refl;
  sound = λ x d l h. descends_itself (of_classes c.args.classes.now) x d (sym (c.in_ok-rows.ensures.own x (omega (arith, l, c.requires.count)) d) ∙ h);
  done = subst (λ k. AreDone c.args.classes.now c.args.order.now.ranks k c.in_ok-rows.rows.items) c.requires.count (none_done c.args.classes.now c.args.order.now.classes c.args.order.now.ranks c.requires.order c.in_ok-rows.rows.items);
}

pub hand_on-requires-clause-live : goal.hand_on-requires-clause-live
hand_on-requires-clause-live c =
    subst (λ n. IsTrue (list_all (λ s. nat_lt s.0 n) (class_at (of_classes c.args.classes.now) (get_or c.as_slice.result.now (c.loop-place.place - 1) 0)).supers)) c.requires.count
    (c.requires.order.live (get_or c.as_slice.result.now (c.loop-place.place - 1) 0))

pub loop-place-preserved : goal.loop-place-preserved
loop-place-preserved c =
    let ks = c.args.classes.now in
    let order = c.args.order.now.classes in
    let ranks = c.args.order.now.ranks in
    let old = c.loop-place.rows.items in
    let new = c.hand_on.new.rows.items in
    let class = get_or c.as_slice.result.now (c.loop-place.place - 1) 0 in
    record {
      each = c.in_ok-hand_on.ensures.count;
      within = c.in_ok-hand_on.ensures.within;
      own = owns_next ks order ranks c.requires.order old new class c.in_ok-hand_on.ensures.marks c.loop-place.invariant.own;
      sound = sound_next ks order ranks c.requires.order old new class c.in_ok-hand_on.ensures.marks c.loop-place.invariant.sound;
      done = done_before ks order ranks c.requires.order old new class c.in_ok-hand_on.ensures.marks (c.loop-place.place - 1) (ap (λ xs. get_or xs (c.loop-place.place - 1) 0) (sym c.as_slice.ensures))
          (subst (λ k. AreDone ks ranks k old) (let before : c.loop-place.place ≡ c.loop-place.place - 1 + 1 = omega arith in before) c.loop-place.invariant.done);
    }

pub returns-clause-below : goal.returns-clause-below
returns-clause-below c = λ x l d.
    below_all c.args.classes.now c.args.order.now.classes c.args.order.now.ranks c.requires.order c.loop-place.rows.items c.loop-place.invariant.own c.loop-place.invariant.sound
    (subst (λ k. AreDone c.args.classes.now c.args.order.now.ranks k c.loop-place.rows.items) (let all : c.loop-place.place ≡ 0 = omega arith in all) c.loop-place.invariant.done) x d (omega (arith, l, c.requires.count))
