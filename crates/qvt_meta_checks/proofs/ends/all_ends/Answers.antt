use Rattle.std.proofs.Common.{◌∙◌, ◌+◌, ◌<◌, [], ◌∷◌, List, ℕ, length, ap, subst, sym, arith, slice_index_or}
use Rattle.std.proofs.lemmas.List.{length-append, get_or_read}
use Rattle.qvt_metamodel.specs.declared.declared.DeclaredClass.{DeclaredClass}
use Rattle.qvt_metamodel.specs.Added.{declared_at, nothing_declared}
use Rattle.qvt_meta_checks.specs.declared.ends.Ends.{Ends}
use Rattle.qvt_meta_checks.specs.Ends.{AreEndsOf, no_ends}
use Rattle.qvt_meta_checks.proofs.Paired.{all_of, each-more}
use Rattle.qvt_meta_checks.proofs.ends.all_ends.Goals as goal

pub loop-class-preserved : goal.loop-class-preserved
loop-class-preserved c = record {
  each = ap length c.in_ok-push.ensures.ok ∙ length-append c.loop-class.all (c.in_ok-ends_of.field-0 ∷ []) ∙ ap (λ n. n + 1) c.loop-class.invariant.each;
  at = subst (λ (es : List Ends). (k : ℕ) → k < c.loop-class.class + 1 → AreEndsOf (declared_at c.args.classes.now k).features (slice_index_or es k no_ends))
      (sym c.in_ok-push.ensures.ok)
      (each-more (λ k (e : Ends). AreEndsOf (declared_at c.args.classes.now k).features e) no_ends
      c.loop-class.all c.loop-class.class c.in_ok-ends_of.field-0 c.loop-class.invariant.each c.loop-class.invariant.at
      (subst (λ (k : DeclaredClass). AreEndsOf k.features c.in_ok-ends_of.field-0) (get_or_read c.args.classes.now c.loop-class.class _ (omega (arith, c.loop-class-test.true)) c.index-classes-class.is nothing_declared) c.in_ok-ends_of.ensures));
}

pub returns : goal.returns
returns c = all_of c.args.classes.now c.loop-class.class _ (omega (arith, c.loop-class-test.false)) c.loop-class.invariant.each c.loop-class.invariant.at
