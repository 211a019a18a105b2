-- Late resolves among nodes.
use Rattle.std.proofs.Common.{◌≡◌, ◌∙◌, ◌-◌, ℕ, zero, suc, ◌<◌, Bool, true, false, refl, sym, ap, List, [], ◌∷◌, map, length, take, get_or, Option, Some, None, arith}
use Rattle.qvt_base.specs.declared.numbers.Place.{Place}
use Rattle.qvt_tree_types.specs.declared.words.ResolveWord.{ResolveWord}
use Rattle.qvt_types_data.specs.declared.note.Note.{Note}
use Rattle.qvt_types_data.specs.declared.ty.Ty.{Ty}
use Rattle.qvt_types_nodes.specs.Tree.{TypedResolveOf, TypedFilterTerm, TypedStepTerm, TypedDotStep, TypedArrowStep, TypedDotMapStep, TypedArrowMapStep, TypedDotResolveStep, TypedArrowResolveStep}
use Rattle.qvt_types_nodes.specs.declared.types.TypedPathTree.{TypedPathTree}
use Rattle.qvt_types_nodes.specs.declared.tree.TypedStep.{TypedStep}
use Rattle.qvt_types_nodes.specs.View.{typed_step_view, typed_steps_of}
use Rattle.qvt_run_data.specs.declared.late.LateWrite.{LateWrite}
use Rattle.qvt_run_rules.specs.Calls.{CallRule}
use Rattle.qvt_meaning.specs.Nodes as nodes
use Rattle.qvt_meaning.specs.Phrases.{but_last, steps}
use Rattle.qvt_meaning.specs.Readings.{Setting}
use Rattle.qvt_meaning.specs.StepTypes.{step_type}
use Rattle.qvt_exec_resolves.specs.Late.{late_step}

pub is_late : (b : Bool) (w : ResolveWord) (p : Option TypedPathTree) (f : TypedFilterTerm) (at : Place) (n : Note) → b ≡ true → Some (TypedResolveOf b w p f at n) ≡ nodes.late_in (TypedResolveOf b w p f at n)
is_late true w p f at n h = refl
is_late false w p f at n h = cc

pub not_late : (b : Bool) (w : ResolveWord) (p : Option TypedPathTree) (f : TypedFilterTerm) (at : Place) (n : Note) → b ≡ false → None ≡ nodes.late_in (TypedResolveOf b w p f at n)
not_late true w p f at n h = cc
not_late false w p f at n h = refl

-- the last step

only_step : (s : TypedStepTerm) → nodes.last_late (typed_steps_of (s ∷ [])) ≡ late_step s
only_step (TypedDotStep name args at n) = refl
only_step (TypedArrowStep name h es at n) = refl
only_step (TypedDotMapStep m) = refl
only_step (TypedArrowMapStep m) = refl
only_step (TypedDotResolveStep r) = refl
only_step (TypedArrowResolveStep r) = refl

further : (s t : TypedStepTerm) (ss : List TypedStepTerm) → nodes.last_late (typed_steps_of (s ∷ t ∷ ss)) ≡ nodes.last_late (typed_steps_of (t ∷ ss))
further (TypedDotStep name args at n) t ss = refl
further (TypedArrowStep name h es at n) t ss = refl
further (TypedDotMapStep m) t ss = refl
further (TypedArrowMapStep m) t ss = refl
further (TypedDotResolveStep r) t ss = refl
further (TypedArrowResolveStep r) t ss = refl

last_step : (ss : List TypedStep) (n : ℕ) (d : TypedStep) → length ss ≡ suc n → late_step (typed_step_view (get_or ss n d)) ≡ nodes.last_late (typed_steps_of (map typed_step_view ss))
last_step [] n d h = absurd (omega (arith, h))
last_step (s ∷ []) zero d h = sym (only_step (typed_step_view s))
last_step (s ∷ []) (suc n) d h = absurd (omega (arith, h))
last_step (s ∷ t ∷ ss) zero d h = absurd (omega (arith, h))
last_step (s ∷ t ∷ ss) (suc n) d h =
    last_step (t ∷ ss) n d (let shorter : length (t ∷ ss) ≡ suc n = omega (arith, h) in shorter)
    ∙ sym (further (typed_step_view s) (typed_step_view t) (map typed_step_view ss))

pub none_last : (ss : List TypedStep) → length ss ≡ 0 → None ≡ nodes.last_late (typed_steps_of (map typed_step_view ss))
none_last [] h = refl
none_last (s ∷ ss) h = absurd (omega (arith, h))

pub at_last : (ss : List TypedStep) (s : TypedStep) → length ss - 1 < length ss → s ≡ get_or ss (length ss - 1) s → late_step (typed_step_view s) ≡ nodes.last_late (typed_steps_of (map typed_step_view ss))
at_last ss s there is =
    ap (λ (t : TypedStep). late_step (typed_step_view t)) is
    ∙ last_step ss (length ss - 1) s (let all : length ss ≡ suc (length ss - 1) = omega (arith, there) in all)

-- the steps before it

module _ (x : Setting LateWrite) (calls : CallRule LateWrite) (answer : Option Ty) where
  taken : (n : ℕ) (o : Option Ty) (ss : List TypedStep) → steps x calls answer o (typed_steps_of (map typed_step_view (take n ss))) ≡ take n (steps x calls answer o (typed_steps_of (map typed_step_view ss)))
  unfolding steps
  taken zero o ss = refl
  taken (suc n) o [] = refl
  taken (suc n) o (s ∷ ss) = ap (λ fs. Rattle.qvt_meaning.specs.Phrases.step x calls answer o (typed_step_view s) ∷ fs) (taken n (step_type x.program (typed_step_view s) o) ss)

  as_many : (o : Option Ty) (ss : List TypedStep) → length (steps x calls answer o (typed_steps_of (map typed_step_view ss))) ≡ length ss
  unfolding steps
  as_many o [] = refl
  as_many o (s ∷ ss) = ap suc (as_many (step_type x.program (typed_step_view s) o) ss)

  pub steps_before : (o : Option Ty) (ss : List TypedStep) → steps x calls answer o (typed_steps_of (map typed_step_view (but_last ss))) ≡ but_last (steps x calls answer o (typed_steps_of (map typed_step_view ss)))
  steps_before o ss = taken (length ss - 1) o ss ∙ ap (λ n. take (n - 1) (steps x calls answer o (typed_steps_of (map typed_step_view ss)))) (sym (as_many o ss))
