-- Arguments of steps.
use Rattle.std.proofs.Common.{◌≡◌, ◌∙◌, ◌≤◌, ℕ, refl, ap, Bool, false, if◌then◌else◌, List, [], ◌∷◌, length, Option, Some, arith}
use Rattle.qvt_base.specs.declared.numbers.Place.{Place}
use Rattle.qvt_value.specs.declared.value.Value.{Value}
use Rattle.qvt_run_data.specs.declared.late.LateWrite.{LateWrite}
use Rattle.qvt_run_rules.specs.State.{misfit}
use Rattle.qvt_types_nodes.specs.declared.tree.TypedExpr.{TypedExpr}
use Rattle.qvt_types_steps.specs.declared.iterators.IteratorKind.{IteratorKind}
use Rattle.qvt_types_steps.specs.Classes.{is_selection}
use Rattle.qvt_types_steps.specs.IteratorTable.{iterator_named}
use Rattle.qvt_exec_types.specs.Phrases as phrase
use Rattle.qvt_run_rules.specs.Cost.{spend_of}
use Rattle.qvt_exec_types.specs.Readings as by
use Rattle.qvt_exec_types.specs.Readings.{HeadDoes}
use Rattle.qvt_exec_invocations.specs.Means.{Scene, exprs_of, setting_of}

-- several arguments are no body
pub no_body : (x : Scene) (i : IteratorKind) (h : HeadDoes LateWrite) (es : List TypedExpr) (at : Place) (v : Value) → 2 ≤ length es → by.iterator_step (setting_of x) i h (exprs_of x es) at v ≡ misfit at
unfolding exprs_of phrase.exprs
no_body x i h [] at v many = absurd (omega (arith, many))
no_body x i h (e ∷ []) at v many = absurd (omega (arith, many))
no_body x i h (e ∷ f ∷ es) at v many = refl

-- nor does an iterator take them
pub arrow_misfits : (x : Scene) (name : List ℕ) (i : IteratorKind) (h : HeadDoes LateWrite) (es : List TypedExpr) (c : Option ℕ) (at : Place) (v : Value) → is_selection name ≡ false → iterator_named name ≡ Some i → 2 ≤ length es →
    by.arrow_on (setting_of x) name h (exprs_of x es) c at v ≡ misfit at
arrow_misfits x name i h es c at v other is many =
    ap (λ (b : Bool). if b then by.selection_by (spend_of x.0.limit) name c at v else by.named_step (setting_of x) (iterator_named name) name h (exprs_of x es) at v) other
    ∙ ap (λ (o : Option IteratorKind). by.named_step (setting_of x) o name h (exprs_of x es) at v) is
    ∙ no_body x i h es at v many
