-- Signs before an operand: the charges of all signs come first, then the operand, then the signs on its value from the inner one outwards.
use Rattle.std.proofs.Common.{◌≡◌, ◌∙◌, ℕ, refl, sym, ap, List, [], ◌∷◌, length, Option, Ok, Err}
use Rattle.qvt_value.specs.declared.value.Value.{Value}
use Rattle.qvt_run_data.specs.declared.late.LateWrite.{LateWrite}
use Rattle.qvt_run_rules.specs.State.{State, Done, Does, on_outcome, ◌>>=◌}
use Rattle.qvt_run_rules.specs.Cost.{spend_of}
use Rattle.qvt_run_rules.specs.Expressions as rule
use Rattle.qvt_meaning.specs.Readings as by
use Rattle.qvt_types_nodes.specs.declared.types.TypedSign.{TypedSign}
use Rattle.qvt_exec_leaves.proofs.Signs.{later, nothing_after, on_sign}
use Rattle.qvt_exec_leaves.specs.Signs.{signed_by, ticks_of}
use Rattle.qvt_exec_steps.specs.Means.{Scene, setting_of}
use Rattle.qvt_exec_exprs.specs.Charged.{charged_first}

-- what follows is the same in each state
alike : {A B : Type 0} (d : Done LateWrite A) (f g : A → Does LateWrite B) → ((a : A) (t : State LateWrite) → f a t ≡ g a t) → on_outcome d.0 d.1 f ≡ on_outcome d.0 d.1 g
alike (Ok a, s) f g same = same a s
alike (Err e, s) f g same = refl

-- the operand behind the charges of the inner signs, with the outer sign on its value
inner : (limit : Option ℕ) (n : ℕ) (ss : List TypedSign) (g : TypedSign) (p : Does LateWrite Value) (t : State LateWrite) →
    on_outcome (charged_first limit n p (signed_by ss) t).0 (charged_first limit n p (signed_by ss) t).1 (on_sign g) ≡ charged_first limit n p (signed_by (g ∷ ss)) t
inner limit n ss g p t =
    later (ticks_of limit n t).0 (ticks_of limit n t).1 (λ (_ : Unit {0}). p >>= signed_by ss) (on_sign g)
    ∙ alike (ticks_of limit n t) (λ (_ : Unit {0}) s. on_outcome (on_outcome (p s).0 (p s).1 (signed_by ss)).0 (on_outcome (p s).0 (p s).1 (signed_by ss)).1 (on_sign g)) (λ (_ : Unit {0}). p >>= signed_by (g ∷ ss))
    (λ _ s. later (p s).0 (p s).1 (signed_by ss) (on_sign g))

pub signs_met : (x : Scene) (ss : List TypedSign) (p : Does LateWrite Value) (s : State LateWrite) → by.signs_of (setting_of x) ss p s ≡ charged_first x.0.limit (length ss) p (signed_by ss) s
unfolding rule.prefixed
signs_met x [] p s = nothing_after (p s)
signs_met x (g ∷ ss) p s =
    alike (spend_of x.0.limit 1 s) (λ (_ : Unit {0}) t. on_outcome (by.signs_of (setting_of x) ss p t).0 (by.signs_of (setting_of x) ss p t).1 (on_sign g)) (λ (_ : Unit {0}). charged_first x.0.limit (length ss) p (signed_by (g ∷ ss)))
    (λ _ t. ap (λ (d : Done LateWrite Value). on_outcome d.0 d.1 (on_sign g)) (signs_met x ss p t) ∙ inner x.0.limit (length ss) ss g p t)
    ∙ sym (later (spend_of x.0.limit 1 s).0 (spend_of x.0.limit 1 s).1 (λ (_ : Unit {0}). ticks_of x.0.limit (length ss)) (λ (_ : Unit {0}). p >>= signed_by (g ∷ ss)))
