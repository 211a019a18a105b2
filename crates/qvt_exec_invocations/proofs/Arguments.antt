-- The arguments of a call, one after another.
use Rattle.std.proofs.Common.{◌≡◌, ◌∙◌, ℕ, ◌<◌, ◌+◌, suc, refl, sym, ap, List, [], ◌∷◌, ◌++◌, length, drop, Ok, arith}
use Rattle.std.proofs.Math.Seq.{drop-cons}
use Rattle.std.proofs.Math.ListN.{get_or}
use Rattle.qvt_value.specs.declared.value.Value.{Value}
use Rattle.qvt_run_data.specs.declared.late.LateWrite.{LateWrite}
use Rattle.qvt_run_rules.specs.State.{State, Done, Does, on_outcome}
use Rattle.qvt_run_rules.specs.Calls as call
use Rattle.qvt_types_nodes.specs.declared.tree.TypedExpr.{TypedExpr}
use Rattle.qvt_exec_phrases.specs.Phrases as phrase
use Rattle.qvt_exec_phrases.specs.Means.{Scene, expr_of, exprs_of, valid_of}

-- what follows an argument
abbrev onwards : List Value → List (Does LateWrite Value) → Done LateWrite Value → Done LateWrite (List Value)
onwards done ps d = on_outcome d.0 d.1 (λ v. call.arguments_onto (done ++ v ∷ []) ps)

first_argument : (x : Scene) (n : TypedExpr) (ns : List TypedExpr) (done : List Value) (s : State LateWrite) →
    call.arguments_onto done (exprs_of x (n ∷ ns)) s ≡ onwards done (exprs_of x ns) (valid_of x n s)
unfolding exprs_of expr_of phrase.exprs
first_argument x n ns done s = refl

module _ (x : Scene) (nodes : List TypedExpr) (n : ℕ) (a : TypedExpr) (within : n < length nodes) (is : a ≡ get_or nodes n a) (done : List Value) (s : State LateWrite) (d : Done LateWrite (List Value)) (before : call.arguments_onto done (exprs_of x (drop n nodes)) s ≡ d) where
  this_argument : onwards done (exprs_of x (drop (n + 1) nodes)) (valid_of x a s) ≡ d
  this_argument =
      let next_is : suc n ≡ n + 1 = omega arith in
      sym (ap (λ (l : List TypedExpr). call.arguments_onto done (exprs_of x l) s) (drop-cons nodes n a within)
      ∙ first_argument x (get_or nodes n a) (drop (suc n) nodes) done s
      ∙ ap (λ (k : TypedExpr). onwards done (exprs_of x (drop (suc n) nodes)) (valid_of x k s)) (sym is)
      ∙ ap (λ m. onwards done (exprs_of x (drop m nodes)) (valid_of x a s)) next_is) ∙ before

  -- it has a value
  pub argument_taken : (t : State LateWrite) (v : Value) (longer : List Value) → valid_of x a s ≡ (Ok v, t) → longer ≡ done ++ v ∷ []
      → call.arguments_onto longer (exprs_of x (drop (n + 1) nodes)) t ≡ d
  argument_taken t v longer on more =
      ap (λ vs. call.arguments_onto vs (exprs_of x (drop (n + 1) nodes)) t) more
      ∙ sym (ap (onwards done (exprs_of x (drop (n + 1) nodes))) on) ∙ this_argument
