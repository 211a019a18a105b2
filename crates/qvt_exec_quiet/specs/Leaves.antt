-- Phrases that leave all of the state but its cost as it is: literals, names, signs and operators, properties and operations (OCL 2.4, 7).
use Rattle.std.specs.Prelude.{◌≡◌, ℕ, Bool, true, false, not, ◌&&◌, IsTrue, Option, is_some, is_none}
use Rattle.qvt_types_data.specs.declared.note.Note.{Note}
use Rattle.qvt_types_data.specs.declared.note.Reading.{Reading}
use Rattle.qvt_types_data.specs.declared.note.Reading.TheVariants as reading
use Rattle.qvt_types_data.specs.declared.ty.Ty.{Ty}
use Rattle.qvt_types_nodes.specs.Tree.{TypedExprTerm, TypedIntExpr, TypedStrExpr, TypedBoolExpr, TypedNullExpr, TypedSelfExpr, TypedResultExpr, TypedPathExpr, TypedChainExpr, TypedPrefixExpr, TypedPostExpr, TypedExprTerms, TypedNoExprs, TypedMoreExprs, TypedLinkTerm, TypedLinkOf, TypedLinkTerms, TypedNoLinks, TypedMoreLinks, TypedOptionalArgs, TypedNoArgs, TypedSomeArgs, TypedStepTerm, TypedDotStep, TypedArrowStep, TypedStepTerms, TypedNoSteps, TypedMoreSteps}
use Rattle.qvt_run_rules.specs.State.{State, Does}
use Rattle.qvt_run_rules.specs.Calls.{CallRule}
use Rattle.qvt_run_rules.specs.Expressions.{values}
use Rattle.qvt_meaning.specs.Nodes.{model_named}
use Rattle.qvt_meaning.specs.Phrases.{exprs}
use Rattle.qvt_meaning.specs.Readings.{Setting}
use Rattle.qvt_exec_quiet.specs.Operations.{operation_alone}

pub record IsQuiet {E A : Type 0} (p : Does E A) : Type 0 where
  pub leaves : (s : State E) → (p s).1 ≡ record s { cost = (p s).1.cost }

-- a dot that calls no unit, and goes over no collection
abbrev pub is_no_call : Reading → Bool
is_no_call (reading.Units ns) = false
is_no_call r = true

abbrev pub is_quiet_dot : Note → Bool
is_quiet_dot n = not n.collect && is_no_call n.reading

-- An expression of literals, names, signs, operators, properties and operations.
abbrev mutual
  pub is_quiet : TypedExprTerm → Bool
  is_quiet (TypedIntExpr v at n) = true
  is_quiet (TypedStrExpr v at n) = true
  is_quiet (TypedBoolExpr v at n) = true
  is_quiet (TypedNullExpr at n) = true
  is_quiet (TypedSelfExpr at n) = true
  is_quiet (TypedResultExpr at n) = true
  is_quiet (TypedPathExpr p) = true
  is_quiet (TypedChainExpr level e ls at n) = is_quiet e && are_quiet_links ls
  is_quiet (TypedPrefixExpr ss e at n) = is_quiet e
  is_quiet (TypedPostExpr e ss at n) = is_none (model_named e) && (is_quiet e && are_quiet_steps ss)
  is_quiet e = false

  pub is_quiet_link : TypedLinkTerm → Bool
  is_quiet_link (TypedLinkOf op e at n) = is_quiet e

  pub are_quiet_links : TypedLinkTerms → Bool
  are_quiet_links TypedNoLinks = true
  are_quiet_links (TypedMoreLinks l ls) = is_quiet_link l && are_quiet_links ls

  pub is_quiet_step : TypedStepTerm → Bool
  is_quiet_step (TypedDotStep name args at n) = is_quiet_dot n && are_quiet_args args
  is_quiet_step (TypedArrowStep name h args at n) = is_some (operation_alone name) && are_quiet args
  is_quiet_step s = false

  pub are_quiet_steps : TypedStepTerms → Bool
  are_quiet_steps TypedNoSteps = true
  are_quiet_steps (TypedMoreSteps s ss) = is_quiet_step s && are_quiet_steps ss

  pub are_quiet_args : TypedOptionalArgs → Bool
  are_quiet_args TypedNoArgs = true
  are_quiet_args (TypedSomeArgs es) = are_quiet es

  pub are_quiet : TypedExprTerms → Bool
  are_quiet TypedNoExprs = true
  are_quiet (TypedMoreExprs e es) = is_quiet e && are_quiet es

-- where a charge leaves all but the cost, so do these expressions, one after another
abbrev pub QuietLeave : Type 0 → Type 0
QuietLeave E = (x : Setting E) (calls : CallRule E) (answer : Option Ty) → ((n : ℕ) → IsQuiet (x.spend n)) → (es : TypedExprTerms) → IsTrue (are_quiet es) → IsQuiet (values (exprs x calls answer es))
