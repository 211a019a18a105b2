-- Integers, variables that hold one, and operators between such (OCL 2.4, 7.4.7 and 7.5.1).
use Rattle.std.specs.Prelude.{◌≡◌, ℕ, ℤ, List, Option, Some, None, Ok}
use Rattle.qvt_base.specs.declared.numbers.Place.{Place}
use Rattle.qvt_ocl_words.specs.Integers.{of_integers}
use Rattle.qvt_ocl_words.specs.declared.op.Op.{Op}
use Rattle.qvt_types_data.specs.declared.note.Reading.{Reading}
use Rattle.qvt_types_data.specs.declared.note.Reading.TheVariants.{Variable}
use Rattle.qvt_types_nodes.specs.Tree.{TypedExprTerm, TypedIntExpr, TypedPathExpr}
use Rattle.qvt_value.specs.declared.value.Value.{Value, Int}
use Rattle.qvt_run_data.specs.declared.late.LateWrite.{LateWrite}
use Rattle.qvt_run_data.specs.declared.local.Local.{Local}
use Rattle.qvt_run_rules.specs.Cost.{spend_of}
use Rattle.qvt_run_rules.specs.Locals.{local_named, value_in}
use Rattle.qvt_run_rules.specs.State.{State, Does}
use Rattle.qvt_run_rules.specs.Expressions as rule
use Rattle.qvt_types_nodes.specs.declared.tree.TypedExpr.{TypedExpr}
use Rattle.qvt_types_nodes.specs.declared.tree.TypedLink.{TypedLink}
use Rattle.qvt_exec_phrases.specs.declared.engine.Engine.{Engine}
use Rattle.qvt_exec_steps.specs.Means.{Scene, expr_of, links_of}
use Rattle.qvt_exec_phrases.specs.Units.{UnitMeanings}
use Rattle.qvt_exec_exprs.specs.declared.numbers.Counted.{Counted}

abbrev pub integer_in : Option Value → Option ℤ
integer_in (Some (Int n)) = Some n
integer_in v = None

abbrev pub number_read : Reading → List Local → Option ℤ
number_read (Variable name) vs = integer_in (value_in (local_named name vs))
number_read r vs = None

-- the number that a phrase is, without more than its unit
abbrev pub number_in : TypedExprTerm → List Local → Option ℤ
number_in (TypedIntExpr v at n) vs = Some v
number_in (TypedPathExpr p) vs = number_read p.note.reading vs
number_in e vs = None

-- a number of one unit
abbrev pub counted : Option ℤ → Option Counted
counted (Some n) = Some (record { number = n; units = 1 })
counted None = None

-- what an operator gives of two Integers
abbrev pub of_numbers : Option Op → Place → ℤ → ℤ → Option Value
of_numbers None at a b = None
of_numbers (Some o) at a b = of_integers o at a b

-- with these variables in scope, and if so many units are there, the phrase gives the value and spends them, and does no more
abbrev pub Costs : Option ℕ → Does LateWrite Value → List Local → Value → ℕ → Type 0
Costs limit p vs v n = (s t : State LateWrite) → s.locals ≡ vs → spend_of limit n s ≡ (Ok tt, t) → p s ≡ (Ok v, t)

-- whatever stands behind calls, the phrase is the number
abbrev pub IsCountedNumber : TypedExpr → List Local → Counted → Type 0
IsCountedNumber e vs c = (x : Scene) → Costs x.0.limit (expr_of x e) vs (Int c.number) c.units

-- and the chain gives the value for so many units
abbrev pub IsGiven : TypedExpr → List TypedLink → List Local → Value × ℕ → Type 0
IsGiven first rest vs d = (x : Scene) → Costs x.0.limit (rule.on_first (expr_of x first) (links_of x rest)) vs d.0 d.1

-- the chain gives the value, and leaves this state
abbrev pub ChainGives : Engine → TypedExpr → List TypedLink → Value → State LateWrite → State LateWrite → Type 0
ChainGives x first rest v s t = (u : UnitMeanings) → rule.on_first (expr_of (x, u) first) (links_of (x, u) rest) s ≡ (Ok v, t)
