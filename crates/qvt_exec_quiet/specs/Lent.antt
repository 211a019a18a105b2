-- An operation behind an arrow on a variable, or on a property of what a variable holds, with arguments that leave all variables and the
-- store as they are (OCL 2.4, 7.5.3 and 7.6): the operation goes over what is kept there, where it stands.
use Rattle.std.specs.Prelude.{◌≡◌, ℕ, zero, suc, Bool, false, if◌then◌else◌, List, drop, Option, Some, None, map}
use Rattle.qvt_base.specs.declared.numbers.Place.{Place}
use Rattle.qvt_ocl_words.specs.declared.op.Op.{Op}
use Rattle.qvt_types_data.specs.declared.note.Note.{Note}
use Rattle.qvt_types_data.specs.declared.note.Reading.{Reading}
use Rattle.qvt_types_data.specs.declared.note.Reading.TheVariants as reading
use Rattle.qvt_types_data.specs.declared.ty.Ty.{Ty}
use Rattle.qvt_types_nodes.specs.Tree.{TypedExprTerm, TypedSelfExpr, TypedResultExpr, TypedPathExpr, TypedExprTerms, TypedNoArgs, TypedStepTerm, TypedDotStep, TypedArrowStep, TypedStepTerms, TypedNoSteps, TypedMoreSteps}
use Rattle.qvt_types_nodes.specs.View.{typed_expr_view, typed_exprs_of}
use Rattle.qvt_typing.specs.Accepts.{ProgramTerm}
use Rattle.qvt_value.specs.declared.value.Kind.{Kind}
use Rattle.qvt_value.specs.declared.value.Value.{Value}
use Rattle.qvt_run_rules.specs.State.{State, Does, ◌>>=◌, ◌>>◌, pure}
use Rattle.qvt_run_rules.specs.Cost.{count}
use Rattle.qvt_run_rules.specs.Locals.{self_name, result_name, read}
use Rattle.qvt_run_rules.specs.Sources.{before_arrow}
use Rattle.qvt_run_rules.specs.Calls.{CallRule}
use Rattle.qvt_run_rules.specs.Expressions as rule
use Rattle.qvt_meaning.specs.Nodes.{type_of}
use Rattle.qvt_meaning.specs.Phrases.{expr, exprs, steps}
use Rattle.qvt_meaning.specs.Readings.{Setting}
use Rattle.qvt_meaning.specs.StepTypes.{kind_before, step_type}
use Rattle.qvt_exec_quiet.specs.Leaves.{are_quiet, IsQuiet}
use Rattle.qvt_exec_quiet.specs.Operations.{operation_alone}
use Rattle.qvt_exec_quiet.specs.declared.lent.Lent.{Lent}
use Rattle.qvt_exec_quiet.specs.declared.lent.Source.{Source}
use Rattle.qvt_exec_quiet.specs.declared.lent.Source.TheVariants.{Variable, Implicit, Slot}

-- What an operation goes over: a variable with its place; a property of an implicit source, with the place of its name; a property of
-- what a variable with its place holds, with the place of the dot.
pub data SourceTerm : Type 0 where
  OfVariable : List ℕ → Place → SourceTerm
  OfImplicit : List ℕ → ℕ → Place → SourceTerm
  OfSlot : List ℕ → Place → ℕ → Place → SourceTerm

abbrev pub source_view : Source → SourceTerm
source_view (Variable name at) = OfVariable name.now at
source_view (Implicit name f at) = OfImplicit name.now f.0 at
source_view (Slot name at f dot) = OfSlot name.now at f.0 dot

-- the source; the operation, its arguments, whether a single value is wrapped, and the place of the step
pub record LentTerm : Type 0 where
  pub source : SourceTerm
  pub op : Op
  pub args : TypedExprTerms
  pub wrap : Bool
  pub at : Place

abbrev pub lent_view : Lent → LentTerm
lent_view l = record { source = source_view l.source; op = l.op; args = typed_exprs_of (map typed_expr_view l.args.now); wrap = l.wrap; at = l.at }

-- how many steps stand before the arrow
abbrev pub steps_before : SourceTerm → ℕ
steps_before (OfVariable name at) = 0
steps_before (OfImplicit name f at) = 0
steps_before (OfSlot name at f dot) = 1

-- Which steps they are.

abbrev pub source_in : Reading → Option (List ℕ) → Place → Option SourceTerm
source_in (reading.Variable name) source at = Some (OfVariable name at)
source_in (reading.Feature f) (Some source) at = Some (OfImplicit source f.0 at)
source_in r source at = None

-- what an expression reads
abbrev pub source_named : TypedExprTerm → Option SourceTerm
source_named (TypedSelfExpr at n) = Some (OfVariable self_name at)
source_named (TypedResultExpr at n) = Some (OfVariable result_name at)
source_named (TypedPathExpr p) = source_in p.note.reading p.note.source p.place
source_named e = None

-- a property of what a variable holds
abbrev pub slot_in : Bool → Reading → List ℕ → Place → Place → Option SourceTerm
slot_in false (reading.Feature f) name at dot = Some (OfSlot name at f.0 dot)
slot_in collect r name at dot = None

abbrev pub slot_named : SourceTerm → Place → Note → Option SourceTerm
slot_named (OfVariable name at) dot n = slot_in n.collect n.reading name at dot
slot_named source dot n = None

abbrev pub lent_by : SourceTerm → Option Op → TypedExprTerms → Bool → Place → Option LentTerm
lent_by source None args wrap at = None
lent_by source (Some op) args wrap at = if are_quiet args then Some (record { source = source; op = op; args = args; wrap = wrap; at = at }) else None

-- the step on the source, if it is one of these
abbrev pub lent_step : SourceTerm → TypedStepTerm → Option LentTerm
lent_step source (TypedArrowStep step h args at n) = lent_by source (operation_alone step) args n.wrap at
lent_step source s = None

abbrev pub lent_first : SourceTerm → TypedStepTerms → Option LentTerm
lent_first source TypedNoSteps = None
lent_first source (TypedMoreSteps s ss) = lent_step source s

abbrev pub lent_slot : Option SourceTerm → TypedStepTerms → Option LentTerm
lent_slot None ss = None
lent_slot (Some source) ss = lent_first source ss

abbrev pub lent_with : SourceTerm → TypedStepTerms → Option LentTerm
lent_with source (TypedMoreSteps (TypedDotStep name TypedNoArgs dot n) ss) = lent_slot (slot_named source dot n) ss
lent_with source ss = lent_first source ss

abbrev pub lent_from : Option SourceTerm → TypedStepTerms → Option LentTerm
lent_from None ss = None
lent_from (Some source) ss = lent_with source ss

abbrev pub lent_of : TypedExprTerm → TypedStepTerms → Option LentTerm
lent_of e ss = lent_from (source_named e) ss

-- What they do.

-- the type before a step, of the first two
abbrev pub type_before : ProgramTerm → Option Ty → TypedStepTerms → ℕ → Option Ty
type_before p o ss zero = o
type_before p o TypedNoSteps (suc n) = o
type_before p o (TypedMoreSteps s ss) (suc n) = type_before p (step_type p s o) ss n

-- the kind of what the arrow goes over, where that is null
abbrev pub kind_for : ProgramTerm → Option Ty → TypedStepTerms → LentTerm → Kind
kind_for p o ss l = kind_before (type_before p o ss (steps_before l.source))

module _ {E : Type 0} where
  -- what the source is
  abbrev pub reading_of : SourceTerm → Does E Value
  reading_of (OfVariable name at) = read name at
  reading_of (OfImplicit name f at) = read name at >>= rule.property_of f at
  reading_of (OfSlot name at f dot) = read name at >>= rule.property_of f dot

  -- it can be read
  abbrev pub there : {A : Type 0} → Does E A → Does E (Unit {0})
  there p = p >> pure tt

  -- what the operation gives of the source, once its arguments are there
  unfoldable pub given_of : Kind → LentTerm → List Value → Does E Value
  given_of k l ws = reading_of l.source >>= (λ v. rule.applied count l.op ws l.at (before_arrow l.wrap k v))

  -- how many of the steps are done, with the value behind them
  abbrev pub with_done : ℕ → Value → Does E (Option (ℕ × Value))
  with_done n v = pure (Some (n, v))

  -- these, or the first part alone
  abbrev pub or_first : Does E Value → Option (ℕ × Value) → Does E (ℕ × Value)
  or_first p None = p >>= (λ v. pure (0, v))
  or_first p (Some d) = pure d

  abbrev pub along_rest : List (Value → Does E Value) → ℕ × Value → Does E Value
  along_rest fs d = rule.along d.1 (drop d.0 fs)

module _ {E : Type 0} (spend : ℕ → Does E (Unit {0})) where
  -- the units of a source, and what has to be there before the last of them
  abbrev pub charged : SourceTerm → Does E (Unit {0})
  charged (OfVariable name at) = rule.tick spend
  charged (OfImplicit name f at) = rule.tick spend
  charged (OfSlot name at f dot) = rule.tick spend >> (there (read name at) >> rule.tick spend)

module _ {E : Type 0} (x : Setting E) (calls : CallRule E) (answer : Option Ty) where
  -- the arguments: the source has its units before them, and has to be there, and the step has its unit
  abbrev pub args_of : LentTerm → Does E (List Value)
  args_of l = charged x.spend l.source >> (there (reading_of l.source) >> (rule.tick x.spend >> rule.values (exprs x calls answer l.args)))

  -- the operation with its source lent
  abbrev pub lent_operation : Kind → LentTerm → Does E Value
  lent_operation k l = args_of l >>= given_of k l

  -- the steps up to the operation, if there is one
  abbrev pub lent_steps : Option Ty → TypedStepTerms → Option LentTerm → Does E (Option (ℕ × Value))
  lent_steps o ss None = pure None
  lent_steps o ss (Some l) = lent_operation (kind_for x.program o ss l) l >>= with_done (suc (steps_before l.source))

  -- the first part with these steps, or the first part alone
  abbrev pub begun_of : Option Ty → TypedStepTerms → Option LentTerm → Does E Value → Does E (ℕ × Value)
  begun_of o ss l p = lent_steps o ss l >>= or_first p

-- where a charge leaves all but the cost, an expression with steps does what it does with such a source lent
abbrev pub LentFirst : Type 0 → Type 0
LentFirst E = (x : Setting E) (calls : CallRule E) (answer : Option Ty) → ((n : ℕ) → IsQuiet (x.spend n)) → (e : TypedExprTerm) (ss : TypedStepTerms) (s : State E) →
    rule.on_first (expr x calls answer e) (steps x calls answer (type_of e) ss) s ≡ (begun_of x calls answer (type_of e) ss (lent_of e ss) (expr x calls answer e) >>= along_rest (steps x calls answer (type_of e) ss)) s
