-- One rule for each kind of statement, over what its parts do (QVT 1.3, 8.2.2). Refusals of statements leave types standing.
use Rattle.std.specs.List.{list_all}
use Rattle.std.specs.Option.{is_some}
use Rattle.std.specs.Prelude.{ℕ, ◌&&◌, ◌||◌, not, Bool, true, false, if◌then◌else◌, List, [], ◌∷◌, Option, Some, None, is_none}
use Rattle.qvt_base.specs.declared.numbers.Place.{Place}
use Rattle.qvt_types_data.specs.Notes.{unread}
use Rattle.qvt_types_data.specs.declared.note.Reading.TheVariants as reading
use Rattle.qvt_types_data.specs.declared.refusal.RefusalKind.{RefusalKind}
use Rattle.qvt_types_data.specs.declared.refusal.RefusalKind.TheVariants as refusal
use Rattle.qvt_types_data.specs.declared.ruling.Read.{Read}
use Rattle.qvt_types_data.specs.declared.ty.Ty.{Ty}
use Rattle.qvt_types_data.specs.declared.ty.Ty.TheVariants as ty
use Rattle.qvt_types_data.specs.declared.variable.VariableSort.TheVariants as sort
use Rattle.qvt_types_states.specs.Judge.{Judges, ◌>>=◌, gives, scope, scoped, checked, declare, marks, writes_nothing}
use Rattle.qvt_types_steps.specs.Calls.{is_single_type}
use Rattle.qvt_types_states.specs.declared.scope.Known.{Known}
use Rattle.qvt_types_steps.specs.Iterators.{item_type, iterator_type, iterator_wrong}
use Rattle.qvt_types_steps.specs.Types.{conforms}
use Rattle.qvt_types_steps.specs.Rulings as ruling
use Rattle.qvt_typing.specs.Aims.{bare_aim, result_aim, member_aim, nowhere_told, aim_read, assign_wrong, takes_late, changes_property}
use Rattle.qvt_typing.specs.Calls.{not_pure}
use Rattle.qvt_typing.specs.declared.parts.Aim.{Aim}
use Rattle.qvt_typing.specs.declared.parts.Effect.TheVariants.{ImpureOne}
use Rattle.qvt_typing.specs.declared.parts.Given.{Given}
use Rattle.qvt_typing.specs.Rules.{all, all_types}
use Rattle.qvt_typing.specs.Context.{TypingContext, ReturnRule, NoValue, Value, Never}

-- each part in order
abbrev pub each : List (Judges (Unit {0})) → Judges (Unit {0})
each [] = gives tt
each (p ∷ ps) = p >>= (λ _. each ps)

-- what is assigned: nothing may have the name
abbrev pub aimed : RefusalKind → Place → Aim → Judges Aim
aimed missing at a = checked (nowhere_told missing a) at >>= (λ _. marks (aim_read a) >>= (λ _. gives a))

-- a loop over a single value wraps it
abbrev pub wraps : Option Ty → Read
wraps None = unread
wraps (Some t) = record { reading = reading.Nothing; source = None; wrap = is_single_type t; collect = false; answer = None }

abbrev pub has_type : Given → Bool
has_type g = not g.is_given || is_some g.ty

abbrev pub for_each_known : Option Ty → Given → Known
for_each_known i k = record { sort = sort.Settable; ty = iterator_type k.is_given k.ty i }

module _ (x : TypingContext) where
  -- what is declared in a block is in scope there
  unfoldable pub block : List (Judges (Unit {0})) → Judges (Unit {0})
  block ps = scoped (each ps)

  unfoldable pub value : Judges (Option Ty) → Judges (Unit {0})
  value p = p >>= (λ _. writes_nothing)

  unfoldable pub declared : List ℕ → Given → Given → Place → Judges (Unit {0})
  declared name k v at = checked (ruling.var_wrong x.heads.metas k.is_given k.ty v.is_given v.ty) at
      >>= (λ _. declare name (record { sort = sort.Settable; ty = ruling.var_type k.is_given k.ty v.ty }) at >>= (λ _. writes_nothing))

  -- a variable is in scope from the end of its statement
  unfoldable pub variable : List ℕ → Judges Given → Judges Given → Place → Judges (Unit {0})
  variable name p q at = p >>= (λ k. q >>= (λ v. declared name k v at))

  unfoldable pub bare_target : List ℕ → Place → Judges Aim
  bare_target name at = scope >>= (λ s. aimed refusal.UnknownName at (bare_aim x s name))

  unfoldable pub result_target : Place → Judges Aim
  result_target at = aimed refusal.ResultPlace at (result_aim x.sets_result x.result)

  unfoldable pub member_target : Judges (Option Ty) → List ℕ → Place → Judges Aim
  member_target p name at = p >>= (λ o. aimed refusal.UnknownName at (member_aim x.heads name o))

  -- a property is changed where nothing may be
  abbrev pub change_told : Aim → Option Ty → Option RefusalKind
  change_told a None = None
  change_told a (Some t) = if changes_property a then not_pure x ImpureOne else None

  unfoldable pub assigned : Aim → Bool → Option Ty → Place → Judges (Unit {0})
  assigned a adds v at = checked (change_told a v) at >>= (λ _. checked (assign_wrong x.heads adds a v) at >>= (λ _. writes_nothing))

  unfoldable pub assign : Judges Aim → Bool → (Bool → Judges (Option Ty)) → Place → Judges (Unit {0})
  assign p adds q at = p >>= (λ a. q (takes_late a) >>= (λ v. assigned a adds v at))

  abbrev pub conforms_told : Option Ty → Option Ty → Option RefusalKind
  conforms_told (Some u) (Some t) = ruling.wrong_unless (conforms x.heads.metas t u)
  conforms_told None v = None
  conforms_told (Some u) None = None

  abbrev pub return_told : ReturnRule → Bool → Option Ty → Option RefusalKind
  return_told (Value u) true v = conforms_told u v
  return_told (Value u) false v = Some refusal.BadReturn
  return_told NoValue false v = None
  return_told NoValue true None = None
  return_told NoValue true (Some t) = Some refusal.BadReturn
  return_told Never false v = Some refusal.BadReturn
  return_told Never true None = None
  return_told Never true (Some t) = Some refusal.BadReturn

  unfoldable pub returned : Given → Place → Judges (Unit {0})
  returned v at = checked (return_told x.returns v.is_given v.ty) at >>= (λ _. writes_nothing)

  unfoldable pub return_ : Judges Given → Place → Judges (Unit {0})
  return_ p at = p >>= (λ v. returned v at)

  -- a condition is a Boolean
  abbrev pub condition_told : Option Ty → Option RefusalKind
  condition_told o = conforms_told (Some ty.Boolean) o

  abbrev pub condition_checked : Option Ty → Place → Judges (Unit {0})
  condition_checked c at = checked (condition_told c) at

  unfoldable pub condition : Judges (Option Ty) → Place → Judges (Unit {0})
  condition p at = p >>= (λ c. condition_checked c at)

  -- a condition and its block: the type of the condition
  unfoldable pub arm : Judges (Option Ty) → List (Judges (Unit {0})) → Judges (Option Ty)
  arm p body = p >>= (λ c. block body >>= (λ _. gives c))

  abbrev pub are_conditions : Option (List Ty) → Bool
  are_conditions None = true
  are_conditions (Some ts) = list_all (λ t. conforms x.heads.metas t ty.Boolean) ts

  -- all conditions are parts of the `if`: of one that is no Boolean it is told there, if all have types
  unfoldable pub if_ : Judges (Option Ty) → List (Judges (Unit {0})) → List (Judges (Option Ty)) → List (Judges (Unit {0})) → Place → Judges (Unit {0})
  if_ p body arms otherwise at = arm p body >>= (λ o. all (o ∷ []) arms >>= (λ os. block otherwise
      >>= (λ _. checked (ruling.wrong_unless (are_conditions (all_types os))) at >>= (λ _. writes_nothing))))

  unfoldable pub while_ : Judges (Option Ty) → List (Judges (Unit {0})) → Place → Judges (Unit {0})
  while_ p body at = condition p at >>= (λ _. block body >>= (λ _. writes_nothing))

  abbrev pub is_condition : Option Ty → Bool
  is_condition None = true
  is_condition (Some t) = conforms x.heads.metas t ty.Boolean

  -- of a source with items of type i, a declared type and a condition
  abbrev pub for_each_fits : Option Ty → Given → Given → Bool
  for_each_fits i k c = is_none (iterator_wrong x.heads.metas k.is_given k.ty i) && is_condition c.ty

  -- told where all parts have types
  abbrev pub for_each_told : Option Ty → Given → Given → Option RefusalKind
  for_each_told i k c = ruling.wrong_unless (not (is_some i && (has_type k && has_type c)) || for_each_fits i k c)

  abbrev pub for_each_declared : Option Ty → List ℕ → Given → Place → Judges (Unit {0})
  for_each_declared o name k at = declare name (for_each_known (item_type o) k) at

  abbrev pub for_each_settled : Option Ty → Given → Given → Place → Judges (Unit {0})
  for_each_settled o k c at = checked (for_each_told (item_type o) k c) at >>= (λ _. marks (wraps o) >>= (λ _. gives tt))

  -- the variable is in scope in the condition and the body
  unfoldable pub for_each : Judges (Option Ty) → List ℕ → Judges Given → Judges Given → List (Judges (Unit {0})) → Place → Judges (Unit {0})
  for_each p name q r body at = p >>= (λ o. q >>= (λ k. scoped (for_each_declared o name k at
      >>= (λ _. r
      >>= (λ c. block body
      >>= (λ _. gives c))))
      >>= (λ c. for_each_settled o k c at)))
