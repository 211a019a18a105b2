-- What some rules of typing do once a part of a node is judged.
use Rattle.std.specs.Prelude.{ℕ, Bool, false, if◌then◌else◌, List, Option}
use Rattle.qvt_base.specs.declared.numbers.Place.{Place}
use Rattle.qvt_tree_types.specs.declared.words.ResolveWord.{ResolveWord}
use Rattle.qvt_types_data.specs.declared.ruling.Read.{Read}
use Rattle.qvt_types_data.specs.declared.ty.Ty.{Ty}
use Rattle.qvt_types_states.specs.Judge.{Judges, ◌>>=◌, scoped}
use Rattle.qvt_types_steps.specs.Calls.{dot_call}
use Rattle.qvt_types_steps.specs.declared.classes.ClassPart.{ClassPart}
use Rattle.qvt_types_steps.specs.declared.resolves.Joint.{Joint}
use Rattle.qvt_typing.specs.Calls.{called_behind, effect_of, unit_ruled}
use Rattle.qvt_typing.specs.Context.{TypingContext}
use Rattle.qvt_typing.specs.Rules.{declare_filter, looked_for, reads_operation, resolve_ruled, stepped}
use Rattle.qvt_typing.specs.declared.parts.Effect.TheVariants.{PlainOne}
use Rattle.qvt_typing.specs.declared.parts.Filtered.{Filtered}
use Rattle.qvt_typing.specs.declared.parts.Given.{Given}
use Rattle.qvt_typing.specs.declared.parts.Within.{Within}

-- the condition of a filter, in which what is filtered is in scope
abbrev pub filter_condition : Option (List ℕ) → ClassPart → Place → Judges Given → Judges Given
filter_condition name c at p = scoped (declare_filter name c at >>= (λ _. p))

-- a step behind a dot by the types of its arguments: the operation of the name that the source has, else a helper or a query
abbrev pub call_settled : TypingContext → List ℕ → Option (List Ty) → Place → Option Ty → Judges (Option Ty)
call_settled x name us at o =
    if reads_operation name o then stepped x (dot_call x.heads.metas name o us) PlainOne at
    else stepped x (unit_ruled x.heads o (called_behind x.heads false false name o) us) (effect_of x.heads (called_behind x.heads false false name o)) at

-- a resolve, up to its note
abbrev pub resolve_read : TypingContext → Bool → Bool → Joint → ResolveWord → Option Ty → Judges Within → Judges Filtered → Place → Judges Read
resolve_read x allowed late j w o p q at = p >>= (λ i. q >>= (λ f. resolve_ruled x allowed late j w o (looked_for x w i f) at))
