-- What some rules of typing do once a part of a statement is judged.
use Rattle.std.specs.Prelude.{List, Option}
use Rattle.qvt_base.specs.declared.numbers.Place.{Place}
use Rattle.qvt_types_data.specs.declared.ty.Ty.{Ty}
use Rattle.qvt_types_states.specs.Judge.{Judges, ◌>>=◌, checked, gives, writes_nothing}
use Rattle.qvt_types_words.specs.Rulings.{wrong_unless}
use Rattle.qvt_typing.specs.Context.{TypingContext}
use Rattle.qvt_typing.specs.Rules.{all_types}
use Rattle.qvt_typing.specs.Statements.{are_conditions, block}
use Rattle.qvt_typing.specs.declared.parts.Given.{Given}

-- an `if` by the types of its conditions
abbrev pub if_settled : TypingContext → List (Option Ty) → Place → Judges (Unit {0})
if_settled x os at = checked (wrong_unless (are_conditions x (all_types os))) at >>= (λ _. writes_nothing)

-- the condition and the body of a loop
abbrev pub turn : TypingContext → Judges Given → List (Judges (Unit {0})) → Judges Given
turn x r body = r >>= (λ c. block x body >>= (λ _. gives c))
