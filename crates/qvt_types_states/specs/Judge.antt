-- What judging a node does: it gives the type of the node, if it has one, and leaves a state.
use Rattle.std.specs.Prelude.{ℕ, ◌+◌, if◌then◌else◌, List, [], ◌∷◌, ◌++◌, Option, Some, None}
use Rattle.qvt_base.specs.declared.numbers.Place.{Place}
use Rattle.qvt_base.specs.declared.numbers.ExprNo.{ExprNo}
use Rattle.qvt_types_data.specs.Notes.{told, noted, marked, bare}
use Rattle.qvt_types_data.specs.declared.ty.Ty.{Ty}
use Rattle.qvt_types_data.specs.declared.note.Note.{Note}
use Rattle.qvt_types_data.specs.declared.refusal.RefusalKind.{RefusalKind}
use Rattle.qvt_types_data.specs.declared.refusal.RefusalKind.TheVariants as refusal
use Rattle.qvt_types_data.specs.declared.ruling.Read.{Read}
use Rattle.qvt_types_data.specs.declared.ruling.Ruling.{Ruling}
use Rattle.qvt_types_data.specs.declared.variable.Variable.{Variable}
use Rattle.qvt_types_states.specs.Scopes.{ScopeTerm, is_known, with_named, with_source, back_to}
use Rattle.qvt_types_states.specs.declared.scope.Known.{Known}
use Rattle.qvt_types_states.specs.declared.state.TypingState.{TypingState}

abbrev pub Judges : Type 0 → Type 0
Judges A = TypingState → A × TypingState

infixl 10 ◌>>=◌
abbrev pub ◌>>=◌ : {A B : Type 0} → Judges A → (A → Judges B) → Judges B
(p >>= f) s = f (p s).0 (p s).1

abbrev pub gives : {A : Type 0} → A → Judges A
gives a s = (a, s)

-- the number of an expression: numbers go up in text order, the outer expression first
abbrev pub fresh : Judges ExprNo
fresh s = (record { 0 = s.next }, record s { next = s.next + 1 })

-- the scope
abbrev pub scope : Judges ScopeTerm
scope s = (s.scope, s)

abbrev pub in_scope : (ScopeTerm → ScopeTerm) → Judges (Unit {0})
in_scope f s = (tt, record s { scope = f s.scope })

-- an implicit source
abbrev pub add_source : Variable → Judges (Unit {0})
add_source v = in_scope (with_source v)

-- what is declared inside is out of scope after it
abbrev pub scoped : {A : Type 0} → Judges A → Judges A
scoped p s = ((p s).0, record (p s).1 { scope = back_to s.scope (p s).1.scope })

abbrev pub tell : RefusalKind → Place → Judges (Unit {0})
tell k at s = (tt, record s { log = s.log ++ record { kind = k; place = at } ∷ [] })

-- a refusal that leaves types standing
abbrev pub checked : Option RefusalKind → Place → Judges (Unit {0})
checked None at = gives tt
checked (Some k) at = tell k at

-- a variable: one whose name is in scope already is not declared again
abbrev pub declare : List ℕ → Known → Place → Judges (Unit {0})
declare name k at s = (if is_known name s.scope then tell refusal.SameName at else in_scope (with_named name k)) s

-- how a node is read after its ruling, which tells its refusal if it fails
abbrev pub settled : Ruling → Place → Judges Read
settled r at = checked (told r).0 at >>= (λ _. gives (told r).1)

-- a note is written after those of the node's parts
abbrev pub write : Note → Judges (Unit {0})
write n s = (tt, record s { notes = s.notes ++ n ∷ [] })

-- the note of an expression, and its type
abbrev pub answers : ExprNo → Read → Judges (Option Ty)
answers n r = write (noted n r) >>= (λ _. gives r.answer)

-- the note of a node that is no expression, and the type that it stands for
abbrev pub marks : Read → Judges (Option Ty)
marks r = write (marked r) >>= (λ _. gives r.answer)

-- a note on which nothing is written
abbrev pub writes_nothing : Judges (Unit {0})
writes_nothing = write bare
