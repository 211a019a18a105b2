-- What the calls that make nodes give: the node that is meant, in a box. Only memory may be wanting.
use Rattle.std.specs.Prelude.{◌≡◌, List, Option, Result, Ok, Err, Box}
use Rattle.std.specs.Option.{option_map}
use Rattle.std.specs.declared.alloc.Global.{Global}
use Rattle.qvt_base.specs.declared.list_fault.ListFault.{ListFault}
use Rattle.qvt_types_data.specs.declared.note.Note.{Note}
use Rattle.qvt_types_laws.specs.Join.{gives, ◌>>=◌, next_note}

-- the view of what a box holds
abbrev pub held : {A B : Type 0} → (A → B) → Box A Global → B
held view b = view b.value

-- what the box holds, where there is one
abbrev pub unboxed : {A : Type 0} → Option (Box A Global) → Option A
unboxed o = option_map (λ b. b.value) o

-- a node
abbrev pub MakesNode : {A B : Type 0} → (A → B) → B → Result (Box A Global) ListFault → Type 0
MakesNode view node (Ok b) = held view b ≡ node
MakesNode view node (Err e) = Unit {0}

-- a node with the next note, and the notes after it
abbrev pub Noted : {A B : Type 0} → (A → B) → (Note → B) → List Note → Result (Box A Global) ListFault → List Note → Type 0
Noted view node old (Ok b) new = (next_note >>= (λ n. gives (node n))) old ≡ (held view b, new)
Noted view node old (Err e) new = Unit {0}
