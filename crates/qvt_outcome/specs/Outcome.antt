-- How a command ends: the outcome of a job over the bytes that the files hold, its status, its line and the files after it.
use Rattle.std.specs.Prelude.{ℕ, List, [], ◌∷◌, ◌++◌, codes, decimal}
use Rattle.std.specs.FinMap as map
use Rattle.qvt_base.specs.Outside.{Held}
use Rattle.qvt_base.specs.declared.numbers.Place.{Place}
use Rattle.qvt_lexer.specs.declared.token.LexKind.{LexKind}
use Rattle.qvt_lexer.specs.declared.token.LexKind.TheVariants as lex
use Rattle.qvt_parsed.specs.declared.fault.ParseFault.{ParseFault}
use Rattle.qvt_parsed.specs.declared.fault.ParseFault.TheVariants as parse
use Rattle.qvt_types_data.specs.declared.refusal.TypingRefusal.{TypingRefusal}
use Rattle.qvt_types_data.specs.declared.refusal.RefusalKind.{RefusalKind}
use Rattle.qvt_types_data.specs.declared.refusal.RefusalKind.TheVariants as typing
use Rattle.qvt_metamodel.specs.declared.fault.MetaFault.{MetaFault}
use Rattle.qvt_metamodel.specs.declared.fault.MetaFault.TheVariants as meta
use Rattle.qvt_metamodel.specs.declared.fault.MetasFault.{MetasFault}
use Rattle.qvt_metamodel.specs.declared.fault.MetasFault.TheVariants as metas
use Rattle.qvt_model.specs.declared.data.ModelFault.{ModelFault}
use Rattle.qvt_model.specs.declared.data.ModelFault.TheVariants as model
use Rattle.qvt_conform.specs.declared.fault.ConformFault.{ConformFault}
use Rattle.qvt_conform.specs.declared.fault.ConformFault.TheVariants as conform
use Rattle.qvt_job.specs.declared.job.JobFault.{JobFault}
use Rattle.qvt_job.specs.declared.job.JobFault.TheVariants as job
use Rattle.qvt_lines.specs.Lines.{out_of_fuel_line, low_line}
use Rattle.qvt_outcome.specs.declared.status.Status.{Status}
use Rattle.qvt_outcome.specs.declared.status.Status.TheVariants as status
use Rattle.qvt_outcome.specs.declared.refusal.Refusal.{Refusal}
use Rattle.qvt_outcome.specs.declared.refusal.Refusal.TheVariants as refusal

abbrev pub status_number : Status → ℕ
status_number status.Done = 0
status_number status.Refused = 1
status_number status.Usage = 2
status_number status.Fault = 3
status_number status.OutOfFuel = 4
status_number status.Low = 5
status_number status.ReadFault = 6
status_number status.WriteFault = 7
status_number status.NoMemory = 8

-- a file and the bytes that it is to hold
abbrev pub File : Type 0
File = List ℕ × List ℕ

-- a fault of the run has its line
pub data Outcome : Type 0 where
  usage : Outcome
  refused : List ℕ → Refusal → Outcome
  fault : List ℕ → Outcome
  out_of_fuel : ℕ → Outcome
  low : List ℕ → List ℕ → List ℕ → Outcome
  done : List File → List ℕ → Outcome

-- a name and what it carries, parted by blanks
abbrev pub with_one : List ℕ → List ℕ → List ℕ
with_one name a = name ++ (codes " " ++ a)

abbrev pub with_two : List ℕ → List ℕ → List ℕ → List ℕ
with_two name a b = name ++ (codes " " ++ (a ++ (codes " " ++ b)))

-- a name and a place in the text, by its line and its column
abbrev pub with_place : List ℕ → Place → List ℕ
with_place name p = name ++ (codes " at " ++ (decimal p.line ++ (codes ":" ++ decimal p.column)))

abbrev pub lex_name : LexKind → List ℕ
lex_name lex.BadChar = codes "BadChar"
lex_name lex.OpenText = codes "OpenText"
lex_name lex.OpenComment = codes "OpenComment"
lex_name lex.BadEscape = codes "BadEscape"
lex_name lex.NumberTooLarge = codes "NumberTooLarge"

abbrev pub parse_text : ParseFault → List ℕ
parse_text parse.NoMemory = codes "no memory"
parse_text (parse.Lex f) = with_place (lex_name f.kind) f.place
parse_text (parse.TooDeep place) = with_place (codes "TooDeep") place
parse_text (parse.Syntax place) = with_place (codes "Syntax") place

abbrev pub typing_name : RefusalKind → List ℕ
typing_name typing.UnknownMetamodel = codes "UnknownMetamodel"
typing_name typing.UnknownName = codes "UnknownName"
typing_name typing.UnknownType = codes "UnknownType"
typing_name typing.SameName = codes "SameName"
typing_name typing.Ambiguous = codes "Ambiguous"
typing_name typing.WrongType = codes "WrongType"
typing_name typing.WrongCount = codes "WrongCount"
typing_name typing.NotPure = codes "NotPure"
typing_name typing.LatePlace = codes "LatePlace"
typing_name typing.NotPlain = codes "NotPlain"
typing_name typing.ReuseCycle = codes "ReuseCycle"
typing_name typing.BadReuse = codes "BadReuse"
typing_name typing.BadOverride = codes "BadOverride"
typing_name typing.BadContext = codes "BadContext"
typing_name typing.BadTarget = codes "BadTarget"
typing_name typing.BadReturn = codes "BadReturn"
typing_name typing.BadExtent = codes "BadExtent"
typing_name typing.AbstractClass = codes "AbstractClass"
typing_name typing.ResultPlace = codes "ResultPlace"
typing_name typing.BadDisjunct = codes "BadDisjunct"
typing_name typing.ModelUse = codes "ModelUse"
typing_name typing.NoMain = codes "NoMain"

abbrev pub typing_text : TypingRefusal → List ℕ
typing_text r = with_place (typing_name r.kind) r.place

abbrev pub job_text : JobFault → List ℕ
job_text job.NoMemory = codes "no memory"
job_text job.Json = codes "Json"
job_text (job.Shape path) = with_one (codes "Shape") path
job_text job.TooManyFiles = codes "TooManyFiles"
job_text (job.SameFile file) = with_one (codes "SameFile") file

abbrev pub metamodel_text : MetaFault → List ℕ
metamodel_text meta.NoMemory = codes "no memory"
metamodel_text meta.Json = codes "Json"
metamodel_text (meta.Shape path) = with_one (codes "Shape") path
metamodel_text (meta.SameName name) = with_one (codes "SameName") name
metamodel_text (meta.UnknownType class name) = with_two (codes "UnknownType") class name
metamodel_text (meta.InheritanceCycle class) = with_one (codes "InheritanceCycle") class
metamodel_text (meta.BadBounds class feature) = with_two (codes "BadBounds") class feature
metamodel_text (meta.BadOpposite class feature) = with_two (codes "BadOpposite") class feature
metamodel_text (meta.SameFeature class feature) = with_two (codes "SameFeature") class feature

abbrev pub metamodels_text : MetasFault → List ℕ
metamodels_text metas.NoMemory = codes "no memory"
metamodels_text (metas.SameMetamodel name) = with_one (codes "SameMetamodel") name

abbrev pub model_fault_text : ModelFault → List ℕ
model_fault_text model.NoMemory = codes "no memory"
model_fault_text model.Json = codes "Json"
model_fault_text (model.Shape path) = with_one (codes "Shape") path
model_fault_text (model.SameId id) = with_one (codes "SameId") id
model_fault_text (model.UnknownClass id) = with_one (codes "UnknownClass") id
model_fault_text (model.UnknownFeature id) = with_one (codes "UnknownFeature") id
model_fault_text (model.WrongValue id feature) = with_two (codes "WrongValue") id feature
model_fault_text (model.DanglingId id feature) = with_two (codes "DanglingId") id feature

abbrev pub conform_text : ConformFault → List ℕ
conform_text conform.NoMemory = codes "no memory"
conform_text (conform.Abstract id) = with_one (codes "Abstract") id
conform_text (conform.Bounds id feature) = with_two (codes "Bounds") id feature
conform_text (conform.NotUnique id feature) = with_two (codes "NotUnique") id feature
conform_text (conform.Opposite id feature) = with_two (codes "Opposite") id feature
conform_text (conform.TwoContainers id) = with_one (codes "TwoContainers") id
conform_text (conform.ContainmentCycle id) = with_one (codes "ContainmentCycle") id

-- the refusal's name and detail
abbrev pub refusal_text : Refusal → List ℕ
refusal_text refusal.Missing = codes "Missing"
refusal_text refusal.TooLarge = codes "TooLarge"
refusal_text (refusal.Job why) = job_text why
refusal_text (refusal.Metamodel why) = metamodel_text why
refusal_text (refusal.Metamodels why) = metamodels_text why
refusal_text (refusal.Model why) = model_fault_text why
refusal_text refusal.TooManyObjects = codes "TooManyObjects"
refusal_text (refusal.Conform why) = conform_text why
refusal_text refusal.Utf8 = codes "Utf8"
refusal_text (refusal.Parse why) = parse_text why
refusal_text (refusal.Typing why) = typing_text why
refusal_text (refusal.JobModels model) = with_one (codes "JobModels") model

abbrev pub usage_line : List ℕ
usage_line = codes "usage: qvto run JOB or check METAMODEL MODEL or print FILE or demo N" ++ 10 ∷ []

abbrev pub no_memory_line : List ℕ
no_memory_line = codes "no memory" ++ 10 ∷ []

abbrev pub refused_line : List ℕ → Refusal → List ℕ
refused_line file why = codes "refused: " ++ (file ++ (codes ": " ++ (refusal_text why ++ 10 ∷ [])))

abbrev pub conforms_line : ℕ → List ℕ
conforms_line objects = codes "conforms: " ++ (decimal objects ++ (codes " objects" ++ 10 ∷ []))

abbrev pub read_fault_line : List ℕ → List ℕ
read_fault_line file = codes "cannot read: " ++ (file ++ 10 ∷ [])

abbrev pub write_fault_line : List ℕ → List ℕ
write_fault_line file = codes "cannot write: " ++ (file ++ 10 ∷ [])

abbrev pub status_of : Outcome → Status
status_of usage = status.Usage
status_of (refused file why) = status.Refused
status_of (fault line) = status.Fault
status_of (out_of_fuel fuel) = status.OutOfFuel
status_of (low model id feature) = status.Low
status_of (done files text) = status.Done

-- the text on the sink
abbrev pub report : Outcome → List ℕ
report usage = usage_line
report (refused file why) = refused_line file why
report (fault line) = line
report (out_of_fuel fuel) = out_of_fuel_line fuel
report (low model id feature) = low_line model id feature
report (done files text) = text

-- one file after the other
abbrev pub put_all : List File → Held → Held
put_all [] held = held
put_all (f ∷ fs) held = put_all fs (map.insert held f.0 f.1)

-- the files that the outcome writes, in order
abbrev pub files_of : Outcome → List File
files_of usage = []
files_of (refused file why) = []
files_of (fault line) = []
files_of (out_of_fuel fuel) = []
files_of (low model id feature) = []
files_of (done files text) = files

abbrev pub files_after : Outcome → Held → Held
files_after o held = put_all (files_of o) held
