-- What is ruled of calls does not ask for the metamodels of the job.
use Rattle.std.proofs.Common.{◌≡◌, ◌∙◌, ℕ, Bool, true, false, List, Option, ap}
use Rattle.qvt_types_data.specs.declared.ty.Ty.{Ty}
use Rattle.qvt_types_data.specs.declared.ruling.Ruling.{Ruling}
use Rattle.qvt_types_program.specs.Program.{heads_in}
use Rattle.qvt_types_program.specs.Accepts.{ProgramTerm}
use Rattle.qvt_meaning.specs.Calls.{called_behind, unit_ruled, map_ruled}
use Rattle.qvt_types_program.specs.Context.{DeclaredHeads}
use Rattle.qvt_meaning.specs.declared.parts.Called.{Called}
use Rattle.qvt_meaning.specs.StepTypes.{answer_of}

pub unit_asked : (p : ProgramTerm) (h : DeclaredHeads) (name : List ℕ) (o : Option Ty) (us : Option (List Ty)) → h ≡ heads_in p
    → unit_ruled h o (called_behind h false false name o) us ≡ unit_ruled p.heads o (called_behind p.heads false false name o) us
unit_asked p h name o us e = ap (λ k. unit_ruled k o (called_behind k false false name o) us) e

pub map_asked : (p : ProgramTerm) (h : DeclaredHeads) (arrow : Bool) (name : List ℕ) (o : Option Ty) (us : Option (List Ty)) → h ≡ heads_in p
    → map_ruled h arrow o (called_behind h true arrow name o) us ≡ map_ruled p.heads arrow o (called_behind p.heads true arrow name o) us
map_asked p h arrow name o us e = ap (λ k. map_ruled k arrow o (called_behind k true arrow name o) us) e

pub unit_answered : (p : ProgramTerm) (h : DeclaredHeads) (name said : List ℕ) (o : Option Ty) (us ts : Option (List Ty)) (c : Called) (r : Ruling) (a : Option Ty)
    → h ≡ heads_in p → said ≡ name → c ≡ called_behind h false false said o → ts ≡ us → r ≡ unit_ruled h o c ts → a ≡ answer_of r
    → a ≡ answer_of (unit_ruled p.heads o (called_behind p.heads false false name o) us)
unit_answered p h name said o us ts c r a e1 e2 e3 e4 e5 e6 =
    e6 ∙ ap answer_of (e5 ∙ ap (λ (k : Called). unit_ruled h o k ts) e3
    ∙ ap (λ (n : List ℕ). unit_ruled h o (called_behind h false false n o) ts) e2
    ∙ ap (λ (vs : Option (List Ty)). unit_ruled h o (called_behind h false false name o) vs) e4
    ∙ unit_asked p h name o us e1)

pub map_answered : (p : ProgramTerm) (h : DeclaredHeads) (arrow : Bool) (name said : List ℕ) (o : Option Ty) (us ts : Option (List Ty)) (c : Called) (r : Ruling) (a : Option Ty)
    → h ≡ heads_in p → said ≡ name → c ≡ called_behind h true arrow said o → ts ≡ us → r ≡ map_ruled h arrow o c ts → a ≡ answer_of r
    → a ≡ answer_of (map_ruled p.heads arrow o (called_behind p.heads true arrow name o) us)
map_answered p h arrow name said o us ts c r a e1 e2 e3 e4 e5 e6 =
    e6 ∙ ap answer_of (e5 ∙ ap (λ (k : Called). map_ruled h arrow o k ts) e3
    ∙ ap (λ (n : List ℕ). map_ruled h arrow o (called_behind h true arrow n o) ts) e2
    ∙ ap (λ (vs : Option (List Ty)). map_ruled h arrow o (called_behind h true arrow name o) vs) e4
    ∙ map_asked p h arrow name o us e1)
