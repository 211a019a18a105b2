-- What is accepted, by what is told and noted.
use Rattle.std.proofs.Common.{◌≡◌, ◌∙◌, List, [], ◌++◌, Option, Some, None, Result, Ok, Err, sym, ap, subst}
use Rattle.qvt_metas.specs.Metamodels.{Metamodels}
use Rattle.qvt_tree_types.specs.Module.{ModuleTerm}
use Rattle.qvt_types_data.specs.declared.note.Note.{Note}
use Rattle.qvt_types_data.specs.declared.refusal.TypingRefusal.{TypingRefusal}
use Rattle.qvt_types_laws.specs.JoinModule.{joined}
use Rattle.qvt_types_nodes.specs.Module.{TypedModuleTerm}
use Rattle.qvt_types_nodes.specs.StripModule.{strip}
use Rattle.qvt_types_states.specs.declared.state.TypingState.{TypingState}
use Rattle.qvt_types_paths.specs.ModelTypes.{type_names}
use Rattle.qvt_types_program.specs.declared.declarations.Declarations.{Declarations}
use Rattle.qvt_types_program.specs.Heads.{heads_over}
use Rattle.qvt_types_program.specs.Accepts.{ProgramTerm, accepts, accepted, accepted_by, heads_of, heads_told, judged, least, start, whole}
use Rattle.qvt_types_program.specs.Context.{DeclaredHeads}
use Rattle.qvt_tree_types.specs.declared.module.ModelParam.{ModelParam}
use Rattle.qvt_types_program.specs.Mappings.{AreNumbered}
use Rattle.qvt_types_program.specs.Tables.{tables_of}
use Rattle.qvt_types_program.specs.declared.tables.ProgramTables.{ProgramTables}
use Rattle.qvt_types_program.specs.Program.{given_in, program_of}
use Rattle.qvt_types_program.proofs.Signed.{signed_from}
use Rattle.qvt_types.proofs.Given.{given_again}
use Rattle.qvt_types.specs.Faults.{answered, fault_of}
use Rattle.qvt_types.specs.Laws.{TreeStays}
use Rattle.qvt_types.specs.declared.fault.TypingFault.{TypingFault}

-- judged by the heads that were read
abbrev pub IsJudged : Metamodels → ModuleTerm → Declarations → TypingState → Type 0
IsJudged m t d s = whole (heads_over m d) t (start (heads_told (heads_of m t) t)) ≡ (tt, s)

judged_so : (m : Metamodels) (t : ModuleTerm) (d : Declarations) (s : TypingState) → heads_over m d ≡ heads_of m t → IsJudged m t d s → judged (heads_of m t) t ≡ s
unfolding judged
judged_so m t d s same is = ap (λ h. (whole h t (start (heads_told (heads_of m t) t))).1) (sym same) ∙ ap (λ x. x.1) is

accepts_by : (m : Metamodels) (t : ModuleTerm) (s : TypingState) → judged (heads_of m t) t ≡ s → accepts m t ≡ accepted_by (heads_of m t) t s
unfolding accepts
accepts_by m t s is = ap (λ x. accepted_by (heads_of m t) t x) is

same_heads : (m : Metamodels) (t : ModuleTerm) (d : Declarations) → m.element ≡ None → heads_over m d ≡ heads_of m t → heads_of m t ≡ heads_over (given_in d) d
same_heads m t d none same = sym same ∙ ap (λ x. heads_over x d) (sym (given_again m t d none same))

pub accepted_so : (m : Metamodels) (t : ModuleTerm) (d : Declarations) (s : TypingState) → m.element ≡ None → heads_over m d ≡ heads_of m t → IsJudged m t d s → least s.log ≡ None
    → accepts m t ≡ Ok (program_of (joined t s.notes) d)
accepted_so m t d s none same is quiet =
    accepts_by m t s (judged_so m t d s same is)
    ∙ ap (accepted (heads_of m t) (joined t s.notes)) quiet
    ∙ ap (λ h. Result.Ok (let p : ProgramTerm = record { module_ = joined t s.notes; heads = h } in p)) (same_heads m t d none same)

pub refused_so : (m : Metamodels) (t : ModuleTerm) (d : Declarations) (s : TypingState) (r : TypingRefusal) → heads_over m d ≡ heads_of m t → IsJudged m t d s → least s.log ≡ Some r
    → answered (accepts m t) ≡ Err (fault_of r)
refused_so m t d s r same is told =
    ap answered (accepts_by m t s (judged_so m t d s same is) ∙ ap (accepted (heads_of m t) (joined t s.notes)) told)

signed : (m : Metamodels) (t : ModuleTerm) → AreNumbered 0 (heads_of m t).units
unfolding heads_of
signed m t = signed_from m (type_names m t.model_types t.units) 0 t.units

pub numbered_so : (m : Metamodels) (t : ModuleTerm) (d : Declarations) → heads_over m d ≡ heads_of m t → AreNumbered 0 d.units.units
numbered_so m t d same = subst (λ h. AreNumbered 0 h.units) (sym same) (signed m t)

abbrev module_or : TypedModuleTerm → Result ProgramTerm TypingRefusal → TypedModuleTerm
module_or typed (Ok q) = q.module_
module_or typed (Err r) = typed

in_program : (h : DeclaredHeads) (t : ModuleTerm) (typed : TypedModuleTerm) (o : Option TypingRefusal) (p : ProgramTerm) → accepted h typed o ≡ Ok p → strip typed ≡ t → strip p.module_ ≡ t
in_program h t typed None p e stays = ap (λ x. strip (module_or typed x)) (sym e) ∙ stays
in_program h t typed (Some r) p e stays = absurd (cc)

-- where notes leave every tree
pub tree_stays : ((t : ModuleTerm) (ns : List Note) → strip (joined t ns) ≡ t) → TreeStays
unfolding accepts
tree_stays leaves m t p e = in_program (heads_of m t) t (joined t (judged (heads_of m t) t).notes) (least (judged (heads_of m t) t).log) p e (leaves t (judged (heads_of m t) t).notes)

-- what is told of the heads comes first
pub judged_by : (m : Metamodels) (t : ModuleTerm) (d : Declarations) (h : DeclaredHeads) (s : TypingState) (before told : List TypingRefusal)
    → h ≡ heads_over m d → before ≡ [] → told ≡ before ++ heads_told (heads_of m t) t → whole h t (start told) ≡ (tt, s) → IsJudged m t d s
judged_by m t d h s before told heads-are none-before told-is is =
    ap (λ k. whole k t (start (heads_told (heads_of m t) t))) (sym heads-are)
    ∙ ap (λ l. whole h t (start l)) (sym (told-is ∙ ap (λ l. l ++ heads_told (heads_of m t) t) none-before))
    ∙ is

-- the tables of a tree joined with notes are those of the tree
pub tables_so : (t : ModuleTerm) (ns : List Note) (typed : TypedModuleTerm) (ps : List ModelParam) (d : Declarations) (tables : ProgramTables)
    → tables ≡ tables_of ps d → ps ≡ t.params → strip (joined t ns) ≡ t → typed ≡ joined t ns → tables ≡ tables_of (strip typed).params d
tables_so t ns typed ps d tables is params-are leaves typed-is =
    is ∙ ap (λ xs. tables_of xs d) (params-are ∙ ap (λ u. u.params) (sym leaves) ∙ ap (λ x. (strip x).params) (sym typed-is))

pub accepted_as : (m : Metamodels) (t : ModuleTerm) (d : Declarations) (s : TypingState) (ns : List Note) (p : ProgramTerm) → m.element ≡ None → heads_over m d ≡ heads_of m t → IsJudged m t d s → least s.log ≡ None
    → ns ≡ s.notes → p ≡ program_of (joined t ns) d → accepts m t ≡ Ok p
accepted_as m t d s ns p none same is quiet notes-are p-is =
    accepted_so m t d s none same is quiet ∙ ap (λ q. Result.Ok q) (ap (λ xs. program_of (joined t xs) d) (sym notes-are) ∙ sym p-is)

pub refused_as : (m : Metamodels) (t : ModuleTerm) (d : Declarations) (s : TypingState) (r : TypingRefusal) (f : TypingFault) → heads_over m d ≡ heads_of m t → IsJudged m t d s → least s.log ≡ Some r → f ≡ fault_of r
    → answered (accepts m t) ≡ Err f
refused_as m t d s r f same is told f-is = refused_so m t d s r same is told ∙ ap (λ e. Result.Err e) (sym f-is)
