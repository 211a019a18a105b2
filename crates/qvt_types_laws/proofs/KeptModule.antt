-- A transformation without its notes, joined with its notes again.
use Rattle.std.proofs.Common.{ℕ, ◌≡◌, refl, List, [], ◌∷◌, map, Option, Some, None}
use Rattle.qvt_base.specs.declared.numbers.Place.{Place}
use Rattle.qvt_types_data.specs.declared.note.Note.{Note}
use Rattle.qvt_types_nodes.specs.declared.types.TypedPathTree.{TypedPathTree}
use Rattle.qvt_types_nodes.specs.declared.module.TypedResultDecl.{TypedResultDecl}
use Rattle.qvt_types_nodes.specs.declared.module.TypedModelType.{TypedModelType}
use Rattle.qvt_types_nodes.specs.declared.module.TypedModelParam.{TypedModelParam}
use Rattle.qvt_types_nodes.specs.Module.{TypedMember, TypedClassTerm, TypedHelperTerm, TypedMappingTerm, TypedUnitTerm, TypedClassOf, TypedMainOf, TypedHelperOf, TypedConstructorOf, TypedMappingOf, TypedModuleTerm}
use Rattle.qvt_types_nodes.specs.Tree.{TypedOptionalExpr, TypedStmtTerms}
use Rattle.qvt_types_nodes.specs.Strip.{strip_path, strip_optional_expr, strip_stmts}
use Rattle.qvt_types_nodes.specs.StripModule.{strip_paths, strip_member, strip_class, strip_helper, strip_result, strip_mapping, strip_unit, strip_model_type, strip_model_param, strip}
use Rattle.qvt_types_laws.specs.Join.{NoteTaker, gives, ◌>>=◌, next_note, join_path, join_optional_type, join_optional_expr, join_stmts}
use Rattle.qvt_types_laws.specs.JoinModule.{join_all, join_member, join_class, join_helper, join_result, join_mapping, join_unit, join_model_type, join_model_param, join_module, joined}
use Rattle.qvt_types_laws.specs.NotesOf.{NoteGiver, notes_path}
use Rattle.qvt_types_laws.specs.NotesOfModule.{notes_all, notes_member, notes_class, notes_helper, notes_result, notes_mapping, notes_unit, notes_model_type, notes_model_param, notes_of}
use Rattle.qvt_types_laws.proofs.Kept.{then, kept_path, kept_type, kept_optional_type, kept_optional_expr, kept_stmts}

-- what a part without its notes is joined to with its notes
abbrev Kept : {A B : Type 0} → (A → NoteTaker B) → (B → A) → NoteGiver B → B → List Note → Type 0
Kept p f notes it ns = p (f it) (notes it ns) ≡ (it, ns)

kept_all : {A B : Type 0} (p : A → NoteTaker B) (f : B → A) (notes : NoteGiver B) → ((it : B) (ns : List Note) → Kept p f notes it ns) → (its : List B) (ns : List Note) → Kept (join_all p) (map f) (notes_all notes) its ns
kept_all p f notes each [] ns = refl
kept_all p f notes each (it ∷ its) ns =
    then (λ x. join_all p (map f its) >>= (λ xs. gives (x ∷ xs))) (each it _)
    (then (λ xs. gives (it ∷ xs)) (kept_all p f notes each its ns) refl)

kept_paths : (paths : List TypedPathTree) (ns : List Note) → Kept (join_all join_path) strip_paths (notes_all notes_path) paths ns
kept_paths paths ns = kept_all join_path strip_path notes_path kept_path paths ns

kept_member : (m : TypedMember) (ns : List Note) → Kept join_member strip_member notes_member m ns
kept_member m ns = then (λ t. next_note >>= (λ n. gives (record { name = m.name; kind = t; place = m.place; note = n }))) (kept_type m.kind _) refl

kept_members : (ms : List TypedMember) (ns : List Note) → Kept (join_all join_member) (map strip_member) (notes_all notes_member) ms ns
kept_members ms ns = kept_all join_member strip_member notes_member kept_member ms ns

kept_class : (c : TypedClassTerm) (ns : List Note) → Kept join_class strip_class notes_class c ns
kept_class c ns =
    then (λ supers. join_all join_member (map strip_member c.features) >>= (λ features. next_note
    >>= (λ n. gives (record { name = c.name; supers = supers; features = features; place = c.place; note = n })))) (kept_paths c.supers _)
    (then (λ features. next_note >>= (λ n. gives (record { name = c.name; supers = c.supers; features = features; place = c.place; note = n }))) (kept_members c.features _) refl)

kept_helper : (h : TypedHelperTerm) (ns : List Note) → Kept join_helper strip_helper notes_helper h ns
kept_helper h ns =
    let whole = strip_helper h in
    then (λ params. join_optional_type whole.answer >>= (λ answer. join_stmts whole.body >>= (λ body. next_note
    >>= (λ n. gives (record { pure = h.pure; path = h.path; params = params; answer = answer; body = body; place = h.place; note = n }))))) (kept_members h.params _)
    (then (λ answer. join_stmts whole.body >>= (λ body. next_note
    >>= (λ n. gives (record { pure = h.pure; path = h.path; params = h.params; answer = answer; body = body; place = h.place; note = n })))) (kept_optional_type h.answer _)
    (then (λ body. next_note >>= (λ n. gives (record { pure = h.pure; path = h.path; params = h.params; answer = h.answer; body = body; place = h.place; note = n }))) (kept_stmts h.body _) refl))

kept_result : (o : Option TypedResultDecl) (ns : List Note) → Kept join_result strip_result notes_result o ns
kept_result None ns = refl
kept_result (Some r) ns = refl

-- a mapping of these parts
abbrev mapping_of : List (List ℕ) → List TypedMember → Option TypedResultDecl → List TypedPathTree → List TypedPathTree → List TypedPathTree → TypedOptionalExpr → TypedStmtTerms → TypedStmtTerms → TypedStmtTerms → Place → Note → TypedMappingTerm
mapping_of path params decl inherits merges disjuncts condition init population finish place n = record {
  path = path;
  params = params;
  result_decl = decl;
  inherits = inherits;
  merges = merges;
  disjuncts = disjuncts;
  condition = condition;
  init = init;
  population = population;
  finish = finish;
  place = place;
  note = n;
}

kept_mapping : (m : TypedMappingTerm) (ns : List Note) → Kept join_mapping strip_mapping notes_mapping m ns
kept_mapping m ns =
    then (λ params. join_result (strip_result m.result_decl) >>= (λ decl. join_all join_path (strip_paths m.inherits) >>= (λ inherits. join_all join_path (strip_paths m.merges) >>= (λ merges. join_all join_path (strip_paths m.disjuncts) >>= (λ disjuncts. join_optional_expr (strip_optional_expr m.condition) >>= (λ condition. join_stmts (strip_stmts m.init) >>= (λ init. join_stmts (strip_stmts m.population) >>= (λ population. join_stmts (strip_stmts m.finish) >>= (λ finish. next_note >>= (λ n. gives (mapping_of m.path params decl inherits merges disjuncts condition init population finish m.place n))))))))))) (kept_members m.params _)
    (then (λ decl. join_all join_path (strip_paths m.inherits) >>= (λ inherits. join_all join_path (strip_paths m.merges) >>= (λ merges. join_all join_path (strip_paths m.disjuncts) >>= (λ disjuncts. join_optional_expr (strip_optional_expr m.condition) >>= (λ condition. join_stmts (strip_stmts m.init) >>= (λ init. join_stmts (strip_stmts m.population) >>= (λ population. join_stmts (strip_stmts m.finish) >>= (λ finish. next_note >>= (λ n. gives (mapping_of m.path m.params decl inherits merges disjuncts condition init population finish m.place n)))))))))) (kept_result m.result_decl _)
    (then (λ inherits. join_all join_path (strip_paths m.merges) >>= (λ merges. join_all join_path (strip_paths m.disjuncts) >>= (λ disjuncts. join_optional_expr (strip_optional_expr m.condition) >>= (λ condition. join_stmts (strip_stmts m.init) >>= (λ init. join_stmts (strip_stmts m.population) >>= (λ population. join_stmts (strip_stmts m.finish) >>= (λ finish. next_note >>= (λ n. gives (mapping_of m.path m.params m.result_decl inherits merges disjuncts condition init population finish m.place n))))))))) (kept_paths m.inherits _)
    (then (λ merges. join_all join_path (strip_paths m.disjuncts) >>= (λ disjuncts. join_optional_expr (strip_optional_expr m.condition) >>= (λ condition. join_stmts (strip_stmts m.init) >>= (λ init. join_stmts (strip_stmts m.population) >>= (λ population. join_stmts (strip_stmts m.finish) >>= (λ finish. next_note >>= (λ n. gives (mapping_of m.path m.params m.result_decl m.inherits merges disjuncts condition init population finish m.place n)))))))) (kept_paths m.merges _)
    (then (λ disjuncts. join_optional_expr (strip_optional_expr m.condition) >>= (λ condition. join_stmts (strip_stmts m.init) >>= (λ init. join_stmts (strip_stmts m.population) >>= (λ population. join_stmts (strip_stmts m.finish) >>= (λ finish. next_note >>= (λ n. gives (mapping_of m.path m.params m.result_decl m.inherits m.merges disjuncts condition init population finish m.place n))))))) (kept_paths m.disjuncts _)
    (then (λ condition. join_stmts (strip_stmts m.init) >>= (λ init. join_stmts (strip_stmts m.population) >>= (λ population. join_stmts (strip_stmts m.finish) >>= (λ finish. next_note >>= (λ n. gives (mapping_of m.path m.params m.result_decl m.inherits m.merges m.disjuncts condition init population finish m.place n)))))) (kept_optional_expr m.condition _)
    (then (λ init. join_stmts (strip_stmts m.population) >>= (λ population. join_stmts (strip_stmts m.finish) >>= (λ finish. next_note >>= (λ n. gives (mapping_of m.path m.params m.result_decl m.inherits m.merges m.disjuncts m.condition init population finish m.place n))))) (kept_stmts m.init _)
    (then (λ population. join_stmts (strip_stmts m.finish) >>= (λ finish. next_note >>= (λ n. gives (mapping_of m.path m.params m.result_decl m.inherits m.merges m.disjuncts m.condition m.init population finish m.place n)))) (kept_stmts m.population _)
    (then (λ finish. next_note >>= (λ n. gives (mapping_of m.path m.params m.result_decl m.inherits m.merges m.disjuncts m.condition m.init m.population finish m.place n))) (kept_stmts m.finish _) refl))))))))

kept_unit : (u : TypedUnitTerm) (ns : List Note) → Kept join_unit strip_unit notes_unit u ns
kept_unit (TypedClassOf c) ns = then (λ d. gives (TypedClassOf d)) (kept_class c ns) refl
kept_unit (TypedMainOf body place n) ns = then (λ ss. next_note >>= (λ n'. gives (TypedMainOf ss place n'))) (kept_stmts body _) refl
kept_unit (TypedHelperOf h) ns = then (λ g. gives (TypedHelperOf g)) (kept_helper h ns) refl
kept_unit (TypedConstructorOf h) ns = then (λ g. gives (TypedConstructorOf g)) (kept_helper h ns) refl
kept_unit (TypedMappingOf m) ns = then (λ g. gives (TypedMappingOf g)) (kept_mapping m ns) refl

kept_model_type : (m : TypedModelType) (ns : List Note) → Kept join_model_type strip_model_type notes_model_type m ns
kept_model_type m ns = refl

kept_model_param : (p : TypedModelParam) (ns : List Note) → Kept join_model_param strip_model_param notes_model_param p ns
kept_model_param p ns = refl

kept_whole : (m : TypedModuleTerm) → join_module (strip m) (notes_of m) ≡ (m, [])
kept_whole m =
    let whole = strip m in
    then (λ types. join_all join_model_param whole.params >>= (λ params. join_all join_unit whole.units >>= (λ units. gives (record { model_types = types; name = m.name; params = params; units = units; end = m.end })))) (kept_all join_model_type strip_model_type notes_model_type kept_model_type m.model_types _)
    (then (λ params. join_all join_unit whole.units >>= (λ units. gives (record { model_types = m.model_types; name = m.name; params = params; units = units; end = m.end }))) (kept_all join_model_param strip_model_param notes_model_param kept_model_param m.params _)
    (then (λ units. gives (record { model_types = m.model_types; name = m.name; params = m.params; units = units; end = m.end })) (kept_all join_unit strip_unit notes_unit kept_unit m.units _) refl))

pub kept_module : (m : TypedModuleTerm) → joined (strip m) (notes_of m) ≡ m
kept_module m = λ j. (kept_whole m j).0
