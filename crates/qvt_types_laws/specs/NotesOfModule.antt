-- The notes of units, and of a transformation, in their order.
use Rattle.std.specs.Prelude.{List, [], ◌∷◌, Option, Some, None}
use Rattle.qvt_types_data.specs.declared.note.Note.{Note}
use Rattle.qvt_types_nodes.specs.declared.module.TypedResultDecl.{TypedResultDecl}
use Rattle.qvt_types_nodes.specs.declared.module.TypedModelType.{TypedModelType}
use Rattle.qvt_types_nodes.specs.declared.module.TypedModelParam.{TypedModelParam}
use Rattle.qvt_types_nodes.specs.Module.{TypedMember, TypedClassTerm, TypedHelperTerm, TypedMappingTerm, TypedUnitTerm, TypedClassOf, TypedMainOf, TypedHelperOf, TypedConstructorOf, TypedMappingOf, TypedModuleTerm}
use Rattle.qvt_types_laws.specs.NotesOf.{NoteGiver, notes_path, notes_type, notes_optional_type, notes_optional_expr, notes_stmts}

abbrev pub notes_all : {A : Type 0} → NoteGiver A → NoteGiver (List A)
notes_all f [] rest = rest
notes_all f (x ∷ xs) rest = f x (notes_all f xs rest)

abbrev pub notes_member : NoteGiver TypedMember
notes_member m rest = notes_type m.kind (m.note ∷ rest)

abbrev pub notes_class : NoteGiver TypedClassTerm
notes_class c rest = notes_all notes_path c.supers (notes_all notes_member c.features (c.note ∷ rest))

abbrev pub notes_helper : NoteGiver TypedHelperTerm
notes_helper h rest = notes_all notes_member h.params (notes_optional_type h.answer (notes_stmts h.body (h.note ∷ rest)))

abbrev pub notes_result : NoteGiver (Option TypedResultDecl)
notes_result None rest = rest
notes_result (Some r) rest = notes_path r.path (r.note ∷ rest)

abbrev pub notes_mapping : NoteGiver TypedMappingTerm
notes_mapping m rest =
    notes_all notes_member m.params (notes_result m.result_decl (notes_all notes_path m.inherits (notes_all notes_path m.merges
    (notes_all notes_path m.disjuncts (notes_optional_expr m.condition (notes_stmts m.init (notes_stmts m.population (notes_stmts m.finish (m.note ∷ rest)))))))))

abbrev pub notes_unit : NoteGiver TypedUnitTerm
notes_unit (TypedClassOf c) rest = notes_class c rest
notes_unit (TypedMainOf body place n) rest = notes_stmts body (n ∷ rest)
notes_unit (TypedHelperOf h) rest = notes_helper h rest
notes_unit (TypedConstructorOf h) rest = notes_helper h rest
notes_unit (TypedMappingOf m) rest = notes_mapping m rest

abbrev pub notes_model_type : NoteGiver TypedModelType
notes_model_type m rest = m.note ∷ rest

abbrev pub notes_model_param : NoteGiver TypedModelParam
notes_model_param p rest = p.note ∷ rest

-- the notes of a typed tree, in the order in which a tree is joined with them
abbrev pub notes_of : TypedModuleTerm → List Note
notes_of m = notes_all notes_model_type m.model_types (notes_all notes_model_param m.params (notes_all notes_unit m.units []))
