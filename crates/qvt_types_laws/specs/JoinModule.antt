-- The units of a transformation, and the transformation itself, joined with the notes of their nodes.
use Rattle.std.specs.Prelude.{List, [], ◌∷◌, Option, Some, None}
use Rattle.qvt_tree_types.specs.declared.module.ResultDecl.{ResultDecl}
use Rattle.qvt_tree_types.specs.declared.module.ModelType.{ModelType}
use Rattle.qvt_tree_types.specs.declared.module.ModelParam.{ModelParam}
use Rattle.qvt_tree_types.specs.Module.{TypedName, ClassTerm, HelperTerm, MappingTerm, UnitTerm, ClassOf, MainOf, HelperOf, ConstructorOf, MappingOf, ModuleTerm}
use Rattle.qvt_types_data.specs.declared.note.Note.{Note}
use Rattle.qvt_types_nodes.specs.declared.module.TypedResultDecl.{TypedResultDecl}
use Rattle.qvt_types_nodes.specs.declared.module.TypedModelType.{TypedModelType}
use Rattle.qvt_types_nodes.specs.declared.module.TypedModelParam.{TypedModelParam}
use Rattle.qvt_types_nodes.specs.Module.{TypedMember, TypedClassTerm, TypedHelperTerm, TypedMappingTerm, TypedUnitTerm, TypedClassOf, TypedMainOf, TypedHelperOf, TypedConstructorOf, TypedMappingOf, TypedModuleTerm}
use Rattle.qvt_types_laws.specs.Join.{NoteTaker, gives, ◌>>=◌, next_note, join_path, join_type, join_optional_type, join_optional_expr, join_stmts}

abbrev pub join_all : {A B : Type 0} → (A → NoteTaker B) → List A → NoteTaker (List B)
join_all p [] = gives []
join_all p (x ∷ xs) = p x >>= (λ y. join_all p xs >>= (λ ys. gives (y ∷ ys)))

abbrev pub join_member : TypedName → NoteTaker TypedMember
join_member m = join_type m.kind >>= (λ t. next_note >>= (λ n. gives (record { name = m.name; kind = t; place = m.place; note = n })))

abbrev pub join_class : ClassTerm → NoteTaker TypedClassTerm
join_class c = join_all join_path c.supers >>= (λ supers. join_all join_member c.features >>= (λ features. next_note
    >>= (λ n. gives (record { name = c.name; supers = supers; features = features; place = c.place; note = n }))))

abbrev pub join_helper : HelperTerm → NoteTaker TypedHelperTerm
join_helper h = join_all join_member h.params >>= (λ params. join_optional_type h.answer >>= (λ answer. join_stmts h.body >>= (λ body. next_note
    >>= (λ n. gives (record { pure = h.pure; path = h.path; params = params; answer = answer; body = body; place = h.place; note = n })))))

abbrev pub join_result : Option ResultDecl → NoteTaker (Option TypedResultDecl)
join_result None = gives None
join_result (Some r) = join_path r.path >>= (λ path. next_note >>= (λ n. gives (Some (record { path = path; extent = r.extent; place = r.place; note = n }))))

abbrev pub join_mapping : MappingTerm → NoteTaker TypedMappingTerm
join_mapping m = join_all join_member m.params >>= (λ params. join_result m.result_decl >>= (λ decl. join_all join_path m.inherits
    >>= (λ inherits. join_all join_path m.merges >>= (λ merges. join_all join_path m.disjuncts >>= (λ disjuncts. join_optional_expr m.condition
    >>= (λ condition. join_stmts m.init >>= (λ init. join_stmts m.population >>= (λ population. join_stmts m.finish >>= (λ finish. next_note
    >>= (λ n. gives (record {
      path = m.path;
      params = params;
      result_decl = decl;
      inherits = inherits;
      merges = merges;
      disjuncts = disjuncts;
      condition = condition;
      init = init;
      population = population;
      finish = finish;
      place = m.place;
      note = n;
    })))))))))))

abbrev pub join_unit : UnitTerm → NoteTaker TypedUnitTerm
join_unit (ClassOf c) = join_class c >>= (λ d. gives (TypedClassOf d))
join_unit (MainOf body place) = join_stmts body >>= (λ ss. next_note >>= (λ n. gives (TypedMainOf ss place n)))
join_unit (HelperOf h) = join_helper h >>= (λ g. gives (TypedHelperOf g))
join_unit (ConstructorOf h) = join_helper h >>= (λ g. gives (TypedConstructorOf g))
join_unit (MappingOf m) = join_mapping m >>= (λ g. gives (TypedMappingOf g))

abbrev pub join_model_type : ModelType → NoteTaker TypedModelType
join_model_type m = next_note >>= (λ n. gives (record { name = m.name; uri = m.uri; place = m.place; note = n }))

abbrev pub join_model_param : ModelParam → NoteTaker TypedModelParam
join_model_param p = next_note >>= (λ n. gives (record { direction = p.direction; name = p.name; model_type = p.model_type; place = p.place; note = n }))

abbrev pub join_module : ModuleTerm → NoteTaker TypedModuleTerm
join_module m = join_all join_model_type m.model_types >>= (λ types. join_all join_model_param m.params >>= (λ params. join_all join_unit m.units
    >>= (λ units. gives (record { model_types = types; name = m.name; params = params; units = units; end = m.end }))))

-- the typed tree of a tree and the notes of its nodes
abbrev pub joined : ModuleTerm → List Note → TypedModuleTerm
joined m ns = (join_module m ns).0
