-- What the judgement of each unit, and of the whole transformation, writes.
use Rattle.qvt_base.specs.declared.numbers.Place.{Place}
use Rattle.qvt_metas.specs.Metamodels.{Metamodels}
use Rattle.qvt_tree_types.specs.Module.{ModuleTerm}
use Rattle.qvt_tree_types.specs.Module.{TypedName, ClassTerm, HelperTerm, MappingTerm, UnitTerm, ClassOf, MainOf, HelperOf, ConstructorOf, MappingOf}
use Rattle.qvt_tree_types.specs.Tree.{TypeTerm, OptionalExpr, NoExpr, SomeExpr, StmtTerms}
use Rattle.qvt_tree_types.specs.declared.module.ModelParam.{ModelParam}
use Rattle.qvt_tree_types.specs.declared.module.ModelType.{ModelType}
use Rattle.qvt_tree_types.specs.declared.module.ResultDecl.{ResultDecl}
use Rattle.qvt_tree_types.specs.declared.types.PathTree.{PathTree}
use Rattle.qvt_typed_laws.proofs.Arrows as arrows
use Rattle.qvt_typed_laws.proofs.Follows.{◌&◌, Marks, Quiet, Follows, given, sourced, declaring, blank, marking, before_mark, after_mark, no_number, nothing, one_mark, both, closed, before, after, inside, made}
use Rattle.qvt_typed_laws.proofs.Texts as texts
use Rattle.qvt_typed_laws.proofs.Texts.{path_mark}
use Rattle.qvt_typed_laws.proofs.Written as written
use Rattle.qvt_typed_laws.specs.Numbers as numbers
use Rattle.qvt_types_data.specs.declared.note.Note.{Note}
use Rattle.qvt_types_data.specs.declared.variable.VariableSort.TheVariants as sort
use Rattle.qvt_types_laws.specs.Join as join
use Rattle.qvt_types_laws.specs.Join.{next_note}
use Rattle.qvt_types_laws.specs.JoinModule as join_module
use Rattle.qvt_types_nodes.specs.Module.{TypedClassOf, TypedMainOf, TypedHelperOf, TypedConstructorOf, TypedMappingOf, TypedModuleTerm}
use Rattle.qvt_types_states.specs.Judge.{Judges}
use Rattle.qvt_types_steps.specs.declared.classes.ClassPart.TheVariants as part
use Rattle.qvt_types_steps.specs.declared.classes.ClassPart.{ClassPart}
use Rattle.qvt_types_units.specs.Numbers.{unit_at}
use Rattle.qvt_types_units.specs.declared.signature.Signature.{Signature}
use Rattle.qvt_typing.specs.Accepts.{heads_of, heads_told, bare_notes, whole, start, judged}
use Rattle.qvt_typing.specs.Context.{TypingContext, DeclaredHeads}
use Rattle.qvt_typing.specs.Names.{source, self_name, class_type}
use Rattle.qvt_typing.specs.Phrases as phrase
use Rattle.qvt_typing.specs.Rules as rule
use Rattle.qvt_typing.specs.Units as unit
use Rattle.std.proofs.Common.{◌≡◌, refl, sym, ◌∙◌, ap, ℕ, ◌+◌, false, List, [], ◌∷◌, ◌++◌, Option, Some, None, arith}
use Rattle.std.proofs.lemmas.List.{append-nil}
use Rattle.qvt_types_nodes.specs.Tree.{TypedNoExpr, TypedSomeExpr}
use Rattle.std.specs.List.{flat_map, range_with_len}

with_self : (c : ClassPart) → Quiet (unit.with_self c)
with_self (part.Class c) = sourced (source self_name (class_type (part.Class c)))
with_self part.Missing = given tt
with_self part.Untyped = sourced (source self_name (class_type part.Untyped))

-- Heads of units.

param : (x : TypingContext) (p : TypedName) → Follows (unit.param x p) (join_module.join_member p) no_number
param x p = made no_number (closed (texts.type_term x p.kind) (λ o. before_mark (declaring p.name (record { sort = sort.Parameter; ty = o }) p.place) (λ u. blank))) (λ b. record { name = p.name; kind = b.0; place = p.place; note = b.1 }) (λ b. refl)

params : (x : TypingContext) (ps : List TypedName) → Follows (unit.params x ps) (join_module.join_all join_module.join_member ps) no_number
params x [] = nothing [] refl (given tt)
params x (p ∷ ps) = made no_number (both (param x p) (λ u. params x ps)) (λ b. b.0 ∷ b.1) (λ b. refl)

all_paths : (f : PathTree → Judges (Unit {0})) → ((p : PathTree) → Marks (f p)) → (ps : List PathTree) → Follows (unit.all_paths f ps) (join_module.join_all join.join_path ps) no_number
all_paths f k [] = nothing [] refl (given tt)
all_paths f k (p ∷ ps) = made no_number (both (path_mark p (k p)) (λ u. all_paths f k ps)) (λ b. b.0 ∷ b.1) (λ b. refl)

super : (x : TypingContext) (p : PathTree) → Marks (unit.super x p)
super x p = after_mark (written.named_class x p) (λ c. given tt)

reused : (x : TypingContext) (p : PathTree) → Marks (unit.reused x p)
reused x p = after_mark (arrows.listed_path x p) (λ w. given tt)

fields : (x : TypingContext) (fs : List TypedName) → Follows (unit.fields x fs) (join_module.join_all join_module.join_member fs) no_number
fields x [] = nothing [] refl (given tt)
fields x (f ∷ fs) = made no_number (both (made no_number (closed (texts.type_term x f.kind) (λ o. blank)) (λ b. record { name = f.name; kind = b.0; place = f.place; note = b.1 }) (λ b. refl)) (λ u. fields x fs)) (λ b. b.0 ∷ b.1) (λ b. refl)

answer_type : (x : TypingContext) (o : Option TypeTerm) → Follows (unit.answer_type x o) (join.join_optional_type o) no_number
answer_type x o = after (texts.optional_type x o) (λ k. given tt)

result_head : (x : TypingContext) (r : Option ResultDecl) → Follows (unit.result_head x r) (join_module.join_result r) no_number
result_head x None = nothing None refl (given tt)
result_head x (Some r) = made no_number (closed (path_mark r.path (written.named_class x r.path)) (λ c. after_mark (marking (unit.result_read x r.extent c)) (λ o. given tt))) (λ b. Some (record { path = b.0; extent = r.extent; place = r.place; note = b.1 })) (λ b. refl)

class_unit : (x : TypingContext) (c : ClassTerm) → Follows (unit.class_unit x c) (join_module.join_class c) no_number
class_unit x c = made no_number (both (all_paths (unit.super x) (super x) c.supers) (λ u. closed (fields x c.features) (λ v. blank))) (λ b. record { name = c.name; supers = b.0; features = b.1.0; place = c.place; note = b.1.1 }) (λ b. refl)

main_unit : (x : TypingContext) (body : StmtTerms) → Follows (unit.main_unit x body) (join.join_stmts body & next_note) (λ b. numbers.stmts b.0)
main_unit x body = closed (arrows.block x (phrase.stmts x body) (texts.stmts x body)) (λ u. blank)

helper_unit : (x : TypingContext) (u : HelperTerm) → Follows (unit.helper_unit x u) (join_module.join_helper u) numbers.helper
helper_unit x u = made numbers.helper (closed (inside (before (with_self x.self) (λ v. both (params x u.params) (λ w. both (answer_type x u.answer) (λ y. arrows.block x (phrase.stmts x u.body) (texts.stmts x u.body)))))) (λ v. blank))
    (λ b. record { pure = u.pure; path = u.path; params = b.0.0; answer = b.0.1.0; body = b.0.1.1; place = u.place; note = b.1 }) (λ b. refl)

when_part : (x : TypingContext) (o : OptionalExpr) (at : Place) → Follows (unit.when x o at) (join.join_optional_expr o) numbers.optional
when_part x NoExpr at = nothing TypedNoExpr refl (given tt)
when_part x (SomeExpr e) at = made numbers.optional (arrows.condition x at (texts.expr x false e)) TypedSomeExpr (λ b. refl)

mapping_unit : (h : DeclaredHeads) (u : MappingTerm) (s : Signature) → Follows (unit.mapping_unit h u s) (join_module.join_mapping u) numbers.mapping
mapping_unit h u s = made numbers.mapping
    (closed (inside (before (with_self (rule.head_part s.context)) (λ v. both (params (unit.outside h) u.params) (λ w. both (result_head (unit.outside h) u.result_decl) (λ y.
    both (all_paths (unit.reused (unit.outside h)) (reused (unit.outside h)) u.inherits) (λ z. both (all_paths (unit.reused (unit.outside h)) (reused (unit.outside h)) u.merges) (λ n.
    both (all_paths (unit.reused (unit.outside h)) (reused (unit.outside h)) u.disjuncts) (λ o. both (when_part (unit.when_context h s) u.condition u.place) (λ p.
    both (texts.stmts (unit.init_context h s) u.init) (λ a. both (texts.stmts (unit.section_context h s) u.population) (λ c. texts.stmts (unit.section_context h s) u.finish))))))))))) (λ v. blank))
    (λ b. record {
      path = u.path;
      params = b.0.0;
      result_decl = b.0.1.0;
      inherits = b.0.1.1.0;
      merges = b.0.1.1.1.0;
      disjuncts = b.0.1.1.1.1.0;
      condition = b.0.1.1.1.1.1.0;
      init = b.0.1.1.1.1.1.1.0;
      population = b.0.1.1.1.1.1.1.1.0;
      finish = b.0.1.1.1.1.1.1.1.1;
      place = u.place;
      note = b.1;
    }) (λ b. refl)

one_unit : (h : DeclaredHeads) (n : ℕ) (u : UnitTerm) → Follows (unit.unit h n u) (join_module.join_unit u) numbers.unit
unfolding unit.unit
one_unit h n (ClassOf c) = made numbers.unit (class_unit (unit.outside h) c) TypedClassOf (λ b. refl)
one_unit h n (MainOf body at) = made numbers.unit (main_unit (unit.outside h) body) (λ b. TypedMainOf b.0 at b.1) (λ b. refl)
one_unit h n (HelperOf u) = made numbers.unit (helper_unit (unit.helper_context h u (unit_at h.units n)) u) TypedHelperOf (λ b. refl)
one_unit h n (ConstructorOf u) = made numbers.unit (helper_unit (unit.constructor_context h (unit_at h.units n)) u) TypedConstructorOf (λ b. refl)
one_unit h n (MappingOf u) = made numbers.unit (mapping_unit h u (unit_at h.units n)) TypedMappingOf (λ b. refl)

units : (h : DeclaredHeads) (n : ℕ) (us : List UnitTerm) → Follows (unit.units h n us) (join_module.join_all join_module.join_unit us) (flat_map numbers.unit)
units h n [] = nothing [] refl (given tt)
units h n (u ∷ us) = made (flat_map numbers.unit) (both (one_unit h n u) (λ v. units h (n + 1) us)) (λ b. b.0 ∷ b.1) (λ b. refl)

model_types : (ts : List ModelType) → Follows (bare_notes ts) (join_module.join_all join_module.join_model_type ts) no_number
model_types [] = nothing [] refl (given tt)
model_types (t ∷ ts) = made no_number (both (one_mark blank) (λ u. model_types ts)) (λ b. record { name = t.name; uri = t.uri; place = t.place; note = b.0 } ∷ b.1) (λ b. refl)

model_params : (ps : List ModelParam) → Follows (bare_notes ps) (join_module.join_all join_module.join_model_param ps) no_number
model_params [] = nothing [] refl (given tt)
model_params (p ∷ ps) = made no_number (both (one_mark blank) (λ u. model_params ps)) (λ b. record { direction = p.direction; name = p.name; model_type = p.model_type; place = p.place; note = b.0 } ∷ b.1) (λ b. refl)

all_units : (h : DeclaredHeads) (t : ModuleTerm) → Follows (whole h t) (join_module.join_module t) numbers.numbers
all_units h t = made numbers.numbers (both (model_types t.model_types) (λ u. both (model_params t.params) (λ v. units h 0 t.units)))
    (λ b. record { model_types = b.0; name = t.name; params = b.1.0; units = b.1.1; end = t.end }) (λ b. refl)

-- The whole transformation.

module _ (m : Metamodels) (t : ModuleTerm) where
  abbrev heads : DeclaredHeads
  heads = heads_of m t

  written_notes : (judged heads t).notes ≡ (all_units heads t).notes (start (heads_told heads t))
  unfolding judged
  written_notes = (all_units heads t).writes (start (heads_told heads t))

  pub taken : (rest : List Note) → join_module.join_module t ((judged heads t).notes ++ rest) ≡ (join_module.joined t (judged heads t).notes, rest)
  taken rest =
      let first = start (heads_told heads t) in
      let all = all_units heads t in
      let whole_is = ap (λ ns. join_module.join_module t (ns ++ rest)) written_notes ∙ all.takes first rest in
      let alone_is = ap (λ ns. join_module.join_module t ns) (written_notes ∙ sym (append-nil (all.notes first))) ∙ all.takes first [] in
      whole_is ∙ ap (λ (b : TypedModuleTerm × List Note). (b.0, rest)) (sym alone_is)

  pub numbered : numbers.numbers (join_module.joined t (judged heads t).notes) ≡ range_with_len 0 (judged heads t).next
  unfolding judged
  numbered =
      let first = start (heads_told heads t) in
      let all = all_units heads t in
      ap (λ ns. numbers.numbers (join_module.join_module t ns).0) (written_notes ∙ sym (append-nil (all.notes first)))
      ∙ ap (λ (b : TypedModuleTerm × List Note). numbers.numbers b.0) (all.takes first [])
      ∙ all.numbers first
      ∙ ap (range_with_len 0) (sym (all.counts first ∙ (let z : 0 + all.count first ≡ all.count first = omega arith in z)))
