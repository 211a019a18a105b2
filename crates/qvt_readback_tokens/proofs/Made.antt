-- The pieces of what the rows make are sound where those of its parts are.
use Rattle.qvt_base.specs.declared.numbers.Place.{Place}
use Rattle.qvt_language.specs.Leads.{EachPart}
use Rattle.qvt_language.specs.StmtTrees.{concat, last_of}
use Rattle.qvt_language.specs.Trees.{headed, more_steps as join_steps, stepped, post_of, signed, path_of}
use Rattle.qvt_language.specs.UnitTrees.{paths_or_none, ClausesTree, BodyTree, mapping_of, units_of}
use Rattle.qvt_language.specs.declared.class.Class.TheVariants as class
use Rattle.qvt_language.specs.declared.class.Class.{Class}
use Rattle.qvt_language.specs.declared.named.Named.{Named}
use Rattle.qvt_language.specs.declared.named.UnitPath.{UnitPath}
use Rattle.qvt_language_rows.proofs.Gives.{Both, all_and}
use Rattle.qvt_language_rows.specs.Lists.{AllOf, IfThere}
use Rattle.qvt_printer.specs.Expressions as print
use Rattle.qvt_printer.specs.Levels.{is_chain, is_chain_or_prefix}
use Rattle.qvt_printer.specs.Units as printed
use Rattle.qvt_printer.specs.Units.{module_pieces}
use Rattle.qvt_printer_layout.specs.Words as words
use Rattle.qvt_printer_layout.specs.declared.piece.PrintPiece.TheVariants as piece
use Rattle.qvt_printer_layout.specs.declared.piece.PrintPiece.{PrintPiece}
use Rattle.qvt_readback_tokens.proofs.Meets.{Opened}
use Rattle.qvt_readback_tokens.proofs.Parts as sound
use Rattle.qvt_readback_tokens.proofs.Parts.{Closed, Follows, PathP, TypeP, ExprP, TargetP, StepP, AccumulatorP, StmtP, VariableP, RangeP, FilterP, ArmP}
use Rattle.qvt_readback_tokens.proofs.Sound.{held_free, free_opened, sound_append}
use Rattle.qvt_readback_tokens.specs.Told.{IsName, IsEncoded}
use Rattle.qvt_tree_types.specs.Module.{TypedName, ClassTerm, HelperTerm, MappingTerm, UnitTerm, MainOf, ConstructorOf, ModuleTerm}
use Rattle.qvt_tree_types.specs.Tree.{ExprTerm, StmtTerm, TypeTerm, VarStmt, AssignStmt, ReturnStmt, ValueStmt, IfStmt, WhileStmt, ForEachStmt, ArmTerm, ArmOf, TargetTerm, PrefixExpr, PostExpr, HeadTerm, HeadOf, AccumulatorTerm, StepTerm, StepTerms, NoSteps, MoreSteps, RangeTerm, FilterTerm}
use Rattle.qvt_tree_types.specs.View.{exprs_of, stmts_of, optional_expr, optional_range, optional_filter, steps_of, optional_args, optional_accumulator, arms_of, optional_else}
use Rattle.qvt_tree_types.specs.declared.module.ModelParam.{ModelParam}
use Rattle.qvt_tree_types.specs.declared.module.ModelType.{ModelType}
use Rattle.qvt_tree_types.specs.declared.module.ResultDecl.{ResultDecl}
use Rattle.qvt_tree_types.specs.declared.types.ObjectVar.{ObjectVar}
use Rattle.qvt_tree_types.specs.declared.types.PathTree.{PathTree}
use Rattle.qvt_tree_types.specs.declared.words.Sign.{Sign}
use Rattle.std.proofs.Common.{ℕ, List, [], ◌∷◌, ◌++◌, map, Bool, false, refl, Option, Some, None, ◌≡◌, true, cond, ◌||◌, sym, subst, ap, ◌∙◌, append_assoc}

abbrev pub NamedP : Named → Type 0
NamedP n = IsName n.text

pub texts : (ns : List Named) → AllOf NamedP ns → AllOf IsName (map (λ m. m.text) ns)
texts [] h = tt
texts (n ∷ ns) h = (h.0, texts ns h.1)

pub path_is : (n : Named) (ns : List Named) → NamedP n → AllOf NamedP ns → PathP (path_of (n, ns))
path_is n ns h k = sound.names n.text (map (λ m. m.text) ns) h (texts ns k)

abbrev pub UnitPathP : UnitPath → Type 0
UnitPathP p = Closed (print.names p.names)

-- after a `forEach`
pub record PartP (p : EachPart) : Type 0 where
  pub name : IsName p.name
  pub kind : IfThere TypeP p.kind
  pub condition : Follows (print.condition_if p.condition)
  pub body : AllOf StmtP p.body

pub range_is : (r : Option RangeTerm) → IfThere RangeP r → RangeP (optional_range r)
range_is None k = refl
range_is (Some r) k = k

pub conditional_is : (c one other : ExprTerm) → ExprP c → ExprP one → ExprP other → Closed (print.conditional (print.expr c) (print.expr one) (print.expr other))
conditional_is c one other k j g =
    let last = sound.and_more (print.expr other) (print.one class.EndifWord) (held_free (print.expr other) g) (refl, refl) in
    let middle = sound.and_more (print.expr one) (piece.Plain class.ElseWord ∷ (print.expr other ++ print.one class.EndifWord)) (held_free (print.expr one) j) (refl, last) in
    (refl, sound.and_more (print.expr c) (piece.Plain class.ThenWord ∷ (print.expr one ++ (piece.Plain class.ElseWord ∷ (print.expr other ++ print.one class.EndifWord)))) (held_free (print.expr c) k) (refl, middle))

pub object_is : (v : Option ObjectVar) (p : PathTree) (n : Option (List ℕ)) (ss : List StmtTerm) → IfThere VariableP v → PathP p → IfThere IsName n → AllOf StmtP ss
    → Closed (piece.Plain class.ObjectWord ∷ (print.variable v ++ (print.path p ++ (print.extent n ++ print.block (stmts_of ss)))))
object_is v p n ss k j g f =
    let last = sound.and_more (print.extent n) (print.block (stmts_of ss)) (sound.extent n g) (sound.block ss f) in
    let whole = sound.then_more (print.path p) (print.extent n ++ print.block (stmts_of ss)) j last in
    (refl, held_free (print.variable v ++ (print.path p ++ (print.extent n ++ print.block (stmts_of ss)))) (sound.variable v (print.path p ++ (print.extent n ++ print.block (stmts_of ss))) k whole))

pub new_is : (p : PathTree) (n : Option (List ℕ)) (es : List ExprTerm) → PathP p → IfThere IsName n → AllOf ExprP es
    → Closed (piece.Plain class.NewWord ∷ (print.path p ++ (print.extent n ++ print.in_round (print.exprs false (exprs_of es)))))
new_is p n es k j g =
    let last = sound.and_more (print.extent n) (print.in_round (print.exprs false (exprs_of es))) (sound.extent n j) (sound.args es g) in
    (refl, sound.and_more (print.path p) (print.extent n ++ print.in_round (print.exprs false (exprs_of es))) (held_free (print.path p) k) last)

pub filter_condition : (c : Option ExprTerm) → IfThere ExprP c → Follows (print.condition_if (optional_expr c))
filter_condition None k = refl
filter_condition (Some e) k = (refl, held_free (print.expr e) k)

pub filter_is : (f : Option FilterTerm) → IfThere FilterP f → FilterP (optional_filter f)
filter_is None k = refl
filter_is (Some f) k = k

pub args_if : (es : Option (List ExprTerm)) → IfThere (AllOf ExprP) es → Follows (print.args_if (optional_args es))
args_if None h = refl
args_if (Some es) h = sound.args es h

-- the head and the arguments of an arrow
abbrev pub ArrowP : HeadTerm × List ExprTerm → Type 0
ArrowP x = Follows (print.head x.0 ++ print.exprs false (exprs_of x.1))

pub accumulated : (a : Option AccumulatorTerm) → IfThere AccumulatorP a → AccumulatorP (optional_accumulator a)
accumulated None h = refl
accumulated (Some a) h = h

pub headed_is : (n : List ℕ) (place : Place) (x : Option TypeTerm × (Option AccumulatorTerm × ExprTerm)) → IsName n → Both (IfThere TypeP) (Both (IfThere AccumulatorP) ExprP) x → ArrowP (headed n place x)
headed_is n place (kind, (a, e)) h k =
    let bar = sound.and_more (print.accumulator (optional_accumulator a)) (print.one class.Bar) (accumulated a k.1.0) (refl, refl) in
    let rest = sound.and_more (print.typed_if kind) (print.accumulator (optional_accumulator a) ++ print.one class.Bar) (sound.typed_if kind k.0) bar in
    sound.and_more (print.head (HeadOf n kind (optional_accumulator a) place)) (print.exprs false (exprs_of (e ∷ []))) (h, refl, rest) (sound.exprs (e ∷ []) (k.1.1, tt))

-- what steps make of an expression
pub print_more : (old : StepTerms) (ss : List StepTerm) → print.steps (join_steps old ss) ≡ print.steps old ++ print.steps (steps_of ss)
print_more NoSteps ss = refl
print_more (MoreSteps s old) ss = ap (λ z. print.step s ++ z) (print_more old ss) ∙ sym (append_assoc (print.step s) (print.steps old) (print.steps (steps_of ss)))

pub joined_steps : (ps : List PrintPiece) (old : StepTerms) (ss : List StepTerm) → Closed (ps ++ print.steps old) → AllOf StepP ss → Closed (ps ++ print.steps (join_steps old ss))
joined_steps ps old ss h k =
    subst Closed (append_assoc ps (print.steps old) (print.steps (steps_of ss)) ∙ ap (λ z. ps ++ z) (sym (print_more old ss)))
    (sound.then_more (ps ++ print.steps old) (print.steps (steps_of ss)) h (sound.steps ss k))

pub steps_after : (e : ExprTerm) (ss : List StepTerm) → ExprP e → AllOf StepP ss → Closed (print.round_if (is_chain_or_prefix e) (print.expr e) ++ print.steps (steps_of ss))
steps_after e ss h k = sound.then_more (print.round_if (is_chain_or_prefix e) (print.expr e)) (print.steps (steps_of ss)) (sound.round_if (is_chain_or_prefix e) (print.expr e) h) (sound.steps ss k)

pub stepped_is : (place : Place) (e : ExprTerm) (ss : List StepTerm) → ExprP e → AllOf StepP ss → ExprP (stepped place e ss)
stepped_is place (PostExpr e old p) ss h k = joined_steps (print.round_if (is_chain_or_prefix e) (print.expr e)) old ss h k
stepped_is place e ss h k = steps_after e ss h k

pub post_is : (place : Place) (e : ExprTerm) (ss : List StepTerm) → ExprP e → AllOf StepP ss → ExprP (post_of place e ss)
post_is place e [] h k = h
post_is place e (s ∷ ss) h k = stepped_is place e (s ∷ ss) h k

-- signs
pub signs_before : (ss : List Sign) (e : ExprTerm) → ExprP e → Closed (print.signs ss ++ print.round_if (is_chain e) (print.expr e))
signs_before ss e h = sound.signs ss (print.round_if (is_chain e) (print.expr e)) (sound.round_if (is_chain e) (print.expr e) h)

pub signed_is : (place : Place) (ss : List Sign) (e : ExprTerm) → ExprP e → ExprP (signed place ss e)
signed_is place ss (PrefixExpr old e p) h = sound.more_signs ss old (print.round_if (is_chain e) (print.expr e)) h
signed_is place ss e h = signs_before ss e h

-- statements by their parts
pub optional_is : (e : Option ExprTerm) → IfThere ExprP e → Follows (print.optional (optional_expr e))
optional_is None h = refl
optional_is (Some e) h = held_free (print.expr e) h

pub value_is : (e : Option ExprTerm) → IfThere ExprP e → Follows (print.first_value (optional_expr e))
value_is None h = refl
value_is (Some e) h = (refl, held_free (print.expr e) h)

pub var_is : (n : List ℕ) (t : Option TypeTerm) (e : Option ExprTerm) (place : Place) → IsName n → IfThere TypeP t → IfThere ExprP e → StmtP (VarStmt n t (optional_expr e) place)
var_is n t e place h k j =
    sound.ended (piece.Plain class.VarWord ∷ piece.Name n ∷ (print.typed_if t ++ print.first_value (optional_expr e)))
    (refl, (h, refl, sound.and_more (print.typed_if t) (print.first_value (optional_expr e)) (sound.typed_if t k) (value_is e j)))

pub return_is : (e : Option ExprTerm) (place : Place) → IfThere ExprP e → StmtP (ReturnStmt (optional_expr e) place)
return_is e place h = sound.ended (piece.Plain class.ReturnWord ∷ print.optional (optional_expr e)) (refl, optional_is e h)

pub in_brackets : (e : ExprTerm) → ExprP e → Follows (print.in_round (print.expr e))
in_brackets e h = held_free (print.in_round (print.expr e)) (sound.in_round (print.expr e) (held_free (print.expr e) h))

pub headed_block : (e : ExprTerm) (ss : List StmtTerm) (more : List PrintPiece) → ExprP e → AllOf StmtP ss → Follows more → Follows (print.in_round (print.expr e) ++ (print.block (stmts_of ss) ++ more))
headed_block e ss more h k j =
    sound.and_more (print.in_round (print.expr e)) (print.block (stmts_of ss) ++ more) (in_brackets e h) (sound.and_more (print.block (stmts_of ss)) more (sound.block ss k) j)

pub arm_is : (e : ExprTerm) (ss : List StmtTerm) → ExprP e → AllOf StmtP ss → ArmP (ArmOf e (stmts_of ss))
arm_is e ss h k = (refl, sound.and_more (print.in_round (print.expr e)) (print.block (stmts_of ss)) (in_brackets e h) (sound.block ss k))

pub else_is : (ss : Option (List StmtTerm)) → IfThere (AllOf StmtP) ss → Follows (print.else_if (optional_else ss))
else_is None h = refl
else_is (Some ss) h = (refl, sound.block ss h)

pub if_is : (e : ExprTerm) (ss : List StmtTerm) (as_ : List ArmTerm) (other : Option (List StmtTerm)) (place : Place) → ExprP e → AllOf StmtP ss → AllOf ArmP as_ → IfThere (AllOf StmtP) other
    → StmtP (IfStmt e (stmts_of ss) (arms_of as_) (optional_else other) place)
if_is e ss as_ other place h k j g =
    (refl, headed_block e ss (print.arms (arms_of as_) ++ print.else_if (optional_else other)) h k (sound.and_more (print.arms (arms_of as_)) (print.else_if (optional_else other)) (sound.arms as_ j) (else_is other g)))

pub while_is : (e : ExprTerm) (ss : List StmtTerm) (place : Place) → ExprP e → AllOf StmtP ss → StmtP (WhileStmt e (stmts_of ss) place)
while_is e ss place h k = (refl, sound.and_more (print.in_round (print.expr e)) (print.block (stmts_of ss)) (in_brackets e h) (sound.block ss k))

pub each_is : (e : ExprTerm) (p : EachPart) (place : Place) → ExprP e → PartP p → StmtP (ForEachStmt e p.name p.kind p.condition (stmts_of p.body) place)
each_is e p place h k =
    let first = print.round_if (is_chain_or_prefix e) (print.expr e) in
    let inside = piece.Name p.name ∷ (print.typed_if p.kind ++ print.condition_if p.condition) in
    let round = sound.in_round inside (k.name, refl, sound.and_more (print.typed_if p.kind) (print.condition_if p.condition) (sound.typed_if p.kind k.kind) k.condition) in
    let rest = sound.and_more (print.in_round inside) (print.block (stmts_of p.body)) (held_free (print.in_round inside) round) (sound.block p.body k.body) in
    sound.and_more first (piece.Plain class.Arrow ∷ piece.Plain class.ForEachWord ∷ (print.in_round inside ++ print.block (stmts_of p.body)))
    (held_free first (sound.round_if (is_chain_or_prefix e) (print.expr e) h)) (refl, (refl, rest))

pub assign_is : (t : TargetTerm) (adds : Bool) (e : ExprTerm) (place : Place) → TargetP t → ExprP e → StmtP (AssignStmt t adds e place)
assign_is t adds e place h k =
    let rest = print.expr e in
    sound.ended (print.target t ++ (piece.Plain (words.assign_sign adds) ∷ rest))
    (sound.and_more (print.target t) (piece.Plain (words.assign_sign adds) ∷ rest) (held_free (print.target t) h) (sound.assign_sign adds rest (held_free rest k)))

pub value_stmt : (e : ExprTerm) (place : Place) → ExprP e → StmtP (ValueStmt e place)
value_stmt e place h = sound.ended (print.expr e) (held_free (print.expr e) h)

pub all_in : (sss : List (List StmtTerm)) → AllOf (AllOf StmtP) sss → AllOf StmtP (concat sss)
all_in [] h = tt
all_in (ss ∷ sss) h = all_and StmtP ss (concat sss) h.0 (all_in sss h.1)

pub the_last : (s : Option StmtTerm) → IfThere StmtP s → AllOf StmtP (last_of s)
the_last None h = tt
the_last (Some s) h = (h, tt)

-- names with types
abbrev pub TypedP : TypedName → Type 0
TypedP t = Closed (printed.typed_name t)

pub more_params : (ps : List TypedName) → AllOf TypedP ps → Follows (printed.more_params ps)
more_params [] h = refl
more_params (p ∷ ps) h = (refl, sound.and_more (printed.typed_name p) (printed.more_params ps) (held_free (printed.typed_name p) h.0) (more_params ps h.1))

pub params_are : (ps : List TypedName) → AllOf TypedP ps → Follows (printed.params ps)
params_are [] h = refl
params_are (p ∷ ps) h = sound.and_more (printed.typed_name p) (printed.more_params ps) (held_free (printed.typed_name p) h.0) (more_params ps h.1)

pub fields_are : (fs : List TypedName) → AllOf TypedP fs → Follows (printed.fields fs)
fields_are [] h = refl
fields_are (f ∷ fs) h = sound.and_more (print.ended (printed.typed_name f)) (printed.fields fs) (sound.ended (printed.typed_name f) (held_free (printed.typed_name f) h.0)) (fields_are fs h.1)

-- a word with paths
pub listed_are : (word : Class) → ((qs : List PrintPiece) → Follows qs → Follows (piece.Plain word ∷ qs)) → (ps : List PathTree) → AllOf PathP ps → Follows (printed.listed word ps)
listed_are word k [] h = refl
listed_are word k (p ∷ ps) h = k (print.paths (p ∷ ps)) (sound.paths (p ∷ ps) h)

pub none_or : (ps : Option (List PathTree)) → IfThere (AllOf PathP) ps → AllOf PathP (paths_or_none ps)
none_or None h = tt
none_or (Some ps) h = h

pub signature_is : (p : List (List ℕ)) (ps : List TypedName) → Closed (print.names p) → AllOf TypedP ps → Follows (printed.signature p ps)
signature_is p ps h k = sound.and_more (print.names p) (print.in_round (printed.params ps)) (held_free (print.names p) h) (held_free (print.in_round (printed.params ps)) (sound.in_round (printed.params ps) (params_are ps k)))

-- units
abbrev pub UnitP : UnitTerm → Type 0
UnitP u = Follows (printed.unit u)

pub class_is : (c : ClassTerm) → IsName c.name → AllOf PathP c.supers → AllOf TypedP c.features → Follows (printed.class_unit c)
class_is c h k j =
    let inside = held_free (print.in_block (printed.fields c.features)) (sound.in_block (printed.fields c.features) (fields_are c.features j)) in
    (refl, (refl, (h, refl, sound.and_more (printed.listed class.ExtendsWord c.supers) (print.in_block (printed.fields c.features)) (listed_are class.ExtendsWord (λ qs g. (refl, g)) c.supers k) inside)))

pub main_is : (ss : List StmtTerm) (place : Place) → AllOf StmtP ss → UnitP (MainOf (stmts_of ss) place)
main_is ss place h = (refl, sound.and_more (print.in_round []) (print.block (stmts_of ss)) (refl, (refl, refl)) (sound.block ss h))

pub helper_is : (h : HelperTerm) (ss : List StmtTerm) → h.body ≡ stmts_of ss → Closed (print.names h.path) → AllOf TypedP h.params → IfThere TypeP h.answer → AllOf StmtP ss → Follows (printed.helper_unit h)
helper_is h ss e k j g f =
    let body = rest h ss e f in
    let answered = sound.and_more (print.typed_if h.answer) (print.block h.body) (sound.typed_if h.answer g) body in
    sound.helper_word h.pure (printed.signature h.path h.params ++ (print.typed_if h.answer ++ print.block h.body)) (sound.and_more (printed.signature h.path h.params) (print.typed_if h.answer ++ print.block h.body) (signature_is h.path h.params k j) answered) where
      rest : (h : HelperTerm) (ss : List StmtTerm) → h.body ≡ stmts_of ss → AllOf StmtP ss → Follows (print.block h.body)
      rest h ss e f = subst (λ z. Follows (print.block z)) (sym e) (sound.block ss f)

pub constructor_is : (p : List (List ℕ)) (ps : List TypedName) (ss : List StmtTerm) (place : Place) → Closed (print.names p) → AllOf TypedP ps → AllOf StmtP ss
    → UnitP (ConstructorOf (record { pure = false; path = p; params = ps; answer = None; body = stmts_of ss; place = place }))
constructor_is p ps ss place h k j = (refl, sound.and_more (printed.signature p ps) (print.block (stmts_of ss)) (signature_is p ps h k) (sound.block ss j))

abbrev pub ResultP : ResultDecl → Type 0
ResultP r = PathP r.path × IfThere IsName r.extent

pub result_is : (r : Option ResultDecl) → IfThere ResultP r → Follows (printed.result_if r)
result_is None h = refl
result_is (Some r) h = (refl, sound.then_more (print.path r.path) (print.extent r.extent) h.0 (sound.extent r.extent h.1))

pub when_is : (e : Option ExprTerm) → IfThere ExprP e → Follows (printed.when_if (optional_expr e))
when_is None h = refl
when_is (Some e) h = (refl, (refl, sound_append Opened (print.expr e) (print.one class.CloseBrace) (free_opened (print.expr e) (held_free (print.expr e) h)) (refl, refl)))

pub section_is : (word : Class) → ((qs : List PrintPiece) → Follows qs → Follows (piece.Plain word ∷ qs)) → (ss : List StmtTerm) → AllOf StmtP ss → Follows (printed.section word (stmts_of ss))
section_is word k [] h = refl
section_is word k (s ∷ ss) h = k (print.block (stmts_of (s ∷ ss))) (sound.block (s ∷ ss) h)

-- the clauses and the body of a mapping
pub record ClausesP (x : ClausesTree) : Type 0 where
  pub inherits : IfThere (AllOf PathP) x.inherits
  pub merges : IfThere (AllOf PathP) x.merges
  pub disjuncts : IfThere (AllOf PathP) x.disjuncts
  pub condition : IfThere ExprP x.condition

pub record BodyP (b : BodyTree) : Type 0 where
  pub init : AllOf StmtP b.init
  pub population : AllOf StmtP b.population
  pub finish : AllOf StmtP b.finish

pub body_is : (m : MappingTerm) (b : BodyTree) → m.init ≡ stmts_of b.init → m.population ≡ stmts_of b.population → m.finish ≡ stmts_of b.finish → BodyP b → Follows (printed.mapping_body m)
body_is m b d e f k = either_way (printed.has_statements m.init || printed.has_statements m.finish) where
  init : Follows (printed.section class.InitWord m.init)
  init = subst (λ z. Follows (printed.section class.InitWord z)) (sym d) (section_is class.InitWord (λ qs g. (refl, g)) b.init k.init)

  population : Follows (printed.section class.PopulationWord m.population)
  population = subst (λ z. Follows (printed.section class.PopulationWord z)) (sym e) (section_is class.PopulationWord (λ qs g. (refl, g)) b.population k.population)

  finish : Follows (printed.section class.EndWord m.finish)
  finish = subst (λ z. Follows (printed.section class.EndWord z)) (sym f) (section_is class.EndWord (λ qs g. (refl, g)) b.finish k.finish)

  inside : List PrintPiece
  inside = printed.section class.InitWord m.init ++ (printed.section class.PopulationWord m.population ++ printed.section class.EndWord m.finish)

  either_way : (x : Bool) → Follows (cond x (printed.sections m) (print.block m.population))
  either_way true =
      held_free (print.in_block inside) (sound.in_block inside (sound.and_more (printed.section class.InitWord m.init) (printed.section class.PopulationWord m.population ++ printed.section class.EndWord m.finish) init
      (sound.and_more (printed.section class.PopulationWord m.population) (printed.section class.EndWord m.finish) population finish)))
  either_way false = subst (λ z. Follows (print.block z)) (sym e) (sound.block b.population k.population)

pub mapping_is : (p : UnitPath) (ps : List TypedName) (r : Option ResultDecl) (x : ClausesTree) (b : BodyTree) → UnitPathP p → AllOf TypedP ps → IfThere ResultP r → ClausesP x → BodyP b → UnitP (mapping_of (p, (ps, (r, (x, b)))))
mapping_is p ps r x b h k j g f =
    let m : MappingTerm = record { path = p.names; params = ps; result_decl = r; inherits = paths_or_none x.inherits; merges = paths_or_none x.merges; disjuncts = paths_or_none x.disjuncts; condition = optional_expr x.condition; init = stmts_of b.init; population = stmts_of b.population; finish = stmts_of b.finish; place = p.place } in
    let inherits = listed_are class.InheritsWord (λ qs g. (refl, g)) (paths_or_none x.inherits) (none_or x.inherits g.inherits) in
    let merges = listed_are class.MergesWord (λ qs g. (refl, g)) (paths_or_none x.merges) (none_or x.merges g.merges) in
    let disjuncts = listed_are class.DisjunctsWord (λ qs g. (refl, g)) (paths_or_none x.disjuncts) (none_or x.disjuncts g.disjuncts) in
    let last = sound.and_more (printed.listed class.DisjunctsWord m.disjuncts) (printed.when_if m.condition) disjuncts (when_is x.condition g.condition) in
    let middle = sound.and_more (printed.listed class.MergesWord m.merges) (printed.listed class.DisjunctsWord m.disjuncts ++ printed.when_if m.condition) merges last in
    let extras = sound.and_more (printed.listed class.InheritsWord m.inherits) (printed.listed class.MergesWord m.merges ++ (printed.listed class.DisjunctsWord m.disjuncts ++ printed.when_if m.condition)) inherits middle in
    let tail = sound.and_more (printed.extras m) (printed.mapping_body m) extras (body_is m b refl refl refl f) in
    let after = sound.and_more (printed.result_if r) (printed.extras m ++ printed.mapping_body m) (result_is r j) tail in
    (refl, sound.and_more (printed.signature p.names ps) (printed.result_if r ++ (printed.extras m ++ printed.mapping_body m)) (signature_is p.names ps h k) after)

pub units_are : (us : List UnitTerm) → AllOf UnitP us → Follows (printed.units us)
units_are [] h = refl
units_are (u ∷ us) h = sound.and_more (printed.unit u) (piece.Line ∷ printed.units us) h.0 (units_are us h.1)

-- the module
abbrev pub ModelTypeP : ModelType → Type 0
ModelTypeP t = IsName t.name × IsEncoded t.uri

abbrev pub ModelParamP : ModelParam → Type 0
ModelParamP p = IsName p.name × IsName p.model_type

pub model_type_is : (t : ModelType) → ModelTypeP t → Follows (printed.model_type t)
model_type_is t h = (refl, (h.0, refl, (refl, (h.1, refl, (refl, refl)))))

pub model_types_are : (ts : List ModelType) → AllOf ModelTypeP ts → Follows (printed.model_types ts)
model_types_are [] h = refl
model_types_are (t ∷ ts) h = sound.and_more (printed.model_type t) (piece.Line ∷ printed.model_types ts) (model_type_is t h.0) (model_types_are ts h.1)

pub model_param_is : (p : ModelParam) → ModelParamP p → Follows (printed.model_param p)
model_param_is p h =
    let rest = piece.Name p.name ∷ piece.Plain class.Colon ∷ piece.Name p.model_type ∷ [] in
    held_free (printed.model_param p) (sound.direction_word p.direction rest (h.0, refl, (refl, (h.1, refl, refl))))

pub more_model_params : (ps : List ModelParam) → AllOf ModelParamP ps → Follows (printed.more_model_params ps)
more_model_params [] h = refl
more_model_params (p ∷ ps) h = (refl, sound.and_more (printed.model_param p) (printed.more_model_params ps) (model_param_is p h.0) (more_model_params ps h.1))

pub model_params_are : (ps : List ModelParam) → AllOf ModelParamP ps → Follows (printed.model_params ps)
model_params_are [] h = refl
model_params_are (p ∷ ps) h = sound.and_more (printed.model_param p) (printed.more_model_params ps) (model_param_is p h.0) (more_model_params ps h.1)

pub record ModuleP (m : ModuleTerm) : Type 0 where
  pub model_types : AllOf ModelTypeP m.model_types
  pub name : IsName m.name
  pub params : AllOf ModelParamP m.params
  pub units : AllOf UnitP m.units

pub module_is : (m : ModuleTerm) → ModuleP m → Follows (printed.module_pieces m)
unfolding module_pieces
module_is m h =
    let inside = printed.model_params m.params in
    let round = held_free (print.in_round inside) (sound.in_round inside (model_params_are m.params h.params)) in
    let head = sound.ended (piece.Plain class.TransformationWord ∷ piece.Name m.name ∷ print.in_round inside) (refl, (h.name, refl, round)) in
    let rest = sound.and_more (printed.header m) (piece.Line ∷ printed.units m.units) head (units_are m.units h.units) in
    sound.and_more (printed.model_types m.model_types) (printed.header m ++ (piece.Line ∷ printed.units m.units)) (model_types_are m.model_types h.model_types) rest

pub all_units : (uss : List (List UnitTerm)) → AllOf (AllOf UnitP) uss → AllOf UnitP (units_of uss)
all_units [] h = tt
all_units (us ∷ uss) h = all_and UnitP us (units_of uss) h.0 (all_units uss h.1)
