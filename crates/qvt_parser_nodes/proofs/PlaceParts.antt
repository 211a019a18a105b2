-- The places of a tree's parts.
use Rattle.std.proofs.Common.{◌≡◌, List, [], ◌∷◌, ◌++◌, refl, sym, ap, ◌∙◌, append_assoc, append-nil, Option, Some, None, inl, inr}
use Rattle.qvt_base.specs.declared.numbers.Place.{Place}
use Rattle.qvt_tree_types.specs.Tree.{ExprTerm, LinkTerm, ItemTerm, RangeTerm, FilterTerm, HeadTerm, AccumulatorTerm, StepTerm, StepTerms, StmtTerm, ArmTerm, PrefixExpr, PostExpr, NoSteps, MoreSteps}
use Rattle.qvt_tree_types.specs.View.{exprs_of, links_of, items_of, steps_of, stmts_of, arms_of, optional_expr, optional_args, optional_range, optional_filter, optional_accumulator, optional_else}
use Rattle.qvt_tree_types.specs.Module.{UnitTerm, MappingTerm}
use Rattle.qvt_tree_types.specs.declared.types.PathTree.{PathTree}
use Rattle.qvt_tree_types.specs.declared.words.Sign.{Sign}
use Rattle.qvt_language.specs.declared.named.Named.{Named}
use Rattle.qvt_language.specs.Leads.{EachPart}
use Rattle.qvt_language.specs.Trees.{last_place, more_steps, stepped, signed, post_of}
use Rattle.qvt_language.specs.StmtTrees.{for_each_of, concat, last_of}
use Rattle.qvt_language.specs.UnitTrees.{paths_or_none, stmts_or_none, units_of}
use Rattle.qvt_parser_nodes.specs.Places as places_of
use Rattle.qvt_parser_nodes.specs.Places.{all_places, places_if, path_places, type_places, sign_places, expr_places, exprs_places, optional_places, args_places, link_places, links_places, item_places, items_places, range_places, filter_places, head_places, accumulator_places, step_places, steps_places, stmt_places, stmts_places, else_places, arm_places, arms_places, unit_places}
use Rattle.qvt_parser_nodes.proofs.Along.{Less, Thin, same, is_same, at, over, parts, less_trans}

abbrev pub named_places : Named → List Place
named_places n = n.place ∷ []

-- after the source of a `forEach`
abbrev pub part_places : EachPart → List Place
part_places p = places_if type_places p.kind ++ (optional_places p.condition ++ all_places stmt_places p.body)

-- the head and the arguments of an arrow
abbrev pub args_of_arrow : HeadTerm × List ExprTerm → List Place
args_of_arrow x = head_places x.0 ++ all_places expr_places x.1

abbrev pub after_steps : ExprTerm → List StepTerm → List Place
after_steps e ss = expr_places e ++ all_places step_places ss

pub all_append : {A : Type 0} (p : A → List Place) (xs ys : List A) → all_places p (xs ++ ys) ≡ all_places p xs ++ all_places p ys
all_append p [] ys = refl
all_append p (x ∷ xs) ys = ap (λ z. p x ++ z) (all_append p xs ys) ∙ sym (append_assoc (p x) (all_places p xs) (all_places p ys))

pub exprs_are : (es : List ExprTerm) → exprs_places (exprs_of es) ≡ all_places expr_places es
exprs_are [] = refl
exprs_are (e ∷ es) = ap (λ z. expr_places e ++ z) (exprs_are es)

pub items_are : (is : List ItemTerm) → items_places (items_of is) ≡ all_places item_places is
items_are [] = refl
items_are (i ∷ is) = ap (λ z. item_places i ++ z) (items_are is)

pub stmts_are : (ss : List StmtTerm) → stmts_places (stmts_of ss) ≡ all_places stmt_places ss
stmts_are [] = refl
stmts_are (s ∷ ss) = ap (λ z. stmt_places s ++ z) (stmts_are ss)

pub links_are : (ls : List LinkTerm) → links_places (links_of ls) ≡ all_places link_places ls
links_are [] = refl
links_are (l ∷ ls) = ap (λ z. link_places l ++ z) (links_are ls)

pub steps_are : (ss : List StepTerm) → steps_places (steps_of ss) ≡ all_places step_places ss
steps_are [] = refl
steps_are (s ∷ ss) = ap (λ z. step_places s ++ z) (steps_are ss)

pub arms_are : (as_ : List ArmTerm) → arms_places (arms_of as_) ≡ all_places arm_places as_
arms_are [] = refl
arms_are (a ∷ as_) = ap (λ z. arm_places a ++ z) (arms_are as_)

pub optional_is : (e : Option ExprTerm) → optional_places (optional_expr e) ≡ places_if expr_places e
optional_is None = refl
optional_is (Some e) = refl

pub range_is : (r : Option RangeTerm) → range_places (optional_range r) ≡ places_if range_places r
range_is None = refl
range_is (Some r) = refl

pub filter_is : (f : Option FilterTerm) → filter_places (optional_filter f) ≡ places_if filter_places f
filter_is None = refl
filter_is (Some f) = refl

pub args_are : (es : Option (List ExprTerm)) → args_places (optional_args es) ≡ places_if (all_places expr_places) es
args_are None = refl
args_are (Some es) = exprs_are es

pub accumulator_is : (a : Option AccumulatorTerm) → accumulator_places (optional_accumulator a) ≡ places_if accumulator_places a
accumulator_is None = refl
accumulator_is (Some a) = refl

pub else_is : (ss : Option (List StmtTerm)) → else_places (optional_else ss) ≡ places_if (all_places stmt_places) ss
else_is None = refl
else_is (Some ss) = stmts_are ss

pub none_or : (ps : Option (List PathTree)) → all_places path_places (paths_or_none ps) ≡ places_if (all_places path_places) ps
none_or None = refl
none_or (Some ps) = refl

pub no_stmts_or : (ss : Option (List StmtTerm)) → all_places stmt_places (stmts_or_none ss) ≡ places_if (all_places stmt_places) ss
no_stmts_or None = refl
no_stmts_or (Some ss) = refl

pub last_thin : (place : Place) (ns : List Named) → Thin (last_place place ns ∷ []) (place ∷ all_places named_places ns)
last_thin place [] = inl (refl, tt)
last_thin place (n ∷ ns) = inr (last_thin n.place ns)

pub each_is : (e : ExprTerm) (p : EachPart) (place : Place) → stmt_places (for_each_of e p place) ≡ place ∷ (expr_places e ++ part_places p)
each_is e p place = ap (λ z. place ∷ (expr_places e ++ (places_if type_places p.kind ++ (optional_places p.condition ++ z)))) (stmts_are p.body)

pub all_in : (sss : List (List StmtTerm)) → all_places stmt_places (concat sss) ≡ all_places (all_places stmt_places) sss
all_in [] = refl
all_in (ss ∷ sss) = all_append stmt_places ss (concat sss) ∙ ap (λ z. all_places stmt_places ss ++ z) (all_in sss)

pub the_last : (s : Option StmtTerm) → all_places stmt_places (last_of s) ≡ places_if stmt_places s
the_last None = refl
the_last (Some s) = append-nil (stmt_places s)

pub all_units : (choice : MappingTerm → places_of.ClauseKind) (uss : List (List UnitTerm)) → all_places (unit_places choice) (units_of uss) ≡ all_places (all_places (unit_places choice)) uss
all_units choice [] = refl
all_units choice (us ∷ uss) = all_append (unit_places choice) us (units_of uss) ∙ ap (λ z. all_places (unit_places choice) us ++ z) (all_units choice uss)

pub more_are : (old : StepTerms) (ss : List StepTerm) → steps_places (more_steps old ss) ≡ steps_places old ++ all_places step_places ss
more_are NoSteps ss = steps_are ss
more_are (MoreSteps s old) ss = ap (λ z. step_places s ++ z) (more_are old ss) ∙ sym (append_assoc (step_places s) (steps_places old) (all_places step_places ss))

-- what steps and signs make of an expression
stepped_less : (place : Place) (e : ExprTerm) (ss : List StepTerm) → Less (expr_places (stepped place e ss)) (place ∷ after_steps e ss)
stepped_less place (PostExpr e old p) ss =
    at place (over p (is_same (ap (λ z. expr_places e ++ z) (more_are old ss) ∙ sym (append_assoc (expr_places e) (steps_places old) (all_places step_places ss)))))
stepped_less place e ss = is_same (ap (λ z. place ∷ (expr_places e ++ z)) (steps_are ss))

pub post_less : (place : Place) (e : ExprTerm) (ss : List StepTerm) → Less (expr_places (post_of place e ss)) (place ∷ after_steps e ss)
post_less place e [] = over place (is_same (sym (append-nil (expr_places e))))
post_less place e (s ∷ ss) = stepped_less place e (s ∷ ss)

pub signed_less : (place : Place) (ss : List Sign) (e : ExprTerm) → Less (expr_places (signed place ss e)) (place ∷ (all_places sign_places ss ++ expr_places e))
signed_less place ss (PrefixExpr old e p) =
    let rest = all_places sign_places old ++ expr_places e in
    at place (less_trans (is_same (ap (λ z. z ++ expr_places e) (all_append sign_places ss old) ∙ append_assoc (all_places sign_places ss) (all_places sign_places old) (expr_places e)))
    (parts {ps = all_places sign_places ss} {qs = all_places sign_places ss} {xs = rest} {ys = p ∷ rest} same (over p same)))
signed_less place ss e = same
