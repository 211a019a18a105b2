-- What is told of names and texts holds of a tree where it holds of its parts.
use Rattle.std.proofs.Common.{List, [], ◌∷◌, map, Option, Some, None}
use Rattle.qvt_base.specs.declared.numbers.Place.{Place}
use Rattle.qvt_tree_types.specs.Tree.{ExprTerm, LinkTerm, ItemTerm, RangeTerm, FilterTerm, AccumulatorTerm, StepTerm, StepTerms, StmtTerm, ArmTerm}
use Rattle.qvt_tree_types.specs.Tree.{PrefixExpr, PostExpr, NoSteps, MoreSteps}
use Rattle.qvt_tree_types.specs.View.{exprs_of, links_of, items_of, steps_of, stmts_of, arms_of, optional_expr, optional_args, optional_range, optional_filter, optional_accumulator, optional_else}
use Rattle.qvt_tree_types.specs.Module.{UnitTerm}
use Rattle.qvt_tree_types.specs.declared.types.PathTree.{PathTree}
use Rattle.qvt_tree_types.specs.declared.words.Sign.{Sign}
use Rattle.qvt_language.specs.declared.named.Named.{Named}
use Rattle.qvt_language.specs.Trees.{more_steps, stepped, signed, post_of}
use Rattle.qvt_language.specs.StmtTrees.{concat, last_of}
use Rattle.qvt_language.specs.UnitTrees.{paths_or_none, stmts_or_none, units_of}
use Rattle.qvt_language_rows.specs.Lists.{AllOf, IfThere}
use Rattle.qvt_language_rows.proofs.Gives.{all_and}
use Rattle.qvt_parser_nodes.specs.Names.{NameConditions, PathHolds, ExprHolds, ExprsHold, OptionalHolds, ArgsHold, LinkHolds, LinksHold, ItemHolds, ItemsHold, RangeHolds, FilterHolds, AccumulatorHolds, StepHolds, StepsHold, StmtHolds, StmtsHold, ElseHolds, ArmHolds, ArmsHold, UnitHolds}

-- N of a name
abbrev pub NamedP : NameConditions → Named → Type 0
NamedP N n = N.name n.text

module _ (N : NameConditions) where
  pub texts : (ns : List Named) → AllOf (NamedP N) ns → AllOf N.name (map (λ m. m.text) ns)
  texts [] h = tt
  texts (n ∷ ns) h = (h.0, texts ns h.1)

  pub exprs_are : (es : List ExprTerm) → AllOf (ExprHolds N) es → ExprsHold N (exprs_of es)
  exprs_are [] h = tt
  exprs_are (e ∷ es) h = (h.0, exprs_are es h.1)

  pub items_are : (is : List ItemTerm) → AllOf (ItemHolds N) is → ItemsHold N (items_of is)
  items_are [] h = tt
  items_are (i ∷ is) h = (h.0, items_are is h.1)

  pub links_are : (ls : List LinkTerm) → AllOf (LinkHolds N) ls → LinksHold N (links_of ls)
  links_are [] h = tt
  links_are (l ∷ ls) h = (h.0, links_are ls h.1)

  pub steps_are : (ss : List StepTerm) → AllOf (StepHolds N) ss → StepsHold N (steps_of ss)
  steps_are [] h = tt
  steps_are (s ∷ ss) h = (h.0, steps_are ss h.1)

  pub stmts_are : (ss : List StmtTerm) → AllOf (StmtHolds N) ss → StmtsHold N (stmts_of ss)
  stmts_are [] h = tt
  stmts_are (s ∷ ss) h = (h.0, stmts_are ss h.1)

  pub arms_are : (as_ : List ArmTerm) → AllOf (ArmHolds N) as_ → ArmsHold N (arms_of as_)
  arms_are [] h = tt
  arms_are (a ∷ as_) h = (h.0, arms_are as_ h.1)

  pub optional_is : (e : Option ExprTerm) → IfThere (ExprHolds N) e → OptionalHolds N (optional_expr e)
  optional_is None h = tt
  optional_is (Some e) h = h

  pub args_are : (es : Option (List ExprTerm)) → IfThere (AllOf (ExprHolds N)) es → ArgsHold N (optional_args es)
  args_are None h = tt
  args_are (Some es) h = exprs_are es h

  pub range_is : (r : Option RangeTerm) → IfThere (RangeHolds N) r → RangeHolds N (optional_range r)
  range_is None h = tt
  range_is (Some r) h = h

  pub filter_is : (f : Option FilterTerm) → IfThere (FilterHolds N) f → FilterHolds N (optional_filter f)
  filter_is None h = tt
  filter_is (Some f) h = h

  pub accumulator_is : (a : Option AccumulatorTerm) → IfThere (AccumulatorHolds N) a → AccumulatorHolds N (optional_accumulator a)
  accumulator_is None h = tt
  accumulator_is (Some a) h = h

  pub else_is : (ss : Option (List StmtTerm)) → IfThere (AllOf (StmtHolds N)) ss → ElseHolds N (optional_else ss)
  else_is None h = tt
  else_is (Some ss) h = stmts_are ss h

  pub none_or : (ps : Option (List PathTree)) → IfThere (AllOf (PathHolds N)) ps → AllOf (PathHolds N) (paths_or_none ps)
  none_or None h = tt
  none_or (Some ps) h = h

  pub no_stmts_or : (ss : Option (List StmtTerm)) → IfThere (AllOf (StmtHolds N)) ss → AllOf (StmtHolds N) (stmts_or_none ss)
  no_stmts_or None h = tt
  no_stmts_or (Some ss) h = h

  pub more_are : (old : StepTerms) (ss : List StepTerm) → StepsHold N old → AllOf (StepHolds N) ss → StepsHold N (more_steps old ss)
  more_are NoSteps ss h k = steps_are ss k
  more_are (MoreSteps s old) ss h k = (h.0, more_are old ss h.1 k)

  pub stepped_is : (place : Place) (e : ExprTerm) (ss : List StepTerm) → ExprHolds N e → AllOf (StepHolds N) ss → ExprHolds N (stepped place e ss)
  stepped_is place (PostExpr e old p) ss h k = (h.0, more_are old ss h.1 k)
  stepped_is place e ss h k = (h, steps_are ss k)

  pub post_is : (place : Place) (e : ExprTerm) (ss : List StepTerm) → ExprHolds N e → AllOf (StepHolds N) ss → ExprHolds N (post_of place e ss)
  post_is place e [] h k = h
  post_is place e (s ∷ ss) h k = stepped_is place e (s ∷ ss) h k

  pub signed_is : (place : Place) (ss : List Sign) (e : ExprTerm) → ExprHolds N e → ExprHolds N (signed place ss e)
  signed_is place ss (PrefixExpr old e p) h = h
  signed_is place ss e h = h

  pub all_in : (sss : List (List StmtTerm)) → AllOf (AllOf (StmtHolds N)) sss → AllOf (StmtHolds N) (concat sss)
  all_in [] h = tt
  all_in (ss ∷ sss) h = all_and (StmtHolds N) ss (concat sss) h.0 (all_in sss h.1)

  pub the_last : (s : Option StmtTerm) → IfThere (StmtHolds N) s → AllOf (StmtHolds N) (last_of s)
  the_last None h = tt
  the_last (Some s) h = (h, tt)

  pub all_units : (uss : List (List UnitTerm)) → AllOf (AllOf (UnitHolds N)) uss → AllOf (UnitHolds N) (units_of uss)
  all_units [] h = tt
  all_units (us ∷ uss) h = all_and (UnitHolds N) us (units_of uss) h.0 (all_units uss h.1)
