-- Expressions that are no chain, prefix or post are read again.
use Rattle.std.proofs.Common.{◌≡◌, ℕ, List, [], ◌∷◌, ◌++◌, map, Bool, true, false, ◌⊎◌, inl, inr, refl, sym, ap, ◌∙◌, subst, append_assoc, Option, Some, None, option_map}
use Rattle.std.specs.Prelude.{⊤}
use Rattle.qvt_tree_types.specs.Tree.{TypeTerm, PathType, NoFilter, MoreExprs, MoreItems, MoreStmts, BareTarget, ExprTerm, RangeTerm, ItemTerm, FilterTerm, StmtTerm, MapExpr, ResolveExpr, CallExpr, PathExpr, CollExpr, MapOf, ItemOf, ResolveOf, FilterOf, ObjectExpr, NewExpr}
use Rattle.qvt_tree_types.specs.View.{exprs_of, items_of, stmts_of, optional_expr, optional_range, optional_filter}
use Rattle.qvt_tree_types.specs.declared.types.PathTree.{PathTree}
use Rattle.qvt_tree_types.specs.declared.words.ResolveWord.{ResolveWord}
use Rattle.qvt_tree_types.specs.declared.words.ResolveWord.TheVariants as resolves
use Rattle.qvt_tree.specs.Shape.{nowhere, erase_path, erase_optional_path, erase_optional_variable, erase_type, erase_expr, erase_exprs, erase_optional_expr, erase_item, erase_items, erase_range, erase_map_call, erase_resolve, erase_filter, erase_accumulator, erase_stmt, erase_stmts}
use Rattle.qvt_grammar.specs.Language.{made, then}
use Rattle.qvt_language.specs.Readers.{the}
use Rattle.qvt_language.specs.declared.named.Named.{Named}
use Rattle.qvt_language.specs.declared.class.Class.{Class}
use Rattle.qvt_language.specs.declared.class.Class.TheVariants as class
use Rattle.qvt_language.specs.Tokens.{Tok}
use Rattle.qvt_language.specs.Leads.{Lead, Plain, Bracketed}
use Rattle.qvt_language.specs.Grammar.{NestedLanguages, expr, exprs, args, literal, word, named_expr, item, coll, if_expr, object, new_expr, map_call, filter_head, bar_expr, filter, all_word, in_word, all_form, in_form, resolve, longer, bare_expr, accumulator, more_exprs}
use Rattle.qvt_language.specs.Trees.{second, first, cons_of, nothing, inner, int_of, str_of, true_of, false_of, null_of, self_of, result_of, named_expr_of, coll_of, range_of, item_of, if_of, object_of, new_of, map_of, is_strict, all_of, in_of, is_there, resolve_of, resolve_word, no_name, named_type, filter_of, accumulator_of, expr_of}
use Rattle.qvt_printer_layout.specs.declared.piece.PrintPiece.{PrintPiece}
use Rattle.qvt_printer_layout.specs.declared.piece.PrintPiece.TheVariants as piece
use Rattle.qvt_printer_layout.specs.Words as words
use Rattle.qvt_printer.specs.Expressions as print
use Rattle.qvt_readback_tokens.specs.Spelled.{all_spelled}
use Rattle.qvt_readback_trees.specs.Printable.{IsPrintableExpr, ArePrintableExprs, IsPrintableOptional, IsPrintableItem, ArePrintableItems, IsPrintableRange, IsPrintableMap, IsPrintableResolve, IsPrintableFilter, IsPrintableAccumulator, ArePrintableStmts}
use Rattle.qvt_readback_tokens.proofs.Classes.{is_itself}
use Rattle.qvt_readback_trees.proofs.Spelling.{plain, plain_name, items_spelled, rest_spelled}
use Rattle.qvt_readback_trees.proofs.Again.{Again, any, again_the, again_word, again_integer_token, again_string_token, again_then, again_made, again_either, again_one, again_many, again_maybe, again_placed, optional_ok, if_there}
use Rattle.qvt_readback_trees.proofs.AgainNames.{bare_named, texts, again_name, again_more_names, again_path, again_extent, kind_class, again_kind_word, kind_again, again_coll_type, again_colon_type, again_object_head, bare_path_of}
use Rattle.qvt_readback_trees.proofs.Forms.{Bracket, Form, is_basic}

-- lists of trees without places
pub bare_exprs : (es : List ExprTerm) → erase_exprs (exprs_of es) ≡ exprs_of (map erase_expr es)
bare_exprs [] = refl
bare_exprs (e ∷ es) = ap (MoreExprs (erase_expr e)) (bare_exprs es)

pub bare_items : (is : List ItemTerm) → erase_items (items_of is) ≡ items_of (map erase_item is)
bare_items [] = refl
bare_items (x ∷ is) = ap (MoreItems (erase_item x)) (bare_items is)

pub bare_stmts : (ss : List StmtTerm) → erase_stmts (stmts_of ss) ≡ stmts_of (map erase_stmt ss)
bare_stmts [] = refl
bare_stmts (s ∷ ss) = ap (MoreStmts (erase_stmt s)) (bare_stmts ss)

pub bare_optional : (x : Option ExprTerm) → erase_optional_expr (optional_expr x) ≡ optional_expr (option_map erase_expr x)
bare_optional None = refl
bare_optional (Some e) = refl

pub ok_optional : (x : Option ExprTerm) → IsPrintableOptional (optional_expr x) → optional_ok IsPrintableExpr x
ok_optional None o = tt
ok_optional (Some e) o = o

-- what stands nested inside is read again, and has a form
pub record Inside (i : NestedLanguages) (e : ExprTerm) : Type 0 where
  pub bracket : Bracket i e
  pub form : Form i e

pub record AgainNested (i : NestedLanguages) : Type 0 where
  pub flagged : (ts : List Tok) (x : Lead) → i.flagged.reads ts x → IsPrintableExpr (expr_of x) → Inside i (expr_of x)
  -- an expression in brackets alone
  pub bracketed : (ts : List Tok) (e : ExprTerm) → i.flagged.reads ts (Bracketed e) → IsPrintableExpr e → i.flagged.reads (all_spelled (print.in_round (print.expr e))) (Bracketed (erase_expr e))
  pub names : (ts : List Tok) (x : Lead) → i.flagged.reads ts x → (n : List ℕ) → i.flagged.reads (plain_name n ∷ []) (Plain (PathExpr (record { names = n ∷ []; place = nowhere })) (Some (BareTarget n nowhere)))
  pub block : Again (λ (ss : List StmtTerm). ArePrintableStmts (stmts_of ss)) (λ ss. print.block (stmts_of ss)) (map erase_stmt) i.block i.block
  pub kind : Again any print.type_of erase_type i.kind i.kind

abbrev Items : List ItemTerm → Type 0
Items is = ArePrintableItems (items_of is)

abbrev item_pieces : List ItemTerm → List PrintPiece
item_pieces is = print.all_items false (items_of is)

abbrev call_pieces : List ExprTerm ⊎ List Named → List PrintPiece
call_pieces (inl es) = print.in_round (print.exprs false (exprs_of es))
call_pieces (inr ns) = print.more_names (texts ns)

abbrev call_ok : List ExprTerm ⊎ List Named → Type 0
call_ok (inl es) = ArePrintableExprs (exprs_of es)
call_ok (inr ns) = ⊤

abbrev pub bare_call : List ExprTerm ⊎ List Named → List ExprTerm ⊎ List Named
bare_call (inl es) = inl (map erase_expr es)
bare_call (inr ns) = inr (map bare_named ns)

call_okay : (n : Named) (x : List ExprTerm ⊎ List Named) → IsPrintableExpr (named_expr_of (n, x)) → call_ok x
call_okay n (inl es) o = o
call_okay n (inr ns) o = tt

call_same : (n : Named) (x : List ExprTerm ⊎ List Named) → all_spelled (print.expr (named_expr_of (n, x))) ≡ all_spelled (piece.Name n.text ∷ call_pieces x)
call_same n (inl es) = refl
call_same n (inr ns) = refl

pub call_bare : (n : Named) (x : List ExprTerm ⊎ List Named) → erase_expr (named_expr_of (n, x)) ≡ named_expr_of (bare_named n, bare_call x)
call_bare n (inl es) = ap (λ z. CallExpr n.text z nowhere) (bare_exprs es)
call_bare n (inr ns) = ap PathExpr (bare_path_of n ns)

range_ok : (x : Option RangeTerm) → IsPrintableRange (optional_range x) → optional_ok IsPrintableRange x
range_ok None o = tt
range_ok (Some r) o = o

range_same : (x : Option RangeTerm) → all_spelled (print.range (optional_range x)) ≡ all_spelled (if_there print.range x)
range_same None = refl
range_same (Some r) = refl

pub range_bare : (x : Option RangeTerm) → erase_range (optional_range x) ≡ optional_range (option_map erase_range x)
range_bare None = refl
range_bare (Some r) = refl

pub condition_same : (x : Option ExprTerm) → all_spelled (print.condition_if (optional_expr x)) ≡ all_spelled (if_there (λ (e : ExprTerm). piece.Plain class.Bar ∷ print.expr e) x)
condition_same None = refl
condition_same (Some e) = refl

-- filters

abbrev pub FilterHead : Type 0
FilterHead = Option (List ℕ) × TypeTerm

abbrev filter_pieces : FilterHead → List PrintPiece
filter_pieces x = print.named_if x.0 ++ print.type_of x.1

abbrev pub bare_filter : FilterHead → FilterHead
bare_filter x = (x.0, erase_type x.1)

abbrev named_pieces : TypeTerm ⊎ List Named → List PrintPiece
named_pieces (inl t) = print.typed t
named_pieces (inr ns) = print.more_names (texts ns)

abbrev pub bare_either : TypeTerm ⊎ List Named → TypeTerm ⊎ List Named
bare_either (inl t) = inl (erase_type t)
bare_either (inr ns) = inr (map bare_named ns)

filter_same : (n : Named) (x : TypeTerm ⊎ List Named) → all_spelled (filter_pieces (named_type (n, x))) ≡ all_spelled (piece.Name n.text ∷ named_pieces x)
filter_same n (inl t) = refl
filter_same n (inr ns) = refl

pub filter_bare : (n : Named) (x : TypeTerm ⊎ List Named) → bare_filter (named_type (n, x)) ≡ named_type (bare_named n, bare_either x)
filter_bare n (inl t) = refl
filter_bare n (inr ns) = λ j. (None, PathType (bare_path_of n ns j))

whole_filter : (head : FilterHead) (x : Option ExprTerm) → all_spelled (print.filter (FilterOf head.0 head.1 (optional_expr x) nowhere)) ≡ all_spelled (filter_pieces head ++ if_there (λ (e : ExprTerm). piece.Plain class.Bar ∷ print.expr e) x)
whole_filter head x =
    rest_spelled (print.named_if head.0) (print.type_of head.1 ++ print.condition_if (optional_expr x)) (print.type_of head.1 ++ if_there (λ (e : ExprTerm). piece.Plain class.Bar ∷ print.expr e) x) (rest_spelled (print.type_of head.1) _ _ (condition_same x))
    ∙ ap all_spelled (sym (append_assoc (print.named_if head.0) (print.type_of head.1) _))

-- resolves

abbrev resolve_class : Class → Class
resolve_class c = words.resolve_word (resolve_word c)

word_kept : (w : ResolveWord) → resolve_word (words.resolve_word w) ≡ w
word_kept resolves.Resolve = refl
word_kept _ = refl

word_again : (c : Class) → resolve_word c ≡ resolve_word (resolve_class c)
word_again c = sym (word_kept (resolve_word c))

abbrev pub Resolved : Type 0
Resolved = ResolveWord × (Option PathTree × Option FilterTerm)

abbrev resolved_ok : Resolved → Type 0
resolved_ok x = IsPrintableFilter (optional_filter x.1.1)

abbrev resolved_pieces : Resolved → List PrintPiece
resolved_pieces x = piece.Plain (words.resolve_word x.0) ∷ print.in_round (print.resolved x.1.0 (optional_filter x.1.1))

abbrev pub bare_resolved : Resolved → Resolved
bare_resolved x = (x.0, (erase_optional_path x.1.0, option_map erase_filter x.1.1))

all_same : (f : FilterTerm) → print.resolved None f ≡ print.filter f
all_same NoFilter = refl
all_same (FilterOf name kind condition place) = refl

abbrev comma_filter : FilterTerm → List PrintPiece
comma_filter NoFilter = []
comma_filter (FilterOf name kind condition place) = piece.Plain class.Comma ∷ print.filter (FilterOf name kind condition place)

in_same : (p : PathTree) (x : Option FilterTerm) → all_spelled (print.in_round (print.resolved (Some p) (optional_filter x))) ≡ all_spelled (piece.Plain class.OpenRound ∷ (print.path p ++ (if_there comma_filter x ++ print.one class.CloseRound)))
in_same p None = refl
in_same p (Some NoFilter) = refl
in_same p (Some (FilterOf name kind condition place)) = ap (λ z. all_spelled (piece.Plain class.OpenRound ∷ z)) (append_assoc (print.path p) (comma_filter (FilterOf name kind condition place)) (print.one class.CloseRound))

in_ok : (x : Option FilterTerm) → IsPrintableFilter (optional_filter x) → optional_ok IsPrintableFilter x
in_ok None o = tt
in_ok (Some f) o = o

pub optional_any : {A : Type 0} (x : Option A) → optional_ok any x
optional_any None = tt
optional_any (Some a) = tt

late_same : {X : Type 0} (late : Option X) (r : List PrintPiece) → print.late_if (is_there late) ++ r ≡ if_there (λ _. print.one class.LateWord) late ++ r
late_same None r = refl
late_same (Some t) r = refl

pub there_same : {A B : Type 0} (f : A → B) (x : Option A) → is_there x ≡ is_there (option_map f x)
there_same f None = refl
there_same f (Some a) = refl

pub filter_erased : (x : Option FilterTerm) → erase_filter (optional_filter x) ≡ optional_filter (option_map erase_filter x)
filter_erased None = refl
filter_erased (Some f) = refl

abbrev map_class : Class → Class
map_class c = words.map_word (is_strict c)

strict_kept : (b : Bool) → is_strict (words.map_word b) ≡ b
strict_kept true = refl
strict_kept false = refl

abbrev FilterReads : NestedLanguages → List Tok → FilterTerm → Type 0
FilterReads i ts f = (filter i).reads ts f

comma_spelled : (i : NestedLanguages) (ts : List Tok) (f : FilterTerm) → FilterReads i ts f → all_spelled (comma_filter f) ≡ plain class.Comma ∷ all_spelled (print.filter f)
unfolding filter
comma_spelled i ts f rd = subst (λ z. all_spelled (comma_filter z) ≡ plain class.Comma ∷ all_spelled (print.filter z)) (sym rd.2) refl

module _ {i : NestedLanguages} (h : AgainNested i) where
  pub again_expr : Again IsPrintableExpr print.expr erase_expr (expr i) (expr i)
  unfolding expr
  again_expr = record {
    again = λ ts e rd o. (
        let q = rd.2 in
        let w = h.flagged ts rd.0 rd.1 (subst IsPrintableExpr q o) in
        subst (λ z. (expr i).reads (all_spelled (print.expr z)) (erase_expr z)) (sym q) (Plain (erase_expr (expr_of rd.0)) w.bracket.0, w.bracket.1, refl));
  }

  pub again_more_exprs : Again (λ (es : List ExprTerm). ArePrintableExprs (exprs_of es)) (λ es. print.exprs true (exprs_of es)) (map erase_expr) (more_exprs i) (more_exprs i)
  unfolding more_exprs
  again_more_exprs = again_many (again_made {ok2 = IsPrintableExpr} {p2 = λ e. piece.Plain class.Comma ∷ print.expr e} {b2 = erase_expr} second (again_then (again_the class.Comma) again_expr) (λ a o. (tt, o)) (λ a. refl) (λ a. refl))
      (λ es. ArePrintableExprs (exprs_of es)) (λ a more o. o) (λ es. print.exprs true (exprs_of es)) refl (λ a more. refl)

  pub again_exprs : Again (λ (es : List ExprTerm). ArePrintableExprs (exprs_of es)) (λ es. print.exprs false (exprs_of es)) (map erase_expr) (exprs i) (exprs i)
  unfolding exprs more_exprs
  again_exprs = again_made cons_of (again_then again_expr again_more_exprs) (λ a o. o) (λ a. refl) (λ a. refl)

  pub again_args : Again (λ (es : List ExprTerm). ArePrintableExprs (exprs_of es)) (λ es. print.in_round (print.exprs false (exprs_of es))) (map erase_expr) (args i) (args i)
  unfolding args
  again_args = again_made second (again_then (again_the class.OpenRound)
      (again_either {ok = λ (es : List ExprTerm). ArePrintableExprs (exprs_of es)} {p = λ es. print.exprs false (exprs_of es) ++ print.one class.CloseRound} {b = map erase_expr}
      (again_made nothing (again_the class.CloseRound) (λ a o. tt) (λ a. refl) (λ a. refl))
      (again_made first (again_then again_exprs (again_the class.CloseRound)) (λ a o. (o, tt)) (λ a. refl) (λ a. refl))))
      (λ a o. (tt, o)) (λ a. refl) (λ a. refl)

  pub again_literal : Again IsPrintableExpr print.expr erase_expr literal literal
  unfolding literal
  again_literal = again_either (again_made int_of again_integer_token (λ a o. tt) (λ a. refl) (λ a. refl)) (again_either (again_made str_of again_string_token (λ a o. tt) (λ a. refl) (λ a. refl))
      (again_either (again_made true_of (again_the class.TrueWord) (λ a o. tt) (λ a. refl) (λ a. refl)) (again_made false_of (again_the class.FalseWord) (λ a o. tt) (λ a. refl) (λ a. refl))))

  pub again_word_expr : Again IsPrintableExpr print.expr erase_expr word word
  unfolding word
  again_word_expr = again_either (again_made null_of (again_the class.NullWord) (λ a o. tt) (λ a. refl) (λ a. refl))
      (again_either (again_made self_of (again_the class.SelfWord) (λ a o. tt) (λ a. refl) (λ a. refl)) (again_made result_of (again_the class.ResultWord) (λ a o. tt) (λ a. refl) (λ a. refl)))

  pub again_named_expr : Again IsPrintableExpr print.expr erase_expr (named_expr i) (named_expr i)
  unfolding named_expr
  again_named_expr = again_made named_expr_of (again_then again_name (again_either {ok = call_ok} {p = call_pieces} {b = bare_call}
      (again_made inl again_args (λ a o. o) (λ a. refl) (λ a. refl))
      (again_made inr again_more_names (λ a o. tt) (λ a. refl) (λ a. refl))))
      (λ a o. (tt, call_okay a.0 a.1 o)) (λ a. call_same a.0 a.1) (λ a. call_bare a.0 a.1)

  pub again_item : Again IsPrintableItem print.item erase_item (item i) (item i)
  unfolding item
  again_item = again_made item_of (again_placed (again_then again_expr (again_maybe (again_made {ok2 = IsPrintableRange} {p2 = print.range} {b2 = erase_range} range_of (again_then (again_the class.DotDot) again_expr) (λ a o. (tt, o)) (λ a. refl) (λ a. refl)))))
      (λ a o. (o.0, range_ok a.1.1 o.1)) (λ a. rest_spelled (print.expr a.1.0) _ _ (range_same a.1.1)) (λ a. ap (λ z. ItemOf (erase_expr a.1.0) z nowhere) (range_bare a.1.1))

  pub again_coll : Again IsPrintableExpr print.expr erase_expr (coll i) (coll i)
  unfolding coll
  again_coll = again_made coll_of (again_then again_kind_word (again_made {ok2 = Items} {p2 = λ is. piece.Plain class.OpenBrace ∷ (item_pieces is ++ print.one class.CloseBrace)} {b2 = map erase_item} second (again_then (again_the class.OpenBrace)
      (again_either {ok = Items} {p = λ is. item_pieces is ++ print.one class.CloseBrace} {b = map erase_item}
      (again_made nothing (again_the class.CloseBrace) (λ a o. tt) (λ a. refl) (λ a. refl))
      (again_made first (again_then (again_made {ok2 = Items} {p2 = item_pieces} {b2 = map erase_item} cons_of (again_then again_item
      (again_many (again_made {ok2 = IsPrintableItem} {p2 = λ x. piece.Plain class.Comma ∷ print.item x} {b2 = erase_item} second (again_then (again_the class.Comma) again_item) (λ a o. (tt, o)) (λ a. refl) (λ a. refl))
      Items (λ a more o. o) (λ is. print.all_items true (items_of is)) refl (λ a more. refl)))
      (λ a o. o) (λ a. refl) (λ a. refl)) (again_the class.CloseBrace)) (λ a o. (o, tt)) (λ a. refl) (λ a. refl))))
      (λ a o. (tt, o)) (λ a. refl) (λ a. refl)))
      (λ a o. (tt, o)) (λ a. ap (λ z. plain (kind_class a.0.class) ∷ z) (items_spelled (item_pieces a.1))) (λ a j. CollExpr (kind_again a.0.class j) (bare_items a.1 j) nowhere)

  pub again_if_expr : Again IsPrintableExpr print.expr erase_expr (if_expr i) (if_expr i)
  unfolding if_expr
  again_if_expr = again_made if_of (again_placed (again_then (again_the class.IfWord) (again_then again_expr (again_then (again_made {ok2 = IsPrintableExpr} {p2 = λ e. piece.Plain class.ThenWord ∷ print.expr e} {b2 = erase_expr} second (again_then (again_the class.ThenWord) again_expr) (λ a o. (tt, o)) (λ a. refl) (λ a. refl))
      (again_made {ok2 = IsPrintableExpr} {p2 = λ e. piece.Plain class.ElseWord ∷ (print.expr e ++ print.one class.EndifWord)} {b2 = erase_expr} inner (again_then (again_the class.ElseWord) (again_then again_expr (again_the class.EndifWord))) (λ a o. (tt, (o, tt))) (λ a. refl) (λ a. refl))))))
      (λ a o. (tt, (o.0, (o.1, o.2)))) (λ a. refl) (λ a. refl)

  pub again_object : Again IsPrintableExpr print.expr erase_expr (object i) (object i)
  unfolding object
  again_object = again_made object_of (again_then (again_the class.ObjectWord) (again_then again_object_head (again_then again_extent h.block)))
      (λ a o. (tt, (tt, (tt, o)))) (λ a. ap (λ z. all_spelled (piece.Plain class.ObjectWord ∷ z)) (sym (append_assoc (print.variable a.1.0.0) (print.path a.1.0.1) _))) (λ a. ap (λ z. ObjectExpr (erase_optional_variable a.1.0.0) (erase_path a.1.0.1) a.1.1.0 z nowhere) (bare_stmts a.1.1.1))

  pub again_new_expr : Again IsPrintableExpr print.expr erase_expr (new_expr i) (new_expr i)
  unfolding new_expr
  again_new_expr = again_made new_of (again_then (again_the class.NewWord) (again_then again_path (again_then again_extent again_args)))
      (λ a o. (tt, (tt, (tt, o)))) (λ a. refl) (λ a. ap (λ z. NewExpr (erase_path a.1.0) a.1.1.0 z nowhere) (bare_exprs a.1.1.1))

  pub again_map_call : Again IsPrintableMap print.map_call erase_map_call (map_call i) (map_call i)
  unfolding map_call
  again_map_call = again_made map_of (again_then (again_one (again_word class.MapWord class.MapWord map_class refl _ (inl (refl, is_itself class.MapWord))) (again_word class.XmapWord class.XmapWord map_class refl _ (inr (refl, is_itself class.XmapWord)))) (again_then again_name again_args))
      (λ a o. (tt, (tt, o))) (λ a. refl) (λ a j. MapOf (sym (strict_kept (is_strict a.0.class)) j) a.1.0.text (bare_exprs a.1.1 j) nowhere)

  pub again_bar_expr : Again IsPrintableExpr (λ e. piece.Plain class.Bar ∷ print.expr e) erase_expr (bar_expr i) (bar_expr i)
  unfolding bar_expr
  again_bar_expr = again_made second (again_then (again_the class.Bar) again_expr) (λ a o. (tt, o)) (λ a. refl) (λ a. refl)

  again_filter_head : Again any filter_pieces bare_filter (filter_head i) (filter_head i)
  unfolding filter_head
  again_filter_head = again_either (again_made no_name (again_coll_type i h.kind) (λ a o. tt) (λ a. refl) (λ a. refl))
      (again_made named_type (again_then again_name (again_either {ok = any} {p = named_pieces} {b = bare_either}
      (again_made inl (again_colon_type i h.kind) (λ a o. tt) (λ a. refl) (λ a. refl))
      (again_made inr again_more_names (λ a o. tt) (λ a. refl) (λ a. refl))))
      (λ a o. (tt, tt)) (λ a. filter_same a.0 a.1) (λ a. filter_bare a.0 a.1))

  pub again_filter : Again IsPrintableFilter print.filter erase_filter (filter i) (filter i)
  unfolding filter
  again_filter = again_made filter_of (again_placed (again_then again_filter_head (again_maybe again_bar_expr)))
      (λ a o. (tt, ok_optional a.1.1 o)) (λ a. whole_filter a.1.0 a.1.1) (λ a. ap (λ z. FilterOf a.1.0.0 (erase_type a.1.0.1) z nowhere) (bare_optional a.1.1))

  again_comma_filter : Again IsPrintableFilter comma_filter erase_filter (made second (then (the class.Comma) (filter i))) (made second (then (the class.Comma) (filter i)))
  again_comma_filter = record {
    again = λ ts f rd o. (
        let g : FilterReads i rd.1.1 f = subst (FilterReads i rd.1.1) (sym rd.2) rd.1.4 in
        ((plain class.Comma, erase_filter f), (plain class.Comma ∷ [], all_spelled (print.filter f), comma_spelled i rd.1.1 f g, (refl, refl), again_filter.again rd.1.1 f g o), refl));
  }

  again_all_word : Again any (λ (t : Tok). print.one (resolve_class t.class)) (λ t. plain (resolve_class t.class)) all_word all_word
  unfolding all_word
  again_all_word = again_one (again_word class.ResolveAllWord class.ResolveAllWord resolve_class refl _ (inl (refl, is_itself class.ResolveAllWord)))
      (again_one (again_word class.ResolveOneWord class.ResolveOneWord resolve_class refl _ (inr (inl (refl, is_itself class.ResolveOneWord))))
      (again_one (again_word class.InvResolveWord class.InvResolveWord resolve_class refl _ (inr (inr (inl (refl, is_itself class.InvResolveWord)))))
      (again_word class.InvResolveOneWord class.InvResolveOneWord resolve_class refl _ (inr (inr (inr (refl, is_itself class.InvResolveOneWord)))))))

  again_in_word : Again any (λ (t : Tok). print.one (resolve_class t.class)) (λ t. plain (resolve_class t.class)) in_word in_word
  unfolding in_word
  again_in_word = again_one (again_word class.ResolveInWord class.ResolveInWord resolve_class refl _ (inl (refl, is_itself class.ResolveInWord)))
      (again_one (again_word class.ResolveOneInWord class.ResolveOneInWord resolve_class refl _ (inr (inl (refl, is_itself class.ResolveOneInWord))))
      (again_one (again_word class.InvResolveInWord class.InvResolveInWord resolve_class refl _ (inr (inr (inl (refl, is_itself class.InvResolveInWord)))))
      (again_word class.InvResolveOneInWord class.InvResolveOneInWord resolve_class refl _ (inr (inr (inr (refl, is_itself class.InvResolveOneInWord)))))))

  again_all_form : Again resolved_ok resolved_pieces bare_resolved (all_form i) (all_form i)
  unfolding all_form
  again_all_form = again_made all_of (again_then again_all_word (again_made {ok2 = IsPrintableFilter} {p2 = λ f. print.in_round (print.filter f)} {b2 = erase_filter} inner (again_then (again_the class.OpenRound) (again_then again_filter (again_the class.CloseRound))) (λ a o. (tt, (o, tt))) (λ a. refl) (λ a. refl)))
      (λ a o. (tt, o)) (λ a. ap (λ z. all_spelled (piece.Plain (resolve_class a.0.class) ∷ print.in_round z)) (all_same a.1)) (λ a. ap (λ z. (z, (None, Some (erase_filter a.1)))) (word_again a.0.class))

  again_in_form : Again resolved_ok resolved_pieces bare_resolved (in_form i) (in_form i)
  unfolding in_form
  again_in_form = again_made in_of (again_then again_in_word (again_then (again_the class.OpenRound) (again_then again_path (again_then (again_maybe again_comma_filter) (again_the class.CloseRound)))))
      (λ a o. (tt, (tt, (tt, (in_ok a.1.1.1.0 o, tt))))) (λ a. ap (λ z. plain (resolve_class a.0.class) ∷ z) (in_same a.1.1.0 a.1.1.1.0)) (λ a. ap (λ z. (z, (Some (erase_path a.1.1.0), option_map erase_filter a.1.1.1.0))) (word_again a.0.class))

  pub again_resolve : Again IsPrintableResolve print.resolve erase_resolve (resolve i) (resolve i)
  unfolding resolve
  again_resolve = again_made resolve_of (again_placed (again_then (again_maybe (again_the class.LateWord)) (again_either again_all_form again_in_form)))
      (λ a o. (optional_any a.1.0, o)) (λ a. ap all_spelled (late_same a.1.0 (resolved_pieces a.1.1))) (λ a j. ResolveOf (there_same (λ _. plain class.LateWord) a.1.0 j) a.1.1.0 (erase_optional_path a.1.1.1.0) (filter_erased a.1.1.1.1 j) nowhere)

  pub again_bare_expr : Again IsPrintableExpr print.expr erase_expr (bare_expr i) (bare_expr i)
  unfolding bare_expr longer
  again_bare_expr = again_either again_literal (again_either again_word_expr (again_either again_named_expr
      (again_either again_coll (again_either again_object (again_either again_new_expr (again_either
      (again_made MapExpr again_map_call (λ a o. o) (λ a. refl) (λ a. refl))
      (again_made ResolveExpr again_resolve (λ a o. o) (λ a. refl) (λ a. refl))))))))

  pub again_accumulator : Again IsPrintableAccumulator print.accumulator erase_accumulator (accumulator i) (accumulator i)
  unfolding accumulator
  again_accumulator = again_made accumulator_of (again_made {ok2 = λ a. IsPrintableExpr a.1.1} {p2 = λ a. piece.Plain class.Semicolon ∷ piece.Name a.0.text ∷ (print.typed a.1.0 ++ (piece.Plain class.EqualSign ∷ print.expr a.1.1))} {b2 = λ a. (bare_named a.0, (erase_type a.1.0, erase_expr a.1.1))} second
      (again_then (again_the class.Semicolon) (again_then again_name (again_then (again_colon_type i h.kind) (again_made {ok2 = IsPrintableExpr} {p2 = λ e. piece.Plain class.EqualSign ∷ print.expr e} {b2 = erase_expr} second (again_then (again_the class.EqualSign) again_expr) (λ a o. (tt, o)) (λ a. refl) (λ a. refl)))))
      (λ a o. (tt, (tt, (tt, o)))) (λ a. refl) (λ a. refl))
      (λ a o. o) (λ a. refl) (λ a. refl)

-- none of these is a chain, a prefix, a post or a conditional

named_basic : (n : Named) (x : List ExprTerm ⊎ List Named) → is_basic (named_expr_of (n, x)) ≡ true
named_basic n (inl es) = refl
named_basic n (inr ns) = refl

pub bare_basic : (i : NestedLanguages) (ts : List Tok) (e : ExprTerm) → (bare_expr i).reads ts e → is_basic e ≡ true
unfolding bare_expr longer literal word named_expr coll object new_expr
bare_basic i ts e rd = elim rd [
  | inl a ↦ elim a [ inl q ↦ ap is_basic q.2 | inr b ↦ elim b [ inl q ↦ ap is_basic q.2 | inr c ↦ elim c [ inl q ↦ ap is_basic q.2 | inr q ↦ ap is_basic q.2 ] ] ]
  | inr r ↦ elim r [
    | inl a ↦ elim a [ inl q ↦ ap is_basic q.2 | inr b ↦ elim b [ inl q ↦ ap is_basic q.2 | inr q ↦ ap is_basic q.2 ] ]
    | inr s ↦ elim s [
      | inl q ↦ ap is_basic q.2 ∙ named_basic q.0.0 q.0.1
      | inr t ↦ elim t [
        | inl q ↦ ap is_basic q.2
        | inr u ↦ elim u [
          | inl q ↦ ap is_basic q.2
          | inr v ↦ elim v [ inl q ↦ ap is_basic q.2 | inr w ↦ elim w [ inl q ↦ ap is_basic q.2 | inr q ↦ ap is_basic q.2 ] ]
        ]
      ]
    ]
  ]
]
