-- How each kind of value is printed, by how it is read, and that what the rows make of their parts is printed so.
use Rattle.std.proofs.Common.{◌≡◌, ℕ, suc, List, [], ◌∷◌, ◌++◌, Bool, true, false, refl, sym, subst}
use Rattle.qvt_tree_types.specs.Tree.{ExprTerm, StmtTerm}
use Rattle.qvt_tree_types.specs.Module.{UnitTerm}
use Rattle.qvt_tree_types.specs.View.{items_of, stmts_of, arms_of, optional_filter, optional_accumulator}
use Rattle.qvt_tree_types.specs.declared.words.Level.{Level}
use Rattle.qvt_tree_types.specs.declared.words.Level.TheVariants as levels
use Rattle.qvt_language.specs.Tokens.{Tok}
use Rattle.qvt_language.specs.StmtTrees.{is_adding}
use Rattle.qvt_language.specs.Trees.{binary_op, coll_kind, is_strict, is_there}
use Rattle.qvt_language.specs.UnitTrees.{model_type_of, class_unit_of, main_of, constructor_of}
use Rattle.qvt_language.specs.declared.class.Class.TheVariants as class
use Rattle.qvt_language_rows.specs.Phrase.{Phrase}
use Rattle.qvt_language_rows.specs.Language.{inside}
use Rattle.qvt_language_rows.specs.Units.{UnitRow}
use Rattle.qvt_language_rows.specs.Values.{name_text}
use Rattle.qvt_language_rows.proofs.Every.{Said, ByRow, MakersBy, kinds, alls, ins, loosened}
use Rattle.qvt_printer.specs.Expressions as print
use Rattle.qvt_printer.specs.Units as printed
use Rattle.qvt_printer.specs.Levels.{is_as_loose, is_chain_or_prefix, tightness}
use Rattle.qvt_printer_layout.specs.Words as words
use Rattle.qvt_printer_layout.specs.declared.piece.PrintPiece.{PrintPiece}
use Rattle.qvt_printer_layout.specs.declared.piece.PrintPiece.TheVariants as piece
use Rattle.qvt_readback_depth.proofs.Turns.{Turns, turns_empty}
use Rattle.qvt_readback_depth.proofs.Pieces.{Cut, IsTok, same, all_same, peel, both_cuts, last_two, strong_at, over_at, as_over, as_turns, ends_more, Quiet, WordTok, quiet_tok, quiet_at, quiet_word, quiet_of, pieces_of, none_of, no_pieces, keep, skip, word_tok, word_at, word_on, in_brackets, without_brackets, in_braces, in_item_braces, in_blocks, in_turns}
use Rattle.qvt_readback_depth.proofs.Claims.{Claim, Has, such, lacks_at, lacks_tok, token_of, many_of, forms}
use Rattle.qvt_readback_depth.proofs.Exprs.{a_word, operators_are, still_kind, still_resolve, still_map, still_late, still_variable, still_named, Silent, quiet_after, after_if, before_if, token_if, after_each, quiet_series, name_is, path_is, extent_is, led, many_are, series_are, Printed, Opening, colon_is, colon_if, ExprIs, clash, in_place, exprs_are, args_are, args_if, bar_if, range_if, conditional_is, all_is, in_is, arrow_pieces, accumulator_if, headed_is, or_none_are, post_is, signed_is, is_looser, next_is, link_is, chain_is}
use Rattle.qvt_readback_depth.proofs.Stmts.{SimpleIs, StmtIs, StmtsAre, one_stmt, simple_is, stmts_at, concat_is, last_is, ends_headed, branch_pieces, ends_branches, if_is, else_if, each_rest, loop_is, word_assign, value_if, return_is}
use Rattle.qvt_readback_depth.proofs.Units.{wide_of, idle_strong, signature_is, supers_are, features_are, SectionsAre, closed_sections, EndingIs, open_are, BodyIs, empty_is, sections_in, guarded_is, WhenIs, ClauseIs, clauses_are, UnitIs, Ended, returned, helper_is, mapping_is, unit_is, header_end, header_is, bracketed_uri}
use Rattle.qvt_readback_depth.proofs.Modules.{ReadUnit, UnitsAre, no_units, one_unit, ModuleIs, module_is}

-- what never has the word `population` among its tokens
abbrev plain : {A : Type 0} → (List Tok → A → Type 0) → Claim A
plain p = record { says = p; lacks = true }

abbrev prints : {A : Type 0} → (A → List PrintPiece) → Claim A
prints f = plain (Printed f)

abbrev opens : {A : Type 0} → (A → List PrintPiece) → Claim A
opens f = plain (Opening f)

abbrev quiet : {A : Type 0} → Claim A
quiet = plain Silent

abbrev idle : {A : Type 0} → Claim A
idle = prints (λ a. [])

-- and what may have
abbrev any : {A : Type 0} → (List Tok → A → Type 0) → Claim A
any p = record { says = p; lacks = false }

abbrev block_of : List StmtTerm → List PrintPiece
block_of ss = print.block (stmts_of ss)

abbrev guarded : ExprTerm → List PrintPiece
guarded e = piece.Plain class.OpenBrace ∷ (print.expr e ++ print.one class.CloseBrace)

-- a closing brace, with what may stand before it
abbrev GuardEnd : List Tok → Tok → Type 0
GuardEnd ts t = (u : List Tok) × (v : List Tok) × Cut ts u v × Quiet u × IsTok class.CloseBrace v

abbrev said : Said Claim
said = record {
  named = quiet;
  name = quiet;
  string = quiet;
  uri = idle;
  source = idle;
  path = quiet;
  kind = prints print.type_of;
  expr = opens print.expr;
  range = prints print.range;
  item = opens print.item;
  filter = prints print.filter;
  form = prints (λ a. print.in_round (print.resolved a.1.0 (optional_filter a.1.1)));
  resolve = prints print.resolve;
  accumulator = prints print.accumulator;
  map = prints print.map_call;
  args = opens arrow_pieces;
  step = prints print.step;
  dot = prints print.step;
  arrow = prints print.step;
  dot_call = prints print.step;
  arrow_call = prints print.step;
  variable = quiet;
  sign = plain (λ ts s. WordTok ts);
  link = idle;
  target = opens print.target;
  stmt = plain SimpleIs;
  compound = plain StmtIs;
  items = plain StmtsAre;
  inside = plain StmtsAre;
  block = prints block_of;
  turn = plain StmtsAre;
  helper_body = plain (λ ts ss. Ended (block_of ss) ts);
  arm = prints print.arm;
  each = prints each_rest;
  unit_path = quiet;
  typed = opens printed.typed_name;
  feature = prints printed.typed_name;
  result = quiet;
  guard_end = plain GuardEnd;
  guard = prints guarded;
  clause = plain ClauseIs;
  clauses = plain (λ ts x. WhenIs ts x.condition);
  ending = plain EndingIs;
  sections = any SectionsAre;
  body = any BodyIs;
  unit = any UnitIs;
  turn_units = any UnitsAre;
  model_type = prints (λ t. printed.model_type t ++ (piece.Line ∷ []));
  model_param = quiet;
  model_params = prints header_end;
  whole = any ModuleIs;
}

-- an expression is printed in brackets only where it is read in brackets
abbrev bracketed : (ExprTerm → Bool) → Claim ExprTerm
bracketed test = plain (ExprIs test)

next : {p : Phrase ExprTerm} (l m : Level) → tightness l ≡ suc (tightness m) → Has ExprTerm (bracketed (is_looser l)) p → Has ExprTerm (bracketed (is_as_loose m)) p
next l m q h = record { all = λ ts e rd. next_is l m e q (h.all ts e rd); lacks = h.lacks }

pub climbs : (level : Level) {p : Phrase ExprTerm} → Has ExprTerm (bracketed (is_looser level)) p → Has ExprTerm (loosened (λ l. bracketed (is_as_loose l)) (opens print.expr) level) p
climbs levels.Product h = next levels.Product levels.Sum refl h
climbs levels.Sum h = next levels.Sum levels.Relation refl h
climbs levels.Relation h = next levels.Relation levels.Equality refl h
climbs levels.Equality h = next levels.Equality levels.And refl h
climbs levels.And h = next levels.And levels.Or refl h
climbs levels.Or h = next levels.Or levels.Xor refl h
climbs levels.Xor h = next levels.Xor levels.Implies refl h
climbs levels.Implies h = record { all = λ ts e rd. (h.all ts e rd).plain; lacks = h.lacks }

pub read_unit : (n : ℕ) → Has UnitTerm (any UnitIs) (UnitRow (inside n)) → Has UnitTerm (any ReadUnit) (UnitRow (inside n))
read_unit n h = record { all = λ ts u rd. (h.all ts u rd, (n, rd)); lacks = h.lacks }

abbrev by_row : ByRow forms said
by_row = record {
  primary = bracketed is_chain_or_prefix;
  post = bracketed is_chain_or_prefix;
  operand = λ level. bracketed (is_as_loose level);
  chain = λ level. bracketed (is_looser level);
  link = λ level. prints (print.link level);
  read = any ReadUnit;
  climbs = climbs;
  reads = read_unit;
}

pub makers : MakersBy forms said by_row
makers = record {
  named_of = ((λ e. e), λ ts t h. quiet_tok {c = class.Name} refl h);
  name_of = ((λ e. e), λ ts t h. quiet_tok {c = class.Name} refl h);
  string_of = ((λ e. e), λ ts t h. quiet_tok {c = class.Str} refl h);
  path_of = ((λ e. e), λ ts a h. quiet_at h.2 h.3 (after_each class.DoubleColon refl a.1 h.4));
  unit_path_of = ((λ e. e), λ ts a h. quiet_at h.2 h.3 (after_each class.DoubleColon refl a.1 h.4));
  coll_type_of = ((λ e. e), λ ts a h. (let x = h.4 in strong_at {a = print.one (words.kind_word (coll_kind a.0.class))} h.2 (quiet_of (print.one (words.kind_word (coll_kind a.0.class))) (still_kind (coll_kind a.0.class)) (quiet_word (a_word kinds refl h.3))) (in_brackets x.3 x.4 (as_over x.5) x.6)));
  path_type = ((λ e. e), λ ts a h. path_is a h);
  range_of = ((λ e. e), λ ts a h. word_on {c = class.DotDot} refl h.2 h.3 h.4);
  item_of = ((λ e. e), λ ts a h. over_at h.2 h.3 (range_if a.1.1 h.4));
  filter_of = ((λ e. e), λ ts a h. (let x = h.4 in strong_at h.2 (quiet_of (print.named_if (name_text a.1.0)) (still_named a.1.0) (before_if class.Colon refl a.1.0 h.3)) (strong_at x.2 x.3 (bar_if a.1.1.1 x.4))));
  all_of = ((λ e. e), λ ts a h. (let x = h.4 in strong_at {a = []} h.2 (none_of (quiet_word (a_word alls refl h.3))) (in_brackets x.3 x.4 (as_over (all_is a.1 x.5)) x.6)));
  in_of = (
    (λ e. e),
    λ ts a h. (let x = h.4 in let y = x.4 in let z = y.4 in
        strong_at {a = []} h.2 (none_of (quiet_word (a_word ins refl h.3))) (in_brackets (both_cuts x.2 (peel y.2 z.2)) x.3 (as_over (in_is y.0 z.0 a.1.1.0 a.1.1.1.0 y.3 z.3)) z.4)),
  );
  resolve_of = ((λ e. e), λ ts a h. strong_at h.2 (quiet_of (print.late_if (is_there a.1.0)) (still_late (is_there a.1.0)) (token_if class.LateWord refl a.1.0 h.3)) (led (print.one (words.resolve_word a.1.1.0)) (still_resolve a.1.1.0) h.4));
  accumulator_of = ((λ e. e), λ ts a h. (let x = h.4 in let y = x.4 in let z = y.4 in keep {c = class.Semicolon} refl h.2 h.3 (strong_at x.2 (name_is a.0.text x.3) (strong_at y.2 (colon_is a.1.0 y.3) (word_on {c = class.EqualSign} refl z.2 z.3 z.4)))));
  map_of = (
    (λ e. e),
    λ ts a h. (let x = h.4 in
        strong_at h.2 (quiet_of (print.one (words.map_word (is_strict a.0.class))) (still_map (is_strict a.0.class)) (quiet_word (a_word (class.MapWord ∷ class.XmapWord ∷ []) refl h.3))) (strong_at x.2 (name_is a.1.0.text x.3) (args_are a.1.1 x.4))),
  );
  dot_of = ((λ e. e), λ ts a h. strong_at h.2 (pieces_of (piece.Plain class.Dot ∷ piece.Name a.0.text ∷ []) refl h.3) (args_if a.1 h.4));
  headed_body = (
    (λ e. e),
    λ ts a h. (let x = h.3 in let y = x.4 in let z = h.4 in
        headed_is (piece.Name a.0.0.text ∷ []) (print.typed_if a.0.1.0) (print.accumulator (optional_accumulator a.0.1.1)) (print.expr a.1) h.2 (strong_at x.2 (name_is a.0.0.text x.3) (strong_at y.2 (colon_if a.0.1.0 y.3) (accumulator_if a.0.1.1 y.4))) (word_on {c = class.Bar} refl z.2 z.3 z.4)),
  );
  without_head = ((λ e. e), λ ts a h. exprs_are a h);
  or_no_args = ((λ e. e), λ ts a h. or_none_are a h);
  arrow_of = ((λ e. e), λ ts a h. (let x = h.4 in strong_at h.2 (pieces_of (piece.Plain class.Arrow ∷ piece.Name a.0.text ∷ []) refl h.3) (in_brackets x.3 x.4 x.5 x.6)));
  dot_map = ((λ e. e), λ ts a h. led (print.one class.Dot) ((λ f s. refl), tt) h);
  dot_resolve = ((λ e. e), λ ts a h. led (print.one class.Dot) ((λ f s. refl), tt) h);
  arrow_map = ((λ e. e), λ ts a h. led (print.one class.Arrow) ((λ f s. refl), tt) h);
  arrow_resolve = ((λ e. e), λ ts a h. led (print.one class.Arrow) ((λ f s. refl), tt) h);
  after_dot = ((λ e. e), λ ts a h. skip {c = class.Dot} refl h.2 h.3 h.4);
  after_arrow = ((λ e. e), λ ts a h. skip {c = class.Arrow} refl h.2 h.3 h.4);
  call_after_dot = ((λ e. e), λ ts a h. skip {c = class.Dot} refl h.2 h.3 h.4);
  call_after_arrow = ((λ e. e), λ ts a h. skip {c = class.Arrow} refl h.2 h.3 h.4);
  int_of = ((λ e. e), λ ts t h. record { plain = as_over (pieces_of (piece.Integer t.number ∷ []) refl (quiet_tok {c = class.Integer} refl h)); round = λ k. clash k });
  str_of = ((λ e. e), λ ts t h. record { plain = as_over (pieces_of (piece.Quoted t.text ∷ []) refl (quiet_tok {c = class.Str} refl h)); round = λ k. clash k });
  true_of = ((λ e. e), λ ts t h. record { plain = as_over (pieces_of (print.one class.TrueWord) refl (quiet_tok {c = class.TrueWord} refl h)); round = λ k. clash k });
  false_of = ((λ e. e), λ ts t h. record { plain = as_over (pieces_of (print.one class.FalseWord) refl (quiet_tok {c = class.FalseWord} refl h)); round = λ k. clash k });
  null_of = ((λ e. e), λ ts t h. record { plain = as_over (pieces_of (print.one class.NullWord) refl (quiet_tok {c = class.NullWord} refl h)); round = λ k. clash k });
  self_of = ((λ e. e), λ ts t h. record { plain = as_over (pieces_of (print.one class.SelfWord) refl (quiet_tok {c = class.SelfWord} refl h)); round = λ k. clash k });
  result_of = ((λ e. e), λ ts t h. record { plain = as_over (pieces_of (print.one class.ResultWord) refl (quiet_tok {c = class.ResultWord} refl h)); round = λ k. clash k });
  path_expr = ((λ e. e), λ ts a h. record { plain = as_over (path_is a h); round = λ k. clash k });
  call_of = ((λ e. e), λ ts a h. record { plain = as_over (strong_at h.2 (name_is a.0.text h.3) (args_are a.1 h.4)); round = λ k. clash k });
  coll_of = (
    (λ e. e),
    λ ts a h. (let x = h.4 in record {
      plain = as_over (strong_at h.2 (quiet_of (print.one (words.kind_word (coll_kind a.0.class))) (still_kind (coll_kind a.0.class)) (quiet_word (a_word kinds refl h.3)))
          (in_item_braces x.3 x.4 (series_are print.item (λ all. print.all_items false (items_of all)) (λ all. print.all_items true (items_of all)) refl (λ i all. refl) refl (λ i all. refl) a.1 x.5) x.6));
      round = λ k. clash k;
    }),
  );
  if_of = ((λ e. e), λ ts a h. (let x = h.4 in let y = x.4 in record { plain = conditional_is a.1.1.0 a.1.1.1.0 a.1.1.1.1 h.2 h.3 x.2 x.3 (y.0, y.1, y.2, y.3, y.4); round = λ k. clash k }));
  named_var = ((λ e. e), λ ts a h. h);
  result_var = ((λ e. e), λ ts t h. quiet_tok {c = class.ResultWord} refl h);
  object_of = (
    (λ e. e),
    λ ts a h. (let x = h.4 in let y = x.4 in let z = y.4 in record { plain = as_over (keep {c = class.ObjectWord} refl h.2 h.3 (strong_at x.2 (quiet_of (print.variable a.1.0) (still_variable a.1.0) (before_if class.Colon refl a.1.0 x.3)) (strong_at y.2 (path_is a.1.1.0 y.3) (strong_at z.2 (extent_is a.1.1.1.0 z.3) z.4)))); round = λ k. clash k }),
  );
  new_of = ((λ e. e), λ ts a h. (let x = h.4 in let y = x.4 in record { plain = as_over (keep {c = class.NewWord} refl h.2 h.3 (strong_at x.2 (path_is a.1.0 x.3) (strong_at y.2 (extent_is a.1.1.0 y.3) (args_are a.1.1.1 y.4)))); round = λ k. clash k }));
  map_expr = ((λ e. e), λ ts a h. record { plain = as_over h; round = λ k. clash k });
  resolve_expr = ((λ e. e), λ ts a h. record { plain = as_over h; round = λ k. clash k });
  brackets = ((λ e. e), λ ts a h. record { plain = without_brackets h.3 h.4 h.5 h.6; round = λ k. as_over (in_brackets h.3 h.4 h.5 h.6) });
  stepped_of = ((λ e. e), λ ts a h. post_is a.0 a.1.0 a.1.1 h.2 h.3 h.4);
  not_of = ((λ e. e), λ ts t h. word_tok {c = class.NotWord} refl h);
  minus_of = ((λ e. e), λ ts t h. word_tok {c = class.MinusSign} refl h);
  signed_of = ((λ e. e), λ ts a h. signed_is a h.2 h.3 h.4);
  linked = λ level. ((λ e. (operators_are level).1), λ ts a h. link_is level (binary_op a.0.class) a.1 h.2 h.3 h.4);
  chained = λ level. ((λ e. e), λ ts a h. chain_is level a h.2 h.3 h.4);
  named_target = ((λ e. e), λ ts a h. as_over (name_is a.text h));
  result_target = ((λ e. e), λ ts t h. as_over (pieces_of (print.one class.ResultWord) refl (quiet_tok {c = class.ResultWord} refl h)));
  feature_target = ((λ e. e), λ ts a h. (let x = h.4 in over_at h.2 (in_place is_chain_or_prefix a.0 h.3) (keep {c = class.Dot} refl x.2 x.3 (name_is a.1.text x.4))));
  var_of = ((λ e. e), λ ts a h. (let x = h.4 in let y = x.4 in record { pieces = _; same = refl; over = as_over (keep {c = class.VarWord} refl h.2 h.3 (strong_at x.2 (name_is a.1.1.0.text x.3) (strong_at y.2 (colon_if a.1.1.1.0 y.3) (value_if a.1.1.1.1 y.4)))) }));
  assign_of = (
    (λ e. e),
    λ ts a h. (let x = h.4 in
        record { pieces = _; same = refl; over = over_at h.2 h.3 (word_at (words.assign_sign (is_adding a.1.0.class)) (word_assign (is_adding a.1.0.class)) x.2 (a_word (class.Becomes ∷ class.PlusEqual ∷ []) refl x.3) x.4) }),
  );
  return_of = ((λ e. e), λ ts a h. record { pieces = _; same = refl; over = as_over (return_is a.1.1 h.2 h.3 h.4) });
  value_of = ((λ e. e), λ ts a h. record { pieces = print.expr a.1; same = refl; over = h });
  arm_of = (
    (λ e. e),
    λ ts a h. (let x = h.4 in let c = x.3 in let y = x.4 in
        keep {c = class.ElifWord} refl h.2 h.3 (strong_at x.2 (in_brackets c.3 c.4 c.5 c.6) (strong_at {a = []} y.2 (none_of (token_if class.ThenWord refl a.1.1.0 y.3)) y.4))),
  );
  block_form_of = (
    (λ e. e),
    λ ts a h. (let x = h.4 in let c = x.3 in let y = x.4 in let z = y.4 in let l = z.4 in let m = l.4 in
        if_is a.1.1.1.1.1.1.1 h.2 h.3 (peel x.2 (peel y.2 (peel z.2 (peel l.2 m.2))))
        (as_over (strong_at same (in_brackets c.3 c.4 c.5 c.6) (strong_at {a = []} same (none_of (token_if class.ThenWord refl a.1.1.1.0 y.3))
        (strong_at same z.3 (strong_at same (many_are print.arm (λ all. print.arms (arms_of all)) refl (λ b all. refl) a.1.1.1.1.1.0 l.3) (else_if a.1.1.1.1.1.1.0 m.3))))))
        (λ f. ends_more (print.in_round (print.expr a.1.1.0)) (branch_pieces a.1.1.1.1) (ends_branches a.1.1.1.1) f) m.4),
  );
  while_of = ((λ e. e), λ ts a h. (let x = h.4 in let c = x.3 in as_turns (as_over (keep {c = class.WhileWord} refl h.2 h.3 (strong_at x.2 (in_brackets c.3 c.4 c.5 c.6) x.4))) (λ f. ends_headed a.1.1.0 a.1.1.1 false)));
  each_of = (
    (λ e. e),
    λ ts a h. (let b = h.4 in let n = b.4 in let k = n.4 in let c = k.4 in let d = c.4 in
        led (print.one class.Arrow) ((λ f s. refl), tt) (keep {c = class.ForEachWord} refl h.2 h.3
        (strong_at (peel b.2 (peel (peel n.2 (peel k.2 c.2)) d.2)) (in_brackets all_same b.3 (as_over (strong_at same (name_is a.1.1.0.text n.3) (strong_at same (colon_if a.1.1.1.0 k.3) (bar_if a.1.1.1.1.0 c.3)))) d.3) d.4))),
  );
  loop_of = ((λ e. e), λ ts a h. (let x = h.4 in loop_is a.0 a.1.0 a.1.1 h.2 h.3 (skip {c = class.Arrow} refl x.2 x.3 x.4)));
  no_stmts = ((λ e. e), λ ts t h. record { is = subst (Turns []) (sym h.is) turns_empty });
  simple_turn = ((λ e. e), λ ts s h. one_stmt s (simple_is s h.2 h.3 h.4));
  compound_turn = ((λ e. e), λ ts s h. one_stmt s h);
  concat = ((λ e. e), λ ts all h. concat_is all h);
  with_last = ((λ e. e), λ ts a h. stmts_at a.0 _ h.2 h.3 (last_is a.1 h.4));
  braces = ((λ e. e), λ ts ss h. in_turns h.3 h.4 h.5 h.6);
  param_of = ((λ e. e), λ ts a h. (let x = h.4 in as_over (strong_at {a = []} h.2 (none_of (token_if class.InWord refl a.1.0 h.3)) (strong_at x.2 (name_is a.1.1.0.text x.3) (colon_is a.1.1.1 x.4)))));
  typed_name_of = ((λ e. e), λ ts a h. strong_at h.2 (name_is a.0.text h.3) (colon_is a.1 h.4));
  class_of = (
    (λ e. clash e),
    λ ts a h. (let x = h.4 in let y = x.4 in let z = y.4 in let b = z.4 in
        unit_is (class_unit_of a) (λ f s. refl) h.2 h.3 (keep {c = class.IntermediateWord} refl h.2 h.3 (keep {c = class.ClassWord} refl x.2 x.3 (strong_at y.2 (name_is a.1.0.text y.3)
        (strong_at z.2 (supers_are a.1.1.0 z.3) (in_blocks b.3 b.4 (as_over (features_are a.1.1.1 b.5)) b.6)))))),
  );
  main_of = (
    (λ e. clash e),
    λ ts a h. (let x = h.4 in let y = x.4 in
        unit_is (main_of a) (λ f s. refl) h.2 h.3 (keep {c = class.MainWord} refl h.2 h.3 (strong_at (peel x.2 y.2) (in_brackets {ps = []} (all_same {v = []}) x.3 (as_over (no_pieces refl)) y.3) y.4))),
  );
  return_body = ((λ e. e), λ ts a h. (let x = h.3 in returned a.0 a.1 h.2 x.2 x.3 x.4 h.4));
  block_body = ((λ e. e), λ ts ss h. record { is = λ b. wide_of _ h });
  helper_of = ((λ e. clash e), λ ts a h. (let x = h.4 in let y = x.4 in let z = y.4 in helper_is a h.2 (a_word (class.HelperWord ∷ class.QueryWord ∷ []) refl h.3) x.2 x.3 y.2 y.3 z.2 (colon_if a.1.1.1.0 z.3) z.4));
  constructor_of = (
    (λ e. clash e),
    λ ts a h. (let x = h.4 in let y = x.4 in
        unit_is (constructor_of a) (λ f s. refl) h.2 h.3 (keep {c = class.ConstructorWord} refl h.2 h.3 (strong_at (peel x.2 y.2) (signature_is a.0.names a.1.0 same x.3 y.3) y.4))),
  );
  result_decl_of = ((λ e. e), λ ts a h. quiet_at h.2 h.3 (after_if class.AtSign refl a.1 h.4));
  inherits = ((λ e. e), λ ts a h. quiet_at h.2 (quiet_tok {c = class.InheritsWord} refl h.3) (quiet_series a h.4));
  merges = ((λ e. e), λ ts a h. quiet_at h.2 (quiet_tok {c = class.MergesWord} refl h.3) (quiet_series a h.4));
  disjuncts = ((λ e. e), λ ts a h. quiet_at h.2 (quiet_tok {c = class.DisjunctsWord} refl h.3) (quiet_series a h.4));
  guard_end = ((λ e. e), λ ts a h. (h.0, h.1, h.2, token_if class.Semicolon refl a.0 h.3, h.4));
  guard = ((λ e. e), λ ts a h. (let x = h.4 in let y = x.4 in in_braces (both_cuts h.2 (peel x.2 y.2)) h.3 (guarded_is a.1.0 x.3 y.3) y.4));
  condition = ((λ e. e), λ ts a h. keep {c = class.WhenWord} refl h.2 h.3 h.4);
  clauses_of = ((λ e. e), λ ts a h. clauses_are a h);
  sections_of = ((λ e. clash e), λ ts a h. (let x = h.4 in closed_sections a h.2 h.3 x.2 x.3 x.4));
  ends_in_simple = ((λ e. e), λ ts a h. h);
  ends_in_block = ((λ e. e), λ ts a h. h);
  open_sections = ((λ e. clash e), λ ts a h. open_are a h.2 h.3 h.4 (lacks_at h.2 (h.5.0 refl) (h.5.1 refl)));
  empty_body = ((λ e. clash e), λ ts t h. empty_is h);
  body_of = ((λ e. clash e), λ ts a h. (let x = h.4 in let y = x.4 in sections_in a.1.0 a.1.1.0 h.2 h.3 x.2 x.3 y.2 y.3 y.4 (h.5.0 refl) (x.5.0 refl) (y.5.1 refl)));
  mapping_of = ((λ e. clash e), λ ts a h. mapping_is a.0 a.1.0 a.1.1 h.2 h.3 (lacks_tok {c = class.MappingWord} refl h.3) h.4);
  some_unit = ((λ e. clash e), λ ts u h. one_unit u h);
  no_units = ((λ e. clash e), λ ts t h. no_units (quiet_tok {c = class.Semicolon} refl h));
  uri_text = ((λ e. e), λ ts a h. none_of h);
  uri_named = ((λ e. e), λ ts a h. skip {c = class.Name} refl h.2 h.3 (bracketed_uri a h.4));
  source = ((λ e. e), λ ts a h. (let x = h.4 in strong_at {a = []} h.2 (none_of (token_if class.Str refl a.0 h.3)) (skip {c = class.UsesWord} refl (last_two x.3) x.4 (strong_at {a = []} same x.5 (none_of (quiet_tok {c = class.Semicolon} refl x.6))))));
  model_type_of = ((λ e. e), λ ts a h. (let x = h.4 in idle_strong (printed.model_type (model_type_of a) ++ (piece.Line ∷ [])) ((λ f s. refl), ((λ f s. refl), ((λ f s. refl), ((λ f s. refl), ((λ f s. refl), tt))))) (skip {c = class.ModelTypeWord} refl h.2 h.3 (strong_at {a = []} x.2 (none_of x.3) x.4))));
  model_param_of = ((λ e. e), λ ts a h. (let x = h.4 in quiet_at h.2 (quiet_word (a_word (class.InWord ∷ class.OutWord ∷ class.InoutWord ∷ []) refl h.3)) (quiet_at x.2 x.3 (quiet_after class.Colon refl a.1.1 x.4))));
  model_params = ((λ e. e), λ ts a h. (let x = h.4 in let y = x.4 in header_is a.1.0 h.2 h.3 x.2 (quiet_series a.1.0 x.3) y.2 y.3 y.4));
  module_of = ((λ e. clash e), λ ts a h. (let x = h.4 in let y = x.3 in let z = y.4 in module_is a.0 a.1.0 a.1.1 h.2 h.3 x.2 (keep {c = class.TransformationWord} refl y.2 y.3 (strong_at z.2 (name_is a.1.0.0 z.3) z.4)) x.4));
  strict = such (token_of (class.Str ∷ [])) _;
  once = λ j h. such (many_of h) _;
}
