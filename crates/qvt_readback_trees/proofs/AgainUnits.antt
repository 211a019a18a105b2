-- Parameters, classes, helpers and constructors are read again.
use Rattle.std.proofs.Common.{◌≡◌, List, [], ◌∷◌, ◌++◌, map, Bool, true, false, inl, inr, refl, sym, ap, ◌∙◌, subst, append_assoc, Option, Some, None, option_map}
use Rattle.qvt_tree_types.specs.Tree.{TypeTerm}
use Rattle.qvt_tree_types.specs.View.{stmts_of}
use Rattle.qvt_tree_types.specs.Module.{TypedName, ClassOf, MainOf, HelperOf, ConstructorOf}
use Rattle.qvt_tree_types.specs.declared.types.PathTree.{PathTree}
use Rattle.qvt_tree_types.specs.declared.module.ResultDecl.{ResultDecl}
use Rattle.qvt_tree.specs.Shape.{nowhere, erase_path, erase_stmt}
use Rattle.qvt_tree.specs.ModuleShape.{erase_typed, erase_unit, erase_result, erase_optional_result}
use Rattle.qvt_grammar.specs.Language.{made, then, either}
use Rattle.qvt_language.specs.declared.class.Class.{Class}
use Rattle.qvt_language.specs.declared.class.Class.TheVariants as class
use Rattle.qvt_language.specs.Readers.{the}
use Rattle.qvt_language.specs.Tokens.{Tok}
use Rattle.qvt_language.specs.Trees.{second, first, inner, cons_of, nothing}
use Rattle.qvt_language.specs.Grammar.{NestedLanguages, paths}
use Rattle.qvt_language.specs.Units.{param, params, feature, features, class_unit, main_unit, helper_body, helper_unit, constructor_unit, result_decl}
use Rattle.qvt_language.specs.UnitTrees.{typed_name_of, param_of, paths_or_none, class_unit_of, main_of, is_query, return_body, helper_of, constructor_of, result_decl_of}
use Rattle.qvt_printer_layout.specs.declared.piece.PrintPiece.{PrintPiece}
use Rattle.qvt_printer_layout.specs.declared.piece.PrintPiece.TheVariants as piece
use Rattle.qvt_printer_layout.specs.Words as words
use Rattle.qvt_printer.specs.Expressions as print
use Rattle.qvt_printer.specs.Units as printed
use Rattle.qvt_readback_tokens.specs.Spelled.{all_spelled}
use Rattle.qvt_readback_trees.specs.Printable.{IsPrintableUnit}
use Rattle.qvt_readback_tokens.proofs.Classes.{is_itself}
use Rattle.qvt_readback_trees.proofs.Spelling.{plain, plain_name, rest_spelled, block_spelled}
use Rattle.qvt_readback_trees.proofs.Again.{Again, any, again_the, again_word, again_then, again_made, again_either, again_one, again_many, again_maybe, again_placed, again_left_out, if_there}
use Rattle.qvt_readback_trees.proofs.AgainNames.{again_name, again_path, again_paths, again_unit_path, again_extent, bare_unit_path}
use Rattle.qvt_readback_trees.proofs.AgainExprs.{bare_stmts, optional_any}
use Rattle.qvt_readback_trees.proofs.AgainSteps.{type_same, type_bare, same_front}
use Rattle.qvt_readback_trees.proofs.UnitBase.{Stmts, AgainUnits}

-- a word and paths, of which there are some

abbrev Paths : List Tok → List PathTree → Type 0
Paths ts ps = paths.reads ts ps

listed_spelled : (word : Class) (ts : List Tok) (ps : List PathTree) → Paths ts ps → all_spelled (printed.listed word ps) ≡ plain word ∷ all_spelled (print.paths ps)
unfolding paths
listed_spelled word ts ps rd = subst (λ z. all_spelled (printed.listed word z) ≡ plain word ∷ all_spelled (print.paths z)) (sym rd.2) refl

pub again_listed : (word : Class) → Again any (printed.listed word) (map erase_path) (made second (then (the word) paths)) (made second (then (the word) paths))
again_listed word = record {
  again = λ ts ps rd o. (
      let g : Paths rd.1.1 ps = subst (Paths rd.1.1) (sym rd.2) rd.1.4 in
      ((plain word, map erase_path ps), (plain word ∷ [], all_spelled (print.paths ps), listed_spelled word rd.1.1 ps g, (refl, is_itself word), again_paths.again rd.1.1 ps g tt), refl));
}

pub listed_same : (word : Class) (x : Option (List PathTree)) → printed.listed word (paths_or_none x) ≡ if_there (printed.listed word) x
listed_same word None = refl
listed_same word (Some ps) = refl

pub paths_bare : (x : Option (List PathTree)) → map erase_path (paths_or_none x) ≡ paths_or_none (option_map (map erase_path) x)
paths_bare None = refl
paths_bare (Some ps) = refl

-- results

pub again_result_decl : Again any (λ (r : ResultDecl). piece.Plain class.Colon ∷ (print.path r.path ++ print.extent r.extent)) erase_result result_decl result_decl
unfolding result_decl
again_result_decl = again_made second (again_then (again_the class.Colon) (again_made {ok2 = any} {p2 = λ (r : ResultDecl). print.path r.path ++ print.extent r.extent} {b2 = erase_result} result_decl_of (again_then again_path again_extent) (λ a o. (tt, tt)) (λ a. refl) (λ a. refl)))
    (λ a o. (tt, tt)) (λ a. refl) (λ a. refl)

pub result_same : (x : Option ResultDecl) → printed.result_if x ≡ if_there (λ (r : ResultDecl). piece.Plain class.Colon ∷ (print.path r.path ++ print.extent r.extent)) x
result_same None = refl
result_same (Some r) = refl

pub result_bare : (x : Option ResultDecl) → erase_optional_result x ≡ option_map erase_result x
result_bare None = refl
result_bare (Some r) = refl

abbrev helper_class : Class → Class
helper_class c = words.helper_word (is_query c)

query_kept : (b : Bool) → is_query (words.helper_word b) ≡ b
query_kept true = refl
query_kept false = refl

helper_same : (n p : List PrintPiece) (x : Option TypeTerm) (r : List PrintPiece) → all_spelled ((n ++ p) ++ (print.typed_if x ++ r)) ≡ all_spelled (n ++ (p ++ (if_there print.typed x ++ r)))
helper_same n p x r = ap all_spelled (append_assoc n p (print.typed_if x ++ r)) ∙ rest_spelled n (p ++ (print.typed_if x ++ r)) (p ++ (if_there print.typed x ++ r)) (rest_spelled p (print.typed_if x ++ r) (if_there print.typed x ++ r) (same_front (print.typed_if x) (if_there print.typed x) r (type_same x)))

module _ {i j : NestedLanguages} (h : AgainUnits i j) where
  again_param : Again any printed.typed_name erase_typed (param i) (param j)
  unfolding param
  again_param = again_made param_of (again_placed (again_then (again_left_out {l = the class.InWord} {m = the class.InWord}) (again_then again_name h.kind))) (λ a o. (tt, (tt, tt))) (λ a. refl) (λ a. refl)

  pub again_params : Again any (λ (ps : List TypedName). print.in_round (printed.params ps)) (map erase_typed) (params i) (params j)
  unfolding params
  again_params = again_made second (again_then (again_the class.OpenRound)
      (again_either {ok = any} {p = λ (ps : List TypedName). printed.params ps ++ print.one class.CloseRound} {b = map erase_typed}
      (again_made nothing (again_the class.CloseRound) (λ a o. tt) (λ a. refl) (λ a. refl))
      (again_made first (again_then (again_made {ok2 = any} {p2 = printed.params} {b2 = map erase_typed} cons_of (again_then again_param
      (again_many (again_made {ok2 = any} {p2 = λ (p : TypedName). piece.Plain class.Comma ∷ printed.typed_name p} {b2 = erase_typed} second (again_then (again_the class.Comma) again_param) (λ a o. (tt, tt)) (λ a. refl) (λ a. refl))
      any (λ a more o. (tt, tt)) printed.more_params refl (λ a more. refl)))
      (λ a o. (tt, tt)) (λ a. refl) (λ a. refl)) (again_the class.CloseRound)) (λ a o. (tt, tt)) (λ a. refl) (λ a. refl))))
      (λ a o. (tt, tt)) (λ a. refl) (λ a. refl)

  again_feature : Again any (λ (f : TypedName). print.ended (printed.typed_name f)) erase_typed (feature i) (feature j)
  unfolding feature
  again_feature = again_made first (again_then (again_made {ok2 = any} {p2 = printed.typed_name} {b2 = erase_typed} typed_name_of (again_then again_name h.kind) (λ a o. (tt, tt)) (λ a. refl) (λ a. refl)) (again_the class.Semicolon))
      (λ a o. (tt, tt)) (λ a. refl) (λ a. refl)

  again_features : Again any (λ (fs : List TypedName). print.in_block (printed.fields fs)) (map erase_typed) (features i) (features j)
  unfolding features
  again_features = again_made inner (again_then (again_the class.OpenBrace) (again_then (again_many again_feature any (λ a more o. (tt, tt)) printed.fields refl (λ a more. refl)) (again_the class.CloseBrace)))
      (λ a o. (tt, (tt, tt))) (λ a. block_spelled (printed.fields a.1.0)) (λ a. refl)

  pub again_class_unit : Again IsPrintableUnit printed.unit erase_unit (class_unit i) (class_unit j)
  unfolding class_unit
  again_class_unit = again_made class_unit_of (again_placed (again_made {ok2 = any} {p2 = λ x. piece.Plain class.IntermediateWord ∷ piece.Plain class.ClassWord ∷ piece.Name x.0.text ∷ (if_there (printed.listed class.ExtendsWord) x.1.0 ++ print.in_block (printed.fields x.1.1))} {b2 = λ x. (record { text = x.0.text; place = nowhere }, (option_map (map erase_path) x.1.0, map erase_typed x.1.1))} second (again_then (again_the class.IntermediateWord)
      (again_made {ok2 = any} {p2 = λ x. piece.Plain class.ClassWord ∷ piece.Name x.0.text ∷ (if_there (printed.listed class.ExtendsWord) x.1.0 ++ print.in_block (printed.fields x.1.1))} {b2 = λ x. (record { text = x.0.text; place = nowhere }, (option_map (map erase_path) x.1.0, map erase_typed x.1.1))} second (again_then (again_the class.ClassWord) (again_then again_name (again_then (again_maybe (again_listed class.ExtendsWord)) again_features)))
      (λ a o. (tt, (tt, (optional_any a.1.1.0, tt)))) (λ a. refl) (λ a. refl)))
      (λ a o. (tt, tt)) (λ a. refl) (λ a. refl)))
      (λ a o. tt)
      (λ a. ap (λ z. plain class.IntermediateWord ∷ plain class.ClassWord ∷ plain_name a.1.0.text ∷ all_spelled (z ++ print.in_block (printed.fields a.1.1.1))) (listed_same class.ExtendsWord a.1.1.0))
      (λ a. ap (λ z. ClassOf (record { name = a.1.0.text; supers = z; features = map erase_typed a.1.1.1; place = nowhere })) (paths_bare a.1.1.0))

  -- blocks

  pub again_unit_block : Again Stmts (λ ss. print.block (stmts_of ss)) (map erase_stmt) i.block j.block
  again_unit_block = record { again = λ ts ss rd o. (h.block ts ss rd).block o }

  pub again_main_unit : Again IsPrintableUnit printed.unit erase_unit (main_unit i) (main_unit j)
  unfolding main_unit
  again_main_unit = again_made main_of (again_placed (again_made {ok2 = Stmts} {p2 = λ ss. piece.Plain class.MainWord ∷ piece.Plain class.OpenRound ∷ piece.Plain class.CloseRound ∷ print.block (stmts_of ss)} {b2 = map erase_stmt} second (again_then (again_the class.MainWord)
      (again_made {ok2 = Stmts} {p2 = λ ss. piece.Plain class.OpenRound ∷ piece.Plain class.CloseRound ∷ print.block (stmts_of ss)} {b2 = map erase_stmt} second (again_then (again_the class.OpenRound)
      (again_made {ok2 = Stmts} {p2 = λ ss. piece.Plain class.CloseRound ∷ print.block (stmts_of ss)} {b2 = map erase_stmt} second (again_then (again_the class.CloseRound) again_unit_block) (λ a o. (tt, o)) (λ a. refl) (λ a. refl)))
      (λ a o. (tt, o)) (λ a. refl) (λ a. refl)))
      (λ a o. (tt, o)) (λ a. refl) (λ a. refl)))
      (λ a o. o) (λ a. refl) (λ a. ap (λ z. MainOf z nowhere) (bare_stmts a.1))

  -- an expression for a body is printed as a block of one return
  again_helper_body : Again Stmts (λ ss. print.block (stmts_of ss)) (map erase_stmt) (helper_body i) (helper_body j)
  unfolding helper_body
  again_helper_body = record {
    again = λ ts ss rd o. inr (elim rd [
      | inl q ↦ (
          let w = q.1 in
          let f : ss ≡ return_body w.0.0 = q.2 ∙ ap return_body w.2 in
          subst (λ z. Stmts z → j.block.reads (all_spelled (print.block (stmts_of z))) (map erase_stmt z)) (sym f) (h.returned w.1.3.1 w.0.0.1 w.0.0.0.place w.1.3.4).block o)
      | inr q ↦ (h.block ts ss q).block o
    ]);
  }

  again_helper_word : Again any (λ (t : Tok). print.one (helper_class t.class)) (λ t. plain (helper_class t.class)) (either (the class.HelperWord) (the class.QueryWord)) (either (the class.HelperWord) (the class.QueryWord))
  again_helper_word = again_one (again_word class.HelperWord class.HelperWord helper_class refl _ (inl (refl, is_itself class.HelperWord))) (again_word class.QueryWord class.QueryWord helper_class refl _ (inr (refl, is_itself class.QueryWord)))

  pub again_helper_unit : Again IsPrintableUnit printed.unit erase_unit (helper_unit i) (helper_unit j)
  unfolding helper_unit
  again_helper_unit = again_made helper_of (again_then again_helper_word (again_then again_unit_path (again_then again_params (again_then (again_maybe h.kind) again_helper_body))))
      (λ a o. (tt, (tt, (tt, (optional_any a.1.1.1.0, o)))))
      (λ a. ap (λ z. plain (helper_class a.0.class) ∷ z) (helper_same (print.names a.1.0.names) (print.in_round (printed.params a.1.1.0)) a.1.1.1.0 (print.block (stmts_of a.1.1.1.1))))
      (λ a k. HelperOf (record { pure = sym (query_kept (is_query a.0.class)) k; path = a.1.0.names; params = map erase_typed a.1.1.0; answer = type_bare a.1.1.1.0 k; body = bare_stmts a.1.1.1.1 k; place = nowhere }))

  pub again_constructor_unit : Again IsPrintableUnit printed.unit erase_unit (constructor_unit i) (constructor_unit j)
  unfolding constructor_unit
  again_constructor_unit = again_made constructor_of (again_made {ok2 = λ a. Stmts a.1.1} {p2 = λ a. piece.Plain class.ConstructorWord ∷ (print.names a.0.names ++ (print.in_round (printed.params a.1.0) ++ print.block (stmts_of a.1.1)))} {b2 = λ a. (bare_unit_path a.0, (map erase_typed a.1.0, map erase_stmt a.1.1))} second
      (again_then (again_the class.ConstructorWord) (again_then again_unit_path (again_then again_params again_unit_block)))
      (λ a o. (tt, (tt, (tt, o)))) (λ a. refl) (λ a. refl))
      (λ a o. o)
      (λ a. ap (λ z. plain class.ConstructorWord ∷ all_spelled z) (append_assoc (print.names a.0.names) (print.in_round (printed.params a.1.0)) (print.block (stmts_of a.1.1))))
      (λ a. ap (λ z. ConstructorOf (record { pure = false; path = a.0.names; params = map erase_typed a.1.0; answer = None; body = z; place = nowhere })) (bare_stmts a.1.1))
