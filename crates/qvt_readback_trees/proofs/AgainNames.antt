-- Names and types are read again.
use Rattle.std.proofs.Common.{◌≡◌, ℕ, List, [], ◌∷◌, ◌++◌, map, ◌⊎◌, inl, inr, refl, sym, ap, Option, Some, None, option_map}
use Rattle.qvt_tree_types.specs.Tree.{CollType, PathType}
use Rattle.qvt_tree_types.specs.declared.types.PathTree.{PathTree}
use Rattle.qvt_tree_types.specs.declared.types.ObjectVar.{ObjectVar}
use Rattle.qvt_tree_types.specs.declared.words.CollKind.{CollKind}
use Rattle.qvt_tree_types.specs.declared.words.CollKind.TheVariants as kinds
use Rattle.qvt_tree.specs.Shape.{nowhere, erase_path, erase_type, erase_optional_variable}
use Rattle.qvt_language.specs.declared.named.Named.{Named}
use Rattle.qvt_language.specs.declared.named.UnitPath.{UnitPath}
use Rattle.qvt_language.specs.declared.class.Class.{Class}
use Rattle.qvt_language.specs.declared.class.Class.TheVariants as class
use Rattle.qvt_grammar.specs.Language.{made, then}
use Rattle.qvt_language.specs.Readers.{the}
use Rattle.qvt_language.specs.Tokens.{Tok}
use Rattle.qvt_language.specs.Grammar.{NestedLanguages, name, more_names, path, paths, unit_path, extent, kind_word, coll_type, typed, colon_type, colon_path, object_head}
use Rattle.qvt_language.specs.Trees.{second, inner, text_of, named_of, path_of, unit_path_of, cons_of, coll_kind, coll_type_of, last_place, result_head, named_head}
use Rattle.qvt_printer_layout.specs.declared.piece.PrintPiece.{PrintPiece}
use Rattle.qvt_printer_layout.specs.declared.piece.PrintPiece.TheVariants.{Name, Plain}
use Rattle.qvt_printer_layout.specs.Words as words
use Rattle.qvt_printer.specs.Expressions as print
use Rattle.qvt_readback_tokens.specs.Spelled.{all_spelled}
use Rattle.qvt_readback_trees.proofs.Spelling.{plain}
use Rattle.qvt_readback_tokens.proofs.Classes.{is_itself}
use Rattle.qvt_readback_trees.proofs.Again.{Again, any, again_the, again_word, again_name_token, again_then, again_made, again_either, again_one, again_as, again_many, again_maybe, optional_ok, if_there}

abbrev pub bare_named : Named → Named
bare_named n = record { text = n.text; place = nowhere }

abbrev pub texts : List Named → List (List ℕ)
texts = map (λ m. m.text)

abbrev pub bare_unit_path : UnitPath → UnitPath
bare_unit_path p = record { names = p.names; place = nowhere }

pub bare_texts : (ns : List Named) → texts (map bare_named ns) ≡ texts ns
bare_texts [] = refl
bare_texts (n ∷ ns) = ap (λ z. n.text ∷ z) (bare_texts ns)

pub bare_last : (ns : List Named) → last_place nowhere (map bare_named ns) ≡ nowhere
bare_last [] = refl
bare_last (n ∷ ns) = bare_last ns

pub again_name : Again any (λ (n : Named). Name n.text ∷ []) bare_named name name
unfolding name
again_name = again_made named_of again_name_token (λ a o. tt) (λ a. refl) (λ a. refl)

pub again_more_names : Again any (λ (ns : List Named). print.more_names (texts ns)) (map bare_named) more_names more_names
unfolding more_names
again_more_names = again_many (again_made {ok2 = any} {p2 = λ (n : Named). Plain class.DoubleColon ∷ Name n.text ∷ []} {b2 = bare_named} second (again_then (again_the class.DoubleColon) again_name) (λ a o. (tt, tt)) (λ a. refl) (λ a. refl)) any (λ a more o. (tt, tt)) (λ (ns : List Named). print.more_names (texts ns)) refl (λ a more. refl)

pub again_path : Again any print.path erase_path path path
unfolding path
again_path = again_made path_of (again_then again_name again_more_names) (λ a o. (tt, tt)) (λ a. refl) (λ a i. record { names = a.0.text ∷ sym (bare_texts a.1) i; place = nowhere })

again_comma_path : Again any (λ (p : PathTree). Plain class.Comma ∷ print.path p) erase_path (made second (then (the class.Comma) path)) (made second (then (the class.Comma) path))
again_comma_path = again_made second (again_then (again_the class.Comma) again_path) (λ a o. (tt, tt)) (λ a. refl) (λ a. refl)

pub again_paths : Again any print.paths (map erase_path) paths paths
unfolding paths
again_paths = again_made cons_of (again_then again_path (again_many again_comma_path any (λ a more o. (tt, tt)) print.more_paths refl (λ a more. refl))) (λ a o. (tt, tt)) (λ a. refl) (λ a. refl)

pub again_unit_path : Again any (λ (p : UnitPath). print.names p.names) bare_unit_path unit_path unit_path
unfolding unit_path
again_unit_path = again_made unit_path_of (again_then again_name again_more_names) (λ a o. (tt, tt)) (λ a. refl) (λ a i. record { names = a.0.text ∷ sym (bare_texts a.1) i; place = sym (bare_last a.1) i })

extent_pieces : (x : Option (List ℕ)) → all_spelled (print.extent x) ≡ all_spelled (if_there (λ (n : List ℕ). Plain class.AtSign ∷ Name n ∷ []) x)
extent_pieces None = refl
extent_pieces (Some n) = refl

extent_same : (x : Option (List ℕ)) → x ≡ option_map (λ a. a) x
extent_same None = refl
extent_same (Some n) = refl

extent_ok : (x : Option (List ℕ)) → optional_ok any x
extent_ok None = tt
extent_ok (Some n) = tt

pub again_extent : Again any print.extent (λ x. x) extent extent
unfolding extent
again_extent = again_as (again_maybe (again_made {ok2 = any} {p2 = λ (n : List ℕ). Plain class.AtSign ∷ Name n ∷ []} {b2 = λ a. a} second (again_then (again_the class.AtSign) (again_made {ok2 = any} {p2 = λ (n : List ℕ). Name n ∷ []} {b2 = λ a. a} text_of again_name_token (λ a o. tt) (λ a. refl) (λ a. refl))) (λ a o. (tt, tt)) (λ a. refl) (λ a. refl)))
    (λ x o. extent_ok x) extent_pieces extent_same

-- the word of a collection's kind
abbrev pub kind_class : Class → Class
kind_class c = words.kind_word (coll_kind c)

pub again_kind_word : Again any (λ (t : Tok). print.one (kind_class t.class)) (λ t. plain (kind_class t.class)) kind_word kind_word
unfolding kind_word
again_kind_word = again_one
    (again_word class.SetWord class.SetWord kind_class refl _ (inl (refl, is_itself class.SetWord)))
    (again_one (again_word class.BagWord class.BagWord kind_class refl _ (inr (inl (refl, is_itself class.BagWord))))
    (again_one (again_word class.SequenceWord class.SequenceWord kind_class refl _ (inr (inr (inl (refl, is_itself class.SequenceWord)))))
    (again_word class.OrderedSetWord class.OrderedSetWord kind_class refl _ (inr (inr (inr (refl, is_itself class.OrderedSetWord)))))))

kind_kept : (k : CollKind) → coll_kind (words.kind_word k) ≡ k
kind_kept kinds.Set = refl
kind_kept kinds.Bag = refl
kind_kept kinds.Sequence = refl
kind_kept kinds.OrderedSet = refl

pub kind_again : (c : Class) → coll_kind c ≡ coll_kind (kind_class c)
kind_again c = sym (kind_kept (coll_kind c))

module _ (i : NestedLanguages) (h : Again any print.type_of erase_type i.kind i.kind) where
  pub again_coll_type : Again any print.type_of erase_type (coll_type i) (coll_type i)
  unfolding coll_type
  again_coll_type = again_made coll_type_of (again_then again_kind_word (again_made {ok2 = any} {p2 = λ t. print.in_round (print.type_of t)} {b2 = erase_type} inner (again_then (again_the class.OpenRound) (again_then h (again_the class.CloseRound))) (λ a o. (tt, (tt, tt))) (λ a. refl) (λ a. refl)))
      (λ a o. (tt, tt)) (λ a. refl) (λ a i. CollType (kind_again a.0.class i) (erase_type a.1) nowhere)

  pub again_typed : Again any print.type_of erase_type (typed i) (typed i)
  unfolding typed
  again_typed = again_either again_coll_type (again_made PathType again_path (λ a o. tt) (λ a. refl) (λ a. refl))

  pub again_colon_type : Again any print.typed erase_type (colon_type i) (colon_type i)
  unfolding colon_type
  again_colon_type = again_made second (again_then (again_the class.Colon) again_typed) (λ a o. (tt, tt)) (λ a. refl) (λ a. refl)

pub again_colon_path : Again any (λ (p : PathTree). Plain class.Colon ∷ print.path p) erase_path colon_path colon_path
unfolding colon_path
again_colon_path = again_made second (again_then (again_the class.Colon) again_path) (λ a o. (tt, tt)) (λ a. refl) (λ a. refl)

-- a variable of an object expression and its class
abbrev pub head_pieces : Option ObjectVar × PathTree → List PrintPiece
head_pieces x = print.variable x.0 ++ print.path x.1

abbrev pub bare_head : Option ObjectVar × PathTree → Option ObjectVar × PathTree
bare_head x = (erase_optional_variable x.0, erase_path x.1)

abbrev either_pieces : PathTree ⊎ List Named → List PrintPiece
either_pieces (inl p) = Plain class.Colon ∷ print.path p
either_pieces (inr ns) = print.more_names (texts ns)

abbrev pub either_bare : PathTree ⊎ List Named → PathTree ⊎ List Named
either_bare (inl p) = inl (erase_path p)
either_bare (inr ns) = inr (map bare_named ns)

named_pieces : (n : Named) (x : PathTree ⊎ List Named) → all_spelled (head_pieces (named_head (n, x))) ≡ all_spelled (Name n.text ∷ either_pieces x)
named_pieces n (inl p) = refl
named_pieces n (inr ns) = refl

pub named_bare : (n : Named) (x : PathTree ⊎ List Named) → bare_head (named_head (n, x)) ≡ named_head (bare_named n, either_bare x)
named_bare n (inl p) = refl
named_bare n (inr ns) = λ i. (None, record { names = n.text ∷ sym (bare_texts ns) i; place = nowhere })

pub again_object_head : Again any head_pieces bare_head object_head object_head
unfolding object_head
again_object_head = again_either
    (again_made result_head (again_then (again_the class.ResultWord) again_colon_path) (λ a o. (tt, tt)) (λ a. refl) (λ a. refl))
    (again_made named_head (again_then again_name (again_either {ok = any} {p = either_pieces} {b = either_bare}
    (again_made inl again_colon_path (λ a o. tt) (λ a. refl) (λ a. refl))
    (again_made inr again_more_names (λ a o. tt) (λ a. refl) (λ a. refl))))
    (λ a o. (tt, tt)) (λ a. named_pieces a.0 a.1) (λ a. named_bare a.0 a.1))

-- a name, or else what follows a name of a path
pub bare_path_of : (n : Named) (ns : List Named) → erase_path (path_of (n, ns)) ≡ path_of (bare_named n, map bare_named ns)
bare_path_of n ns = λ i. record { names = n.text ∷ sym (bare_texts ns) i; place = nowhere }
