-- The rows that the parser's productions have as they are: names, types, arguments, calls, filters.
use Rattle.std.proofs.Common.{ℕ, List, [], refl, Some}
use Rattle.qvt_grammar.specs.Language.{Language}
use Rattle.qvt_grammar.specs.Language as language
use Rattle.qvt_tree_types.specs.Tree.{ExprTerm, PathType, BareTarget, PathExpr}
use Rattle.qvt_language.specs.Tokens.{Tok}
use Rattle.qvt_language.specs.declared.named.Named.{Named}
use Rattle.qvt_language.specs.declared.class.Class.{Class}
use Rattle.qvt_language.specs.declared.class.Class.TheVariants as class
use Rattle.qvt_language.specs.Readers as readers
use Rattle.qvt_language.specs.Leads.{Plain}
use Rattle.qvt_language.specs.Trees.{first, second, named_of, path_of, unit_path_of, text_of, coll_type_of, nothing, coll_of, range_of, item_of, map_of, not_of, minus_of}
use Rattle.qvt_language.specs.Grammar.{NestedLanguages, name, more_names, path, paths, unit_path, extent, kind_word, coll_type, typed, colon_type, expr, exprs, args, item, coll, map_call, bar_expr, all_word, in_word, sign}
use Rattle.qvt_language_rows.specs.Phrase.{Phrase, ◌or◌, ◌gives◌, ◌then◌, the, many, maybe, after, between, commas, or_none, listed}
use Rattle.qvt_language_rows.specs.Rows.{NestedRows, NameRow, PathRow, PathsRow, ExtentRow, KindRow, AllRow, InRow, TypeRow, ExprsRow, ItemRow, MapRow}
use Rattle.qvt_language_rows.specs.Units.{UnitPathRow}
use Rattle.qvt_language_rows.proofs.Ties.{Ties, ties_the, ties_then, ties_or, ties_gives, ties_many, ties_maybe, ties_placed, ties_after, ties_between, ties_commas, ties_optional}

pub ties_name : Ties name NameRow name
unfolding name NameRow
ties_name = ties_gives named_of (ties_the class.Name)

pub ties_more_names : Ties more_names (many (after class.DoubleColon NameRow)) more_names
unfolding more_names
ties_more_names = ties_many (ties_after class.DoubleColon ties_name)

pub ties_path : Ties path PathRow path
unfolding path PathRow
ties_path = ties_gives path_of (ties_then ties_name ties_more_names)

pub ties_unit_path : Ties unit_path UnitPathRow unit_path
unfolding unit_path UnitPathRow
ties_unit_path = ties_gives unit_path_of (ties_then ties_name ties_more_names)

pub ties_paths : Ties paths PathsRow paths
unfolding paths PathsRow
ties_paths = ties_commas ties_path

pub ties_extent : Ties extent (maybe ExtentRow) extent
unfolding extent ExtentRow
ties_extent = ties_maybe (ties_after class.AtSign (ties_gives text_of (ties_the class.Name)))

pub ties_kind : Ties kind_word KindRow kind_word
unfolding kind_word KindRow
ties_kind = ties_or (ties_the class.SetWord) (ties_or (ties_the class.BagWord) (ties_or (ties_the class.SequenceWord) (ties_the class.OrderedSetWord)))

pub ties_all : Ties all_word AllRow all_word
unfolding all_word AllRow
ties_all = ties_or (ties_the class.ResolveAllWord) (ties_or (ties_the class.ResolveOneWord) (ties_or (ties_the class.InvResolveWord) (ties_the class.InvResolveOneWord)))

pub ties_in : Ties in_word InRow in_word
unfolding in_word InRow
ties_in = ties_or (ties_the class.ResolveInWord) (ties_or (ties_the class.ResolveOneInWord) (ties_or (ties_the class.InvResolveInWord) (ties_the class.InvResolveOneInWord)))

pub ties_sign : Ties sign (the class.NotWord gives not_of or the class.MinusSign gives minus_of) sign
unfolding sign
ties_sign = ties_or (ties_gives not_of (ties_the class.NotWord)) (ties_gives minus_of (ties_the class.MinusSign))

-- a list between two tokens, where none may stand
abbrev pub listing : {A : Type 0} → Class → Language Tok (List A) → Class → Language Tok (List A)
listing c l d = language.made second (language.then (readers.the c) (language.either (language.made nothing (readers.the d)) (language.made first (language.then l (readers.the d)))))

pub ties_listed : {A : Type 0} {l l2 : Language Tok (List A)} {p : Phrase (List A)} → Ties l p l2 → (c d : Class) → Ties (listing c l d) (listed c p d) (listing c l2 d)
ties_listed k c d = ties_optional [] nothing or_none (λ t. refl) refl (λ a. refl) k c d

-- what stands inside, at two nestings of the parser's productions, and the name that is read as an expression first
pub record TiesInside (i : NestedLanguages) (j : NestedRows) (k : NestedLanguages) : Type 0 where
  pub type : Ties i.kind j.type k.kind
  pub expr : Ties (expr i) j.expr (expr k)
  pub block : Ties i.block j.block k.block
  pub bare_to : (ts : List Tok) (e : ExprTerm) (text : List ℕ) (place : _) → i.flagged.reads ts (Plain e (Some (BareTarget text place))) → NameRow ts (record { text = text; place = place })
  pub bare_of : (ts : List Tok) (n : Named) → NameRow ts n → k.flagged.reads ts (Plain (PathExpr (path_of (n, []))) (Some (BareTarget n.text n.place)))

module _ {i : NestedLanguages} {j : NestedRows} {k : NestedLanguages} (h : TiesInside i j k) where
  pub ties_coll_type : Ties (coll_type i) (KindRow then between class.OpenRound j.type class.CloseRound gives coll_type_of) (coll_type k)
  unfolding coll_type
  ties_coll_type = ties_gives coll_type_of (ties_then ties_kind (ties_between class.OpenRound class.CloseRound h.type))

  pub ties_type : Ties (typed i) (TypeRow j) (typed k)
  unfolding typed TypeRow
  ties_type = ties_or ties_coll_type (ties_gives PathType ties_path)

  pub ties_colon_type : Ties (colon_type i) (after class.Colon (TypeRow j)) (colon_type k)
  unfolding colon_type
  ties_colon_type = ties_after class.Colon ties_type

  pub ties_exprs : Ties (exprs i) (ExprsRow j) (exprs k)
  unfolding exprs ExprsRow
  ties_exprs = ties_commas h.expr

  pub ties_args : Ties (args i) (listed class.OpenRound (ExprsRow j) class.CloseRound) (args k)
  unfolding args
  ties_args = ties_listed ties_exprs class.OpenRound class.CloseRound

  pub ties_item : Ties (item i) (ItemRow j) (item k)
  unfolding item ItemRow
  ties_item = ties_gives item_of (ties_placed (ties_then h.expr (ties_maybe (ties_gives range_of (ties_then (ties_the class.DotDot) h.expr)))))

  pub ties_coll : Ties (coll i) (KindRow then listed class.OpenBrace (commas (ItemRow j)) class.CloseBrace gives coll_of) (coll k)
  unfolding coll
  ties_coll = ties_gives coll_of (ties_then ties_kind (ties_listed (ties_commas ties_item) class.OpenBrace class.CloseBrace))

  pub ties_map : Ties (map_call i) (MapRow j) (map_call k)
  unfolding map_call MapRow
  ties_map = ties_gives map_of (ties_then (ties_or (ties_the class.MapWord) (ties_the class.XmapWord)) (ties_then ties_name ties_args))

  pub ties_bar : Ties (bar_expr i) (after class.Bar j.expr) (bar_expr k)
  unfolding bar_expr
  ties_bar = ties_after class.Bar h.expr
