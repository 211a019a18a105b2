-- The productions of names, types and expressions (OCL 2.4, 7; QVT 1.3, 8.4).
use Rattle.std.specs.Prelude.{ℕ, zero, suc, Bool, List, Option, Some, ◌⊎◌}
use Rattle.std.proofs.Common.{inl, inr}
use Rattle.qvt_grammar.specs.Language.{Language, then, either, follow, many, made, never, empty, maybe}
use Rattle.qvt_tree_types.specs.Tree.{TypeTerm, PathType, ExprTerm, MapExpr, ResolveExpr, ItemTerm, MapTerm, ResolveTerm, FilterTerm, HeadTerm, AccumulatorTerm, StepTerm, DotMapStep, DotResolveStep, ArrowMapStep, ArrowResolveStep, LinkTerm, BareTarget, StmtTerm}
use Rattle.qvt_tree_types.specs.declared.types.PathTree.{PathTree}
use Rattle.qvt_tree_types.specs.declared.types.ObjectVar.{ObjectVar}
use Rattle.qvt_tree_types.specs.declared.words.Level.{Level}
use Rattle.qvt_tree_types.specs.declared.words.Level.TheVariants as levels
use Rattle.qvt_tree_types.specs.declared.words.Sign.{Sign}
use Rattle.qvt_tree_types.specs.declared.words.ResolveWord.{ResolveWord}
use Rattle.qvt_language.specs.declared.named.Named.{Named}
use Rattle.qvt_language.specs.declared.named.UnitPath.{UnitPath}
use Rattle.qvt_words.specs.declared.class.Class.TheVariants.{Name, Integer, Str, OpenRound, CloseRound, OpenBrace, CloseBrace, Comma, Semicolon, Colon, DoubleColon, Dot, DotDot, Arrow, Bar, AtSign, EqualSign, DoubleEqual, Diamond, BangEqual, LessSign, AtMost, GreaterSign, AtLeast, PlusSign, MinusSign, Star, AndWord, BagWord, ElseWord, EndifWord, FalseWord, ForEachWord, IfWord, ImpliesWord, InvResolveWord, InvResolveInWord, InvResolveOneWord, InvResolveOneInWord, LateWord, MapWord, NewWord, NotWord, NullWord, ObjectWord, OrWord, OrderedSetWord, ResolveAllWord, ResolveInWord, ResolveOneWord, ResolveOneInWord, ResultWord, SelfWord, SequenceWord, SetWord, ThenWord, TrueWord, XmapWord, XorWord}
use Rattle.qvt_language.specs.Tokens.{Tok}
use Rattle.qvt_language.specs.Readers.{the, placed}
use Rattle.qvt_language.specs.Series.{series}
use Rattle.qvt_language.specs.Leads.{Lead, Plain, Bracketed, Each, EachPart}
use Rattle.qvt_language.specs.Trees.{second, first, cons_of, nothing, inner, text_of, named_of, path_of, unit_path_of, coll_type_of, int_of, str_of, true_of, false_of, null_of, self_of, result_of, named_expr_of, coll_of, range_of, item_of, if_of, result_head, named_head, object_of, new_of, map_of, all_of, in_of, resolve_of, no_name, named_type, filter_of, bare, bracketed, dot_of, no_args, arrow_of, accumulator_of, expr_of, headed, with_first, post_lead, each_lead, not_of, minus_of, prefix_lead, link_of, chain_of, each_of}

-- what stands nested inside: expressions, blocks and types
pub record NestedLanguages : Type 1 where
  pub flagged : Language Tok Lead
  pub block : Language Tok (List StmtTerm)
  pub kind : Language Tok TypeTerm

unfoldable pub name : Language Tok Named
name = made named_of (the Name)

unfoldable pub more_names : Language Tok ((List Named))
more_names = many (made second (then (the DoubleColon) name))

-- Name {"::" Name}
unfoldable pub path : Language Tok PathTree
path = made path_of (then name more_names)

-- Path {"," Path}
unfoldable pub paths : Language Tok ((List PathTree))
paths = made cons_of (then path (many (made second (then (the Comma) path))))

-- a path whose last name has a place
unfoldable pub unit_path : Language Tok UnitPath
unit_path = made unit_path_of (then name more_names)

-- ["@" Name]
unfoldable pub extent : Language Tok ((Option (List ℕ)))
extent = maybe (made second (then (the AtSign) (made text_of (the Name))))

-- "Set" | "Bag" | "Sequence" | "OrderedSet"
unfoldable pub kind_word : Language Tok Tok
kind_word = either (the SetWord) (either (the BagWord) (either (the SequenceWord) (the OrderedSetWord)))

-- Kind "(" Type ")"
unfoldable pub coll_type : NestedLanguages → Language Tok TypeTerm
coll_type i = made coll_type_of (then kind_word (made inner (then (the OpenRound) (then i.kind (the CloseRound)))))

-- Kind "(" Type ")" | Path
unfoldable pub typed : NestedLanguages → Language Tok TypeTerm
typed i = either (coll_type i) (made PathType path)

-- ":" Type
unfoldable pub colon_type : NestedLanguages → Language Tok TypeTerm
colon_type i = made second (then (the Colon) (typed i))

unfoldable pub expr : NestedLanguages → Language Tok ExprTerm
expr i = made expr_of i.flagged

-- Expr {"," Expr}
unfoldable pub exprs : NestedLanguages → Language Tok ((List ExprTerm))
exprs i = made cons_of (then (expr i) (many (made second (then (the Comma) (expr i)))))

-- "(" [Exprs] ")"
unfoldable pub args : NestedLanguages → Language Tok ((List ExprTerm))
args i = made second (then (the OpenRound) (either (made nothing (the CloseRound)) (made first (then (exprs i) (the CloseRound)))))

unfoldable pub literal : Language Tok ExprTerm
literal = either (made int_of (the Integer)) (either (made str_of (the Str)) (either (made true_of (the TrueWord)) (made false_of (the FalseWord))))

unfoldable pub word : Language Tok ExprTerm
word = either (made null_of (the NullWord)) (either (made self_of (the SelfWord)) (made result_of (the ResultWord)))

-- Name "(" [Exprs] ")" | Path
unfoldable pub named_expr : NestedLanguages → Language Tok ExprTerm
named_expr i = made named_expr_of (then name (either (made inl (args i)) (made inr more_names)))

-- Expr [".." Expr]
unfoldable pub item : NestedLanguages → Language Tok ItemTerm
item i = made item_of (placed (then (expr i) (maybe (made range_of (then (the DotDot) (expr i))))))

-- Kind "{" [Item {"," Item}] "}"
unfoldable pub coll : NestedLanguages → Language Tok ExprTerm
coll i = made coll_of (then kind_word (made second (then (the OpenBrace) (either (made nothing (the CloseBrace)) (made first (then (made cons_of (then (item i) (many (made second (then (the Comma) (item i)))))) (the CloseBrace)))))))

-- "if" Expr "then" Expr "else" Expr "endif"
unfoldable pub if_expr : NestedLanguages → Language Tok ExprTerm
if_expr i = made if_of (placed (then (the IfWord) (then (expr i) (then (made second (then (the ThenWord) (expr i))) (made inner (then (the ElseWord) (then (expr i) (the EndifWord))))))))

unfoldable pub colon_path : Language Tok PathTree
colon_path = made second (then (the Colon) path)

-- [(Name | "result") ":"] Path
unfoldable pub object_head : Language Tok ((Option ObjectVar × PathTree))
object_head = either (made result_head (then (the ResultWord) colon_path)) (made named_head (then name (either (made inl colon_path) (made inr more_names))))

-- "object" [(Name | "result") ":"] Path ["@" Name] Block
unfoldable pub object : NestedLanguages → Language Tok ExprTerm
object i = made object_of (then (the ObjectWord) (then object_head (then extent i.block)))

-- "new" Path ["@" Name] "(" [Exprs] ")"
unfoldable pub new_expr : NestedLanguages → Language Tok ExprTerm
new_expr i = made new_of (then (the NewWord) (then path (then extent (args i))))

-- ("map" | "xmap") Name "(" [Exprs] ")"
unfoldable pub map_call : NestedLanguages → Language Tok MapTerm
map_call i = made map_of (then (either (the MapWord) (the XmapWord)) (then name (args i)))

-- [Name ":"] Type
unfoldable pub filter_head : NestedLanguages → Language Tok ((Option (List ℕ) × TypeTerm))
filter_head i = either (made no_name (coll_type i)) (made named_type (then name (either (made inl (colon_type i)) (made inr more_names))))

-- "|" Expr
unfoldable pub bar_expr : NestedLanguages → Language Tok ExprTerm
bar_expr i = made second (then (the Bar) (expr i))

-- [Name ":"] Type ["|" Expr]
unfoldable pub filter : NestedLanguages → Language Tok FilterTerm
filter i = made filter_of (placed (then (filter_head i) (maybe (bar_expr i))))

unfoldable pub all_word : Language Tok Tok
all_word = either (the ResolveAllWord) (either (the ResolveOneWord) (either (the InvResolveWord) (the InvResolveOneWord)))

unfoldable pub in_word : Language Tok Tok
in_word = either (the ResolveInWord) (either (the ResolveOneInWord) (either (the InvResolveInWord) (the InvResolveOneInWord)))

-- All "(" Filter ")"
unfoldable pub all_form : NestedLanguages → Language Tok ((ResolveWord × (Option PathTree × Option FilterTerm)))
all_form i = made all_of (then all_word (made inner (then (the OpenRound) (then (filter i) (the CloseRound)))))

-- In "(" Path ["," Filter] ")"
unfoldable pub in_form : NestedLanguages → Language Tok ((ResolveWord × (Option PathTree × Option FilterTerm)))
in_form i = made in_of (then in_word (then (the OpenRound) (then path (then (maybe (made second (then (the Comma) (filter i)))) (the CloseRound)))))

-- ["late"] (All "(" Filter ")" | In "(" Path ["," Filter] ")")
unfoldable pub resolve : NestedLanguages → Language Tok ResolveTerm
resolve i = made resolve_of (placed (then (maybe (the LateWord)) (either (all_form i) (in_form i))))

-- "(" Expr ")"
unfoldable pub brackets : NestedLanguages → Language Tok ExprTerm
brackets i = made inner (then (the OpenRound) (then (expr i) (the CloseRound)))

unfoldable pub longer : NestedLanguages → Language Tok ExprTerm
longer i = either (coll i) (either (object i) (either (new_expr i) (either (made MapExpr (map_call i)) (made ResolveExpr (resolve i)))))

unfoldable pub bare_expr : NestedLanguages → Language Tok ExprTerm
bare_expr i = either literal (either word (either (named_expr i) (longer i)))

-- a primary that begins with no `if`, and whether it stands without brackets
unfoldable pub other_primary : NestedLanguages → Language Tok ((ExprTerm × Bool))
other_primary i = either (made bracketed (brackets i)) (made bare (bare_expr i))

unfoldable pub primary : NestedLanguages → Language Tok ((ExprTerm × Bool))
primary i = either (made bare (if_expr i)) (other_primary i)

-- Name ["(" [Exprs] ")"] | Map | Resolve
unfoldable pub dot_rest : NestedLanguages → Language Tok StepTerm
dot_rest i = either (made dot_of (then name (maybe (args i)))) (either (made DotMapStep (map_call i)) (made DotResolveStep (resolve i)))

unfoldable pub dot_step : NestedLanguages → Language Tok StepTerm
dot_step i = made second (then (the Dot) (dot_rest i))

-- ";" Name ":" Type "=" Expr
unfoldable pub accumulator : NestedLanguages → Language Tok AccumulatorTerm
accumulator i = made accumulator_of (made second (then (the Semicolon) (then name (then (colon_type i) (made second (then (the EqualSign) (expr i)))))))

-- the rest of a head after its name, and its body
unfoldable pub head_rest : NestedLanguages → Language Tok ((Option TypeTerm × (Option AccumulatorTerm × ExprTerm)))
head_rest i = then (maybe (colon_type i)) (then (maybe (accumulator i)) (bar_expr i))

unfoldable pub more_exprs : NestedLanguages → Language Tok ((List ExprTerm))
more_exprs i = many (made second (then (the Comma) (expr i)))

abbrev pub after_first : NestedLanguages → Lead → Language Tok (HeadTerm × List ExprTerm)
after_first i (Plain e (Some (BareTarget name place))) = either (made (headed name place) (head_rest i)) (made (with_first e) (more_exprs i))
after_first i x = made (with_first (expr_of x)) (more_exprs i)

-- Head "|" Expr | Exprs: the name of a head is first read as an expression
unfoldable pub arrow_body : NestedLanguages → Language Tok ((HeadTerm × List ExprTerm))
arrow_body i = made second (follow i.flagged (after_first i))

-- "(" [Head "|" Expr | Exprs] ")"
unfoldable pub arrow_args : NestedLanguages → Language Tok ((HeadTerm × List ExprTerm))
arrow_args i = made second (then (the OpenRound) (either (made no_args (the CloseRound)) (made first (then (arrow_body i) (the CloseRound)))))

unfoldable pub arrow_rest : NestedLanguages → Language Tok StepTerm
arrow_rest i = either (made arrow_of (then name (arrow_args i))) (either (made ArrowMapStep (map_call i)) (made ArrowResolveStep (resolve i)))

-- "." Name ["(" [Exprs] ")"] | "->" Name "(" [Head "|" Expr | Exprs] ")" | ("." | "->") (Map | Resolve)
unfoldable pub step : NestedLanguages → Language Tok StepTerm
step i = either (dot_step i) (made second (then (the Arrow) (arrow_rest i)))

-- Primary {Step}
unfoldable pub post : NestedLanguages → Language Tok Lead
post i = made post_lead (placed (then (primary i) (many (step i))))

unfoldable pub sign : Language Tok Sign
sign = either (made not_of (the NotWord)) (made minus_of (the MinusSign))

unfoldable pub more_signs : Language Tok ((List Sign))
more_signs = many sign

unfoldable pub signs : Language Tok ((Sign × List Sign))
signs = then sign more_signs

unfoldable pub signed_post : NestedLanguages → Language Tok Lead
signed_post i = made prefix_lead (placed (then signs (post i)))

-- {"not" | "-"} Post
unfoldable pub pre : NestedLanguages → Language Tok Lead
pre i = either (signed_post i) (post i)

-- "forEach" "(" Name [":" Type] ["|" Expr] ")" Block
unfoldable pub each_tail : NestedLanguages → Language Tok EachPart
each_tail i = made each_of (then (the ForEachWord) (then (the OpenRound) (then name (then (maybe (colon_type i)) (then (maybe (bar_expr i)) (then (the CloseRound) i.block))))))

-- a step, or the rest of a `forEach`
unfoldable pub lead_step : NestedLanguages → Language Tok ((StepTerm ⊎ EachPart))
lead_step i = either (made inl (dot_step i)) (made second (then (the Arrow) (either (made inr (each_tail i)) (made inl (arrow_rest i)))))

-- the levels of operators, the tightest first
abbrev pub level_of : ℕ → Level
level_of zero = levels.Product
level_of (suc zero) = levels.Sum
level_of (suc (suc zero)) = levels.Relation
level_of (suc (suc (suc zero))) = levels.Equality
level_of (suc (suc (suc (suc zero)))) = levels.And
level_of (suc (suc (suc (suc (suc zero))))) = levels.Or
level_of (suc (suc (suc (suc (suc (suc zero)))))) = levels.Xor
level_of _ = levels.Implies

-- the operators of a level
abbrev pub operator : ℕ → Language Tok Tok
operator zero = the Star
operator (suc zero) = either (the PlusSign) (the MinusSign)
operator (suc (suc zero)) = either (the LessSign) (either (the AtMost) (either (the GreaterSign) (the AtLeast)))
operator (suc (suc (suc zero))) = either (the EqualSign) (either (the DoubleEqual) (either (the Diamond) (the BangEqual)))
operator (suc (suc (suc (suc zero)))) = the AndWord
operator (suc (suc (suc (suc (suc zero))))) = the OrWord
operator (suc (suc (suc (suc (suc (suc zero)))))) = the XorWord
operator (suc (suc (suc (suc (suc (suc (suc zero))))))) = the ImpliesWord
operator (suc (suc (suc (suc (suc (suc (suc (suc k)))))))) = never

unfoldable pub link : ℕ → Language Tok Lead → Language Tok LinkTerm
link k l = made link_of (then (operator k) l)

-- nothing goes on with a `forEach`
abbrev pub links : ℕ → Language Tok Lead → Lead → Language Tok (List LinkTerm)
links k l (Plain e target) = many (link k l)
links k l (Bracketed e) = many (link k l)
links k l (Each e part) = made nothing empty

-- operands with operators of the k tightest levels between them: p is the first operand, q any other
unfoldable pub chain : ℕ → Language Tok Lead → Language Tok Lead → Language Tok Lead
chain zero p q = p
chain (suc k) p q = made (chain_of (level_of k)) (placed (follow (chain k p q) (links k (chain k q q))))

-- an expression, with the target that it also is
unfoldable pub flagged : NestedLanguages → Language Tok Lead
flagged i = chain 8 (pre i) (pre i)

-- the first operand of a statement: it begins with no `if`, and may be the source of a `forEach`
unfoldable pub lead_post : NestedLanguages → Language Tok Lead
lead_post i = made each_lead (placed (then (other_primary i) (series (lead_step i))))

unfoldable pub lead_pre : NestedLanguages → Language Tok Lead
lead_pre i = either (signed_post i) (lead_post i)

-- an expression at the front of a statement
unfoldable pub lead : NestedLanguages → Language Tok Lead
lead i = chain 8 (lead_pre i) (pre i)
