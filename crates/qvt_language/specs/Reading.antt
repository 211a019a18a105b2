-- The readers of names, types and expressions, production by production.
use Rattle.std.specs.Prelude.{ℕ, zero, suc, Bool, List, [], ◌∷◌, Option, Some, ◌⊎◌}
use Rattle.std.proofs.Common.{inl, inr}
use Rattle.std.specs.Prelude.{Err}
use Rattle.qvt_grammar.specs.Reader.{At, then_at, choose_at, follow_at, many_at, made_at, empty_at, maybe_at, ended_at}
use Rattle.qvt_tree_types.specs.Tree.{TypeTerm, PathType, ExprTerm, MapExpr, ResolveExpr, ItemTerm, MapTerm, ResolveTerm, FilterTerm, HeadTerm, AccumulatorTerm, StepTerm, DotMapStep, DotResolveStep, ArrowMapStep, ArrowResolveStep, LinkTerm, BareTarget, StmtTerm}
use Rattle.qvt_tree_types.specs.declared.types.PathTree.{PathTree}
use Rattle.qvt_tree_types.specs.declared.types.ObjectVar.{ObjectVar}
use Rattle.qvt_tree_types.specs.declared.words.Sign.{Sign}
use Rattle.qvt_tree_types.specs.declared.words.ResolveWord.{ResolveWord}
use Rattle.qvt_language.specs.declared.named.Named.{Named}
use Rattle.qvt_language.specs.declared.named.UnitPath.{UnitPath}
use Rattle.qvt_words.specs.declared.class.Class.TheVariants.{Name, Integer, Str, OpenRound, CloseRound, OpenBrace, CloseBrace, Comma, Semicolon, Colon, DoubleColon, Dot, DotDot, Arrow, Bar, AtSign, EqualSign, DoubleEqual, Diamond, BangEqual, LessSign, AtMost, GreaterSign, AtLeast, PlusSign, MinusSign, Star, AndWord, BagWord, ElseWord, EndifWord, FalseWord, ForEachWord, IfWord, ImpliesWord, InvResolveWord, InvResolveInWord, InvResolveOneWord, InvResolveOneInWord, LateWord, MapWord, NewWord, NotWord, NullWord, ObjectWord, OrWord, OrderedSetWord, ResolveAllWord, ResolveInWord, ResolveOneWord, ResolveOneInWord, ResultWord, SelfWord, SequenceWord, SetWord, ThenWord, TrueWord, XmapWord, XorWord}
use Rattle.qvt_language.specs.Tokens.{Tok, of, is, code_of}
use Rattle.qvt_language.specs.Readers.{Reader, the_at, placed_at}
use Rattle.qvt_language.specs.Firsts.{kind_first, map_first, all_first, literal_first, word_first, head_first, step_first, sign_first}
use Rattle.qvt_language.specs.Leads.{Lead, Plain, Bracketed, Each, EachPart}
use Rattle.qvt_language.specs.Grammar.{level_of}
use Rattle.qvt_language.specs.Trees.{second, first, cons_of, nothing, inner, text_of, named_of, path_of, unit_path_of, coll_type_of, int_of, str_of, true_of, false_of, null_of, self_of, result_of, named_expr_of, coll_of, range_of, item_of, if_of, result_head, named_head, object_of, new_of, map_of, all_of, in_of, resolve_of, no_name, named_type, filter_of, bare, bracketed, dot_of, no_args, arrow_of, accumulator_of, expr_of, headed, with_first, post_lead, each_lead, not_of, minus_of, prefix_lead, link_of, chain_of, each_of}

-- the readers of what stands nested inside
pub record NestedAt : Type 0 where
  pub flagged : Reader Lead
  pub block : Reader (List StmtTerm)
  pub kind : Reader TypeTerm

unfoldable pub name_at : Reader Named
name_at = made_at named_of (the_at Name)

unfoldable pub more_names_at : Reader ((List Named))
more_names_at = many_at (is DoubleColon) (made_at second (then_at (the_at DoubleColon) name_at))

unfoldable pub path_at : Reader PathTree
path_at = made_at path_of (then_at name_at more_names_at)

unfoldable pub paths_at : Reader ((List PathTree))
paths_at = made_at cons_of (then_at path_at (many_at (is Comma) (made_at second (then_at (the_at Comma) path_at))))

unfoldable pub unit_path_at : Reader UnitPath
unit_path_at = made_at unit_path_of (then_at name_at more_names_at)

unfoldable pub extent_at : Reader ((Option (List ℕ)))
extent_at = maybe_at (is AtSign) (made_at second (then_at (the_at AtSign) (made_at text_of (the_at Name))))

unfoldable pub kind_word_at : Reader Tok
kind_word_at = choose_at (is SetWord) (the_at SetWord) (choose_at (is BagWord) (the_at BagWord) (choose_at (is SequenceWord) (the_at SequenceWord) (the_at OrderedSetWord)))

unfoldable pub coll_type_at : NestedAt → Reader TypeTerm
coll_type_at r = made_at coll_type_of (then_at kind_word_at (made_at inner (then_at (the_at OpenRound) (then_at r.kind (the_at CloseRound)))))

unfoldable pub typed_at : NestedAt → Reader TypeTerm
typed_at r = choose_at (of kind_first) (coll_type_at r) (made_at PathType path_at)

unfoldable pub colon_type_at : NestedAt → Reader TypeTerm
colon_type_at r = made_at second (then_at (the_at Colon) (typed_at r))

unfoldable pub expr_at : NestedAt → Reader ExprTerm
expr_at r = made_at expr_of r.flagged

unfoldable pub exprs_at : NestedAt → Reader ((List ExprTerm))
exprs_at r = made_at cons_of (then_at (expr_at r) (many_at (is Comma) (made_at second (then_at (the_at Comma) (expr_at r)))))

unfoldable pub args_at : NestedAt → Reader ((List ExprTerm))
args_at r = made_at second (then_at (the_at OpenRound) (choose_at (is CloseRound) (made_at nothing (the_at CloseRound)) (made_at first (then_at (exprs_at r) (the_at CloseRound)))))

unfoldable pub literal_at : Reader ExprTerm
literal_at = choose_at (is Integer) (made_at int_of (the_at Integer)) (choose_at (is Str) (made_at str_of (the_at Str)) (choose_at (is TrueWord) (made_at true_of (the_at TrueWord)) (made_at false_of (the_at FalseWord))))

unfoldable pub word_at : Reader ExprTerm
word_at = choose_at (is NullWord) (made_at null_of (the_at NullWord)) (choose_at (is SelfWord) (made_at self_of (the_at SelfWord)) (made_at result_of (the_at ResultWord)))

unfoldable pub named_expr_at : NestedAt → Reader ExprTerm
named_expr_at r = made_at named_expr_of (then_at name_at (choose_at (is OpenRound) (made_at inl (args_at r)) (made_at inr more_names_at)))

unfoldable pub item_at : NestedAt → Reader ItemTerm
item_at r = made_at item_of (placed_at (then_at (expr_at r) (maybe_at (is DotDot) (made_at range_of (then_at (the_at DotDot) (expr_at r))))))

unfoldable pub coll_at : NestedAt → Reader ExprTerm
coll_at r = made_at coll_of (then_at kind_word_at (made_at second (then_at (the_at OpenBrace) (choose_at (is CloseBrace) (made_at nothing (the_at CloseBrace)) (made_at first (then_at (made_at cons_of (then_at (item_at r) (many_at (is Comma) (made_at second (then_at (the_at Comma) (item_at r)))))) (the_at CloseBrace)))))))

unfoldable pub if_expr_at : NestedAt → Reader ExprTerm
if_expr_at r = made_at if_of (placed_at (then_at (the_at IfWord) (then_at (expr_at r) (then_at (made_at second (then_at (the_at ThenWord) (expr_at r))) (made_at inner (then_at (the_at ElseWord) (then_at (expr_at r) (the_at EndifWord))))))))

unfoldable pub colon_path_at : Reader PathTree
colon_path_at = made_at second (then_at (the_at Colon) path_at)

unfoldable pub object_head_at : Reader ((Option ObjectVar × PathTree))
object_head_at = choose_at (is ResultWord) (made_at result_head (then_at (the_at ResultWord) colon_path_at)) (made_at named_head (then_at name_at (choose_at (is Colon) (made_at inl colon_path_at) (made_at inr more_names_at))))

unfoldable pub object_at : NestedAt → Reader ExprTerm
object_at r = made_at object_of (then_at (the_at ObjectWord) (then_at object_head_at (then_at extent_at r.block)))

unfoldable pub new_expr_at : NestedAt → Reader ExprTerm
new_expr_at r = made_at new_of (then_at (the_at NewWord) (then_at path_at (then_at extent_at (args_at r))))

unfoldable pub map_call_at : NestedAt → Reader MapTerm
map_call_at r = made_at map_of (then_at (choose_at (is MapWord) (the_at MapWord) (the_at XmapWord)) (then_at name_at (args_at r)))

unfoldable pub filter_head_at : NestedAt → Reader ((Option (List ℕ) × TypeTerm))
filter_head_at r = choose_at (of kind_first) (made_at no_name (coll_type_at r)) (made_at named_type (then_at name_at (choose_at (is Colon) (made_at inl (colon_type_at r)) (made_at inr more_names_at))))

unfoldable pub bar_expr_at : NestedAt → Reader ExprTerm
bar_expr_at r = made_at second (then_at (the_at Bar) (expr_at r))

unfoldable pub filter_at : NestedAt → Reader FilterTerm
filter_at r = made_at filter_of (placed_at (then_at (filter_head_at r) (maybe_at (is Bar) (bar_expr_at r))))

unfoldable pub all_word_at : Reader Tok
all_word_at = choose_at (is ResolveAllWord) (the_at ResolveAllWord) (choose_at (is ResolveOneWord) (the_at ResolveOneWord) (choose_at (is InvResolveWord) (the_at InvResolveWord) (the_at InvResolveOneWord)))

unfoldable pub in_word_at : Reader Tok
in_word_at = choose_at (is ResolveInWord) (the_at ResolveInWord) (choose_at (is ResolveOneInWord) (the_at ResolveOneInWord) (choose_at (is InvResolveInWord) (the_at InvResolveInWord) (the_at InvResolveOneInWord)))

unfoldable pub all_form_at : NestedAt → Reader ((ResolveWord × (Option PathTree × Option FilterTerm)))
all_form_at r = made_at all_of (then_at all_word_at (made_at inner (then_at (the_at OpenRound) (then_at (filter_at r) (the_at CloseRound)))))

unfoldable pub in_form_at : NestedAt → Reader ((ResolveWord × (Option PathTree × Option FilterTerm)))
in_form_at r = made_at in_of (then_at in_word_at (then_at (the_at OpenRound) (then_at path_at (then_at (maybe_at (is Comma) (made_at second (then_at (the_at Comma) (filter_at r)))) (the_at CloseRound)))))

unfoldable pub resolve_at : NestedAt → Reader ResolveTerm
resolve_at r = made_at resolve_of (placed_at (then_at (maybe_at (is LateWord) (the_at LateWord)) (choose_at (of all_first) (all_form_at r) (in_form_at r))))

unfoldable pub brackets_at : NestedAt → Reader ExprTerm
brackets_at r = made_at inner (then_at (the_at OpenRound) (then_at (expr_at r) (the_at CloseRound)))

unfoldable pub longer_at : NestedAt → Reader ExprTerm
longer_at r = choose_at (of kind_first) (coll_at r) (choose_at (is ObjectWord) (object_at r) (choose_at (is NewWord) (new_expr_at r) (choose_at (of map_first) (made_at MapExpr (map_call_at r)) (made_at ResolveExpr (resolve_at r)))))

unfoldable pub bare_expr_at : NestedAt → Reader ExprTerm
bare_expr_at r = choose_at (of literal_first) literal_at (choose_at (of word_first) word_at (choose_at (is Name) (named_expr_at r) (longer_at r)))

unfoldable pub other_primary_at : NestedAt → Reader ((ExprTerm × Bool))
other_primary_at r = choose_at (is OpenRound) (made_at bracketed (brackets_at r)) (made_at bare (bare_expr_at r))

unfoldable pub primary_at : NestedAt → Reader ((ExprTerm × Bool))
primary_at r = choose_at (is IfWord) (made_at bare (if_expr_at r)) (other_primary_at r)

unfoldable pub dot_rest_at : NestedAt → Reader StepTerm
dot_rest_at r = choose_at (is Name) (made_at dot_of (then_at name_at (maybe_at (is OpenRound) (args_at r)))) (choose_at (of map_first) (made_at DotMapStep (map_call_at r)) (made_at DotResolveStep (resolve_at r)))

unfoldable pub dot_step_at : NestedAt → Reader StepTerm
dot_step_at r = made_at second (then_at (the_at Dot) (dot_rest_at r))

unfoldable pub accumulator_at : NestedAt → Reader AccumulatorTerm
accumulator_at r = made_at accumulator_of (made_at second (then_at (the_at Semicolon) (then_at name_at (then_at (colon_type_at r) (made_at second (then_at (the_at EqualSign) (expr_at r)))))))

unfoldable pub head_rest_at : NestedAt → Reader ((Option TypeTerm × (Option AccumulatorTerm × ExprTerm)))
head_rest_at r = then_at (maybe_at (is Colon) (colon_type_at r)) (then_at (maybe_at (is Semicolon) (accumulator_at r)) (bar_expr_at r))

unfoldable pub more_exprs_at : NestedAt → Reader ((List ExprTerm))
more_exprs_at r = many_at (is Comma) (made_at second (then_at (the_at Comma) (expr_at r)))

abbrev pub after_first_at : NestedAt → Lead → Reader (HeadTerm × List ExprTerm)
after_first_at r (Plain e (Some (BareTarget name place))) = choose_at (of head_first) (made_at (headed name place) (head_rest_at r)) (made_at (with_first e) (more_exprs_at r))
after_first_at r x = made_at (with_first (expr_of x)) (more_exprs_at r)

unfoldable pub arrow_body_at : NestedAt → Reader ((HeadTerm × List ExprTerm))
arrow_body_at r = made_at second (follow_at r.flagged (after_first_at r))

unfoldable pub arrow_args_at : NestedAt → Reader ((HeadTerm × List ExprTerm))
arrow_args_at r = made_at second (then_at (the_at OpenRound) (choose_at (is CloseRound) (made_at no_args (the_at CloseRound)) (made_at first (then_at (arrow_body_at r) (the_at CloseRound)))))

unfoldable pub arrow_rest_at : NestedAt → Reader StepTerm
arrow_rest_at r = choose_at (is Name) (made_at arrow_of (then_at name_at (arrow_args_at r))) (choose_at (of map_first) (made_at ArrowMapStep (map_call_at r)) (made_at ArrowResolveStep (resolve_at r)))

unfoldable pub step_at : NestedAt → Reader StepTerm
step_at r = choose_at (is Dot) (dot_step_at r) (made_at second (then_at (the_at Arrow) (arrow_rest_at r)))

unfoldable pub post_at : NestedAt → Reader Lead
post_at r = made_at post_lead (placed_at (then_at (primary_at r) (many_at (of step_first) (step_at r))))

unfoldable pub sign_at : Reader Sign
sign_at = choose_at (is NotWord) (made_at not_of (the_at NotWord)) (made_at minus_of (the_at MinusSign))

unfoldable pub more_signs_at : Reader ((List Sign))
more_signs_at = many_at (of sign_first) sign_at

unfoldable pub signs_at : Reader ((Sign × List Sign))
signs_at = then_at sign_at more_signs_at

unfoldable pub signed_post_at : NestedAt → Reader Lead
signed_post_at r = made_at prefix_lead (placed_at (then_at signs_at (post_at r)))

unfoldable pub pre_at : NestedAt → Reader Lead
pre_at r = choose_at (of sign_first) (signed_post_at r) (post_at r)

unfoldable pub each_tail_at : NestedAt → Reader EachPart
each_tail_at r = made_at each_of (then_at (the_at ForEachWord) (then_at (the_at OpenRound) (then_at name_at (then_at (maybe_at (is Colon) (colon_type_at r)) (then_at (maybe_at (is Bar) (bar_expr_at r)) (then_at (the_at CloseRound) r.block))))))

unfoldable pub lead_step_at : NestedAt → Reader ((StepTerm ⊎ EachPart))
lead_step_at r = choose_at (is Dot) (made_at inl (dot_step_at r)) (made_at second (then_at (the_at Arrow) (choose_at (is ForEachWord) (made_at inr (each_tail_at r)) (made_at inl (arrow_rest_at r)))))

abbrev pub operator_at : ℕ → Reader Tok
operator_at zero = the_at Star
operator_at (suc zero) = choose_at (is PlusSign) (the_at PlusSign) (the_at MinusSign)
operator_at (suc (suc zero)) = choose_at (is LessSign) (the_at LessSign) (choose_at (is AtMost) (the_at AtMost) (choose_at (is GreaterSign) (the_at GreaterSign) (the_at AtLeast)))
operator_at (suc (suc (suc zero))) = choose_at (is EqualSign) (the_at EqualSign) (choose_at (is DoubleEqual) (the_at DoubleEqual) (choose_at (is Diamond) (the_at Diamond) (the_at BangEqual)))
operator_at (suc (suc (suc (suc zero)))) = the_at AndWord
operator_at (suc (suc (suc (suc (suc zero))))) = the_at OrWord
operator_at (suc (suc (suc (suc (suc (suc zero)))))) = the_at XorWord
operator_at (suc (suc (suc (suc (suc (suc (suc zero))))))) = the_at ImpliesWord
operator_at (suc (suc (suc (suc (suc (suc (suc (suc k)))))))) = λ ts. Err (At ts)

abbrev pub operators : ℕ → List ℕ
operators zero = code_of Star ∷ []
operators (suc zero) = code_of PlusSign ∷ code_of MinusSign ∷ []
operators (suc (suc zero)) = code_of LessSign ∷ code_of AtMost ∷ code_of GreaterSign ∷ code_of AtLeast ∷ []
operators (suc (suc (suc zero))) = code_of EqualSign ∷ code_of DoubleEqual ∷ code_of Diamond ∷ code_of BangEqual ∷ []
operators (suc (suc (suc (suc zero)))) = code_of AndWord ∷ []
operators (suc (suc (suc (suc (suc zero))))) = code_of OrWord ∷ []
operators (suc (suc (suc (suc (suc (suc zero)))))) = code_of XorWord ∷ []
operators (suc (suc (suc (suc (suc (suc (suc zero))))))) = code_of ImpliesWord ∷ []
operators (suc (suc (suc (suc (suc (suc (suc (suc k)))))))) = []

unfoldable pub link_at : ℕ → Reader Lead → Reader LinkTerm
link_at k f = made_at link_of (then_at (operator_at k) f)

abbrev pub links_at : ℕ → Reader Lead → Lead → Reader (List LinkTerm)
links_at k f (Plain e target) = many_at (of (operators k)) (link_at k f)
links_at k f (Bracketed e) = many_at (of (operators k)) (link_at k f)
links_at k f (Each e part) = made_at nothing empty_at

unfoldable pub chain_at : ℕ → Reader Lead → Reader Lead → Reader Lead
chain_at zero f g = f
chain_at (suc k) f g = made_at (chain_of (level_of k)) (placed_at (follow_at (chain_at k f g) (links_at k (chain_at k g g))))

unfoldable pub flagged_at : NestedAt → Reader Lead
flagged_at r = chain_at 8 (pre_at r) (pre_at r)

unfoldable pub lead_post_at : NestedAt → Reader Lead
lead_post_at r = made_at each_lead (placed_at (then_at (other_primary_at r) (ended_at (of step_first) (lead_step_at r))))

unfoldable pub lead_pre_at : NestedAt → Reader Lead
lead_pre_at r = choose_at (of sign_first) (signed_post_at r) (lead_post_at r)

unfoldable pub lead_at : NestedAt → Reader Lead
lead_at r = chain_at 8 (lead_pre_at r) (pre_at r)
