-- The trees that the productions of expressions make (OCL 2.4, 7; QVT 1.3, 8.2.2).
use Rattle.std.specs.Prelude.{ℕ, Bool, true, false, List, [], ◌∷◌, ◌++◌, map, Option, Some, None, ◌⊎◌}
use Rattle.std.proofs.Common.{inl, inr}
use Rattle.qvt_base.specs.declared.numbers.Place.{Place}
use Rattle.qvt_tree_types.specs.Tree.{TypeTerm, CollType, PathType, ExprTerm, LinkTerm, ItemTerm, RangeTerm, MapTerm, ResolveTerm, FilterTerm, HeadTerm, AccumulatorTerm, StepTerm, StepTerms, TargetTerm, StmtTerm}
use Rattle.qvt_tree_types.specs.Tree.{IntExpr, StrExpr, BoolExpr, NullExpr, SelfExpr, ResultExpr, PathExpr, CallExpr, CollExpr, IfExpr, ObjectExpr, NewExpr, ChainExpr, PrefixExpr, PostExpr, NoArgs, LinkOf, ItemOf, RangeTo, MapOf, ResolveOf, FilterOf, NoHead, HeadOf, AccumulatorOf, DotStep, ArrowStep, NoSteps, MoreSteps, BareTarget, ResultTarget, MemberTarget}
use Rattle.qvt_tree_types.specs.View.{exprs_of, links_of, items_of, steps_of, stmts_of, optional_expr, optional_args, optional_range, optional_filter, optional_accumulator}
use Rattle.qvt_tree_types.specs.declared.types.PathTree.{PathTree}
use Rattle.qvt_tree_types.specs.declared.types.ObjectVar.{ObjectVar}
use Rattle.qvt_tree_types.specs.declared.types.ObjectVar.TheVariants as variables
use Rattle.qvt_tree_types.specs.declared.words.CollKind.{CollKind}
use Rattle.qvt_tree_types.specs.declared.words.CollKind.TheVariants as kinds
use Rattle.qvt_tree_types.specs.declared.words.Level.{Level}
use Rattle.qvt_tree_types.specs.declared.words.BinaryOp.{BinaryOp}
use Rattle.qvt_tree_types.specs.declared.words.BinaryOp.TheVariants as operators
use Rattle.qvt_tree_types.specs.declared.words.PrefixOp.TheVariants as prefixes
use Rattle.qvt_tree_types.specs.declared.words.Sign.{Sign}
use Rattle.qvt_tree_types.specs.declared.words.ResolveWord.{ResolveWord}
use Rattle.qvt_tree_types.specs.declared.words.ResolveWord.TheVariants as resolves
use Rattle.qvt_language.specs.declared.named.Named.{Named}
use Rattle.qvt_language.specs.declared.named.UnitPath.{UnitPath}
use Rattle.qvt_words.specs.declared.class.Class.{Class}
use Rattle.qvt_words.specs.declared.class.Class.TheVariants.{SetWord, BagWord, SequenceWord, ImpliesWord, XorWord, OrWord, AndWord, EqualSign, DoubleEqual, Diamond, BangEqual, LessSign, AtMost, GreaterSign, AtLeast, PlusSign, MinusSign, XmapWord, ResolveAllWord, ResolveOneWord, InvResolveWord, InvResolveOneWord, ResolveInWord, ResolveOneInWord, InvResolveInWord}
use Rattle.qvt_language.specs.Tokens.{Tok}
use Rattle.qvt_language.specs.Leads.{Lead, Plain, Bracketed, Each, EachPart}

-- parts of a sequence

abbrev pub second : {A B : Type 0} → A × B → B
second (a, b) = b

abbrev pub first : {A B : Type 0} → A × B → A
first (a, b) = a

abbrev pub cons_of : {A : Type 0} → A × List A → List A
cons_of (a, more) = a ∷ more

abbrev pub nothing : {X A : Type 0} → X → List A
nothing x = []

-- between two brackets
abbrev pub inner : {X A Y : Type 0} → X × (A × Y) → A
inner (x, (a, y)) = a

-- names and types

abbrev pub text_of : Tok → List ℕ
text_of t = t.text

abbrev pub named_of : Tok → Named
named_of t = record { text = t.text; place = t.place }

abbrev pub path_of : Named × List Named → PathTree
path_of (n, ns) = record { names = n.text ∷ map (λ m. m.text) ns; place = n.place }

abbrev pub last_place : Place → List Named → Place
last_place place [] = place
last_place place (n ∷ ns) = last_place n.place ns

abbrev pub unit_path_of : Named × List Named → UnitPath
unit_path_of (n, ns) = record { names = n.text ∷ map (λ m. m.text) ns; place = last_place n.place ns }

abbrev pub coll_kind : Class → CollKind
coll_kind SetWord = kinds.Set
coll_kind BagWord = kinds.Bag
coll_kind SequenceWord = kinds.Sequence
coll_kind _ = kinds.OrderedSet

abbrev pub coll_type_of : Tok × TypeTerm → TypeTerm
coll_type_of (k, t) = CollType (coll_kind k.class) t k.place

-- expressions that begin with one token

abbrev pub int_of : Tok → ExprTerm
int_of t = IntExpr t.number t.place

abbrev pub str_of : Tok → ExprTerm
str_of t = StrExpr t.text t.place

abbrev pub true_of : Tok → ExprTerm
true_of t = BoolExpr true t.place

abbrev pub false_of : Tok → ExprTerm
false_of t = BoolExpr false t.place

abbrev pub null_of : Tok → ExprTerm
null_of t = NullExpr t.place

abbrev pub self_of : Tok → ExprTerm
self_of t = SelfExpr t.place

abbrev pub result_of : Tok → ExprTerm
result_of t = ResultExpr t.place

-- a call, or a path
abbrev pub named_expr_of : Named × (List ExprTerm ⊎ List Named) → ExprTerm
named_expr_of (n, (inl es)) = CallExpr n.text (exprs_of es) n.place
named_expr_of (n, (inr ns)) = PathExpr (path_of (n, ns))

abbrev pub coll_of : Tok × List ItemTerm → ExprTerm
coll_of (k, items) = CollExpr (coll_kind k.class) (items_of items) k.place

abbrev pub range_of : Tok × ExprTerm → RangeTerm
range_of (dots, e) = RangeTo e dots.place

abbrev pub item_of : Place × (ExprTerm × Option RangeTerm) → ItemTerm
item_of (place, (e, range)) = ItemOf e (optional_range range) place

abbrev pub if_of : Place × (Tok × (ExprTerm × (ExprTerm × ExprTerm))) → ExprTerm
if_of (place, (w, (c, (one, other)))) = IfExpr c one other place

abbrev pub result_head : Tok × PathTree → Option ObjectVar × PathTree
result_head (t, path) = (Some (variables.ResultVar t.place), path)

abbrev pub named_head : Named × (PathTree ⊎ List Named) → Option ObjectVar × PathTree
named_head (n, (inl path)) = (Some (variables.Named n.text n.place), path)
named_head (n, (inr ns)) = (None, path_of (n, ns))

abbrev pub object_of : Tok × ((Option ObjectVar × PathTree) × (Option (List ℕ) × List StmtTerm)) → ExprTerm
object_of (w, (head, (extent, body))) = ObjectExpr head.0 head.1 extent (stmts_of body) w.place

abbrev pub new_of : Tok × (PathTree × (Option (List ℕ) × List ExprTerm)) → ExprTerm
new_of (w, (path, (extent, args))) = NewExpr path extent (exprs_of args) w.place

abbrev pub is_strict : Class → Bool
is_strict XmapWord = true
is_strict _ = false

abbrev pub map_of : Tok × (Named × List ExprTerm) → MapTerm
map_of (w, (n, args)) = MapOf (is_strict w.class) n.text (exprs_of args) n.place

abbrev pub resolve_word : Class → ResolveWord
resolve_word ResolveAllWord = resolves.Resolve
resolve_word ResolveOneWord = resolves.ResolveOne
resolve_word InvResolveWord = resolves.InvResolve
resolve_word InvResolveOneWord = resolves.InvResolveOne
resolve_word ResolveInWord = resolves.ResolveIn
resolve_word ResolveOneInWord = resolves.ResolveOneIn
resolve_word InvResolveInWord = resolves.InvResolveIn
resolve_word _ = resolves.InvResolveOneIn

abbrev pub all_of : Tok × FilterTerm → ResolveWord × (Option PathTree × Option FilterTerm)
all_of (w, filter) = (resolve_word w.class, (None, Some filter))

abbrev pub in_of : Tok × (Tok × (PathTree × (Option FilterTerm × Tok))) → ResolveWord × (Option PathTree × Option FilterTerm)
in_of (w, (b1, (path, (filter, b2)))) = (resolve_word w.class, (Some path, filter))

abbrev pub is_there : {A : Type 0} → Option A → Bool
is_there None = false
is_there (Some a) = true

abbrev pub resolve_of : Place × (Option Tok × (ResolveWord × (Option PathTree × Option FilterTerm))) → ResolveTerm
resolve_of (place, (late, (word, (path, filter)))) = ResolveOf (is_there late) word path (optional_filter filter) place

abbrev pub no_name : TypeTerm → Option (List ℕ) × TypeTerm
no_name t = (None, t)

abbrev pub named_type : Named × (TypeTerm ⊎ List Named) → Option (List ℕ) × TypeTerm
named_type (n, (inl t)) = (Some n.text, t)
named_type (n, (inr ns)) = (None, PathType (path_of (n, ns)))

abbrev pub filter_of : Place × ((Option (List ℕ) × TypeTerm) × Option ExprTerm) → FilterTerm
filter_of (place, (head, condition)) = FilterOf head.0 head.1 (optional_expr condition) place

-- whether it stands without brackets

abbrev pub bare : ExprTerm → ExprTerm × Bool
bare e = (e, true)

abbrev pub bracketed : ExprTerm → ExprTerm × Bool
bracketed e = (e, false)

-- steps

abbrev pub dot_of : Named × Option (List ExprTerm) → StepTerm
dot_of (n, args) = DotStep n.text (optional_args args) n.place

abbrev pub no_args : {X : Type 0} → X → HeadTerm × List ExprTerm
no_args x = (NoHead, [])

abbrev pub arrow_of : Named × (HeadTerm × List ExprTerm) → StepTerm
arrow_of (n, (head, args)) = ArrowStep n.text head (exprs_of args) n.place

abbrev pub accumulator_of : Named × (TypeTerm × ExprTerm) → AccumulatorTerm
accumulator_of (n, (t, e)) = AccumulatorOf n.text t e n.place

abbrev pub expr_of : Lead → ExprTerm
expr_of (Plain e target) = e
expr_of (Bracketed e) = e
expr_of (Each e part) = e

-- the name that the expression is, with the rest of its head; or further arguments
abbrev pub headed : List ℕ → Place → Option TypeTerm × (Option AccumulatorTerm × ExprTerm) → HeadTerm × List ExprTerm
headed name place (kind, (accumulator, body)) = (HeadOf name kind (optional_accumulator accumulator) place, body ∷ [])

abbrev pub with_head : {A : Type 0} → A → List A → List A
with_head a more = a ∷ more

abbrev pub with_first : ExprTerm → List ExprTerm → HeadTerm × List ExprTerm
with_first e es = (NoHead, e ∷ es)

-- the target that an expression of one token is
abbrev pub bare_target : ExprTerm → Option TargetTerm
bare_target (PathExpr path) = elim path.names [ [] ↦ None | n ∷ ns ↦ elim ns [ [] ↦ Some (BareTarget n path.place) | m ∷ ms ↦ None ] ]
bare_target (ResultExpr place) = Some (ResultTarget place)
bare_target _ = None

abbrev pub more_steps : StepTerms → List StepTerm → StepTerms
more_steps NoSteps ss = steps_of ss
more_steps (MoreSteps s old) ss = MoreSteps s (more_steps old ss)

-- steps after an expression in brackets that has steps join them
abbrev pub stepped : Place → ExprTerm → List StepTerm → ExprTerm
stepped place (PostExpr e old p) ss = PostExpr e (more_steps old ss) place
stepped place e ss = PostExpr e (steps_of ss) place

abbrev pub post_of : Place → ExprTerm → List StepTerm → ExprTerm
post_of place e [] = e
post_of place e (s ∷ ss) = stepped place e (s ∷ ss)

-- the steps before the last, and the last
abbrev pub split_last : StepTerm → List StepTerm → List StepTerm × StepTerm
split_last s [] = ([], s)
split_last s (t ∷ ts) = let more = split_last t ts in (s ∷ more.0, more.1)

-- a last step that is a name without arguments is the member of a target
abbrev pub member_of : Place → ExprTerm → List StepTerm × StepTerm → Option TargetTerm
member_of place e (before, (DotStep name NoArgs p)) = Some (MemberTarget (post_of place e before) name p)
member_of place e (before, s) = None

abbrev pub member_target : Place → ExprTerm → List StepTerm → Option TargetTerm
member_target place e [] = None
member_target place e (s ∷ ss) = member_of place e (split_last s ss)

abbrev pub first_lead : ExprTerm × Bool → Lead
first_lead (e, true) = Plain e (bare_target e)
first_lead (e, false) = Bracketed e

abbrev pub post_lead : Place × ((ExprTerm × Bool) × List StepTerm) → Lead
post_lead (place, (x, [])) = first_lead x
post_lead (place, (x, (s ∷ ss))) = Plain (post_of place x.0 (s ∷ ss)) (member_of place x.0 (split_last s ss))

-- a `forEach` after the steps, where there is one
abbrev pub each_lead : Place × ((ExprTerm × Bool) × (List StepTerm × Option EachPart)) → Lead
each_lead (place, (x, (steps, None))) = post_lead (place, (x, steps))
each_lead (place, (x, (steps, (Some part)))) = Each (post_of place x.0 steps) part

-- signs, and chains

abbrev pub not_of : Tok → Sign
not_of t = record { op = prefixes.Not; place = t.place }

abbrev pub minus_of : Tok → Sign
minus_of t = record { op = prefixes.Minus; place = t.place }

-- signs before an expression in brackets that has signs join them
abbrev pub signed : Place → List Sign → ExprTerm → ExprTerm
signed place signs (PrefixExpr old e p) = PrefixExpr (signs ++ old) e place
signed place signs e = PrefixExpr signs e place

abbrev pub prefix_lead : Place × ((Sign × List Sign) × Lead) → Lead
prefix_lead (place, ((s, more), x)) = Plain (signed place (s ∷ more) (expr_of x)) None

abbrev pub binary_op : Class → BinaryOp
binary_op ImpliesWord = operators.Implies
binary_op XorWord = operators.Xor
binary_op OrWord = operators.Or
binary_op AndWord = operators.And
binary_op EqualSign = operators.Equal
binary_op DoubleEqual = operators.Equal
binary_op Diamond = operators.NotEqual
binary_op BangEqual = operators.NotEqual
binary_op LessSign = operators.Less
binary_op AtMost = operators.LessEqual
binary_op GreaterSign = operators.Greater
binary_op AtLeast = operators.GreaterEqual
binary_op PlusSign = operators.Plus
binary_op MinusSign = operators.Minus
binary_op _ = operators.Times

abbrev pub link_of : Tok × Lead → LinkTerm
link_of (sign, x) = LinkOf (binary_op sign.class) (expr_of x) sign.place

abbrev pub chain_of : Level → Place × (Lead × List LinkTerm) → Lead
chain_of level (place, (x, [])) = x
chain_of level (place, (x, (l ∷ ls))) = Plain (ChainExpr level (expr_of x) (links_of (l ∷ ls)) place) None

abbrev pub each_of : Tok × (Tok × (Named × (Option TypeTerm × (Option ExprTerm × (Tok × List StmtTerm))))) → EachPart
each_of (w, (b1, (n, (kind, (condition, (b2, body)))))) = record { name = n.text; kind = kind; condition = optional_expr condition; body = body }
