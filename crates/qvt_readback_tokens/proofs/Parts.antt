-- The pieces of a tree's parts are sound where those of their parts are.
use Rattle.std.proofs.Common.{ℕ, List, [], ◌∷◌, ◌++◌, Bool, true, false, refl, Option, Some, None}
use Rattle.qvt_base.specs.declared.numbers.Place.{Place}
use Rattle.qvt_tree_types.specs.Tree.{TypeTerm, CollType, ExprTerm, OptionalExpr, NoExpr, SomeExpr, LinkTerm, LinkOf, ItemTerm, ItemOf, RangeTerm, MapTerm, ResolveTerm, ResolveOf, FilterTerm, NoFilter, FilterOf, AccumulatorTerm, AccumulatorOf, StepTerm, TargetTerm, StmtTerm, ArmTerm}
use Rattle.qvt_tree_types.specs.View.{exprs_of, links_of, items_of, steps_of, stmts_of, arms_of}
use Rattle.qvt_tree_types.specs.declared.types.PathTree.{PathTree}
use Rattle.qvt_tree_types.specs.declared.types.ObjectVar.{ObjectVar}
use Rattle.qvt_tree_types.specs.declared.types.ObjectVar.TheVariants as variables
use Rattle.qvt_tree_types.specs.declared.words.Direction.{Direction}
use Rattle.qvt_tree_types.specs.declared.words.Direction.TheVariants as direction
use Rattle.qvt_tree_types.specs.declared.words.CollKind.{CollKind}
use Rattle.qvt_tree_types.specs.declared.words.CollKind.TheVariants as kind
use Rattle.qvt_tree_types.specs.declared.words.BinaryOp.{BinaryOp}
use Rattle.qvt_tree_types.specs.declared.words.BinaryOp.TheVariants as op
use Rattle.qvt_tree_types.specs.declared.words.PrefixOp.{PrefixOp}
use Rattle.qvt_tree_types.specs.declared.words.PrefixOp.TheVariants as prefix
use Rattle.qvt_tree_types.specs.declared.words.ResolveWord.{ResolveWord}
use Rattle.qvt_tree_types.specs.declared.words.ResolveWord.TheVariants as resolve
use Rattle.qvt_tree_types.specs.declared.words.Level.{Level}
use Rattle.qvt_tree_types.specs.declared.words.Sign.{Sign}
use Rattle.qvt_language.specs.declared.class.Class.TheVariants as class
use Rattle.qvt_printer_layout.specs.declared.piece.PrintPiece.{PrintPiece}
use Rattle.qvt_printer_layout.specs.declared.piece.PrintPiece.TheVariants.{Plain, Tight, Line, Dedent}
use Rattle.qvt_printer_layout.specs.Words as words
use Rattle.qvt_printer.specs.Levels.{is_as_loose}
use Rattle.qvt_printer.specs.Expressions as print
use Rattle.qvt_readback_tokens.proofs.Meets.{Free, Held, Opened}
use Rattle.qvt_readback_tokens.proofs.Sound.{Sound, held_free, free_opened, sound_append}
use Rattle.qvt_readback_tokens.specs.Told.{IsName}
use Rattle.qvt_language_rows.specs.Lists.{AllOf, IfThere}

-- what can stand anywhere, and what can stand after a token that holds nothing
abbrev pub Closed : List PrintPiece → Type 0
Closed ps = Sound Held ps

abbrev pub Follows : List PrintPiece → Type 0
Follows ps = Sound Free ps

pub then_more : (ps qs : List PrintPiece) → Closed ps → Follows qs → Closed (ps ++ qs)
then_more ps qs h k = sound_append Held ps qs h k

pub and_more : (ps qs : List PrintPiece) → Follows ps → Follows qs → Follows (ps ++ qs)
and_more ps qs h k = sound_append Free ps qs h k

-- what is between brackets
pub in_round : (ps : List PrintPiece) → Follows ps → Closed (print.in_round ps)
in_round ps h = (refl, sound_append Free ps (print.one class.CloseRound) h (refl, refl))

pub round_if : (b : Bool) (ps : List PrintPiece) → Closed ps → Closed (print.round_if b ps)
round_if true ps h = in_round ps (held_free ps h)
round_if false ps h = h

pub in_block : (ps : List PrintPiece) → Follows ps → Closed (print.in_block ps)
in_block ps h = (refl, sound_append Opened ps (Dedent ∷ Line ∷ Plain class.CloseBrace ∷ []) (free_opened ps h) (refl, refl))

pub in_items : (ps : List PrintPiece) → Follows ps → Follows (print.in_items ps)
in_items ps h = (refl, sound_append Free ps (Tight ∷ Plain class.CloseBrace ∷ []) h (refl, refl))

pub ended : (ps : List PrintPiece) → Follows ps → Follows (print.ended ps)
ended ps h = and_more ps (print.one class.Semicolon) h (refl, refl)

-- words and signs
pub kind_word : (k : CollKind) (ps : List PrintPiece) → Follows ps → Closed (Plain (words.kind_word k) ∷ ps)
kind_word kind.Set ps h = (refl, h)
kind_word kind.Bag ps h = (refl, h)
kind_word kind.Sequence ps h = (refl, h)
kind_word kind.OrderedSet ps h = (refl, h)

pub operator_sign : (o : BinaryOp) (ps : List PrintPiece) → Closed ps → Follows (Plain (words.operator_sign o) ∷ ps)
operator_sign op.Minus ps h = (refl, h)
operator_sign op.Implies ps h = (refl, held_free ps h)
operator_sign op.Xor ps h = (refl, held_free ps h)
operator_sign op.Or ps h = (refl, held_free ps h)
operator_sign op.And ps h = (refl, held_free ps h)
operator_sign op.Equal ps h = (refl, held_free ps h)
operator_sign op.NotEqual ps h = (refl, held_free ps h)
operator_sign op.Less ps h = (refl, held_free ps h)
operator_sign op.LessEqual ps h = (refl, held_free ps h)
operator_sign op.Greater ps h = (refl, held_free ps h)
operator_sign op.GreaterEqual ps h = (refl, held_free ps h)
operator_sign op.Plus ps h = (refl, held_free ps h)
operator_sign op.Times ps h = (refl, held_free ps h)

prefix_sign : (o : PrefixOp) (ps : List PrintPiece) → Closed ps → Closed (Plain (words.prefix_sign o) ∷ ps)
prefix_sign prefix.Not ps h = (refl, held_free ps h)
prefix_sign prefix.Minus ps h = (refl, h)

pub signs : (ss : List Sign) (ps : List PrintPiece) → Closed ps → Closed (print.signs ss ++ ps)
signs [] ps h = h
signs (s ∷ ss) ps h = prefix_sign s.op (print.signs ss ++ ps) (signs ss ps h)

-- signs before signs
pub more_signs : (ss old : List Sign) (ps : List PrintPiece) → Closed (print.signs old ++ ps) → Closed (print.signs (ss ++ old) ++ ps)
more_signs [] old ps h = h
more_signs (s ∷ ss) old ps h = prefix_sign s.op (print.signs (ss ++ old) ++ ps) (more_signs ss old ps h)

pub resolve_word : (w : ResolveWord) (ps : List PrintPiece) → Follows ps → Closed (Plain (words.resolve_word w) ∷ ps)
resolve_word resolve.Resolve ps h = (refl, h)
resolve_word resolve.ResolveOne ps h = (refl, h)
resolve_word resolve.InvResolve ps h = (refl, h)
resolve_word resolve.InvResolveOne ps h = (refl, h)
resolve_word resolve.ResolveIn ps h = (refl, h)
resolve_word resolve.ResolveOneIn ps h = (refl, h)
resolve_word resolve.InvResolveIn ps h = (refl, h)
resolve_word resolve.InvResolveOneIn ps h = (refl, h)

pub truth_word : (b : Bool) → Closed (print.one (words.truth_word b))
truth_word true = (refl, refl)
truth_word false = (refl, refl)

pub map_word : (b : Bool) (ps : List PrintPiece) → Follows ps → Closed (Plain (words.map_word b) ∷ ps)
map_word true ps h = (refl, h)
map_word false ps h = (refl, h)

pub assign_sign : (b : Bool) (ps : List PrintPiece) → Follows ps → Follows (Plain (words.assign_sign b) ∷ ps)
assign_sign true ps h = (refl, h)
assign_sign false ps h = (refl, h)

pub helper_word : (b : Bool) (ps : List PrintPiece) → Follows ps → Follows (Plain (words.helper_word b) ∷ ps)
helper_word true ps h = (refl, h)
helper_word false ps h = (refl, h)

pub direction_word : (d : Direction) (ps : List PrintPiece) → Follows ps → Closed (Plain (words.direction_word d) ∷ ps)
direction_word direction.Input ps h = (refl, h)
direction_word direction.Output ps h = (refl, h)
direction_word direction.Both ps h = (refl, h)

pub late_if : (b : Bool) (ps : List PrintPiece) → Closed ps → Closed (print.late_if b ++ ps)
late_if true ps h = (refl, held_free ps h)
late_if false ps h = h

-- names and types
pub more_names : (ns : List (List ℕ)) → AllOf IsName ns → Follows (print.more_names ns)
more_names [] h = refl
more_names (n ∷ ns) h = (refl, (h.0, refl, more_names ns h.1))

pub names : (n : List ℕ) (ns : List (List ℕ)) → IsName n → AllOf IsName ns → Closed (print.names (n ∷ ns))
names n ns h k = (h, refl, more_names ns k)

abbrev pub PathP : PathTree → Type 0
PathP p = Closed (print.path p)

pub more_paths : (ps : List PathTree) → AllOf PathP ps → Follows (print.more_paths ps)
more_paths [] h = refl
more_paths (p ∷ ps) h = (refl, held_free (print.path p ++ print.more_paths ps) (then_more (print.path p) (print.more_paths ps) h.0 (more_paths ps h.1)))

pub paths : (ps : List PathTree) → AllOf PathP ps → Follows (print.paths ps)
paths [] h = refl
paths (p ∷ ps) h = held_free (print.path p ++ print.more_paths ps) (then_more (print.path p) (print.more_paths ps) h.0 (more_paths ps h.1))

abbrev pub TypeP : TypeTerm → Type 0
TypeP t = Closed (print.type_of t)

pub coll_type : (k : CollKind) (t : TypeTerm) (place : Place) → TypeP t → TypeP (CollType k t place)
coll_type k t place h = kind_word k (print.in_round (print.type_of t)) (held_free (print.in_round (print.type_of t)) (in_round (print.type_of t) (held_free (print.type_of t) h)))

pub typed : (t : TypeTerm) → TypeP t → Closed (print.typed t)
typed t h = (refl, h)

pub typed_if : (t : Option TypeTerm) → IfThere TypeP t → Follows (print.typed_if t)
typed_if None h = refl
typed_if (Some t) h = (refl, h)

pub extent : (n : Option (List ℕ)) → IfThere IsName n → Follows (print.extent n)
extent None h = refl
extent (Some n) h = (refl, (h, refl, refl))

-- a variable before what stands anywhere
abbrev pub VariableP : ObjectVar → Type 0
VariableP (variables.Named n place) = IsName n
VariableP (variables.ResultVar place) = Unit {0}

pub variable : (v : Option ObjectVar) (ps : List PrintPiece) → IfThere VariableP v → Closed ps → Closed (print.variable v ++ ps)
variable None ps h k = k
variable (Some (variables.Named n place)) ps h k = (h, refl, (refl, k))
variable (Some (variables.ResultVar place)) ps h k = (refl, (refl, k))

pub named_if : (n : Option (List ℕ)) (ps : List PrintPiece) → IfThere IsName n → Closed ps → Closed (print.named_if n ++ ps)
named_if None ps h k = k
named_if (Some n) ps h k = (h, refl, (refl, k))

-- expressions
abbrev pub ExprP : ExprTerm → Type 0
ExprP e = Closed (print.expr e)

pub more_exprs : (es : List ExprTerm) → AllOf ExprP es → Follows (print.exprs true (exprs_of es))
more_exprs [] h = refl
more_exprs (e ∷ es) h = (refl, held_free (print.expr e ++ print.exprs true (exprs_of es)) (then_more (print.expr e) (print.exprs true (exprs_of es)) h.0 (more_exprs es h.1)))

pub exprs : (es : List ExprTerm) → AllOf ExprP es → Follows (print.exprs false (exprs_of es))
exprs [] h = refl
exprs (e ∷ es) h = held_free (print.expr e ++ print.exprs true (exprs_of es)) (then_more (print.expr e) (print.exprs true (exprs_of es)) h.0 (more_exprs es h.1))

pub args : (es : List ExprTerm) → AllOf ExprP es → Follows (print.in_round (print.exprs false (exprs_of es)))
args es h = held_free (print.in_round (print.exprs false (exprs_of es))) (in_round (print.exprs false (exprs_of es)) (exprs es h))

abbrev pub LinkP : LinkTerm → Type 0
LinkP l = (level : Level) → Follows (print.link level l)

pub link : (o : BinaryOp) (e : ExprTerm) (place : Place) → ExprP e → LinkP (LinkOf o e place)
link o e place h level = operator_sign o (print.round_if (is_as_loose level e) (print.expr e)) (round_if (is_as_loose level e) (print.expr e) h)

pub links : (level : Level) (ls : List LinkTerm) → AllOf LinkP ls → Follows (print.links level (links_of ls))
links level [] h = refl
links level (l ∷ ls) h = and_more (print.link level l) (print.links level (links_of ls)) (h.0 level) (links level ls h.1)

abbrev pub ItemP : ItemTerm → Type 0
ItemP i = Follows (print.item i)

abbrev pub RangeP : RangeTerm → Type 0
RangeP r = Follows (print.range r)

pub more_items : (is : List ItemTerm) → AllOf ItemP is → Follows (print.all_items true (items_of is))
more_items [] h = refl
more_items (i ∷ is) h = (refl, and_more (print.item i) (print.all_items true (items_of is)) h.0 (more_items is h.1))

pub items : (is : List ItemTerm) → AllOf ItemP is → Follows (print.all_items false (items_of is))
items [] h = refl
items (i ∷ is) h = and_more (print.item i) (print.all_items true (items_of is)) h.0 (more_items is h.1)

pub item : (e : ExprTerm) (r : RangeTerm) (place : Place) → ExprP e → RangeP r → ItemP (ItemOf e r place)
item e r place h k = and_more (print.expr e) (print.range r) (held_free (print.expr e) h) k

abbrev pub MapP : MapTerm → Type 0
MapP m = Closed (print.map_call m)

abbrev pub ResolveP : ResolveTerm → Type 0
ResolveP r = Closed (print.resolve r)

abbrev pub FilterP : FilterTerm → Type 0
FilterP f = Follows (print.filter f)

pub condition_if : (e : OptionalExpr) → Follows (print.optional e) → Follows (print.condition_if e)
condition_if NoExpr h = refl
condition_if (SomeExpr e) h = (refl, h)

pub filter : (n : Option (List ℕ)) (t : TypeTerm) (c : OptionalExpr) (place : Place) → IfThere IsName n → TypeP t → Follows (print.condition_if c) → FilterP (FilterOf n t c place)
filter n t c place h k j =
    held_free (print.named_if n ++ (print.type_of t ++ print.condition_if c))
    (named_if n (print.type_of t ++ print.condition_if c) h (then_more (print.type_of t) (print.condition_if c) k j))

pub resolved : (p : Option PathTree) (f : FilterTerm) → IfThere PathP p → FilterP f → Follows (print.resolved p f)
resolved None NoFilter h k = refl
resolved None (FilterOf n t c place) h k = k
resolved (Some p) NoFilter h k = held_free (print.path p) h
resolved (Some p) (FilterOf n t c place) h k =
    and_more (print.path p) (Plain class.Comma ∷ print.filter (FilterOf n t c place)) (held_free (print.path p) h) (refl, k)

pub resolve_call : (late : Bool) (w : ResolveWord) (p : Option PathTree) (f : FilterTerm) (place : Place) → IfThere PathP p → FilterP f → ResolveP (ResolveOf late w p f place)
resolve_call late w p f place h k =
    let inside = print.resolved p f in
    late_if late (Plain (words.resolve_word w) ∷ print.in_round inside) (resolve_word w (print.in_round inside) (held_free (print.in_round inside) (in_round inside (resolved p f h k))))

-- steps
abbrev pub StepP : StepTerm → Type 0
StepP s = Follows (print.step s)

pub steps : (ss : List StepTerm) → AllOf StepP ss → Follows (print.steps (steps_of ss))
steps [] h = refl
steps (s ∷ ss) h = and_more (print.step s) (print.steps (steps_of ss)) h.0 (steps ss h.1)

abbrev pub TargetP : TargetTerm → Type 0
TargetP t = Closed (print.target t)

abbrev pub AccumulatorP : AccumulatorTerm → Type 0
AccumulatorP a = Follows (print.accumulator a)

pub accumulator : (n : List ℕ) (t : TypeTerm) (e : ExprTerm) (place : Place) → IsName n → TypeP t → ExprP e → AccumulatorP (AccumulatorOf n t e place)
accumulator n t e place h k j = (refl, (h, refl, (refl, then_more (print.type_of t) (Plain class.EqualSign ∷ print.expr e) k (refl, held_free (print.expr e) j))))

-- statements
abbrev pub StmtP : StmtTerm → Type 0
StmtP s = Follows (print.stmt s)

pub stmts : (ss : List StmtTerm) → AllOf StmtP ss → Follows (print.stmts (stmts_of ss))
stmts [] h = refl
stmts (s ∷ ss) h = and_more (print.stmt s) (print.stmts (stmts_of ss)) h.0 (stmts ss h.1)

pub block : (ss : List StmtTerm) → AllOf StmtP ss → Follows (print.block (stmts_of ss))
block ss h = held_free (print.block (stmts_of ss)) (in_block (print.stmts (stmts_of ss)) (stmts ss h))

abbrev pub ArmP : ArmTerm → Type 0
ArmP a = Follows (print.arm a)

pub arms : (as_ : List ArmTerm) → AllOf ArmP as_ → Follows (print.arms (arms_of as_))
arms [] h = refl
arms (a ∷ as_) h = and_more (print.arm a) (print.arms (arms_of as_)) h.0 (arms as_ h.1)
