-- How expressions and their parts are printed, by how they are read: in brackets where they are read in brackets.
use Rattle.std.proofs.Common.{◌≡◌, ℕ, suc, List, [], ◌∷◌, ◌++◌, Bool, true, false, ◌&&◌, inl, inr, refl, sym, ap, ◌∙◌, subst, append_assoc, append-nil, Option, Some, None, IsTrue, arith, nat_le, leb-true, le-leb}
use Rattle.qvt_base.specs.declared.numbers.Place.{Place}
use Rattle.qvt_tree_types.specs.Tree.{TypeTerm, ExprTerm, ChainExpr, PrefixExpr, PostExpr, LinkTerm, RangeTerm, FilterTerm, NoFilter, FilterOf, AccumulatorTerm, HeadTerm, StepTerm, StepTerms, NoSteps, MoreSteps}
use Rattle.qvt_tree_types.specs.View.{exprs_of, links_of, steps_of, optional_expr, optional_range, optional_filter, optional_args, optional_accumulator}
use Rattle.qvt_tree_types.specs.declared.types.PathTree.{PathTree}
use Rattle.qvt_tree_types.specs.declared.types.ObjectVar.{ObjectVar}
use Rattle.qvt_tree_types.specs.declared.types.ObjectVar.TheVariants as variables
use Rattle.qvt_tree_types.specs.declared.words.BinaryOp.{BinaryOp}
use Rattle.qvt_tree_types.specs.declared.words.BinaryOp.TheVariants as operation
use Rattle.qvt_tree_types.specs.declared.words.CollKind.{CollKind}
use Rattle.qvt_tree_types.specs.declared.words.CollKind.TheVariants as kind
use Rattle.qvt_tree_types.specs.declared.words.Level.{Level}
use Rattle.qvt_tree_types.specs.declared.words.Level.TheVariants as levels
use Rattle.qvt_tree_types.specs.declared.words.PrefixOp.{PrefixOp}
use Rattle.qvt_tree_types.specs.declared.words.PrefixOp.TheVariants as prefixes
use Rattle.qvt_tree_types.specs.declared.words.ResolveWord.{ResolveWord}
use Rattle.qvt_tree_types.specs.declared.words.ResolveWord.TheVariants as resolve
use Rattle.qvt_tree_types.specs.declared.words.Sign.{Sign}
use Rattle.qvt_language.specs.Tokens.{Tok}
use Rattle.qvt_language.specs.Trees.{more_steps as join_steps, stepped, post_of, signed}
use Rattle.qvt_language.specs.declared.class.Class.{Class}
use Rattle.qvt_language.specs.declared.class.Class.TheVariants as class
use Rattle.qvt_language.specs.declared.named.Named.{Named}
use Rattle.qvt_language_rows.specs.Values.{name_text, signed_of, chained, or_no_args}
use Rattle.qvt_language_rows.proofs.Every.{operators}
use Rattle.qvt_printer.specs.Expressions as print
use Rattle.qvt_printer.specs.Levels.{is_as_loose, is_chain, is_chain_or_prefix, tightness}
use Rattle.qvt_printer_layout.specs.Words as words
use Rattle.qvt_printer_layout.specs.declared.piece.PrintPiece.{PrintPiece}
use Rattle.qvt_printer_layout.specs.declared.piece.PrintPiece.TheVariants as piece
use Rattle.qvt_readback_depth.proofs.Runs.{AllStill}
use Rattle.qvt_readback_depth.proofs.Pieces.{pc, Cut, IsTok, same, both_cuts, first_two, PStrong, POver, strong_at, over_at, ender_at, as_over, is_still, is_word, Quiet, WordTok, quiet_nil, quiet_none, quiet_tok, quiet_at, quiet_of, pieces_of, no_pieces, keep, skip, word_tok, word_at, word_on, in_brackets, if_whole, ender_last, round_is}
use Rattle.qvt_readback_depth.proofs.Claims.{After, Before, Between, Perhaps, Many, Series, OneOf, lacking_classes}

-- words and signs
abbrev pub are_words : List Class → Bool
are_words [] = true
are_words (c ∷ cs) = is_word c && are_words cs

and_left : (x y : Bool) → IsTrue (x && y) → IsTrue x
and_left true y h = refl
and_left false y h = h

and_right : (x y : Bool) → IsTrue (x && y) → IsTrue y
and_right true y h = h
and_right false y h = absurd cc

pub a_word : (cs : List Class) {ts : List Tok} → IsTrue (are_words cs) → OneOf cs ts → WordTok ts
a_word [] w h = absurd h
a_word (c ∷ []) w h = word_tok (and_left (is_word c) true w) h
a_word (c ∷ d ∷ cs) w (inl h) = word_tok (and_left (is_word c) (are_words (d ∷ cs)) w) h
a_word (c ∷ d ∷ cs) w (inr h) = a_word (d ∷ cs) (and_right (is_word c) (are_words (d ∷ cs)) w) h

pub operators_are : (level : Level) → IsTrue (are_words (operators level)) × IsTrue (lacking_classes (operators level) && true)
operators_are levels.Product = (refl, refl)
operators_are levels.Sum = (refl, refl)
operators_are levels.Relation = (refl, refl)
operators_are levels.Equality = (refl, refl)
operators_are levels.And = (refl, refl)
operators_are levels.Or = (refl, refl)
operators_are levels.Xor = (refl, refl)
operators_are levels.Implies = (refl, refl)

word_operator : (op : BinaryOp) → IsTrue (is_word (words.operator_sign op))
word_operator operation.Implies = refl
word_operator operation.Xor = refl
word_operator operation.Or = refl
word_operator operation.And = refl
word_operator operation.Equal = refl
word_operator operation.NotEqual = refl
word_operator operation.Less = refl
word_operator operation.LessEqual = refl
word_operator operation.Greater = refl
word_operator operation.GreaterEqual = refl
word_operator operation.Plus = refl
word_operator operation.Minus = refl
word_operator operation.Times = refl

word_sign : (p : PrefixOp) → IsTrue (is_word (words.prefix_sign p))
word_sign prefixes.Not = refl
word_sign prefixes.Minus = refl

pub still_kind : (k : CollKind) → AllStill (pc (print.one (words.kind_word k)))
still_kind kind.Set = ((λ f s. refl), tt)
still_kind kind.Bag = ((λ f s. refl), tt)
still_kind kind.Sequence = ((λ f s. refl), tt)
still_kind kind.OrderedSet = ((λ f s. refl), tt)

pub still_resolve : (w : ResolveWord) → AllStill (pc (print.one (words.resolve_word w)))
still_resolve resolve.Resolve = ((λ f s. refl), tt)
still_resolve resolve.ResolveOne = ((λ f s. refl), tt)
still_resolve resolve.InvResolve = ((λ f s. refl), tt)
still_resolve resolve.InvResolveOne = ((λ f s. refl), tt)
still_resolve resolve.ResolveIn = ((λ f s. refl), tt)
still_resolve resolve.ResolveOneIn = ((λ f s. refl), tt)
still_resolve resolve.InvResolveIn = ((λ f s. refl), tt)
still_resolve resolve.InvResolveOneIn = ((λ f s. refl), tt)

pub still_map : (b : Bool) → AllStill (pc (print.one (words.map_word b)))
still_map true = ((λ f s. refl), tt)
still_map false = ((λ f s. refl), tt)

pub still_late : (b : Bool) → AllStill (pc (print.late_if b))
still_late true = ((λ f s. refl), tt)
still_late false = tt

still_more : (ns : List (List ℕ)) → AllStill (pc (print.more_names ns))
still_more [] = tt
still_more (n ∷ ns) = ((λ f s. refl), ((λ f s. refl), still_more ns))

pub still_names : (ns : List (List ℕ)) → AllStill (pc (print.names ns))
still_names [] = tt
still_names (n ∷ ns) = ((λ f s. refl), still_more ns)

pub still_extent : (n : Option (List ℕ)) → AllStill (pc (print.extent n))
still_extent None = tt
still_extent (Some n) = ((λ f s. refl), ((λ f s. refl), tt))

pub still_variable : (v : Option ObjectVar) → AllStill (pc (print.variable v))
still_variable None = tt
still_variable (Some (variables.Named n place)) = ((λ f s. refl), ((λ f s. refl), tt))
still_variable (Some (variables.ResultVar place)) = ((λ f s. refl), ((λ f s. refl), tt))

pub still_named : (n : Option Named) → AllStill (pc (print.named_if (name_text n)))
still_named None = tt
still_named (Some n) = ((λ f s. refl), ((λ f s. refl), tt))

-- tokens that open and close nothing
abbrev pub Silent : {A : Type 0} → List Tok → A → Type 0
Silent ts a = Quiet ts

module _ (c : Class) (w : IsTrue (is_still c)) where
  pub quiet_after : {A : Type 0} {ts : List Tok} (a : A) → After c Silent ts a → Quiet ts
  quiet_after a h = quiet_at h.2 (quiet_tok w h.3) h.4

  pub after_if : {A : Type 0} {ts : List Tok} (a : Option A) → Perhaps (After c Silent) ts a → Quiet ts
  after_if None e = quiet_none e
  after_if (Some a) h = quiet_after a h

  pub before_if : {A : Type 0} {ts : List Tok} (a : Option A) → Perhaps (Before Silent c) ts a → Quiet ts
  before_if None e = quiet_none e
  before_if (Some a) h = quiet_at h.2 h.3 (quiet_tok w h.4)

  pub token_if : {ts : List Tok} (t : Option Tok) → Perhaps (λ us t. IsTok c us) ts t → Quiet ts
  token_if None e = quiet_none e
  token_if (Some t) h = quiet_tok w h

  pub after_each : {A : Type 0} (more : List A) {ts : List Tok} → Many (After c Silent) ts more → Quiet ts
  after_each [] e = quiet_none e
  after_each (a ∷ more) k = quiet_at k.2 (quiet_after a k.3) (after_each more k.4)

pub quiet_series : {A : Type 0} {ts : List Tok} (all : List A) → Series Silent ts all → Quiet ts
quiet_series [] e = quiet_none e
quiet_series (a ∷ more) k = quiet_at k.2 k.3 (after_each class.Comma refl more k.4)

pub name_is : (n : List ℕ) {ts : List Tok} → Quiet ts → PStrong (piece.Name n ∷ []) ts
name_is n h = pieces_of (piece.Name n ∷ []) refl h

pub path_is : (p : PathTree) {ts : List Tok} → Quiet ts → PStrong (print.path p) ts
path_is p h = quiet_of (print.path p) (still_names p.names) h

pub extent_is : (n : Option (List ℕ)) {ts : List Tok} → Perhaps (After class.AtSign Silent) ts n → PStrong (print.extent n) ts
extent_is n h = quiet_of (print.extent n) (still_extent n) (after_if class.AtSign refl n h)

-- pieces that open and close nothing, before the rest
pub led : (ps : List PrintPiece) {qs : List PrintPiece} {ts : List Tok} → AllStill (pc ps) → PStrong qs ts → PStrong (ps ++ qs) ts
led ps h k = strong_at (same {u = []}) (quiet_of ps h quiet_nil) k

pub only : {ts u v : List Tok} → Cut ts u v → v ≡ [] → u ≡ ts
only {ts} {u} e g = sym (e.is ∙ ap (λ z. u ++ z) g ∙ append-nil u)

-- parts one after the other, and with commas between them
module _ {A : Type 0} (f : A → List PrintPiece) (fs : List A → List PrintPiece) (none : fs [] ≡ []) (more : (a : A) (as_ : List A) → fs (a ∷ as_) ≡ f a ++ fs as_) where
  pub many_are : (as_ : List A) {ts : List Tok} → Many (λ us a. PStrong (f a) us) ts as_ → PStrong (fs as_) ts
  many_are [] {ts} h = subst (λ z. PStrong z ts) (sym none) (no_pieces h)
  many_are (a ∷ as_) {ts} h = subst (λ z. PStrong z ts) (sym (more a as_)) (strong_at h.2 h.3 (many_are as_ h.4))

module _ {A : Type 0} (f : A → List PrintPiece) (all later : List A → List PrintPiece) (none : all [] ≡ []) (first : (a : A) (as_ : List A) → all (a ∷ as_) ≡ f a ++ later as_) (no_more : later [] ≡ [])
    (more : (a : A) (as_ : List A) → later (a ∷ as_) ≡ piece.Plain class.Comma ∷ (f a ++ later as_)) where
  later_are : (as_ : List A) {ts : List Tok} → Many (After class.Comma (λ us a. POver (f a) us)) ts as_ → PStrong (later as_) ts
  later_are [] {ts} h = subst (λ z. PStrong z ts) (sym no_more) (no_pieces h)
  later_are (a ∷ as_) {ts} h = subst (λ z. PStrong z ts) (sym (more a as_)) (strong_at h.2 (word_on {c = class.Comma} refl h.3.2 h.3.3 h.3.4) (later_are as_ h.4))

  pub series_are : {ts : List Tok} (as_ : List A) → Series (λ us a. POver (f a) us) ts as_ → POver (all as_) ts
  series_are {ts} [] h = subst (λ z. POver z ts) (sym none) (as_over (no_pieces h))
  series_are {ts} (a ∷ as_) h = subst (λ z. POver z ts) (sym (first a as_)) (over_at h.2 h.3 (later_are as_ h.4))

abbrev pub Printed : {A : Type 0} → (A → List PrintPiece) → List Tok → A → Type 0
Printed f ts a = PStrong (f a) ts

abbrev pub Opening : {A : Type 0} → (A → List PrintPiece) → List Tok → A → Type 0
Opening f ts a = POver (f a) ts

-- types
pub colon_is : {ts : List Tok} (t : TypeTerm) → After class.Colon (Printed print.type_of) ts t → PStrong (print.typed t) ts
colon_is t h = keep {c = class.Colon} refl h.2 h.3 h.4

pub colon_if : {ts : List Tok} (t : Option TypeTerm) → Perhaps (After class.Colon (Printed print.type_of)) ts t → PStrong (print.typed_if t) ts
colon_if None h = no_pieces h
colon_if (Some t) h = colon_is t h

-- an expression that is printed in brackets only where it is read in brackets
pub record ExprIs (test : ExprTerm → Bool) (ts : List Tok) (e : ExprTerm) : Type 0 where
  pub plain : POver (print.expr e) ts
  pub round : IsTrue (test e) → POver (print.in_round (print.expr e)) ts

pub clash : {X : Type 0} → false ≡ true → X
clash h = absurd (let k : false ≡ true = h in cc)

pub not_both : (b : Bool) → b ≡ false → IsTrue b → {X : Type 0} → X
not_both true e h = clash (sym e)
not_both false e h = clash h

pub in_place : (test : ExprTerm → Bool) {ts : List Tok} (e : ExprTerm) → ExprIs test ts e → POver (print.round_if (test e) (print.expr e)) ts
in_place test e h = round_is (test e) h.round h.plain

pub weaker : {p q : ExprTerm → Bool} {ts : List Tok} (e : ExprTerm) → (IsTrue (q e) → IsTrue (p e)) → ExprIs p ts e → ExprIs q ts e
weaker e k h = record { plain = h.plain; round = λ t. h.round (k t) }

pub exprs_are : {ts : List Tok} (es : List ExprTerm) → Series (Opening print.expr) ts es → POver (print.exprs false (exprs_of es)) ts
exprs_are es h = series_are print.expr (λ as_. print.exprs false (exprs_of as_)) (λ as_. print.exprs true (exprs_of as_)) refl (λ a as_. refl) refl (λ a as_. refl) es h

abbrev pub Args : List Tok → List ExprTerm → Type 0
Args = Between class.OpenRound (Series (Opening print.expr)) class.CloseRound

pub args_are : {ts : List Tok} (es : List ExprTerm) → Args ts es → PStrong (print.in_round (print.exprs false (exprs_of es))) ts
args_are es h = in_brackets h.3 h.4 (exprs_are es h.5) h.6

pub args_if : {ts : List Tok} (es : Option (List ExprTerm)) → Perhaps Args ts es → PStrong (print.args_if (optional_args es)) ts
args_if None h = no_pieces h
args_if (Some es) h = args_are es h

pub bar_if : {ts : List Tok} (e : Option ExprTerm) → Perhaps (After class.Bar (Opening print.expr)) ts e → PStrong (print.condition_if (optional_expr e)) ts
bar_if None h = no_pieces h
bar_if (Some e) h = word_on {c = class.Bar} refl h.2 h.3 h.4

pub range_if : {ts : List Tok} (r : Option RangeTerm) → Perhaps (Printed print.range) ts r → PStrong (print.range (optional_range r)) ts
range_if None h = no_pieces h
range_if (Some r) h = h

-- a conditional
pub conditional_is : {ts u v x y : List Tok} (c one other : ExprTerm) → Cut ts u v → IsTok class.IfWord u → Cut v x y → POver (print.expr c) x
    → (p : List Tok) × (q : List Tok) × Cut y p q × After class.ThenWord (Opening print.expr) p one × Between class.ElseWord (Opening print.expr) class.EndifWord q other
    → POver (print.conditional (print.expr c) (print.expr one) (print.expr other)) ts
conditional_is {ts} {u} c one other e w g h (p, q, f, k, j) =
    let last = ender_at (first_two j.3) (word_on {c = class.ElseWord} refl same j.4 j.5) (ender_last j.6) in
    if_whole (both_cuts e g) w h (ender_at f (word_on {c = class.ThenWord} refl k.2 k.3 k.4) last)

-- the filter of a resolve
pub all_is : {ts : List Tok} (f : FilterTerm) → PStrong (print.filter f) ts → PStrong (print.resolved None f) ts
all_is NoFilter h = h
all_is (FilterOf n t c p) h = h

pub in_is : (u v : List Tok) (p : PathTree) (f : Option FilterTerm) → Quiet u → Perhaps (After class.Comma (Printed print.filter)) v f → PStrong (print.resolved (Some p) (optional_filter f)) (u ++ v)
in_is u v p None h k = subst (λ z. PStrong z (u ++ v)) (append-nil (print.path p)) (strong_at same (path_is p h) (no_pieces k))
in_is u v p (Some NoFilter) h k = subst (λ z. PStrong z (u ++ v)) (append-nil (print.path p)) (strong_at same (path_is p h) (skip {c = class.Comma} refl k.2 k.3 k.4))
in_is u v p (Some (FilterOf n t c place)) h k = strong_at same (path_is p h) (keep {c = class.Comma} refl k.2 k.3 k.4)

-- the arguments of an arrow
abbrev pub arrow_pieces : HeadTerm × List ExprTerm → List PrintPiece
arrow_pieces a = print.head a.0 ++ print.exprs false (exprs_of a.1)

pub accumulator_if : {ts : List Tok} (a : Option AccumulatorTerm) → Perhaps (Printed print.accumulator) ts a → PStrong (print.accumulator (optional_accumulator a)) ts
accumulator_if None h = no_pieces h
accumulator_if (Some a) h = h

after_name : (t a e : List PrintPiece) → (t ++ a) ++ (piece.Plain class.Bar ∷ e) ≡ (t ++ (a ++ print.one class.Bar)) ++ (e ++ [])
after_name t a e =
    append_assoc t a (piece.Plain class.Bar ∷ e) ∙ ap (λ z. t ++ (a ++ (piece.Plain class.Bar ∷ z))) (sym (append-nil e))
    ∙ ap (λ z. t ++ z) (sym (append_assoc a (print.one class.Bar) (e ++ []))) ∙ sym (append_assoc t (a ++ print.one class.Bar) (e ++ []))

pub headed_is : {ts u v : List Tok} (n t a e : List PrintPiece) → Cut ts u v → PStrong (n ++ (t ++ a)) u → PStrong (piece.Plain class.Bar ∷ e) v → POver ((n ++ (t ++ (a ++ print.one class.Bar))) ++ (e ++ [])) ts
headed_is {ts} n t a e g h k =
    as_over (subst (λ z. PStrong z ts) (append_assoc n (t ++ a) (piece.Plain class.Bar ∷ e) ∙ ap (λ z. n ++ z) (after_name t a e) ∙ sym (append_assoc n (t ++ (a ++ print.one class.Bar)) (e ++ []))) (strong_at g h k))

pub or_none_are : {ts : List Tok} (a : Option (HeadTerm × List ExprTerm)) → Perhaps (Opening arrow_pieces) ts a → POver (arrow_pieces (or_no_args a)) ts
or_none_are None h = as_over (no_pieces h)
or_none_are (Some a) h = h

-- what steps make of an expression
print_more : (old : StepTerms) (ss : List StepTerm) → print.steps (join_steps old ss) ≡ print.steps old ++ print.steps (steps_of ss)
print_more NoSteps ss = refl
print_more (MoreSteps s old) ss = ap (λ z. print.step s ++ z) (print_more old ss) ∙ sym (append_assoc (print.step s) (print.steps old) (print.steps (steps_of ss)))

stepped_expr : (place : Place) (e : ExprTerm) (ss : List StepTerm) → print.expr (stepped place e ss) ≡ print.post_first e ++ print.steps (steps_of ss)
stepped_expr place (PostExpr e old p) ss = ap (λ z. print.round_if (is_chain_or_prefix e) (print.expr e) ++ z) (print_more old ss) ∙ sym (append_assoc (print.round_if (is_chain_or_prefix e) (print.expr e)) (print.steps old) (print.steps (steps_of ss)))
stepped_expr place _ ss = refl

stepped_test : (place : Place) (e : ExprTerm) (ss : List StepTerm) → is_chain_or_prefix (stepped place e ss) ≡ false
stepped_test place (PostExpr e old p) ss = refl
stepped_test place _ ss = refl

pub post_is : {ts u v : List Tok} (place : Place) (e : ExprTerm) (ss : List StepTerm) → Cut ts u v → ExprIs is_chain_or_prefix u e → Many (Printed print.step) v ss → ExprIs is_chain_or_prefix ts (post_of place e ss)
post_is place e [] g h k = subst (λ z. ExprIs is_chain_or_prefix z e) (only g k) h
post_is {ts} place e (s ∷ ss) g h k = record {
  plain = subst (λ z. POver z ts) (sym (stepped_expr place e (s ∷ ss))) (over_at g (in_place is_chain_or_prefix e h) (many_are print.step (λ as_. print.steps (steps_of as_)) refl (λ a as_. refl) (s ∷ ss) k));
  round = (λ t. not_both (is_chain_or_prefix (stepped place e (s ∷ ss))) (stepped_test place e (s ∷ ss)) t);
}

-- signs
signs_append : (ss old : List Sign) → print.signs (ss ++ old) ≡ print.signs ss ++ print.signs old
signs_append [] old = refl
signs_append (s ∷ ss) old = ap (λ z. piece.Plain (words.prefix_sign s.op) ∷ z) (signs_append ss old)

signed_expr : (place : Place) (ss : List Sign) (e : ExprTerm) → print.expr (signed place ss e) ≡ print.signs ss ++ print.prefixed e
signed_expr place ss (PrefixExpr old e p) = ap (λ z. z ++ print.prefixed e) (signs_append ss old) ∙ append_assoc (print.signs ss) (print.signs old) (print.prefixed e)
signed_expr place ss _ = refl

signed_test : (place : Place) (ss : List Sign) (e : ExprTerm) → is_as_loose levels.Product (signed place ss e) ≡ false
signed_test place ss (PrefixExpr old e p) = refl
signed_test place ss _ = refl

chain_loose : (e : ExprTerm) → IsTrue (is_as_loose levels.Product e) → IsTrue (is_chain_or_prefix e)
chain_loose (ChainExpr l e ls p) h = refl
chain_loose (PrefixExpr ss e p) h = refl
chain_loose _ h = clash h

is_chain_or : (e : ExprTerm) → IsTrue (is_chain e) → IsTrue (is_chain_or_prefix e)
is_chain_or (ChainExpr l e ls p) h = refl
is_chain_or _ h = clash h

signs_before : (ss : List Sign) (ps : List PrintPiece) {ts u v : List Tok} → Cut ts u v → Many (λ us s. WordTok us) u ss → POver ps v → POver (print.signs ss ++ ps) ts
signs_before [] ps {v = v} g k h = subst (λ z. POver ps z) (sym (g.is ∙ ap (λ z. z ++ v) k)) h
signs_before (s ∷ ss) ps {v = v} g k h =
    as_over (word_at (words.prefix_sign s.op) (word_sign s.op) (record { is = g.is ∙ ap (λ z. z ++ v) k.2.is ∙ append_assoc k.0 k.1 v }) k.3 (signs_before ss ps same k.4 h))

pub signed_is : {ts u v : List Tok} (a : Place × (List Sign × ExprTerm)) → Cut ts u v → Many (λ us s. WordTok us) u a.1.0 → ExprIs is_chain_or_prefix v a.1.1 → ExprIs (is_as_loose levels.Product) ts (signed_of a)
signed_is {v = v} (place, ([], e)) g k h = subst (λ z. ExprIs (is_as_loose levels.Product) z e) (sym (g.is ∙ ap (λ z. z ++ v) k)) (weaker {p = is_chain_or_prefix} e (chain_loose e) h)
signed_is {ts} (place, ((s ∷ ss), e)) g k h = record {
  plain = subst (λ z. POver z ts) (sym (signed_expr place (s ∷ ss) e)) (signs_before (s ∷ ss) (print.prefixed e) g k (in_place is_chain e (weaker {p = is_chain_or_prefix} e (is_chain_or e) h)));
  round = (λ t. not_both (is_as_loose levels.Product (signed place (s ∷ ss) e)) (signed_test place (s ∷ ss) e) t);
}

-- chains: one is printed in brackets where it is an operand of a tighter level, or of its own
abbrev pub is_looser : Level → ExprTerm → Bool
is_looser l (ChainExpr k first rest place) = nat_le (suc (tightness k)) (tightness l)
is_looser l e = false

looser_loose : (l : Level) (e : ExprTerm) → IsTrue (is_looser l e) → IsTrue (is_as_loose l e)
looser_loose l (ChainExpr k e ls p) h = le-leb (tightness k) (tightness l) (omega (arith, leb-true (suc (tightness k)) (tightness l) h))
looser_loose l _ h = clash h

own_level : (l : Level) (e : ExprTerm) (ls : List LinkTerm) (p : Place) → IsTrue (is_looser l (ChainExpr l e (links_of ls) p)) → {X : Type 0} → X
own_level l e ls p h = absurd (omega (arith, leb-true (suc (tightness l)) (tightness l) h))

loose_next : (l m : Level) → tightness l ≡ suc (tightness m) → (e : ExprTerm) → IsTrue (is_as_loose m e) → IsTrue (is_looser l e)
loose_next l m q (ChainExpr k e ls p) h = le-leb (suc (tightness k)) (tightness l) (omega (arith, q, leb-true (tightness k) (tightness m) h))
loose_next l m q _ h = clash h

pub next_is : {ts : List Tok} (l m : Level) (e : ExprTerm) → tightness l ≡ suc (tightness m) → ExprIs (is_looser l) ts e → ExprIs (is_as_loose m) ts e
next_is l m e q h = weaker {p = is_looser l} e (loose_next l m q e) h

pub link_is : {ts u v : List Tok} (level : Level) (op : BinaryOp) (e : ExprTerm) → Cut ts u v → OneOf (operators level) u → ExprIs (is_as_loose level) v e → PStrong (piece.Plain (words.operator_sign op) ∷ print.round_if (is_as_loose level e) (print.expr e)) ts
link_is level op e g k h = word_at (words.operator_sign op) (word_operator op) g (a_word (operators level) (operators_are level).0 k) (in_place (is_as_loose level) e h)

pub chain_is : {ts u v : List Tok} (level : Level) (a : Place × (ExprTerm × List LinkTerm)) → Cut ts u v → ExprIs (is_as_loose level) u a.1.0 → Many (Printed (print.link level)) v a.1.1 → ExprIs (is_looser level) ts (chained level a)
chain_is level (place, (e, [])) g h k = subst (λ z. ExprIs (is_looser level) z e) (only g k) (weaker {p = is_as_loose level} e (looser_loose level e) h)
chain_is level (place, (e, (l ∷ ls))) g h k = record {
  plain = over_at g (in_place (is_as_loose level) e h) (many_are (print.link level) (λ as_. print.links level (links_of as_)) refl (λ a as_. refl) (l ∷ ls) k);
  round = (λ t. own_level level e (l ∷ ls) place t);
}
