-- What is kept holds of statements that begin with an expression, and of blocks.
use Rattle.std.proofs.Common.{◌≡◌, ◌<◌, arith, ap, ◌∙◌, sym, ℕ, zero, suc, List, [], ◌∷◌, ◌++◌, Bool, true, false, inl, inr, refl, Option, Some, None, subst}
use Rattle.qvt_base.specs.declared.numbers.Place.{Place}
use Rattle.qvt_grammar.specs.Language.{Language, then, made}
use Rattle.qvt_grammar.proofs.Firsts.{Within}
use Rattle.qvt_grammar.proofs.Lists.{nil_right}
use Rattle.qvt_tree_types.specs.Tree.{ExprTerm, StepTerm, LinkTerm, StmtTerm}
use Rattle.qvt_tree_types.specs.declared.words.Sign.{Sign}
use Rattle.qvt_language.specs.Tokens.{Tok, of, code_of}
use Rattle.qvt_words.specs.declared.class.Class.TheVariants.{NotWord, MinusSign, OpenRound, Becomes, PlusEqual, Semicolon, Colon, OpenBrace, CloseBrace, IfWord, WhileWord, VarWord, ReturnWord}
use Rattle.qvt_language.specs.Readers.{Reader}
use Rattle.qvt_language.specs.Series.{series}
use Rattle.qvt_language.specs.Firsts.{expr_first, expr_next, post_next, primary_first, step_first, sign_first, stmt_first, assign_first}
use Rattle.qvt_language.specs.Levels.{next_at}
use Rattle.qvt_language.specs.Leads.{Lead, Plain, Bracketed, Each, EachPart}
use Rattle.qvt_language.specs.Trees.{nothing, each_lead, prefix_lead, chain_of}
use Rattle.qvt_language.specs.StmtTrees.{TurnTree, Tail, empty_turn, closed_turn, simple_turn, no_tail, plain_tail, lead_turn, ended_of, block_of}
use Rattle.qvt_language.specs.Grammar.{NestedLanguages, signed_post, lead_step, lead_post, lead_pre, lead, level_of, links, chain}
use Rattle.qvt_language.specs.Reading.{NestedAt, signed_post_at, lead_post_at, lead_pre_at, lead_at, operators, links_at, chain_at}
use Rattle.qvt_language.specs.Statements.{semicolon, lead_tail, lead_stmt, statement, statements, block}
use Rattle.qvt_language.specs.ReadingStatements.{semicolon_at, lead_tail_at, lead_stmt_at, statement_at, statements_at, block_at}
use Rattle.qvt_grammar.specs.Reader.{then_at, made_at}
use Rattle.qvt_language.proofs.Sets.{all_in, none_in, within, within_left, within_right, within_both}
use Rattle.qvt_language.proofs.Every.{optional_next, ended_next, turn_next, solid, loose, fits, Keeping, Valuing, Forms, Inside}
use Rattle.qvt_language.proofs.EveryExprs.{k_other_primary, k_signs, k_post, k_pre}
use Rattle.qvt_language.proofs.EveryTower.{apart_operators, KeptAt, k_operator, k_links, k_chain}
use Rattle.qvt_language.proofs.EveryStmts.{opens, v_lead_step, item_next, k_if_stmt, k_while_stmt, k_var_stmt, k_return_stmt, k_assignment}

-- with what a statement begins that begins with an expression
abbrev lead_first : List ℕ
lead_first = code_of NotWord ∷ code_of MinusSign ∷ primary_first

-- after an expression at the front of a statement what goes on after k levels may go on, after a `forEach` nothing
abbrev pub lead_next : ℕ → Lead → List ℕ
lead_next k (Plain e target) = next_at k
lead_next k (Bracketed e) = next_at k
lead_next k (Each e part) = []

abbrev steps_next : (ExprTerm × Bool) × (List StepTerm × Option EachPart) → List ℕ
steps_next x = ended_next post_next [] x.1

post_sides : (x : Place × ((ExprTerm × Bool) × (List StepTerm × Option EachPart))) → Within (of (steps_next x.1)) (of (lead_next zero (each_lead x)))
post_sides (place, ((e, true), ([], None))) t h = h
post_sides (place, ((e, false), ([], None))) t h = h
post_sides (place, (x, ((s ∷ ss), None))) t h = h
post_sides (place, (x, (steps, (Some part)))) t h = absurd cc

over_steps : (p : ExprTerm × Bool) (b : List StepTerm × Option EachPart) → Within (of (ended_next (step_first ++ opens) [] b)) (of (steps_next (p, b)))
over_steps p (steps, None) = within (step_first ++ opens) post_next refl
over_steps p (steps, (Some part)) = λ t h. h

signed_sides : (x : Place × ((Sign × List Sign) × Lead)) → Within (of post_next) (of (lead_next zero (prefix_lead x)))
signed_sides (place, ((s, more), x)) t h = h

no_last : (i : NestedLanguages) (part : EachPart) → (lead_step i).reads [] (inr part) → ⊥
unfolding lead_step
no_last i part (inl rd) = let k = rd.2 in cc
no_last i part (inr (x, (u, v, e, a, rd), q)) = let k : [] ≡ x.0 ∷ v = e ∙ ap (λ z. z ++ v) a.0 in cc

no_steps : (i : NestedLanguages) (p : ExprTerm × Bool) (b : List StepTerm × Option EachPart) → (series (lead_step i)).reads [] b → Within (of (code_of OpenRound ∷ 10 ∷ [])) (of (steps_next (p, b)))
no_steps i p (steps, None) rd = within (code_of OpenRound ∷ 10 ∷ []) post_next refl
no_steps i p (steps, (Some part)) rd = absurd (no_last i part (subst (λ z. (lead_step i).reads z (inr part)) (nil_right rd.0 rd.1 rd.2) rd.4))

module _ {K KB : Keeping} {KV : Valuing} {F : Forms K KB KV} {i j : NestedLanguages} {r : NestedAt} (h : Inside F i j r) where
  pub v_lead_post : KV _ (solid primary_first (lead_next zero)) (lead_post i) (lead_post j) (lead_post_at r)
  unfolding lead_post lead_post_at
  v_lead_post = F.value_gives each_lead (lead_next zero) post_sides (F.value_at (F.value_depending steps_next (F.valued (F.wider {t = solid primary_first (code_of OpenRound ∷ 10 ∷ [])} (fits refl) (k_other_primary h)))
      (λ _. F.turns_of step_first opens [] refl refl (v_lead_step h)) (λ _. refl) (no_steps i) over_steps))

  v_signed : KV _ (solid (25 ∷ 62 ∷ []) (lead_next zero)) (signed_post i) (signed_post j) (signed_post_at r)
  unfolding signed_post signed_post_at
  v_signed = F.value_gives prefix_lead (lead_next zero) signed_sides (F.valued (F.at (F.both (k_signs F) (F.wider {t = solid (42 ∷ primary_first) post_next} (fits refl) (k_post h)) refl)))

  pub v_lead_pre : KV _ (solid lead_first (lead_next zero)) (lead_pre i) (lead_pre j) (lead_pre_at r)
  unfolding lead_pre lead_pre_at
  v_lead_pre = F.value_wider lead_first refl (F.value_one_of sign_first v_signed v_lead_post refl refl)

-- chains

abbrev pair_next : ℕ → Lead × List LinkTerm → List ℕ
pair_next k xl = lead_next (suc k) xl.0

abbrev links_next : ℕ → Lead → List LinkTerm → List ℕ
links_next k x ls = lead_next (suc k) x

chain_sides : (k : ℕ) (x : Place × (Lead × List LinkTerm)) → Within (of (pair_next k x.1)) (of (lead_next (suc k) (chain_of (level_of k) x)))
chain_sides k (place, (x, [])) t h = h
chain_sides k (place, ((Plain e target), (l ∷ ls))) t h = h
chain_sides k (place, ((Bracketed e), (l ∷ ls))) t h = h
chain_sides k (place, ((Each e part), (l ∷ ls))) t h = absurd cc

apart_links : (k : ℕ) (x : Lead) → none_in (lead_next k x) (operators k) ≡ true
apart_links k (Plain e target) = apart_operators k
apart_links k (Bracketed e) = apart_operators k
apart_links k (Each e part) = refl

over_links : (k : ℕ) (x : Lead) → Within (of (lead_next k x)) (of (lead_next (suc k) x))
over_links k (Plain e target) = within_right (operators k) (next_at k)
over_links k (Bracketed e) = within_right (operators k) (next_at k)
over_links k (Each e part) = λ t h. h

module _ {K KB : Keeping} {KV : Valuing} (F : Forms K KB KV) where
  v_links : (k : ℕ) → KeptAt F k → {l l2 : Language Tok Lead} {f : Reader Lead} → K _ (solid expr_first (next_at k)) l l2 f → (x : Lead) → KV _ (loose (operators k) (links_next k x)) (links k l x) (links k l2 x) (links_at k f x)
  v_links k o h (Plain e target) = F.valued (k_links F k o h (Plain e target))
  v_links k o h (Bracketed e) = F.valued (k_links F k o h (Bracketed e))
  v_links k o h (Each e part) = F.valued (F.wider {t = loose (operators k) []} (fits refl) (F.gives nothing F.no_token))

  v_chain : (k : ℕ) → ((n : ℕ) → n < k → KeptAt F n) → (first : List ℕ) {p p2 q q2 : Language Tok Lead} {f g : Reader Lead} → KV _ (solid first (lead_next zero)) p p2 f → K _ (solid expr_first post_next) q q2 g
      → KV _ (solid first (lead_next k)) (chain k p q) (chain k p2 q2) (chain_at k f g)
  unfolding chain chain_at
  v_chain zero o first hp hq = hp
  v_chain (suc k) o first hp hq =
      let lower : (n : ℕ) → n < k → KeptAt F n = λ n lt. o n (omega (arith, lt)) in
      F.value_gives (chain_of (level_of k)) (lead_next (suc k)) (chain_sides k) (F.value_at (F.value_depending (pair_next k) (v_chain k lower first hp hq) (v_links k (o k (omega arith)) (k_chain F k lower expr_first hq hq)) (apart_links k)
      (λ x ls rd. over_links k x) (λ x ls t q. q)))

pub v_lead : {K KB : Keeping} {KV : Valuing} {F : Forms K KB KV} {i j : NestedLanguages} {r : NestedAt} → Inside F i j r → KV _ (solid lead_first (lead_next 8)) (lead i) (lead j) (lead_at r)
unfolding lead lead_at
v_lead {F = F} h = v_chain F 8 (k_operator F) lead_first (v_lead_pre h) (F.wider {t = solid expr_first post_next} (fits refl) (k_pre h))

-- statements

abbrev semi : List ℕ
semi = code_of Semicolon ∷ []

abbrev semi_next : Option Tok → List ℕ
semi_next = optional_next semi []

v_semicolon : {K KB : Keeping} {KV : Valuing} (F : Forms K KB KV) → KV _ (loose semi semi_next) semicolon semicolon semicolon_at
unfolding semicolon semicolon_at
v_semicolon F = F.value_perhaps semi refl (F.token Semicolon)

no_semicolon : (t : Tok) → semicolon.reads [] (Some t) → ⊥
unfolding semicolon
no_semicolon t (inl rd) = let k = rd.1.0 in cc
no_semicolon t (inr rd) = let k = rd.2 in cc

-- what may go on after an expression at the front of a statement, and after its assignment
abbrev tail_more : List ℕ
tail_more = code_of Becomes ∷ code_of PlusEqual ∷ code_of Semicolon ∷ expr_next

abbrev tail_next : Tail → List ℕ
tail_next (a, None) = tail_more
tail_next (a, (Some t)) = []

abbrev lead_tail_next : Lead → Tail → List ℕ
lead_tail_next (Plain e target) tail = tail_next tail
lead_tail_next (Bracketed e) tail = tail_next tail
lead_tail_next (Each e part) tail = []

plain_sides : (t : Option Tok) → Within (of (semi_next t)) (of (tail_next (plain_tail t)))
plain_sides None = within semi tail_more refl
plain_sides (Some t) = λ x h. h

no_sides : (e : ExprTerm) (p : EachPart) (x : Unit {0}) → Within (of []) (of (lead_tail_next (Each e p) (no_tail x)))
no_sides e p x t h = h

assigned_over : (a : Option (Tok × ExprTerm)) (t : Option Tok) → semicolon.reads [] t → Within (of (code_of Becomes ∷ code_of PlusEqual ∷ expr_next)) (of (tail_next (a, t)))
assigned_over a None rd = within (code_of Becomes ∷ code_of PlusEqual ∷ expr_next) tail_more refl
assigned_over a (Some t) rd = absurd (no_semicolon t rd)

assigned_sides : (a : Option (Tok × ExprTerm)) (t : Option Tok) → Within (of (semi_next t)) (of (tail_next (a, t)))
assigned_sides a None = within semi tail_more refl
assigned_sides a (Some t) = λ x h. h

abbrev tail_first : List ℕ
tail_first = code_of Becomes ∷ code_of PlusEqual ∷ code_of Semicolon ∷ []

v_tail : {K KB : Keeping} {KV : Valuing} {F : Forms K KB KV} {i j : NestedLanguages} {r : NestedAt} → Inside F i j r → (x : Lead) → KV _ (loose tail_first (lead_tail_next x)) (lead_tail i x) (lead_tail j x) (lead_tail_at r x)
v_tail {F = F} h (Plain e None) = F.value_wider tail_first refl (F.value_gives plain_tail tail_next plain_sides (v_semicolon F))
v_tail {F = F} h (Bracketed e) = F.value_wider tail_first refl (F.value_gives plain_tail tail_next plain_sides (v_semicolon F))
v_tail {F = F} h (Plain e (Some target)) = F.value_wider tail_first refl (F.value_both tail_next
    (F.valued (F.wider {t = loose (code_of Becomes ∷ code_of PlusEqual ∷ []) (code_of Becomes ∷ code_of PlusEqual ∷ expr_next)} (fits refl) (F.perhaps assign_first refl (k_assignment h)))) (v_semicolon F) (λ _. refl) assigned_over assigned_sides)
v_tail {F = F} h (Each e part) = F.value_wider tail_first refl (F.value_gives no_tail (lead_tail_next (Each e part)) (no_sides e part) (F.valued F.no_token))

-- statements without `;` go on with much more than items of a block
abbrev last_next : List ℕ
last_next = code_of Becomes ∷ code_of PlusEqual ∷ code_of Semicolon ∷ code_of Colon ∷ (expr_next ++ expr_first)

abbrev stmt_next : TurnTree → List ℕ
stmt_next = turn_next item_next last_next

abbrev lead_next_of : Lead × Tail → List ℕ
lead_next_of xt = lead_tail_next xt.0 xt.1

turn_sides : (x : Place × (Lead × Tail)) → Within (of (lead_next_of x.1)) (of (stmt_next (lead_turn x)))
turn_sides (place, ((Plain e target), (a, None))) = within tail_more last_next refl
turn_sides (place, ((Plain e target), (a, (Some t)))) = λ x h. absurd cc
turn_sides (place, ((Bracketed e), (a, None))) = within tail_more last_next refl
turn_sides (place, ((Bracketed e), (a, (Some t)))) = λ x h. absurd cc
turn_sides (place, ((Each e part), tail)) = λ x h. absurd cc

lead_over : (i : NestedLanguages) (x : Lead) (tail : Tail) → (lead_tail i x).reads [] tail → Within (of (lead_next 8 x)) (of (lead_tail_next x tail))
lead_over i (Plain e None) (a, None) rd = within (next_at 8) tail_more refl
lead_over i (Plain e (Some target)) (a, None) rd = within (next_at 8) tail_more refl
lead_over i (Bracketed e) (a, None) rd = within (next_at 8) tail_more refl
lead_over i (Bracketed e) (a, (Some t)) rd = absurd (let k = rd.2 in no_semicolon t (subst (λ z. semicolon.reads [] z) (sym (λ w. (k w).1)) rd.1))
lead_over i (Plain e None) (a, (Some t)) rd = absurd (let k = rd.2 in no_semicolon t (subst (λ z. semicolon.reads [] z) (sym (λ w. (k w).1)) rd.1))
lead_over i (Plain e (Some target)) (a, (Some t)) rd = absurd (no_semicolon t (subst (λ z. semicolon.reads z (Some t)) (nil_right rd.0 rd.1 rd.2) rd.4))
lead_over i (Each e part) tail rd = λ t h. h

lead_apart : (x : Lead) → none_in (lead_next 8 x) tail_first ≡ true
lead_apart (Plain e target) = refl
lead_apart (Bracketed e) = refl
lead_apart (Each e part) = refl

pub v_lead_stmt : {K KB : Keeping} {KV : Valuing} {F : Forms K KB KV} {i j : NestedLanguages} {r : NestedAt} → Inside F i j r → KV _ (solid lead_first stmt_next) (lead_stmt i) (lead_stmt j) (lead_stmt_at r)
unfolding lead_stmt lead_stmt_at
v_lead_stmt {F = F} {i = i} h = F.value_gives lead_turn stmt_next turn_sides (F.value_at (F.value_depending lead_next_of (v_lead h) (v_tail h) lead_apart (lead_over i) (λ _ _ t q. q)))

-- a statement that may have a `;`
module _ {K KB : Keeping} {KV : Valuing} (F : Forms K KB KV) (first next : List ℕ) {l l2 : Language Tok StmtTerm} {f : Reader StmtTerm} (k : K _ (solid first next) l l2 f) (w : all_in next last_next ≡ true) (a : none_in next semi ≡ true) where
  abbrev simple_next : StmtTerm × Option Tok → List ℕ
  simple_next (s, t) = optional_next (next ++ semi) [] t

  simple_over : (s : StmtTerm) (t : Option Tok) → semicolon.reads [] t → Within (of next) (of (simple_next (s, t)))
  simple_over s None rd = within_left next semi
  simple_over s (Some t) rd = absurd (no_semicolon t rd)

  simple_more : (s : StmtTerm) (t : Option Tok) → Within (of (semi_next t)) (of (simple_next (s, t)))
  simple_more s None = within_right next semi
  simple_more s (Some t) = λ x h. h

  simple_sides : (x : StmtTerm × Option Tok) → Within (of (simple_next x)) (of (stmt_next (simple_turn x)))
  simple_sides (s, None) = within_both next semi last_next (within next last_next w) (within semi last_next refl)
  simple_sides (s, (Some t)) = λ x h. absurd cc

  v_simple : KV _ (solid first stmt_next) (made simple_turn (then l semicolon)) (made simple_turn (then l2 semicolon)) (made_at simple_turn (then_at f semicolon_at))
  v_simple = F.value_gives simple_turn stmt_next simple_sides (F.value_depending simple_next (F.valued k) (λ _. v_semicolon F) (λ _. a) simple_over simple_more)

closed_sides : (s : StmtTerm) → Within (of item_next) (of (stmt_next (closed_turn s)))
closed_sides s t h = h

empty_sides : (x : Tok) → Within (of []) (of (stmt_next (empty_turn x)))
empty_sides x t h = absurd cc

pub v_statement : {K KB : Keeping} {KV : Valuing} {F : Forms K KB KV} {i j : NestedLanguages} {r : NestedAt} → Inside F i j r → KV _ (solid stmt_first stmt_next) (statement i) (statement j) (statement_at r)
unfolding statement statement_at
v_statement {F = F} h = F.value_wider stmt_first refl (F.value_one_of semi (F.value_gives empty_turn stmt_next empty_sides (F.valued (F.token Semicolon)))
    (F.value_one_of (code_of IfWord ∷ []) (F.value_gives closed_turn stmt_next closed_sides (F.valued (k_if_stmt h)))
    (F.value_one_of (code_of WhileWord ∷ []) (F.value_gives closed_turn stmt_next closed_sides (F.valued (F.wider {t = solid (code_of WhileWord ∷ []) item_next} (fits refl) (k_while_stmt h))))
    (F.value_one_of (code_of VarWord ∷ []) (v_simple F (code_of VarWord ∷ []) (code_of Becomes ∷ code_of Colon ∷ expr_next) (F.wider (fits refl) (k_var_stmt h)) refl refl)
    (F.value_one_of (code_of ReturnWord ∷ []) (v_simple F (code_of ReturnWord ∷ []) (expr_next ++ expr_first) (F.wider (fits refl) (k_return_stmt h)) refl refl)
    (v_lead_stmt h) refl refl) refl refl) refl refl) refl refl) refl refl)

-- what may go on after the statements of a block
abbrev pub stmts_next : List ℕ
stmts_next = stmt_first ++ (item_next ++ last_next)

ended_all : {A B : Type 0} (x y : List ℕ) (all : List A × Option B) → Within (of (ended_next x y all)) (of (x ++ y))
ended_all x y (got, None) = within_left x y
ended_all x y (got, (Some b)) = within_right x y

pub k_statements : {K KB : Keeping} {KV : Valuing} {F : Forms K KB KV} {i j : NestedLanguages} {r : NestedAt} → Inside F i j r → K _ (loose stmt_first stmts_next) (statements i) (statements j) (statements_at r)
unfolding statements statements_at
k_statements {F = F} h = F.gives ended_of (F.wider {t = loose stmt_first stmts_next} (fits refl) (F.alike ((stmt_first ++ item_next) ++ last_next) (ended_all (stmt_first ++ item_next) last_next) (F.turns_of stmt_first item_next last_next refl refl (v_statement h))))

pub k_block : {K KB : Keeping} {KV : Valuing} {F : Forms K KB KV} {i j : NestedLanguages} {r : NestedAt} → Inside F i j r → K _ (solid (code_of OpenBrace ∷ []) []) (block i) (block j) (block_at r)
unfolding block block_at
k_block {F = F} h = F.gives block_of (F.both (F.token OpenBrace) (F.wider {t = solid (code_of CloseBrace ∷ stmt_first) []} (fits refl) (F.both (k_statements h) (F.token CloseBrace) refl)) refl)
