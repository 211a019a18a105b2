-- How statements and their parts are printed, by how they are read.
use Rattle.std.proofs.Common.{◌≡◌, List, [], ◌∷◌, ◌++◌, Bool, true, false, refl, sym, ap, ◌∙◌, subst, append_assoc, append-nil, Option, Some, None, IsTrue}
use Rattle.qvt_base.specs.declared.numbers.Place.{Place}
use Rattle.qvt_tree_types.specs.Tree.{ExprTerm, StmtTerm, ArmTerm, ArmOf}
use Rattle.qvt_tree_types.specs.View.{stmts_of, arms_of, optional_expr, optional_else}
use Rattle.qvt_language.specs.Tokens.{Tok}
use Rattle.qvt_language.specs.Leads.{EachPart}
use Rattle.qvt_language.specs.StmtTrees.{Branches, for_each_of, concat, last_of}
use Rattle.qvt_language.specs.declared.class.Class.TheVariants as class
use Rattle.qvt_printer.specs.Expressions as print
use Rattle.qvt_printer.specs.Levels.{is_chain_or_prefix}
use Rattle.qvt_printer_layout.specs.Words as words
use Rattle.qvt_printer_layout.specs.declared.piece.PrintPiece.{PrintPiece}
use Rattle.qvt_printer_layout.specs.declared.piece.PrintPiece.TheVariants as piece
use Rattle.qvt_readback_depth.proofs.Runs.{fresh_after, fresh_append}
use Rattle.qvt_readback_depth.proofs.Turns.{Turns, Ends, Leaves, leaves_none, leaves_endif, turns_nil, turns_if}
use Rattle.qvt_readback_depth.proofs.Pieces.{pc, tc, pc_append, tc_append, tc_one, Cut, IsTok, PStrong, POver, PTurns, over_at, turns_at, as_turns, ends_more, is_word, quiet_nil, quiet_tok, pieces_of, no_pieces, keep, word_on, ends_block}
use Rattle.qvt_readback_depth.proofs.Claims.{After, Perhaps, Many}
use Rattle.qvt_readback_depth.proofs.Exprs.{Opening, Printed, ExprIs, in_place}

-- statements without the `;`
pub record SimpleIs (ts : List Tok) (s : StmtTerm) : Type 0 where
  pub pieces : List PrintPiece
  pub same : print.stmt s ≡ print.ended pieces
  pub over : POver pieces ts

abbrev pub StmtIs : List Tok → StmtTerm → Type 0
StmtIs ts s = PTurns (print.stmt s) ts

abbrev pub StmtsAre : List Tok → List StmtTerm → Type 0
StmtsAre ts ss = PTurns (print.stmts (stmts_of ss)) ts

pub one_stmt : {ts : List Tok} (s : StmtTerm) → StmtIs ts s → StmtsAre ts (s ∷ [])
one_stmt {ts} s h = record { is = subst (λ z. Turns (pc z) (tc ts)) (sym (append-nil (print.stmt s))) h.is }

-- with a `;`, or without one at the end
ended_is : {ts u v : List Tok} (s : StmtTerm) → Cut ts u v → SimpleIs u s → PStrong (print.one class.Semicolon) v → StmtIs ts s
ended_is {ts} s e h k = subst (λ z. PTurns z ts) (sym h.same) (as_turns (over_at e h.over k) (ends_more h.pieces (print.one class.Semicolon) (λ f. refl)))

pub simple_is : {ts u v : List Tok} (s : StmtTerm) → Cut ts u v → SimpleIs u s → IsTok class.Semicolon v → StmtIs ts s
simple_is s e h k = ended_is s e h (pieces_of (print.one class.Semicolon) refl (quiet_tok {c = class.Semicolon} refl k))

pub open_is : {ts : List Tok} (s : StmtTerm) → SimpleIs ts s → StmtIs ts s
open_is {ts} s h = ended_is s (record { is = sym (append-nil ts) }) h (pieces_of (print.one class.Semicolon) refl quiet_nil)

-- lists of statements
stmts_append : (a b : List StmtTerm) → print.stmts (stmts_of (a ++ b)) ≡ print.stmts (stmts_of a) ++ print.stmts (stmts_of b)
stmts_append [] b = refl
stmts_append (s ∷ a) b = ap (λ z. piece.Line ∷ (print.stmt s ++ z)) (stmts_append a b) ∙ ap (λ z. piece.Line ∷ z) (sym (append_assoc (print.stmt s) (print.stmts (stmts_of a)) (print.stmts (stmts_of b))))

no_stmts : {ts : List Tok} → ts ≡ [] → StmtsAre ts []
no_stmts e = subst (λ z. StmtsAre z []) (sym e) (record { is = turns_nil })

pub stmts_at : {ts u v : List Tok} (a b : List StmtTerm) → Cut ts u v → StmtsAre u a → StmtsAre v b → StmtsAre ts (a ++ b)
stmts_at {ts} a b e h k = subst (λ z. PTurns z ts) (sym (stmts_append a b)) (turns_at e h k)

pub concat_is : (all : List (List StmtTerm)) {ts : List Tok} → Many StmtsAre ts all → StmtsAre ts (concat all)
concat_is [] h = no_stmts h
concat_is (ss ∷ all) h = stmts_at ss (concat all) h.2 h.3 (concat_is all h.4)

pub last_is : {ts : List Tok} (s : Option StmtTerm) → Perhaps SimpleIs ts s → StmtsAre ts (last_of s)
last_is None h = no_stmts h
last_is (Some s) h = one_stmt s (open_is s h)

-- after a block an `if` begins a statement
abbrev Keeps : List PrintPiece → Type 0
Keeps ps = fresh_after true (pc ps) ≡ true

keeps_append : (a b : List PrintPiece) → Keeps a → Keeps b → Keeps (a ++ b)
keeps_append a b h k = ap (λ z. fresh_after true z) (pc_append a b) ∙ fresh_append true (pc a) (pc b) ∙ ap (λ z. fresh_after z (pc b)) h ∙ k

ends_keeps : (a b : List PrintPiece) → Ends (pc a) → Keeps b → Ends (pc (a ++ b))
ends_keeps a b h k f = ap (λ z. fresh_after f z) (pc_append a b) ∙ fresh_append f (pc a) (pc b) ∙ ap (λ z. fresh_after z (pc b)) (h f) ∙ k

pub ends_headed : (e : ExprTerm) (ss : List StmtTerm) → Ends (pc (print.in_round (print.expr e) ++ print.block (stmts_of ss)))
ends_headed e ss = ends_more (print.in_round (print.expr e)) (print.block (stmts_of ss)) (ends_block (print.stmts (stmts_of ss)))

keeps_arms : (as_ : List ArmTerm) → Keeps (print.arms (arms_of as_))
keeps_arms [] = refl
keeps_arms (ArmOf e body ∷ as_) = keeps_append (print.arm (ArmOf e body)) (print.arms (arms_of as_)) (ends_more (print.in_round (print.expr e)) (print.block body) (ends_block (print.stmts body)) false) (keeps_arms as_)

keeps_else : (ss : Option (List StmtTerm)) → Keeps (print.else_if (optional_else ss))
keeps_else None = refl
keeps_else (Some ss) = ends_block (print.stmts (stmts_of ss)) false

abbrev pub branch_pieces : Branches → List PrintPiece
branch_pieces b = print.block (stmts_of b.0) ++ (print.arms (arms_of b.1.0) ++ print.else_if (optional_else b.1.1.0))

pub ends_branches : (b : Branches) → Ends (pc (branch_pieces b))
ends_branches b = ends_keeps (print.block (stmts_of b.0)) (print.arms (arms_of b.1.0) ++ print.else_if (optional_else b.1.1.0)) (ends_block (print.stmts (stmts_of b.0)))
    (keeps_append (print.arms (arms_of b.1.0)) (print.else_if (optional_else b.1.1.0)) (keeps_arms b.1.0) (keeps_else b.1.1.0))

-- a conditional statement, which the text may leave open
endif_leaves : (ts : List Tok) (t : Option Tok) → Perhaps (λ us t. IsTok class.EndifWord us) ts t → Leaves (tc ts)
endif_leaves ts None h = subst (λ z. Leaves (tc z)) (sym h) leaves_none
endif_leaves ts (Some t) h = subst Leaves (sym h.is) leaves_endif

pub if_is : {ts u v x y : List Tok} {ps : List PrintPiece} (t : Option Tok) → Cut ts u v → IsTok class.IfWord u → Cut v x y → POver ps x → Ends (pc ps) → Perhaps (λ us t. IsTok class.EndifWord us) y t → PTurns (piece.Plain class.IfWord ∷ ps) ts
if_is {u = u} {v = v} {x = x} {y = y} {ps = ps} t e w g h k l =
    record { is = subst (Turns (class.IfWord ∷ pc ps)) (sym (ap tc e.is ∙ tc_one u v w.is ∙ ap (λ z. class.IfWord ∷ z) (ap tc g.is ∙ tc_append x y))) (turns_if (tc y) h.is k (endif_leaves y t l)) }

pub else_if : {ts : List Tok} (ss : Option (List StmtTerm)) → Perhaps (After class.ElseWord (Printed (λ b. print.block (stmts_of b)))) ts ss → PStrong (print.else_if (optional_else ss)) ts
else_if None h = no_pieces h
else_if (Some ss) h = keep {c = class.ElseWord} refl h.2 h.3 h.4

-- a `forEach`
abbrev pub each_rest : EachPart → List PrintPiece
each_rest p = piece.Plain class.Arrow ∷ piece.Plain class.ForEachWord ∷ (print.iterator p.name p.kind (print.condition_if p.condition) ++ print.block (stmts_of p.body))

ends_each : (p : EachPart) → Ends (pc (each_rest p))
ends_each p f = ends_more (print.iterator p.name p.kind (print.condition_if p.condition)) (print.block (stmts_of p.body)) (ends_block (print.stmts (stmts_of p.body))) false

pub loop_is : {ts u v : List Tok} (place : Place) (e : ExprTerm) (p : EachPart) → Cut ts u v → ExprIs is_chain_or_prefix u e → PStrong (each_rest p) v → StmtIs ts (for_each_of e p place)
loop_is place e p g h k = as_turns (over_at g (in_place is_chain_or_prefix e h) k) (ends_more (print.post_first e) (each_rest p) (ends_each p))

-- values
pub word_assign : (b : Bool) → IsTrue (is_word (words.assign_sign b))
word_assign true = refl
word_assign false = refl

pub value_if : {ts : List Tok} (e : Option ExprTerm) → Perhaps (After class.Becomes (Opening print.expr)) ts e → PStrong (print.first_value (optional_expr e)) ts
value_if None h = no_pieces h
value_if (Some e) h = word_on {c = class.Becomes} refl h.2 h.3 h.4

pub return_is : {ts u v : List Tok} (e : Option ExprTerm) → Cut ts u v → IsTok class.ReturnWord u → Perhaps (Opening print.expr) v e → PStrong (piece.Plain class.ReturnWord ∷ print.optional (optional_expr e)) ts
return_is None g w h = keep {c = class.ReturnWord} refl g w (no_pieces h)
return_is (Some e) g w h = word_on {c = class.ReturnWord} refl g w h
