-- What statements and blocks are read as is read again.
use Rattle.std.proofs.Common.{◌≡◌, pos, ◌⊎◌, List, [], ◌∷◌, ◌++◌, map, Bool, true, false, inl, inr, refl, sym, ap, ◌∙◌, subst, append_assoc, append-nil, Option, Some, None, arith}
use Rattle.std.specs.Prelude.{⊤}
use Rattle.qvt_base.specs.declared.numbers.Place.{Place}
use Rattle.qvt_tree_types.specs.Tree.{ExprTerm, IfExpr, IfStmt, StepTerm, TargetTerm, BareTarget, ResultTarget, MemberTarget, StmtTerm, AssignStmt, ValueStmt, ForEachStmt}
use Rattle.qvt_tree_types.specs.View.{stmts_of}
use Rattle.qvt_tree.specs.Shape.{nowhere, erase_expr, erase_target, erase_stmt}
use Rattle.qvt_grammar.specs.Language.{either, maybe, turns, lastly, head_of}
use Rattle.qvt_language.specs.Tokens.{Tok}
use Rattle.qvt_language.specs.declared.class.Class.TheVariants as class
use Rattle.qvt_language.specs.Leads.{Lead, Plain, Bracketed, Each, EachPart, EndedBlock}
use Rattle.qvt_language.specs.Readers.{the}
use Rattle.qvt_language.specs.Series.{left, right}
use Rattle.qvt_language.specs.Trees.{expr_of, each_lead, post_lead, post_of}
use Rattle.qvt_language.specs.Grammar.{NestedLanguages, expr, other_primary, step, lead_post, lead_pre, lead, lead_step, each_tail, if_expr}
use Rattle.qvt_language.specs.Statements.{assignment, semicolon, lead_tail, lead_stmt, statement, statements, block, var_stmt, return_stmt, if_stmt, while_stmt, branches, choice, if_rest}
use Rattle.qvt_language.specs.StmtTrees.{Branches, Choice, for_each_of, branched, choice_expr, chosen, if_made, if_stmt_of, TurnTree, Tail, simple_turn, is_adding, written, lead_turn, concat, last_of}
use Rattle.qvt_printer_layout.specs.declared.piece.PrintPiece.{PrintPiece}
use Rattle.qvt_printer_layout.specs.declared.piece.PrintPiece.TheVariants as piece
use Rattle.qvt_printer_layout.specs.Words as words
use Rattle.qvt_printer.specs.Expressions as print
use Rattle.qvt_readback_tokens.specs.Spelled.{all_spelled}
use Rattle.qvt_readback_trees.specs.Printable.{IsPrintableExpr, IsPrintableStmt, ArePrintableStmts, IsPrintableTarget, target_begins_with_if}
use Rattle.qvt_readback_trees.proofs.Spelling.{plain, spelled_append, spelled_head, block_spelled}
use Rattle.qvt_readback_trees.proofs.AgainExprs.{AgainNested, again_expr, bare_stmts}
use Rattle.qvt_readback_trees.proofs.AgainSteps.{EachOk, each_pieces, bare_part, again_each_tail}
use Rattle.qvt_readback_trees.proofs.AgainStmts.{unended, again_var_stmt, again_return_stmt, again_branches, branch_pieces, bare_branches, bare_arms, else_bare, again_while_stmt}
use Rattle.qvt_readback_trees.proofs.Forms.{Form}
use Rattle.qvt_readback_trees.proofs.FormReads.{opens_with_if, post_parts}
use Rattle.qvt_readback_trees.proofs.LeadReads.{step_lead, lead_step_step, turns_to, lead_reads, source_reads, LeadTarget, member_reads, bare_target_reads, result_target_reads}
use Rattle.qvt_readback_trees.proofs.Good.{GoodSteps, GoodFirst, GoodPrimary, GoodOperand, GoodTarget, post_first, post_operand, lead_expr, lead_target}
use Rattle.qvt_readback_trees.proofs.Read.{if_good, other_good, steps_good, signed_good, Chained, chain_good, pre_chain_good}

-- what is read at the front of a statement

abbrev GoodPart : NestedLanguages → EachPart → Type 0
GoodPart i part = EachOk part → (lead_step i).reads (all_spelled (piece.Plain class.Arrow ∷ each_pieces part)) (inr (bare_part part))

abbrev GoodFront : NestedLanguages → Lead → Type 0
GoodFront i (Plain e t) = (IsPrintableExpr e → Form i e) × GoodTarget i t
GoodFront i (Bracketed e) = IsPrintableExpr e → Form i e
GoodFront i (Each e part) = GoodFirst i e × GoodPart i part

record GoodLead (i : NestedLanguages) (x : Lead) : Type 0 where
  operand : GoodOperand i 0 (expr_of x)
  front : GoodFront i x

module _ {i : NestedLanguages} (h : AgainNested i) where
  part_good : (ts : List Tok) (part : EachPart) → (lead_step i).reads ts (inr part) → GoodPart i part
  unfolding lead_step
  part_good ts part rd o = elim rd [
    | inl q ↦ absurd (let z : inr part ≡ inl q.0 = q.2 in cc)
    | inr q ↦ elim q.1.4 [
      | inl w ↦ (
          let e : part ≡ w.0 = (let z : inr part ≡ inr w.0 = q.2 ∙ w.2 in cc) in
          let again = (again_each_tail h).again q.1.1 w.0 w.1 (subst EachOk e o) in
          let back = subst (λ z. (each_tail i).reads (all_spelled (each_pieces z)) (bare_part z)) (sym e) again in
          inr ((plain class.Arrow, inr (bare_part part)), (plain class.Arrow ∷ [], all_spelled (each_pieces part), refl, (refl, refl), inl (bare_part part, back, refl)), refl))
      | inr w ↦ absurd (let z : inr part ≡ inl w.0 = q.2 ∙ w.2 in cc)
    ]
  ]

  post_lead_front : (place : Place) (x : ExprTerm × Bool) (steps : List StepTerm) → GoodPrimary i x → GoodSteps i steps → GoodFront i (post_lead (place, (x, steps)))
  post_lead_front place (e, true) [] g ss = (g.first.form, lead_target i place (e, true) [] g ss)
  post_lead_front place (e, false) [] g ss = g.first.form
  post_lead_front place x (s ∷ steps) g ss = ((post_first i place x.0 (s ∷ steps) g.first ss).form, lead_target i place x (s ∷ steps) g ss)

  each_good : (place : Place) (x : ExprTerm × Bool) (steps : List StepTerm) (part : Option EachPart) (u v r : List Tok) → (other_primary i).reads u x → turns (left (lead_step i)) v steps → lastly (right (lead_step i)) r part → GoodLead i (each_lead (place, (x, (steps, part))))
  each_good place x steps None u v r other rs rp =
      let g = other_good h u x other in
      let ss = steps_good h steps v (turns_to (left (lead_step i)) (step i) (lead_step_step i) steps v rs) in
      record { operand = subst (GoodOperand i 0) (sym (lead_expr i place x steps)) (post_operand i place x steps g ss); front = post_lead_front place x steps g ss }
  each_good place x steps (Some part) u v r other rs rp =
      let g = other_good h u x other in
      let ss = steps_good h steps v (turns_to (left (lead_step i)) (step i) (lead_step_step i) steps v rs) in
      record { operand = post_operand i place x steps g ss; front = (post_first i place x.0 steps g.first ss, part_good r part rp) }

  lead_post_good : (ts : List Tok) (x : Lead) → (lead_post i).reads ts x → GoodLead i x
  unfolding lead_post
  lead_post_good ts x rd =
      let a = rd.0 in
      let w = rd.1.0 in
      subst (GoodLead i) (sym rd.2) (each_good a.0 a.1.0 a.1.1.0 a.1.1.1 w.0 w.4.0 w.4.1 w.3 w.4.3 w.4.4)

  lead_pre_good : (ts : List Tok) (x : Lead) → (lead_pre i).reads ts x → GoodLead i x
  unfolding lead_pre
  lead_pre_good ts x rd = elim rd [
    | inl q ↦ (let w = signed_good h ts x q in subst (GoodLead i) (sym w.1) (record { operand = w.2; front = (w.2.form, tt) }))
    | inr q ↦ lead_post_good ts x q
  ]

  front_of : (x : Lead) → Chained i (GoodLead i) 8 x → GoodFront i x
  front_of x c = elim c [ inl q ↦ q.front | inr q ↦ subst (GoodFront i) (sym q.1) (q.2.form, tt) ]

  lead_good : (ts : List Tok) (x : Lead) → (lead i).reads ts x → GoodFront i x
  unfolding lead
  lead_good ts x rd = front_of x (chain_good (lead_pre i) (GoodLead i) (λ y g. g.operand) (pre_chain_good h) lead_pre_good 8 (omega arith) ts x rd)

-- a statement of a block is read again as a turn of its own

abbrev pub GoodStmt : NestedLanguages → StmtTerm → Type 0
GoodStmt i s = IsPrintableStmt s → (statement i).reads (all_spelled (print.stmt s)) (inl (erase_stmt s ∷ []))

abbrev pub GoodStmts : NestedLanguages → List StmtTerm → Type 0
GoodStmts i [] = ⊤
GoodStmts i (s ∷ ss) = GoodStmt i s × GoodStmts i ss

-- the tokens of a conditional, taken apart otherwise
regrouped : (f s r u0 v0 u1 v1 u2 v2 ut vt : List Tok) → f ≡ u0 ++ v0 → v0 ≡ u1 ++ v1 → v1 ≡ u2 ++ v2 → u2 ≡ ut ++ vt → (f ++ s) ++ r ≡ u0 ++ (u1 ++ (ut ++ ((vt ++ v2) ++ (s ++ r))))
regrouped f s r u0 v0 u1 v1 u2 v2 ut vt e0 e1 e2 e3 =
    let k = s ++ r in
    let last : v1 ++ k ≡ ut ++ ((vt ++ v2) ++ k) = ap (λ z. z ++ k) (e2 ∙ ap (λ z. z ++ v2) e3 ∙ append_assoc ut vt v2) ∙ append_assoc ut (vt ++ v2) k in
    let middle : v0 ++ k ≡ u1 ++ (ut ++ ((vt ++ v2) ++ k)) = ap (λ z. z ++ k) e1 ∙ append_assoc u1 v1 k ∙ ap (λ z. u1 ++ z) last in
    append_assoc f s r ∙ ap (λ z. z ++ k) e0 ∙ append_assoc u0 v0 k ∙ ap (λ z. u0 ++ z) middle

same_conditional : (c one other : ExprTerm) (place : Place) (c2 one2 other2 c3 one3 : ExprTerm) → IfExpr c one other nowhere ≡ IfExpr c2 one2 other2 place → c2 ≡ c3 → one2 ≡ one3 → IfExpr c3 one3 other2 nowhere ≡ IfExpr c one other nowhere
same_conditional c one other place c2 one2 other2 c3 one3 e p q =
    let a : c ≡ c2 = cc in
    let b : one ≡ one2 = cc in
    let d : other ≡ other2 = cc in
    λ j. IfExpr (sym (a ∙ p) j) (sym (b ∙ q) j) (sym d j) nowhere

abbrev semi : List Tok
semi = plain class.Semicolon ∷ []

module _ (i : NestedLanguages) where
  of_lead : (ts : List Tok) (x : TurnTree) → (lead_stmt i).reads ts x → (statement i).reads ts x
  unfolding statement
  of_lead ts x rd = inr (inr (inr (inr (inr rd))))

  semi_tail : (e : ExprTerm) (t : Option TargetTerm) → (lead_tail i (Plain e t)).reads semi (None, Some (plain class.Semicolon))
  unfolding semicolon
  semi_tail e None = (Some (plain class.Semicolon), inl (plain class.Semicolon, (refl, refl), refl), refl)
  semi_tail e (Some target) = ([], semi, refl, inr (tt, refl, refl), inl (plain class.Semicolon, (refl, refl), refl))

  value_turn : (e : ExprTerm) (t : Option TargetTerm) → lead_turn (nowhere, (Plain e t, (None, Some (plain class.Semicolon)))) ≡ inl (ValueStmt e nowhere ∷ [])
  value_turn e None = refl
  value_turn e (Some target) = refl

  lead_statement : (ps : List PrintPiece) (u v : List Tok) (x : Lead) (tail : Tail) → all_spelled ps ≡ u ++ v → (lead i).reads u x → (lead_tail i x).reads v tail → (statement i).reads (all_spelled ps) (lead_turn (nowhere, (x, tail)))
  unfolding lead_stmt
  lead_statement ps u v x tail e rx rt = of_lead (all_spelled ps) _ ((nowhere, (x, tail)), ((u, v, e, rx, rt), sym (spelled_head ps)), refl)

  value_good : (e : ExprTerm) (place : Place) → (IsPrintableExpr e → Form i e) → GoodStmt i (ValueStmt e place)
  value_good e place f o =
      let w = lead_reads i e (f o.1) o.0 in
      let ps = print.ended (print.expr e) in
      subst ((statement i).reads (all_spelled ps)) (value_turn (erase_expr e) w.0) (lead_statement ps (all_spelled (print.expr e)) semi (Plain (erase_expr e) w.0) (None, Some (plain class.Semicolon)) (spelled_append (print.expr e) (print.one class.Semicolon)) w.1 (semi_tail (erase_expr e) w.0))

  target_reads : (t : TargetTerm) → GoodTarget i (Some t) → IsPrintableTarget t → target_begins_with_if t ≡ false → LeadTarget i (all_spelled (print.target t)) (erase_target t)
  target_reads (BareTarget n place) g o c = bare_target_reads i n
  target_reads (ResultTarget place) g o c = result_target_reads i
  target_reads (MemberTarget e n place) g o c = member_reads i e n place (g.form o) (g.bracket o) c

  adding_kept : (b : Bool) → is_adding (words.assign_sign b) ≡ b
  adding_kept true = refl
  adding_kept false = refl

  assign_word : (b : Bool) → (either (the class.Becomes) (the class.PlusEqual)).reads (plain (words.assign_sign b) ∷ []) (plain (words.assign_sign b))
  assign_word true = inr (refl, refl)
  assign_word false = inl (refl, refl)

  assign_tail : (e v : ExprTerm) (t : TargetTerm) (b : Bool) (ts : List Tok) → (expr i).reads ts v → (lead_tail i (Plain e (Some t))).reads (plain (words.assign_sign b) ∷ (ts ++ semi)) (Some (plain (words.assign_sign b), v), Some (plain class.Semicolon))
  unfolding semicolon assignment
  assign_tail e v t b ts rd =
      let sign = plain (words.assign_sign b) in
      (sign ∷ ts, semi, refl, inl ((sign, v), (sign ∷ [], ts, refl, assign_word b, rd), refl), inl (plain class.Semicolon, (refl, refl), refl))

  assign_good : (t : TargetTerm) (b : Bool) (v : ExprTerm) (place : Place) → GoodTarget i (Some t) → (IsPrintableExpr v → (expr i).reads (all_spelled (print.expr v)) (erase_expr v)) → GoodStmt i (AssignStmt t b v place)
  assign_good t b v place g rv o =
      let w = target_reads t g o.1 o.0 in
      let sign = piece.Plain (words.assign_sign b) in
      let rest = sign ∷ print.expr v in
      let ps = print.stmt (AssignStmt t b v place) in
      let us = all_spelled (print.target t) in
      let vs = all_spelled (print.expr v) in
      let cut : all_spelled ps ≡ us ++ (plain (words.assign_sign b) ∷ (vs ++ semi)) =
      spelled_append (print.target t ++ rest) (print.one class.Semicolon) ∙ ap (λ z. z ++ semi) (spelled_append (print.target t) rest) ∙ append_assoc us (plain (words.assign_sign b) ∷ vs) semi in
      let rd = lead_statement ps us _ (Plain w.0 (Some (erase_target t))) (Some (plain (words.assign_sign b), erase_expr v), Some (plain class.Semicolon)) cut w.1 (assign_tail w.0 (erase_expr v) (erase_target t) b vs (rv o.2)) in
      subst (λ z. (statement i).reads (all_spelled ps) (inl (AssignStmt (erase_target t) z (erase_expr v) nowhere ∷ []))) (adding_kept b) rd

  -- a `forEach` whose source does not begin with `if`
  each_plain : (e : ExprTerm) (part : EachPart) (place : Place) → GoodFirst i e → GoodPart i part → opens_with_if e ≡ false → GoodStmt i (for_each_of e part place)
  each_plain e part place g gp c o =
      let rest = piece.Plain class.Arrow ∷ each_pieces part in
      let ps = print.stmt (for_each_of e part place) in
      let us = all_spelled (print.post_first e) in
      let cut : all_spelled ps ≡ us ++ all_spelled rest = spelled_append (print.post_first e) rest in
      let rd = source_reads i e (all_spelled rest) (bare_part part) (g.form o.0) (g.bracket o.0) c (gp (o.1, o.2)) (ap (head_of (λ t. t.place) nowhere) (sym cut) ∙ spelled_head ps) in
      let whole = lead_statement ps (us ++ all_spelled rest) [] (Each (erase_expr e) (bare_part part)) (None, None) (cut ∙ sym (append-nil (us ++ all_spelled rest))) rd (tt, refl, refl) in
      subst (λ z. (statement i).reads (all_spelled ps) (inl (ForEachStmt (erase_expr e) part.name (bare_part part).kind (bare_part part).condition z nowhere ∷ []))) (sym (bare_stmts part.body)) whole

  -- what follows the condition of a conditional that is the front of a source
  then_choice : (x : Lead) (ut v : List Tok) (t : Tok) (y : Choice) → (the class.ThenWord).reads ut t → (choice i).reads v y → (if_rest i x).reads (ut ++ v) (inr y)
  then_choice (Plain e target) ut v t y rt ry = ((t, inr y), (ut, v, refl, rt, (y, ry, refl)), refl)
  then_choice (Bracketed e) ut v t y rt ry = inr ((t, inr y), (ut, v, refl, rt, inr (y, ry, refl)), refl)
  then_choice (Each e part) ut v t y rt ry = ((t, inr y), (ut, v, refl, rt, (y, ry, refl)), refl)

  -- a `forEach` whose source begins with `if`
  each_conditional : (e : ExprTerm) (part : EachPart) (place : Place) → GoodFirst i e → GoodPart i part → opens_with_if e ≡ true → GoodStmt i (for_each_of e part place)
  unfolding statement if_stmt if_expr choice expr
  each_conditional e part place g gp q o =
      let s = for_each_of e part place in
      let ps = print.stmt s in
      let rest = piece.Plain class.Arrow ∷ each_pieces part in
      let r = all_spelled rest in
      let w = post_parts i e (g.form o.0) (g.bracket o.0) in
      let k = w.conditional q in
      let a = k.4.0 in
      let f = k.4.1.0 in
      let f1 = f.4 in
      let x = f1.3 in
      let f2 = f1.4 in
      let t = f2.3 in
      let tail = w.rest ++ r in
      let end : Choice = ((t.0.1, a.1.1.1.1), (w.steps, bare_part part)) in
      let chosen_reads : (choice i).reads ((t.1.1 ++ f2.1) ++ tail) end =
      (t.1.1 ++ f2.1, tail, refl, (t.1.1, f2.1, refl, t.1.4, f2.4), (w.rest, r, refl, turns_to (step i) (left (lead_step i)) (step_lead i) w.steps w.rest w.turn, gp (o.1, o.2))) in
      let cut : all_spelled ps ≡ f.0 ++ (f1.0 ++ (t.1.0 ++ ((t.1.1 ++ f2.1) ++ tail))) =
      spelled_append (print.post_first e) rest ∙ ap (λ z. z ++ r) w.cut ∙ regrouped w.front w.rest r f.0 f.1 f1.0 f1.1 f2.0 f2.1 t.1.0 t.1.1 f.2 f1.2 f2.2 t.1.2 in
      let source : IfExpr (expr_of x.0) t.0.1 a.1.1.1.1 nowhere ≡ w.first.0 = same_conditional k.0 k.1 k.2 a.0 a.1.1.0 a.1.1.1.0 a.1.1.1.1 (expr_of x.0) t.0.1 k.4.2 x.2 t.2 ∙ sym k.3 in
      let made : erase_stmt s ≡ if_stmt_of (nowhere, (a.1.0, (x.0, inr end))) =
      (λ j. ForEachStmt (sym (ap (λ z. post_of nowhere z w.steps) source ∙ w.whole) j) part.name (bare_part part).kind (bare_part part).condition (bare_stmts part.body j) nowhere) in
      inr (inl (erase_stmt s, ((nowhere, (a.1.0, (x.0, inr end))), ((f.0, f1.0 ++ (t.1.0 ++ ((t.1.1 ++ f2.1) ++ tail)), cut, f.3, (f1.0, t.1.0 ++ ((t.1.1 ++ f2.1) ++ tail), refl, x.1, then_choice x.0 t.1.0 ((t.1.1 ++ f2.1) ++ tail) t.0.0 end t.1.3 chosen_reads)), sym (spelled_head ps)), made), refl))

  each_at : (e : ExprTerm) (part : EachPart) (place : Place) (b : Bool) → opens_with_if e ≡ b → GoodFirst i e → GoodPart i part → GoodStmt i (for_each_of e part place)
  each_at e part place true q g gp = each_conditional e part place g gp q
  each_at e part place false q g gp = each_plain e part place g gp q

  each_stmt_good : (e : ExprTerm) (part : EachPart) (place : Place) → GoodFirst i e → GoodPart i part → GoodStmt i (for_each_of e part place)
  each_stmt_good e part place g gp = each_at e part place (opens_with_if e) refl g gp

  -- statements that begin with a word
  ended_good : (s : StmtTerm) → print.stmt s ≡ print.ended (unended s) → (IsPrintableStmt s → (ts : List Tok) → ts ≡ all_spelled (unended s) ++ semi → (statement i).reads ts (inl (erase_stmt s ∷ []))) → GoodStmt i s
  ended_good s e f o = f o (all_spelled (print.stmt s)) (ap all_spelled e ∙ spelled_append (unended s) (print.one class.Semicolon))

-- what is read as a statement
abbrev pub in_turn : TurnTree → List StmtTerm
in_turn (inl ss) = ss
in_turn (inr s) = s ∷ []

module _ {i : NestedLanguages} (h : AgainNested i) where
  simple_good : (s : StmtTerm) (t : Option Tok) → GoodStmt i s → GoodStmts i (in_turn (simple_turn (s, t)))
  simple_good s None g = (g, tt)
  simple_good s (Some t) g = (g, tt)

  target_good : (place : Place) (e : ExprTerm) (target : TargetTerm) (v : List Tok) (x : Option (Tok × ExprTerm)) → (IsPrintableExpr e → Form i e) → GoodTarget i (Some target) → (maybe (assignment i)).reads v x → GoodStmt i (written place e (Some target) x)
  unfolding assignment
  target_good place e target v None f g rd = value_good i e place f
  target_good place e target v (Some (sign, value)) f g rd = elim rd [
    | inl q ↦ (
        let e1 : (sign, value) ≡ q.0 = (let z : Some (sign, value) ≡ Some q.0 = q.2 in cc) in
        let rv : (expr i).reads q.1.1 value = subst ((expr i).reads q.1.1) (λ j. (sym e1 j).1) q.1.4 in
        assign_good i target (is_adding sign.class) value sign.place g (λ o. (again_expr h).again q.1.1 value rv o))
    | inr q ↦ absurd (let z : Some (sign, value) ≡ None = q.2 in cc)
  ]

  front_good : (place : Place) (x : Lead) (v : List Tok) (tail : Tail) → GoodFront i x → (lead_tail i x).reads v tail → GoodStmts i (in_turn (lead_turn (place, (x, tail))))
  front_good place (Plain e None) v (a, t) g rd = simple_good (written place e None a) t (value_good i e place g.0)
  front_good place (Plain e (Some target)) v (a, t) g rd = simple_good (written place e (Some target) a) t (target_good place e target rd.0 a g.0 g.1 rd.3)
  front_good place (Bracketed e) v (a, t) g rd = simple_good (ValueStmt e place) t (value_good i e place g)
  front_good place (Each e part) v tail g rd = (each_stmt_good i e part place g.0 g.1, tt)

  lead_stmt_good : (ts : List Tok) (x : TurnTree) → (lead_stmt i).reads ts x → GoodStmts i (in_turn x)
  unfolding lead_stmt
  lead_stmt_good ts x rd =
      let a = rd.0 in
      let w = rd.1.0 in
      subst (λ z. GoodStmts i (in_turn z)) (sym rd.2) (front_good a.0 a.1.0 w.1 a.1.1 (lead_good h w.0 a.1.0 w.3) w.4)

  -- a conditional statement
  branched_good : (place : Place) (c : ExprTerm) (x : Branches) (u v : List Tok) → i.flagged.reads u (Bracketed c) → (branches i).reads v x → GoodStmt i (branched place c x)
  unfolding statement if_stmt
  branched_good place c x u v rc rx o =
      let s = branched place c x in
      let head = all_spelled (print.in_round (print.expr c)) in
      let body = all_spelled (branch_pieces x) in
      let cut : all_spelled (print.stmt s) ≡ plain class.IfWord ∷ (head ++ body) = ap (λ z. plain class.IfWord ∷ z) (spelled_append (print.in_round (print.expr c)) (branch_pieces x)) in
      inr (inl (
        erase_stmt s,
        (
          (nowhere, (plain class.IfWord, (Bracketed (erase_expr c), inl (bare_branches x)))),
          ((plain class.IfWord ∷ [], head ++ body, cut, (refl, refl), (head, body, refl, h.bracketed u c rc o.0, inl (bare_branches x, (again_branches h).again v x rx (o.1, o.2, o.3), refl))), sym (spelled_head (print.stmt s))),
          λ j. IfStmt (erase_expr c) (bare_stmts x.0 j) (bare_arms x.1.0 j) (else_bare x.1.1.0 j) nowhere,
        ),
        refl,
      ))

  -- a `forEach` over a conditional
  chosen_good : (place : Place) (c : Lead) (x : Choice) (u ut v : List Tok) (t : Tok) → i.flagged.reads u c → (the class.ThenWord).reads ut t → (choice i).reads v x → GoodStmt i (chosen place (expr_of c) x)
  unfolding choice if_expr expr
  chosen_good place c x u ut v t rc rt rx =
      let e = choice_expr place (expr_of c) x.0 in
      let w = rx.3 in
      let f = rx.4 in
      let word : Tok = record { class = class.IfWord; text = []; number = pos 0; place = place } in
      let read : (if_expr i).reads (word ∷ (u ++ ((ut ++ w.0) ++ w.1))) e =
      ((place, (word, (expr_of c, (x.0.0, x.0.1)))), ((word ∷ [], u ++ ((ut ++ w.0) ++ w.1), refl, (refl, refl), (u, (ut ++ w.0) ++ w.1, refl, (c, rc, refl), (ut ++ w.0, w.1, refl, ((t, x.0.0), (ut, w.0, refl, rt, w.3), refl), w.4))), refl), refl) in
      let g = if_good h (word ∷ (u ++ ((ut ++ w.0) ++ w.1))) e read in
      let ss = steps_good h x.1.0 f.0 (turns_to (left (lead_step i)) (step i) (lead_step_step i) x.1.0 f.0 f.3) in
      each_stmt_good i (post_of place e x.1.0) x.1.1 place (post_first i place e x.1.0 g.first ss) (part_good h f.1 x.1.1 f.4)

  abbrev MadeGood : Place → Lead → Branches ⊎ Choice → Type 0
  MadeGood place c x = GoodStmt i (if_made place (expr_of c) x)

  if_rest_good : (place : Place) (c : Lead) (x : Branches ⊎ Choice) (u v : List Tok) → i.flagged.reads u c → (if_rest i c).reads v x → MadeGood place c x
  if_rest_good place (Bracketed c) x u v rc rx = elim rx [
    | inl q ↦ subst (MadeGood place (Bracketed c)) (sym q.2) (branched_good place c q.0 u v rc q.1)
    | inr q ↦ elim q.1.4 [
      | inl z ↦ subst (MadeGood place (Bracketed c)) (sym (q.2 ∙ z.2)) (branched_good place c z.0 u q.1.1 rc z.1)
      | inr z ↦ subst (MadeGood place (Bracketed c)) (sym (q.2 ∙ z.2)) (chosen_good place (Bracketed c) z.0 u q.1.0 q.1.1 q.0.0 rc q.1.3 z.1)
    ]
  ]
  if_rest_good place (Plain e target) x u v rc q = let z = q.1.4 in subst (MadeGood place (Plain e target)) (sym (q.2 ∙ z.2)) (chosen_good place (Plain e target) z.0 u q.1.0 q.1.1 q.0.0 rc q.1.3 z.1)
  if_rest_good place (Each e part) x u v rc q = let z = q.1.4 in subst (MadeGood place (Each e part)) (sym (q.2 ∙ z.2)) (chosen_good place (Each e part) z.0 u q.1.0 q.1.1 q.0.0 rc q.1.3 z.1)

  if_stmt_good : (ts : List Tok) (s : StmtTerm) → (if_stmt i).reads ts s → GoodStmt i s
  unfolding if_stmt
  if_stmt_good ts s rd =
      let a = rd.0 in
      let w = rd.1.0.4 in
      subst (GoodStmt i) (sym rd.2) (if_rest_good a.0 a.1.1.0 a.1.1.1 w.0 w.1 w.3 w.4)

  while_good : (ts : List Tok) (s : StmtTerm) → (while_stmt i).reads ts s → GoodStmt i s
  unfolding statement
  while_good ts s rd o = inr (inr (inl (erase_stmt s, (again_while_stmt h).again ts s rd o, refl)))

  var_printed : (ts : List Tok) (s : StmtTerm) → (var_stmt i).reads ts s → print.stmt s ≡ print.ended (unended s)
  unfolding var_stmt
  var_printed ts s rd = subst (λ z. print.stmt z ≡ print.ended (unended z)) (sym rd.2) refl

  return_printed : (ts : List Tok) (s : StmtTerm) → (return_stmt i).reads ts s → print.stmt s ≡ print.ended (unended s)
  unfolding return_stmt
  return_printed ts s rd = subst (λ z. print.stmt z ≡ print.ended (unended z)) (sym rd.2) refl

  var_good : (ts : List Tok) (s : StmtTerm) → (var_stmt i).reads ts s → GoodStmt i s
  unfolding statement semicolon
  var_good ts s rd = ended_good i s (var_printed ts s rd) (λ o us e. inr (inr (inr (inl ((erase_stmt s, Some (plain class.Semicolon)), (all_spelled (unended s), semi, e, (again_var_stmt h).again ts s rd o, inl (plain class.Semicolon, (refl, refl), refl)), refl)))))

  pub return_good : (ts : List Tok) (s : StmtTerm) → (return_stmt i).reads ts s → GoodStmt i s
  unfolding statement semicolon
  return_good ts s rd = ended_good i s (return_printed ts s rd) (λ o us e. inr (inr (inr (inr (inl ((erase_stmt s, Some (plain class.Semicolon)), (all_spelled (unended s), semi, e, (again_return_stmt h).again ts s rd o, inl (plain class.Semicolon, (refl, refl), refl)), refl))))))

  statement_good : (ts : List Tok) (x : TurnTree) → (statement i).reads ts x → GoodStmts i (in_turn x)
  unfolding statement
  statement_good ts x rd = elim rd [
    | inl q ↦ subst (λ z. GoodStmts i (in_turn z)) (sym q.2) tt
    | inr a ↦ elim a [
      | inl q ↦ subst (λ z. GoodStmts i (in_turn z)) (sym q.2) (if_stmt_good ts q.0 q.1, tt)
      | inr b ↦ elim b [
        | inl q ↦ subst (λ z. GoodStmts i (in_turn z)) (sym q.2) (while_good ts q.0 q.1, tt)
        | inr c ↦ elim c [
          | inl q ↦ subst (λ z. GoodStmts i (in_turn z)) (sym q.2) (simple_good q.0.0 q.0.1 (var_good q.1.0 q.0.0 q.1.3))
          | inr d ↦ elim d [
            | inl q ↦ subst (λ z. GoodStmts i (in_turn z)) (sym q.2) (simple_good q.0.0 q.0.1 (return_good q.1.0 q.0.0 q.1.3))
            | inr q ↦ lead_stmt_good ts x q
          ]
        ]
      ]
    ]
  ]

  -- lists of statements

  append_good : (xs ys : List StmtTerm) → GoodStmts i xs → GoodStmts i ys → GoodStmts i (xs ++ ys)
  append_good [] ys g k = k
  append_good (x ∷ xs) ys g k = (g.0, append_good xs ys g.1 k)

  turns_good : (got : List (List StmtTerm)) (ts : List Tok) → turns (left (statement i)) ts got → GoodStmts i (concat got)
  turns_good [] ts rd = tt
  turns_good (ss ∷ got) ts rd = append_good ss (concat got) (statement_good rd.0 (inl ss) rd.3) (turns_good got rd.1 rd.4)

  last_good : (last : Option StmtTerm) (ts : List Tok) → lastly (right (statement i)) ts last → GoodStmts i (last_of last)
  last_good None ts rd = tt
  last_good (Some s) ts rd = statement_good ts (inr s) rd

  pub statements_good : (ts : List Tok) (x : EndedBlock) → (statements i).reads ts x → GoodStmts i x.stmts
  unfolding statements
  statements_good ts x rd =
      let a = rd.0 in
      let w = rd.1 in
      subst (λ (z : EndedBlock). GoodStmts i z.stmts) (sym rd.2) (append_good (concat a.0) (last_of a.1) (turns_good a.0 w.0 w.3) (last_good a.1 w.1 w.4))

  pub block_good : (ts : List Tok) (ss : List StmtTerm) → (block i).reads ts ss → GoodStmts i ss
  unfolding block
  block_good ts ss rd = subst (GoodStmts i) (sym rd.2) (statements_good rd.1.4.0 rd.0.1.0 rd.1.4.3)

-- statements are printed each with its end

abbrev bare_turns : List StmtTerm → List (List StmtTerm)
bare_turns [] = []
bare_turns (s ∷ ss) = (erase_stmt s ∷ []) ∷ bare_turns ss

joined_turns : (ss : List StmtTerm) → concat (bare_turns ss) ≡ map erase_stmt ss
joined_turns [] = refl
joined_turns (s ∷ ss) = ap (λ z. erase_stmt s ∷ z) (joined_turns ss)

abbrev pub bare_ended : List StmtTerm → EndedBlock
bare_ended ss = record { stmts = map erase_stmt ss; open_end = false }

module _ (i : NestedLanguages) where
  print_turns : (ss : List StmtTerm) → GoodStmts i ss → ArePrintableStmts (stmts_of ss) → turns (left (statement i)) (all_spelled (print.stmts (stmts_of ss))) (bare_turns ss)
  print_turns [] g o = refl
  print_turns (s ∷ ss) g o = (all_spelled (print.stmt s), all_spelled (print.stmts (stmts_of ss)), spelled_append (print.stmt s) (print.stmts (stmts_of ss)), g.0 o.0, print_turns ss g.1 o.1)

  pub statements_again : (ss : List StmtTerm) → GoodStmts i ss → ArePrintableStmts (stmts_of ss) → (statements i).reads (all_spelled (print.stmts (stmts_of ss))) (bare_ended ss)
  unfolding statements
  statements_again ss g o =
      let ts = all_spelled (print.stmts (stmts_of ss)) in
      ((bare_turns ss, None), (ts, [], sym (append-nil ts), print_turns ss g o, refl), λ j. record { stmts = sym (append-nil (concat (bare_turns ss)) ∙ joined_turns ss) j; open_end = false })

  pub block_again : (ss : List StmtTerm) → GoodStmts i ss → ArePrintableStmts (stmts_of ss) → (block i).reads (all_spelled (print.block (stmts_of ss))) (map erase_stmt ss)
  unfolding block
  block_again ss g o =
      let ps = print.stmts (stmts_of ss) in
      ((plain class.OpenBrace, (bare_ended ss, plain class.CloseBrace)), (plain class.OpenBrace ∷ [], all_spelled ps ++ plain class.CloseBrace ∷ [], block_spelled ps ∙ ap (λ z. plain class.OpenBrace ∷ z) (spelled_append ps (print.one class.CloseBrace)), (refl, refl), (all_spelled ps, plain class.CloseBrace ∷ [], refl, statements_again ss g o, (refl, refl))), refl)
