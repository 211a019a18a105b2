-- The rows of statements and blocks.
use Rattle.std.proofs.Common.{◌≡◌, ℕ, suc, List, [], ◌∷◌, ◌++◌, Bool, true, false, inl, inr, refl, sym, ap, ◌∙◌, subst, append-nil, Option, Some, None}
use Rattle.qvt_base.specs.declared.numbers.Place.{Place}
use Rattle.qvt_grammar.specs.Language.{Language, head_of}
use Rattle.qvt_grammar.specs.Language as language
use Rattle.qvt_grammar.proofs.Firsts.{Firsts}
use Rattle.qvt_grammar.proofs.Lists.{regroup, grouped}
use Rattle.qvt_tree_types.specs.Tree.{ExprTerm, StmtTerm, ValueStmt, AssignStmt, TargetTerm}
use Rattle.qvt_language.specs.Tokens.{Tok, is, of, code_of}
use Rattle.qvt_language.specs.declared.class.Class.TheVariants as class
use Rattle.qvt_language.specs.Firsts.{primary_first}
use Rattle.qvt_language.specs.Readers.{nowhere}
use Rattle.qvt_language.specs.Series.{left, right}
use Rattle.qvt_language.specs.Leads.{Lead, Plain, Bracketed, Each, EachPart, EndedBlock}
use Rattle.qvt_language.specs.Trees.{is_there, expr_of, post_of}
use Rattle.qvt_language.specs.StmtTrees.{IsPlainLead, var_of, return_of, arm_of, while_of, for_each_of, TurnTree, simple_turn, is_adding, written, Tail, lead_turn, concat, last_of}
use Rattle.qvt_language.specs.Conditionals.{block_form_of, block_form, if_forms}
use Rattle.qvt_language.specs.Grammar.{primary, lead}
use Rattle.qvt_language.specs.Statements.{condition, var_stmt, return_stmt, arm, else_part, branches, if_stmt, while_stmt, assignment, semicolon, lead_tail, lead_stmt, statement, statements, block}
use Rattle.qvt_language.specs.Nesting.{nested}
use Rattle.qvt_language.proofs.Sets.{none_in, apart}
use Rattle.qvt_language.proofs.EveryExprs.{k_primary as good_primary}
use Rattle.qvt_language.proofs.EveryStmts.{k_var_stmt as good_var_stmt, k_return_stmt as good_return_stmt}
use Rattle.qvt_language.proofs.EveryBlocks.{v_lead as goodv_lead, v_statement as goodv_statement}
use Rattle.qvt_language.proofs.GoodNesting.{good_same, good_nested}
use Rattle.qvt_language.proofs.Conditionals.{forms_of, stmt_of}
use Rattle.qvt_language_rows.specs.Phrase.{Phrase, ◌or◌, ◌gives◌, ◌then◌, the, many, maybe, placed, after, before, between}
use Rattle.qvt_language_rows.specs.Values.{no_stmts, single, with_last}
use Rattle.qvt_language_rows.specs.Rows.{NestedRows, NameRow, TypeRow, ExprRow, TargetRow, SimpleRow, CompoundRow, ItemsRow, BlockRow}
use Rattle.qvt_language_rows.proofs.Ties.{Ties, ties_the, ties_then, ties_or, ties_gives, ties_many, ties_maybe, ties_placed, ties_after, ties_between}
use Rattle.qvt_language_rows.proofs.Plain.{TiesInside, ties_name, ties_colon_type}
use Rattle.qvt_language_rows.proofs.Primaries.{ties_if, at_if}
use Rattle.qvt_language_rows.proofs.Operands.{same_place, NoIf, no_if_first, no_if_more, loop_row, loop_to, loop_of_row, target_of}
use Rattle.qvt_language_rows.proofs.Levels.{lead_to, lead_of}

not_true : (b : Bool) → (b ≡ true → ⊥) → b ≡ false
not_true true n = absurd (n refl)
not_true false n = refl

-- what begins with no `if`
no_if : {A : Type 0} (first : List ℕ) (l : Language Tok A) → Firsts (of first) l → none_in first (code_of class.IfWord ∷ []) ≡ true → (ts : List Tok) (a : A) → l.reads ts a → NoIf ts
no_if first l f w [] a rd = refl
no_if first l f w (t ∷ ts) a rd = not_true (is class.IfWord t) (λ q. apart first (code_of class.IfWord ∷ []) w t (f.begins t ts (f.whole (t ∷ ts) a rd)) q)

-- the items of a block, one by one
abbrev pub item_row : NestedRows → Phrase (List StmtTerm)
item_row j = the class.Semicolon gives no_stmts or before (SimpleRow j) class.Semicolon gives single or CompoundRow j gives single

-- what a turn of the parser is: an item, or a Simple without its `;`
abbrev pub TurnMeans : NestedRows → List Tok → TurnTree → Type 0
TurnMeans j ts (inl ss) = item_row j ts ss
TurnMeans j ts (inr s) = SimpleRow j ts s

-- the statements of a block, with what the parser keeps of the last
abbrev pub ended_from : List StmtTerm × Option StmtTerm → EndedBlock
ended_from (all, last) = record { stmts = all ++ last_of last; open_end = is_there last }

module _ (n m : ℕ) {j : NestedRows} (h : TiesInside (nested n) j (nested m)) where
  abbrev pub solid_i : (x : ExprTerm × Bool) → (primary (nested n)).reads [] x → ⊥
  solid_i = (good_primary (good_same n)).solid

  abbrev pub solid_k : (x : ExprTerm × Bool) → (primary (nested m)).reads [] x → ⊥
  solid_k = (good_primary (good_same m)).solid

  ties_condition : Ties (condition (nested n)) (between class.OpenRound j.expr class.CloseRound) (condition (nested m))
  unfolding condition
  ties_condition = ties_between class.OpenRound class.CloseRound h.expr

  ties_var : Ties (var_stmt (nested n)) (placed (the class.VarWord then NameRow then maybe (after class.Colon (TypeRow j)) then maybe (after class.Becomes j.expr)) gives var_of) (var_stmt (nested m))
  unfolding var_stmt
  ties_var = ties_gives var_of (ties_placed (ties_then (ties_the class.VarWord) (ties_then ties_name (ties_then (ties_maybe (ties_colon_type h)) (ties_maybe (ties_after class.Becomes h.expr))))))

  ties_return : Ties (return_stmt (nested n)) (placed (the class.ReturnWord then maybe j.expr) gives return_of) (return_stmt (nested m))
  unfolding return_stmt
  ties_return = ties_gives return_of (ties_placed (ties_then (ties_the class.ReturnWord) (ties_maybe h.expr)))

  ties_arm : Ties (arm (nested n)) (the class.ElifWord then between class.OpenRound j.expr class.CloseRound then maybe (the class.ThenWord) then j.block gives arm_of) (arm (nested m))
  unfolding arm
  ties_arm = ties_gives arm_of (ties_then (ties_the class.ElifWord) (ties_then ties_condition (ties_then (ties_maybe (ties_the class.ThenWord)) h.block)))

  abbrev if_row : Phrase StmtTerm
  if_row = placed (the class.IfWord then between class.OpenRound j.expr class.CloseRound then maybe (the class.ThenWord) then j.block
      then many (the class.ElifWord then between class.OpenRound j.expr class.CloseRound then maybe (the class.ThenWord) then j.block gives arm_of)
      then maybe (after class.ElseWord j.block) then maybe (the class.EndifWord)) gives block_form_of

  ties_blocks : Ties (block_form (nested n)) if_row (block_form (nested m))
  unfolding branches else_part
  ties_blocks = ties_gives block_form_of (ties_placed (ties_then (ties_the class.IfWord) (ties_then ties_condition (ties_then (ties_maybe (ties_the class.ThenWord))
      (ties_then h.block (ties_then (ties_many ties_arm) (ties_then (ties_maybe (ties_after class.ElseWord h.block)) (ties_maybe (ties_the class.EndifWord)))))))))

  ties_while : Ties (while_stmt (nested n)) (placed (the class.WhileWord then between class.OpenRound j.expr class.CloseRound then j.block) gives while_of) (while_stmt (nested m))
  unfolding while_stmt
  ties_while = ties_gives while_of (ties_placed (ties_then (ties_the class.WhileWord) (ties_then ties_condition h.block)))

  ties_assignment : Ties (assignment (nested n)) ((the class.Becomes or the class.PlusEqual) then j.expr) (assignment (nested m))
  unfolding assignment
  ties_assignment = ties_then (ties_or (ties_the class.Becomes) (ties_the class.PlusEqual)) h.expr

  -- from the parser's statements

  loop_compound : (ts : List Tok) (place : Place) (source : ExprTerm) (part : EachPart) → place ≡ head_of (λ t. t.place) nowhere ts → loop_row j ts (source, part) → CompoundRow j ts (for_each_of source part place)
  unfolding CompoundRow
  loop_compound ts place source part at rd = inr (inr ((place, (source, part)), (rd, at), refl))

  block_compound : (ts : List Tok) (s : StmtTerm) → if_row ts s → CompoundRow j ts s
  unfolding CompoundRow
  block_compound ts s rd = inl rd

  form_to : (ts : List Tok) (s : StmtTerm) → (if_forms (nested n)).reads ts s → CompoundRow j ts s
  form_to ts s (inl rd) = block_compound ts s (ties_blocks.to ts s rd)
  form_to ts s (inr (x, ((a, b, cut, cond, (v, w, e, more, last)), at), q)) =
      subst (λ z. CompoundRow j ts z) (sym q) (loop_compound ts x.0 (post_of x.0 x.1.0 x.1.1.0) x.1.1.1 at
      (loop_to h solid_i solid_k ts a v w x.0 x.1.0 x.1.1.0 x.1.1.1 (cut ∙ ap (λ z. a ++ z) e) at (at_if h a x.1.0 ((ties_if h).to a x.1.0 cond)) more last))

  if_to : (ts : List Tok) (s : StmtTerm) → (if_stmt (nested n)).reads ts s → CompoundRow j ts s
  if_to ts s rd = form_to ts s (forms_of n ts s rd)

  -- with the `;` that may follow it
  simple_means : (ts u v : List Tok) (s : StmtTerm) (o : Option Tok) → ts ≡ u ++ v → SimpleRow j u s → semicolon.reads v o → TurnMeans j ts (simple_turn (s, o))
  unfolding semicolon
  simple_means ts u v s None cut rd (inl (t, tk, q)) = absurd cc
  simple_means ts u v s None cut rd (inr (x, n, q)) = subst (λ z. SimpleRow j z s) (sym (cut ∙ ap (λ z. u ++ z) n ∙ append-nil u)) rd
  simple_means ts u v s (Some t) cut rd (inl (x, tk, q)) = inr (inl (s, ((s, x), (u, v, cut, rd, tk), refl), refl))
  simple_means ts u v s (Some t) cut rd (inr (x, n, q)) = absurd cc

  var_simple : (ts : List Tok) (s : StmtTerm) → (var_stmt (nested n)).reads ts s → SimpleRow j ts s
  unfolding SimpleRow
  var_simple ts s rd = (inl (ties_var.to ts s rd), no_if (code_of class.VarWord ∷ []) (var_stmt (nested n)) (good_var_stmt (good_same n)).loose.firsts refl ts s rd)

  return_simple : (ts : List Tok) (s : StmtTerm) → (return_stmt (nested n)).reads ts s → SimpleRow j ts s
  unfolding SimpleRow
  return_simple ts s rd = (inr (inr (inl (ties_return.to ts s rd))), no_if (code_of class.ReturnWord ∷ []) (return_stmt (nested n)) (good_return_stmt (good_same n)).loose.firsts refl ts s rd)

  -- an expression at the front of a statement
  lead_no_if : (ts : List Tok) (x : Lead) → (lead (nested n)).reads ts x → NoIf ts
  lead_no_if ts x rd = no_if (code_of class.NotWord ∷ code_of class.MinusSign ∷ primary_first) (lead (nested n)) (goodv_lead (good_same n)).loose.firsts refl ts x rd

  lead_some : (ts : List Tok) (x : Lead) → (lead (nested n)).reads ts x → ts ≡ [] → ⊥
  lead_some ts x rd e = (goodv_lead (good_same n)).solid x (subst (λ z. (lead (nested n)).reads z x) e rd)

  value_simple : (ts u v : List Tok) (place : Place) (e : ExprTerm) (x : Lead) → ts ≡ u ++ v → place ≡ head_of (λ t. t.place) nowhere ts → (lead (nested n)).reads u x → ExprRow j u e → SimpleRow j u (ValueStmt e place)
  unfolding SimpleRow
  value_simple ts u v place e x cut at ld rd = (
    inr (inr (inr ((place, e), (rd, at ∙ ap (head_of (λ t. t.place) nowhere) cut ∙ same_place u v [] (lead_some u x ld) ∙ ap (head_of (λ t. t.place) nowhere) (append-nil u)), refl))),
    lead_no_if u x ld,
  )

  assign_simple : (u v : List Tok) (e : ExprTerm) (t : TargetTerm) (sign : Tok) (value : ExprTerm) → (lead (nested n)).reads u (Plain e (Some t)) → TargetRow j u t → (assignment (nested n)).reads v (sign, value) → SimpleRow j (u ++ v) (AssignStmt t (is_adding sign.class) value sign.place)
  unfolding SimpleRow
  assign_simple u v e t sign value ld tg rd = (inr (inl ((t, (sign, value)), (u, v, refl, tg, ties_assignment.to v (sign, value) rd), refl)), no_if_more u v (lead_some u (Plain e (Some t)) ld) (lead_no_if u (Plain e (Some t)) ld))

  value_turn : (ts u v : List Tok) (place : Place) (e : ExprTerm) (x : Lead) (o : Option Tok) → ts ≡ u ++ v → place ≡ head_of (λ t. t.place) nowhere ts → (lead (nested n)).reads u x → ExprRow j u e → semicolon.reads v o → TurnMeans j ts (simple_turn (ValueStmt e place, o))
  value_turn ts u v place e x o cut at ld rd semi = simple_means ts u v (ValueStmt e place) o cut (value_simple ts u v place e x cut at ld rd) semi

  lead_means : (ts u v : List Tok) (place : Place) (x : Lead) (tail : Tail) → ts ≡ u ++ v → place ≡ head_of (λ t. t.place) nowhere ts → (lead (nested n)).reads u x → (lead_tail (nested n) x).reads v tail → TurnMeans j ts (lead_turn (place, (x, tail)))
  lead_means ts u v place (Plain e None) tail cut at ld (o, semi, q) =
      subst (λ z. TurnMeans j ts (lead_turn (place, (Plain e None, z)))) (sym q) (value_turn ts u v place e (Plain e None) o cut at ld (lead_to h solid_i solid_k u (Plain e None) ld) semi)
  lead_means ts u v place (Bracketed e) tail cut at ld (o, semi, q) =
      subst (λ z. TurnMeans j ts (lead_turn (place, (Bracketed e, z)))) (sym q) (value_turn ts u v place e (Bracketed e) o cut at ld (lead_to h solid_i solid_k u (Bracketed e) ld) semi)
  lead_means ts u v place (Plain e (Some t)) (a, o) cut at ld (a1, a2, cut2, (inl (y, asg, q)), semi) =
      subst (λ z. TurnMeans j ts (simple_turn (written place e (Some t) z, o))) (sym q)
      (simple_means ts (u ++ a1) a2 (AssignStmt t (is_adding y.0.class) y.1 y.0.place) o (grouped ts v a2 u a1 cut cut2) (assign_simple u a1 e t y.0 y.1 ld (lead_to h solid_i solid_k u (Plain e (Some t)) ld).1 asg) semi)
  lead_means ts u v place (Plain e (Some t)) (a, o) cut at ld (a1, a2, cut2, (inr (y, none, q)), semi) =
      subst (λ z. TurnMeans j ts (simple_turn (written place e (Some t) z, o))) (sym q)
      (value_turn ts u a2 place e (Plain e (Some t)) o (cut ∙ ap (λ z. u ++ z) (cut2 ∙ ap (λ z. z ++ a2) none)) at ld (lead_to h solid_i solid_k u (Plain e (Some t)) ld).0 semi)
  lead_means ts u v place (Each e part) tail cut at ld (o, none, q) =
      let same : ts ≡ u = cut ∙ ap (λ z. u ++ z) none ∙ append-nil u in
      inr (inr (for_each_of e part place, loop_compound ts place e part at (subst (λ z. loop_row j z (e, part)) (sym same) (lead_to h solid_i solid_k u (Each e part) ld)), refl))

  while_compound : (ts : List Tok) (s : StmtTerm) → (while_stmt (nested n)).reads ts s → CompoundRow j ts s
  unfolding CompoundRow
  while_compound ts s rd = inr (inl (ties_while.to ts s rd))

  statement_to : (ts : List Tok) (t : TurnTree) → (statement (nested n)).reads ts t → TurnMeans j ts t
  unfolding statement lead_stmt
  statement_to ts t (inl (x, rd, q)) = subst (λ z. TurnMeans j ts z) (sym q) (inl (x, rd, refl))
  statement_to ts t (inr (inl (s, rd, q))) = subst (λ z. TurnMeans j ts z) (sym q) (inr (inr (s, if_to ts s rd, refl)))
  statement_to ts t (inr (inr (inl (s, rd, q)))) = subst (λ z. TurnMeans j ts z) (sym q) (inr (inr (s, while_compound ts s rd, refl)))
  statement_to ts t (inr (inr (inr (inl (x, (u, v, cut, rd, semi), q))))) = subst (λ z. TurnMeans j ts z) (sym q) (simple_means ts u v x.0 x.1 cut (var_simple u x.0 rd) semi)
  statement_to ts t (inr (inr (inr (inr (inl (x, (u, v, cut, rd, semi), q)))))) = subst (λ z. TurnMeans j ts z) (sym q) (simple_means ts u v x.0 x.1 cut (return_simple u x.0 rd) semi)
  statement_to ts t (inr (inr (inr (inr (inr (y, ((u, v, cut, rd, tail), at), q)))))) = subst (λ z. TurnMeans j ts z) (sym q) (lead_means ts u v y.0 y.1.0 y.1.1 cut at rd tail)

  items_to : (got : List (List StmtTerm)) (ts : List Tok) → language.turns (left (statement (nested n))) ts got → many (item_row j) ts got
  items_to [] ts rd = rd
  items_to (ss ∷ got) ts (u, v, e, rd, more) = (u, v, e, statement_to u (inl ss) rd, items_to got v more)

  last_to : (o : Option StmtTerm) (ts : List Tok) → language.lastly (right (statement (nested n))) ts o → maybe (SimpleRow j) ts o
  last_to None ts rd = inr (tt, rd, refl)
  last_to (Some s) ts rd = inl (s, statement_to ts (inr s) rd, refl)

  pub statements_to : (ts : List Tok) (x : EndedBlock) → (statements (nested n)).reads ts x → (c : List StmtTerm × Option StmtTerm) × (ItemsRow j then maybe (SimpleRow j)) ts c × (x ≡ ended_from c)
  unfolding statements ItemsRow
  statements_to ts x (y, (u, v, cut, all, last), q) = ((concat y.0, y.1), (u, v, cut, (y.0, items_to y.0 u all, refl), last_to y.1 v last), q)

  -- and to them

  up : (ts : List Tok) (t : TurnTree) → (statement (nested m)).reads ts t → (statement (nested (suc m))).reads ts t
  up = (goodv_statement (good_nested m)).loose.sub.reads

  value_lead : (ts u v : List Tok) (x : Lead) (o : Option Tok) → ts ≡ u ++ v → IsPlainLead x → (lead (nested m)).reads u x → semicolon.reads v o → (lead_stmt (nested m)).reads ts (simple_turn (ValueStmt (expr_of x) (head_of (λ t. t.place) nowhere ts), o))
  unfolding lead_stmt
  value_lead ts u v (Plain e None) o cut plain ld semi = ((head_of (λ t. t.place) nowhere ts, (Plain e None, (None, o))), ((u, v, cut, ld, (o, semi, refl)), refl), refl)
  value_lead ts u v (Bracketed e) o cut plain ld semi = ((head_of (λ t. t.place) nowhere ts, (Bracketed e, (None, o))), ((u, v, cut, ld, (o, semi, refl)), refl), refl)
  value_lead ts u v (Plain e (Some t)) o cut plain ld semi = ((head_of (λ t. t.place) nowhere ts, (Plain e (Some t), (None, o))), ((u, v, cut, ld, ([], v, refl, inr (tt, refl, refl), semi)), refl), refl)
  value_lead ts u v (Each e part) o cut plain ld semi = absurd plain

  assign_lead : (ts a b v : List Tok) (e : ExprTerm) (t : TargetTerm) (sign : Tok) (value : ExprTerm) (o : Option Tok) → ts ≡ a ++ (b ++ v) → (lead (nested m)).reads a (Plain e (Some t)) → (assignment (nested m)).reads b (sign, value) → semicolon.reads v o
      → (lead_stmt (nested m)).reads ts (simple_turn (AssignStmt t (is_adding sign.class) value sign.place, o))
  unfolding lead_stmt
  assign_lead ts a b v e t sign value o cut ld asg semi = ((head_of (λ t. t.place) nowhere ts, (Plain e (Some t), (Some (sign, value), o))), ((a, b ++ v, cut, ld, (b, v, refl, inl ((sign, value), asg, refl), semi)), refl), refl)

  lead_turn_of : (ts : List Tok) (t : TurnTree) → (lead_stmt (nested m)).reads ts t → (statement (nested m)).reads ts t
  unfolding statement
  lead_turn_of ts t rd = inr (inr (inr (inr (inr rd))))

  lead_some_k : (ts : List Tok) (x : Lead) → (lead (nested m)).reads ts x → ts ≡ [] → ⊥
  lead_some_k ts x rd e = (goodv_lead (good_same m)).solid x (subst (λ z. (lead (nested m)).reads z x) e rd)

  value_of_row : (ts u v : List Tok) (place : Place) (e : ExprTerm) (o : Option Tok) → ts ≡ u ++ v → NoIf u → place ≡ head_of (λ t. t.place) nowhere u → ExprRow j u e → semicolon.reads v o → (statement (nested m)).reads ts (simple_turn (ValueStmt e place, o))
  value_of_row ts u v place e o cut g at rd semi =
      let w = lead_of h solid_i solid_k u e g rd in
      let here : place ≡ head_of (λ t. t.place) nowhere ts = at ∙ sym (ap (head_of (λ t. t.place) nowhere) (append-nil u)) ∙ same_place u [] v (lead_some_k u w.0 w.1) ∙ sym (ap (head_of (λ t. t.place) nowhere) cut) in
      lead_turn_of ts (simple_turn (ValueStmt e place, o)) (subst (λ z. (lead_stmt (nested m)).reads ts (simple_turn (ValueStmt z place, o))) (sym w.2)
      (subst (λ z. (lead_stmt (nested m)).reads ts (simple_turn (ValueStmt (expr_of w.0) z, o))) (sym here) (value_lead ts u v w.0 o cut w.3 w.1 semi)))

  simple_of : (ts u v : List Tok) (s : StmtTerm) (o : Option Tok) → ts ≡ u ++ v → SimpleRow j u s → semicolon.reads v o → (statement (nested m)).reads ts (simple_turn (s, o))
  unfolding SimpleRow statement
  simple_of ts u v s o cut ((inl rd), g) semi = inr (inr (inr (inl ((s, o), (u, v, cut, ties_var.of u s rd, semi), refl))))
  simple_of ts u v s o cut ((inr (inl (x, (a, b, cut1, tg, asg), q))), g) semi =
      let w = target_of h solid_i solid_k a x.0 (no_if_first a b (subst NoIf cut1 g)) tg in
      subst (λ z. (statement (nested m)).reads ts (simple_turn (z, o))) (sym q)
      (lead_turn_of ts _ (assign_lead ts a b v w.0 x.0 x.1.0 x.1.1 o (regroup ts u v a b cut cut1) w.1 (ties_assignment.of b x.1 asg) semi))
  simple_of ts u v s o cut ((inr (inr (inl rd))), g) semi = inr (inr (inr (inr (inl ((s, o), (u, v, cut, ties_return.of u s rd, semi), refl)))))
  simple_of ts u v s o cut ((inr (inr (inr (x, (rd, at), q)))), g) semi =
      subst (λ z. (statement (nested m)).reads ts (simple_turn (z, o))) (sym q) (value_of_row ts u v x.0 x.1 o cut g at rd semi)

  each_lead_stmt : (ts : List Tok) (e : ExprTerm) (part : EachPart) → (lead (nested m)).reads ts (Each e part) → (lead_stmt (nested m)).reads ts (inl (for_each_of e part (head_of (λ t. t.place) nowhere ts) ∷ []))
  unfolding lead_stmt
  each_lead_stmt ts e part ld = ((head_of (λ t. t.place) nowhere ts, (Each e part, (None, None))), ((ts, [], sym (append-nil ts), ld, (tt, refl, refl)), refl), refl)

  if_statement : (ts : List Tok) (s : StmtTerm) → (if_stmt (nested (suc m))).reads ts s → (statement (nested (suc m))).reads ts (inl (s ∷ []))
  unfolding statement
  if_statement ts s rd = inr (inl (s, rd, refl))

  while_statement : (ts : List Tok) (s : StmtTerm) → (while_stmt (nested m)).reads ts s → (statement (nested m)).reads ts (inl (s ∷ []))
  unfolding statement
  while_statement ts s rd = inr (inr (inl (s, rd, refl)))

  compound_of : (ts : List Tok) (s : StmtTerm) → CompoundRow j ts s → (statement (nested (suc m))).reads ts (inl (s ∷ []))
  unfolding CompoundRow
  compound_of ts s (inl rd) = if_statement ts s (stmt_of m ts s (inl (ties_blocks.of ts s rd)))
  compound_of ts s (inr (inl rd)) = up ts (inl (s ∷ [])) (while_statement ts s (ties_while.of ts s rd))
  compound_of ts s (inr (inr (x, (rd, at), q))) = elim (loop_of_row h solid_i solid_k ts x.1 rd) [
    | inl ld ↦ (let same : s ≡ for_each_of x.1.0 x.1.1 (head_of (λ t. t.place) nowhere ts) = q ∙ ap (λ z. for_each_of x.1.0 x.1.1 z) at in
        subst (λ z. (statement (nested (suc m))).reads ts (inl (z ∷ []))) (sym same) (up ts _ (lead_turn_of ts _ (each_lead_stmt ts x.1.0 x.1.1 ld))))
    | inr w ↦ (let same : s ≡ for_each_of (post_of w.0 w.1 w.2) x.1.1 w.0 = q ∙ ap (λ z. for_each_of z x.1.1 x.0) w.5 ∙ ap (λ z. for_each_of (post_of w.0 w.1 w.2) x.1.1 z) (at ∙ sym w.6) in
        if_statement ts s (stmt_of m ts s (inr ((w.0, (w.1, (w.2, x.1.1))), ((w.3, w.4, w.7, w.8, w.9), w.6), same))))
  ]

  item_of_row : (ts : List Tok) (ss : List StmtTerm) → item_row j ts ss → (statement (nested (suc m))).reads ts (inl ss)
  unfolding statement semicolon
  item_of_row ts ss (inl (t, rd, q)) = inl (t, rd, ap inl q)
  item_of_row ts ss (inr (inl (s, (x, (u, v, cut, rd, tk), d), q))) =
      subst (λ z. (statement (nested (suc m))).reads ts (inl z)) (sym (q ∙ ap single d)) (up ts _ (simple_of ts u v x.0 (Some x.1) cut rd (inl (x.1, tk, refl))))
  item_of_row ts ss (inr (inr (s, rd, q))) = subst (λ z. (statement (nested (suc m))).reads ts (inl z)) (sym q) (compound_of ts s rd)

  last_of_row : (ts : List Tok) (s : StmtTerm) → SimpleRow j ts s → (statement (nested (suc m))).reads ts (inr s)
  unfolding semicolon
  last_of_row ts s rd = up ts (inr s) (simple_of ts ts [] s None (sym (append-nil ts)) rd (inr (tt, refl, refl)))

  items_of : (got : List (List StmtTerm)) (ts : List Tok) → many (item_row j) ts got → language.turns (left (statement (nested (suc m)))) ts got
  items_of [] ts rd = rd
  items_of (ss ∷ got) ts (u, v, e, rd, all) = (u, v, e, item_of_row u ss rd, items_of got v all)

  lastly_of : (o : Option StmtTerm) (ts : List Tok) → maybe (SimpleRow j) ts o → language.lastly (right (statement (nested (suc m)))) ts o
  lastly_of None ts (inl (s, rd, q)) = absurd cc
  lastly_of None ts (inr (x, n, q)) = n
  lastly_of (Some s) ts (inl (x, rd, q)) = (let k : s ≡ x = cc in subst (λ z. (statement (nested (suc m))).reads ts (inr z)) (sym k) (last_of_row ts x rd))
  lastly_of (Some s) ts (inr (x, n, q)) = absurd cc

  pub statements_of : (ts : List Tok) (c : List StmtTerm × Option StmtTerm) → (ItemsRow j then maybe (SimpleRow j)) ts c → (statements (nested (suc m))).reads ts (ended_from c)
  unfolding statements ItemsRow
  statements_of ts c (u, v, cut, (got, all, q), last) = ((got, c.1), (u, v, cut, items_of got u all, lastly_of c.1 v last), λ i. ended_from (q i, c.1))

  pub ties_block : Ties (block (nested n)) (BlockRow j) (block (nested (suc m)))
  unfolding block BlockRow
  ties_block = record {
    to = λ ts a (x, (u, v, e, op, (v1, v2, e1, st, cl)), q). (let w = statements_to v1 x.1.0 st in
        ((x.0, (with_last w.0, x.1.1)), (u, v, e, op, (v1, v2, e1, (w.0, w.1, refl), cl)), q ∙ ap (λ z. z.stmts) w.2));
    of = λ ts a (x, (u, v, e, op, (v1, v2, e1, (c, rd, d), cl)), q). ((x.0, (ended_from c, x.1.1)), (u, v, e, op, (v1, v2, e1, statements_of v1 c rd, cl)), q ∙ d);
  }
