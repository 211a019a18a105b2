-- What is kept holds of the productions of statements, but for those that begin with an expression.
use Rattle.std.specs.Prelude.{ℕ, [], ◌∷◌}
use Rattle.std.proofs.Common.{refl, ap, ℕ, List, [], ◌∷◌, ◌⊎◌, inl, inr}
use Rattle.qvt_language.specs.Tokens.{code_of, Tok, of}
use Rattle.qvt_language.specs.Firsts.{expr_first, expr_next, resolve_first, step_first}
use Rattle.qvt_language.specs.Trees.{second, inner}
use Rattle.qvt_language.specs.Grammar.{NestedLanguages, lead_step}
use Rattle.qvt_language.specs.Reading.{NestedAt, lead_step_at}
use Rattle.qvt_language.specs.Statements.{condition, var_stmt, return_stmt, arm, else_part, while_stmt, assignment, branches, choice, if_rest, if_stmt}
use Rattle.qvt_language.specs.ReadingStatements.{condition_at, var_stmt_at, return_stmt_at, arm_at, else_part_at, while_stmt_at, assignment_at, branches_at, choice_at, if_rest_at, if_stmt_at}
use Rattle.qvt_language.specs.StmtTrees.{var_of, return_of, arm_of, while_of, if_stmt_of}
use Rattle.qvt_words.specs.declared.class.Class.TheVariants.{OpenRound, CloseRound, Colon, Becomes, PlusEqual, ElifWord, ElseWord, ReturnWord, ThenWord, VarWord, WhileWord, Dot, Arrow, OpenBrace, ForEachWord, IfWord, EndifWord}
use Rattle.qvt_grammar.proofs.Firsts.{Within}
use Rattle.qvt_tree_types.specs.Tree.{StepTerm}
use Rattle.qvt_language.specs.Leads.{Lead, Bracketed, EachPart}
use Rattle.qvt_grammar.specs.Language.{then, made}
use Rattle.qvt_language.specs.Readers.{the}
use Rattle.qvt_language.proofs.Every.{turn_next, solid, later, fits, Keeping, Valuing, Forms, Inside}
use Rattle.qvt_language.specs.Grammar.{each_tail}
use Rattle.qvt_language.proofs.EveryExprs.{k_name, k_expr, k_colon_type, k_dot_step, k_arrow_rest, k_each_tail}

abbrev pub opens : List ℕ
opens = code_of OpenRound ∷ []

abbrev pub step_next : StepTerm ⊎ EachPart → List ℕ
step_next = turn_next opens []

abbrev arrow_next : Tok × (StepTerm ⊎ EachPart) → List ℕ
arrow_next x = step_next x.1

step_opens : (x : StepTerm ⊎ EachPart) → Within (of (step_next x)) (of opens)
step_opens (inl s) t h = h
step_opens (inr part) t h = absurd cc

-- after an item of a block the words of a conditional alone may go on
abbrev pub item_next : List ℕ
item_next = code_of ElifWord ∷ code_of ElseWord ∷ code_of EndifWord ∷ []

-- with what a block or the word before it begins
abbrev body_first : List ℕ
body_first = code_of OpenBrace ∷ code_of ThenWord ∷ []

module _ {K KB : Keeping} {KV : Valuing} {F : Forms K KB KV} {i j : NestedLanguages} {r : NestedAt} (h : Inside F i j r) where
  pub k_condition : K _ (solid (3 ∷ []) []) (condition i) (condition j) (condition_at r)
  unfolding condition condition_at
  k_condition = F.wider (fits refl) (F.gives inner (F.both (F.token OpenRound) (F.both (k_expr h) (F.token CloseRound) refl) refl))

  pub k_var_stmt : K _ (solid (83 ∷ []) (9 ∷ 27 ∷ expr_next)) (var_stmt i) (var_stmt j) (var_stmt_at r)
  unfolding var_stmt var_stmt_at
  k_var_stmt = F.wider (fits refl) (F.gives var_of (F.at (F.both (F.token VarWord) (F.both (k_name F) (F.both (F.perhaps (code_of Colon ∷ []) refl (k_colon_type h)) (F.perhaps (code_of Becomes ∷ []) refl (F.gives second (F.both (F.token Becomes) (k_expr h) refl))) refl) refl) refl)))

  pub k_return_stmt : K _ (solid (75 ∷ []) (10 ∷ 11 ∷ 13 ∷ 16 ∷ 17 ∷ 18 ∷ 19 ∷ 20 ∷ 21 ∷ 22 ∷ 23 ∷ 24 ∷ 26 ∷ 29 ∷ 43 ∷ 65 ∷ 87 ∷ expr_first)) (return_stmt i) (return_stmt j) (return_stmt_at r)
  unfolding return_stmt return_stmt_at
  k_return_stmt = F.wider (fits refl) (F.gives return_of (F.at (F.both (F.token ReturnWord) (F.perhaps expr_first refl (k_expr h)) refl)))

  pub k_arm : K _ (solid (34 ∷ []) []) (arm i) (arm j) (arm_at r)
  unfolding arm arm_at
  k_arm = F.wider (fits refl) (F.gives arm_of (F.both (F.token ElifWord) (F.both k_condition (F.both (F.perhaps (code_of ThenWord ∷ []) refl (F.token ThenWord)) h.block refl) refl) refl))

  pub k_else_part : K _ (solid (35 ∷ []) []) (else_part i) (else_part j) (else_part_at r)
  unfolding else_part else_part_at
  k_else_part = F.wider (fits refl) (F.gives second (F.both (F.token ElseWord) h.block refl))

  pub k_while_stmt : K _ (solid (85 ∷ []) []) (while_stmt i) (while_stmt j) (while_stmt_at r)
  unfolding while_stmt while_stmt_at
  k_while_stmt = F.wider (fits refl) (F.gives while_of (F.at (F.both (F.token WhileWord) (F.both k_condition h.block refl) refl)))

  pub k_assignment : K _ (solid (27 ∷ 28 ∷ []) expr_next) (assignment i) (assignment j) (assignment_at r)
  unfolding assignment assignment_at
  k_assignment = F.wider (fits refl) (F.both (F.one_of (code_of Becomes ∷ []) (F.token Becomes) (F.token PlusEqual) refl refl) (k_expr h) refl)

  -- after a step arguments may go on, after a `forEach` nothing
  pub v_lead_step : KV _ (solid step_first step_next) (lead_step i) (lead_step j) (lead_step_at r)
  unfolding lead_step lead_step_at
  v_lead_step = F.value_wider step_first refl (F.value_one_of (code_of Dot ∷ [])
      (F.value_gives inl step_next (λ _ t q. q) (F.valued (F.wider {t = solid (code_of Dot ∷ []) opens} (fits refl) (k_dot_step h))))
      (F.value_gives second step_next (λ _ t q. q) (F.value_depending arrow_next (F.valued (F.token Arrow))
      (λ _. F.value_one_of (code_of ForEachWord ∷ [])
      (F.value_gives inr step_next (λ _ t q. q) (F.valued (k_each_tail h)))
      (F.value_gives inl step_next (λ _ t q. q) (F.valued (F.wider {t = solid (0 ∷ 57 ∷ 86 ∷ resolve_first) opens} (fits refl) (k_arrow_rest h))))
      refl refl)
      (λ _. refl) (λ _ _ _ t q. absurd cc) (λ _ _ t q. q)))
      refl refl)

  pub k_lead_step : K _ (solid step_first opens) (lead_step i) (lead_step j) (lead_step_at r)
  k_lead_step = F.alike opens step_opens v_lead_step

  each_last : (ts : List Tok) (part : EachPart) → (made second (then (the Arrow) (each_tail j))).reads ts part → (lead_step j).reads ts (inr part)
  unfolding lead_step
  each_last ts part (x, (u, v, e, a, rd), q) = inr ((x.0, inr x.1), (u, v, e, a, inl (x.1, rd, refl)), ap inr q)

  pub k_branches : K _ (later (code_of OpenBrace ∷ []) item_next) (branches i) (branches j) (branches_at r)
  unfolding branches branches_at
  k_branches = F.wider (fits refl) (F.both h.block
      (F.both (F.turns (code_of ElifWord ∷ []) refl refl k_arm) (F.both (F.perhaps (code_of ElseWord ∷ []) refl k_else_part) (F.perhaps (code_of EndifWord ∷ []) refl (F.token EndifWord)) refl) refl) refl)

  pub k_choice : K _ (later expr_first []) (choice i) (choice j) (choice_at r)
  unfolding choice choice_at
  k_choice = F.both (F.both (k_expr h) (F.gives inner (F.both (F.token ElseWord) (F.both (k_expr h) (F.token EndifWord) refl) refl)) refl)
      (F.last_of step_first opens [] refl refl v_lead_step (F.gives second (F.both (F.token Arrow) (k_each_tail h) refl)) each_last) refl

  k_if_rest : (x : Lead) → K _ (later body_first item_next) (if_rest i x) (if_rest j x) (if_rest_at r x)
  k_if_rest (Bracketed c) = F.wider (fits refl) (F.one_of (code_of OpenBrace ∷ []) (F.gives inl k_branches)
      (F.gives second (F.both (F.token ThenWord) (F.one_of (code_of OpenBrace ∷ []) (F.gives inl k_branches) (F.gives inr k_choice) refl refl) refl)) refl refl)
  k_if_rest x = F.wider (fits refl) (F.gives second (F.both (F.token ThenWord) (F.gives inr k_choice) refl))

  pub k_if_stmt : K _ (solid (code_of IfWord ∷ []) item_next) (if_stmt i) (if_stmt j) (if_stmt_at r)
  unfolding if_stmt if_stmt_at
  k_if_stmt = F.gives if_stmt_of (F.at (F.both (F.token IfWord) (F.depending h.flagged k_if_rest refl) refl))
