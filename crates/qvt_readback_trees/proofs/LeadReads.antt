-- Expressions at the front of a statement are read again: values, targets and sources of a `forEach`.
use Rattle.std.proofs.Common.{◌≡◌, ℕ, List, [], ◌∷◌, ◌++◌, Bool, true, false, if◌then◌else◌, inl, inr, refl, sym, ap, ◌∙◌, subst, Option, Some, None, append-nil, append_assoc, arith}
use Rattle.qvt_base.specs.declared.numbers.Place.{Place}
use Rattle.qvt_tree_types.specs.Tree.{ExprTerm, StepTerm, TargetTerm, BareTarget, ResultTarget, MemberTarget, PathExpr, ResultExpr, ChainExpr, PrefixExpr, DotStep, NoArgs}
use Rattle.qvt_tree.specs.Shape.{nowhere, erase_expr}
use Rattle.qvt_grammar.specs.Language.{Language, turns, lastly, head_of}
use Rattle.qvt_language.specs.Tokens.{Tok}
use Rattle.qvt_language.specs.declared.class.Class.TheVariants as class
use Rattle.qvt_language.specs.Leads.{Lead, Plain, Bracketed, Each, EachPart}
use Rattle.qvt_language.specs.Series.{left, right}
use Rattle.qvt_language.specs.Trees.{post_of, each_lead, split_last, member_of}
use Rattle.qvt_language.specs.Grammar.{NestedLanguages, name, more_names, named_expr, word, bare_expr, other_primary, pre, chain, lead_post, lead_pre, lead, lead_step, step, dot_step, dot_rest}
use Rattle.qvt_printer.specs.Expressions as print
use Rattle.qvt_printer.specs.Levels.{is_as_loose, is_chain, is_chain_or_prefix}
use Rattle.qvt_readback_tokens.specs.Spelled.{all_spelled}
use Rattle.qvt_readback_trees.specs.Printable.{begins_with_if}
use Rattle.qvt_readback_trees.proofs.Spelling.{plain, plain_name, spelled_append, spelled_head}
use Rattle.qvt_readback_trees.proofs.Forms.{Bracket, NeedsBracket, Form}
use Rattle.qvt_readback_trees.proofs.FormReads.{PostParts, post_parts, plain_lead, bracket_primary, signed_reads, opens_with_if}
use Rattle.qvt_readback_trees.proofs.ChainReads.{Opens, raise, whole_reads}

abbrev FirstNowhere : List Tok → Type 0
FirstNowhere ts = head_of (λ t. t.place) nowhere ts ≡ nowhere

pub turns_append : {T A : Type 0} (l : Language T A) (u v : List T) (xs ys : List A) → turns l u xs → turns l v ys → turns l (u ++ v) (xs ++ ys)
turns_append l u v [] ys h k = subst (λ z. turns l (z ++ v) ys) (sym h) k
turns_append l u v (x ∷ xs) ys h k = (h.0, h.1 ++ v, ap (λ z. z ++ v) h.2 ∙ append_assoc h.0 h.1 v, h.3, turns_append l h.1 v xs ys h.4 k)

pub turns_to : {T A : Type 0} (l m : Language T A) → ((ts : List T) (a : A) → l.reads ts a → m.reads ts a) → (xs : List A) (u : List T) → turns l u xs → turns m u xs
turns_to l m w [] u h = h
turns_to l m w (x ∷ xs) u h = (h.0, h.1, h.2, w h.0 x h.3, turns_to l m w xs h.1 h.4)

module _ (i : NestedLanguages) where
  pub step_lead : (ts : List Tok) (s : StepTerm) → (step i).reads ts s → (lead_step i).reads ts (inl s)
  unfolding step lead_step
  step_lead ts s rd = elim rd [
    | inl d ↦ inl (s, d, refl)
    | inr w ↦ inr ((w.0.0, inl w.0.1), (w.1.0, w.1.1, w.1.2, w.1.3, inr (w.0.1, w.1.4, refl)), ap inl w.2)
  ]

  pub lead_step_step : (ts : List Tok) (s : StepTerm) → (lead_step i).reads ts (inl s) → (step i).reads ts s
  unfolding step lead_step
  lead_step_step ts s rd = elim rd [
    | inl d ↦ inl (let e : s ≡ d.0 = cc in subst ((dot_step i).reads ts) (sym e) d.1)
    | inr w ↦ elim w.1.4 [
      | inl z ↦ absurd (let e : inl s ≡ inr z.0 = w.2 ∙ z.2 in cc)
      | inr z ↦ inr ((w.0.0, z.0), (w.1.0, w.1.1, w.1.2, w.1.3, z.1), (let e : inl s ≡ inl z.0 = w.2 ∙ z.2 in cc))
    ]
  ]

  -- a primary, its steps, and perhaps the rest of a `forEach`
  series_reads : (ts u v r : List Tok) (x : ExprTerm × Bool) (steps : List StepTerm) (part : Option EachPart) → ts ≡ u ++ (v ++ r) → FirstNowhere ts → (other_primary i).reads u x → turns (step i) v steps → lastly (right (lead_step i)) r part → (lead_post i).reads ts (each_lead (nowhere, (x, (steps, part))))
  unfolding lead_post
  series_reads ts u v r x steps part e pl hx hs hl = ((nowhere, (x, (steps, part))), ((u, v ++ r, e, hx, (v, r, refl, turns_to (step i) (left (lead_step i)) step_lead steps v hs, hl)), sym pl), refl)

  lead_post_form : (e : ExprTerm) → PostParts i e → is_chain_or_prefix e ≡ false → opens_with_if e ≡ false → (t : Option TargetTerm) × (lead_post i).reads (all_spelled (print.post_first e)) (Plain (erase_expr e) t)
  lead_post_form e w q c =
      let ts = all_spelled (print.post_first e) in
      let x = plain_lead i w.first w.steps (w.shown q) in
      (x.0, subst (λ z. (lead_post i).reads ts z) (x.1 ∙ ap (λ z. Plain z x.0) w.whole) (series_reads ts w.front w.rest [] w.first w.steps None (w.cut ∙ ap (λ z. w.front ++ z) (sym (append-nil w.rest))) (spelled_head (print.post_first e)) (w.other c) w.turn refl))

  bracket_lead_post : (e : ExprTerm) → Bracket i e → (lead_post i).reads (all_spelled (print.in_round (print.expr e))) (Bracketed (erase_expr e))
  bracket_lead_post e w = let ts = all_spelled (print.in_round (print.expr e)) in series_reads ts ts [] [] (erase_expr e, false) [] None (sym (append-nil ts)) (spelled_head (print.in_round (print.expr e))) (bracket_primary i e w) refl refl

  lead_form : (e : ExprTerm) → Form i e → is_chain e ≡ false → begins_with_if e ≡ false → (t : Option TargetTerm) × (lead_pre i).reads (all_spelled (print.expr e)) (Plain (erase_expr e) t)
  unfolding lead_pre
  lead_form (ChainExpr level first rest place) f q c = absurd cc
  lead_form (PrefixExpr before e place) f q c = (None, inl (signed_reads i before e place f))
  lead_form e f q c = let w = lead_post_form e (post_parts i e f (λ z. absurd cc)) refl c in (w.0, inr w.1)

  first_opens : (b c : Bool) → (if b then false else c) ≡ false → b ≡ false → c ≡ false
  first_opens true c h q = absurd cc
  first_opens false c h q = h

  pub lead_opens : Opens i (lead_pre i) begins_with_if
  unfolding lead_pre
  lead_opens = record {
    form = lead_form;
    bracket = λ e w. inr (bracket_lead_post e w);
    first = λ level e rest place c q. first_opens (is_as_loose level e) (begins_with_if e) c q;
  }

  -- a value
  pub lead_reads : (e : ExprTerm) → Form i e → begins_with_if e ≡ false → (t : Option TargetTerm) × (lead i).reads (all_spelled (print.expr e)) (Plain (erase_expr e) t)
  unfolding lead
  lead_reads e f c = whole_reads i (lead_pre i) begins_with_if lead_opens e f c

  of_lead_post : (ts : List Tok) (x : Lead) → (lead_post i).reads ts x → (lead i).reads ts x
  unfolding lead chain lead_pre
  of_lead_post ts x rd = raise (lead_pre i) (pre i) 0 8 ts x (omega arith) (inr rd)

  -- a source of a `forEach`
  pub source_reads : (e : ExprTerm) (r : List Tok) (part : EachPart) → Form i e → NeedsBracket i (is_chain_or_prefix e) e → opens_with_if e ≡ false → (lead_step i).reads r (inr part) → FirstNowhere (all_spelled (print.post_first e) ++ r) → (lead i).reads (all_spelled (print.post_first e) ++ r) (Each (erase_expr e) part)
  source_reads e r part f need c rd pl =
      let w = post_parts i e f need in
      let ts = all_spelled (print.post_first e) ++ r in
      subst (λ z. (lead i).reads ts (Each z part)) w.whole (of_lead_post ts _ (series_reads ts w.front w.rest r w.first w.steps (Some part) (ap (λ z. z ++ r) w.cut ∙ append_assoc w.front w.rest r) pl (w.other c) w.turn rd))

-- the last step of a target

split_end : (s : StepTerm) (ss : List StepTerm) (d : StepTerm) → split_last s (ss ++ d ∷ []) ≡ (s ∷ ss, d)
split_end s [] d = refl
split_end s (t ∷ ss) d = ap (λ x. (s ∷ x.0, x.1)) (split_end t ss d)

abbrev member_lead : ExprTerm × Bool → List StepTerm → List ℕ → Lead
member_lead x ss n = Plain (post_of nowhere x.0 (ss ++ DotStep n NoArgs nowhere ∷ [])) (Some (MemberTarget (post_of nowhere x.0 ss) n nowhere))

target_end : (x : ExprTerm × Bool) (ss : List StepTerm) (n : List ℕ) → each_lead (nowhere, (x, (ss ++ DotStep n NoArgs nowhere ∷ [], None))) ≡ member_lead x ss n
target_end x [] n = refl
target_end x (s ∷ ss) n = ap (λ z. Plain (post_of nowhere x.0 (s ∷ (ss ++ DotStep n NoArgs nowhere ∷ []))) (member_of nowhere x.0 z)) (split_end s ss (DotStep n NoArgs nowhere))

module _ (i : NestedLanguages) where
  member_step : (n : List ℕ) → (step i).reads (plain class.Dot ∷ plain_name n ∷ []) (DotStep n NoArgs nowhere)
  unfolding step dot_step dot_rest name
  member_step n = inl (
    (plain class.Dot, DotStep n NoArgs nowhere),
    (
      plain class.Dot ∷ [],
      plain_name n ∷ [],
      refl,
      (refl, refl),
      inl ((record { text = n; place = nowhere }, None), (plain_name n ∷ [], [], refl, (plain_name n, (refl, refl), refl), inr (tt, refl, refl)), refl),
    ),
    refl,
  )

  path_other : (n : List ℕ) → (other_primary i).reads (plain_name n ∷ []) (PathExpr (record { names = n ∷ []; place = nowhere }), true)
  unfolding other_primary bare_expr named_expr name more_names
  path_other n = inr (_, inr (inr (inl ((record { text = n; place = nowhere }, inr []), (plain_name n ∷ [], [], refl, (plain_name n, (refl, refl), refl), inr ([], refl, refl)), refl))), refl)

  result_other : (other_primary i).reads (plain class.ResultWord ∷ []) (ResultExpr nowhere, true)
  unfolding other_primary bare_expr word
  result_other = inr (_, inr (inl (inr (inr (plain class.ResultWord, (refl, refl), refl)))), refl)

  abbrev pub LeadTarget : List Tok → TargetTerm → Type 0
  LeadTarget ts t = (e : ExprTerm) × (lead i).reads ts (Plain e (Some t))

  pub member_reads : (e : ExprTerm) (n : List ℕ) (place : Place) → Form i e → NeedsBracket i (is_chain_or_prefix e) e → opens_with_if e ≡ false → LeadTarget (all_spelled (print.target (MemberTarget e n place))) (MemberTarget (erase_expr e) n nowhere)
  member_reads e n place f need c =
      let w = post_parts i e f need in
      let d = DotStep n NoArgs nowhere in
      let all = print.target (MemberTarget e n place) in
      let last = plain class.Dot ∷ plain_name n ∷ [] in
      let v = w.rest ++ last in
      let cut : all_spelled all ≡ w.front ++ (v ++ []) = spelled_append (print.post_first e) _ ∙ ap (λ z. z ++ last) w.cut ∙ append_assoc w.front w.rest last ∙ ap (λ z. w.front ++ z) (sym (append-nil v)) in
      let one : turns (step i) last (d ∷ []) = (last, [], refl, member_step n, refl) in
      let rd = of_lead_post i (all_spelled all) _ (series_reads i (all_spelled all) w.front v [] w.first (w.steps ++ d ∷ []) None cut (spelled_head all) (w.other c) (turns_append (step i) w.rest last w.steps (d ∷ []) w.turn one) refl) in
      let e2 = post_of nowhere w.first.0 (w.steps ++ d ∷ []) in
      let target = target_end w.first w.steps n ∙ ap (λ z. Plain e2 (Some (MemberTarget z n nowhere))) w.whole in
      (e2, subst (λ z. (lead i).reads (all_spelled all) z) target rd)

  pub bare_target_reads : (n : List ℕ) → LeadTarget (plain_name n ∷ []) (BareTarget n nowhere)
  bare_target_reads n = (_, of_lead_post i (plain_name n ∷ []) _ (series_reads i (plain_name n ∷ []) (plain_name n ∷ []) [] [] (PathExpr (record { names = n ∷ []; place = nowhere }), true) [] None refl refl (path_other n) refl refl))

  pub result_target_reads : LeadTarget (plain class.ResultWord ∷ []) (ResultTarget nowhere)
  result_target_reads = (_, of_lead_post i (plain class.ResultWord ∷ []) _ (series_reads i (plain class.ResultWord ∷ []) (plain class.ResultWord ∷ []) [] [] (ResultExpr nowhere, true) [] None refl refl result_other refl refl))
