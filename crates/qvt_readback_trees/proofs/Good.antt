-- What is read of operands, primaries and steps has a form.
use Rattle.std.proofs.Common.{◌≡◌, ℕ, ◌≤◌, List, [], ◌∷◌, ◌++◌, map, Bool, true, false, ◌⊎◌, inl, inr, refl, sym, ap, ◌∙◌, subst, Option, Some, None, arith, append_assoc}
use Rattle.std.specs.Prelude.{⊤}
use Rattle.qvt_base.specs.declared.numbers.Place.{Place}
use Rattle.qvt_tree_types.specs.Tree.{ExprTerm, StepTerm, StepTerms, TargetTerm, BareTarget, ResultTarget, MemberTarget, PathExpr, ResultExpr, ChainExpr, PrefixExpr, PostExpr, DotStep, NoArgs, SomeArgs, NoSteps, MoreSteps}
use Rattle.qvt_tree_types.specs.View.{steps_of}
use Rattle.qvt_tree_types.specs.declared.words.Sign.{Sign}
use Rattle.qvt_tree.specs.Shape.{erase_step, erase_steps}
use Rattle.qvt_grammar.specs.Language.{turns}
use Rattle.qvt_language.specs.Leads.{Lead, Plain, Bracketed, Each}
use Rattle.qvt_language.specs.StmtTrees.{target_in}
use Rattle.qvt_language.specs.Trees.{more_steps, stepped, post_of, split_last, member_of, bare_target, signed, post_lead, expr_of}
use Rattle.qvt_language.specs.Grammar.{NestedLanguages, step}
use Rattle.qvt_printer.specs.Expressions as print
use Rattle.qvt_printer.specs.Levels.{is_chain_or_prefix}
use Rattle.qvt_readback_tokens.specs.Spelled.{all_spelled}
use Rattle.qvt_readback_trees.specs.Printable.{IsPrintableExpr, IsPrintableStep, ArePrintableSteps}
use Rattle.qvt_readback_trees.proofs.Spelling.{spelled_append}
use Rattle.qvt_readback_trees.proofs.Forms.{rank, is_primary, Bracket, NeedsBracket, StepsForm, Form}
use Rattle.qvt_readback_trees.proofs.LeadReads.{turns_append}

-- steps

abbrev pub GoodStep : NestedLanguages → StepTerm → Type 0
GoodStep i s = IsPrintableStep s → (step i).reads (all_spelled (print.step s)) (erase_step s)

abbrev pub GoodSteps : NestedLanguages → List StepTerm → Type 0
GoodSteps i [] = ⊤
GoodSteps i (s ∷ ss) = GoodStep i s × GoodSteps i ss

pub bare_steps : (ss : List StepTerm) → steps_of (map erase_step ss) ≡ erase_steps (steps_of ss)
bare_steps [] = refl
bare_steps (s ∷ ss) = ap (MoreSteps (erase_step s)) (bare_steps ss)

joined_spelled : (old : StepTerms) (ss : List StepTerm) → all_spelled (print.steps (more_steps old ss)) ≡ all_spelled (print.steps old) ++ all_spelled (print.steps (steps_of ss))
joined_spelled NoSteps ss = refl
joined_spelled (MoreSteps s old) ss =
    let a = all_spelled (print.step s) in
    spelled_append (print.step s) (print.steps (more_steps old ss)) ∙ ap (λ z. a ++ z) (joined_spelled old ss) ∙ sym (append_assoc a (all_spelled (print.steps old)) (all_spelled (print.steps (steps_of ss)))) ∙ ap (λ z. z ++ all_spelled (print.steps (steps_of ss))) (sym (spelled_append (print.step s) (print.steps old)))

joined_ok : (old : StepTerms) (ss : List StepTerm) → ArePrintableSteps (more_steps old ss) → ArePrintableSteps old × ArePrintableSteps (steps_of ss)
joined_ok NoSteps ss o = (tt, o)
joined_ok (MoreSteps s old) ss o = let w = joined_ok old ss o.1 in ((o.0, w.0), w.1)

joined_list : (xs ys : List StepTerm) → steps_of (xs ++ ys) ≡ more_steps (steps_of xs) ys
joined_list [] ys = refl
joined_list (x ∷ xs) ys = ap (MoreSteps x) (joined_list xs ys)

pub joined_bare : (old : StepTerms) (ss : List StepTerm) → more_steps (erase_steps old) (map erase_step ss) ≡ erase_steps (more_steps old ss)
joined_bare NoSteps ss = bare_steps ss
joined_bare (MoreSteps s old) ss = ap (MoreSteps (erase_step s)) (joined_bare old ss)

module _ (i : NestedLanguages) where
  steps_turns : (ss : List StepTerm) → GoodSteps i ss → ArePrintableSteps (steps_of ss) → turns (step i) (all_spelled (print.steps (steps_of ss))) (map erase_step ss)
  steps_turns [] g o = refl
  steps_turns (s ∷ ss) g o = (all_spelled (print.step s), all_spelled (print.steps (steps_of ss)), spelled_append (print.step s) (print.steps (steps_of ss)), g.0 o.0, steps_turns ss g.1 o.1)

  new_steps : (s : StepTerm) (ss : List StepTerm) → GoodSteps i (s ∷ ss) → ArePrintableSteps (steps_of (s ∷ ss)) → StepsForm i (steps_of (s ∷ ss))
  new_steps s ss g o = (erase_step s, map erase_step ss, ap (MoreSteps (erase_step s)) (bare_steps ss), steps_turns (s ∷ ss) g o)

  joined_steps : (old : StepTerms) (ss : List StepTerm) → StepsForm i old → GoodSteps i ss → ArePrintableSteps (steps_of ss) → StepsForm i (more_steps old ss)
  joined_steps old ss f g o =
      let xs = map erase_step ss in (
        f.0,
        f.1 ++ xs,
        joined_list (f.0 ∷ f.1) xs ∙ ap (λ z. more_steps z xs) f.2 ∙ joined_bare old ss,
        subst (λ z. turns (step i) z (f.0 ∷ (f.1 ++ xs))) (sym (joined_spelled old ss)) (turns_append (step i) _ _ (f.0 ∷ f.1) xs f.3 (steps_turns ss g o)),
      )

-- what is read as the first of steps or after signs, with brackets where it has to have them

pub record GoodFirst (i : NestedLanguages) (e : ExprTerm) : Type 0 where
  pub form : IsPrintableExpr e → Form i e
  pub bracket : IsPrintableExpr e → NeedsBracket i (is_chain_or_prefix e) e

pub record GoodPrimary (i : NestedLanguages) (x : ExprTerm × Bool) : Type 0 where
  pub first : GoodFirst i x.0
  pub shown : x.1 ≡ true → is_primary x.0 ≡ true
  pub bracket : x.1 ≡ false → IsPrintableExpr x.0 → Bracket i x.0

module _ (i : NestedLanguages) where
  stepped_form : (place : Place) (e : ExprTerm) (s : StepTerm) (ss : List StepTerm) → GoodFirst i e → GoodSteps i (s ∷ ss) → IsPrintableExpr (stepped place e (s ∷ ss)) → Form i (stepped place e (s ∷ ss))
  stepped_form place (PostExpr e old p) s ss h g o =
      let w = joined_ok old (s ∷ ss) o.1 in
      let f = h.form (o.0, w.0) in
      (f.0, f.1, f.2, joined_steps i old (s ∷ ss) f.3 g w.1)
  stepped_form place e s ss h g o = (h.form o.0, h.bracket o.0, refl, new_steps i s ss g o.1)

  stepped_tight : (place : Place) (e : ExprTerm) (ss : List StepTerm) → is_chain_or_prefix (stepped place e ss) ≡ false
  stepped_tight place (PostExpr e old p) ss = refl
  stepped_tight place _ ss = refl

  stepped_rank : (place : Place) (e : ExprTerm) (ss : List StepTerm) → rank (stepped place e ss) ≡ 0
  stepped_rank place (PostExpr e old p) ss = refl
  stepped_rank place _ ss = refl

  no_need : (e : ExprTerm) → is_chain_or_prefix e ≡ false → NeedsBracket i (is_chain_or_prefix e) e
  no_need e q z = absurd cc

  pub post_first : (place : Place) (e : ExprTerm) (ss : List StepTerm) → GoodFirst i e → GoodSteps i ss → GoodFirst i (post_of place e ss)
  post_first place e [] h g = h
  post_first place e (s ∷ ss) h g = record { form = stepped_form place e s ss h g; bracket = λ o. no_need (stepped place e (s ∷ ss)) (stepped_tight place e (s ∷ ss)) }

-- the chains that have the expression as an operand

pub record GoodOperand (i : NestedLanguages) (k : ℕ) (e : ExprTerm) : Type 0 where
  pub form : IsPrintableExpr e → Form i e
  pub tight : (rank e ≤ k) ⊎ (IsPrintableExpr e → Bracket i e)

primary_rank : (e : ExprTerm) → is_primary e ≡ true → rank e ≡ 0
primary_rank (ChainExpr level first rest place) q = absurd cc
primary_rank _ q = refl

module _ (i : NestedLanguages) where
  bare_operand : (e : ExprTerm) (b : Bool) → GoodPrimary i (e, b) → GoodOperand i 0 e
  bare_operand e true h = record { form = h.first.form; tight = inl (let z = primary_rank e (h.shown refl) in omega arith) }
  bare_operand e false h = record { form = h.first.form; tight = inr (h.bracket refl) }

  pub post_operand : (place : Place) (x : ExprTerm × Bool) (ss : List StepTerm) → GoodPrimary i x → GoodSteps i ss → GoodOperand i 0 (post_of place x.0 ss)
  post_operand place x [] h g = bare_operand x.0 x.1 h
  post_operand place x (s ∷ ss) h g = record { form = stepped_form i place x.0 s ss h.first g; tight = inl (let z = stepped_rank i place x.0 (s ∷ ss) in omega arith) }

-- what stands in brackets alone is read there

abbrev pub BracketGood : NestedLanguages → Lead → Type 0
BracketGood i (Plain e t) = ⊤
BracketGood i (Bracketed e) = IsPrintableExpr e → Bracket i e
BracketGood i (Each e part) = ⊤

-- targets

abbrev pub GoodTarget : NestedLanguages → Option TargetTerm → Type 0
GoodTarget i None = ⊤
GoodTarget i (Some (BareTarget name place)) = ⊤
GoodTarget i (Some (ResultTarget place)) = ⊤
GoodTarget i (Some (MemberTarget object name place)) = GoodFirst i object

module _ (i : NestedLanguages) where
  split_good : (s : StepTerm) (ss : List StepTerm) → GoodSteps i (s ∷ ss) → GoodSteps i (split_last s ss).0
  split_good s [] g = tt
  split_good s (t ∷ ts) g = (g.0, split_good t ts g.1)

  member_good : (place : Place) (e : ExprTerm) (before : List StepTerm) (s : StepTerm) → GoodFirst i e → GoodSteps i before → GoodTarget i (member_of place e (before, s))
  member_good place e before (DotStep name NoArgs p) h g = post_first i place e before h g
  member_good place e before (DotStep name (SomeArgs a) p) h g = tt
  member_good place e before _ h g = tt

  name_good : (names : List (List ℕ)) (place : Place) → GoodTarget i (bare_target (PathExpr (record { names = names; place = place })))
  name_good [] place = tt
  name_good (n ∷ []) place = tt
  name_good (n ∷ m ∷ ns) place = tt

  bare_good : (e : ExprTerm) → GoodTarget i (bare_target e)
  bare_good (PathExpr path) = name_good path.names path.place
  bare_good (ResultExpr place) = tt
  bare_good _ = tt

  -- a primary with its steps: whether it is a target, and whether it stands in brackets alone

  pub lead_expr : (place : Place) (x : ExprTerm × Bool) (ss : List StepTerm) → expr_of (post_lead (place, (x, ss))) ≡ post_of place x.0 ss
  lead_expr place (e, true) [] = refl
  lead_expr place (e, false) [] = refl
  lead_expr place x (s ∷ ss) = refl

  pub lead_target : (place : Place) (x : ExprTerm × Bool) (ss : List StepTerm) → GoodPrimary i x → GoodSteps i ss → GoodTarget i (target_in (post_lead (place, (x, ss))))
  lead_target place (e, true) [] h g = bare_good e
  lead_target place (e, false) [] h g = tt
  lead_target place x (s ∷ ss) h g = member_good place x.0 (split_last s ss).0 (split_last s ss).1 h.first (split_good s ss g)

  pub lead_bracket : (place : Place) (x : ExprTerm × Bool) (ss : List StepTerm) → GoodPrimary i x → BracketGood i (post_lead (place, (x, ss)))
  lead_bracket place (e, true) [] h = tt
  lead_bracket place (e, false) [] h = h.bracket refl
  lead_bracket place x (s ∷ ss) h = tt

  -- signs join those of what has signs already
  pub signed_form : (place : Place) (s : Sign) (more : List Sign) (e : ExprTerm) → GoodOperand i 0 e → IsPrintableExpr (signed place (s ∷ more) e) → Form i (signed place (s ∷ more) e)
  signed_form place s more (PrefixExpr old e p) h o = let f = h.form o in (f.0, f.1, f.2, (s, more ++ old, refl))
  signed_form place s more (ChainExpr level first rest p) h o = (h.form o, (λ z. elim h.tight [ inl le ↦ absurd (omega arith) | inr b ↦ b o ]), refl, (s, more, refl))
  signed_form place s more e h o = (h.form o, (λ z. absurd cc), refl, (s, more, refl))

  signed_rank : (place : Place) (ss : List Sign) (e : ExprTerm) → rank (signed place ss e) ≡ 0
  signed_rank place ss (PrefixExpr old e p) = refl
  signed_rank place ss _ = refl

  pub signed_operand : (place : Place) (s : Sign) (more : List Sign) (e : ExprTerm) → GoodOperand i 0 e → GoodOperand i 0 (signed place (s ∷ more) e)
  signed_operand place s more e h = record { form = signed_form place s more e h; tight = inl (let z = signed_rank place (s ∷ more) e in omega arith) }
