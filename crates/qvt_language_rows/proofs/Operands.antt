-- The rows of one operand: steps after it, and signs before it.
use Rattle.std.proofs.Common.{◌≡◌, ℕ, List, [], ◌∷◌, ◌++◌, Bool, true, false, ◌⊎◌, inl, inr, refl, sym, ap, ◌∙◌, subst, append-nil, append_assoc, Some, None}
use Rattle.qvt_base.specs.declared.numbers.Place.{Place}
use Rattle.qvt_grammar.specs.Language.{Language, head_of}
use Rattle.qvt_grammar.specs.Language as language
use Rattle.qvt_grammar.specs.Reader.{starts}
use Rattle.qvt_grammar.proofs.Lists.{grouped}
use Rattle.qvt_tree_types.specs.Tree.{ExprTerm, PathExpr, ResultExpr, StepTerm, DotStep, ArrowStep, DotMapStep, ArrowMapStep, DotResolveStep, ArrowResolveStep, NoArgs, SomeArgs, TargetTerm, MemberTarget}
use Rattle.qvt_tree_types.specs.View.{optional_args}
use Rattle.qvt_tree_types.specs.declared.words.Sign.{Sign}
use Rattle.qvt_language.specs.Tokens.{Tok, is}
use Rattle.qvt_language.specs.declared.named.Named.{Named}
use Rattle.qvt_language.specs.declared.class.Class.TheVariants as class
use Rattle.qvt_language.specs.Readers.{nowhere}
use Rattle.qvt_language.specs.Series.{left, finished}
use Rattle.qvt_language.specs.Leads.{Lead, Plain, Each, EachPart}
use Rattle.qvt_language.specs.StmtTrees.{IsPlainLead}
use Rattle.qvt_language.specs.Trees.{path_of, expr_of, bare_target, post_of, split_last, member_of, post_lead, signed, prefix_lead, each_of}
use Rattle.qvt_language.specs.Grammar.{NestedLanguages, if_expr, primary, other_primary, bare_expr, word, named_expr, more_names, step, dot_step, arrow_rest, post, signs, more_signs, signed_post, pre, each_tail, lead_step, lead_post, lead_pre, lead}
use Rattle.qvt_language_rows.specs.Phrase.{Phrase, ◌gives◌, ◌then◌, nothing, the, many, maybe, after}
use Rattle.qvt_language_rows.specs.Rows.{NestedRows, NameRow, TypeRow, PrimaryRow, StepRow, PostRow, PreRow, TargetRow}
use Rattle.qvt_language_rows.proofs.Ties.{Ties, ties_the, ties_then, ties_gives, ties_maybe, turns_to, turns_of}
use Rattle.qvt_language_rows.proofs.Plain.{TiesInside, ties_name, ties_colon_type, ties_bar, ties_sign}
use Rattle.qvt_language_rows.proofs.Steps.{ties_step}
use Rattle.qvt_language_rows.proofs.Primaries.{primary_to, primary_target, primary_of, other_of, other_primary_of}
use Rattle.qvt_language_rows.proofs.Leads.{Means, means_plain, never_each, means_more, HasLead, raise}

-- the place is that of the first token, whatever follows it
pub same_place : (u v w : List Tok) → (u ≡ [] → ⊥) → head_of (λ t. t.place) nowhere (u ++ v) ≡ head_of (λ t. t.place) nowhere (u ++ w)
same_place [] v w n = absurd (n refl)
same_place (t ∷ u) v w n = refl

abbrev pub NoIf : List Tok → Type 0
NoIf ts = starts (is class.IfWord) ts ≡ false

pub no_if_first : (u v : List Tok) → NoIf (u ++ v) → NoIf u
no_if_first [] v g = refl
no_if_first (t ∷ u) v g = g

pub no_if_more : (u v : List Tok) → (u ≡ [] → ⊥) → NoIf u → NoIf (u ++ v)
no_if_more [] v n g = absurd (n refl)
no_if_more (t ∷ u) v n g = g

-- the steps before the last
module _ (P : Phrase StepTerm) where
  pub last_apart : (s : StepTerm) (ss : List StepTerm) (ts : List Tok) → many P ts (s ∷ ss) → (u : List Tok) × (v : List Tok) × (ts ≡ u ++ v) × many P u (split_last s ss).0 × P v (split_last s ss).1
  last_apart s [] ts (u, v, e, rd, more) = ([], u, e ∙ ap (λ z. u ++ z) more ∙ append-nil u, refl, rd)
  last_apart s (t ∷ ss) ts (u, v, e, rd, more) = let w = last_apart t ss v more in (u ++ w.0, w.1, grouped ts v w.1 u w.0 e w.2, (u, w.0, refl, rd, w.3), w.4)

pub turns_push : (l : Language Tok StepTerm) (ss : List StepTerm) (u v : List Tok) (s : StepTerm) → language.turns l u ss → l.reads v s → language.turns l (u ++ v) (ss ++ s ∷ [])
turns_push l [] u v s rd q = (v, [], ap (λ z. z ++ v) rd ∙ sym (append-nil v), q, refl)
turns_push l (t ∷ ss) u v s (a, b, e, one, more) q = (a, b ++ v, ap (λ z. z ++ v) e ∙ append_assoc a b v, one, turns_push l ss b v s more q)

split_push : (s : StepTerm) (ss : List StepTerm) (d : StepTerm) → (split_last s (ss ++ d ∷ []) ≡ (s ∷ ss, d))
split_push s [] d = refl
split_push s (t ∷ ss) d = ap (λ z. (s ∷ z.0, z.1)) (split_push t ss d)

-- a last step that is a name makes a target
pub push_lead : (place : Place) (x : ExprTerm × Bool) (ss : List StepTerm) (text : List ℕ) (at : Place) → (e : ExprTerm) × (post_lead (place, (x, ss ++ DotStep text NoArgs at ∷ [])) ≡ Plain e (Some (MemberTarget (post_of place x.0 ss) text at)))
push_lead place x [] text at = (post_of place x.0 (DotStep text NoArgs at ∷ []), refl)
push_lead place x (s ∷ ss) text at = (post_of place x.0 (s ∷ (ss ++ DotStep text NoArgs at ∷ [])), ap (λ z. Plain (post_of place x.0 (s ∷ (ss ++ DotStep text NoArgs at ∷ []))) (member_of place x.0 z)) (split_push s ss (DotStep text NoArgs at)))

-- the step of a name without arguments
dot_name : (j : NestedRows) (ts : List Tok) (text : List ℕ) (place : Place) → StepRow j ts (DotStep text NoArgs place) → after class.Dot NameRow ts (record { text = text; place = place })
unfolding StepRow
dot_name j ts text place (inl (x, (u, v, e, t, (y, (a, b, e1, nm, (inl (es, rd, o))), d)), q)) = absurd (let w : DotStep text NoArgs place ≡ DotStep y.0.text (SomeArgs _) y.0.place = q ∙ d ∙ ap (λ z. DotStep y.0.text (optional_args z) y.0.place) o in cc)
dot_name j ts text place (inl (x, (u, v, e, t, (y, (a, b, e1, nm, (inr (z, n, o))), d)), q)) =
    let w : DotStep text NoArgs place ≡ DotStep y.0.text (optional_args y.1) y.0.place = q ∙ d in
    let one : text ≡ y.0.text = cc in
    let two : place ≡ y.0.place = cc in
    ((x.0, record { text = text; place = place }), (u, v, e, t, subst (λ s. NameRow s (record { text = text; place = place })) (sym (e1 ∙ ap (λ s. a ++ s) n ∙ append-nil a)) (subst (λ m. NameRow a m) (λ r. record { text = sym one r; place = sym two r }) nm)), refl)
dot_name j ts text place (inr (inl (x, (u, v, e, t, (y, rd, d)), q))) = absurd (let w = q ∙ d in cc)
dot_name j ts text place (inr (inr (inl (x, (u, v, e, t, (inl (y, rd, d))), q)))) = absurd (let w = q ∙ d in cc)
dot_name j ts text place (inr (inr (inl (x, (u, v, e, t, (inr (y, rd, d))), q)))) = absurd (let w = q ∙ d in cc)
dot_name j ts text place (inr (inr (inr (x, (u, v, e, t, (inl (y, rd, d))), q)))) = absurd (let w = q ∙ d in cc)
dot_name j ts text place (inr (inr (inr (x, (u, v, e, t, (inr (y, rd, d))), q)))) = absurd (let w = q ∙ d in cc)

name_dot : (j : NestedRows) (ts : List Tok) (n : Named) → after class.Dot NameRow ts n → StepRow j ts (DotStep n.text NoArgs n.place)
unfolding StepRow
name_dot j ts n (x, (u, v, e, t, nm), q) = inl ((x.0, DotStep n.text NoArgs n.place), (u, v, e, t, ((n, None), (v, [], sym (append-nil v), subst (λ z. NameRow v z) (sym q) nm, inr (tt, refl, refl)), refl)), refl)

-- "forEach" "(" Name [":" Type] ["|" Expr] ")" Block
abbrev pub each_row : NestedRows → Phrase EachPart
each_row j = the class.ForEachWord then the class.OpenRound then NameRow then maybe (after class.Colon (TypeRow j)) then maybe (after class.Bar j.expr) then the class.CloseRound then j.block gives each_of

-- the source and the rest of a `forEach`
abbrev pub loop_row : NestedRows → Phrase (ExprTerm × EachPart)
loop_row j = PostRow j then after class.Arrow (each_row j)

module _ {i : NestedLanguages} {j : NestedRows} {k : NestedLanguages} (h : TiesInside i j k) (solid_i : (x : ExprTerm × Bool) → (primary i).reads [] x → ⊥) (solid_k : (x : ExprTerm × Bool) → (primary k).reads [] x → ⊥) where
  some_i : (u : List Tok) (x : ExprTerm × Bool) → (primary i).reads u x → u ≡ [] → ⊥
  some_i u x rd e = solid_i x (subst (λ z. (primary i).reads z x) e rd)

  some_row : (u : List Tok) (e : ExprTerm) → PrimaryRow j u e → u ≡ [] → ⊥
  some_row u e rd n = let w = primary_of h u e rd in solid_k (e, w.0) (subst (λ z. (primary k).reads z (e, w.0)) n w.1)

  pub ties_each : Ties (each_tail i) (each_row j) (each_tail k)
  unfolding each_tail
  ties_each = ties_gives each_of (ties_then (ties_the class.ForEachWord) (ties_then (ties_the class.OpenRound) (ties_then ties_name (ties_then (ties_maybe (ties_colon_type h)) (ties_then (ties_maybe (ties_bar h)) (ties_then (ties_the class.CloseRound) h.block))))))

  -- from the parser's operands

  post_row : (ts u v : List Tok) (place : Place) (e : ExprTerm) (steps : List StepTerm) → ts ≡ u ++ v → place ≡ head_of (λ t. t.place) nowhere ts → PrimaryRow j u e → many (StepRow j) v steps → PostRow j ts (post_of place e steps)
  unfolding PostRow
  post_row ts u v place e steps cut at rd more = ((place, (e, steps)), ((u, v, cut, rd, more), at), refl)

  member_row : (ts u v w : List Tok) (place : Place) (e : ExprTerm) (before : List StepTerm) (last : StepTerm) (t : TargetTerm) → ts ≡ u ++ (v ++ w) → place ≡ head_of (λ t. t.place) nowhere ts → PrimaryRow j u e → many (StepRow j) v before → StepRow j w last → member_of place e (before, last) ≡ Some t → TargetRow j ts t
  unfolding TargetRow
  member_row ts u v w place e before (DotStep text NoArgs p) t cut at rd more one q =
      let s : MemberTarget (post_of place e before) text p ≡ t = cc in
      let here : place ≡ head_of (λ t. t.place) nowhere (u ++ v) = at ∙ ap (head_of (λ t. t.place) nowhere) cut ∙ same_place u (v ++ w) v (some_row u e rd) in
      inr (inr ((post_of place e before, record { text = text; place = p }), (u ++ v, w, cut ∙ sym (append_assoc u v w), post_row (u ++ v) u v place e before refl here rd more, dot_name j w text p one), sym s))
  member_row ts u v w place e before (DotStep text (SomeArgs es) p) t cut at rd more one q = absurd cc
  member_row ts u v w place e before (ArrowStep text head es p) t cut at rd more one q = absurd cc
  member_row ts u v w place e before (DotMapStep m) t cut at rd more one q = absurd cc
  member_row ts u v w place e before (ArrowMapStep m) t cut at rd more one q = absurd cc
  member_row ts u v w place e before (DotResolveStep r) t cut at rd more one q = absurd cc
  member_row ts u v w place e before (ArrowResolveStep r) t cut at rd more one q = absurd cc

  post_means : (F : Phrase (ExprTerm × EachPart)) (ts u v : List Tok) (place : Place) (x : ExprTerm × Bool) (steps : List StepTerm) → ts ≡ u ++ v → place ≡ head_of (λ t. t.place) nowhere ts → (primary i).reads u x → many (StepRow j) v steps → Means (TargetRow j) F (PostRow j) ts (post_lead (place, (x, steps)))
  post_means F ts u v place (e, true) [] cut at rd more =
      means_plain (TargetRow j) F (PostRow j) ts e (bare_target e) (post_row ts u v place e [] cut at (primary_to h u (e, true) rd) more)
      (λ t q. subst (λ z. TargetRow j z t) (sym (cut ∙ ap (λ z. u ++ z) more ∙ append-nil u)) (primary_target h u (e, true) t rd refl q))
  post_means F ts u v place (e, false) [] cut at rd more = post_row ts u v place e [] cut at (primary_to h u (e, false) rd) more
  post_means F ts u v place (e, b) (s ∷ ss) cut at rd more =
      let w = last_apart (StepRow j) s ss v more in
      means_plain (TargetRow j) F (PostRow j) ts (post_of place e (s ∷ ss)) (member_of place e (split_last s ss)) (post_row ts u v place e (s ∷ ss) cut at (primary_to h u (e, b) rd) more)
      (λ t q. member_row ts u w.0 w.1 place e (split_last s ss).0 (split_last s ss).1 t (cut ∙ ap (λ z. u ++ z) w.2) at (primary_to h u (e, b) rd) w.3 w.4 q)

  post_to : (ts : List Tok) (x : Lead) → (post i).reads ts x → Means (TargetRow j) nothing (PostRow j) ts x
  unfolding post
  post_to ts x (y, ((u, v, cut, rd, more), at), q) = subst (λ z. Means (TargetRow j) nothing (PostRow j) ts z) (sym q) (post_means nothing ts u v y.0 y.1.0 y.1.1 cut at rd (turns_to (ties_step h) y.1.1 v more))

  no_sign : (ts : List Tok) (e : ExprTerm) → PostRow j ts e → PreRow j ts e
  unfolding PreRow
  no_sign ts e rd = ((head_of (λ t. t.place) nowhere ts, ([], e)), (([], ts, refl, refl, rd), refl), refl)

  signed_to : (F : Phrase (ExprTerm × EachPart)) (ts : List Tok) (x : Lead) → (signed_post i).reads ts x → Means (TargetRow j) F (PreRow j) ts x
  unfolding signed_post signs more_signs PreRow
  signed_to F ts x (y, ((u, v, cut, sg, rd), at), q) =
      subst (λ z. Means (TargetRow j) F (PreRow j) ts z) (sym q)
      ((y.0, (y.1.0.0 ∷ y.1.0.1, expr_of y.1.1)), ((u, v, cut, turns_to ties_sign (y.1.0.0 ∷ y.1.0.1) u sg, never_each (TargetRow j) (PostRow j) v y.1.1 (post_to v y.1.1 rd)), at), refl)

  pub pre_to : (ts : List Tok) (x : Lead) → (pre i).reads ts x → Means (TargetRow j) nothing (PreRow j) ts x
  unfolding pre
  pre_to ts x (inl rd) = signed_to nothing ts x rd
  pre_to ts x (inr rd) = means_more (TargetRow j) nothing (PostRow j) (PreRow j) no_sign ts x (post_to ts x rd)

  -- at the front of a statement

  left_to : (ts : List Tok) (s : StepTerm) → (lead_step i).reads ts (inl s) → (step i).reads ts s
  unfolding lead_step step
  left_to ts s (inl (x, rd, q)) = inl (let k : s ≡ x = cc in subst (λ z. (dot_step i).reads ts z) (sym k) rd)
  left_to ts s (inr (x, (u, v, e, t, (inl (y, rd, d))), q)) = absurd (let k = q ∙ d in cc)
  left_to ts s (inr (x, (u, v, e, t, (inr (y, rd, d))), q)) = inr (let z = q ∙ d in let k : s ≡ y = cc in ((x.0, s), (u, v, e, t, subst (λ z. (arrow_rest i).reads v z) (sym k) rd), refl))

  right_to : (ts : List Tok) (part : EachPart) → (lead_step i).reads ts (inr part) → after class.Arrow (each_row j) ts part
  unfolding lead_step
  right_to ts part (inl (x, rd, q)) = absurd cc
  right_to ts part (inr (x, (u, v, e, t, (inl (y, rd, d))), q)) = (let z = q ∙ d in let k : part ≡ y = cc in ((x.0, y), (u, v, e, t, ties_each.to v y rd), k))
  right_to ts part (inr (x, (u, v, e, t, (inr (y, rd, d))), q)) = absurd (let k = q ∙ d in cc)

  lefts_to : (ss : List StepTerm) (ts : List Tok) → language.turns (left (lead_step i)) ts ss → many (StepRow j) ts ss
  lefts_to [] ts rd = rd
  lefts_to (s ∷ ss) ts (u, v, e, rd, more) = (u, v, e, (ties_step h).to u s (left_to u s rd), lefts_to ss v more)

  -- steps and a `forEach` after what stands before them
  pub loop_to : (ts u v w : List Tok) (place : Place) (e : ExprTerm) (steps : List StepTerm) (part : EachPart) → ts ≡ u ++ (v ++ w) → place ≡ head_of (λ t. t.place) nowhere ts → PrimaryRow j u e
      → language.turns (left (lead_step i)) v steps → (lead_step i).reads w (inr part) → loop_row j ts (post_of place e steps, part)
  loop_to ts u v w place e steps part cut at rd more last =
      let here : place ≡ head_of (λ t. t.place) nowhere (u ++ v) = at ∙ ap (head_of (λ t. t.place) nowhere) cut ∙ same_place u (v ++ w) v (some_row u e rd) in
      (u ++ v, w, cut ∙ sym (append_assoc u v w), post_row (u ++ v) u v place e steps refl here rd (lefts_to steps v more), right_to w part last)

  lead_post_to : (ts : List Tok) (x : Lead) → (lead_post i).reads ts x → Means (TargetRow j) (loop_row j) (PostRow j) ts x
  unfolding lead_post primary
  lead_post_to ts x ((place, (y, (steps, None))), ((u, v, cut, rd, (a, b, e, more, n)), at), q) =
      subst (λ z. Means (TargetRow j) (loop_row j) (PostRow j) ts z) (sym q)
      (post_means (loop_row j) ts u v place y steps cut at (inr rd) (subst (λ z. many (StepRow j) z steps) (sym (e ∙ ap (λ z. a ++ z) n ∙ append-nil a)) (lefts_to steps a more)))
  lead_post_to ts x ((place, (y, (steps, (Some part)))), ((u, v, cut, rd, (a, b, e, more, last)), at), q) =
      subst (λ z. Means (TargetRow j) (loop_row j) (PostRow j) ts z) (sym q)
      (loop_to ts u a b place y.0 steps part (cut ∙ ap (λ z. u ++ z) e) at (primary_to h u y (inr rd)) more last)

  pub lead_pre_to : (ts : List Tok) (x : Lead) → (lead_pre i).reads ts x → Means (TargetRow j) (loop_row j) (PreRow j) ts x
  unfolding lead_pre
  lead_pre_to ts x (inl rd) = signed_to (loop_row j) ts x rd
  lead_pre_to ts x (inr rd) = means_more (TargetRow j) (loop_row j) (PostRow j) (PreRow j) no_sign ts x (lead_post_to ts x rd)

  -- and to them

  post_expr : (place : Place) (e : ExprTerm) (b : Bool) (steps : List StepTerm) → post_of place e steps ≡ expr_of (post_lead (place, ((e, b), steps)))
  post_expr place e true [] = refl
  post_expr place e false [] = refl
  post_expr place e b (s ∷ ss) = refl

  post_plain : (place : Place) (e : ExprTerm) (b : Bool) (steps : List StepTerm) → IsPlainLead (post_lead (place, ((e, b), steps)))
  post_plain place e true [] = tt
  post_plain place e false [] = tt
  post_plain place e b (s ∷ ss) = tt

  post_of_row : (ts : List Tok) (e : ExprTerm) → PostRow j ts e → HasLead (post k) ts e
  unfolding PostRow post
  post_of_row ts e (y, ((u, v, cut, rd, more), at), q) =
      let w = primary_of h u y.1.0 rd in
      (post_lead (y.0, ((y.1.0, w.0), y.1.1)), ((y.0, ((y.1.0, w.0), y.1.1)), ((u, v, cut, w.1, turns_of (ties_step h) y.1.1 v more), at), refl), q ∙ post_expr y.0 y.1.0 w.0 y.1.1, post_plain y.0 y.1.0 w.0 y.1.1)

  signed_row : (ts u v : List Tok) (place : Place) (s : Sign) (more : List Sign) (e : ExprTerm) → ts ≡ u ++ v → place ≡ head_of (λ t. t.place) nowhere ts → signs.reads u (s, more) → PostRow j v e → HasLead (signed_post k) ts (signed place (s ∷ more) e)
  unfolding signed_post
  signed_row ts u v place s more e cut at sg rd =
      let w = post_of_row v e rd in
      (prefix_lead (place, ((s, more), w.0)), ((place, ((s, more), w.0)), ((u, v, cut, sg, w.1), at), refl), ap (signed place (s ∷ more)) w.2, tt)

  -- an operand with a sign, or one without
  cases_of : (ts : List Tok) (e : ExprTerm) → PreRow j ts e → HasLead (signed_post k) ts e ⊎ PostRow j ts e
  unfolding PreRow signs more_signs
  cases_of ts e ((place, ([], f)), ((u, v, cut, n, rd), at), q) = inr (subst (λ z. PostRow j ts z) (sym q) (subst (λ z. PostRow j z f) (sym (cut ∙ ap (λ z. z ++ v) n)) rd))
  cases_of ts e ((place, ((s ∷ more), f)), ((u, v, cut, sg, rd), at), q) = inl (subst (λ z. HasLead (signed_post k) ts z) (sym q) (signed_row ts u v place s more f cut at (turns_of ties_sign (s ∷ more) u sg) rd))

  pub pre_of : (ts : List Tok) (e : ExprTerm) → PreRow j ts e → HasLead (pre k) ts e
  unfolding pre
  pre_of ts e rd = elim (cases_of ts e rd) [ inl w ↦ (w.0, inl w.1, w.2, w.3) | inr q ↦ (let w = post_of_row ts e q in (w.0, inr w.1, w.2, w.3)) ]

  -- at the front of a statement, where no `if` stands first

  step_left : (ts : List Tok) (s : StepTerm) → (step k).reads ts s → (lead_step k).reads ts (inl s)
  unfolding lead_step step
  step_left ts s (inl rd) = inl (s, rd, refl)
  step_left ts s (inr (x, (u, v, e, t, rd), q)) = inr ((x.0, inl x.1), (u, v, e, t, inr (x.1, rd, refl)), ap inl q)

  each_right : (ts : List Tok) (part : EachPart) → after class.Arrow (each_row j) ts part → (lead_step k).reads ts (inr part)
  unfolding lead_step
  each_right ts part (x, (u, v, e, t, rd), q) = inr ((x.0, inr x.1), (u, v, e, t, inl (x.1, ties_each.of v x.1 rd, refl)), ap inr q)

  pub steps_left : (ss : List StepTerm) (ts : List Tok) → many (StepRow j) ts ss → language.turns (left (lead_step k)) ts ss
  steps_left [] ts rd = rd
  steps_left (s ∷ ss) ts (u, v, e, rd, more) = (u, v, e, step_left u s ((ties_step h).of u s rd), steps_left ss v more)

  lead_post_reads : (ts u v : List Tok) (place : Place) (e : ExprTerm) (b : Bool) (steps : List StepTerm) → ts ≡ u ++ v → place ≡ head_of (λ t. t.place) nowhere ts → (other_primary k).reads u (e, b) → language.turns (left (lead_step k)) v steps → (lead_post k).reads ts (post_lead (place, ((e, b), steps)))
  unfolding lead_post
  lead_post_reads ts u v place e b steps cut at rd more = ((place, ((e, b), (steps, None))), ((u, v, cut, rd, (v, [], sym (append-nil v), more, refl)), at), refl)

  lead_post_of : (ts : List Tok) (e : ExprTerm) → NoIf ts → PostRow j ts e → HasLead (lead_post k) ts e
  unfolding PostRow
  lead_post_of ts e g (y, ((u, v, cut, rd, more), at), q) =
      let w = other_primary_of h u y.1.0 (no_if_first u v (subst NoIf cut g)) rd in
      (post_lead (y.0, ((y.1.0, w.0), y.1.1)), lead_post_reads ts u v y.0 y.1.0 w.0 y.1.1 cut at w.1 (steps_left y.1.1 v more), q ∙ post_expr y.0 y.1.0 w.0 y.1.1, post_plain y.0 y.1.0 w.0 y.1.1)

  pub lead_pre_of : (ts : List Tok) (e : ExprTerm) → NoIf ts → PreRow j ts e → HasLead (lead_pre k) ts e
  unfolding lead_pre
  lead_pre_of ts e g rd = elim (cases_of ts e rd) [ inl w ↦ (w.0, inl w.1, w.2, w.3) | inr q ↦ (let w = lead_post_of ts e g q in (w.0, inr w.1, w.2, w.3)) ]

  -- a target is read as an expression that also is one

  lead_raise : (ts : List Tok) (x : Lead) → (lead_post k).reads ts x → (lead k).reads ts x
  unfolding lead lead_pre
  lead_raise ts x rd = raise (lead_pre k) (pre k) 8 ts x (inr rd)

  one_word : (ts : List Tok) (e : ExprTerm) → (other_primary k).reads ts (e, true) → (lead k).reads ts (Plain e (bare_target e))
  one_word ts e rd = lead_raise ts (Plain e (bare_target e)) (lead_post_reads ts ts [] (head_of (λ t. t.place) nowhere ts) e true [] (sym (append-nil ts)) refl rd refl)

  name_primary : (ts : List Tok) (n : Named) → NameRow ts n → (other_primary k).reads ts (PathExpr (path_of (n, [])), true)
  unfolding other_primary bare_expr named_expr more_names
  name_primary ts n rd = inr (PathExpr (path_of (n, [])), inr (inr (inl ((n, inr []), (ts, [], sym (append-nil ts), ties_name.of ts n rd, inr ([], refl, refl)), refl))), refl)

  result_primary : (ts : List Tok) (t : Tok) → the class.ResultWord ts t → (other_primary k).reads ts (ResultExpr t.place, true)
  unfolding other_primary bare_expr word
  result_primary ts t rd = inr (ResultExpr t.place, inr (inl (inr (inr (t, rd, refl)))), refl)

  feature_lead : (ts : List Tok) (o : ExprTerm) (n : Named) → NoIf ts → (PostRow j then after class.Dot NameRow) ts (o, n) → (e : ExprTerm) × (lead k).reads ts (Plain e (Some (MemberTarget o n.text n.place)))
  unfolding PostRow
  feature_lead ts o n g (a, b, cut, (y, ((u, v, e1, rd, more), at), q), dot) =
      let w = other_primary_of h u y.1.0 (no_if_first u (v ++ b) (subst NoIf (cut ∙ ap (λ z. z ++ b) e1 ∙ append_assoc u v b) g)) rd in
      let all : ts ≡ u ++ (v ++ b) = cut ∙ ap (λ z. z ++ b) e1 ∙ append_assoc u v b in
      let here : y.0 ≡ head_of (λ t. t.place) nowhere ts = at ∙ ap (head_of (λ t. t.place) nowhere) e1 ∙ same_place u v (v ++ b) (some_row u y.1.0 rd) ∙ sym (ap (head_of (λ t. t.place) nowhere) all) in
      let p = push_lead y.0 (y.1.0, w.0) y.1.1 n.text n.place in
      let last = step_left b (DotStep n.text NoArgs n.place) ((ties_step h).of b (DotStep n.text NoArgs n.place) (name_dot j b n dot)) in (
        p.0,
        subst (λ z. (lead k).reads ts (Plain p.0 (Some (MemberTarget z n.text n.place)))) (sym q)
            (subst (λ z. (lead k).reads ts z) p.1 (lead_raise ts _ (lead_post_reads ts u (v ++ b) y.0 y.1.0 w.0 (y.1.1 ++ DotStep n.text NoArgs n.place ∷ []) all here w.1 (turns_push (left (lead_step k)) y.1.1 v b (DotStep n.text NoArgs n.place) (steps_left y.1.1 v more) last)))),
      )

  pub target_of : (ts : List Tok) (t : TargetTerm) → NoIf ts → TargetRow j ts t → (e : ExprTerm) × (lead k).reads ts (Plain e (Some t))
  unfolding TargetRow
  target_of ts t g (inl (n, rd, q)) = (PathExpr (path_of (n, [])), subst (λ z. (lead k).reads ts (Plain (PathExpr (path_of (n, []))) (Some z))) (sym q) (one_word ts (PathExpr (path_of (n, []))) (name_primary ts n rd)))
  target_of ts t g (inr (inl (x, rd, q))) = (ResultExpr x.place, subst (λ z. (lead k).reads ts (Plain (ResultExpr x.place) (Some z))) (sym q) (one_word ts (ResultExpr x.place) (result_primary ts x rd)))
  target_of ts t g (inr (inr (x, rd, q))) = (let w = feature_lead ts x.0 x.1 g rd in (w.0, subst (λ z. (lead k).reads ts (Plain w.0 (Some z))) (sym q) w.1))

  -- a `forEach` over a Post: what the parser reads at the front of a statement, or what begins with a conditional

  abbrev IsEach : Language Tok Lead → List Tok → ExprTerm × EachPart → Type 0
  IsEach l ts x = l.reads ts (Each x.0 x.1)

  abbrev IsIfEach : List Tok → ExprTerm × EachPart → Type 0
  IsIfEach ts x = (place : Place) × (e : ExprTerm) × (steps : List StepTerm) × (u : List Tok) × (v : List Tok) × (x.0 ≡ post_of place e steps) × (place ≡ head_of (λ t. t.place) nowhere ts)
      × (ts ≡ u ++ v) × (if_expr k).reads u e × (finished (lead_step k)).reads v (steps, x.1)

  pub loop_of_row : (ts : List Tok) (x : ExprTerm × EachPart) → loop_row j ts x → IsEach (lead k) ts x ⊎ IsIfEach ts x
  unfolding PostRow lead_post
  loop_of_row ts x (a, b, cut, (y, ((u, v, e1, rd, more), at), q), rest) =
      let all : ts ≡ u ++ (v ++ b) = cut ∙ ap (λ z. z ++ b) e1 ∙ append_assoc u v b in
      let here : y.0 ≡ head_of (λ t. t.place) nowhere ts = at ∙ ap (head_of (λ t. t.place) nowhere) e1 ∙ same_place u v (v ++ b) (some_row u y.1.0 rd) ∙ sym (ap (head_of (λ t. t.place) nowhere) all) in
      elim (other_of h u y.1.0 rd) [
        | inl w ↦ inl (subst (λ z. (lead k).reads ts (Each z x.1)) (sym q) (lead_raise ts (Each (post_of y.0 y.1.0 y.1.1) x.1)
            ((y.0, ((y.1.0, w.0), (y.1.1, Some x.1))), ((u, v ++ b, all, w.1, (v, b, refl, steps_left y.1.1 v more, each_right b x.1 rest)), here), refl)))
        | inr w ↦ inr (y.0, y.1.0, y.1.1, u, v ++ b, q, here, all, w, (v, b, refl, steps_left y.1.1 v more, each_right b x.1 rest))
      ]
