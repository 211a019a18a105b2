-- Steps are read again.
use Rattle.std.proofs.Common.{◌≡◌, ℕ, List, [], ◌∷◌, ◌++◌, map, Bool, true, false, inl, inr, refl, sym, ap, ◌∙◌, subst, append_assoc, append-nil, Option, Some, None, option_map}
use Rattle.qvt_base.specs.declared.numbers.Place.{Place}
use Rattle.qvt_tree_types.specs.Tree.{TypeTerm, PathExpr, ExprTerm, SomeArgs, HeadTerm, NoHead, HeadOf, AccumulatorTerm, StepTerm, TargetTerm, DotStep, ArrowStep, DotMapStep, DotResolveStep, ArrowMapStep, ArrowResolveStep, BareTarget, ResultTarget, MemberTarget}
use Rattle.qvt_tree_types.specs.View.{exprs_of, stmts_of, optional_args, optional_accumulator, optional_expr}
use Rattle.qvt_tree.specs.Shape.{nowhere, erase_type, erase_optional_type, erase_expr, erase_args, erase_head, erase_accumulator, erase_step, erase_stmt, erase_optional_expr}
use Rattle.qvt_language.specs.declared.class.Class.TheVariants as class
use Rattle.qvt_language.specs.Tokens.{Tok}
use Rattle.qvt_language.specs.Leads.{Lead, Plain, Bracketed, Each, EachPart}
use Rattle.qvt_language.specs.Grammar.{NestedLanguages, dot_rest, dot_step, head_rest, more_exprs, after_first, arrow_body, arrow_args, arrow_rest, step, each_tail}
use Rattle.qvt_language.specs.Trees.{second, first, no_args, dot_of, arrow_of, expr_of, headed, each_of}
use Rattle.qvt_printer_layout.specs.declared.piece.PrintPiece.{PrintPiece}
use Rattle.qvt_printer_layout.specs.declared.piece.PrintPiece.TheVariants as piece
use Rattle.qvt_printer.specs.Expressions as print
use Rattle.qvt_readback_tokens.specs.Spelled.{all_spelled}
use Rattle.qvt_readback_trees.specs.Printable.{IsPrintableExpr, ArePrintableExprs, ArePrintableArgs, IsPrintableHead, IsPrintableAccumulator, IsPrintableStep, IsPrintableOptional, ArePrintableStmts}
use Rattle.qvt_readback_trees.proofs.Spelling.{plain, plain_name, rest_spelled, spelled_append}
use Rattle.qvt_readback_trees.proofs.Again.{Again, again_the, again_then, again_made, again_either, again_as, again_maybe, optional_ok, if_there}
use Rattle.qvt_readback_trees.proofs.AgainNames.{again_name, again_colon_type}
use Rattle.qvt_readback_trees.proofs.AgainExprs.{AgainNested, bare_exprs, bare_optional, ok_optional, optional_any, condition_same, again_args, again_more_exprs, again_map_call, again_resolve, again_bar_expr, again_accumulator}

args_ok : (x : Option (List ExprTerm)) → ArePrintableArgs (optional_args x) → optional_ok (λ (es : List ExprTerm). ArePrintableExprs (exprs_of es)) x
args_ok None o = tt
args_ok (Some es) o = o

args_same : (x : Option (List ExprTerm)) → all_spelled (print.args_if (optional_args x)) ≡ all_spelled (if_there (λ (es : List ExprTerm). print.in_round (print.exprs false (exprs_of es))) x)
args_same None = refl
args_same (Some es) = refl

pub args_bare : (x : Option (List ExprTerm)) → erase_args (optional_args x) ≡ optional_args (option_map (map erase_expr) x)
args_bare None = refl
args_bare (Some es) = ap SomeArgs (bare_exprs es)

pub type_same : (x : Option TypeTerm) → all_spelled (print.typed_if x) ≡ all_spelled (if_there print.typed x)
type_same None = refl
type_same (Some t) = refl

pub type_bare : (x : Option TypeTerm) → erase_optional_type x ≡ option_map erase_type x
type_bare None = refl
type_bare (Some t) = refl

accumulator_ok : (x : Option AccumulatorTerm) → IsPrintableAccumulator (optional_accumulator x) → optional_ok IsPrintableAccumulator x
accumulator_ok None o = tt
accumulator_ok (Some a) o = o

accumulator_same : (x : Option AccumulatorTerm) → all_spelled (print.accumulator (optional_accumulator x)) ≡ all_spelled (if_there print.accumulator x)
accumulator_same None = refl
accumulator_same (Some a) = refl

pub accumulator_bare : (x : Option AccumulatorTerm) → erase_accumulator (optional_accumulator x) ≡ optional_accumulator (option_map erase_accumulator x)
accumulator_bare None = refl
accumulator_bare (Some a) = refl

-- the body of an arrow: a head with its body, or arguments
abbrev pub Body : Type 0
Body = HeadTerm × List ExprTerm

abbrev body_ok : Body → Type 0
body_ok x = IsPrintableHead x.0 × ArePrintableExprs (exprs_of x.1)

abbrev body_pieces : Body → List PrintPiece
body_pieces x = print.head x.0 ++ print.exprs false (exprs_of x.1)

abbrev pub bare_body : Body → Body
bare_body x = (erase_head x.0, map erase_expr x.1)

abbrev pub HeadRest : Type 0
HeadRest = Option TypeTerm × (Option AccumulatorTerm × ExprTerm)

abbrev rest_ok : HeadRest → Type 0
rest_ok x = IsPrintableAccumulator (optional_accumulator x.1.0) × IsPrintableExpr x.1.1

abbrev rest_pieces : HeadRest → List PrintPiece
rest_pieces x = print.typed_if x.0 ++ (print.accumulator (optional_accumulator x.1.0) ++ (piece.Plain class.Bar ∷ print.expr x.1.1))

abbrev pub bare_rest : HeadRest → HeadRest
bare_rest x = (option_map erase_type x.0, (option_map erase_accumulator x.1.0, erase_expr x.1.1))

headed_spelled : (n : List ℕ) (place : Place) (x : HeadRest) → all_spelled (body_pieces (headed n place x)) ≡ plain_name n ∷ all_spelled (rest_pieces x)
headed_spelled n place x =
    let a = print.accumulator (optional_accumulator x.1.0) in
    let e = print.expr x.1.1 in
    ap (λ z. plain_name n ∷ all_spelled z) (append_assoc (print.typed_if x.0) (a ++ print.one class.Bar) (e ++ []) ∙ ap (λ z. print.typed_if x.0 ++ z) (append_assoc a (print.one class.Bar) (e ++ []) ∙ ap (λ z. a ++ (piece.Plain class.Bar ∷ z)) (append-nil e)))

pub headed_bare : (n : List ℕ) (place : Place) (x : HeadRest) → bare_body (headed n place x) ≡ headed n nowhere (bare_rest x)
headed_bare n place x = λ j. (HeadOf n (type_bare x.0 j) (accumulator_bare x.1.0 j) nowhere, erase_expr x.1.1 ∷ [])

pub same_front : (ps qs rs : List PrintPiece) → all_spelled ps ≡ all_spelled qs → all_spelled (ps ++ rs) ≡ all_spelled (qs ++ rs)
same_front ps qs rs e = spelled_append ps rs ∙ ap (λ ts. ts ++ all_spelled rs) e ∙ sym (spelled_append qs rs)

-- a step without its sign
abbrev step_rest : StepTerm → List PrintPiece
step_rest (DotStep name x place) = piece.Name name ∷ print.args_if x
step_rest (ArrowStep name head x place) = piece.Name name ∷ print.in_round (print.head head ++ print.exprs false x)
step_rest (DotMapStep call) = print.map_call call
step_rest (ArrowMapStep call) = print.map_call call
step_rest (DotResolveStep call) = print.resolve call
step_rest (ArrowResolveStep call) = print.resolve call

module _ {i : NestedLanguages} (h : AgainNested i) where
  pub again_dot_rest : Again IsPrintableStep step_rest erase_step (dot_rest i) (dot_rest i)
  unfolding dot_rest
  again_dot_rest = again_either
      (again_made dot_of (again_then again_name (again_maybe (again_args h))) (λ a o. (tt, args_ok a.1 o)) (λ a. ap (λ z. plain_name a.0.text ∷ z) (args_same a.1)) (λ a. ap (λ z. DotStep a.0.text z nowhere) (args_bare a.1)))
      (again_either (again_made DotMapStep (again_map_call h) (λ a o. o) (λ a. refl) (λ a. refl)) (again_made DotResolveStep (again_resolve h) (λ a o. o) (λ a. refl) (λ a. refl)))

  again_head_rest : Again rest_ok rest_pieces bare_rest (head_rest i) (head_rest i)
  unfolding head_rest
  again_head_rest = again_as (again_then (again_maybe (again_colon_type i h.kind)) (again_then (again_maybe (again_accumulator h)) (again_bar_expr h)))
      (λ a o. (optional_any a.0, (accumulator_ok a.1.0 o.0, o.1)))
      (λ a. rest_spelled (print.typed_if a.0) _ _ (same_front (print.accumulator (optional_accumulator a.1.0)) (if_there print.accumulator a.1.0) _ (accumulator_same a.1.0)) ∙ same_front (print.typed_if a.0) (if_there print.typed a.0) _ (type_same a.0))
      (λ a. refl)

  -- arguments after an expression, whatever target it is
  after_exprs : (e : ExprTerm) (t : Option TargetTerm) (ts : List Tok) (es : List ExprTerm) → (more_exprs i).reads ts es → (after_first i (Plain e t)).reads ts (NoHead, e ∷ es)
  after_exprs e None ts es rd = (es, rd, refl)
  after_exprs e (Some (BareTarget n p)) ts es rd = inr (es, rd, refl)
  after_exprs e (Some (ResultTarget p)) ts es rd = (es, rd, refl)
  after_exprs e (Some (MemberTarget x n p)) ts es rd = (es, rd, refl)

  abbrev BodyReads : Body → Type 0
  BodyReads x = (arrow_body i).reads (all_spelled (body_pieces x)) (bare_body x)

  exprs_body : (u v : List Tok) (x : Lead) (es : List ExprTerm) → i.flagged.reads u x → (more_exprs i).reads v es → body_ok (NoHead, expr_of x ∷ es) → BodyReads (NoHead, expr_of x ∷ es)
  unfolding arrow_body
  exprs_body u v x es rx res o =
      let w = (h.flagged u x rx o.1.0).bracket in
      let e = erase_expr (expr_of x) in
      ((Plain e w.0, (NoHead, e ∷ map erase_expr es)), (all_spelled (print.expr (expr_of x)), all_spelled (print.exprs true (exprs_of es)), spelled_append (print.expr (expr_of x)) (print.exprs true (exprs_of es)), w.1, after_exprs e w.0 _ (map erase_expr es) ((again_more_exprs h).again v es res o.1.1)), refl)

  head_body : (u v : List Tok) (x : Lead) (n : List ℕ) (place : Place) (r : HeadRest) → i.flagged.reads u x → (head_rest i).reads v r → body_ok (headed n place r) → BodyReads (headed n place r)
  unfolding arrow_body
  head_body u v x n place r rx rr o =
      let path = PathExpr (record { names = n ∷ []; place = nowhere }) in
      let again = again_head_rest.again v r rr (o.0, o.1.0) in
      ((Plain path (Some (BareTarget n nowhere)), headed n nowhere (bare_rest r)), (plain_name n ∷ [], all_spelled (rest_pieces r), headed_spelled n place r, h.names u x rx n, inl (bare_rest r, again, refl)), headed_bare n place r)

  body_of_first : (u v : List Tok) (x : Lead) (y : Body) → i.flagged.reads u x → (after_first i x).reads v y → body_ok y → BodyReads y
  body_of_first u v (Plain e (Some (BareTarget n p))) y rx ry o = elim ry [
    | inl q ↦ subst BodyReads (sym q.2) (head_body u v (Plain e (Some (BareTarget n p))) n p q.0 rx q.1 (subst body_ok q.2 o))
    | inr q ↦ subst BodyReads (sym q.2) (exprs_body u v (Plain e (Some (BareTarget n p))) q.0 rx q.1 (subst body_ok q.2 o))
  ]
  body_of_first u v (Plain e None) y rx ry o = subst BodyReads (sym ry.2) (exprs_body u v (Plain e None) ry.0 rx ry.1 (subst body_ok ry.2 o))
  body_of_first u v (Plain e (Some (ResultTarget p))) y rx ry o = subst BodyReads (sym ry.2) (exprs_body u v (Plain e (Some (ResultTarget p))) ry.0 rx ry.1 (subst body_ok ry.2 o))
  body_of_first u v (Plain e (Some (MemberTarget a n p))) y rx ry o = subst BodyReads (sym ry.2) (exprs_body u v (Plain e (Some (MemberTarget a n p))) ry.0 rx ry.1 (subst body_ok ry.2 o))
  body_of_first u v (Bracketed e) y rx ry o = subst BodyReads (sym ry.2) (exprs_body u v (Bracketed e) ry.0 rx ry.1 (subst body_ok ry.2 o))
  body_of_first u v (Each e part) y rx ry o = subst BodyReads (sym ry.2) (exprs_body u v (Each e part) ry.0 rx ry.1 (subst body_ok ry.2 o))

  again_arrow_body : Again body_ok body_pieces bare_body (arrow_body i) (arrow_body i)
  unfolding arrow_body
  again_arrow_body = record { again = λ ts y rd o. subst BodyReads (sym rd.2) (body_of_first rd.1.0 rd.1.1 rd.0.0 rd.0.1 rd.1.3 rd.1.4 (subst body_ok rd.2 o)) }

  again_arrow_args : Again body_ok (λ x. print.in_round (body_pieces x)) bare_body (arrow_args i) (arrow_args i)
  unfolding arrow_args
  again_arrow_args = again_made second (again_then (again_the class.OpenRound) (again_either {ok = body_ok} {p = λ x. body_pieces x ++ print.one class.CloseRound} {b = bare_body}
      (again_made no_args (again_the class.CloseRound) (λ a o. tt) (λ a. refl) (λ a. refl))
      (again_made first (again_then again_arrow_body (again_the class.CloseRound)) (λ a o. (o, tt)) (λ a. refl) (λ a. refl))))
      (λ a o. (tt, o)) (λ a. refl) (λ a. refl)

  again_arrow_rest : Again IsPrintableStep step_rest erase_step (arrow_rest i) (arrow_rest i)
  unfolding arrow_rest
  again_arrow_rest = again_either
      (again_made arrow_of (again_then again_name again_arrow_args) (λ a o. (tt, o)) (λ a. refl) (λ a. ap (λ z. ArrowStep a.0.text (erase_head a.1.0) z nowhere) (bare_exprs a.1.1)))
      (again_either (again_made ArrowMapStep (again_map_call h) (λ a o. o) (λ a. refl) (λ a. refl)) (again_made ArrowResolveStep (again_resolve h) (λ a o. o) (λ a. refl) (λ a. refl)))

-- whether the sign before a step is a dot
abbrev is_dotted : StepTerm → Bool
is_dotted (DotStep name x place) = true
is_dotted (DotMapStep call) = true
is_dotted (DotResolveStep call) = true
is_dotted s = false

dot_printed : (s : StepTerm) → is_dotted s ≡ true → print.step s ≡ piece.Plain class.Dot ∷ step_rest s
dot_printed (DotStep name x place) q = refl
dot_printed (DotMapStep call) q = refl
dot_printed (DotResolveStep call) q = refl
dot_printed (ArrowStep name head x place) q = absurd cc
dot_printed (ArrowMapStep call) q = absurd cc
dot_printed (ArrowResolveStep call) q = absurd cc

arrow_printed : (s : StepTerm) → is_dotted s ≡ false → print.step s ≡ piece.Plain class.Arrow ∷ step_rest s
arrow_printed (DotStep name x place) q = absurd cc
arrow_printed (DotMapStep call) q = absurd cc
arrow_printed (DotResolveStep call) q = absurd cc
arrow_printed (ArrowStep name head x place) q = refl
arrow_printed (ArrowMapStep call) q = refl
arrow_printed (ArrowResolveStep call) q = refl

dot_sign : (i : NestedLanguages) (ts : List Tok) (s : StepTerm) → (dot_rest i).reads ts s → is_dotted s ≡ true
unfolding dot_rest
dot_sign i ts s rd = elim rd [ inl q ↦ ap is_dotted q.2 | inr r ↦ elim r [ inl q ↦ ap is_dotted q.2 | inr q ↦ ap is_dotted q.2 ] ]

arrow_sign : (i : NestedLanguages) (ts : List Tok) (s : StepTerm) → (arrow_rest i).reads ts s → is_dotted s ≡ false
unfolding arrow_rest
arrow_sign i ts s rd = elim rd [ inl q ↦ ap is_dotted q.2 | inr r ↦ elim r [ inl q ↦ ap is_dotted q.2 | inr q ↦ ap is_dotted q.2 ] ]

module _ {i : NestedLanguages} (h : AgainNested i) where
  abbrev StepReads : StepTerm → Type 0
  StepReads s = (step i).reads (all_spelled (print.step s)) (erase_step s)

  dot_again : (ts : List Tok) (s : StepTerm) → (dot_rest i).reads ts s → IsPrintableStep s → StepReads s
  unfolding step dot_step
  dot_again ts s rd o =
      let again = (again_dot_rest h).again ts s rd o in
      subst (λ z. (step i).reads (all_spelled z) (erase_step s)) (sym (dot_printed s (dot_sign i ts s rd))) (inl ((plain class.Dot, erase_step s), (plain class.Dot ∷ [], all_spelled (step_rest s), refl, (refl, refl), again), refl))

  arrow_again : (ts : List Tok) (s : StepTerm) → (arrow_rest i).reads ts s → IsPrintableStep s → StepReads s
  unfolding step
  arrow_again ts s rd o =
      let again = (again_arrow_rest h).again ts s rd o in
      subst (λ z. (step i).reads (all_spelled z) (erase_step s)) (sym (arrow_printed s (arrow_sign i ts s rd))) (inr ((plain class.Arrow, erase_step s), (plain class.Arrow ∷ [], all_spelled (step_rest s), refl, (refl, refl), again), refl))

  pub again_step : (ts : List Tok) (s : StepTerm) → (step i).reads ts s → IsPrintableStep s → StepReads s
  unfolding step dot_step
  again_step ts s rd o = elim rd [
    | inl q ↦ subst StepReads (sym q.2) (dot_again q.1.1 q.0.1 q.1.4 (subst IsPrintableStep q.2 o))
    | inr q ↦ subst StepReads (sym q.2) (arrow_again q.1.1 q.0.1 q.1.4 (subst IsPrintableStep q.2 o))
  ]

-- the rest of a `forEach`

abbrev pub EachOk : EachPart → Type 0
EachOk part = IsPrintableOptional part.condition × ArePrintableStmts (stmts_of part.body)

abbrev pub each_pieces : EachPart → List PrintPiece
each_pieces part = piece.Plain class.ForEachWord ∷ (print.iterator part.name part.kind (print.condition_if part.condition) ++ print.block (stmts_of part.body))

abbrev pub bare_part : EachPart → EachPart
bare_part part = record { name = part.name; kind = erase_optional_type part.kind; condition = erase_optional_expr part.condition; body = map erase_stmt part.body }

each_same : (n : List ℕ) (kind : Option TypeTerm) (x : Option ExprTerm) (r : List PrintPiece) →
    all_spelled (piece.Plain class.ForEachWord ∷ (print.iterator n kind (print.condition_if (optional_expr x)) ++ r))
    ≡ all_spelled (piece.Plain class.ForEachWord ∷ piece.Plain class.OpenRound ∷ piece.Name n ∷ (if_there print.typed kind ++ (if_there (λ (e : ExprTerm). piece.Plain class.Bar ∷ print.expr e) x ++ (piece.Plain class.CloseRound ∷ r))))
each_same n kind x r =
    let k = print.typed_if kind in
    let c = print.condition_if (optional_expr x) in
    let c2 = if_there (λ (e : ExprTerm). piece.Plain class.Bar ∷ print.expr e) x in
    let e1 = append_assoc (k ++ c) (print.one class.CloseRound) r ∙ append_assoc k c (piece.Plain class.CloseRound ∷ r) in
    let e2 = rest_spelled k (c ++ (piece.Plain class.CloseRound ∷ r)) (c2 ++ (piece.Plain class.CloseRound ∷ r)) (same_front c c2 (piece.Plain class.CloseRound ∷ r) (condition_same x)) in
    let e3 = same_front k (if_there print.typed kind) (c2 ++ (piece.Plain class.CloseRound ∷ r)) (type_same kind) in
    ap (λ z. plain class.ForEachWord ∷ plain class.OpenRound ∷ plain_name n ∷ z) (ap all_spelled e1 ∙ e2 ∙ e3)

module _ {i : NestedLanguages} (h : AgainNested i) where
  pub again_each_tail : Again EachOk each_pieces bare_part (each_tail i) (each_tail i)
  unfolding each_tail
  again_each_tail = again_made each_of (again_then (again_the class.ForEachWord) (again_then (again_the class.OpenRound) (again_then again_name (again_then (again_maybe (again_colon_type i h.kind)) (again_then (again_maybe (again_bar_expr h)) (again_then (again_the class.CloseRound) h.block))))))
      (λ a o. (tt, (tt, (tt, (optional_any a.1.1.1.0, (ok_optional a.1.1.1.1.0 o.0, (tt, o.1)))))))
      (λ a. each_same a.1.1.0.text a.1.1.1.0 a.1.1.1.1.0 (print.block (stmts_of a.1.1.1.1.1.1)))
      (λ a j. record { name = a.1.1.0.text; kind = type_bare a.1.1.1.0 j; condition = bare_optional a.1.1.1.1.0 j; body = map erase_stmt a.1.1.1.1.1.1 })
