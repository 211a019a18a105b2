-- The rows with an optional name before them, and steps.
use Rattle.std.proofs.Common.{◌≡◌, ℕ, List, [], ◌∷◌, ◌++◌, inl, inr, refl, sym, ap, ◌∙◌, subst, Option, Some, None}
use Rattle.qvt_grammar.proofs.Lists.{regroup, grouped}
use Rattle.qvt_base.specs.declared.numbers.Place.{Place}
use Rattle.qvt_tree_types.specs.View.{optional_expr}
use Rattle.qvt_tree_types.specs.Tree.{FilterTerm, FilterOf, TypeTerm, PathType, ExprTerm, StepTerm, DotMapStep, DotResolveStep, ArrowMapStep, ArrowResolveStep, PathExpr, BareTarget, ResultTarget, MemberTarget, HeadTerm, NoHead}
use Rattle.qvt_tree_types.specs.declared.types.PathTree.{PathTree}
use Rattle.qvt_tree_types.specs.declared.types.ObjectVar.{ObjectVar}
use Rattle.qvt_language.specs.Tokens.{Tok}
use Rattle.qvt_language.specs.declared.named.Named.{Named}
use Rattle.qvt_language.specs.declared.class.Class.TheVariants as class
use Rattle.qvt_language.specs.Leads.{Lead, Plain, Bracketed, Each}
use Rattle.qvt_language.specs.Trees.{path_of, all_of, in_of, resolve_of, result_head, named_head, named_type, accumulator_of, dot_of, arrow_of, no_args, headed, expr_of}
use Rattle.qvt_language.specs.Grammar.{NestedLanguages, name, more_names, path, colon_path, object_head, object, coll_type, typed, colon_type, filter_head, filter, all_form, in_form, resolve, dot_rest, dot_step, accumulator, head_rest, more_exprs, after_first, arrow_body, arrow_args, arrow_rest, step, expr}
use Rattle.qvt_language_rows.specs.Phrase.{Phrase, ◌or◌, ◌gives◌, ◌then◌, the, maybe, after, before, between, listed}
use Rattle.qvt_language_rows.specs.Values.{named_var, result_var, object_of, name_text, headed_body, without_head, or_no_args}
use Rattle.qvt_language_rows.specs.Rows.{NestedRows, NameRow, PathRow, ExtentRow, TypeRow, ExprsRow, FilterRow, ResolveRow, HeadRow, MapRow, StepRow}
use Rattle.qvt_language_rows.proofs.Ties.{Ties, ties_the, ties_then, ties_or, ties_gives, ties_many, ties_maybe, ties_placed, ties_after, ties_between, ties_optional, right_of, left_of}
use Rattle.qvt_language_rows.proofs.Plain.{TiesInside, ties_name, ties_more_names, ties_path, ties_extent, ties_all, ties_in, ties_coll_type, ties_type, ties_colon_type, ties_args, ties_map, ties_bar}

-- [(Name | "result") ":"] Path

abbrev variable : Phrase ObjectVar
variable = NameRow gives named_var or the class.ResultWord gives result_var

abbrev head_row : Phrase (Option ObjectVar × PathTree)
head_row = maybe (before variable class.Colon) then PathRow

pub path_row : (ts : List Tok) (n : Named) (ns : List Named) (a b : List Tok) → ts ≡ a ++ b → name.reads a n → more_names.reads b ns → PathRow ts (path_of (n, ns))
unfolding PathRow
path_row ts n ns a b e nm rd = ((n, ns), (a, b, e, ties_name.to a n nm, ties_more_names.to b ns rd), refl)

head_to : (ts : List Tok) (y : Option ObjectVar × PathTree) → object_head.reads ts y → head_row ts y
unfolding object_head colon_path
head_to ts y (inl (x, (a, b, e, res, (w, (b1, b2, e2, col, pth), d)), q)) =
    subst (λ z. head_row ts z) (sym (q ∙ ap (λ z. result_head (x.0, z)) d))
    (a ++ b1, b2, grouped ts b b2 a b1 e e2, inl (result_var x.0, ((result_var x.0, w.0), (a, b1, refl, inr (x.0, res, refl), col), refl), refl), ties_path.to b2 w.1 pth)
head_to ts y (inr (x, (a, b, e, nm, (inl (p, (w, (b1, b2, e2, col, pth), d), r))), q)) =
    subst (λ z. head_row ts z) (sym (q ∙ ap (λ z. named_head (x.0, z)) (r ∙ ap inl d)))
    (a ++ b1, b2, grouped ts b b2 a b1 e e2, inl (named_var x.0, ((named_var x.0, w.0), (a, b1, refl, inl (x.0, ties_name.to a x.0 nm, refl), col), refl), refl), ties_path.to b2 w.1 pth)
head_to ts y (inr (x, (a, b, e, nm, (inr (ns, rd, r))), q)) =
    subst (λ z. head_row ts z) (sym (q ∙ ap (λ z. named_head (x.0, z)) r))
    ([], ts, refl, inr (tt, refl, refl), path_row ts x.0 ns a b e nm rd)

head_of : (ts : List Tok) (y : Option ObjectVar × PathTree) → head_row ts y → object_head.reads ts y
unfolding object_head colon_path PathRow
head_of ts (o, p) (u, v, e, (inl (x, (z, (a, b, e2, (inl (n, nm, r)), col), d), q)), pth) =
    inr ((n, inl p), (a, b ++ v, regroup ts u v a b e e2, ties_name.of a n nm, inl (p, ((z.1, p), (b, v, refl, col, ties_path.of v p pth), refl), refl)), λ i. ((q ∙ ap Some (d ∙ r)) i, p))
head_of ts (o, p) (u, v, e, (inl (x, (z, (a, b, e2, (inr (t, rd, r)), col), d), q)), pth) =
    inl ((t, p), (a, b ++ v, regroup ts u v a b e e2, rd, ((z.1, p), (b, v, refl, col, ties_path.of v p pth), refl)), λ i. ((q ∙ ap Some (d ∙ r)) i, p))
head_of ts (o, p) (u, v, e, (inr (x, n, q)), (ns, (a, b, e2, nm, rd), d)) =
    inr ((ns.0, inr ns.1), (a, b, (e ∙ ap (λ z. z ++ v) n) ∙ e2, ties_name.of a ns.0 nm, inr (ns.1, ties_more_names.of b ns.1 rd, refl)), λ i. (q i, d i))

ties_head : Ties object_head head_row object_head
ties_head = record { to = head_to; of = head_of }

-- [Name ":"] Type

abbrev IsFilterHead : NestedRows → List Tok → Option (List ℕ) × TypeTerm → Type 0
IsFilterHead j ts y = (o : Option Named) × (y.0 ≡ name_text o) × (maybe (before NameRow class.Colon) then TypeRow j) ts (o, y.1)

module _ {i : NestedLanguages} {j : NestedRows} {k : NestedLanguages} (h : TiesInside i j k) where
  pub ties_object : Ties (object i) (the class.ObjectWord then maybe (before variable class.Colon) then PathRow then maybe ExtentRow then j.block gives object_of) (object k)
  unfolding object
  ties_object = record {
    to = λ ts a (x, (u, v, e, w, (v1, v2, e2, hd, (v3, v4, e4, ext, body))), q). (
      (x.0, (x.1.0.0, (x.1.0.1, x.1.1))),
      (u, v, e, w, right_of (maybe (before variable class.Colon)) PathRow (maybe ExtentRow then j.block) v v1 v2 x.1.0.0 x.1.0.1 x.1.1 e2 (head_to v1 x.1.0 hd) (v3, v4, e4, ties_extent.to v3 x.1.1.0 ext, h.block.to v4 x.1.1.1 body)),
      q,
    );
    of = λ ts a (x, (u, v, e, w, rest), q). (let l = left_of (maybe (before variable class.Colon)) PathRow (maybe ExtentRow then j.block) v x.1.0 x.1.1.0 x.1.1.1 rest in
        ((x.0, ((x.1.0, x.1.1.0), x.1.1.1)), (u, v, e, w, (l.0, l.1, l.2, head_of l.0 (x.1.0, x.1.1.0) l.3, (l.4.0, l.4.1, l.4.2, ties_extent.of l.4.0 x.1.1.1.0 l.4.3, h.block.of l.4.1 x.1.1.1.1 l.4.4))), q));
  }

  first_type : (ts : List Tok) (t : TypeTerm) → (coll_type i).reads ts t → TypeRow j ts t
  unfolding TypeRow
  first_type ts t rd = inl ((ties_coll_type h).to ts t rd)

  path_type : (ts : List Tok) (n : Named) (ns : List Named) (a b : List Tok) → ts ≡ a ++ b → name.reads a n → more_names.reads b ns → TypeRow j ts (PathType (path_of (n, ns)))
  unfolding TypeRow
  path_type ts n ns a b e nm rd = inr (path_of (n, ns), path_row ts n ns a b e nm rd, refl)

  without : (ts v : List Tok) (o : Option Named) (t : TypeTerm) → ts ≡ v → o ≡ None → (typed k).reads v t → (filter_head k).reads ts (name_text o, t)
  unfolding filter_head typed path
  without ts v o t same q (inl rd) = inl (t, subst (λ z. (coll_type k).reads z t) (sym same) rd, λ x. (name_text (q x), t))
  without ts v o t same q (inr (p, (ns, (a, b, e2, nm, rd), d), r)) = inr ((ns.0, inr ns.1), (a, b, same ∙ e2, nm, inr (ns.1, rd, refl)), λ x. (name_text (q x), (r ∙ ap PathType d) x))

  filter_head_to : (ts : List Tok) (y : Option (List ℕ) × TypeTerm) → (filter_head i).reads ts y → IsFilterHead j ts y
  unfolding filter_head colon_type
  filter_head_to ts y (inl (t, rd, q)) = subst (λ z. IsFilterHead j ts z) (sym q) (None, refl, ([], ts, refl, inr (tt, refl, refl), first_type ts t rd))
  filter_head_to ts y (inr (x, (a, b, e, nm, (inl (p, (w, (b1, b2, e2, col, ty), d), r))), q)) =
      subst (λ z. IsFilterHead j ts z) (sym (q ∙ ap (λ z. named_type (x.0, z)) (r ∙ ap inl d)))
      (Some x.0, refl, (a ++ b1, b2, grouped ts b b2 a b1 e e2, inl (x.0, ((x.0, w.0), (a, b1, refl, ties_name.to a x.0 nm, col), refl), refl), (ties_type h).to b2 w.1 ty))
  filter_head_to ts y (inr (x, (a, b, e, nm, (inr (ns, rd, r))), q)) =
      subst (λ z. IsFilterHead j ts z) (sym (q ∙ ap (λ z. named_type (x.0, z)) r)) (None, refl, ([], ts, refl, inr (tt, refl, refl), path_type ts x.0 ns a b e nm rd))

  filter_head_of : (ts : List Tok) (o : Option Named) (t : TypeTerm) → (maybe (before NameRow class.Colon) then TypeRow j) ts (o, t) → (filter_head k).reads ts (name_text o, t)
  unfolding filter_head colon_type typed path
  filter_head_of ts o t (u, v, e, (inl (x, (z, (a, b, e2, nm, col), d), q)), ty) =
      inr ((z.0, inl t), (a, b ++ v, regroup ts u v a b e e2, ties_name.of a z.0 nm, inl (t, ((z.1, t), (b, v, refl, col, (ties_type h).of v t ty), refl), refl)), λ y. (name_text ((q ∙ ap Some d) y), t))
  filter_head_of ts o t (u, v, e, (inr (x, n, q)), ty) = without ts v o t (e ∙ ap (λ z. z ++ v) n) q ((ties_type h).of v t ty)

  abbrev from_text : Place → Option (List ℕ) → TypeTerm → Option ExprTerm → FilterTerm
  from_text place text kind condition = FilterOf text kind (optional_expr condition) place

  pub ties_filter : Ties (filter i) (FilterRow j) (filter k)
  unfolding filter FilterRow
  ties_filter = record {
    to = λ ts a (x, ((u, v, e, hd, br), pl), q). (let y = filter_head_to u x.1.0 hd in (
      (x.0, (y.0, (x.1.0.1, x.1.1))),
      (right_of (maybe (before NameRow class.Colon)) (TypeRow j) (maybe (after class.Bar j.expr)) ts u v y.0 x.1.0.1 x.1.1 e y.2 ((ties_maybe (ties_bar h)).to v x.1.1 br), pl),
      q ∙ ap (λ z. from_text x.0 z x.1.0.1 x.1.1) y.1,
    ));
    of = λ ts a (x, (rest, pl), q). (let l = left_of (maybe (before NameRow class.Colon)) (TypeRow j) (maybe (after class.Bar j.expr)) ts x.1.0 x.1.1.0 x.1.1.1 rest in
        ((x.0, ((name_text x.1.0, x.1.1.0), x.1.1.1)), ((l.0, l.1, l.2, filter_head_of l.0 x.1.0 x.1.1.0 l.3, (ties_maybe (ties_bar h)).of l.1 x.1.1.1 l.4), pl), q));
  }

  pub ties_resolve : Ties (resolve i) (ResolveRow j) (resolve k)
  unfolding resolve all_form in_form ResolveRow
  ties_resolve = ties_gives resolve_of (ties_placed (ties_then (ties_maybe (ties_the class.LateWord)) (ties_or
      (ties_gives all_of (ties_then ties_all (ties_between class.OpenRound class.CloseRound ties_filter)))
      (ties_gives in_of (ties_then ties_in (ties_then (ties_the class.OpenRound) (ties_then ties_path (ties_then (ties_maybe (ties_after class.Comma ties_filter)) (ties_the class.CloseRound)))))))))

  -- Head "|" Expr | Exprs

  ties_accumulator : Ties (accumulator i) (after class.Semicolon (NameRow then after class.Colon (TypeRow j) then after class.EqualSign j.expr) gives accumulator_of) (accumulator k)
  unfolding accumulator
  ties_accumulator = ties_gives accumulator_of (ties_after class.Semicolon (ties_then ties_name (ties_then (ties_colon_type h) (ties_after class.EqualSign h.expr))))

  abbrev body_row : Phrase (HeadTerm × List ExprTerm)
  body_row = HeadRow j then after class.Bar j.expr gives headed_body or ExprsRow j gives without_head

  some_exprs : (ts u v : List Tok) (x : Lead) (es : List ExprTerm) → ts ≡ u ++ v → i.flagged.reads u x → (more_exprs i).reads v es → body_row ts (NoHead, expr_of x ∷ es)
  unfolding more_exprs ExprsRow expr
  some_exprs ts u v x es e fl rd = inr (expr_of x ∷ es, ((expr_of x, es), (u, v, e, h.expr.to u (expr_of x) (x, fl, refl), (ties_many (ties_after class.Comma h.expr)).to v es rd), refl), refl)

  body_to : (ts u v : List Tok) (x : Lead) (b : HeadTerm × List ExprTerm) → ts ≡ u ++ v → i.flagged.reads u x → (after_first i x).reads v b → body_row ts b
  unfolding head_rest HeadRow
  body_to ts u v (Plain e (Some (BareTarget text place))) b cut fl (inl (y, (v1, v2, e1, mk, (v3, v4, e2, ma, br)), q)) =
      inl (
        ((record { text = text; place = place }, (y.0, y.1.0)), y.1.1),
        (
          u ++ (v1 ++ v3),
          v4,
          grouped ts v v4 u (v1 ++ v3) cut (grouped v v2 v4 v1 v3 e1 e2),
          (u, v1 ++ v3, refl, h.bare_to u e text place fl, (v1, v3, refl, (ties_maybe (ties_colon_type h)).to v1 y.0 mk, (ties_maybe ties_accumulator).to v3 y.1.0 ma)),
          (ties_bar h).to v4 y.1.1 br,
        ),
        q,
      )
  body_to ts u v (Plain e (Some (BareTarget text place))) b cut fl (inr (es, rd, q)) = subst (λ z. body_row ts z) (sym q) (some_exprs ts u v (Plain e (Some (BareTarget text place))) es cut fl rd)
  body_to ts u v (Plain e (Some (ResultTarget place))) b cut fl (es, rd, q) = subst (λ z. body_row ts z) (sym q) (some_exprs ts u v (Plain e (Some (ResultTarget place))) es cut fl rd)
  body_to ts u v (Plain e (Some (MemberTarget o text place))) b cut fl (es, rd, q) = subst (λ z. body_row ts z) (sym q) (some_exprs ts u v (Plain e (Some (MemberTarget o text place))) es cut fl rd)
  body_to ts u v (Plain e None) b cut fl (es, rd, q) = subst (λ z. body_row ts z) (sym q) (some_exprs ts u v (Plain e None) es cut fl rd)
  body_to ts u v (Bracketed e) b cut fl (es, rd, q) = subst (λ z. body_row ts z) (sym q) (some_exprs ts u v (Bracketed e) es cut fl rd)
  body_to ts u v (Each e part) b cut fl (es, rd, q) = subst (λ z. body_row ts z) (sym q) (some_exprs ts u v (Each e part) es cut fl rd)

  after_exprs : (v : List Tok) (x : Lead) (es : List ExprTerm) → (more_exprs k).reads v es → (after_first k x).reads v (NoHead, expr_of x ∷ es)
  after_exprs v (Plain e (Some (BareTarget text place))) es rd = inr (es, rd, refl)
  after_exprs v (Plain e (Some (ResultTarget place))) es rd = (es, rd, refl)
  after_exprs v (Plain e (Some (MemberTarget o text place))) es rd = (es, rd, refl)
  after_exprs v (Plain e None) es rd = (es, rd, refl)
  after_exprs v (Bracketed e) es rd = (es, rd, refl)
  after_exprs v (Each e part) es rd = (es, rd, refl)

  body_of : (ts : List Tok) (b : HeadTerm × List ExprTerm) → body_row ts b → (arrow_body k).reads ts b
  unfolding arrow_body head_rest HeadRow ExprsRow expr more_exprs
  body_of ts b (inl (((n, (kind, acc)), body), (u, v, e, (a, c, e1, nm, (c1, c2, e2, mk, ma)), br), q)) = (
    (Plain (PathExpr (path_of (n, []))) (Some (BareTarget n.text n.place)), headed n.text n.place (kind, (acc, body))),
    (a, c ++ v, regroup ts u v a c e e1, h.bare_of a n nm, inl ((kind, (acc, body)), (c1, c2 ++ v, regroup (c ++ v) c v c1 c2 refl e2, (ties_maybe (ties_colon_type h)).of c1 kind mk, (c2, v, refl, (ties_maybe ties_accumulator).of c2 acc ma, (ties_bar h).of v body br)), refl)),
    q,
  )
  body_of ts b (inr (all, ((one, es), (u, v, e, first_one, more), d), q)) =
      let x = h.expr.of u one first_one in (
        (x.0, (NoHead, expr_of x.0 ∷ es)),
        (u, v, e, x.1, after_exprs v x.0 es ((ties_many (ties_after class.Comma h.expr)).of v es more)),
        q ∙ ap (λ z. without_head z) (d ∙ ap (λ z. z ∷ es) x.2),
      )

  ties_body : Ties (arrow_body i) body_row (arrow_body k)
  unfolding arrow_body
  ties_body = record { to = λ ts b (x, (u, v, e, fl, rest), q). body_to ts u v x.0 b e fl (subst (λ z. (after_first i x.0).reads v z) (sym q) rest); of = body_of }

  ties_arrow_args : Ties (arrow_args i) (between class.OpenRound (maybe body_row gives or_no_args) class.CloseRound) (arrow_args k)
  unfolding arrow_args
  ties_arrow_args = ties_optional (NoHead, []) no_args or_no_args (λ t. refl) refl (λ a. refl) ties_body class.OpenRound class.CloseRound

  -- steps

  abbrev dot_named : Phrase StepTerm
  dot_named = NameRow then maybe (listed class.OpenRound (ExprsRow j) class.CloseRound) gives dot_of

  abbrev arrow_named : Phrase StepTerm
  arrow_named = NameRow then between class.OpenRound (maybe body_row gives or_no_args) class.CloseRound gives arrow_of

  pub ties_dot_rest : Ties (dot_rest i) (dot_named or MapRow j gives DotMapStep or ResolveRow j gives DotResolveStep) (dot_rest k)
  unfolding dot_rest
  ties_dot_rest = ties_or (ties_gives dot_of (ties_then ties_name (ties_maybe (ties_args h)))) (ties_or (ties_gives DotMapStep (ties_map h)) (ties_gives DotResolveStep ties_resolve))

  pub ties_arrow_rest : Ties (arrow_rest i) (arrow_named or MapRow j gives ArrowMapStep or ResolveRow j gives ArrowResolveStep) (arrow_rest k)
  unfolding arrow_rest
  ties_arrow_rest = ties_or (ties_gives arrow_of (ties_then ties_name ties_arrow_args)) (ties_or (ties_gives ArrowMapStep (ties_map h)) (ties_gives ArrowResolveStep ties_resolve))

  step_row : (ts : List Tok) (s : StepTerm) → (after class.Dot (dot_named or MapRow j gives DotMapStep or ResolveRow j gives DotResolveStep) or after class.Arrow (arrow_named or MapRow j gives ArrowMapStep or ResolveRow j gives ArrowResolveStep)) ts s → StepRow j ts s
  unfolding StepRow
  step_row ts s (inl (x, (u, v, e, t, (inl rd)), q)) = inl (x, (u, v, e, t, rd), q)
  step_row ts s (inl (x, (u, v, e, t, (inr rd)), q)) = inr (inr (inl (x, (u, v, e, t, rd), q)))
  step_row ts s (inr (x, (u, v, e, t, (inl rd)), q)) = inr (inl (x, (u, v, e, t, rd), q))
  step_row ts s (inr (x, (u, v, e, t, (inr rd)), q)) = inr (inr (inr (x, (u, v, e, t, rd), q)))

  row_step : (ts : List Tok) (s : StepTerm) → StepRow j ts s → (after class.Dot (dot_named or MapRow j gives DotMapStep or ResolveRow j gives DotResolveStep) or after class.Arrow (arrow_named or MapRow j gives ArrowMapStep or ResolveRow j gives ArrowResolveStep)) ts s
  unfolding StepRow
  row_step ts s (inl (x, (u, v, e, t, rd), q)) = inl (x, (u, v, e, t, inl rd), q)
  row_step ts s (inr (inl (x, (u, v, e, t, rd), q))) = inr (x, (u, v, e, t, inl rd), q)
  row_step ts s (inr (inr (inl (x, (u, v, e, t, rd), q)))) = inl (x, (u, v, e, t, inr rd), q)
  row_step ts s (inr (inr (inr (x, (u, v, e, t, rd), q)))) = inr (x, (u, v, e, t, inr rd), q)

  pub ties_step : Ties (step i) (StepRow j) (step k)
  unfolding step dot_step
  ties_step = record {
    to = λ ts s rd. step_row ts s (elim rd [ inl x ↦ inl ((ties_after class.Dot ties_dot_rest).to ts s x) | inr x ↦ inr ((ties_after class.Arrow ties_arrow_rest).to ts s x) ]);
    of = λ ts s rd. elim (row_step ts s rd) [ inl x ↦ inl ((ties_after class.Dot ties_dot_rest).of ts s x) | inr x ↦ inr ((ties_after class.Arrow ties_arrow_rest).of ts s x) ];
  }
