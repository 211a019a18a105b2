-- The rows of what stands before steps, with the targets that such an expression also is.
use Rattle.std.proofs.Common.{◌≡◌, List, [], ◌∷◌, ◌++◌, Bool, true, false, ◌⊎◌, inl, inr, refl, sym, ap, ◌∙◌, subst, append-nil, Some, None}
use Rattle.qvt_grammar.specs.Reader.{starts}
use Rattle.qvt_tree_types.specs.View.{exprs_of}
use Rattle.qvt_tree_types.specs.Tree.{ExprTerm, PathExpr, CallExpr, TargetTerm, BareTarget, ResultTarget}
use Rattle.qvt_language.specs.Tokens.{Tok, is}
use Rattle.qvt_language.specs.declared.named.Named.{Named}
use Rattle.qvt_language.specs.declared.class.Class.TheVariants as class
use Rattle.qvt_language.specs.Trees.{path_of, named_expr_of, bare_target, if_of, new_of}
use Rattle.qvt_language.specs.Grammar.{NestedLanguages, name, more_names, path, literal, word, named_expr, coll, object, new_expr, if_expr, longer, brackets, bare_expr, other_primary, primary}
use Rattle.qvt_language_rows.specs.Phrase.{◌gives◌, ◌then◌, the, maybe, placed, after, between, listed}
use Rattle.qvt_language_rows.specs.Rows.{NestedRows, NameRow, PathRow, ExtentRow, ExprsRow, PrimaryRow, TargetRow}
use Rattle.qvt_language_rows.proofs.Ties.{Ties, ties_the, ties_then, ties_gives, ties_placed, ties_after, ties_between}
use Rattle.qvt_language_rows.proofs.Plain.{TiesInside, ties_name, ties_path, ties_extent, ties_args, ties_map, ties_coll}
use Rattle.qvt_language_rows.proofs.Steps.{path_row, ties_object, ties_resolve}

begins : (c : _) (ts u v : List Tok) (t : Tok) → ts ≡ u ++ v → the c u t → starts (is c) ts ≡ true
begins c ts u v t e h = ap (starts (is c)) (e ∙ ap (λ z. z ++ v) h.0) ∙ h.1

no_target : (e f : ExprTerm) (t : TargetTerm) → e ≡ f → bare_target f ≡ None → bare_target e ≡ Some t → ⊥
no_target e f t q n h = let k : None ≡ Some t = sym n ∙ sym (ap bare_target q) ∙ h in cc

some_inj : (s t : TargetTerm) → Some s ≡ Some t → t ≡ s
some_inj s t h = let k : s ≡ t = cc in sym k

module _ {i : NestedLanguages} {j : NestedRows} {k : NestedLanguages} (h : TiesInside i j k) where
  pub ties_if : Ties (if_expr i) (placed (the class.IfWord then j.expr then after class.ThenWord j.expr then between class.ElseWord j.expr class.EndifWord) gives if_of) (if_expr k)
  unfolding if_expr
  ties_if = ties_gives if_of (ties_placed (ties_then (ties_the class.IfWord) (ties_then h.expr (ties_then (ties_after class.ThenWord h.expr) (ties_between class.ElseWord class.EndifWord h.expr)))))

  ties_new : Ties (new_expr i) (the class.NewWord then PathRow then maybe ExtentRow then listed class.OpenRound (ExprsRow j) class.CloseRound gives new_of) (new_expr k)
  unfolding new_expr
  ties_new = ties_gives new_of (ties_then (ties_the class.NewWord) (ties_then ties_path (ties_then ties_extent (ties_args h))))

  ties_brackets : Ties (brackets i) (between class.OpenRound j.expr class.CloseRound) (brackets k)
  unfolding brackets
  ties_brackets = ties_between class.OpenRound class.CloseRound h.expr

  -- from the parser's productions

  bare_to : (ts : List Tok) (e : ExprTerm) → (bare_expr i).reads ts e → PrimaryRow j ts e
  unfolding bare_expr literal word named_expr longer PrimaryRow
  bare_to ts e (inl (inl rd)) = inl rd
  bare_to ts e (inl (inr (inl rd))) = inr (inl rd)
  bare_to ts e (inl (inr (inr (inl rd)))) = inr (inr (inl rd))
  bare_to ts e (inl (inr (inr (inr rd)))) = inr (inr (inr (inl rd)))
  bare_to ts e (inr (inl (inl rd))) = inr (inr (inr (inr (inl rd))))
  bare_to ts e (inr (inl (inr (inl rd)))) = inr (inr (inr (inr (inr (inl rd)))))
  bare_to ts e (inr (inl (inr (inr rd)))) = inr (inr (inr (inr (inr (inr (inl rd))))))
  bare_to ts e (inr (inr (inl (x, (u, v, cut, nm, (inl (es, rd, d))), q)))) = inr (inr (inr (inr (inr (inr (inr (inr (inl ((x.0, es), (u, v, cut, ties_name.to u x.0 nm, (ties_args h).to v es rd), q ∙ ap (λ z. named_expr_of (x.0, z)) d)))))))))
  bare_to ts e (inr (inr (inl (x, (u, v, cut, nm, (inr (ns, rd, d))), q)))) = inr (inr (inr (inr (inr (inr (inr (inl (path_of (x.0, ns), path_row ts x.0 ns u v cut nm rd, q ∙ ap (λ z. named_expr_of (x.0, z)) d))))))))
  bare_to ts e (inr (inr (inr (inl rd)))) = inr (inr (inr (inr (inr (inr (inr (inr (inr (inl ((ties_coll h).to ts e rd))))))))))
  bare_to ts e (inr (inr (inr (inr (inl rd))))) = inr (inr (inr (inr (inr (inr (inr (inr (inr (inr (inr (inl ((ties_object h).to ts e rd))))))))))))
  bare_to ts e (inr (inr (inr (inr (inr (inl rd)))))) = inr (inr (inr (inr (inr (inr (inr (inr (inr (inr (inr (inr (inl (ties_new.to ts e rd)))))))))))))
  bare_to ts e (inr (inr (inr (inr (inr (inr (inl (m, rd, q)))))))) = inr (inr (inr (inr (inr (inr (inr (inr (inr (inr (inr (inr (inr (inl (m, (ties_map h).to ts m rd, q))))))))))))))
  bare_to ts e (inr (inr (inr (inr (inr (inr (inr (m, rd, q)))))))) = inr (inr (inr (inr (inr (inr (inr (inr (inr (inr (inr (inr (inr (inr (inl (m, (ties_resolve h).to ts m rd, q)))))))))))))))

  pub at_if : (ts : List Tok) (e : ExprTerm) → (placed (the class.IfWord then j.expr then after class.ThenWord j.expr then between class.ElseWord j.expr class.EndifWord) gives if_of) ts e → PrimaryRow j ts e
  unfolding PrimaryRow
  at_if ts e rd = inr (inr (inr (inr (inr (inr (inr (inr (inr (inr (inl rd))))))))))

  at_brackets : (ts : List Tok) (e : ExprTerm) → between class.OpenRound j.expr class.CloseRound ts e → PrimaryRow j ts e
  unfolding PrimaryRow
  at_brackets ts e rd = inr (inr (inr (inr (inr (inr (inr (inr (inr (inr (inr (inr (inr (inr (inr (rd)))))))))))))))

  pub primary_to : (ts : List Tok) (x : ExprTerm × Bool) → (primary i).reads ts x → PrimaryRow j ts x.0
  unfolding primary other_primary
  primary_to ts x (inl (e, rd, q)) = subst (λ z. PrimaryRow j ts z) (sym (ap (λ z. z.0) q)) (at_if ts e (ties_if.to ts e rd))
  primary_to ts x (inr (inl (e, rd, q))) = subst (λ z. PrimaryRow j ts z) (sym (ap (λ z. z.0) q)) (at_brackets ts e (ties_brackets.to ts e rd))
  primary_to ts x (inr (inr (e, rd, q))) = subst (λ z. PrimaryRow j ts z) (sym (ap (λ z. z.0) q)) (bare_to ts e rd)

  -- an expression of one name, or of the word `result`, is a target too
  names_target : (ts u v : List Tok) (n : Named) (ns : List Named) (t : TargetTerm) → ts ≡ u ++ v → name.reads u n → more_names.reads v ns → bare_target (PathExpr (path_of (n, ns))) ≡ Some t → TargetRow j ts t
  unfolding more_names TargetRow
  names_target ts u v n [] t cut nm rd q = inl (n, subst (λ z. NameRow z n) (sym (cut ∙ ap (λ z. u ++ z) rd ∙ append-nil u)) (ties_name.to u n nm), some_inj (BareTarget n.text n.place) t q)
  names_target ts u v n (m ∷ ms) t cut nm rd q = absurd cc

  result_row : (ts : List Tok) (x : Tok) (t : TargetTerm) → the class.ResultWord ts x → t ≡ ResultTarget x.place → TargetRow j ts t
  unfolding TargetRow
  result_row ts x t rd q = inr (inl (x, rd, q))

  bare_target_to : (ts : List Tok) (e : ExprTerm) (t : TargetTerm) → (bare_expr i).reads ts e → bare_target e ≡ Some t → TargetRow j ts t
  unfolding bare_expr literal word named_expr longer coll object new_expr
  bare_target_to ts e t (inl (inl (x, rd, q))) w = absurd (no_target e _ t q refl w)
  bare_target_to ts e t (inl (inr (inl (x, rd, q)))) w = absurd (no_target e _ t q refl w)
  bare_target_to ts e t (inl (inr (inr (inl (x, rd, q))))) w = absurd (no_target e _ t q refl w)
  bare_target_to ts e t (inl (inr (inr (inr (x, rd, q))))) w = absurd (no_target e _ t q refl w)
  bare_target_to ts e t (inr (inl (inl (x, rd, q)))) w = absurd (no_target e _ t q refl w)
  bare_target_to ts e t (inr (inl (inr (inl (x, rd, q))))) w = absurd (no_target e _ t q refl w)
  bare_target_to ts e t (inr (inl (inr (inr (x, rd, q))))) w = result_row ts x t rd (some_inj (ResultTarget x.place) t (sym (ap bare_target q) ∙ w))
  bare_target_to ts e t (inr (inr (inl (x, (u, v, cut, nm, (inl (es, rd, d))), q)))) w = absurd (no_target e (CallExpr x.0.text (exprs_of es) x.0.place) t (q ∙ ap (λ z. named_expr_of (x.0, z)) d) refl w)
  bare_target_to ts e t (inr (inr (inl (x, (u, v, cut, nm, (inr (ns, rd, d))), q)))) w = names_target ts u v x.0 ns t cut nm rd (sym (ap bare_target (q ∙ ap (λ z. named_expr_of (x.0, z)) d)) ∙ w)
  bare_target_to ts e t (inr (inr (inr (inl (x, rd, q))))) w = absurd (no_target e _ t q refl w)
  bare_target_to ts e t (inr (inr (inr (inr (inl (x, rd, q)))))) w = absurd (no_target e _ t q refl w)
  bare_target_to ts e t (inr (inr (inr (inr (inr (inl (x, rd, q))))))) w = absurd (no_target e _ t q refl w)
  bare_target_to ts e t (inr (inr (inr (inr (inr (inr (inl (x, rd, q)))))))) w = absurd (no_target e _ t q refl w)
  bare_target_to ts e t (inr (inr (inr (inr (inr (inr (inr (x, rd, q)))))))) w = absurd (no_target e _ t q refl w)

  pub primary_target : (ts : List Tok) (x : ExprTerm × Bool) (t : TargetTerm) → (primary i).reads ts x → x.1 ≡ true → bare_target x.0 ≡ Some t → TargetRow j ts t
  unfolding primary other_primary if_expr
  primary_target ts x t (inl (e, (y, rd, d), q)) b w = absurd (no_target x.0 (if_of y) t (ap (λ z. z.0) q ∙ d) refl w)
  primary_target ts x t (inr (inl (e, rd, q))) b w = absurd (let z : true ≡ false = sym b ∙ ap (λ z. z.1) q in cc)
  primary_target ts x t (inr (inr (e, rd, q))) b w = bare_target_to ts e t rd (ap bare_target (sym (ap (λ z. z.0) q)) ∙ w)

  -- and to them

  pub other_of : (ts : List Tok) (e : ExprTerm) → PrimaryRow j ts e → ((b : Bool) × (other_primary k).reads ts (e, b)) ⊎ (if_expr k).reads ts e
  unfolding other_primary bare_expr literal word named_expr longer path PrimaryRow
  other_of ts e (inl rd) = inl (true, inr (e, inl (inl rd), refl))
  other_of ts e (inr (inl rd)) = inl (true, inr (e, inl (inr (inl rd)), refl))
  other_of ts e (inr (inr (inl rd))) = inl (true, inr (e, inl (inr (inr (inl rd))), refl))
  other_of ts e (inr (inr (inr (inl rd)))) = inl (true, inr (e, inl (inr (inr (inr rd))), refl))
  other_of ts e (inr (inr (inr (inr (inl rd))))) = inl (true, inr (e, inr (inl (inl rd)), refl))
  other_of ts e (inr (inr (inr (inr (inr (inl rd)))))) = inl (true, inr (e, inr (inl (inr (inl rd))), refl))
  other_of ts e (inr (inr (inr (inr (inr (inr (inl rd))))))) = inl (true, inr (e, inr (inl (inr (inr rd))), refl))
  other_of ts e (inr (inr (inr (inr (inr (inr (inr (inl (p, rd, q))))))))) = (let w = ties_path.of ts p rd in inl (true, inr (e, inr (inr (inl ((w.0.0, inr w.0.1), (w.1.0, w.1.1, w.1.2, w.1.3, inr (w.0.1, w.1.4, refl)), q ∙ ap PathExpr w.2))), refl)))
  other_of ts e (inr (inr (inr (inr (inr (inr (inr (inr (inl (x, (u, v, cut, nm, rd), q)))))))))) = inl (true, inr (e, inr (inr (inl ((x.0, inl x.1), (u, v, cut, ties_name.of u x.0 nm, inl (x.1, (ties_args h).of v x.1 rd, refl)), q))), refl))
  other_of ts e (inr (inr (inr (inr (inr (inr (inr (inr (inr (inl rd)))))))))) = inl (true, inr (e, inr (inr (inr (inl ((ties_coll h).of ts e rd)))), refl))
  other_of ts e (inr (inr (inr (inr (inr (inr (inr (inr (inr (inr (inl rd))))))))))) = inr (ties_if.of ts e rd)
  other_of ts e (inr (inr (inr (inr (inr (inr (inr (inr (inr (inr (inr (inl rd)))))))))))) = inl (true, inr (e, inr (inr (inr (inr (inl ((ties_object h).of ts e rd))))), refl))
  other_of ts e (inr (inr (inr (inr (inr (inr (inr (inr (inr (inr (inr (inr (inl rd))))))))))))) = inl (true, inr (e, inr (inr (inr (inr (inr (inl (ties_new.of ts e rd)))))), refl))
  other_of ts e (inr (inr (inr (inr (inr (inr (inr (inr (inr (inr (inr (inr (inr (inl (m, rd, q))))))))))))))) = inl (true, inr (e, inr (inr (inr (inr (inr (inr (inl (m, (ties_map h).of ts m rd, q))))))), refl))
  other_of ts e (inr (inr (inr (inr (inr (inr (inr (inr (inr (inr (inr (inr (inr (inr (inl (m, rd, q)))))))))))))))) = inl (true, inr (e, inr (inr (inr (inr (inr (inr (inr (m, (ties_resolve h).of ts m rd, q))))))), refl))
  other_of ts e (inr (inr (inr (inr (inr (inr (inr (inr (inr (inr (inr (inr (inr (inr (inr (rd)))))))))))))))) = inl (false, inl (e, ties_brackets.of ts e rd, refl))

  pub primary_of : (ts : List Tok) (e : ExprTerm) → PrimaryRow j ts e → (b : Bool) × (primary k).reads ts (e, b)
  unfolding primary
  primary_of ts e rd = elim (other_of ts e rd) [ inl x ↦ (x.0, inr x.1) | inr x ↦ (true, inl (e, x, refl)) ]

  begins_if : (ts : List Tok) (e : ExprTerm) → (if_expr k).reads ts e → starts (is class.IfWord) ts ≡ true
  unfolding if_expr
  begins_if ts e (x, ((u, v, cut, t, rest), at), q) = begins class.IfWord ts u v x.1.0 cut t

  -- where no `if` stands first
  pub other_primary_of : (ts : List Tok) (e : ExprTerm) → starts (is class.IfWord) ts ≡ false → PrimaryRow j ts e → (b : Bool) × (other_primary k).reads ts (e, b)
  other_primary_of ts e g rd = elim (other_of ts e rd) [ inl x ↦ x | inr x ↦ absurd (let z : true ≡ false = sym (begins_if ts e x) ∙ g in cc) ]
