-- The rows of the eight levels of operators.
use Rattle.std.proofs.Common.{List, [], ◌++◌, Bool, sym, subst}
use Rattle.qvt_grammar.specs.Language.{Language}
use Rattle.qvt_grammar.specs.Language as language
use Rattle.qvt_tree_types.specs.Tree.{ExprTerm, TargetTerm}
use Rattle.qvt_language.specs.Tokens.{Tok}
use Rattle.qvt_language.specs.Leads.{Lead, EachPart}
use Rattle.qvt_language.specs.Trees.{expr_of}
use Rattle.qvt_language.specs.Grammar.{NestedLanguages, primary, pre, lead_pre, flagged, lead, chain as chain_production}
use Rattle.qvt_language_rows.specs.Phrase.{Phrase, nothing}
use Rattle.qvt_language_rows.specs.Rows.{NestedRows, PreRow, MulRow, AddRow, RelRow, EqRow, AndRow, OrRow, XorRow, ExprRow, TargetRow}
use Rattle.qvt_language_rows.proofs.Ties.{Ties}
use Rattle.qvt_language_rows.proofs.Plain.{TiesInside}
use Rattle.qvt_language_rows.proofs.Leads.{Means, never_each, chain_to, HasLead, chain_row_of}
use Rattle.qvt_language_rows.proofs.Operands.{pre_to, lead_pre_to, pre_of, lead_pre_of, loop_row, NoIf, no_if_first}

abbrev MeansAll : Phrase TargetTerm → Phrase (ExprTerm × EachPart) → Phrase ExprTerm → Language Tok Lead → Type 0
MeansAll T F P l = (ts : List Tok) (x : Lead) → l.reads ts x → Means T F P ts x

abbrev HasAll : (List Tok → Type 0) → Phrase ExprTerm → Language Tok Lead → Type 0
HasAll G P l = (ts : List Tok) (e : ExprTerm) → G ts → P ts e → HasLead l ts e

abbrev any : List Tok → Type 0
any ts = Unit {0}

module _ {i : NestedLanguages} {j : NestedRows} {k : NestedLanguages} (h : TiesInside i j k) (solid_i : (x : ExprTerm × Bool) → (primary i).reads [] x → ⊥) (solid_k : (x : ExprTerm × Bool) → (primary k).reads [] x → ⊥) where
  others : MeansAll (TargetRow j) nothing (PreRow j) (chain_production 0 (pre i) (pre i))
  unfolding chain_production
  others = pre_to h solid_i solid_k

  mul_to : (F : Phrase (ExprTerm × EachPart)) (p : Language Tok Lead) → MeansAll (TargetRow j) F (PreRow j) (chain_production 0 p (pre i)) → MeansAll (TargetRow j) F (MulRow j) (chain_production 1 p (pre i))
  unfolding MulRow
  mul_to F p b = chain_to (TargetRow j) F (PreRow j) 0 p (pre i) b others

  add_to : (F : Phrase (ExprTerm × EachPart)) (p : Language Tok Lead) → MeansAll (TargetRow j) F (PreRow j) (chain_production 0 p (pre i)) → MeansAll (TargetRow j) F (AddRow j) (chain_production 2 p (pre i))
  unfolding AddRow
  add_to F p b = chain_to (TargetRow j) F (MulRow j) 1 p (pre i) (mul_to F p b) (mul_to nothing (pre i) others)

  rel_to : (F : Phrase (ExprTerm × EachPart)) (p : Language Tok Lead) → MeansAll (TargetRow j) F (PreRow j) (chain_production 0 p (pre i)) → MeansAll (TargetRow j) F (RelRow j) (chain_production 3 p (pre i))
  unfolding RelRow
  rel_to F p b = chain_to (TargetRow j) F (AddRow j) 2 p (pre i) (add_to F p b) (add_to nothing (pre i) others)

  eq_to : (F : Phrase (ExprTerm × EachPart)) (p : Language Tok Lead) → MeansAll (TargetRow j) F (PreRow j) (chain_production 0 p (pre i)) → MeansAll (TargetRow j) F (EqRow j) (chain_production 4 p (pre i))
  unfolding EqRow
  eq_to F p b = chain_to (TargetRow j) F (RelRow j) 3 p (pre i) (rel_to F p b) (rel_to nothing (pre i) others)

  and_to : (F : Phrase (ExprTerm × EachPart)) (p : Language Tok Lead) → MeansAll (TargetRow j) F (PreRow j) (chain_production 0 p (pre i)) → MeansAll (TargetRow j) F (AndRow j) (chain_production 5 p (pre i))
  unfolding AndRow
  and_to F p b = chain_to (TargetRow j) F (EqRow j) 4 p (pre i) (eq_to F p b) (eq_to nothing (pre i) others)

  or_to : (F : Phrase (ExprTerm × EachPart)) (p : Language Tok Lead) → MeansAll (TargetRow j) F (PreRow j) (chain_production 0 p (pre i)) → MeansAll (TargetRow j) F (OrRow j) (chain_production 6 p (pre i))
  unfolding OrRow
  or_to F p b = chain_to (TargetRow j) F (AndRow j) 5 p (pre i) (and_to F p b) (and_to nothing (pre i) others)

  xor_to : (F : Phrase (ExprTerm × EachPart)) (p : Language Tok Lead) → MeansAll (TargetRow j) F (PreRow j) (chain_production 0 p (pre i)) → MeansAll (TargetRow j) F (XorRow j) (chain_production 7 p (pre i))
  unfolding XorRow
  xor_to F p b = chain_to (TargetRow j) F (OrRow j) 6 p (pre i) (or_to F p b) (or_to nothing (pre i) others)

  expr_to : (F : Phrase (ExprTerm × EachPart)) (p : Language Tok Lead) → MeansAll (TargetRow j) F (PreRow j) (chain_production 0 p (pre i)) → MeansAll (TargetRow j) F (ExprRow j) (chain_production 8 p (pre i))
  unfolding ExprRow
  expr_to F p b = chain_to (TargetRow j) F (XorRow j) 7 p (pre i) (xor_to F p b) (xor_to nothing (pre i) others)

  pub flagged_to : MeansAll (TargetRow j) nothing (ExprRow j) (flagged i)
  unfolding flagged
  flagged_to = expr_to nothing (pre i) others

  lead_first : MeansAll (TargetRow j) (loop_row j) (PreRow j) (chain_production 0 (lead_pre i) (pre i))
  unfolding chain_production
  lead_first = lead_pre_to h solid_i solid_k

  pub lead_to : MeansAll (TargetRow j) (loop_row j) (ExprRow j) (lead i)
  unfolding lead
  lead_to = expr_to (loop_row j) (lead_pre i) lead_first

  others_of : HasAll any (PreRow j) (chain_production 0 (pre k) (pre k))
  unfolding chain_production
  others_of ts e g rd = pre_of h solid_i solid_k ts e rd

  mul_of_row : (G : List Tok → Type 0) (parts : (u v : List Tok) → G (u ++ v) → G u) (p : Language Tok Lead) → HasAll G (PreRow j) (chain_production 0 p (pre k)) → HasAll G (MulRow j) (chain_production 1 p (pre k))
  unfolding MulRow
  mul_of_row G parts p b = chain_row_of G parts (PreRow j) 0 p (pre k) b (λ ts e rd. others_of ts e tt rd)

  add_of_row : (G : List Tok → Type 0) (parts : (u v : List Tok) → G (u ++ v) → G u) (p : Language Tok Lead) → HasAll G (PreRow j) (chain_production 0 p (pre k)) → HasAll G (AddRow j) (chain_production 2 p (pre k))
  unfolding AddRow
  add_of_row G parts p b = chain_row_of G parts (MulRow j) 1 p (pre k) (mul_of_row G parts p b) (λ ts e rd. mul_of_row any (λ u v g. tt) (pre k) others_of ts e tt rd)

  rel_of_row : (G : List Tok → Type 0) (parts : (u v : List Tok) → G (u ++ v) → G u) (p : Language Tok Lead) → HasAll G (PreRow j) (chain_production 0 p (pre k)) → HasAll G (RelRow j) (chain_production 3 p (pre k))
  unfolding RelRow
  rel_of_row G parts p b = chain_row_of G parts (AddRow j) 2 p (pre k) (add_of_row G parts p b) (λ ts e rd. add_of_row any (λ u v g. tt) (pre k) others_of ts e tt rd)

  eq_of_row : (G : List Tok → Type 0) (parts : (u v : List Tok) → G (u ++ v) → G u) (p : Language Tok Lead) → HasAll G (PreRow j) (chain_production 0 p (pre k)) → HasAll G (EqRow j) (chain_production 4 p (pre k))
  unfolding EqRow
  eq_of_row G parts p b = chain_row_of G parts (RelRow j) 3 p (pre k) (rel_of_row G parts p b) (λ ts e rd. rel_of_row any (λ u v g. tt) (pre k) others_of ts e tt rd)

  and_of_row : (G : List Tok → Type 0) (parts : (u v : List Tok) → G (u ++ v) → G u) (p : Language Tok Lead) → HasAll G (PreRow j) (chain_production 0 p (pre k)) → HasAll G (AndRow j) (chain_production 5 p (pre k))
  unfolding AndRow
  and_of_row G parts p b = chain_row_of G parts (EqRow j) 4 p (pre k) (eq_of_row G parts p b) (λ ts e rd. eq_of_row any (λ u v g. tt) (pre k) others_of ts e tt rd)

  or_of_row : (G : List Tok → Type 0) (parts : (u v : List Tok) → G (u ++ v) → G u) (p : Language Tok Lead) → HasAll G (PreRow j) (chain_production 0 p (pre k)) → HasAll G (OrRow j) (chain_production 6 p (pre k))
  unfolding OrRow
  or_of_row G parts p b = chain_row_of G parts (AndRow j) 5 p (pre k) (and_of_row G parts p b) (λ ts e rd. and_of_row any (λ u v g. tt) (pre k) others_of ts e tt rd)

  xor_of_row : (G : List Tok → Type 0) (parts : (u v : List Tok) → G (u ++ v) → G u) (p : Language Tok Lead) → HasAll G (PreRow j) (chain_production 0 p (pre k)) → HasAll G (XorRow j) (chain_production 7 p (pre k))
  unfolding XorRow
  xor_of_row G parts p b = chain_row_of G parts (OrRow j) 6 p (pre k) (or_of_row G parts p b) (λ ts e rd. or_of_row any (λ u v g. tt) (pre k) others_of ts e tt rd)

  expr_of_row : (G : List Tok → Type 0) (parts : (u v : List Tok) → G (u ++ v) → G u) (p : Language Tok Lead) → HasAll G (PreRow j) (chain_production 0 p (pre k)) → HasAll G (ExprRow j) (chain_production 8 p (pre k))
  unfolding ExprRow
  expr_of_row G parts p b = chain_row_of G parts (XorRow j) 7 p (pre k) (xor_of_row G parts p b) (λ ts e rd. xor_of_row any (λ u v g. tt) (pre k) others_of ts e tt rd)

  pub flagged_of : (ts : List Tok) (e : ExprTerm) → ExprRow j ts e → HasLead (flagged k) ts e
  unfolding flagged
  flagged_of ts e rd = expr_of_row any (λ u v g. tt) (pre k) others_of ts e tt rd

  lead_first_of : HasAll NoIf (PreRow j) (chain_production 0 (lead_pre k) (pre k))
  unfolding chain_production
  lead_first_of = lead_pre_of h solid_i solid_k

  pub lead_of : (ts : List Tok) (e : ExprTerm) → NoIf ts → ExprRow j ts e → HasLead (lead k) ts e
  unfolding lead
  lead_of = expr_of_row NoIf no_if_first (lead_pre k) lead_first_of

  pub ties_flagged : Ties (language.made expr_of (flagged i)) (ExprRow j) (language.made expr_of (flagged k))
  ties_flagged = record {
    to = λ ts e rd. subst (λ z. ExprRow j ts z) (sym rd.2) (never_each (TargetRow j) (ExprRow j) ts rd.0 (flagged_to ts rd.0 rd.1));
    of = λ ts e rd. (let w = flagged_of ts e rd in (w.0, w.1, w.2));
  }
