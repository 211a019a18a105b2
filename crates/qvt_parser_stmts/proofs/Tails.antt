-- What stands after an expression at the front of a statement, read part by part.
use Rattle.std.proofs.Common.{◌≡◌, List, Bool, true, false, ◌&&◌, refl, sym, ap, ◌∙◌, Option, Some, None, Ok, Err, cond}
use Rattle.qvt_base.specs.declared.numbers.Place.{Place}
use Rattle.qvt_results.specs.Bind.{◌>>=◌}
use Rattle.qvt_grammar.specs.Reader.{Answer, starts, made_at}
use Rattle.qvt_tree_types.specs.Tree.{ExprTerm, StmtTerm, AssignStmt, ValueStmt, TargetTerm}
use Rattle.qvt_language.specs.Tokens.{Tok, of}
use Rattle.qvt_language.specs.Readers.{Reader}
use Rattle.qvt_language.specs.Firsts.{assign_first}
use Rattle.qvt_language.specs.Leads.{Lead, Plain, Bracketed, Each}
use Rattle.qvt_language.specs.Trees.{is_there, expr_of}
use Rattle.qvt_language.specs.StmtTrees.{TurnTree, Tail, plain_tail, simple_turn, is_adding, written_turn, target_in, IsPlainLead}
use Rattle.qvt_language.specs.Reading.{NestedAt}
use Rattle.qvt_language.specs.ReadingStatements.{assignment_at, semicolon_at, lead_tail_at}

-- a statement, and the `;` that may stand after it
abbrev pub closing : StmtTerm → Reader TurnTree
closing s = made_at (λ t. simple_turn (s, t)) semicolon_at

abbrev tail_before : Option (Tok × ExprTerm) → List Tok → Answer Tok Tail
tail_before a r = semicolon_at r >>= λ (t, s). Ok ((a, t), s)

abbrev turned : Place → Lead → Answer Tok Tail → Answer Tok TurnTree
turned place x y = y >>= λ (tail, s). Ok (written_turn place x tail, s)

abbrev some_sign : Answer Tok (Tok × ExprTerm) → Answer Tok (Option (Tok × ExprTerm))
some_sign y = y >>= λ (a, r). Ok (Some a, r)

abbrev then_semicolon : Answer Tok (Option (Tok × ExprTerm)) → Answer Tok Tail
then_semicolon y = y >>= λ (a, r). tail_before a r

module _ (place : Place) (r : NestedAt) where
  assigned_semicolon : (e : ExprTerm) (target : TargetTerm) (sign : Tok) (value : ExprTerm) (z : Answer Tok (Option Tok)) → turned place (Plain e (Some target)) (z >>= λ (t, s). Ok ((Some (sign, value), t), s)) ≡ (z >>= λ (t, s). Ok (simple_turn (AssignStmt target (is_adding sign.class) value sign.place, t), s))
  assigned_semicolon e target sign value (Ok (t, s)) = refl
  assigned_semicolon e target sign value (Err f) = refl

  value_semicolon : (e : ExprTerm) (target : TargetTerm) (z : Answer Tok (Option Tok)) → turned place (Plain e (Some target)) (z >>= λ (t, s). Ok ((None, t), s)) ≡ (z >>= λ (t, s). Ok (simple_turn (ValueStmt e place, t), s))
  value_semicolon e target (Ok (t, s)) = refl
  value_semicolon e target (Err f) = refl

  plain_semicolon : (e : ExprTerm) (z : Answer Tok (Option Tok)) → turned place (Plain e None) (z >>= λ (t, s). Ok (plain_tail t, s)) ≡ (z >>= λ (t, s). Ok (simple_turn (ValueStmt e place, t), s))
  plain_semicolon e (Ok (t, s)) = refl
  plain_semicolon e (Err f) = refl

  bracketed_semicolon : (e : ExprTerm) (z : Answer Tok (Option Tok)) → turned place (Bracketed e) (z >>= λ (t, s). Ok (plain_tail t, s)) ≡ (z >>= λ (t, s). Ok (simple_turn (ValueStmt e place, t), s))
  bracketed_semicolon e (Ok (t, s)) = refl
  bracketed_semicolon e (Err f) = refl

  at_sign : (ts : List Tok) (e : ExprTerm) (target : TargetTerm) (b : Bool) → starts (of assign_first) ts ≡ b → made_at (written_turn place (Plain e (Some target))) (lead_tail_at r (Plain e (Some target))) ts ≡ turned place (Plain e (Some target)) (then_semicolon (cond b (some_sign (assignment_at r ts)) (Ok (None, ts))))
  at_sign ts e target b h = ap (λ z. turned place (Plain e (Some target)) (then_semicolon (cond z (some_sign (assignment_at r ts)) (Ok (None, ts))))) h

  -- a target and a sign: an assignment
  pub tail_assigned : (x : Lead) (target : TargetTerm) (ts : List Tok) (sign : Tok) (value : ExprTerm) (rest : List Tok) → Some target ≡ target_in x → starts (of assign_first) ts ≡ true → assignment_at r ts ≡ Ok ((sign, value), rest) → made_at (written_turn place x) (lead_tail_at r x) ts ≡ closing (AssignStmt target (is_adding sign.class) value sign.place) rest
  tail_assigned (Plain e (Some t)) target ts sign value rest k h q =
      let same : t ≡ target = cc in
      at_sign ts e t true h
      ∙ ap (λ y. turned place (Plain e (Some t)) (then_semicolon (some_sign y))) q
      ∙ assigned_semicolon e t sign value (semicolon_at rest)
      ∙ ap (λ z. closing (AssignStmt z (is_adding sign.class) value sign.place) rest) same
  tail_assigned (Plain e None) target ts sign value rest k h q = absurd cc
  tail_assigned (Bracketed e) target ts sign value rest k h q = absurd cc
  tail_assigned (Each e part) target ts sign value rest k h q = absurd cc

  -- else the expression is the statement
  pub tail_plain : (x : Lead) (value : ExprTerm) (ts : List Tok) → value ≡ expr_of x → IsPlainLead x → (is_there (target_in x) && starts (of assign_first) ts) ≡ false → made_at (written_turn place x) (lead_tail_at r x) ts ≡ closing (ValueStmt value place) ts
  tail_plain (Plain e (Some t)) value ts q k h = at_sign ts e t false h ∙ value_semicolon e t (semicolon_at ts) ∙ ap (λ z. closing (ValueStmt z place) ts) (sym q)
  tail_plain (Plain e None) value ts q k h = plain_semicolon e (semicolon_at ts) ∙ ap (λ z. closing (ValueStmt z place) ts) (sym q)
  tail_plain (Bracketed e) value ts q k h = bracketed_semicolon e (semicolon_at ts) ∙ ap (λ z. closing (ValueStmt z place) ts) (sym q)
  tail_plain (Each e part) value ts q k h = absurd k
