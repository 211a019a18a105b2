-- Each form of an expression is read again at its place.
use Rattle.std.proofs.Common.{◌≡◌, List, [], ◌∷◌, ◌++◌, Bool, true, false, if◌then◌else◌, inl, inr, refl, sym, ap, ◌∙◌, subst, Option, None, append-nil}
use Rattle.qvt_base.specs.declared.numbers.Place.{Place}
use Rattle.qvt_tree_types.specs.Tree.{ExprTerm, StepTerm, TargetTerm, IfExpr, ChainExpr, PrefixExpr, PostExpr}
use Rattle.qvt_tree_types.specs.View.{steps_of}
use Rattle.qvt_tree_types.specs.declared.words.Sign.{Sign}
use Rattle.qvt_tree_types.specs.declared.words.PrefixOp.{PrefixOp}
use Rattle.qvt_tree_types.specs.declared.words.PrefixOp.TheVariants as prefixes
use Rattle.qvt_tree.specs.Shape.{nowhere, erase_expr, erase_signs, erase_sign}
use Rattle.qvt_grammar.specs.Language.{turns}
use Rattle.qvt_language.specs.Tokens.{Tok}
use Rattle.qvt_language.specs.declared.class.Class.TheVariants as class
use Rattle.qvt_language.specs.Leads.{Plain, Bracketed, Lead}
use Rattle.qvt_language.specs.Trees.{stepped, post_of, post_lead, bare_target, member_of, split_last, signed, expr_of}
use Rattle.qvt_language.specs.Grammar.{NestedLanguages, expr, brackets, bare_expr, other_primary, primary, step, post, sign, more_signs, signs, signed_post, if_expr}
use Rattle.qvt_printer_layout.specs.declared.piece.PrintPiece.{PrintPiece}
use Rattle.qvt_printer_layout.specs.Words as words
use Rattle.qvt_printer.specs.Expressions as print
use Rattle.qvt_printer.specs.Levels.{is_chain, is_chain_or_prefix}
use Rattle.qvt_readback_tokens.specs.Spelled.{all_spelled}
use Rattle.qvt_readback_trees.specs.Printable.{begins_with_if}
use Rattle.qvt_readback_trees.proofs.Spelling.{plain, spelled_append, spelled_head}
use Rattle.qvt_readback_trees.proofs.Forms.{is_post, is_prefix, Bracket, NeedsBracket, Form}

-- between round brackets

round_spelled : (ps : List PrintPiece) → all_spelled (print.in_round ps) ≡ plain class.OpenRound ∷ (all_spelled ps ++ plain class.CloseRound ∷ [])
round_spelled ps = ap (λ ts. plain class.OpenRound ∷ ts) (spelled_append ps (print.one class.CloseRound))

module _ (i : NestedLanguages) where
  bracket_reads : (e : ExprTerm) → Bracket i e → (brackets i).reads (all_spelled (print.in_round (print.expr e))) (erase_expr e)
  unfolding brackets expr
  bracket_reads e w =
      let ts = all_spelled (print.expr e) in
      ((plain class.OpenRound, (erase_expr e, plain class.CloseRound)), (plain class.OpenRound ∷ [], ts ++ plain class.CloseRound ∷ [], round_spelled (print.expr e), (refl, refl), (ts, plain class.CloseRound ∷ [], refl, (Plain (erase_expr e) w.0, w.1, refl), (refl, refl))), refl)

  pub bracket_primary : (e : ExprTerm) → Bracket i e → (other_primary i).reads (all_spelled (print.in_round (print.expr e))) (erase_expr e, false)
  unfolding other_primary
  bracket_primary e w = inl (erase_expr e, bracket_reads e w, refl)

-- whether the printed text, with its brackets, begins with `if`
abbrev pub opens_with_if : ExprTerm → Bool
opens_with_if e = if is_chain_or_prefix e then false else begins_with_if e

-- it is a conditional, and read as one
abbrev pub Conditional : NestedLanguages → List Tok → ExprTerm → Type 0
Conditional i ts e = (c : ExprTerm) × (one : ExprTerm) × (other : ExprTerm) × (e ≡ IfExpr c one other nowhere) × (if_expr i).reads ts (IfExpr c one other nowhere)

-- a primary, and whether it has no brackets
pub record PrimaryParts (i : NestedLanguages) (e : ExprTerm) : Type 0 where
  pub bare : Bool
  pub primary : (primary i).reads (all_spelled (print.post_first e)) (erase_expr e, bare)
  pub other : opens_with_if e ≡ false → (other_primary i).reads (all_spelled (print.post_first e)) (erase_expr e, bare)
  pub shown : is_chain_or_prefix e ≡ false → bare ≡ true
  pub conditional : opens_with_if e ≡ true → Conditional i (all_spelled (print.post_first e)) (erase_expr e)

module _ (i : NestedLanguages) where
  of_brackets : (e : ExprTerm) → Bracket i e → is_chain_or_prefix e ≡ true → print.post_first e ≡ print.in_round (print.expr e) → opens_with_if e ≡ false → PrimaryParts i e
  unfolding primary
  of_brackets e w q same c =
      let rd = subst (λ z. (other_primary i).reads (all_spelled z) (erase_expr e, false)) (sym same) (bracket_primary i e w) in
      record { bare = false; primary = inr rd; other = λ z. rd; shown = λ z. absurd cc; conditional = λ z. absurd cc }

  bare_other : (e : ExprTerm) → (bare_expr i).reads (all_spelled (print.post_first e)) (erase_expr e) → opens_with_if e ≡ false → PrimaryParts i e
  unfolding primary other_primary
  bare_other e rd c =
      let other : (other_primary i).reads (all_spelled (print.post_first e)) (erase_expr e, true) = inr (erase_expr e, rd, refl) in
      record { bare = true; primary = inr other; other = λ q. other; shown = λ z. refl; conditional = λ z. absurd cc }

  pub primary_parts : (e : ExprTerm) → Form i e → NeedsBracket i (is_chain_or_prefix e) e → is_post e ≡ false → PrimaryParts i e
  unfolding primary
  primary_parts (IfExpr condition one_value other place) f need p =
      let e = IfExpr condition one_value other place in
      record {
        bare = true;
        primary = inl (erase_expr e, f, refl);
        other = λ q. absurd (let z : true ≡ false = q in cc);
        shown = λ q. refl;
        conditional = λ q. (erase_expr condition, erase_expr one_value, erase_expr other, refl, f);
      }
  primary_parts (ChainExpr level first rest place) f need p = of_brackets (ChainExpr level first rest place) (need refl) refl refl refl
  primary_parts (PrefixExpr before e place) f need p = of_brackets (PrefixExpr before e place) (need refl) refl refl refl
  primary_parts (PostExpr first steps place) f need p = absurd cc
  primary_parts e f need p = bare_other e f refl

-- a primary and its steps
pub record PostParts (i : NestedLanguages) (e : ExprTerm) : Type 0 where
  pub first : ExprTerm × Bool
  pub steps : List StepTerm
  pub front : List Tok
  pub rest : List Tok
  pub cut : all_spelled (print.post_first e) ≡ front ++ rest
  pub primary : (primary i).reads front first
  pub other : opens_with_if e ≡ false → (other_primary i).reads front first
  pub turn : turns (step i) rest steps
  pub whole : post_of nowhere first.0 steps ≡ erase_expr e
  -- without brackets, and a conditional
  pub shown : is_chain_or_prefix e ≡ false → steps ≡ [] → first.1 ≡ true
  pub conditional : opens_with_if e ≡ true → Conditional i front first.0

-- steps after what has none make a new post
pub stepped_new : (place : Place) (e : ExprTerm) (ss : List StepTerm) → is_post e ≡ false → stepped place (erase_expr e) ss ≡ PostExpr (erase_expr e) (steps_of ss) place
stepped_new place (PostExpr first steps p) ss q = absurd cc
stepped_new place _ ss q = refl

module _ (i : NestedLanguages) where
  of_primary : (e : ExprTerm) → PrimaryParts i e → PostParts i e
  of_primary e w = record {
    first = (erase_expr e, w.bare);
    steps = [];
    front = all_spelled (print.post_first e);
    rest = [];
    cut = sym (append-nil (all_spelled (print.post_first e)));
    primary = w.primary;
    other = w.other;
    turn = refl;
    whole = refl;
    shown = λ q z. w.shown q;
    conditional = w.conditional;
  }

  pub post_parts : (e : ExprTerm) → Form i e → NeedsBracket i (is_chain_or_prefix e) e → PostParts i e
  post_parts (PostExpr first steps place) f need =
      let w = primary_parts i first f.0 f.1 f.2 in
      let s = f.3 in
      record {
        first = (erase_expr first, w.bare);
        steps = s.0 ∷ s.1;
        front = all_spelled (print.post_first first);
        rest = all_spelled (print.steps steps);
        cut = spelled_append (print.post_first first) (print.steps steps);
        primary = w.primary;
        other = w.other;
        turn = s.3;
        whole = stepped_new nowhere first (s.0 ∷ s.1) f.2 ∙ ap (λ z. PostExpr (erase_expr first) z nowhere) s.2;
        shown = λ q z. absurd cc;
        conditional = w.conditional;
      }
  post_parts e f need = of_primary e (primary_parts i e f need refl)

  -- a lead of an expression without brackets
  pub plain_lead : (x : ExprTerm × Bool) (ss : List StepTerm) → (ss ≡ [] → x.1 ≡ true) → (t : Option TargetTerm) × (post_lead (nowhere, (x, ss)) ≡ Plain (post_of nowhere x.0 ss) t)
  plain_lead (e, true) [] q = (bare_target e, refl)
  plain_lead (e, false) [] q = absurd (let z : false ≡ true = q refl in cc)
  plain_lead x (s ∷ ss) q = (member_of nowhere x.0 (split_last s ss), refl)

  pub post_reads : (e : ExprTerm) → PostParts i e → is_chain_or_prefix e ≡ false → (t : Option TargetTerm) × (post i).reads (all_spelled (print.post_first e)) (Plain (erase_expr e) t)
  unfolding post
  post_reads e w q =
      let x = plain_lead w.first w.steps (w.shown q) in
      (x.0, ((nowhere, (w.first, w.steps)), ((w.front, w.rest, w.cut, w.primary, w.turn), sym (spelled_head (print.post_first e))), ap (λ z. Plain z x.0) (sym w.whole) ∙ sym x.1))

-- signs

sign_at : (op : PrefixOp) → sign.reads (plain (words.prefix_sign op) ∷ []) (record { op = op; place = nowhere })
unfolding sign
sign_at prefixes.Not = inl (plain class.NotWord, (refl, refl), refl)
sign_at prefixes.Minus = inr (plain class.MinusSign, (refl, refl), refl)

sign_reads : (s : Sign) → sign.reads (plain (words.prefix_sign s.op) ∷ []) (erase_sign s)
sign_reads s = sign_at s.op

signs_read : (ss : List Sign) → turns sign (all_spelled (print.signs ss)) (erase_signs ss)
signs_read [] = refl
signs_read (s ∷ ss) = (plain (words.prefix_sign s.op) ∷ [], all_spelled (print.signs ss), refl, sign_reads s, signs_read ss)

all_signs_read : (s : Sign) (ss : List Sign) → signs.reads (all_spelled (print.signs (s ∷ ss))) (erase_sign s, erase_signs ss)
unfolding signs more_signs
all_signs_read s ss = (plain (words.prefix_sign s.op) ∷ [], all_spelled (print.signs ss), refl, sign_reads s, signs_read ss)

signed_new : (place : Place) (e : ExprTerm) (ss : List Sign) → is_prefix e ≡ false → signed place ss (erase_expr e) ≡ PrefixExpr ss (erase_expr e) place
signed_new place (PrefixExpr before operand p) ss q = absurd cc
signed_new place _ ss q = refl

-- what is read before a prefix: a post, in brackets where it is a chain
module _ (i : NestedLanguages) where
  pub bracket_post : (e : ExprTerm) → Bracket i e → (post i).reads (all_spelled (print.in_round (print.expr e))) (Bracketed (erase_expr e))
  unfolding post primary
  bracket_post e w =
      let ts = all_spelled (print.in_round (print.expr e)) in
      ((nowhere, ((erase_expr e, false), [])), ((ts, [], sym (append-nil ts), inr (bracket_primary i e w), refl), sym (spelled_head (print.in_round (print.expr e)))), refl)

  prefixed_reads : (e : ExprTerm) → Form i e → NeedsBracket i (is_chain e) e → is_prefix e ≡ false → (x : Lead) × (post i).reads (all_spelled (print.prefixed e)) x × (expr_of x ≡ erase_expr e)
  prefixed_reads (ChainExpr level first rest place) f need p = let e = ChainExpr level first rest place in (Bracketed (erase_expr e), bracket_post e (need refl), refl)
  prefixed_reads (PrefixExpr before e place) f need p = absurd cc
  prefixed_reads e f need p = let w = post_reads i e (post_parts i e f need) refl in (Plain (erase_expr e) w.0, w.1, refl)

  pub signed_reads : (before : List Sign) (e : ExprTerm) (place : Place) → Form i (PrefixExpr before e place) → (signed_post i).reads (all_spelled (print.expr (PrefixExpr before e place))) (Plain (erase_expr (PrefixExpr before e place)) None)
  unfolding signed_post
  signed_reads before e place f =
      let w = prefixed_reads e f.0 f.1 f.2 in
      let s = f.3 in
      let all = print.signs before ++ print.prefixed e in (
        (nowhere, ((erase_sign s.0, erase_signs s.1), w.0)),
        ((all_spelled (print.signs before), all_spelled (print.prefixed e), spelled_append (print.signs before) (print.prefixed e), subst (λ z. signs.reads (all_spelled (print.signs z)) (erase_sign s.0, erase_signs s.1)) (sym s.2) (all_signs_read s.0 s.1), w.1), sym (spelled_head all)),
        ap (λ z. Plain z None) (ap (λ z. PrefixExpr (erase_signs z) (erase_expr e) nowhere) s.2 ∙ sym (signed_new nowhere e (erase_sign s.0 ∷ erase_signs s.1) f.2) ∙ ap (signed nowhere (erase_sign s.0 ∷ erase_signs s.1)) (sym w.2)),
      )
