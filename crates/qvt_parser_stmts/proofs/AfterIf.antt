-- What stands after `if`, read part by part.
use Rattle.std.proofs.Common.{◌≡◌, List, Bool, true, false, ◌⊎◌, inr, refl, sym, ap, ◌∙◌, Ok, Err, cond}
use Rattle.qvt_base.specs.declared.numbers.Place.{Place}
use Rattle.qvt_grammar.specs.Language.{head_of}
use Rattle.qvt_results.specs.Bind.{◌>>=◌}
use Rattle.qvt_grammar.specs.Reader.{Answer, starts, made_at, then_at, choose_at}
use Rattle.qvt_tree_types.specs.Tree.{ExprTerm, StmtTerm}
use Rattle.qvt_language.specs.Tokens.{Tok}
use Rattle.qvt_language.specs.Readers.{Reader, the_at, nowhere}
use Rattle.qvt_language.specs.Leads.{Lead, Plain, Bracketed, Each}
use Rattle.qvt_language.specs.Trees.{second, expr_of}
use Rattle.qvt_language.specs.StmtTrees.{Branches, Choice, if_made, if_stmt_of}
use Rattle.qvt_language.specs.Reading.{NestedAt}
use Rattle.qvt_language.specs.ReadingStatements.{choice_at, if_rest_at, if_stmt_at}
use Rattle.qvt_language.specs.declared.class.Class.{Class}
use Rattle.qvt_language.specs.declared.class.Class.TheVariants.{IfWord, ThenWord}
use Rattle.qvt_parser_stmts.specs.Brackets.{in_brackets}

abbrev with_word : {A : Type 0} → Tok → Answer Tok A → Answer Tok (Tok × A)
with_word t x = x >>= λ (a, s). Ok ((t, a), s)

abbrev without_word : {A : Type 0} → Answer Tok (Tok × A) → Answer Tok A
without_word x = x >>= λ (y, s). Ok (second y, s)

abbrev worded : {A : Type 0} → Reader A → Answer Tok Tok → Answer Tok A
worded g x = without_word (x >>= λ (t, r). with_word t (g r))

abbrev into : {A B : Type 0} → (A → B) → Answer Tok A → Answer Tok B
into h x = x >>= λ (a, s). Ok (h a, s)

into_into : {A B C : Type 0} (k : A → B) (h : B → C) (x : Answer Tok A) → into h (into k x) ≡ into (λ a. h (k a)) x
into_into k h (Ok (a, s)) = refl
into_into k h (Err e) = refl

module _ {A B : Type 0} (h : A → B) where
  passed : (t : Tok) (x : Answer Tok A) → into h (without_word (with_word t x)) ≡ into h x
  passed t (Ok (a, s)) = refl
  passed t (Err e) = refl

  -- all is read after the word
  only_word : (c : Class) (g : Reader A) (ts : List Tok) (t : Tok) (rest : List Tok) → the_at c ts ≡ Ok (t, rest) → made_at h (made_at second (then_at (the_at c) g)) ts ≡ made_at h g rest
  only_word c g ts t rest d = ap (λ x. into h (worded g x)) d ∙ passed t (g rest)

  -- and so where the other side is not begun
  pub after_word : (p : Tok → Bool) (c : Class) (f g : Reader A) (ts : List Tok) (t : Tok) (rest : List Tok) → starts p ts ≡ false → the_at c ts ≡ Ok (t, rest)
      → made_at h (choose_at p f (made_at second (then_at (the_at c) g))) ts ≡ made_at h g rest
  after_word p c f g ts t rest e d = ap (λ b. into h (cond b (f ts) (worded g (the_at c ts)))) e ∙ only_word c g ts t rest d

pub after_then : {A B C : Type 0} (k : A → B) (h : B → C) (g : Reader A) (ts : List Tok) (t : Tok) (rest : List Tok) → the_at ThenWord ts ≡ Ok (t, rest)
    → made_at h (made_at second (then_at (the_at ThenWord) (made_at k g))) ts ≡ made_at (λ a. h (k a)) g rest
after_then k h g ts t rest d = only_word h ThenWord (made_at k g) ts t rest d ∙ into_into k h (g rest)

module _ (r : NestedAt) (place : Place) (ts : List Tok) where
  pub bracketed_rest : (x : Lead) (e : ExprTerm) → e ≡ expr_of x → in_brackets x ≡ true → made_at (if_made place (expr_of x)) (if_rest_at r x) ts ≡ made_at (if_made place e) (if_rest_at r (Bracketed e)) ts
  bracketed_rest (Plain c target) e h k = absurd cc
  bracketed_rest (Bracketed c) e h k = ap (λ z. made_at (if_made place z) (if_rest_at r (Bracketed z)) ts) (sym h)
  bracketed_rest (Each c part) e h k = absurd cc

  abbrev then_choice : ExprTerm → Answer Tok StmtTerm
  then_choice e = made_at (if_made place e) (made_at second (then_at (the_at ThenWord) (made_at inr (choice_at r)))) ts

  pub other_rest : (x : Lead) (e : ExprTerm) → e ≡ expr_of x → in_brackets x ≡ false → made_at (if_made place (expr_of x)) (if_rest_at r x) ts ≡ then_choice e
  other_rest (Plain c target) e h k = ap then_choice (sym h)
  other_rest (Bracketed c) e h k = absurd cc
  other_rest (Each c part) e h k = ap then_choice (sym h)

-- a statement that begins with `if` is read by what stands after its expression
abbrev with_lead : Lead → Answer Tok (Branches ⊎ Choice) → Answer Tok (Lead × (Branches ⊎ Choice))
with_lead x y = y >>= λ (rest, s). Ok ((x, rest), s)

abbrev after_lead : NestedAt → Answer Tok Lead → Answer Tok (Lead × (Branches ⊎ Choice))
after_lead r y = y >>= λ (x, s). with_lead x (if_rest_at r x s)

abbrev after_if : NestedAt → Answer Tok Tok → Answer Tok (Tok × (Lead × (Branches ⊎ Choice)))
after_if r y = y >>= λ (w, s). with_word w (after_lead r (r.flagged s))

abbrev at_place : Place → Answer Tok (Tok × (Lead × (Branches ⊎ Choice))) → Answer Tok (Place × (Tok × (Lead × (Branches ⊎ Choice))))
at_place place y = y >>= λ (z, s). Ok ((place, z), s)

abbrev finished : Answer Tok (Place × (Tok × (Lead × (Branches ⊎ Choice)))) → Answer Tok StmtTerm
finished y = y >>= λ (z, s). Ok (if_stmt_of z, s)

all_parts : (place : Place) (w : Tok) (x : Lead) (y : Answer Tok (Branches ⊎ Choice)) → finished (at_place place (with_word w (with_lead x y))) ≡ (y >>= λ (rest, s). Ok (if_made place (expr_of x) rest, s))
all_parts place w x (Ok (rest, s)) = refl
all_parts place w x (Err e) = refl

pub if_then : (r : NestedAt) (place : Place) (ts : List Tok) (w : Tok) (after : List Tok) (x : Lead) (rest : List Tok) → place ≡ head_of (λ t. t.place) nowhere ts → the_at IfWord ts ≡ Ok (w, after) → r.flagged after ≡ Ok (x, rest)
    → if_stmt_at r ts ≡ made_at (if_made place (expr_of x)) (if_rest_at r x) rest
unfolding if_stmt_at
if_then r place ts w after x rest h i f =
    ap (λ z. finished (at_place z (after_if r (the_at IfWord ts)))) (sym h)
    ∙ ap (λ z. finished (at_place place (after_if r z))) i
    ∙ ap (λ z. finished (at_place place (with_word w (after_lead r z)))) f
    ∙ all_parts place w x (if_rest_at r x rest)
