-- How the statements of a text and of its printed text open and close items. The text may leave conditionals open until the
-- end of a block, the printed text leaves none.
use Rattle.std.proofs.Common.{◌≡◌, ℕ, suc, ◌+◌, ◌≤◌, List, [], ◌∷◌, ◌++◌, length, Bool, true, false, refl, sym, ap, ◌∙◌, subst, arith}
use Rattle.qvt_language.specs.declared.class.Class.{Class}
use Rattle.qvt_language.specs.declared.class.Class.TheVariants.{CloseBrace, Semicolon, IfWord, EndifWord}
use Rattle.qvt_parser_tokens.specs.declared.depth.Open.{Open}
use Rattle.qvt_parser_tokens.specs.declared.depth.Open.TheVariants.{Bracket, Conditional}
use Rattle.qvt_parser_tokens.specs.Depth.{closed, ended, after}
use Rattle.qvt_readback_depth.proofs.Runs.{items_after, fresh_after, Lower, items_append, fresh_append, below_front, lower_then, lengths, at_most, landed, landed_later, Over, Inside}

-- conditionals over a bracket over the base
abbrev pub Rests : List Open → List Open → Type 0
Rests base [] = ⊥
Rests base (Bracket ∷ s) = s ≡ base
Rests base (Conditional ∷ s) = Rests base s

pub rests_length : (base s : List Open) → Rests base s → suc (length base) ≤ length s
rests_length base [] r = absurd r
rests_length base (Bracket ∷ s) r = subst (λ z. suc (length z) ≤ suc (length s)) r (omega arith)
rests_length base (Conditional ∷ s) r = omega (arith, rests_length base s r)

pub rests_closed : (base s : List Open) → Rests base s → closed s ≡ base
rests_closed base [] r = absurd r
rests_closed base (Bracket ∷ s) r = r
rests_closed base (Conditional ∷ s) r = rests_closed base s r

pub rests_ended : (base s : List Open) → Rests base s → Rests base (ended s)
rests_ended base [] r = absurd r
rests_ended base (Bracket ∷ s) r = r
rests_ended base (Conditional ∷ s) r = r

rests_if : (f : Bool) (base s : List Open) → Rests base s → Rests base (after f s IfWord)
rests_if true base s r = r
rests_if false base s r = r

-- the printed statements begin and end where an `if` begins a statement
pub record Turns (us ts : List Class) : Type 0 where
  pub back_u : (s : List Open) → items_after true (Bracket ∷ s) us ≡ Bracket ∷ s
  pub fresh_u : fresh_after true us ≡ true
  pub back_t : (f : Bool) (base s : List Open) → Rests base s → Rests base (items_after f s ts)
  pub low : (d : ℕ) (ft : Bool) (su base st : List Open) → length su ≤ length base + d → Rests base st → Lower d true ft (Bracket ∷ su) st us ts

-- after it an `if` begins a statement
abbrev pub Ends : List Class → Type 0
Ends us = (f : Bool) → fresh_after f us ≡ true

pub ends_append : (a b : List Class) → Ends b → Ends (a ++ b)
ends_append a b e f = fresh_append f a b ∙ e (fresh_after f a)

under : (d : ℕ) (su base st : List Open) → length su ≤ length base + d → Rests base st → length (Bracket ∷ su) ≤ length st + d
under d su base st j r = omega (arith, j, rests_length base st r)

pub turns_nil : Turns [] []
turns_nil = record { back_u = λ s. refl; fresh_u = refl; back_t = λ f base s r. r; low = λ d ft su base st j r n l. at_most d (Bracket ∷ su) st (under d su base st j r) l }

pub turns_empty : Turns [] (Semicolon ∷ [])
turns_empty = record { back_u = λ s. refl; fresh_u = refl; back_t = λ f base s r. r; low = λ d ft su base st j r n l. at_most d (Bracket ∷ su) st (under d su base st j r) l.0 }

rests_landed : (b f : Bool) (base s : List Open) → Rests base s → Rests base (landed b f s)
rests_landed true f base s r = rests_ended base (after f s IfWord) (rests_if f base s r)
rests_landed false f base s r = r

pub turns_over : {us ts : List Class} → Over us ts → Ends us → Turns us ts
turns_over {us} {ts} h e = record {
  back_u = λ s. h.back_u true (Bracket ∷ s) tt;
  fresh_u = e true;
  back_t = λ f base s r. subst (Rests base) (sym (h.back_t f s)) (rests_landed h.begins f base s r);
  low = λ d ft su base st j r. h.low d true ft (Bracket ∷ su) st tt tt (under d su base st j r) (under d su base (landed h.begins ft st) j (rests_landed h.begins ft base st r));
}

pub turns_then : {a x b y : List Class} → Turns a x → Turns b y → Turns (a ++ b) (x ++ y)
turns_then {a} {x} {b} {y} h k = record {
  back_u = λ s. items_append true (Bracket ∷ s) a b ∙ ap (λ z. items_after z (items_after true (Bracket ∷ s) a) b) h.fresh_u ∙ ap (λ z. items_after true z b) (h.back_u s) ∙ k.back_u s;
  fresh_u = fresh_append true a b ∙ ap (λ z. fresh_after z b) h.fresh_u ∙ k.fresh_u;
  back_t = λ f base s r. subst (Rests base) (sym (items_append f s x y)) (k.back_t (fresh_after f x) base (items_after f s x) (h.back_t f base s r));
  low = λ d ft su base st j r. lower_then d true ft (Bracket ∷ su) st a x b y (h.low d ft su base st j r)
      (subst (λ z. Lower d z (fresh_after ft x) (items_after true (Bracket ∷ su) a) (items_after ft st x) b y) (sym h.fresh_u)
      (subst (λ z. Lower d true (fresh_after ft x) z (items_after ft st x) b y) (sym (h.back_u su)) (k.low d (fresh_after ft x) su base (items_after ft st x) j (h.back_t ft base st r))));
}

-- behind the brace of a block, and through its end
pub turns_inside : {us ts : List Class} → Turns us ts → Inside true (us ++ (CloseBrace ∷ [])) (ts ++ (CloseBrace ∷ []))
turns_inside {us} {ts} h = record {
  back_u = λ s. items_append true (Bracket ∷ s) us (CloseBrace ∷ []) ∙ ap closed (h.back_u s);
  back_t = λ s. items_append true (Bracket ∷ s) ts (CloseBrace ∷ []) ∙ rests_closed s (items_after true (Bracket ∷ s) ts) (h.back_t true s (Bracket ∷ s) refl);
  low = λ d su st j. let r = h.back_t true st (Bracket ∷ st) refl in
      lower_then d true true (Bracket ∷ su) (Bracket ∷ st) us ts (CloseBrace ∷ []) (CloseBrace ∷ []) (h.low d true su st (Bracket ∷ st) j refl)
      (λ n l. (
        at_most d (items_after true (Bracket ∷ su) us) (items_after true (Bracket ∷ st) ts) (lengths d (h.back_u su) refl (under d su st (items_after true (Bracket ∷ st) ts) j r)) l.0,
        at_most d (closed (items_after true (Bracket ∷ su) us)) (closed (items_after true (Bracket ∷ st) ts)) (lengths d (ap closed (h.back_u su)) (rests_closed st (items_after true (Bracket ∷ st) ts) r) j) l.1,
      ));
}

-- what may stand at the end of a statement of the text
abbrev pub Leaves : List Class → Type 0
Leaves e = (f : Bool) (base s : List Open) → Rests base s → Rests base (items_after f s e)

pub leaves_none : Leaves []
leaves_none f base s r = r

pub leaves_endif : Leaves (EndifWord ∷ [])
leaves_endif f base s r = rests_ended base s r

-- a conditional statement
pub turns_if : {us ts : List Class} (e : List Class) → Over us ts → Ends us → Leaves e → Turns (IfWord ∷ us) (IfWord ∷ (ts ++ e))
turns_if {us} {ts} e h g k = record {
  back_u = λ s. h.back_u false (Bracket ∷ s) tt;
  fresh_u = g false;
  back_t = λ f base s r. subst (Rests base) (sym (items_append false (after f s IfWord) ts e))
      (k (fresh_after false ts) base (items_after false (after f s IfWord) ts) (subst (Rests base) (sym (h.back_t false (after f s IfWord) ∙ landed_later h.begins (after f s IfWord))) (rests_if f base s r)));
  low = λ d ft su base st j r n l. let i = under d su base (after ft st IfWord) j (rests_if ft base st r) in (
    at_most d (Bracket ∷ su) st (under d su base st j r) l.0,
    h.low d false false (Bracket ∷ su) (after ft st IfWord) tt tt i (lengths d {su = Bracket ∷ su} refl (landed_later h.begins (after ft st IfWord)) i) n (below_front n false (after ft st IfWord) ts e l.1),
  );
}
