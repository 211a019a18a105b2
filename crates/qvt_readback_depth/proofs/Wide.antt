-- How the units of a text and of its printed text open and close items, where the printed text may open e more at once.
use Rattle.std.proofs.Common.{◌≡◌, ℕ, suc, ◌+◌, ◌≤◌, List, [], ◌∷◌, ◌++◌, length, Bool, true, false, refl, sym, ap, ◌∙◌, subst, arith}
use Rattle.qvt_language.specs.declared.class.Class.{Class}
use Rattle.qvt_language.specs.declared.class.Class.TheVariants.{OpenRound, OpenBrace, CloseBrace, Semicolon, PopulationWord}
use Rattle.qvt_parser_tokens.specs.declared.depth.Open.{Open}
use Rattle.qvt_parser_tokens.specs.declared.depth.Open.TheVariants.{Bracket}
use Rattle.qvt_parser_tokens.specs.Depth.{closed, after, begins_statement}
use Rattle.qvt_readback_depth.proofs.Runs.{items_after, fresh_after, Below, Lower, items_append, now_below, below_front, below_back, below_join, lower_then, lengths, at_most, Strong}
use Rattle.qvt_readback_depth.proofs.Turns.{Rests, rests_length, rests_closed, Turns}

pub record Wide (e : ℕ) (us ts : List Class) : Type 0 where
  pub back_u : (f : Bool) (s : List Open) → items_after f s us ≡ s
  pub back_t : (f : Bool) (s : List Open) → items_after f s ts ≡ s
  pub low : (d : ℕ) (fu ft : Bool) (su st : List Open) → length su ≤ length st + d → Lower (e + d) fu ft su st us ts

-- likewise, where one item more is open before
pub record Spare (e : ℕ) (us ts : List Class) : Type 0 where
  pub back_u : (f : Bool) (s : List Open) → items_after f s us ≡ s
  pub back_t : (f : Bool) (s : List Open) → items_after f s ts ≡ s
  pub low : (d n : ℕ) (fu ft : Bool) (su st : List Open) → length su ≤ length st + d → suc (length st) ≤ n → Below n ft st ts → Below (n + (e + d)) fu su us

more_slack : (e d : ℕ) (su st : List Open) → length su ≤ length st + d → length su ≤ length st + (e + d)
more_slack e d su st h = omega (arith, h)

pub wide_strong : (e : ℕ) {us ts : List Class} → Strong us ts → Wide e us ts
wide_strong e h = record { back_u = h.back_u; back_t = h.back_t; low = λ d fu ft su st j. h.low (e + d) fu ft su st (more_slack e d su st j) }

pub below_up : (n m : ℕ) (f : Bool) (s : List Open) (us : List Class) → n ≤ m → Below n f s us → Below m f s us
below_up n m f s [] h k = omega (arith, h, k)
below_up n m f s (c ∷ us) h k = (omega (arith, h, k.0), below_up n m (begins_statement c) (after f s c) us h k.1)

pub wide_up : (e g : ℕ) {us ts : List Class} → e ≤ g → Wide e us ts → Wide g us ts
wide_up e g {us} h k = record { back_u = k.back_u; back_t = k.back_t; low = λ d fu ft su st j n l. below_up (n + (e + d)) (n + (g + d)) fu su us (omega (arith, h)) (k.low d fu ft su st j n l) }

pub wide_then : (e : ℕ) {a x b y : List Class} → Wide e a x → Wide e b y → Wide e (a ++ b) (x ++ y)
wide_then e {a} {x} {b} {y} h k = record {
  back_u = λ f s. items_append f s a b ∙ k.back_u (fresh_after f a) (items_after f s a) ∙ h.back_u f s;
  back_t = λ f s. items_append f s x y ∙ k.back_t (fresh_after f x) (items_after f s x) ∙ h.back_t f s;
  low = λ d fu ft su st j. lower_then (e + d) fu ft su st a x b y (h.low d fu ft su st j) (k.low d (fresh_after fu a) (fresh_after ft x) (items_after fu su a) (items_after ft st x) (lengths d (h.back_u fu su) (h.back_t ft st) j));
}

pub spare_wide : (e : ℕ) {us ts : List Class} → Wide e us ts → Spare e us ts
spare_wide e h = record { back_u = h.back_u; back_t = h.back_t; low = λ d n fu ft su st j k l. h.low d fu ft su st j n l }

spare_back : {n : ℕ} {s v : List Open} → v ≡ s → suc (length s) ≤ n → suc (length v) ≤ n
spare_back {n} e h = subst (λ z. suc (length z) ≤ n) (sym e) h

-- after a part in which one item more is open, or within one
spare_low : (e : ℕ) {a x b y : List Class} → Strong a x → Spare e b y → (d n : ℕ) (fu ft : Bool) (su st : List Open) → length su ≤ length st + d → suc (length st) ≤ n → Below n ft st (x ++ y) → Below (n + (e + d)) fu su (a ++ b)
spare_low e {a} {x} {b} {y} h k d n fu ft su st j i l =
    below_join (n + (e + d)) fu su a b (h.low (e + d) fu ft su st (more_slack e d su st j) n (below_front n ft st x y l))
    (k.low d n (fresh_after fu a) (fresh_after ft x) (items_after fu su a) (items_after ft st x) (lengths d (h.back_u fu su) (h.back_t ft st) j) (spare_back (h.back_t ft st) i) (below_back n ft st x y l))

pub spare_then : (e : ℕ) {a x b y : List Class} → Strong a x → Spare e b y → Spare e (a ++ b) (x ++ y)
spare_then e {a} {x} {b} {y} h k = record {
  back_u = λ f s. items_append f s a b ∙ k.back_u (fresh_after f a) (items_after f s a) ∙ h.back_u f s;
  back_t = λ f s. items_append f s x y ∙ k.back_t (fresh_after f x) (items_after f s x) ∙ h.back_t f s;
  low = spare_low e h k;
}

-- somewhere in it one item more is open
abbrev pub Room : List Class → Type 0
Room ts = (n : ℕ) (f : Bool) (s : List Open) → Below n f s ts → suc (length s) ≤ n

pub room_round : (ts : List Class) → Room (OpenRound ∷ ts)
room_round ts n f s l = now_below false (Bracket ∷ s) ts l.1

pub wide_room : (e : ℕ) {a x b y : List Class} → Strong a x → Room x → Spare e b y → Wide e (a ++ b) (x ++ y)
wide_room e {a} {x} {b} {y} h r k = let s = spare_then e h k in record {
  back_u = s.back_u;
  back_t = s.back_t;
  low = λ d fu ft su st j n l. s.low d n fu ft su st j (r n ft st (below_front n ft st x y l)) l;
}

-- an empty block for a `;`
pub spare_empty : Spare 0 (OpenBrace ∷ CloseBrace ∷ []) (Semicolon ∷ [])
spare_empty = record { back_u = λ f s. refl; back_t = λ f s. refl; low = λ d n fu ft su st j i l. (omega (arith, j, i), (omega (arith, j, i), omega (arith, j, i))) }

-- what opens none, for what leaves all as it was
pub strong_drop : {us ts : List Class} → Strong us ts → Strong [] ts
strong_drop {us} {ts} h = record { back_u = λ f s. refl; back_t = h.back_t; low = λ d fu ft su st j n l. at_most d su st j (now_below ft st ts l) }

-- the printed text may have braces that the text has not
pub wide_braces : {us ts : List Class} → Strong us ts → Wide 1 (OpenBrace ∷ (us ++ (CloseBrace ∷ []))) ts
wide_braces {us} {ts} h = record {
  back_u = λ f s. items_append true (Bracket ∷ s) us (CloseBrace ∷ []) ∙ ap closed (h.back_u true (Bracket ∷ s));
  back_t = h.back_t;
  low = λ d fu ft su st j n l. let k = now_below ft st ts l in (
    omega (arith, j, k),
    below_join (n + (1 + d)) true (Bracket ∷ su) us (CloseBrace ∷ []) (h.low (1 + d) true ft (Bracket ∷ su) st (omega (arith, j)) n l)
        (subst (λ z. length z ≤ n + (1 + d)) (sym (h.back_u true (Bracket ∷ su))) (omega (arith, j, k)), subst (λ z. length z ≤ n + (1 + d)) (sym (ap closed (h.back_u true (Bracket ∷ su)))) (omega (arith, j, k))),
  );
}

-- and the text may have braces that the printed text leaves out
pub strong_wrapped : {us ts : List Class} → Strong us ts → Strong us (OpenBrace ∷ (ts ++ (CloseBrace ∷ [])))
strong_wrapped {us} {ts} h = record {
  back_u = h.back_u;
  back_t = λ f s. items_append true (Bracket ∷ s) ts (CloseBrace ∷ []) ∙ ap closed (h.back_t true (Bracket ∷ s));
  low = λ d fu ft su st j n l. h.low d fu true su (Bracket ∷ st) (omega (arith, j)) n (below_front n true (Bracket ∷ st) ts (CloseBrace ∷ []) l.1);
}

-- the parts of a mapping's body: the text may leave conditionals open until its end
pub record Parts (e : ℕ) (us ts : List Class) : Type 0 where
  pub back_u : (f : Bool) (s : List Open) → items_after f (Bracket ∷ s) us ≡ Bracket ∷ s
  pub back_t : (f : Bool) (base s : List Open) → Rests base s → Rests base (items_after f s ts)
  pub low : (d : ℕ) (fu ft : Bool) (su base st : List Open) → length su ≤ length base + d → Rests base st → Lower (e + d) fu ft (Bracket ∷ su) st us ts

pub parts_strong : (e : ℕ) {us ts : List Class} → Strong us ts → Parts e us ts
parts_strong e h = record {
  back_u = λ f s. h.back_u f (Bracket ∷ s);
  back_t = λ f base s r. subst (Rests base) (sym (h.back_t f s)) r;
  low = λ d fu ft su base st j r. h.low (e + d) fu ft (Bracket ∷ su) st (omega (arith, j, rests_length base st r));
}

pub parts_then : (e : ℕ) {a x b y : List Class} → Parts e a x → Parts e b y → Parts e (a ++ b) (x ++ y)
parts_then e {a} {x} {b} {y} h k = record {
  back_u = λ f s. items_append f (Bracket ∷ s) a b ∙ ap (λ z. items_after (fresh_after f a) z b) (h.back_u f s) ∙ k.back_u (fresh_after f a) s;
  back_t = λ f base s r. subst (Rests base) (sym (items_append f s x y)) (k.back_t (fresh_after f x) base (items_after f s x) (h.back_t f base s r));
  low = λ d fu ft su base st j r. lower_then (e + d) fu ft (Bracket ∷ su) st a x b y (h.low d fu ft su base st j r)
      (subst (λ z. Lower (e + d) (fresh_after fu a) (fresh_after ft x) z (items_after ft st x) b y) (sym (h.back_u fu su)) (k.low d (fresh_after fu a) (fresh_after ft x) su base (items_after ft st x) j (h.back_t ft base st r)));
}

-- statements that the printed text puts into a block after a word
pub parts_turns : {us ts : List Class} → Turns us ts → Parts 1 (PopulationWord ∷ OpenBrace ∷ (us ++ (CloseBrace ∷ []))) ts
parts_turns {us} {ts} h = record {
  back_u = λ f s. items_append true (Bracket ∷ Bracket ∷ s) us (CloseBrace ∷ []) ∙ ap closed (h.back_u (Bracket ∷ s));
  back_t = h.back_t;
  low = λ d fu ft su base st j r n l. let k = now_below ft st ts l in
      let q = rests_length base st r in (
        omega (arith, j, k, q),
        (
          omega (arith, j, k, q),
          below_join (n + (1 + d)) true (Bracket ∷ Bracket ∷ su) us (CloseBrace ∷ []) (h.low (1 + d) ft (Bracket ∷ su) base st (omega (arith, j)) r n l)
              (subst (λ z. length z ≤ n + (1 + d)) (sym (h.back_u (Bracket ∷ su))) (omega (arith, j, k, q)), subst (λ z. length z ≤ n + (1 + d)) (sym (ap closed (h.back_u (Bracket ∷ su)))) (omega (arith, j, k, q))),
        ),
      );
}

pub parts_none : (e : ℕ) {ts : List Class} → Turns [] ts → Parts e [] ts
parts_none e {ts} h = record {
  back_u = λ f s. refl;
  back_t = h.back_t;
  low = λ d fu ft su base st j r n l. let k : length (Bracket ∷ su) ≤ n + d = h.low d ft su base st j r n l in omega (arith, k);
}

-- none for what leaves all as it was
pub turns_none : {ts : List Class} → Strong [] ts → Turns [] ts
turns_none {ts} h = record {
  back_u = λ s. refl;
  fresh_u = refl;
  back_t = λ f base s r. subst (Rests base) (sym (h.back_t f s)) r;
  low = λ d ft su base st j r n l. let k = now_below ft st ts l in let q = rests_length base st r in omega (arith, j, k, q);
}

pub parts_braces : (e : ℕ) {us ts : List Class} → Parts e us ts → Wide e (OpenBrace ∷ (us ++ (CloseBrace ∷ []))) (OpenBrace ∷ (ts ++ (CloseBrace ∷ [])))
parts_braces e {us} {ts} h = record {
  back_u = λ f s. items_append true (Bracket ∷ s) us (CloseBrace ∷ []) ∙ ap closed (h.back_u true s);
  back_t = λ f s. items_append true (Bracket ∷ s) ts (CloseBrace ∷ []) ∙ rests_closed s (items_after true (Bracket ∷ s) ts) (h.back_t true s (Bracket ∷ s) refl);
  low = λ d fu ft su st j n l. let v = items_after true (Bracket ∷ st) ts in
      let r = h.back_t true st (Bracket ∷ st) refl in
      let q = rests_length st v r in
      let k = now_below true (Bracket ∷ st) (ts ++ (CloseBrace ∷ [])) l.1 in (
        omega (arith, j, l.0),
        below_join (n + (e + d)) true (Bracket ∷ su) us (CloseBrace ∷ []) (h.low d true true su st (Bracket ∷ st) j refl n (below_front n true (Bracket ∷ st) ts (CloseBrace ∷ []) l.1))
            (subst (λ z. length z ≤ n + (e + d)) (sym (h.back_u true su)) (omega (arith, j, k)), subst (λ z. length z ≤ n + (e + d)) (sym (ap closed (h.back_u true su))) (omega (arith, j, l.0))),
      );
}
