-- How lists of classes of a text and of its printed text open and close items.
use Rattle.std.proofs.Common.{◌≡◌, ℕ, ◌+◌, ◌≤◌, List, [], ◌∷◌, ◌++◌, length, Bool, true, false, refl, sym, ap, ◌∙◌, subst, arith}
use Rattle.qvt_language.specs.declared.class.Class.{Class}
use Rattle.qvt_language.specs.declared.class.Class.TheVariants.{OpenRound, OpenBrace, CloseRound, IfWord, EndifWord}
use Rattle.qvt_parser_tokens.specs.declared.depth.Open.{Open}
use Rattle.qvt_parser_tokens.specs.declared.depth.Open.TheVariants.{Bracket, Conditional}
use Rattle.qvt_parser_tokens.specs.Depth.{closed, ended, after, begins_statement}

abbrev pub items_after : Bool → List Open → List Class → List Open
items_after f s [] = s
items_after f s (c ∷ cs) = items_after (begins_statement c) (after f s c) cs

abbrev pub fresh_after : Bool → List Class → Bool
fresh_after f [] = f
fresh_after f (c ∷ cs) = fresh_after (begins_statement c) cs

-- at most n items are open at once
abbrev pub Below : ℕ → Bool → List Open → List Class → Type 0
Below n f s [] = length s ≤ n
Below n f s (c ∷ cs) = (length s ≤ n) × Below n (begins_statement c) (after f s c) cs

pub items_append : (f : Bool) (s : List Open) (a b : List Class) → items_after f s (a ++ b) ≡ items_after (fresh_after f a) (items_after f s a) b
items_append f s [] b = refl
items_append f s (c ∷ a) b = items_append (begins_statement c) (after f s c) a b

pub fresh_append : (f : Bool) (a b : List Class) → fresh_after f (a ++ b) ≡ fresh_after (fresh_after f a) b
fresh_append f [] b = refl
fresh_append f (c ∷ a) b = fresh_append (begins_statement c) a b

pub now_below : {n : ℕ} (f : Bool) (s : List Open) (a : List Class) → Below n f s a → length s ≤ n
now_below f s [] h = h
now_below f s (c ∷ a) h = h.0

pub below_front : (n : ℕ) (f : Bool) (s : List Open) (a b : List Class) → Below n f s (a ++ b) → Below n f s a
below_front n f s [] b h = now_below f s b h
below_front n f s (c ∷ a) b h = (h.0, below_front n (begins_statement c) (after f s c) a b h.1)

pub below_back : (n : ℕ) (f : Bool) (s : List Open) (a b : List Class) → Below n f s (a ++ b) → Below n (fresh_after f a) (items_after f s a) b
below_back n f s [] b h = h
below_back n f s (c ∷ a) b h = below_back n (begins_statement c) (after f s c) a b h.1

pub below_join : (n : ℕ) (f : Bool) (s : List Open) (a b : List Class) → Below n f s a → Below n (fresh_after f a) (items_after f s a) b → Below n f s (a ++ b)
below_join n f s [] b h k = k
below_join n f s (c ∷ a) b h k = (h.0, below_join n (begins_statement c) (after f s c) a b h.1 k)

-- the one list, with d items more to begin with, stays below the other with d more
abbrev pub Lower : ℕ → Bool → Bool → List Open → List Open → List Class → List Class → Type 0
Lower d fu ft su st us ts = (n : ℕ) → Below n ft st ts → Below (n + d) fu su us

pub lower_then : (d : ℕ) (fu ft : Bool) (su st : List Open) (a x b y : List Class) → Lower d fu ft su st a x → Lower d (fresh_after fu a) (fresh_after ft x) (items_after fu su a) (items_after ft st x) b y → Lower d fu ft su st (a ++ b) (x ++ y)
lower_then d fu ft su st a x b y h k n l = below_join (n + d) fu su a b (h n (below_front n ft st x y l)) (k n (below_back n ft st x y l))

pub lengths : (d : ℕ) {su st vu vt : List Open} → vu ≡ su → vt ≡ st → length su ≤ length st + d → length vu ≤ length vt + d
lengths d {su} {st} {vu} {vt} e g h = subst (λ z. length z ≤ length vt + d) (sym e) (subst (λ z. length su ≤ length z + d) (sym g) h)

pub at_most : {n : ℕ} (d : ℕ) (su st : List Open) → length su ≤ length st + d → length st ≤ n → length su ≤ n + d
at_most d su st h k = omega (arith, h, k)

pub one_more : (d : ℕ) (su st : List Open) (o : Open) → length su ≤ length st + d → length (o ∷ su) ≤ length (o ∷ st) + d
one_more d su st o h = omega (arith, h)

-- an `if` would open an item that its `endif` closes, or open none and close none
abbrev pub Calm : Bool → List Open → Type 0
Calm false s = Unit {0}
Calm true [] = Unit {0}
Calm true (Bracket ∷ s) = Unit {0}
Calm true (Conditional ∷ s) = ⊥

-- where the `if` of the printed text opens one, that of the text does
abbrev pub Fresher : Bool → Bool → Type 0
Fresher true ft = Unit {0}
Fresher false true = ⊥
Fresher false false = Unit {0}

-- the items after a text that begins with `if`, or not: its `endif` takes one away
abbrev pub landed : Bool → Bool → List Open → List Open
landed true f s = ended (after f s IfWord)
landed false f s = s

-- both leave the items as they were, and the first opens no more at once; neither begins with `if`
pub record Strong (us ts : List Class) : Type 0 where
  pub back_u : (f : Bool) (s : List Open) → items_after f s us ≡ s
  pub back_t : (f : Bool) (s : List Open) → items_after f s ts ≡ s
  pub low : (d : ℕ) (fu ft : Bool) (su st : List Open) → length su ≤ length st + d → Lower d fu ft su st us ts

-- likewise, where both may begin with `if`
pub record Over (us ts : List Class) : Type 0 where
  pub begins : Bool
  pub back_u : (f : Bool) (s : List Open) → Calm f s → items_after f s us ≡ s
  pub back_t : (f : Bool) (s : List Open) → items_after f s ts ≡ landed begins f s
  pub low : (d : ℕ) (fu ft : Bool) (su st : List Open) → Calm fu su → Fresher fu ft → length su ≤ length st + d → length su ≤ length (landed begins ft st) + d → Lower d fu ft su st us ts

-- likewise, behind an opening bracket and through the closing one
pub record Inside (g : Bool) (us ts : List Class) : Type 0 where
  pub back_u : (s : List Open) → items_after g (Bracket ∷ s) us ≡ s
  pub back_t : (s : List Open) → items_after g (Bracket ∷ s) ts ≡ s
  pub low : (d : ℕ) (su st : List Open) → length su ≤ length st + d → Lower d g g (Bracket ∷ su) (Bracket ∷ st) us ts

-- likewise, behind an `if` and through its `endif`
pub record Ender (us ts : List Class) : Type 0 where
  pub back_u : (f : Bool) (s : List Open) → items_after f s us ≡ ended s
  pub back_t : (f : Bool) (s : List Open) → items_after f s ts ≡ ended s
  pub low : (d : ℕ) (fu ft : Bool) (su st : List Open) → length su ≤ length st + d → length (ended su) ≤ length (ended st) + d → Lower d fu ft su st us ts

-- a token that opens and closes nothing
abbrev pub Still : Class → Type 0
Still c = (f : Bool) (s : List Open) → after f s c ≡ s

abbrev pub AllStill : List Class → Type 0
AllStill [] = Unit {0}
AllStill (c ∷ cs) = Still c × AllStill cs

-- and after which an `if` begins no statement
abbrev pub Word : Class → Type 0
Word c = Still c × (begins_statement c ≡ false)

abbrev pub Closing : Class → Type 0
Closing c = (f : Bool) (s : List Open) → after f s c ≡ closed s

pub all_still_append : (a b : List Class) → AllStill a → AllStill b → AllStill (a ++ b)
all_still_append [] b h k = k
all_still_append (c ∷ a) b h k = (h.0, all_still_append a b h.1 k)

pub strong_nil : Strong [] []
strong_nil = record { back_u = λ f s. refl; back_t = λ f s. refl; low = λ d fu ft su st h n l. at_most d su st h l }

pub strong_left : (c : Class) (us ts : List Class) → Still c → Strong us ts → Strong (c ∷ us) ts
strong_left c us ts e h = record {
  back_u = λ f s. h.back_u (begins_statement c) (after f s c) ∙ e f s;
  back_t = h.back_t;
  low = λ d fu ft su st j n l. (at_most d su st j (now_below ft st ts l), h.low d (begins_statement c) ft (after fu su c) st (lengths d (e fu su) refl j) n l);
}

pub strong_right : (c : Class) (us ts : List Class) → Still c → Strong us ts → Strong us (c ∷ ts)
strong_right c us ts e h = record {
  back_u = h.back_u;
  back_t = λ f s. h.back_t (begins_statement c) (after f s c) ∙ e f s;
  low = λ d fu ft su st j n l. h.low d fu (begins_statement c) su (after ft st c) (lengths d refl (e ft st) j) n l.1;
}

strong_rights : (ts : List Class) → AllStill ts → Strong [] ts
strong_rights [] h = strong_nil
strong_rights (c ∷ ts) h = strong_right c [] ts h.0 (strong_rights ts h.1)

pub strong_still : (us ts : List Class) → AllStill us → AllStill ts → Strong us ts
strong_still [] ts h k = strong_rights ts k
strong_still (c ∷ us) ts h k = strong_left c us ts h.0 (strong_still us ts h.1 k)

pub strong_then : {a x b y : List Class} → Strong a x → Strong b y → Strong (a ++ b) (x ++ y)
strong_then {a} {x} {b} {y} h k = record {
  back_u = λ f s. items_append f s a b ∙ k.back_u (fresh_after f a) (items_after f s a) ∙ h.back_u f s;
  back_t = λ f s. items_append f s x y ∙ k.back_t (fresh_after f x) (items_after f s x) ∙ h.back_t f s;
  low = λ d fu ft su st j. lower_then d fu ft su st a x b y (h.low d fu ft su st j) (k.low d (fresh_after fu a) (fresh_after ft x) (items_after fu su a) (items_after ft st x) (lengths d (h.back_u fu su) (h.back_t ft st) j));
}

pub over_strong : {us ts : List Class} → Strong us ts → Over us ts
over_strong h = record { begins = false; back_u = λ f s c. h.back_u f s; back_t = h.back_t; low = λ d fu ft su st c e j i. h.low d fu ft su st j }

pub over_then : {a x b y : List Class} → Over a x → Strong b y → Over (a ++ b) (x ++ y)
over_then {a} {x} {b} {y} h k = record {
  begins = h.begins;
  back_u = λ f s c. items_append f s a b ∙ k.back_u (fresh_after f a) (items_after f s a) ∙ h.back_u f s c;
  back_t = λ f s. items_append f s x y ∙ k.back_t (fresh_after f x) (items_after f s x) ∙ h.back_t f s;
  low = λ d fu ft su st c e j i. lower_then d fu ft su st a x b y (h.low d fu ft su st c e j i)
      (k.low d (fresh_after fu a) (fresh_after ft x) (items_after fu su a) (items_after ft st x) (lengths d (h.back_u fu su c) (h.back_t ft st) i));
}

pub landed_later : (b : Bool) (s : List Open) → landed b false s ≡ s
landed_later true s = refl
landed_later false s = refl

calm_word : (c : Class) (s : List Open) → Word c → Calm (begins_statement c) s
calm_word c s w = subst (λ z. Calm z s) (sym w.1) tt

landed_word : (k : Class) (b : Bool) (s : List Open) → Word k → landed b (begins_statement k) s ≡ s
landed_word k b s v = ap (λ z. landed b z s) v.1 ∙ landed_later b s

fresher_word : (c k : Class) → Word c → Word k → Fresher (begins_statement c) (begins_statement k)
fresher_word c k w v = subst (λ z. Fresher z (begins_statement k)) (sym w.1) (subst (λ z. Fresher false z) (sym v.1) tt)

-- a word before what may begin with `if`
pub word_over : (c k : Class) {us ts : List Class} → Word c → Word k → Over us ts → Strong (c ∷ us) (k ∷ ts)
word_over c k {us} {ts} w v h = record {
  back_u = λ f s. h.back_u (begins_statement c) (after f s c) (calm_word c (after f s c) w) ∙ w.0 f s;
  back_t = λ f s. h.back_t (begins_statement k) (after f s k) ∙ landed_word k h.begins (after f s k) v ∙ v.0 f s;
  low = λ d fu ft su st j n l. let i = lengths d (w.0 fu su) (v.0 ft st) j in (
    at_most d su st j l.0,
    h.low d (begins_statement c) (begins_statement k) (after fu su c) (after ft st k) (calm_word c (after fu su c) w) (fresher_word c k w v) i (lengths d refl (landed_word k h.begins (after ft st k) v) i) n l.1,
  );
}

calm_bracket : (g : Bool) (s : List Open) → Calm g (Bracket ∷ s)
calm_bracket true s = tt
calm_bracket false s = tt

landed_bracket : (b g : Bool) (s : List Open) → landed b g (Bracket ∷ s) ≡ Bracket ∷ s
landed_bracket true true s = refl
landed_bracket true false s = refl
landed_bracket false g s = refl

fresher_same : (g : Bool) → Fresher g g
fresher_same true = tt
fresher_same false = tt

-- through the closing bracket
pub inside_over : (g : Bool) (c : Class) {us ts : List Class} → Closing c → Over us ts → Inside g (us ++ (c ∷ [])) (ts ++ (c ∷ []))
inside_over g c {us} {ts} e h = record {
  back_u = λ s. items_append g (Bracket ∷ s) us (c ∷ []) ∙ e (fresh_after g us) (items_after g (Bracket ∷ s) us) ∙ ap closed (h.back_u g (Bracket ∷ s) (calm_bracket g s));
  back_t = λ s. items_append g (Bracket ∷ s) ts (c ∷ []) ∙ e (fresh_after g ts) (items_after g (Bracket ∷ s) ts) ∙ ap closed (left s);
  low = λ d su st j. let i = one_more d su st Bracket j in
      lower_then d g g (Bracket ∷ su) (Bracket ∷ st) us ts (c ∷ []) (c ∷ []) (h.low d g g (Bracket ∷ su) (Bracket ∷ st) (calm_bracket g su) (fresher_same g) i (lengths d {su = Bracket ∷ su} refl (landed_bracket h.begins g st) i))
      (λ n l. (
        at_most d (items_after g (Bracket ∷ su) us) (items_after g (Bracket ∷ st) ts) (lengths d (h.back_u g (Bracket ∷ su) (calm_bracket g su)) (left st) i) l.0,
        at_most d (after (fresh_after g us) (items_after g (Bracket ∷ su) us) c) (after (fresh_after g ts) (items_after g (Bracket ∷ st) ts) c)
            (lengths d (e (fresh_after g us) (items_after g (Bracket ∷ su) us) ∙ ap closed (h.back_u g (Bracket ∷ su) (calm_bracket g su))) (e (fresh_after g ts) (items_after g (Bracket ∷ st) ts) ∙ ap closed (left st)) j) l.1,
      ));
} where
  left : (s : List Open) → items_after g (Bracket ∷ s) ts ≡ Bracket ∷ s
  left s = h.back_t g (Bracket ∷ s) ∙ landed_bracket h.begins g s

pub round_inside : {us ts : List Class} → Inside false us ts → Strong (OpenRound ∷ us) (OpenRound ∷ ts)
round_inside h = record { back_u = λ f s. h.back_u s; back_t = λ f s. h.back_t s; low = λ d fu ft su st j n l. (at_most d su st j l.0, h.low d su st j n l.1) }

pub brace_inside : {us ts : List Class} → Inside true us ts → Strong (OpenBrace ∷ us) (OpenBrace ∷ ts)
brace_inside h = record { back_u = λ f s. h.back_u s; back_t = λ f s. h.back_t s; low = λ d fu ft su st j n l. (at_most d su st j l.0, h.low d su st j n l.1) }

closing_round : Closing CloseRound
closing_round f s = refl

fresher_inner : (fu : Bool) → Fresher fu false
fresher_inner true = tt
fresher_inner false = tt

-- brackets that the printed text leaves out
pub over_bare : {us ts : List Class} → Over us ts → Over us (OpenRound ∷ (ts ++ (CloseRound ∷ [])))
over_bare {us} {ts} h = record {
  begins = false;
  back_u = h.back_u;
  back_t = λ f s. (inside_over false CloseRound closing_round h).back_t s;
  low = λ d fu ft su st c e j i n l. let k : length su ≤ length (Bracket ∷ st) + d = omega (arith, j) in
      h.low d fu false su (Bracket ∷ st) c (fresher_inner fu) k (lengths d {su = su} refl (landed_bracket h.begins false st) k) n (below_front n false (Bracket ∷ st) ts (CloseRound ∷ []) l.1);
}

-- conditional expressions
pub ender_endif : Ender (EndifWord ∷ []) (EndifWord ∷ [])
ender_endif = record { back_u = λ f s. refl; back_t = λ f s. refl; low = λ d fu ft su st j k n l. (at_most d su st j l.0, at_most d (ended su) (ended st) k l.1) }

pub ender_then : {a x b y : List Class} → Strong a x → Ender b y → Ender (a ++ b) (x ++ y)
ender_then {a} {x} {b} {y} h k = record {
  back_u = λ f s. items_append f s a b ∙ k.back_u (fresh_after f a) (items_after f s a) ∙ ap ended (h.back_u f s);
  back_t = λ f s. items_append f s x y ∙ k.back_t (fresh_after f x) (items_after f s x) ∙ ap ended (h.back_t f s);
  low = λ d fu ft su st j i. lower_then d fu ft su st a x b y (h.low d fu ft su st j) (k.low d (fresh_after fu a) (fresh_after ft x) (items_after fu su a) (items_after ft st x)
      (lengths d (h.back_u fu su) (h.back_t ft st) j) (lengths d (ap ended (h.back_u fu su)) (ap ended (h.back_t ft st)) i));
}

pub if_back : (f : Bool) (s : List Open) → Calm f s → ended (after f s IfWord) ≡ s
if_back false s c = refl
if_back true [] c = refl
if_back true (Bracket ∷ s) c = refl
if_back true (Conditional ∷ s) c = absurd c

pub if_length : (d : ℕ) (fu ft : Bool) (su st : List Open) → Fresher fu ft → length su ≤ length st + d → length (after fu su IfWord) ≤ length (after ft st IfWord) + d
if_length d true true su st e j = j
if_length d true false su st e j = omega (arith, j)
if_length d false false su st e j = omega (arith, j)
if_length d false true su st e j = absurd e

pub if_over : {a x b y : List Class} → Over a x → Ender b y → Over (IfWord ∷ (a ++ b)) (IfWord ∷ (x ++ y))
if_over {a} {x} {b} {y} h k = record {
  begins = true;
  back_u = λ f s c. items_append false (after f s IfWord) a b ∙ k.back_u (fresh_after false a) (items_after false (after f s IfWord) a) ∙ ap ended (h.back_u false (after f s IfWord) tt) ∙ if_back f s c;
  back_t = λ f s. items_append false (after f s IfWord) x y ∙ k.back_t (fresh_after false x) (items_after false (after f s IfWord) x) ∙ ap ended (left (after f s IfWord));
  low = λ d fu ft su st c e j i n l. let m = if_length d fu ft su st e j in
      let bu = h.back_u false (after fu su IfWord) tt in
      let bt = left (after ft st IfWord) in (
        at_most d su st j l.0,
        lower_then d false false (after fu su IfWord) (after ft st IfWord) a x b y (h.low d false false (after fu su IfWord) (after ft st IfWord) tt tt m (lengths d refl (landed_later h.begins (after ft st IfWord)) m))
            (k.low d (fresh_after false a) (fresh_after false x) (items_after false (after fu su IfWord) a) (items_after false (after ft st IfWord) x) (lengths d bu bt m)
            (lengths d {vt = ended (items_after false (after ft st IfWord) x)} (ap ended bu ∙ if_back fu su c) (ap ended bt) i)) n l.1,
      );
} where
  left : (s : List Open) → items_after false s x ≡ s
  left s = h.back_t false s ∙ landed_later h.begins s
