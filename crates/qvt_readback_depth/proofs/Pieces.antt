-- The classes of pieces and of tokens, and how both open and close items.
use Rattle.std.proofs.Common.{IsTrue, ◌≡◌, List, [], ◌∷◌, ◌++◌, Bool, true, false, ◌&&◌, refl, sym, ap, ◌∙◌, subst, append_assoc}
use Rattle.qvt_language.specs.Tokens.{Tok}
use Rattle.qvt_language.specs.declared.class.Class.{Class}
use Rattle.qvt_language.specs.declared.class.Class.TheVariants as class
use Rattle.qvt_language.specs.declared.class.Class.TheVariants.{OpenRound, CloseRound, OpenBrace, CloseBrace, Semicolon, IfWord, EndifWord}
use Rattle.qvt_printer_layout.specs.declared.piece.PrintPiece.{PrintPiece}
use Rattle.qvt_printer_layout.specs.declared.piece.PrintPiece.TheVariants.{Plain, Name, Integer, Quoted, Tight, Line, Indent, Dedent}
use Rattle.qvt_printer.specs.Expressions.{in_round, in_block, in_items, round_if}
use Rattle.qvt_readback_depth.proofs.Runs.{Still, AllStill, Word, Strong, Over, Inside, Ender, strong_then, strong_still, over_then, word_over, inside_over, round_inside, brace_inside, over_bare, over_strong, ender_then, ender_endif, if_over, all_still_append}
use Rattle.qvt_readback_depth.proofs.Turns.{Turns, Ends, turns_over, turns_then, turns_inside, ends_append}

abbrev pub piece_class : PrintPiece → List Class
piece_class (Plain c) = c ∷ []
piece_class (Name n) = class.Name ∷ []
piece_class (Integer v) = class.Integer ∷ []
piece_class (Quoted t) = class.Str ∷ []
piece_class Tight = []
piece_class Line = []
piece_class Indent = []
piece_class Dedent = []

abbrev pub pc : List PrintPiece → List Class
pc [] = []
pc (p ∷ ps) = piece_class p ++ pc ps

abbrev pub tc : List Tok → List Class
tc [] = []
tc (t ∷ ts) = t.class ∷ tc ts

pub pc_append : (a b : List PrintPiece) → pc (a ++ b) ≡ pc a ++ pc b
pc_append [] b = refl
pc_append (p ∷ a) b = ap (λ z. piece_class p ++ z) (pc_append a b) ∙ sym (append_assoc (piece_class p) (pc a) (pc b))

pub tc_append : (a b : List Tok) → tc (a ++ b) ≡ tc a ++ tc b
tc_append [] b = refl
tc_append (t ∷ a) b = ap (λ z. t.class ∷ z) (tc_append a b)

pub tc_one : {c : Class} (u v : List Tok) → tc u ≡ c ∷ [] → tc (u ++ v) ≡ c ∷ tc v
tc_one u v e = tc_append u v ∙ ap (λ z. z ++ tc v) e

pub tc_last : {c : Class} (v w : List Tok) → tc w ≡ c ∷ [] → tc (v ++ w) ≡ tc v ++ (c ∷ [])
tc_last v w e = tc_append v w ∙ ap (λ z. tc v ++ z) e

pub moved : (P : List Class → List Class → Type 0) (a b : List PrintPiece) (x y : List Tok) → P (pc a ++ pc b) (tc x ++ tc y) → P (pc (a ++ b)) (tc (x ++ y))
moved P a b x y h = subst (λ z. P z (tc (x ++ y))) (sym (pc_append a b)) (subst (P (pc a ++ pc b)) (sym (tc_append x y)) h)

-- tokens that are the one list and then the other, or three lists, and one token of the class
pub record Cut (ts u v : List Tok) : Type 0 where
  pub is : ts ≡ u ++ v

pub record Cuts (ts u v w : List Tok) : Type 0 where
  pub is : ts ≡ u ++ (v ++ w)

pub record IsTok (c : Class) (ts : List Tok) : Type 0 where
  pub is : tc ts ≡ c ∷ []

pub same : {u v : List Tok} → Cut (u ++ v) u v
same = record { is = refl }

pub all_same : {u v w : List Tok} → Cuts (u ++ (v ++ w)) u v w
all_same = record { is = refl }

pub peel : {ts u v x y : List Tok} → Cut ts u v → Cut v x y → Cut ts (u ++ x) y
peel {u = u} {x = x} {y = y} e g = record { is = e.is ∙ ap (λ z. u ++ z) g.is ∙ sym (append_assoc u x y) }

pub both_cuts : {ts u r v w : List Tok} → Cut ts u r → Cut r v w → Cuts ts u v w
both_cuts {u = u} e g = record { is = e.is ∙ ap (λ z. u ++ z) g.is }

pub first_two : {ts u v w : List Tok} → Cuts ts u v w → Cut ts (u ++ v) w
first_two {u = u} {v = v} {w = w} e = record { is = e.is ∙ sym (append_assoc u v w) }

pub last_two : {ts u v w : List Tok} → Cuts ts u v w → Cut ts u (v ++ w)
last_two e = record { is = e.is }

-- what is printed and what is read, by the ways that they open and close items
pub record PStrong (ps : List PrintPiece) (ts : List Tok) : Type 0 where
  pub is : Strong (pc ps) (tc ts)

pub record POver (ps : List PrintPiece) (ts : List Tok) : Type 0 where
  pub is : Over (pc ps) (tc ts)

pub record PEnder (ps : List PrintPiece) (ts : List Tok) : Type 0 where
  pub is : Ender (pc ps) (tc ts)

pub record PTurns (ps : List PrintPiece) (ts : List Tok) : Type 0 where
  pub is : Turns (pc ps) (tc ts)

-- the one, and then the other
module _ {a b : List PrintPiece} {ts u v : List Tok} (e : Cut ts u v) where
  pub strong_at : PStrong a u → PStrong b v → PStrong (a ++ b) ts
  strong_at h k = record { is = subst (λ z. Strong (pc (a ++ b)) (tc z)) (sym e.is) (moved Strong a b u v (strong_then h.is k.is)) }

  pub over_at : POver a u → PStrong b v → POver (a ++ b) ts
  over_at h k = record { is = subst (λ z. Over (pc (a ++ b)) (tc z)) (sym e.is) (moved Over a b u v (over_then h.is k.is)) }

  pub ender_at : PStrong a u → PEnder b v → PEnder (a ++ b) ts
  ender_at h k = record { is = subst (λ z. Ender (pc (a ++ b)) (tc z)) (sym e.is) (moved Ender a b u v (ender_then h.is k.is)) }

  pub turns_at : PTurns a u → PTurns b v → PTurns (a ++ b) ts
  turns_at h k = record { is = subst (λ z. Turns (pc (a ++ b)) (tc z)) (sym e.is) (moved Turns a b u v (turns_then h.is k.is)) }

pub as_over : {ps : List PrintPiece} {ts : List Tok} → PStrong ps ts → POver ps ts
as_over h = record { is = over_strong h.is }

pub ends_more : (a b : List PrintPiece) → Ends (pc b) → Ends (pc (a ++ b))
ends_more a b h = subst Ends (sym (pc_append a b)) (ends_append (pc a) (pc b) h)

pub as_turns : {ps : List PrintPiece} {ts : List Tok} → POver ps ts → Ends (pc ps) → PTurns ps ts
as_turns h e = record { is = turns_over h.is e }

-- what opens and closes nothing, and after which besides an `if` begins no statement
abbrev pub is_still : Class → Bool
is_still OpenRound = false
is_still CloseRound = false
is_still OpenBrace = false
is_still CloseBrace = false
is_still IfWord = false
is_still EndifWord = false
is_still _ = true

abbrev pub is_word : Class → Bool
is_word Semicolon = false
is_word c = is_still c

pub still : (c : Class) → IsTrue (is_still c) → Still c
still OpenRound h = absurd cc
still CloseRound h = absurd cc
still OpenBrace h = absurd cc
still CloseBrace h = absurd cc
still IfWord h = absurd cc
still EndifWord h = absurd cc
still _ h = λ f s. refl

word : (c : Class) → IsTrue (is_word c) → Word c
word OpenRound h = absurd cc
word CloseRound h = absurd cc
word OpenBrace h = absurd cc
word CloseBrace h = absurd cc
word IfWord h = absurd cc
word EndifWord h = absurd cc
word Semicolon h = absurd cc
word _ h = ((λ f s. refl), refl)

abbrev pub are_still : List Class → Bool
are_still [] = true
are_still (c ∷ cs) = is_still c && are_still cs

and_left : (x y : Bool) → IsTrue (x && y) → IsTrue x
and_left true y h = refl
and_left false y h = h

and_right : (x y : Bool) → IsTrue (x && y) → IsTrue y
and_right true y h = h
and_right false y h = absurd cc

all_still : (cs : List Class) → IsTrue (are_still cs) → AllStill cs
all_still [] h = tt
all_still (c ∷ cs) h = (still c (and_left (is_still c) (are_still cs) h), all_still cs (and_right (is_still c) (are_still cs) h))

-- tokens that open and close nothing, and one that is a word
pub record Quiet (ts : List Tok) : Type 0 where
  pub is : AllStill (tc ts)

pub record WordTok (ts : List Tok) : Type 0 where
  pub class : Class
  pub word : IsTrue (is_word class)
  pub is : tc ts ≡ class ∷ []

pub quiet_nil : Quiet []
quiet_nil = record { is = tt }

pub quiet_none : {ts : List Tok} → ts ≡ [] → Quiet ts
quiet_none e = subst Quiet (sym e) quiet_nil

pub quiet_tok : {c : Class} {ts : List Tok} → IsTrue (is_still c) → IsTok c ts → Quiet ts
quiet_tok {c} h e = record { is = subst AllStill (sym e.is) (still c h, tt) }

pub quiet_at : {ts u v : List Tok} → Cut ts u v → Quiet u → Quiet v → Quiet ts
quiet_at {ts} {u} {v} e h k = subst Quiet (sym e.is) (record { is = subst AllStill (sym (tc_append u v)) (all_still_append (tc u) (tc v) h.is k.is) })

pub word_still : (c : Class) → IsTrue (is_word c) → IsTrue (is_still c)
word_still Semicolon h = refl
word_still OpenRound h = h
word_still CloseRound h = h
word_still OpenBrace h = h
word_still CloseBrace h = h
word_still IfWord h = h
word_still EndifWord h = h
word_still _ h = h

pub quiet_word : {ts : List Tok} → WordTok ts → Quiet ts
quiet_word h = quiet_tok {c = h.class} (word_still h.class h.word) (record { is = h.is })

pub word_tok : {c : Class} {ts : List Tok} → IsTrue (is_word c) → IsTok c ts → WordTok ts
word_tok {c} h e = record { class = c; word = h; is = e.is }

-- pieces that open and close nothing, for such tokens
pub quiet_of : (ps : List PrintPiece) {ts : List Tok} → AllStill (pc ps) → Quiet ts → PStrong ps ts
quiet_of ps {ts} h k = record { is = strong_still (pc ps) (tc ts) h k.is }

pub pieces_of : (ps : List PrintPiece) {ts : List Tok} → IsTrue (are_still (pc ps)) → Quiet ts → PStrong ps ts
pieces_of ps h k = quiet_of ps (all_still (pc ps) h) k

pub none_of : {ts : List Tok} → Quiet ts → PStrong [] ts
none_of k = quiet_of [] tt k

pub no_pieces : {ts : List Tok} → ts ≡ [] → PStrong [] ts
no_pieces e = none_of (quiet_none e)

-- a token that is printed, or is not, before the rest
module _ {ps : List PrintPiece} {ts u v : List Tok} {c : Class} (h : IsTrue (is_still c)) (e : Cut ts u v) (x : IsTok c u) where
  pub keep : PStrong ps v → PStrong (Plain c ∷ ps) ts
  keep k = strong_at {a = Plain c ∷ []} e (quiet_of (Plain c ∷ []) (still c h, tt) (quiet_tok h x)) k

  pub skip : PStrong ps v → PStrong ps ts
  skip k = strong_at {a = []} e (none_of (quiet_tok h x)) k

-- a word, and what may begin with `if`
pub word_at : (c : Class) → IsTrue (is_word c) → {ps : List PrintPiece} {ts u v : List Tok} → Cut ts u v → WordTok u → POver ps v → PStrong (Plain c ∷ ps) ts
word_at c w {ps} {ts} {u} {v} e x h = record { is = subst (Strong (c ∷ pc ps)) (sym (ap tc e.is ∙ tc_one u v x.is)) (word_over c x.class (word c w) (word x.class x.word) h.is) }

pub word_on : {c : Class} → IsTrue (is_word c) → {ps : List PrintPiece} {ts u v : List Tok} → Cut ts u v → IsTok c u → POver ps v → PStrong (Plain c ∷ ps) ts
word_on {c} w e x h = word_at c w e (word_tok w x) h

-- through the closing bracket
between_toks : {c d : Class} {ts u v w : List Tok} → Cuts ts u v w → IsTok c u → IsTok d w → tc ts ≡ c ∷ (tc v ++ (d ∷ []))
between_toks {c} {d} {ts} {u} {v} {w} e x z = ap tc e.is ∙ tc_one u (v ++ w) x.is ∙ ap (λ q. c ∷ q) (tc_append v w ∙ ap (λ q. tc v ++ q) z.is)

pub in_brackets : {ps : List PrintPiece} {ts u v w : List Tok} → Cuts ts u v w → IsTok class.OpenRound u → POver ps v → IsTok class.CloseRound w → PStrong (in_round ps) ts
in_brackets {ps} {v = v} e x h z = record {
  is = subst (λ q. Strong (pc (in_round ps)) q) (sym (between_toks e x z))
      (subst (λ q. Strong (class.OpenRound ∷ q) (class.OpenRound ∷ (tc v ++ (class.CloseRound ∷ [])))) (sym (pc_append ps (Plain class.CloseRound ∷ []))) (round_inside (inside_over false class.CloseRound (λ f s. refl) h.is)));
}

-- brackets that are not printed
pub without_brackets : {ps : List PrintPiece} {ts u v w : List Tok} → Cuts ts u v w → IsTok class.OpenRound u → POver ps v → IsTok class.CloseRound w → POver ps ts
without_brackets {ps} e x h z = record { is = subst (Over (pc ps)) (sym (between_toks e x z)) (over_bare h.is) }

braces : (ps qs : List PrintPiece) {ts u v w : List Tok} → Cuts ts u v w → pc qs ≡ class.CloseBrace ∷ [] → IsTok class.OpenBrace u → Inside true (pc ps ++ (class.CloseBrace ∷ [])) (tc v ++ (class.CloseBrace ∷ [])) → IsTok class.CloseBrace w → Strong (class.OpenBrace ∷ pc (ps ++ qs)) (tc ts)
braces ps qs {v = v} e k x h z = subst (Strong (class.OpenBrace ∷ pc (ps ++ qs))) (sym (between_toks e x z))
    (subst (λ q. Strong (class.OpenBrace ∷ q) (class.OpenBrace ∷ (tc v ++ (class.CloseBrace ∷ [])))) (sym (pc_append ps qs ∙ ap (λ q. pc ps ++ q) k)) (brace_inside h))

module _ {ps : List PrintPiece} {ts u v w : List Tok} (e : Cuts ts u v w) (x : IsTok class.OpenBrace u) where
  pub in_braces : POver ps v → IsTok class.CloseBrace w → PStrong (Plain class.OpenBrace ∷ (ps ++ (Plain class.CloseBrace ∷ []))) ts
  in_braces h z = record { is = braces ps (Plain class.CloseBrace ∷ []) e refl x (inside_over true class.CloseBrace (λ f s. refl) h.is) z }

  pub in_item_braces : POver ps v → IsTok class.CloseBrace w → PStrong (in_items ps) ts
  in_item_braces h z = record { is = braces ps (Tight ∷ Plain class.CloseBrace ∷ []) e refl x (inside_over true class.CloseBrace (λ f s. refl) h.is) z }

  pub in_blocks : POver ps v → IsTok class.CloseBrace w → PStrong (in_block ps) ts
  in_blocks h z = record { is = braces ps (Dedent ∷ Line ∷ Plain class.CloseBrace ∷ []) e refl x (inside_over true class.CloseBrace (λ f s. refl) h.is) z }

  pub in_turns : PTurns ps v → IsTok class.CloseBrace w → PStrong (in_block ps) ts
  in_turns h z = record { is = braces ps (Dedent ∷ Line ∷ Plain class.CloseBrace ∷ []) e refl x (turns_inside h.is) z }

pub ends_block : (ps : List PrintPiece) → Ends (pc (in_block ps))
ends_block ps f = ends_more ps (Dedent ∷ Line ∷ Plain class.CloseBrace ∷ []) (λ g. refl) true

-- a conditional
pub if_whole : {a b : List PrintPiece} {ts u x y : List Tok} → Cuts ts u x y → IsTok class.IfWord u → POver a x → PEnder b y → POver (Plain class.IfWord ∷ (a ++ b)) ts
if_whole {a} {b} {ts} {u} {x} {y} g e h k = record { is = subst (Over (class.IfWord ∷ pc (a ++ b))) (sym (ap tc g.is ∙ tc_one u (x ++ y) e.is)) (moved (λ us ws. Over (class.IfWord ∷ us) (class.IfWord ∷ ws)) a b x y (if_over h.is k.is)) }

pub ender_last : {ts : List Tok} → IsTok class.EndifWord ts → PEnder (Plain class.EndifWord ∷ []) ts
ender_last e = record { is = subst (Ender (class.EndifWord ∷ [])) (sym e.is) ender_endif }

-- brackets where they have to be
pub round_is : (b : Bool) {ps : List PrintPiece} {ts : List Tok} → (IsTrue b → POver (in_round ps) ts) → POver ps ts → POver (round_if b ps) ts
round_is true h k = h refl
round_is false h k = k
