-- Which tokens may meet without a blank between them: the first ends before the first character of the second.
use Rattle.std.proofs.Common.{◌≡◌, ℕ, ◌<◌, List, [], ◌∷◌, Bool, true, false, ◌||◌, ◌&&◌, ◌==◌, not, refl, ap, ◌∙◌, arith}
use Rattle.std.proofs.lemmas.Bool.Decides.{nat_tests}
use Rattle.std.specs.Char.{is_ascii_alphanumeric}
use Rattle.unicode_ident.proofs.IdentLemmas.{is_xid_continue-ascii}
use Rattle.qvt_lexer.specs.Characters.{is_start, is_continue, is_digit}
use Rattle.qvt_words.specs.Words.{is_single_sign, is_double_sign, spelling}
use Rattle.qvt_lexer.proofs.Sorts.{AtStart, AtMark, same_sort}
use Rattle.qvt_language.specs.declared.class.Class.{Class}
use Rattle.qvt_language.specs.declared.class.Class.TheVariants as class
use Rattle.qvt_printer_layout.specs.Layout.{is_joined, is_tight_before, is_open_round}
use Rattle.qvt_readback_tokens.proofs.Tests.{never_true, is_number}
use Rattle.qvt_readback_tokens.proofs.Scans.{sign_ends}
use Rattle.qvt_readback_tokens.proofs.Spelt.{Kind, Named, Number, Text, Reserved, One, Two, kind_of, is_letter}

-- what a token leaves: after `.`, `:` and `-` some signs may not follow, after a brace a tight token may
pub data Gap : Type 0 where
  Free : Gap
  Held : Gap
  Tied : Gap
  Opened : Gap

abbrev pub after : Class → Gap
after class.Colon = Held
after class.Dot = Held
after class.MinusSign = Held
after class.OpenBrace = Opened
after c = Free

abbrev pub is_follower : Class → Bool
is_follower class.Dot = true
is_follower class.DotDot = true
is_follower class.Arrow = true
is_follower class.DoubleColon = true
is_follower c = false

abbrev pub is_brace : Class → Bool
is_brace class.OpenBrace = true
is_brace class.CloseBrace = true
is_brace c = false

abbrev pub fits : Gap → Class → Bool
fits Free c = true
fits Opened c = true
fits Held c = not (is_follower c)
fits Tied c = is_brace c

abbrev pub tightly : Gap → Gap
tightly Opened = Free
tightly s = Tied

-- a name or a word ends before this character
abbrev pub word_ends : ℕ → Bool
word_ends d = not (is_continue d || (d == 39))

abbrev pub ends_by : Kind → List ℕ → ℕ → Bool
ends_by Named u d = word_ends d
ends_by Number u d = not (is_digit d)
ends_by Text u d = true
ends_by Reserved u d = word_ends d
ends_by One u d = sign_ends u d
ends_by Two u d = true

-- a token of the class ends before this character
abbrev pub ends : Class → ℕ → Bool
ends c d = ends_by (kind_of c) (spelling c) d

abbrev pub first_of : List ℕ → ℕ → Type 0
first_of [] d = ⊥
first_of (c ∷ cs) d = d ≡ c

abbrev pub FirstBy : Kind → List ℕ → ℕ → Type 0
FirstBy Named u d = is_start d ≡ true
FirstBy Number u d = is_digit d ≡ true
FirstBy Text u d = d ≡ 39
FirstBy Reserved u d = is_letter d ≡ true
FirstBy One u d = first_of u d
FirstBy Two u d = first_of u d

-- a token of the class may begin with this character
abbrev pub First : Class → ℕ → Type 0
First c d = FirstBy (kind_of c) (spelling c) d

-- ASCII characters that continue no name
no_continue : (d : ℕ) → d < 128 → (is_ascii_alphanumeric d || (d == 95)) ≡ false → (d == 39) ≡ false → word_ends d ≡ true
no_continue d low other quote = (λ i. not (is_xid_continue-ascii d low i || quote i)) ∙ ap (λ b. not (b || false)) other

abbrev pub is_fit : ℕ → Bool
is_fit d = (d == 40) || (d == 41) || (d == 44) || (d == 59) || (d == 46) || (d == 45) || (d == 58) || (d == 64)

abbrev pub is_held_fit : ℕ → Bool
is_held_fit d = (d == 40) || (d == 41) || (d == 44) || (d == 59) || (d == 64)

fit_word : (d : ℕ) → is_fit d ≡ true → word_ends d ≡ true
fit_word d h = no_continue d (grind (arith, nat_tests)) (grind (arith, nat_tests)) (grind (arith, nat_tests))

fit_digit : (d : ℕ) → is_fit d ≡ true → not (is_digit d) ≡ true
fit_digit d h = grind (arith, nat_tests)

fit_equal : (d : ℕ) → is_fit d ≡ true → sign_ends (61 ∷ []) d ≡ true
unfolding is_double_sign
fit_equal d h = grind (arith, nat_tests)

fit_less : (d : ℕ) → is_fit d ≡ true → sign_ends (60 ∷ []) d ≡ true
unfolding is_double_sign
fit_less d h = grind (arith, nat_tests)

fit_greater : (d : ℕ) → is_fit d ≡ true → sign_ends (62 ∷ []) d ≡ true
unfolding is_double_sign
fit_greater d h = grind (arith, nat_tests)

fit_plus : (d : ℕ) → is_fit d ≡ true → sign_ends (43 ∷ []) d ≡ true
unfolding is_double_sign
fit_plus d h = grind (arith, nat_tests)

fit_colon : (d : ℕ) → is_held_fit d ≡ true → sign_ends (58 ∷ []) d ≡ true
unfolding is_double_sign
fit_colon d h = grind (arith, nat_tests)

fit_minus : (d : ℕ) → is_held_fit d ≡ true → sign_ends (45 ∷ []) d ≡ true
unfolding is_double_sign
fit_minus d h = grind (arith, nat_tests)

not_dot : (d : ℕ) → (d == 46) ≡ false → sign_ends (46 ∷ []) d ≡ true
unfolding is_double_sign
not_dot d h = grind (arith, nat_tests)

-- the signs that stand without a blank before them begin so
tight_first : (c : Class) (d : ℕ) → (is_tight_before c || is_open_round c) ≡ true → First c d → is_fit d ≡ true
tight_first class.DoubleColon d h k = ap is_fit k
tight_first class.Arrow d h k = ap is_fit k
tight_first class.Dot d h k = ap is_fit k
tight_first class.DotDot d h k = ap is_fit k
tight_first class.AtSign d h k = ap is_fit k
tight_first class.Semicolon d h k = ap is_fit k
tight_first class.Comma d h k = ap is_fit k
tight_first class.OpenRound d h k = ap is_fit k
tight_first class.CloseRound d h k = ap is_fit k
tight_first c d h k = absurd cc

held_first : (c : Class) (d : ℕ) → not (is_follower c) ≡ true → (is_tight_before c || is_open_round c) ≡ true → First c d → is_held_fit d ≡ true
held_first class.CloseRound d f h k = ap is_held_fit k
held_first class.Comma d f h k = ap is_held_fit k
held_first class.Semicolon d f h k = ap is_held_fit k
held_first class.AtSign d f h k = ap is_held_fit k
held_first class.OpenRound d f h k = ap is_held_fit k
held_first class.Dot d f h k = absurd cc
held_first class.Arrow d f h k = absurd cc
held_first class.DoubleColon d f h k = absurd cc
held_first class.DotDot d f h k = absurd cc
held_first c d f h k = absurd cc

-- what follows a `.` begins with no `.`
letter_dot : (d : ℕ) → is_letter d ≡ true → (d == 46) ≡ false
letter_dot d h = grind (arith, nat_tests)

digit_dot : (d : ℕ) → is_digit d ≡ true → (d == 46) ≡ false
digit_dot d h = grind (arith, nat_tests)

start_dot : (d : ℕ) → is_start d ≡ true → (d == 46) ≡ false
unfolding is_single_sign
start_dot d h = never_true (d == 46) (λ e. let k : d ≡ 46 = is_number d 46 e in let z = same_sort AtStart AtMark d h (ap (λ x. is_single_sign x || (x == 33) || (x == 47)) k) in cc)

dot_first : (c : Class) (d : ℕ) → not (is_follower c) ≡ true → First c d → (d == 46) ≡ false
dot_first class.Name d f k = start_dot d k
dot_first class.Integer d f k = digit_dot d k
dot_first class.Str d f k = ap (λ z. z == 46) k
dot_first class.OpenRound d f k = ap (λ z. z == 46) k
dot_first class.CloseRound d f k = ap (λ z. z == 46) k
dot_first class.OpenBrace d f k = ap (λ z. z == 46) k
dot_first class.CloseBrace d f k = ap (λ z. z == 46) k
dot_first class.Comma d f k = ap (λ z. z == 46) k
dot_first class.Semicolon d f k = ap (λ z. z == 46) k
dot_first class.Colon d f k = ap (λ z. z == 46) k
dot_first class.DoubleColon d f k = ap (λ z. z == 46) k
dot_first class.Dot d f k = absurd cc
dot_first class.DotDot d f k = absurd cc
dot_first class.Arrow d f k = ap (λ z. z == 46) k
dot_first class.Bar d f k = ap (λ z. z == 46) k
dot_first class.AtSign d f k = ap (λ z. z == 46) k
dot_first class.EqualSign d f k = ap (λ z. z == 46) k
dot_first class.DoubleEqual d f k = ap (λ z. z == 46) k
dot_first class.Diamond d f k = ap (λ z. z == 46) k
dot_first class.BangEqual d f k = ap (λ z. z == 46) k
dot_first class.LessSign d f k = ap (λ z. z == 46) k
dot_first class.AtMost d f k = ap (λ z. z == 46) k
dot_first class.GreaterSign d f k = ap (λ z. z == 46) k
dot_first class.AtLeast d f k = ap (λ z. z == 46) k
dot_first class.PlusSign d f k = ap (λ z. z == 46) k
dot_first class.MinusSign d f k = ap (λ z. z == 46) k
dot_first class.Star d f k = ap (λ z. z == 46) k
dot_first class.Becomes d f k = ap (λ z. z == 46) k
dot_first class.PlusEqual d f k = ap (λ z. z == 46) k
dot_first c d f k = letter_dot d k

either_tight : (x y t : Bool) → (x || (t && y)) ≡ true → (x || y) ≡ true
either_tight true y t h = refl
either_tight false y true h = h
either_tight false y false h = absurd cc

-- tokens side by side without a blank
pub joined_ends : (a c : Class) (d : ℕ) → fits (after a) c ≡ true → is_joined a c ≡ true → First c d → ends a d ≡ true
unfolding is_double_sign
joined_ends class.Integer c d f h k = fit_digit d (tight_first c d (either_tight (is_tight_before c) (is_open_round c) false h) k)
joined_ends class.Str c d f h k = refl
joined_ends class.Colon c d f h k = fit_colon d (held_first c d f (either_tight (is_tight_before c) (is_open_round c) false h) k)
joined_ends class.Dot c d f h k = not_dot d (dot_first c d f k)
joined_ends class.MinusSign c d f h k = fit_minus d (held_first c d f (either_tight (is_tight_before c) (is_open_round c) false h) k)
joined_ends class.EqualSign c d f h k = fit_equal d (tight_first c d (either_tight (is_tight_before c) (is_open_round c) false h) k)
joined_ends class.LessSign c d f h k = fit_less d (tight_first c d (either_tight (is_tight_before c) (is_open_round c) false h) k)
joined_ends class.GreaterSign c d f h k = fit_greater d (tight_first c d (either_tight (is_tight_before c) (is_open_round c) false h) k)
joined_ends class.PlusSign c d f h k = fit_plus d (tight_first c d (either_tight (is_tight_before c) (is_open_round c) false h) k)
joined_ends class.OpenRound c d f h k = refl
joined_ends class.CloseRound c d f h k = refl
joined_ends class.OpenBrace c d f h k = refl
joined_ends class.CloseBrace c d f h k = refl
joined_ends class.Comma c d f h k = refl
joined_ends class.Semicolon c d f h k = refl
joined_ends class.DoubleColon c d f h k = refl
joined_ends class.DotDot c d f h k = refl
joined_ends class.Arrow c d f h k = refl
joined_ends class.Bar c d f h k = refl
joined_ends class.AtSign c d f h k = refl
joined_ends class.DoubleEqual c d f h k = refl
joined_ends class.Diamond c d f h k = refl
joined_ends class.BangEqual c d f h k = refl
joined_ends class.AtMost c d f h k = refl
joined_ends class.AtLeast c d f h k = refl
joined_ends class.Star c d f h k = refl
joined_ends class.Becomes c d f h k = refl
joined_ends class.PlusEqual c d f h k = refl
joined_ends class.Name c d f h k = fit_word d (tight_first c d (either_tight (is_tight_before c) (is_open_round c) true h) k)
joined_ends class.MainWord c d f h k = fit_word d (tight_first c d (either_tight (is_tight_before c) (is_open_round c) true h) k)
joined_ends class.ForEachWord c d f h k = fit_word d (tight_first c d (either_tight (is_tight_before c) (is_open_round c) true h) k)
joined_ends class.SetWord c d f h k = fit_word d (tight_first c d (either_tight (is_tight_before c) (is_open_round c) true h) k)
joined_ends class.BagWord c d f h k = fit_word d (tight_first c d (either_tight (is_tight_before c) (is_open_round c) true h) k)
joined_ends class.SequenceWord c d f h k = fit_word d (tight_first c d (either_tight (is_tight_before c) (is_open_round c) true h) k)
joined_ends class.OrderedSetWord c d f h k = fit_word d (tight_first c d (either_tight (is_tight_before c) (is_open_round c) true h) k)
joined_ends class.ResolveAllWord c d f h k = fit_word d (tight_first c d (either_tight (is_tight_before c) (is_open_round c) true h) k)
joined_ends class.ResolveOneWord c d f h k = fit_word d (tight_first c d (either_tight (is_tight_before c) (is_open_round c) true h) k)
joined_ends class.InvResolveWord c d f h k = fit_word d (tight_first c d (either_tight (is_tight_before c) (is_open_round c) true h) k)
joined_ends class.InvResolveOneWord c d f h k = fit_word d (tight_first c d (either_tight (is_tight_before c) (is_open_round c) true h) k)
joined_ends class.ResolveInWord c d f h k = fit_word d (tight_first c d (either_tight (is_tight_before c) (is_open_round c) true h) k)
joined_ends class.ResolveOneInWord c d f h k = fit_word d (tight_first c d (either_tight (is_tight_before c) (is_open_round c) true h) k)
joined_ends class.InvResolveInWord c d f h k = fit_word d (tight_first c d (either_tight (is_tight_before c) (is_open_round c) true h) k)
joined_ends class.InvResolveOneInWord c d f h k = fit_word d (tight_first c d (either_tight (is_tight_before c) (is_open_round c) true h) k)
joined_ends a c d f h k = fit_word d (tight_first c d (either_tight (is_tight_before c) (is_open_round c) false h) k)

-- before a blank, a line and a brace all tokens end
abbrev pub is_apart : ℕ → Bool
is_apart d = (d == 32) || (d == 10) || (d == 123) || (d == 125)

apart_word : (d : ℕ) → is_apart d ≡ true → word_ends d ≡ true
apart_word d h = no_continue d (grind (arith, nat_tests)) (grind (arith, nat_tests)) (grind (arith, nat_tests))

pub apart_ends : (a : Class) (d : ℕ) → is_apart d ≡ true → ends a d ≡ true
unfolding is_double_sign
apart_ends class.Integer d h = grind (arith, nat_tests)
apart_ends class.Str d h = refl
apart_ends class.OpenRound d h = refl
apart_ends class.CloseRound d h = refl
apart_ends class.OpenBrace d h = refl
apart_ends class.CloseBrace d h = refl
apart_ends class.Comma d h = refl
apart_ends class.Semicolon d h = refl
apart_ends class.Colon d h = apart_colon d h where
  apart_colon : (d : ℕ) → is_apart d ≡ true → sign_ends (58 ∷ []) d ≡ true
  apart_colon d h = grind (arith, nat_tests)
apart_ends class.DoubleColon d h = refl
apart_ends class.Dot d h = apart_dot d h where
  apart_dot : (d : ℕ) → is_apart d ≡ true → sign_ends (46 ∷ []) d ≡ true
  apart_dot d h = grind (arith, nat_tests)
apart_ends class.DotDot d h = refl
apart_ends class.Arrow d h = refl
apart_ends class.Bar d h = refl
apart_ends class.AtSign d h = refl
apart_ends class.EqualSign d h = apart_equalsign d h where
  apart_equalsign : (d : ℕ) → is_apart d ≡ true → sign_ends (61 ∷ []) d ≡ true
  apart_equalsign d h = grind (arith, nat_tests)
apart_ends class.DoubleEqual d h = refl
apart_ends class.Diamond d h = refl
apart_ends class.BangEqual d h = refl
apart_ends class.LessSign d h = apart_lesssign d h where
  apart_lesssign : (d : ℕ) → is_apart d ≡ true → sign_ends (60 ∷ []) d ≡ true
  apart_lesssign d h = grind (arith, nat_tests)
apart_ends class.AtMost d h = refl
apart_ends class.GreaterSign d h = apart_greatersign d h where
  apart_greatersign : (d : ℕ) → is_apart d ≡ true → sign_ends (62 ∷ []) d ≡ true
  apart_greatersign d h = grind (arith, nat_tests)
apart_ends class.AtLeast d h = refl
apart_ends class.PlusSign d h = apart_plussign d h where
  apart_plussign : (d : ℕ) → is_apart d ≡ true → sign_ends (43 ∷ []) d ≡ true
  apart_plussign d h = grind (arith, nat_tests)
apart_ends class.MinusSign d h = apart_minussign d h where
  apart_minussign : (d : ℕ) → is_apart d ≡ true → sign_ends (45 ∷ []) d ≡ true
  apart_minussign d h = grind (arith, nat_tests)
apart_ends class.Star d h = refl
apart_ends class.Becomes d h = refl
apart_ends class.PlusEqual d h = refl
apart_ends a d h = apart_word d h

pub brace_first : (c : Class) (d : ℕ) → is_brace c ≡ true → First c d → is_apart d ≡ true
brace_first class.OpenBrace d h k = ap is_apart k
brace_first class.CloseBrace d h k = ap is_apart k
brace_first c d h k = absurd cc
