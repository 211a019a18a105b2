-- Phrases, by the forms of an EBNF grammar (ISO 14977): which lists of tokens a phrase is, and as which value.
use Rattle.std.specs.Prelude.{◌≡◌, List, [], ◌∷◌, ◌++◌, false, IsTrue, ◌⊎◌, Option, Some, None}
use Rattle.qvt_base.specs.declared.numbers.Place.{Place}
use Rattle.qvt_grammar.specs.Language.{head_of}
use Rattle.qvt_grammar.specs.Reader.{starts}
use Rattle.qvt_language.specs.Tokens.{Tok, is}
use Rattle.qvt_language.specs.Readers.{nowhere}
use Rattle.qvt_language.specs.Trees.{first, second, inner, cons_of}
use Rattle.qvt_language.specs.declared.class.Class.{Class}
use Rattle.qvt_language.specs.declared.class.Class.TheVariants.{Comma}

abbrev pub Phrase : Type 0 → Type 1
Phrase A = List Tok → A → Type 0

infixr 10 ◌or◌
infixl 20 ◌gives◌
infixr 30 ◌then◌
-- no list at all
abbrev pub nothing : {A : Type 0} → Phrase A
nothing ts a = ⊥

-- one token of the class
abbrev pub the : Class → Phrase Tok
the c ts t = (ts ≡ t ∷ []) × IsTrue (is c t)

-- the one, and then the other
abbrev pub ◌then◌ : {A B : Type 0} → Phrase A → Phrase B → Phrase (A × B)
(p then q) ts ab = (u : List Tok) × (v : List Tok) × (ts ≡ u ++ v) × p u ab.0 × q v ab.1

-- the one, or the other
abbrev pub ◌or◌ : {A : Type 0} → Phrase A → Phrase A → Phrase A
(p or q) ts a = p ts a ⊎ q ts a

-- the same lists, with what is made of the value
abbrev pub ◌gives◌ : {A B : Type 0} → Phrase A → (A → B) → Phrase B
(p gives f) ts b = (a : _) × p ts a × (b ≡ f a)

-- any number of them, { x }
abbrev pub many : {A : Type 0} → Phrase A → Phrase (List A)
many p ts [] = ts ≡ []
many p ts (a ∷ more) = (u : List Tok) × (v : List Tok) × (ts ≡ u ++ v) × p u a × many p v more

abbrev pub no_tokens : Phrase (Unit {0})
no_tokens ts a = ts ≡ []

-- at most one, [ x ]
abbrev pub maybe : {A : Type 0} → Phrase A → Phrase (Option A)
maybe p = p gives Some or no_tokens gives λ _. None

-- with the place of the first token
abbrev pub placed : {A : Type 0} → Phrase A → Phrase (Place × A)
placed p ts pa = p ts pa.1 × (pa.0 ≡ head_of (λ t. t.place) nowhere ts)

-- the value of the one that stands after a token, before a token, between two
abbrev pub after : {A : Type 0} → Class → Phrase A → Phrase A
after c p = the c then p gives second

abbrev pub before : {A : Type 0} → Phrase A → Class → Phrase A
before p c = p then the c gives first

abbrev pub between : {A : Type 0} → Class → Phrase A → Class → Phrase A
between c p d = the c then p then the d gives inner

-- one at least, with commas between them
abbrev pub commas : {A : Type 0} → Phrase A → Phrase (List A)
commas p = p then many (after Comma p) gives cons_of

abbrev pub or_none : {A : Type 0} → Option (List A) → List A
or_none None = []
or_none (Some all) = all

-- a list between two tokens, where none may stand
abbrev pub listed : {A : Type 0} → Class → Phrase (List A) → Class → Phrase (List A)
listed c p d = between c (maybe p gives or_none) d

-- not with this token first
abbrev pub barring : {A : Type 0} → Class → Phrase A → Phrase A
barring c p ts a = p ts a × (starts (is c) ts ≡ false)

-- not with a value of which this fails
abbrev pub such_that : {A : Type 0} → (A → Type 0) → Phrase A → Phrase A
such_that P p ts a = p ts a × P a
