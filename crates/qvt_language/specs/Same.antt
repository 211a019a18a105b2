-- Tokens that are the same wherever they stand, and tokens that say as little as they can.
use Rattle.std.specs.Prelude.{◌≡◌, ℕ, pos, List, [], ◌∷◌, map, ◌⊎◌, codes}
use Rattle.qvt_words.specs.declared.class.Class.{Class}
use Rattle.qvt_words.specs.declared.class.Class.TheVariants.{Name, Str}
use Rattle.qvt_language.specs.Tokens.{Tok}
use Rattle.qvt_language.specs.Readers.{nowhere}

-- a token without its place
abbrev pub unplaced : Tok → Tok
unplaced t = record { class = t.class; text = t.text; number = t.number; place = nowhere }

-- equal but for their places: their kinds are equal, and what they say
abbrev pub SameTokens : List Tok → List Tok → Type 0
SameTokens ts us = map unplaced ts ≡ map unplaced us

-- a name says `a`, a text in quotes nothing or `strict`; nothing else has a text
abbrev pub SimpleText : Class → List ℕ → Type 0
SimpleText Name text = text ≡ codes "a"
SimpleText Str text = (text ≡ []) ⊎ (text ≡ codes "strict")
SimpleText c text = text ≡ []

-- a token that a text can say anywhere: its number is 0, and its text as simple as can be
pub record IsSimple (t : Tok) : Type 0 where
  pub number : t.number ≡ pos 0
  pub text : SimpleText t.class t.text

abbrev pub AllSimple : List Tok → Type 0
AllSimple [] = Unit {0}
AllSimple (t ∷ ts) = IsSimple t × AllSimple ts
