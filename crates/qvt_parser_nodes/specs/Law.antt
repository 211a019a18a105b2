-- The nodes of a tree, by its tokens: how many there are, what names they have, where they stand.
use Rattle.std.specs.Prelude.{◌≡◌, ℕ, ◌*◌, ◌≤◌, List, [], ◌∷◌, length, map, ◌⊎◌, IsTrue}
use Rattle.qvt_base.specs.declared.numbers.Place.{Place}
use Rattle.qvt_tree_types.specs.Module.{MappingTerm, ModuleTerm}
use Rattle.qvt_language.specs.Tokens.{Tok, is}
use Rattle.qvt_language.specs.declared.class.Class.{Class}
use Rattle.qvt_language.specs.declared.class.Class.TheVariants.{Name, Str}
use Rattle.qvt_language_rows.specs.Lists.{AllOf}
use Rattle.qvt_language_rows.specs.Language.{Reads}
use Rattle.qvt_parser_nodes.specs.Nodes.{nodes}
use Rattle.qvt_parser_nodes.specs.Names.{NameConditions, HasNames}
use Rattle.qvt_parser_nodes.specs.Places.{ClauseKind, places}

-- a tree has at most two nodes for each token that it is read from
abbrev pub AtMostTwoEach : Type 0
AtMostTwoEach = (ts : List Tok) (m : ModuleTerm) → Reads ts m → nodes m ≤ 2 * length ts

-- the text of one of the tokens of the class
abbrev pub IsTextOf : Class → List Tok → List ℕ → Type 0
IsTextOf c [] x = ⊥
IsTextOf c (t ∷ ts) x = (IsTrue (is c t) × (t.text ≡ x)) ⊎ IsTextOf c ts x

-- a name is one of the tokens, and a text in quotes is one of the tokens
abbrev pub of_tokens : List Tok → NameConditions
of_tokens ts = record { name = IsTextOf Name ts; text = IsTextOf Str ts }

-- each path of a tree has a name, each name is that of a token that is a name, and each text that of a token that is a text
abbrev pub NamesAreTokens : Type 0
NamesAreTokens = (ts : List Tok) (m : ModuleTerm) → Reads ts m → HasNames (of_tokens ts) m

abbrev pub HasAtMost : ℕ → List ℕ → Type 0
HasAtMost n x = length x ≤ n

abbrev pub at_most : ℕ → NameConditions
at_most n = record { name = HasAtMost n; text = HasAtMost n }

-- no name or text is longer than the longest of a token
abbrev pub NoneIsLonger : Type 0
NoneIsLonger = (n : ℕ) (ts : List Tok) (m : ModuleTerm) → AllOf {A = Tok} (λ t. HasAtMost n t.text) ts → Reads ts m → HasNames (at_most n) m

-- none of the places stands before the one
abbrev pub NoneBefore : Place → List Place → Type 0
NoneBefore p [] = Unit {0}
NoneBefore p (q ∷ qs) = (p.offset ≤ q.offset) × NoneBefore p qs

-- no place stands before one of those before it
abbrev pub DoNotFall : List Place → Type 0
DoNotFall [] = Unit {0}
DoNotFall (p ∷ ps) = NoneBefore p ps × DoNotFall ps

abbrev pub IsTokenPlace : List Tok → Place → Type 0
IsTokenPlace [] p = ⊥
IsTokenPlace (t ∷ ts) p = (p ≡ t.place) ⊎ IsTokenPlace ts p

abbrev pub ArePlacesOf : List Tok → List Place → Type 0
ArePlacesOf ts [] = Unit {0}
ArePlacesOf ts (p ∷ ps) = IsTokenPlace ts p × ArePlacesOf ts ps

pub record PlacesOfTree : Type 0 where
  -- each node stands at one of the tokens
  pub tokens : (c : MappingTerm → ClauseKind) (ts : List Tok) (m : ModuleTerm) → Reads ts m → ArePlacesOf ts (places c m)
  -- where the places of the tokens do not fall, those of the nodes do not
  pub order : (c : MappingTerm → ClauseKind) (ts : List Tok) (m : ModuleTerm) → Reads ts m → DoNotFall (map (λ t. t.place) ts) → DoNotFall (places c m)
