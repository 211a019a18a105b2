-- Which lists of tokens a start symbol reads, which are the beginning of one that it reads, and where the first fault is; and
-- the same of transformations.
use Rattle.std.specs.Prelude.{◌≡◌, ◌≤◌, ◌++◌, length, ℕ, List}
use Rattle.qvt_base.specs.declared.numbers.Place.{Place}
use Rattle.qvt_grammar.specs.Language.{Language}
use Rattle.qvt_tree_types.specs.Module.{ModuleTerm}
use Rattle.qvt_language.specs.Tokens.{Tok}
use Rattle.qvt_language.specs.Grammar.{NestedLanguages}
use Rattle.qvt_language.specs.Units.{transformation}
use Rattle.qvt_language.specs.Nesting.{nested}

-- a start symbol: what whole lists are read as, given what stands nested inside
abbrev pub Start : Type 0 → Type 1
Start A = NestedLanguages → Language Tok A

pub record ReadsFrom {A : Type 0} (start : Start A) (ts : List Tok) (a : A) : Type 0 where
  pub nesting : ℕ
  pub reads : (start (nested nesting)).reads ts a

pub record FrontFrom {A : Type 0} (start : Start A) (ts : List Tok) : Type 0 where
  pub nesting : ℕ
  pub front : (start (nested nesting)).front ts

-- rest is what the list has from its fault on: the tokens before it are a front, no more of them are, and the list is not read
pub record FaultFrom {A : Type 0} (start : Start A) (ts rest : List Tok) : Type 0 where
  pub before : (u : List Tok) × (ts ≡ u ++ rest) × FrontFrom start u
  pub longest : (u s : List Tok) → ts ≡ u ++ s → FrontFrom start u → length rest ≤ length s
  pub unread : (a : A) → ReadsFrom start ts a → ⊥

abbrev pub ReadsModule : List Tok → ModuleTerm → Type 0
ReadsModule = ReadsFrom transformation

abbrev pub IsFront : List Tok → Type 0
IsFront = FrontFrom transformation

abbrev pub IsFault : List Tok → List Tok → Type 0
IsFault = FaultFrom transformation

-- the same transformation in a text that ends at this place
abbrev pub with_end : Place → ModuleTerm → ModuleTerm
with_end end m = record m { end = end }
