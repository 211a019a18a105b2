-- The language: which lists of tokens are a transformation, which are the beginning of one, and where the first fault is.
use Rattle.std.specs.Prelude.{◌≡◌, ◌≤◌, ◌++◌, length, ℕ, zero, suc, List}
use Rattle.qvt_tree_types.specs.Module.{ModuleTerm}
use Rattle.qvt_language.specs.Tokens.{Tok}
use Rattle.qvt_language_rows.specs.Phrase.{Phrase, nothing}
use Rattle.qvt_language_rows.specs.Rows.{NestedRows, TypeRow, ExprRow, BlockRow}
use Rattle.qvt_language_rows.specs.Units.{ModuleRow}

-- types, expressions and blocks with fewer than n of them inside each other
unfoldable pub inside : ℕ → NestedRows
inside zero = record { type = nothing; expr = nothing; block = nothing }
inside (suc n) = record { type = TypeRow (inside n); expr = ExprRow (inside n); block = BlockRow (inside n) }

-- a row, with any number of them inside each other
pub record Is {A : Type 0} (row : NestedRows → Phrase A) (ts : List Tok) (a : A) : Type 0 where
  pub nesting : ℕ
  pub is : row (inside nesting) ts a

-- the tokens are the beginning of a list that is a row
pub record BeginsRow {A : Type 0} (row : NestedRows → Phrase A) (ts : List Tok) : Type 0 where
  pub more : List Tok
  pub value : A
  pub whole : Is row (ts ++ more) value

-- rest is what the list has from its fault on: the tokens before it are a beginning, no more of them are, and the list is no
-- such row
pub record HasFault {A : Type 0} (row : NestedRows → Phrase A) (ts rest : List Tok) : Type 0 where
  pub before : (u : List Tok) × (ts ≡ u ++ rest) × BeginsRow row u
  pub longest : (u s : List Tok) → ts ≡ u ++ s → BeginsRow row u → length rest ≤ length s
  pub unread : (a : A) → Is row ts a → ⊥

-- the tokens are a transformation, as this tree
abbrev pub Reads : List Tok → ModuleTerm → Type 0
Reads = Is ModuleRow

abbrev pub BeginTransformation : List Tok → Type 0
BeginTransformation = BeginsRow ModuleRow

abbrev pub HaveFirstFault : List Tok → List Tok → Type 0
HaveFirstFault = HasFault ModuleRow
