-- What a block has after one more turn.
use Rattle.std.specs.Prelude.{◌≡◌, Bool, true, false, List, [], ◌∷◌, ◌++◌, Result, Ok, Err}
use Rattle.std.proofs.Common.{inl, inr}
use Rattle.qvt_tree_types.specs.Tree.{StmtTerm}
use Rattle.qvt_parser_grammar.specs.declared.cursor.ParseError.{ParseError}
use Rattle.qvt_parser_grammar.specs.declared.cursor.ParseError.TheVariants.{NoMemory, Syntax}
use Rattle.qvt_language.specs.StmtTrees.{TurnTree}

-- the statements with those of the turn, and whether it was the last one
abbrev pub Adds : TurnTree → List StmtTerm → List StmtTerm → Bool → Type 0
Adds (inl some) old new last = (new ≡ old ++ some) × (last ≡ false)
Adds (inr s) old new last = (new ≡ old ++ s ∷ []) × (last ≡ true)

-- so it is, unless memory ran out
abbrev pub AddsIf : TurnTree → List StmtTerm → List StmtTerm → Result Bool ParseError → Type 0
AddsIf turn old new (Ok last) = Adds turn old new last
AddsIf turn old new (Err NoMemory) = Unit {0}
AddsIf turn old new (Err Syntax) = ⊥
