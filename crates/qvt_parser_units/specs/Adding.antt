-- What a list of units has after one more turn.
use Rattle.std.specs.Prelude.{◌≡◌, List, [], ◌∷◌, ◌++◌, Option, Some, None, Result, Ok, Err}
use Rattle.qvt_tree_types.specs.Module.{UnitTerm, unit_view}
use Rattle.qvt_tree_types.specs.declared.module.Unit.{Unit as CodeUnit}
use Rattle.qvt_parser_grammar.specs.declared.cursor.ParseError.{ParseError}
use Rattle.qvt_parser_grammar.specs.declared.cursor.ParseError.TheVariants.{NoMemory, Syntax}

-- what a turn reads: a unit, or a semicolon alone
abbrev pub turn_view : Option CodeUnit → List UnitTerm
turn_view None = []
turn_view (Some u) = unit_view u ∷ []

-- those of the turn stand after the old ones, unless memory ran out
abbrev pub AddsTurn : List UnitTerm → List UnitTerm → List UnitTerm → Result (Unit {0}) ParseError → Type 0
AddsTurn some old new (Ok u) = new ≡ old ++ some
AddsTurn some old new (Err NoMemory) = Unit {0}
AddsTurn some old new (Err Syntax) = ⊥
