-- What is read with the operands of one level more.
use Rattle.std.specs.Prelude.{ℕ, List}
use Rattle.qvt_base.specs.declared.numbers.Place.{Place}
use Rattle.qvt_grammar.specs.Reader.{made_at}
use Rattle.qvt_tree_types.specs.Tree.{LinkTerm}
use Rattle.qvt_language.specs.Grammar.{level_of}
use Rattle.qvt_language.specs.Leads.{Lead}
use Rattle.qvt_language.specs.Readers.{Reader}
use Rattle.qvt_language.specs.Reading.{links_at, chain_at}
use Rattle.qvt_language.specs.Trees.{chain_of}

-- the operand with further ones of a level after it
abbrev pub linked : ℕ → Place → Lead → List LinkTerm → Lead
linked below place first rest = chain_of (level_of below) (place, (first, rest))

-- what is read after an operand of the level, where g reads those of the tightest
abbrev pub raised_at : ℕ → Reader Lead → Place → Lead → Reader Lead
raised_at below g place first = made_at (linked below place first) (links_at below (chain_at below g g) first)
