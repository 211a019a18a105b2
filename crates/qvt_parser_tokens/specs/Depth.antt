-- The limit on open items, by the list of those that are open, the last one first: brackets, and conditionals.
use Rattle.std.specs.Prelude.{Bool, true, false, List, [], ◌∷◌, length, Option, Some, None, nat_le, if◌then◌else◌}
use Rattle.qvt_base.specs.declared.numbers.Place.{Place}
use Rattle.qvt_language.specs.Tokens.{Tok}
use Rattle.qvt_language.specs.declared.class.Class.{Class}
use Rattle.qvt_language.specs.declared.class.Class.TheVariants.{OpenRound, OpenBrace, CloseRound, CloseBrace, Semicolon, IfWord, EndifWord}
use Rattle.qvt_parser_tokens.specs.declared.depth.Open.{Open}
use Rattle.qvt_parser_tokens.specs.declared.depth.Open.TheVariants.{Bracket, Conditional}

-- a closing bracket takes items away through the last bracket, and all where there is none
abbrev pub closed : List Open → List Open
closed [] = []
closed (Bracket ∷ items) = items
closed (Conditional ∷ items) = closed items

-- `endif` takes the last item away if it is a conditional
abbrev pub ended : List Open → List Open
ended [] = []
ended (Bracket ∷ items) = Bracket ∷ items
ended (Conditional ∷ items) = items

-- an `if` after one of these begins a statement, and adds no item
abbrev pub begins_statement : Class → Bool
begins_statement OpenBrace = true
begins_statement CloseBrace = true
begins_statement Semicolon = true
begins_statement _ = false

abbrev pub after : Bool → List Open → Class → List Open
after fresh items OpenRound = Bracket ∷ items
after fresh items OpenBrace = Bracket ∷ items
after fresh items CloseRound = closed items
after fresh items CloseBrace = closed items
after fresh items EndifWord = ended items
after fresh items IfWord = if fresh then items else (Conditional ∷ items)
after fresh items _ = items

abbrev pub deep_from : Bool → List Open → List Tok → Option Place
deep_from fresh items [] = None
deep_from fresh items (t ∷ ts) = if nat_le (length (after fresh items t.class)) 64 then deep_from (begins_statement t.class) (after fresh items t.class) ts else Some t.place

-- the place of the first token that would make the list longer than 64
abbrev pub deep : List Tok → Option Place
deep = deep_from false []
