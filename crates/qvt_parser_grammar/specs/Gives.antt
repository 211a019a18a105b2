-- What the functions of the parser give.
use Rattle.std.specs.Prelude.{◌≡◌, List, [], Result, Ok, Err, drop}
use Rattle.qvt_grammar.specs.Reader.{At, Answer}
use Rattle.qvt_language.specs.Tokens.{Tok, toks_of}
use Rattle.qvt_parser_grammar.specs.declared.cursor.ParseError.{ParseError}
use Rattle.qvt_parser_grammar.specs.declared.cursor.ParseError.TheVariants.{NoMemory, Syntax}
use Rattle.qvt_parser_grammar.specs.declared.cursor.Parser.{Parser}

-- What a call gave, seen by v, with the tokens that it left, is what reading gives, unless memory ran out. At a fault the
-- first token that is left is the faulty one.
abbrev pub Gives : {X Y : Type 0} → (X → Y) → Result X ParseError → List Tok → Answer Tok Y → Type 0
Gives v (Ok x) rest a = a ≡ Ok (v x, rest)
Gives v (Err NoMemory) rest a = Unit {0}
Gives v (Err Syntax) rest a = a ≡ Err (At rest)

-- What a call made, unless memory ran out.
abbrev pub Makes : {X Y : Type 0} → (X → Y) → Result X ParseError → Y → Type 0
Makes v (Ok x) y = v x ≡ y
Makes v (Err NoMemory) y = Unit {0}
Makes v (Err Syntax) y = ⊥

-- the tokens that are left
abbrev pub toks : Parser → List Tok
toks p = drop p.index (toks_of p.tokens.now)

abbrev pub same : {X : Type 0} → X → X
same x = x
