-- What a text is read as, as a function of it: its tokens, the limit on open items, and the tree or the place of the fault.
use Rattle.std.specs.Prelude.{◌≡◌, ◌≢◌, ℕ, List, [], ◌∷◌, map, length, Option, Some, None, Result, Ok, Err}
use Rattle.qvt_base.specs.declared.numbers.Place.{Place}
use Rattle.qvt_grammar.specs.Reader.{At, Answer}
use Rattle.qvt_lexer.specs.Lexed.{Lexed, lexed}
use Rattle.qvt_tree_types.specs.Module.{ModuleTerm}
use Rattle.qvt_language.specs.Tokens.{Tok, place_of}
use Rattle.qvt_language.specs.Module.{with_end}
use Rattle.qvt_language.specs.Nesting.{nested_at}
use Rattle.qvt_language.specs.ReadingUnits.{transformation_at}
use Rattle.qvt_parser_tokens.specs.Depth.{deep}
use Rattle.qvt_parser_tokens.specs.Said.{said}
use Rattle.qvt_parsed.specs.Parsing.{IsTransformation, IsFaultOf}
use Rattle.qvt_parsed.specs.declared.fault.ParseFault.{ParseFault}
use Rattle.qvt_parsed.specs.declared.fault.ParseFault.TheVariants.{NoMemory, Lex, TooDeep, Syntax}

-- the tree with the end, where nothing is left; else the place of what is left, or the end
abbrev pub tree_of : Place → Answer Tok ModuleTerm → Result ModuleTerm ParseFault
tree_of end (Ok (m, [])) = Ok (with_end end m)
tree_of end (Ok (m, t ∷ ts)) = Err (Syntax t.place)
tree_of end (Err (At rest)) = Err (Syntax (place_of end rest))

-- the place of the first token too deep, or what the tokens are read as
abbrev pub unless_deep : Option Place → Result ModuleTerm ParseFault → Result ModuleTerm ParseFault
unless_deep None tree = tree
unless_deep (Some place) tree = Err (TooDeep place)

-- the tokens, after which the text ends here; no more of them can be inside each other than there are
abbrev pub parsed_tokens : List Tok → Place → Result ModuleTerm ParseFault
parsed_tokens ts end = unless_deep (deep ts) (tree_of end (transformation_at (nested_at (length ts)) ts))

abbrev pub parsed_lexed : Lexed → Result ModuleTerm ParseFault
parsed_lexed (Ok (ts, end)) = parsed_tokens (map said ts) end
parsed_lexed (Err fault) = Err (Lex fault)

unfoldable pub parsed : List ℕ → Result ModuleTerm ParseFault
parsed text = parsed_lexed (lexed text)

-- the tree is that of the transformation which the text is, and the fault the text's first
pub record IsParsing : Type 0 where
  pub tree : (text : List ℕ) (m : ModuleTerm) → parsed text ≡ Ok m → IsTransformation text m
  pub read : (text : List ℕ) (m : ModuleTerm) → IsTransformation text m → parsed text ≡ Ok m
  pub fault : (text : List ℕ) (f : ParseFault) → parsed text ≡ Err f → IsFaultOf text f
  pub some : (text : List ℕ) → parsed text ≡ Err NoMemory → ⊥
  pub told : (text : List ℕ) (f : ParseFault) → f ≢ NoMemory → IsFaultOf text f → parsed text ≡ Err f
