-- What a text is read as is what the text is, and it is one thing.
use Rattle.std.proofs.Common.{◌≡◌, ◌≢◌, ℕ, List, [], ◌∷◌, map, length, refl, sym, ap, ◌∙◌, subst, arith, Option, Some, None, Result, Ok, Err}
use Rattle.std.specs.Str.{chars}
use Rattle.qvt_base.specs.declared.numbers.Place.{Place}
use Rattle.qvt_grammar.specs.Reader.{At, Answer}
use Rattle.qvt_lexer.specs.Division.{start_at}
use Rattle.qvt_lexer.specs.Lexed.{Lexed, lexed, LexesFrom}
use Rattle.qvt_lexer.proofs.Lexing.{every_text}
use Rattle.qvt_tree_types.specs.Module.{ModuleTerm}
use Rattle.qvt_language.specs.Tokens.{Tok, place_of}
use Rattle.qvt_language.specs.Nesting.{nested_at}
use Rattle.qvt_language.specs.ReadingUnits.{transformation_at}
use Rattle.qvt_language.specs.Module.{with_end}
use Rattle.qvt_language_rows.specs.Language.{Reads, HaveFirstFault}
use Rattle.qvt_language.specs.Readers.{nowhere}
use Rattle.qvt_parsed.proofs.Ends.{read_nowhere, same_tree}
use Rattle.qvt_language_rows.proofs.Answers.{answer_reads, answer_rest, answer_fault, one_tree, one_fault}
use Rattle.qvt_parser_tokens.specs.Depth.{deep}
use Rattle.qvt_parser_tokens.specs.Said.{said}
use Rattle.qvt_parser_tokens.specs.Text.{HasTokens, HasLexFault}
use Rattle.qvt_parser_tokens.proofs.Lexings.{one_lexing}
use Rattle.qvt_parsed.specs.Parsing.{IsTransformation, IsTooDeep, HasSyntaxFault, IsFaultOf}
use Rattle.qvt_parsed.specs.declared.fault.ParseFault.{ParseFault}
use Rattle.qvt_parsed.specs.declared.fault.ParseFault.TheVariants.{NoMemory, Lex, TooDeep, Syntax}
use Rattle.qvt_parsed.specs.Parsed.{tree_of, unless_deep, parsed_tokens, parsed_lexed, parsed, IsParsing}

-- the outcome says what the text is
abbrev Says : List ℕ → Result ModuleTerm ParseFault → Type 0
Says text (Ok m) = IsTransformation text m
Says text (Err NoMemory) = ⊥
Says text (Err (Lex f)) = HasLexFault text f
Says text (Err (TooDeep p)) = IsTooDeep text p
Says text (Err (Syntax p)) = HasSyntaxFault text p

module _ (text : List ℕ) (ts : List Tok) (end : Place) (has : HasTokens text ts end) where
  stuck : deep ts ≡ None → (rest : List Tok) → HaveFirstFault ts rest → HasSyntaxFault text (place_of end rest)
  stuck shallow rest fault = record { tokens = ts; end = end; has = has; shallow = shallow; rest = rest; fault = fault; at = refl }

  says_tree : deep ts ≡ None → (x : Answer Tok ModuleTerm) → transformation_at (nested_at (length ts)) ts ≡ x → Says text (tree_of end x)
  says_tree shallow (Ok (m, [])) e =
      let reads = answer_reads (length ts) ts (omega arith) m [] e refl in
      record { tokens = ts; end = end; has = has; shallow = shallow; reads = subst (Reads ts) (read_nowhere ts m reads) reads; ends = refl }
  says_tree shallow (Ok (m, t ∷ rest)) e = stuck shallow (t ∷ rest) (answer_rest (length ts) ts (omega arith) m (t ∷ rest) e refl)
  says_tree shallow (Err (At rest)) e = stuck shallow rest (answer_fault (length ts) ts (omega arith) rest e)

  says_deep : (o : Option Place) → deep ts ≡ o → Says text (unless_deep o (tree_of end (transformation_at (nested_at (length ts)) ts)))
  says_deep None e = says_tree e (transformation_at (nested_at (length ts)) ts) refl
  says_deep (Some p) e = record { tokens = ts; end = end; has = has; deepest = e }

  says_tokens : Says text (parsed_tokens ts end)
  says_tokens = says_deep (deep ts) refl

says_lexed : (text : List ℕ) (x : Lexed) → LexesFrom (start_at (chars text)) x → Says text (parsed_lexed x)
says_lexed text (Ok (ts, end)) h = says_tokens text (map said ts) end (record { tokens = ts; last = h.0; reads = h.1; nothing = h.2; place = h.3; are = refl })
says_lexed text (Err fault) h = record { tokens = h.0; last = h.1; reads = h.2; faulty = h.3 }

says : (text : List ℕ) → Says text (parsed text)
unfolding parsed
says text = says_lexed text (lexed text) (every_text text)

-- each text has one outcome
module _ (text : List ℕ) where
  same : (ts us : List Tok) (p q : Place) → HasTokens text ts p → HasTokens text us q → ts ≡ us
  same ts us p q h k = (one_lexing.tokens text ts us p q h k).0

  tree_tree : (m n : ModuleTerm) → IsTransformation text m → IsTransformation text n → m ≡ n
  tree_tree m n h k =
      let lists = one_lexing.tokens text k.tokens h.tokens k.end h.end k.has h.has in
      let reads = subst (λ z. Reads z (with_end nowhere n)) lists.0 k.reads in
      same_tree m n (one_tree h.tokens (with_end nowhere m) (with_end nowhere n) h.reads reads) (h.ends ∙ sym lists.1 ∙ sym k.ends)

  shallow_deep : (ts us : List Tok) (p q place : Place) → HasTokens text ts p → HasTokens text us q → deep ts ≡ None → deep us ≡ Some place → ⊥
  shallow_deep ts us p q place h k e f = let z : None ≡ Some place = sym e ∙ ap deep (same ts us p q h k) ∙ f in cc

  deep_deep : (p q : Place) → IsTooDeep text p → IsTooDeep text q → p ≡ q
  deep_deep p q h k = let z : Some p ≡ Some q = sym h.deepest ∙ ap deep (same h.tokens k.tokens h.end k.end h.has k.has) ∙ k.deepest in cc

  syntax_syntax : (p q : Place) → HasSyntaxFault text p → HasSyntaxFault text q → p ≡ q
  syntax_syntax p q h k =
      let lists = one_lexing.tokens text k.tokens h.tokens k.end h.end k.has h.has in
      let rests = one_fault h.tokens h.rest k.rest h.fault (subst (λ z. HaveFirstFault z k.rest) lists.0 k.fault) in
      h.at ∙ (λ i. place_of (sym lists.1 i) (rests i)) ∙ sym k.at

  tree_syntax : (m : ModuleTerm) (p : Place) → IsTransformation text m → HasSyntaxFault text p → ⊥
  tree_syntax m p h k = k.fault.unread (with_end nowhere m) (subst (λ z. Reads z (with_end nowhere m)) (same h.tokens k.tokens h.end k.end h.has k.has) h.reads)

  one_outcome : (a b : Result ModuleTerm ParseFault) → Says text a → Says text b → a ≡ b
  one_outcome (Ok m) (Ok n) h k = ap Ok (tree_tree m n h k)
  one_outcome (Ok m) (Err NoMemory) h k = absurd k
  one_outcome (Ok m) (Err (Lex g)) h k = absurd (one_lexing.either text h.tokens h.end g h.has k)
  one_outcome (Ok m) (Err (TooDeep q)) h k = absurd (shallow_deep h.tokens k.tokens h.end k.end q h.has k.has h.shallow k.deepest)
  one_outcome (Ok m) (Err (Syntax q)) h k = absurd (tree_syntax m q h k)
  one_outcome (Err NoMemory) b h k = absurd h
  one_outcome (Err (Lex f)) (Ok n) h k = absurd (one_lexing.either text k.tokens k.end f k.has h)
  one_outcome (Err (Lex f)) (Err NoMemory) h k = absurd k
  one_outcome (Err (Lex f)) (Err (Lex g)) h k = ap (λ z. Err (Lex z)) (one_lexing.fault text f g h k)
  one_outcome (Err (Lex f)) (Err (TooDeep q)) h k = absurd (one_lexing.either text k.tokens k.end f k.has h)
  one_outcome (Err (Lex f)) (Err (Syntax q)) h k = absurd (one_lexing.either text k.tokens k.end f k.has h)
  one_outcome (Err (TooDeep p)) (Ok n) h k = absurd (shallow_deep k.tokens h.tokens k.end h.end p k.has h.has k.shallow h.deepest)
  one_outcome (Err (TooDeep p)) (Err NoMemory) h k = absurd k
  one_outcome (Err (TooDeep p)) (Err (Lex g)) h k = absurd (one_lexing.either text h.tokens h.end g h.has k)
  one_outcome (Err (TooDeep p)) (Err (TooDeep q)) h k = ap (λ z. Err (TooDeep z)) (deep_deep p q h k)
  one_outcome (Err (TooDeep p)) (Err (Syntax q)) h k = absurd (shallow_deep k.tokens h.tokens k.end h.end p k.has h.has k.shallow h.deepest)
  one_outcome (Err (Syntax p)) (Ok n) h k = absurd (tree_syntax n p k h)
  one_outcome (Err (Syntax p)) (Err NoMemory) h k = absurd k
  one_outcome (Err (Syntax p)) (Err (Lex g)) h k = absurd (one_lexing.either text h.tokens h.end g h.has k)
  one_outcome (Err (Syntax p)) (Err (TooDeep q)) h k = absurd (shallow_deep h.tokens k.tokens h.end k.end q h.has k.has h.shallow k.deepest)
  one_outcome (Err (Syntax p)) (Err (Syntax q)) h k = ap (λ z. Err (Syntax z)) (syntax_syntax p q h k)

  fault_said : (f : ParseFault) → Says text (Err f) → IsFaultOf text f
  fault_said NoMemory h = tt
  fault_said (Lex f) h = h
  fault_said (TooDeep p) h = h
  fault_said (Syntax p) h = h

  saying_fault : (f : ParseFault) → f ≢ NoMemory → IsFaultOf text f → Says text (Err f)
  saying_fault NoMemory n h = absurd (n refl)
  saying_fault (Lex f) n h = h
  saying_fault (TooDeep p) n h = h
  saying_fault (Syntax p) n h = h

  said_of : (a : Result ModuleTerm ParseFault) → parsed text ≡ a → Says text a
  said_of a e = subst (λ z. Says text z) e (says text)

pub parsing : IsParsing
parsing = record {
  tree = λ text m e. said_of text (Ok m) e;
  read = λ text m h. one_outcome text (parsed text) (Ok m) (says text) h;
  fault = λ text f e. fault_said text f (said_of text (Err f) e);
  some = λ text e. said_of text (Err NoMemory) e;
  told = λ text f n h. one_outcome text (parsed text) (Err f) (says text) (saying_fault text f n h);
}
