-- What the answer for a text's tokens says of the text.
use Rattle.std.proofs.Common.{◌≡◌, ◌≢◌, ℕ, List, refl, sym, ap, ◌∙◌, subst, Some, None, Result, Ok, Err, IfOk, IfErr}
use Rattle.std.specs.Result.{IsErrAnd}
use Rattle.qvt_base.specs.declared.numbers.Place.{Place}
use Rattle.qvt_lexer.specs.declared.token.LexFault.{LexFault}
use Rattle.qvt_tree_types.specs.Module.{ModuleTerm, module_view}
use Rattle.qvt_tree_types.specs.declared.module.Module.{Module}
use Rattle.qvt_language.specs.Tokens.{Tok}
use Rattle.qvt_language.specs.Module.{with_end}
use Rattle.qvt_language_rows.specs.Language.{Reads}
use Rattle.qvt_language.specs.Readers.{nowhere}
use Rattle.qvt_parsed.proofs.Ends.{same_tree}
use Rattle.qvt_parser_tokens.specs.Depth.{deep}
use Rattle.qvt_parser_tokens.specs.Text.{HasTokens, HasLexFault}
use Rattle.qvt_parser_tokens.proofs.Lexings.{one_lexing}
use Rattle.qvt_parser_tokens.specs.Whole.{ReadsStrings, Lexes}
use Rattle.qvt_parser_tokens.specs.declared.text.TextFault.{TextFault}
use Rattle.qvt_parser_tokens.specs.declared.text.TextFault.TheVariants as tokens
use Rattle.qvt_parsed.specs.Parsing.{IsTransformation, IsFaultOf, IsReadAs}
use Rattle.qvt_parsed.specs.Parsing as parsing
use Rattle.qvt_parsed.specs.declared.fault.ParseFault.{ParseFault}
use Rattle.qvt_parsed.specs.declared.fault.ParseFault.TheVariants.{NoMemory, Lex, TooDeep, Syntax}

-- where the text has a fault of its tokens it is no transformation
pub lex_none : (text : List ℕ) (f : LexFault) → HasLexFault text f → (m : ModuleTerm) → IsTransformation text m → ⊥
lex_none text f h m k = one_lexing.either text k.tokens k.end f k.has h

-- a fault that the strings show is one of the tokens
pub strings_fault : (text : List ℕ) (f : TextFault) → ReadsStrings text (Err f) → Lexes text (Err f)
strings_fault text tokens.NoMemory h = tt
strings_fault text (tokens.Lex f) h = h

pub lexed_none : (text : List ℕ) (f : TextFault) (r : Result Module ParseFault) → Lexes text (Err f) → IsErrAnd r (λ e. e ≡ parsing.fault_of f) → IfErr r (λ e. e ≢ NoMemory → (other : ModuleTerm) → IsTransformation text other → ⊥)
lexed_none text f (Ok m) h e = tt
lexed_none text tokens.NoMemory (Err g) h e = λ n. absurd (n e)
lexed_none text (tokens.Lex f) (Err g) h e = λ n. lex_none text f h

module _ (text : List ℕ) (ts : List Tok) (end : Place) (has : HasTokens text ts end) where
  same : (m : ModuleTerm) (k : IsTransformation text m) → k.tokens ≡ ts
  same m k = (one_lexing.tokens text k.tokens ts k.end end k.has has).0

  same_end : (m : ModuleTerm) (k : IsTransformation text m) → k.end ≡ end
  same_end m k = (one_lexing.tokens text k.tokens ts k.end end k.has has).1

  pub deep_none : (p : Place) → deep ts ≡ Some p → (m : ModuleTerm) → IsTransformation text m → ⊥
  deep_none p h m k = let e : Some p ≡ None = sym h ∙ ap deep (sym (same m k)) ∙ k.shallow in absurd cc

  pub tree_of : deep ts ≡ None → (r : Result Module ParseFault) → IsReadAs ts end r → IfOk r (λ m. IsTransformation text (module_view m))
  tree_of shallow (Ok m) h = record { tokens = ts; end = end; has = has; shallow = shallow; reads = h.0; ends = h.1 }
  tree_of shallow (Err f) h = tt

  pub one_of : (r : Result Module ParseFault) → IsReadAs ts end r → IfOk r (λ m. (other : ModuleTerm) → Reads ts other → other ≡ with_end nowhere (module_view m)) → IfOk r (λ m. (other : ModuleTerm) → IsTransformation text other → other ≡ module_view m)
  one_of (Ok m) read h = λ other k.
      let tree = h (with_end nowhere other) (subst (λ z. Reads z (with_end nowhere other)) (same other k) k.reads) in
      same_tree other (module_view m) tree (k.ends ∙ same_end other k ∙ sym read.1)
  one_of (Err f) read h = tt

  pub fault_of : deep ts ≡ None → (r : Result Module ParseFault) → IsReadAs ts end r → IfErr r (IsFaultOf text)
  fault_of shallow (Ok m) h = tt
  fault_of shallow (Err NoMemory) h = tt
  fault_of shallow (Err (Lex f)) h = absurd h
  fault_of shallow (Err (TooDeep p)) h = absurd h
  fault_of shallow (Err (Syntax p)) (rest, fault, at) = record { tokens = ts; end = end; has = has; shallow = shallow; rest = rest; fault = fault; at = at }

  pub none_of : (r : Result Module ParseFault) → IsReadAs ts end r → IfErr r (λ f. f ≢ NoMemory → (other : ModuleTerm) → IsTransformation text other → ⊥)
  none_of (Ok m) h = tt
  none_of (Err NoMemory) h = λ n. absurd (n refl)
  none_of (Err (Lex f)) h = absurd h
  none_of (Err (TooDeep p)) h = absurd h
  none_of (Err (Syntax p)) (rest, fault, at) = λ n other k. fault.unread (with_end nowhere other) (subst (λ z. Reads z (with_end nowhere other)) (same other k) k.reads)
