-- The texts of the strings among tokens, one token more.
use Rattle.std.proofs.Common.{◌≡◌, ◌≢◌, ◌∙◌, ℕ, pos, List, [], ◌∷◌, ◌++◌, map, refl, sym, ap, append_assoc, append-nil}
use Rattle.std.proofs.lemmas.List.{map-append}
use Rattle.qvt_lexer.specs.Division.{TokenData}
use Rattle.qvt_lexer.specs.declared.token.TokenKind.{TokenKind}
use Rattle.qvt_lexer.specs.declared.token.TokenKind.TheVariants.{Name, Integer, Str, Word, Symbol, End}
use Rattle.qvt_language.specs.Tokens.{tok_of, toks_of}
use Rattle.qvt_language.specs.declared.token.SyntaxToken.{SyntaxToken}
use Rattle.qvt_language.specs.declared.class.Class.TheVariants as classes
use Rattle.qvt_parser_tokens.specs.Said.{said, text_of, token_class_of, number_in}
use Rattle.qvt_parser_tokens.specs.Whole.{string_in, strings_of}

strings_then : (ds es : List TokenData) → strings_of (ds ++ es) ≡ strings_of ds ++ strings_of es
strings_then [] es = refl
strings_then (d ∷ ds) es = ap (λ z. string_in d.kind d.text ++ z) (strings_then ds es) ∙ sym (append_assoc (string_in d.kind d.text) (strings_of ds) (strings_of es))

one_string : (d : TokenData) → d.kind ≡ Str → strings_of (d ∷ []) ≡ text_of Str d.text ∷ []
one_string d is = ap (λ k. string_in k d.text ++ []) is

none_of_kind : (k : TokenKind) (text : List ℕ) → k ≢ Str → string_in k text ≡ []
none_of_kind Name text h = refl
none_of_kind Integer text h = refl
none_of_kind Str text h = absurd (h refl)
none_of_kind Word text h = refl
none_of_kind Symbol text h = refl
none_of_kind End text h = refl

no_string : (d : TokenData) → d.kind ≢ Str → strings_of (d ∷ []) ≡ []
no_string d other = ap (λ z. z ++ []) (none_of_kind d.kind d.text other)

pub string_no_end : (k : TokenKind) → k ≡ Str → k ≢ End
string_no_end k is h = absurd (let z : Str ≡ End = sym is ∙ h in cc)

-- a string more
pub string_then : (ds : List TokenData) (d : TokenData) → d.kind ≡ Str → strings_of (ds ++ d ∷ []) ≡ strings_of ds ++ text_of Str d.text ∷ []
string_then ds d is = strings_then ds (d ∷ []) ∙ ap (λ z. strings_of ds ++ z) (one_string d is)

-- another token more
pub other_then : (ds : List TokenData) (d : TokenData) → d.kind ≢ Str → strings_of (ds ++ d ∷ []) ≡ strings_of ds
other_then ds d other = strings_then ds (d ∷ []) ∙ ap (λ z. strings_of ds ++ z) (no_string d other) ∙ append-nil (strings_of ds)

-- what a string says to the grammar
pub string_said : (d : TokenData) (text : List ℕ) → d.kind ≡ Str → text ≡ text_of Str d.text → record { class = classes.Str; text = text; number = pos 0; place = d.place } ≡ said d
string_said d text is e =
    ap (λ z. record { class = classes.Str; text = z; number = pos 0; place = d.place }) e
    ∙ ap (λ (k : TokenKind). record { class = token_class_of k d.text; text = text_of k d.text; number = number_in k d.text; place = d.place }) (sym is)

-- one token more
pub one_more : (ds : List TokenData) (ts new : List SyntaxToken) (d : TokenData) (t : SyntaxToken) → toks_of ts ≡ map said ds → tok_of t ≡ said d → new ≡ ts ++ t ∷ [] → toks_of new ≡ map said (ds ++ d ∷ [])
one_more ds ts new d t all one e =
    ap toks_of e ∙ map-append tok_of ts (t ∷ []) ∙ (λ i. all i ++ one i ∷ []) ∙ sym (map-append said ds (d ∷ []))

-- the texts after a string more begin with its own
pub string_first : (ds : List TokenData) (d : TokenData) (all more : List (List ℕ)) → d.kind ≡ Str → all ≡ strings_of (ds ++ d ∷ []) ++ more → all ≡ strings_of ds ++ text_of Str d.text ∷ more
string_first ds d all more is e = e ∙ ap (λ z. z ++ more) (string_then ds d is) ∙ append_assoc (strings_of ds) (text_of Str d.text ∷ []) more
