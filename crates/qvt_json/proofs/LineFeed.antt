-- A line feed behind a printed text leaves its tokens as they are: in whatever ends a word, the pieces of the text come
-- first, and then those of what follows.
use Rattle.std.proofs.Common.{◌≡◌, ℕ, Bool, true, false, cond, ◌&&◌, List, [], ◌∷◌, ◌++◌, refl, sym, ap, ap₂, ◌∙◌, append_assoc, append-nil}
use Rattle.json.specs.Token.{Token, begin_object, end_object, begin_array, end_array, key, string, number, boolean, null, bad}
use Rattle.json.specs.Word.{ends_word, word}
use Rattle.json.specs.Lex.{Lexeme, token, comma, colon, string_token, lex, between, fresh, punctuate, tokens}
use Rattle.json.specs.Print.{escape, quoted, token_text, begins, ends, print_from, print, IsPrintable, ArePrintable}
use Rattle.json.proofs.Printed.Strings.{content-escape, lex-escape}
use Rattle.json.proofs.Printed.Numbers.{lex-number, in_word-ended}

-- what the text of a token is read as
abbrev lexemes : Token → List Lexeme
lexemes begin_object = token begin_object ∷ []
lexemes end_object = token end_object ∷ []
lexemes begin_array = token begin_array ∷ []
lexemes end_array = token end_array ∷ []
lexemes (key s) = token (string s) ∷ colon ∷ []
lexemes (string s) = token (string s) ∷ []
lexemes (number s) = token (number s) ∷ []
lexemes (boolean b) = token (boolean b) ∷ []
lexemes null = token null ∷ []
lexemes bad = []

abbrev separated : Bool → List Token → List Lexeme
separated after [] = []
separated after (t ∷ ts) = cond (after && begins t) (comma ∷ []) [] ++ (lexemes t ++ separated (ends t) ts)

word_ends : (ts : List Token) (rest : List ℕ) → ends_word rest ≡ true → ends_word (print_from true ts ++ rest) ≡ true
unfolding print_from
word_ends [] rest h = h
word_ends (begin_object ∷ ts) rest h = refl
word_ends (end_object ∷ ts) rest h = refl
word_ends (begin_array ∷ ts) rest h = refl
word_ends (end_array ∷ ts) rest h = refl
word_ends (key s ∷ ts) rest h = refl
word_ends (string s ∷ ts) rest h = refl
word_ends (number s ∷ ts) rest h = refl
word_ends (boolean b ∷ ts) rest h = refl
word_ends (null ∷ ts) rest h = refl
word_ends (bad ∷ ts) rest h = refl

lex-quoted : (s rest : List ℕ) → lex between (quoted s ++ rest) ≡ token (string s) ∷ lex between rest
unfolding lex
lex-quoted s rest =
    ap (λ text. lex between (34 ∷ text)) (append_assoc (escape s) (34 ∷ []) rest) ∙ ap₂ (λ o text. token (string_token o) ∷ text) (content-escape s rest) (lex-escape s rest)

lex-token : (t : Token) (rest : List ℕ) → IsPrintable t → (ends t ≡ true → ends_word rest ≡ true) → lex between (token_text t ++ rest) ≡ lexemes t ++ lex between rest
unfolding lex word
lex-token begin_object rest p ended = refl
lex-token end_object rest p ended = refl
lex-token begin_array rest p ended = refl
lex-token end_array rest p ended = refl
lex-token (key s) rest p ended = ap (lex between) (append_assoc (quoted s) (58 ∷ []) rest) ∙ lex-quoted s (58 ∷ rest)
lex-token (string s) rest p ended = lex-quoted s rest
lex-token (number s) rest p ended = lex-number s rest p (ended refl)
lex-token (boolean true) rest p ended = ap₂ (λ b text. token (cond b (boolean true) bad) ∷ text) (ended refl) (in_word-ended rest (ended refl))
lex-token (boolean false) rest p ended = ap₂ (λ b text. token (cond b (boolean false) bad) ∷ text) (ended refl) (in_word-ended rest (ended refl))
lex-token null rest p ended = ap₂ (λ b text. token (cond b null bad) ∷ text) (ended refl) (in_word-ended rest (ended refl))
lex-token bad rest p ended = absurd p

lex-separator : (b : Bool) (rest : List ℕ) → lex between (cond b (44 ∷ []) [] ++ rest) ≡ cond b (comma ∷ []) [] ++ lex between rest
unfolding lex
lex-separator true rest = refl
lex-separator false rest = refl

three : {X : Type 0} (a b c d : List X) → (a ++ (b ++ c)) ++ d ≡ a ++ (b ++ (c ++ d))
three a b c d = append_assoc a (b ++ c) d ∙ ap (λ l. a ++ l) (append_assoc b c d)

lex-print : (after : Bool) (ts : List Token) (rest : List ℕ) → ends_word rest ≡ true → ArePrintable ts → lex between (print_from after ts ++ rest) ≡ separated after ts ++ lex between rest
unfolding print_from ArePrintable
lex-print after [] rest e p = refl
lex-print after (t ∷ ts) rest e p =
    let more = print_from (ends t) ts in
    let ended = λ (is : ends t ≡ true). ap (λ b. ends_word (print_from b ts ++ rest)) is ∙ word_ends ts rest e in
    ap (lex between) (three (cond (after && begins t) (44 ∷ []) []) (token_text t) more rest) ∙ lex-separator (after && begins t) _
    ∙ ap (λ l. cond (after && begins t) (comma ∷ []) [] ++ l) (lex-token t (more ++ rest) p.0 ended ∙ ap (λ l. lexemes t ++ l) (lex-print (ends t) ts rest e p.1))
    ∙ sym (three (cond (after && begins t) (comma ∷ []) []) (lexemes t) (separated (ends t) ts) (lex between rest))

pub tokens-line_feed : (ts : List Token) → ArePrintable ts → tokens (print ts ++ 10 ∷ []) ≡ tokens (print ts)
unfolding lex
tokens-line_feed ts p = ap (punctuate fresh) (lex-print false ts (10 ∷ []) refl p ∙ sym (lex-print false ts [] refl p) ∙ ap (lex between) (append-nil (print ts)))
