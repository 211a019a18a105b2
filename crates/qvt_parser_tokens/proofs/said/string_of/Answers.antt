use Rattle.std.proofs.Common.{rules, sym, ap, ◌∙◌, IfOk, Result, Ok, Err, ◌≡◌, List, ℕ}
use Rattle.std.specs.Str.{encode_utf8_all}
use Rattle.std.proofs.lemmas.Str.{chars_past_char}
use Rattle.qvt_parser_tokens.specs.Said.{string_of}
use Rattle.qvt_parser_tokens.proofs.said.string_of.Goals as goal

if_same : {E : Type 0} (a b : List ℕ) → a ≡ b → (r : Result (List ℕ) E) → IfOk r (λ t. t ≡ a) → IfOk r (λ t. t ≡ b)
if_same a b e (Ok t) h = h ∙ e
if_same a b e (Err f) h = h

pub returns-in-Some : goal.returns-in-Some
returns-in-Some c =
    if_same _ _ (ap (λ z. encode_utf8_all (string_of z)) (sym (chars_past_char c.args.text.now c.as_str.result.now c.in-Some.quote c.utf8.text (search rules)))) c.content.result c.content.ensures
