-- What is written is read as the same value.
use Rattle.std.proofs.Common.{◌≡◌, ◌≤◌, [], ◌∷◌, ◌++◌, Some, true, refl, sym, ap, ◌∙◌, arith, append-nil}
use Rattle.std.specs.Prelude.{option_and_then}
use Rattle.std.specs.Str.{is_utf8}
use Rattle.std.proofs.lemmas.Str.{is_utf8-from_IsUtf8, IsUtf8-append}
use Rattle.json.specs.Json as json
use Rattle.json.specs.Lex.{tokens}
use Rattle.json.specs.Print.{ArePrintable}
use Rattle.json.specs.Tree as tree
use Rattle.json.proofs.Printed.Tokens.{tokens-print}
use Rattle.json.proofs.Printed.Trees.{value-json_tokens, ArePrintable-json_tokens}
use Rattle.json.proofs.Printed.Utf8.{IsUtf8-are_ascii}
use Rattle.serde_json.specs.Data.{Data, depth}
use Rattle.serde_json.specs.Read.{read, of_json, max_depth}
use Rattle.serde_json.specs.Written.{compact_text, outline}
use Rattle.serde_json.proofs.Texts.{print-outline}
use Rattle.qvt_json.specs.Plain.{IsPlain, file_text, WrittenIsRead}
use Rattle.qvt_json.proofs.LineFeed.{tokens-line_feed}
use Rattle.qvt_json.proofs.Trees.{of_json-outline, depth-outline, HasNumbers-outline}
use Rattle.qvt_json.proofs.Utf8.{IsUtf8-compact_text}

read-compact_text : (d : Data) → IsPlain d → depth d ≤ max_depth → read (compact_text d ++ 10 ∷ []) ≡ Some d
read-compact_text d h shallow =
    let ts = tree.json_tokens (outline d) in
    let printable : ArePrintable ts = ArePrintable-json_tokens (outline d) (HasNumbers-outline d h) in
    let these : tokens (compact_text d ++ 10 ∷ []) ≡ ts ++ [] =
    ap (λ text. tokens (text ++ 10 ∷ [])) (sym (print-outline d)) ∙ tokens-line_feed ts printable ∙ tokens-print ts printable ∙ sym (append-nil ts) in
    let within : tree.depth (outline d) ≤ max_depth = omega (arith, depth-outline d, shallow) in
    ap (λ o. option_and_then of_json (option_and_then (λ p. json.if_last p.0 p.1) o)) (ap (json.value max_depth) these ∙ value-json_tokens (outline d) max_depth [] within)
    ∙ of_json-outline d h

pub json-file_text : WrittenIsRead
unfolding file_text
json-file_text d h shallow =
    let text : is_utf8 (compact_text d ++ 10 ∷ []) ≡ true = is_utf8-from_IsUtf8 _ (IsUtf8-append _ _ (IsUtf8-compact_text d h) (IsUtf8-are_ascii (10 ∷ []) refl)) in
    rw text (read-compact_text d h shallow)
