-- The value of a file's bytes.
use Rattle.std.proofs.Common.{◌≡◌, ℕ, List, Bool, true, false, Option, None, refl, sym, IsUtf8}
use Rattle.std.specs.Prelude.{if◌then◌else◌}
use Rattle.std.specs.Str.{is_utf8}
use Rattle.std.proofs.lemmas.Str.{is_utf8-from_IsUtf8, IsUtf8-from_is_utf8}
use Rattle.serde_json.specs.Data.{Data}
use Rattle.serde_json.specs.Read.{read}
use Rattle.qvt_json.specs.Json.{json}

pub no_json : (bytes : List ℕ) → ¬ IsUtf8 bytes → None ≡ json bytes
no_json bytes isnt = by (is_utf8 bytes) refl
  where
    by : (b : Bool) → is_utf8 bytes ≡ b → None ≡ (if b then read bytes else None)
    by true is = absurd (isnt (IsUtf8-from_is_utf8 bytes is))
    by false is = refl

pub json_of_text : (bytes : List ℕ) (o : Option Data) → IsUtf8 bytes → read bytes ≡ o → o ≡ json bytes
json_of_text bytes o text same = let is : is_utf8 bytes ≡ true = is_utf8-from_IsUtf8 bytes text in rw is (sym same)
