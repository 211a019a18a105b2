use Rattle.std.proofs.Common.{◌∙◌, ◌++◌, ap}
use Rattle.std.specs.Prelude.{encode_utf8}
use Rattle.std.specs.Char.{to_ascii_lowercase}
use Rattle.std.specs.Str.{chars}
use Rattle.qvt_ocl_texts.proofs.Chars.{with_first}
use Rattle.qvt_ocl_texts.proofs.texts.first_lower.Goals as goal

pub returns-in_ok-text-in-Some : goal.returns-in_ok-text-in-Some
returns-in_ok-text-in-Some c =
    with_first to_ascii_lowercase c.in-Some.first (chars c.args.text.now) c.in-Some.rest.now c.in_ok-text-in-Some.text c.in-Some.ensures.characters c.in-Some.ensures.text
    (c.in_ok-text-in-Some.ensures ∙ ap (λ d. encode_utf8 d ++ c.in-Some.rest.now) c.to_ascii_lowercase.ensures.value)
