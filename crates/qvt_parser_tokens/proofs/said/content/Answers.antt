use Rattle.std.proofs.Common.{◌++◌, sym, ap, ◌∙◌, append_assoc}
use Rattle.std.specs.Char.{encode_utf8}
use Rattle.std.specs.Str.{chars, encode_utf8_all}
use Rattle.qvt_parser_tokens.specs.Said.{content}
use Rattle.qvt_parser_tokens.proofs.Contents.{content_item}
use Rattle.qvt_parser_tokens.proofs.said.content.Goals as goal

pub loop-c-preserved : goal.loop-c-preserved
loop-c-preserved c =
    let q = c.args.quote in
    let rest = chars c.loop-c.rest.now in
    let more = encode_utf8_all (content q (chars c.in-Some.more.now)) in (
      c.in-Some.ensures.text,
      c.loop-c.invariant.1
          ∙ ap (λ z. c.loop-c.out ++ encode_utf8_all z) (content_item q rest c.in-Some.c (chars c.in-Some.more.now) c.in-Some.ensures.value)
          ∙ sym (append_assoc c.loop-c.out (encode_utf8 c.in-Some.c) more)
          ∙ ap (λ z. z ++ more) (sym c.in_ok-push.ensures.ok),
    )
