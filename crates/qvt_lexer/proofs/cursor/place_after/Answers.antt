use Rattle.std.proofs.Common.{length, sym, ap, ◌∙◌, arith, length-append}
use Rattle.std.specs.Char.{encode_utf8}
use Rattle.std.specs.Str.{chars}
use Rattle.std.proofs.lemmas.Str.{length-encode}
use Rattle.qvt_lexer.specs.Division.{place_after}
use Rattle.qvt_lexer.proofs.cursor.place_after.Goals as goal

pub next_place-place-requires-clause-room : goal.next_place-place-requires-clause-room
next_place-place-requires-clause-room c =
    omega (arith, c.loop-c.invariant.2, c.requires.2, ap length c.in-Some.ensures.bytes, length-append (encode_utf8 c.in-Some.c) c.in-Some.more.now, length-encode c.in-Some.c)

pub loop-c-preserved : goal.loop-c-preserved
loop-c-preserved c = (
  c.in-Some.ensures.text,
  ap (λ z. place_after z (chars c.in-Some.more.now)) c.next_place-place.ensures.value ∙ sym (ap (place_after c.loop-c.place) c.in-Some.ensures.characters)
      ∙ c.loop-c.invariant.1,
  omega (
    arith,
    c.loop-c.invariant.2,
    c.next_place-place.ensures.offset,
    ap length c.in-Some.ensures.bytes,
    length-append (encode_utf8 c.in-Some.c) c.in-Some.more.now,
    length-encode c.in-Some.c,
  ),
  c.next_place-place.ensures.line,
  c.next_place-place.ensures.column,
)
