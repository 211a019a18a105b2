use Rattle.std.proofs.Common.{arith}
use Rattle.std.proofs.lemmas.Bool.Decides.{nat_tests}
use Rattle.qvt_lexer.proofs.Slices.{after_mark}
use Rattle.qvt_lexer.proofs.lexer.Lexer.new.Goals as goal

pub standing-requires-clause-left : goal.standing-requires-clause-left
standing-requires-clause-left c =
    let mark = c.in-Some-eq65279-default in
    (after_mark c.args.text.now mark.rest.now mark.field-0-0 mark.ensures.bytes (grind (arith, nat_tests, mark.field-0-0-test)) c.requires).0

pub standing-requires-clause-offset : goal.standing-requires-clause-offset
standing-requires-clause-offset c =
    let mark = c.in-Some-eq65279-default in
    (after_mark c.args.text.now mark.rest.now mark.field-0-0 mark.ensures.bytes (grind (arith, nat_tests, mark.field-0-0-test)) c.requires).1

pub standing-requires-clause-room : goal.standing-requires-clause-room
standing-requires-clause-room c =
    let mark = c.in-Some-eq65279-default in
    (after_mark c.args.text.now mark.rest.now mark.field-0-0 mark.ensures.bytes (grind (arith, nat_tests, mark.field-0-0-test)) c.requires).2
