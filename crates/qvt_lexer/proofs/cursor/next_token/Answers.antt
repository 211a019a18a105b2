use Rattle.std.proofs.Common.{refl, ap, ◌∙◌, arith, length, Ok}
use Rattle.std.specs.Str.{chars}
use Rattle.qvt_lexer.proofs.Ends.{end_of_end, end_same}
use Rattle.qvt_lexer.proofs.Steps.{step_blank, step_comment, step_shorter, step_token, step_fault}
use Rattle.qvt_lexer.specs.Cursors.{position_of}
use Rattle.qvt_lexer.proofs.cursor.next_token.Goals as goal

pub loop-c-preserved-in-Found-Blank-default : goal.loop-c-preserved-in-Found-Blank-default
loop-c-preserved-in-Found-Blank-default c =
    let next = c.advance-at.result in
    let rest = c.in-Found-Blank-default.rest.now in (
      step_blank (position_of c.args.start) c.loop-c.at next c.in-Some.c c.in-Some.more.now rest c.loop-c.invariant.0 c.in-Some.ensures.characters c.advance-at.ensures.rest
          c.advance-at.ensures.place (c.in-Found-Blank-default.ensures.gives ∙ ap (λ z. Ok (z, chars rest)) c.in-Found-Blank-default.field-0-is),
      end_same _ _ _ c.advance-at.ensures.rest (end_of_end _ _ _ c.loop-c.invariant.1 c.in-Found-Blank-default.ensures.end),
      omega (arith, c.loop-c.invariant.2, c.advance-at.ensures.offset, ap length c.advance-at.ensures.rest),
      (c.advance-at.ensures.room.0, c.advance-at.ensures.room.1, omega (arith, c.advance-at.ensures.room.2, ap length c.advance-at.ensures.rest)),
    )

pub loop-c-smaller-in-Found-Blank-default : goal.loop-c-smaller-in-Found-Blank-default
loop-c-smaller-in-Found-Blank-default c =
    step_shorter (position_of c.args.start) c.loop-c.at c.advance-at.result c.in-Some.c c.in-Some.more.now c.in-Found-Blank-default.rest.now c.loop-c.invariant.0 c.in-Some.ensures.characters
    c.advance-at.ensures.rest c.advance-at.ensures.place _ c.in-Found-Blank-default.ensures.gives c.in-Found-Blank-default.ensures.end

pub loop-c-preserved : goal.loop-c-preserved
loop-c-preserved c =
    let next = c.advance-at-in-Found-Comment-default.result in
    let rest = c.in-Found-Comment-default.rest.now in
    let moves = c.advance-at-in-Found-Comment-default.ensures in (
      step_comment (position_of c.args.start) c.loop-c.at next c.in-Some.c c.in-Some.more.now rest c.loop-c.invariant.0 c.in-Some.ensures.characters moves.rest
          moves.place (c.in-Found-Comment-default.ensures.gives ∙ ap (λ z. Ok (z, chars rest)) c.in-Found-Comment-default.field-0-is),
      end_same _ _ _ moves.rest (end_of_end _ _ _ c.loop-c.invariant.1 c.in-Found-Comment-default.ensures.end),
      omega (arith, c.loop-c.invariant.2, moves.offset, ap length moves.rest),
      (moves.room.0, moves.room.1, omega (arith, moves.room.2, ap length moves.rest)),
    )

pub loop-c-smaller : goal.loop-c-smaller
loop-c-smaller c =
    let moves = c.advance-at-in-Found-Comment-default.ensures in
    step_shorter (position_of c.args.start) c.loop-c.at c.advance-at-in-Found-Comment-default.result c.in-Some.c c.in-Some.more.now c.in-Found-Comment-default.rest.now c.loop-c.invariant.0
    c.in-Some.ensures.characters moves.rest moves.place _ c.in-Found-Comment-default.ensures.gives c.in-Found-Comment-default.ensures.end

pub returns-in-Found-Token-default-clause-read : goal.returns-in-Found-Token-default-clause-read
returns-in-Found-Token-default-clause-read c =
    step_token (position_of c.args.start) c.loop-c.at c.advance.result c.in-Some.c c.in-Some.more.now c.in-Found-Token-default.rest.now c.loop-c.invariant.0 c.in-Some.ensures.characters
    c.advance.ensures.rest c.advance.ensures.place c.in-Found-Token-default.kind _ refl refl
    (c.in-Found-Token-default.ensures.gives ∙ ap (λ z. Ok (z, chars c.in-Found-Token-default.rest.now)) c.in-Found-Token-default.field-0-is) c.before-text.utf8 c.before-text.ensures

pub returns-in-Fault-clause-fault : goal.returns-in-Fault-clause-fault
returns-in-Fault-clause-fault c =
    step_fault (position_of c.args.start) c.loop-c.at c.advance-found.result c.in-Some.c c.in-Some.more.now c.in-Fault.rest.now c.loop-c.invariant.0 c.in-Some.ensures.characters
    c.advance-found.ensures.rest c.advance-found.ensures.place _ c.in-Fault.ensures.gives refl
