use Rattle.std.proofs.Common.{◌≡◌, ◌+◌, [], length}
use Rattle.qvt_lexer.specs.Cursors.{position_of}
use Rattle.qvt_lexer.specs.Division.{ReadsTokens}
use Rattle.qvt_lexer.specs.Ends.{IsEndOf}
use Rattle.qvt_lexer.specs.Rooms.{HasPlaceRoom}
use Rattle.qvt_lexer.proofs.cursor.next_token.Given as goal

abbrev pub invariant-loop-c : goal.invariant-loop-c
invariant-loop-c l =
    ReadsTokens (position_of l.fn.start) (position_of l.at) [] × IsEndOf l.fn.start.rest.now l.at.rest.now
    × (l.at.place.offset + length l.at.rest.now ≡ l.fn.start.place.offset + length l.fn.start.rest.now) × HasPlaceRoom l.at.place l.at.rest.now

abbrev pub decreases-loop-c : goal.decreases-loop-c
decreases-loop-c l = length l.at.rest.now
