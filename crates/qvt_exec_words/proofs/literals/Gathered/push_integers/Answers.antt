use Rattle.std.proofs.Common.{◌≡◌, arith, to_z, of_z, w64}
use Rattle.std.specs.Prelude.{ℤ, pos, ◌+ℤ◌, ◌<ℤ◌}
use Rattle.std.proofs.lemmas.Int.{ints, to_z-of_z}
use Rattle.qvt_exec_words.proofs.Ranges.{at_first, one_more_at, none_needed, all_done, ends_at, read_yes, read_no}
use Rattle.qvt_exec_words.proofs.literals.Gathered.push_integers.Goals as goal

pub loop-number-init : goal.loop-number-init
loop-number-init c = at_first (to_z w64 (of_z w64 c.args.first)) (to_z w64 (of_z w64 c.args.last)) c.args.self.now

pub loop-number-preserved : goal.loop-number-preserved
loop-number-preserved c =
    let first = to_z w64 (of_z w64 c.args.first) in
    let last = to_z w64 (of_z w64 c.args.last) in
    let n = to_z w64 c.loop-number.number-bits in
    let fits : to_z w64 (of_z w64 (n +ℤ pos 1)) ≡ n +ℤ pos 1 = first_of (omega (arith, ints), grind (arith, ints)) in
    one_more_at first last n (to_z w64 (of_z w64 (n +ℤ pos 1))) _ c.args.self.now c.loop-number.self c.push.new.self (read_yes n last c.loop-number-test.true) fits c.loop-number.invariant c.in_ok-push.ensures (omega (arith, ints))

pub returns-then-self : goal.returns-then-self
returns-then-self c =
    let first = to_z w64 (of_z w64 c.args.first) in
    let last = to_z w64 (of_z w64 c.args.last) in
    let n = to_z w64 c.loop-number.number-bits in
    ends_at c.args.first c.args.last first last c.args.self.now c.loop-number.self (to_z-of_z w64 c.args.first c.ranges.first) (to_z-of_z w64 c.args.last c.ranges.last)
    (none_needed first last n c.args.self.now c.loop-number.self c.if-self.true c.loop-number.invariant)

pub returns-in_ok-push : goal.returns-in_ok-push
returns-in_ok-push c =
    let first = to_z w64 (of_z w64 c.args.first) in
    let last = to_z w64 (of_z w64 c.args.last) in
    let n = to_z w64 c.loop-number.number-bits in
    let over : last <ℤ (n +ℤ pos 1) = first_of (omega (arith, ints), grind (arith, ints)) in
    ends_at c.args.first c.args.last first last c.args.self.now c.push.new.self (to_z-of_z w64 c.args.first c.ranges.first) (to_z-of_z w64 c.args.last c.ranges.last)
    (
    all_done first last (n +ℤ pos 1) c.args.self.now c.push.new.self over
    (one_more_at first last n (n +ℤ pos 1) _ c.args.self.now c.loop-number.self c.push.new.self (read_yes n last c.loop-number-test.true) (omega (arith, ints)) c.loop-number.invariant c.in_ok-push.ensures (omega (arith, ints)))
    )

pub returns : goal.returns
returns c =
    let first = to_z w64 (of_z w64 c.args.first) in
    let last = to_z w64 (of_z w64 c.args.last) in
    let n = to_z w64 c.loop-number.number-bits in
    ends_at c.args.first c.args.last first last c.args.self.now c.loop-number.self (to_z-of_z w64 c.args.first c.ranges.first) (to_z-of_z w64 c.args.last c.ranges.last)
    (all_done first last n c.args.self.now c.loop-number.self (read_no n last c.loop-number-test.false) c.loop-number.invariant)
