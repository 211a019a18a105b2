use Rattle.std.proofs.Common.{◌∙◌, ◌||◌, ◌==◌, [], ap, arith, sym}
use Rattle.std.proofs.lemmas.List.{take_all}
use Rattle.qvt_meta_tables.specs.NumberSets.{has_number}
use Rattle.qvt_meta_repeats.specs.Flags.{number_flags, same_number}
use Rattle.qvt_meta_repeats.proofs.Flags.{flags_count, flags_next, seen_next, or_assoc}
use Rattle.qvt_meta_repeats.proofs.line_flags.add_flags.Goals as goal

pub loop-place-preserved : goal.loop-place-preserved
loop-place-preserved c =
    let numbers = c.args.numbers.now in
    let line = c.args.line.now in
    let i = c.loop-place.place in
    let known = has_number c.args.known.now in
    let seen = has_number c.loop-place.seen in
    record {
      flags = flags_next (same_number numbers) c.loop-place.flags _ c.either_has.result line i _ c.loop-place-test.true
          (c.either_has.ensures ∙ ap (λ n. known n || seen n) c.number_at-number.ensures ∙ c.loop-place.invariant.seen _)
          c.loop-place.invariant.flags c.in_ok-push.ensures;
      seen = λ n.
          ap (λ b. known n || b) (c.in_ok-put.ensures.ok n)
          ∙ or_assoc (known n) (seen n) (c.number_at-number.result == n)
          ∙ (λ t. c.loop-place.invariant.seen n t || (c.number_at-number.ensures t == n))
          ∙ sym (seen_next numbers line i n _ c.loop-place-test.true);
    }

pub returns : goal.returns
returns c =
    c.loop-place.invariant.flags
    ∙ take_all c.loop-place.place (number_flags c.args.numbers.now c.args.line.now) (omega (arith, c.loop-place-test.false, flags_count (same_number c.args.numbers.now) [] c.args.line.now))
