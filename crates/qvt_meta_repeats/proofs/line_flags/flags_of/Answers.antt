use Rattle.std.proofs.Common.{◌∙◌, [], ap, arith, get_or, length, sym, take}
use Rattle.std.proofs.lemmas.List.{get_or_read}
use Rattle.qvt_meta_repeats.specs.Flags.{number_flags}
use Rattle.qvt_meta_repeats.proofs.Flags.{flags_begun, flags_there, flags_within}
use Rattle.qvt_meta_repeats.proofs.line_flags.flags_of.Goals as goal

pub begun-requires : goal.begun-requires
begun-requires c =
    let lines = c.args.lists.now.lines in
    let there = flags_there c.args.numbers.now lines c.args.at c.in-Some.front c.in-Some.ensures c.args.all.now c.requires.all c.requires.at in
    let within = flags_within c.args.numbers.now lines c.args.at c.in-Some.front c.in-Some.ensures c.args.all.now c.requires.all in
    omega (arith, within, ap (λ x. length x) (get_or_read c.args.all.now c.in-Some.front.line _ there c.index-all-front.is []))

pub add_flags-requires-2-clause-flags : goal.add_flags-requires-2-clause-flags
add_flags-requires-2-clause-flags c =
    let lines = c.args.lists.now.lines in
    let there = flags_there c.args.numbers.now lines c.args.at c.in-Some.front c.in-Some.ensures c.args.all.now c.requires.all c.requires.at in
    c.in_ok-flags-2.ensures
    ∙ ap (take c.in-Some.front.count) (get_or_read c.args.all.now c.in-Some.front.line _ there c.index-all-front.is [])
    ∙ flags_begun c.args.numbers.now lines c.args.at c.in-Some.front c.in-Some.ensures c.args.all.now c.requires.all
    ∙ ap (λ line. take c.in-Some.front.count (number_flags c.args.numbers.now line)) (sym (c.as_slice-line.ensures ∙ get_or_read lines c.args.at _ c.requires.at (c.index-lines-at.is ∙ ap (λ ls. get_or ls c.args.at c.index-lines-at.result) c.lines.ensures) []))
