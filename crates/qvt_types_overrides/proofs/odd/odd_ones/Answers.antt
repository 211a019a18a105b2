use Rattle.std.proofs.Common.{◌∙◌, ◌<◌, ◌++◌, [], ◌∷◌, length, not, ◌&&◌, ap, arith}
use Rattle.std.specs.Prelude.{if◌then◌else◌}
use Rattle.std.specs.Str.{bytes_eq}
use Rattle.qvt_types_groups.specs.declared.signature.Signature.{Signature}
use Rattle.qvt_types_groups.specs.Lists.{numbers_under}
use Rattle.qvt_types_groups.proofs.Lists.{where_next}
use Rattle.qvt_types_overrides.specs.Odd.{is_like_first, is_odd}
use Rattle.qvt_types_overrides.specs.Upper.{is_upper}
use Rattle.qvt_types_overrides.proofs.Parted.{asked_is}
use Rattle.qvt_types_overrides.proofs.odd.odd_ones.Goals as goal

pub loop-number-preserved : goal.loop-number-preserved
loop-number-preserved c = λ name.
    let m = c.args.metas.now in
    let us = c.args.units.now in
    let u = c.index-units-number.result in
    let under = numbers_under c.args.all.now in
    where_next (is_odd m c.args.maps us (under name) name) us c.loop-number.number c.index-units-number.result _ (numbers_under c.loop-number.odd name) _
    (let low : c.loop-number.number < length us = omega (arith, c.loop-number-test.true) in low)
    (c.loop-number.invariant name)
    (c.in_ok-odd.ensures name
    ∙ ap (λ b. numbers_under c.loop-number.odd name ++ (if bytes_eq name u.name && b then c.loop-number.number ∷ [] else [])) c.is_odd-is_one.ensures
    ∙ ap (λ b. numbers_under c.loop-number.odd name ++ (if b then c.loop-number.number ∷ [] else [])) (asked_is c.args.maps u (λ x. is_upper m u.context && not (is_like_first us (under x) u)) name)
    ∙ ap (λ (v : Signature). numbers_under c.loop-number.odd name ++ (if is_odd m c.args.maps us (under name) name v then c.loop-number.number ∷ [] else [])) c.index-units-number.is)
