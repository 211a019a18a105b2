use Rattle.std.proofs.Common.{◌≡◌, arith, get_or, ap}
use Rattle.std.proofs.lemmas.Str.{IsCharBoundary-after_ascii}
use Rattle.qvt_parser_tokens.proofs.said.name_of.Goals as goal

pub range-requires-clause-start_boundary : goal.range-requires-clause-start_boundary
range-requires-clause-start_boundary c =
    let same = c.as_bytes-bytes.ensures.value in
    let here : get_or c.as_bytes-bytes.result.now 1 0 ≡ 39 = omega arith in
    λ _. IsCharBoundary-after_ascii c.args.text.now 1 c.utf8.text (omega arith) (omega (arith, here, ap (λ z. get_or z 1 0) same))
