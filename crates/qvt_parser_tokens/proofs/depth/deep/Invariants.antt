use Rattle.std.proofs.Common.{◌≡◌, drop}
use Rattle.std.specs.Prelude.{reverse}
use Rattle.qvt_language.specs.Tokens.{toks_of}
use Rattle.qvt_parser_tokens.specs.Depth.{deep_from, deep}
use Rattle.qvt_parser_tokens.proofs.depth.deep.Given as goal

abbrev pub invariant-loop-token : goal.invariant-loop-token
invariant-loop-token l = deep_from l.fresh (reverse l.items) (toks_of (drop l.token-index l.tokens)) ≡ deep (toks_of l.fn.tokens)
