use Rattle.std.proofs.Common.{◌≡◌, ◌<◌, length, Ok}
use Rattle.qvt_parser_grammar.specs.Gives.{toks}
use Rattle.qvt_language.specs.Reading.{pre_at, lead_pre_at, chain_at}
use Rattle.qvt_language.specs.Nesting.{nested_at}
use Rattle.qvt_parser_exprs.specs.Views.{lead_view}
use Rattle.qvt_parser_chains.proofs.chains.Chains.lead.Given as goal

abbrev pub invariant-loop-below : goal.invariant-loop-below
invariant-loop-below g l = record {
  so_far : chain_at l.below (lead_pre_at (nested_at (g.N.Nest.room l.self.inside.nest))) (pre_at (nested_at (g.N.Nest.room l.self.inside.nest))) (toks l.fn.parser) ≡ Ok (lead_view l.lead, toks l.parser);
  less : length (toks l.parser) < length (toks l.fn.parser);
}
