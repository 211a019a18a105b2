use Rattle.std.proofs.Common.{◌≡◌, ◌+◌, ◌*◌, ◌≤◌, ◌<◌, length, map, Ok}
use Rattle.qvt_grammar.specs.Reader.{many_at, with_front}
use Rattle.qvt_language.specs.Tokens.{of}
use Rattle.qvt_parser_grammar.specs.Gives.{toks}
use Rattle.qvt_language.specs.Reading.{pre_at, link_at, chain_at, operators}
use Rattle.qvt_language.specs.Nesting.{nested_at}
use Rattle.qvt_tree_types.specs.View.{link_view}
use Rattle.qvt_parser_exprs.specs.Views.{lead_view}
use Rattle.qvt_parser_chains.proofs.chains.Chains.+chain.Given as goal

abbrev pub decreases-chain : goal.decreases-chain
decreases-chain g l = 5 * l.level + 0

abbrev pub decreases-link : goal.decreases-link
decreases-link g l = 5 * l.level + 1

abbrev pub decreases-operands : goal.decreases-operands
decreases-operands g l = 5 * l.level + 2

abbrev pub decreases-links : goal.decreases-links
decreases-links g l = 5 * l.level + 3

abbrev pub decreases-raised : goal.decreases-raised
decreases-raised g l = 5 * l.below + 4

abbrev pub invariant-chain-loop-below : goal.invariant-chain-loop-below
invariant-chain-loop-below g l = record {
  so_far : chain_at l.below (pre_at (nested_at (g.N.Nest.room l.self.inside.nest))) (pre_at (nested_at (g.N.Nest.room l.self.inside.nest))) (toks l.fn.parser) ≡ Ok (lead_view l.lead, toks l.parser);
  less : length (toks l.parser) < length (toks l.fn.parser);
}

abbrev pub invariant-operands-loop-parser : goal.invariant-operands-loop-parser
invariant-operands-loop-parser g l = record {
  so_far : many_at (of (operators l.level)) (link_at l.level (chain_at l.level (pre_at (nested_at (g.N.Nest.room l.self.inside.nest))) (pre_at (nested_at (g.N.Nest.room l.self.inside.nest))))) (toks l.fn.parser) ≡ with_front (map link_view l.links) (many_at (of (operators l.level)) (link_at l.level (chain_at l.level (pre_at (nested_at (g.N.Nest.room l.self.inside.nest))) (pre_at (nested_at (g.N.Nest.room l.self.inside.nest))))) (toks l.parser));
  fewer : length (toks l.parser) ≤ length (toks l.fn.parser);
}

abbrev pub decreases-operands-loop-parser : goal.decreases-operands-loop-parser
decreases-operands-loop-parser g l = length (toks l.parser)
