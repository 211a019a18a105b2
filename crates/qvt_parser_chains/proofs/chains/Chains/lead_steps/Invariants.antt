use Rattle.std.proofs.Common.{◌≡◌, ◌≤◌, length, map}
use Rattle.qvt_grammar.specs.Reader.{ended_at}
use Rattle.qvt_language.specs.Tokens.{of}
use Rattle.qvt_parser_grammar.specs.Gives.{toks}
use Rattle.qvt_language.specs.Firsts.{step_first}
use Rattle.qvt_language.specs.Reading.{lead_step_at}
use Rattle.qvt_language.specs.Nesting.{nested_at}
use Rattle.qvt_parser_grammar.proofs.EndedLoops.{turns_before}
use Rattle.qvt_tree_types.specs.View.{step_view}
use Rattle.qvt_parser_chains.proofs.chains.Chains.lead_steps.Given as goal

abbrev pub invariant-loop-parser : goal.invariant-loop-parser
invariant-loop-parser g l = record {
  so_far : ended_at (of step_first) (lead_step_at (nested_at (g.N.Nest.room l.self.inside.nest))) (toks l.fn.parser) ≡ turns_before (map step_view l.steps) (ended_at (of step_first) (lead_step_at (nested_at (g.N.Nest.room l.self.inside.nest))) (toks l.parser));
  fewer : length (toks l.parser) ≤ length (toks l.fn.parser);
}

abbrev pub decreases-loop-parser : goal.decreases-loop-parser
decreases-loop-parser g l = length (toks l.parser)
