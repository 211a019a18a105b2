use Rattle.std.proofs.Common.{sym, ap, ◌∙◌, Ok}
use Rattle.qvt_tree_types.specs.View.{head_view}
use Rattle.qvt_parser_grammar.specs.Gives.{toks}
use Rattle.qvt_language.specs.Nesting.{nested_at}
use Rattle.qvt_language.specs.Trees.{headed}
use Rattle.qvt_parser_exprs.specs.Views.{lead_view, head_rest_view}
use Rattle.qvt_parser_chains.proofs.Heads.{after_name}
use Rattle.qvt_parser_chains.proofs.chains.Chains.headed.Goals as goal

pub returns-clause-gives : goal.returns-clause-gives
returns-clause-gives g c =
    let rest = head_rest_view (c.in_ok-kind.kind, (c.in_ok-kind.accumulator, c.in_ok-kind.body)) in
    let name = c.in-Some.name in
    after_name (nested_at (g.N.Nest.room c.args.self.now.inside.nest)) (toks c.args.parser.now) (toks c.head_rest.new.parser) (lead_view c.args.lead) name rest (sym c.head_name.ensures ∙ c.in-Some.is) c.requires.head c.in_ok-kind.ensures.gives
    ∙ ap (λ h. Ok ((h, (headed name.text name.place rest).1), toks c.head_rest.new.parser)) (sym c.head_of-head.ensures)
    ∙ ap (λ es. Ok ((head_view c.head_of-head.result, es), toks c.head_rest.new.parser)) (sym c.in_ok-args.ensures)
