use Rattle.std.proofs.Common.{◌∙◌, [], ap, fold}
use Rattle.qvt_exec_types.specs.Program.{program_view}
use Rattle.qvt_meaning.specs.Program.{with_number}
use Rattle.qvt_exec_resolves.specs.Disjuncts.{from, next_of}
use Rattle.qvt_exec_resolves.proofs.Listed.{all_listed}
use Rattle.qvt_exec_resolves.proofs.disjuncts.listed_with.Goals as goal

pub returns : goal.returns
returns c =
    c.in_ok-listed.ensures
    ∙ ap (λ n. fold with_number [] (from (next_of (program_view c.args.program.now)) n c.args.mapping)) c.len-depth.ensures
    ∙ all_listed c.args.program.now c.args.mapping
