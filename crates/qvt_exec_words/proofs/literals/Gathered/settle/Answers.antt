use Rattle.std.proofs.Common.{◌∙◌, sym}
use Rattle.qvt_exec_words.proofs.Gathering.{settled_firsts}
use Rattle.qvt_exec_words.proofs.literals.Gathered.settle.Goals as goal

pub returns : goal.returns
returns c =
    λ k all a. settled_firsts c.args.self.now c.keep_firsts.new.self c.len-3.result k all (sym c.is_once.ensures ∙ c.if-not-is_once.false) c.in_ok-keep_firsts.ensures c.len-3.ensures a
