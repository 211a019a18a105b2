use Rattle.std.proofs.Common.{◌∙◌, sym}
use Rattle.qvt_exec_words.proofs.Gathering.{pushed, pushed_behind, passed_one}
use Rattle.qvt_exec_words.proofs.literals.Gathered.push.Goals as goal

pub returns-then-not-self : goal.returns-then-not-self
returns-then-not-self c =
    pushed c.settle.result c.args.self.now c.put.new.self c.settle.new.self c.args.item c.if-not-self.true c.in_ok-put.ensures c.settle.ensures

pub returns-then-is_invalid : goal.returns-then-is_invalid
returns-then-is_invalid c =
    pushed_behind c.put-then-is_invalid.result c.args.self.now c.put-then-is_invalid.new.self c.args.item c.if-not-self.false c.put-then-is_invalid.ensures

pub returns : goal.returns
returns c =
    λ k all a. passed_one c.args.self.now k all c.args.item a c.if-not-self.false (sym c.is_invalid.ensures ∙ c.if-is_invalid.false)
