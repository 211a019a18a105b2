-- What conditions say of candidates, with costs that are told by numbers of 64 bits.
use Rattle.std.specs.Prelude.{◌≡◌}
use Rattle.qvt_base.specs.declared.numbers.Oid.{Oid}
use Rattle.qvt_store.specs.Contents.{Contents}
use Rattle.qvt_run_rules.specs.Resolve as rule
use Rattle.qvt_meaning.specs.Plain.{weighed}
use Rattle.qvt_exec_resolves.specs.Verdicts.{verdict_view}
use Rattle.qvt_exec_answers.specs.Answering.{program_of}
use Rattle.qvt_exec_answers.specs.Room.{told}
use Rattle.qvt_exec_answers.specs.declared.answering.Answering.{Answering}
use Rattle.qvt_exec_answers.specs.declared.questions.Question.{Question}
use Rattle.qvt_exec_answers.specs.declared.weights.Weight.{Weight}

pub record Weighs (w : rule.Weighed) (t : Weight) : Type 0 where
  pub verdict : verdict_view t.verdict ≡ w.verdict
  pub cost : t.cost ≡ told w.cost

-- the condition of a question over a store
abbrev pub test_of : Answering → Contents → Question → Oid → rule.Weighed
test_of a s q = weighed (program_of a) s q.locals.now q.place q.condition
