use Rattle.qvt_language_rows.proofs.Answers.{answer_reads, answer_only, answer_rest, answer_fault}
use Rattle.qvt_language_rows.proofs.law.answers.Goals as goal

pub returns-clause-reads : goal.returns-clause-reads
returns-clause-reads c = answer_reads

pub returns-clause-one : goal.returns-clause-one
returns-clause-one c = answer_only

pub returns-clause-rest : goal.returns-clause-rest
returns-clause-rest c = answer_rest

pub returns-clause-fault : goal.returns-clause-fault
returns-clause-fault c = answer_fault
