use Rattle.qvt_lexer.proofs.Unique as law
use Rattle.qvt_lexer.proofs.lexer.one_division.Goals as goal

pub returns-clause-division : goal.returns-clause-division
returns-clause-division c = law.one_division

pub returns-clause-fault : goal.returns-clause-fault
returns-clause-fault c = law.one_fault
