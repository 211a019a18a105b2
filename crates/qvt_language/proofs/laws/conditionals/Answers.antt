use Rattle.qvt_language.proofs.Conditionals.{forms_of, stmt_of}
use Rattle.qvt_language.proofs.laws.conditionals.Goals as goal

pub returns-clause-forms : goal.returns-clause-forms
returns-clause-forms c = forms_of

pub returns-clause-read : goal.returns-clause-read
returns-clause-read c = stmt_of
