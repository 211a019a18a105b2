-- `main` is the block of its statements, over the calls of which 100 may be open.
use Rattle.std.proofs.Common.{◌≡◌, refl, None}
use Rattle.qvt_run_rules.specs.Cost.{spend_of}
use Rattle.qvt_meaning.specs.Run.{main_in, setting}
use Rattle.qvt_meaning.specs.Units as of_units
use Rattle.qvt_exec_answers.specs.declared.answering.Answering.{Answering}
use Rattle.qvt_exec_answers.specs.Answering.{program_of}
use Rattle.qvt_exec.specs.Calls.{calls_of, setting_of}
use Rattle.qvt_exec.specs.Mains.{main_of}

pub main_is : (a : Answering) → main_of a ≡ of_units.body_of (setting_of a) (calls_of a 100) None (main_in (program_of a).module_.units)
unfolding setting spend_of
main_is a = refl
