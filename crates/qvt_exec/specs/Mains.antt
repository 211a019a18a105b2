-- A run of `main` that keeps requests alone.
use Rattle.qvt_store.specs.Contents.{Contents}
use Rattle.qvt_run_data.specs.declared.late.LateWrite.{LateWrite}
use Rattle.qvt_run_rules.specs.State.{Done, Does}
use Rattle.qvt_meaning.specs.Run.{main_does, main_run}
use Rattle.qvt_exec_answers.specs.declared.answering.Answering.{Answering}
use Rattle.qvt_exec_answers.specs.Answering.{program_of}

-- what is kept of a late assignment
abbrev pub as_it_is : LateWrite → LateWrite
as_it_is w = w

abbrev pub main_of : Answering → Does LateWrite (Unit {0})
main_of a = main_does as_it_is (program_of a) a.fuel

abbrev pub run_of : Answering → Contents → Done LateWrite (Unit {0})
run_of a store = main_run as_it_is (program_of a) a.fuel store
