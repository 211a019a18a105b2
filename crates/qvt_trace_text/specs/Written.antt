-- What a run that has ended well has for its trace.
use Rattle.std.specs.Prelude.{◌≡◌, List, map}
use Rattle.qvt_run_data.specs.declared.record.Record.{Record}
use Rattle.qvt_run_rules.specs.Trace.{candidates}
use Rattle.qvt_store.specs.Contents.{Contents}
use Rattle.qvt_meaning.specs.Run.{AnsweredWrite, Finish, FinishedRun, late_value}
use Rattle.qvt_trace_text.specs.declared.entry.WrittenEntry.{WrittenEntry}

-- an entry over what the last statement left
abbrev pub written_entry : Finish → AnsweredWrite → WrittenEntry
written_entry f e = record { write = e.write; candidates = candidates f.trace f.store e.write.request; values = (late_value e).values }

-- the store, the records and the entries of a run
pub record IsWrittenRun (f : FinishedRun) (s : Contents) (rs : List Record) (es : List WrittenEntry) : Type 0 where
  pub store : f.after ≡ s
  pub records : f.finish.trace ≡ rs
  pub entries : map (written_entry f.finish) f.entries ≡ es
