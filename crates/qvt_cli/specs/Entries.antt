-- Late entries of a run that has ended, with what they found (QVT 1.3, 8.1.10).
use Rattle.std.specs.Prelude.{◌≡◌, ℕ, List, map, Ok}
use Rattle.qvt_run_rules.specs.Trace.{candidates}
use Rattle.qvt_run_data.specs.declared.record.Record.{Record}
use Rattle.qvt_store.specs.Contents.{Contents}
use Rattle.qvt_meaning.specs.Accepts.{ProgramTerm}
use Rattle.qvt_meaning.specs.Run.{FinishedRun, finished, late_value, patched}
use Rattle.qvt_trace_text.specs.declared.entry.WrittenEntry.{WrittenEntry}
use Rattle.qvt_exec.specs.declared.entries.Entry.{Entry}

-- over the records and a store
abbrev pub entry_with : List Record → Contents → Entry → WrittenEntry
entry_with records store e = record { write = e.write; candidates = candidates records store e.write.request; values = e.objects }

-- a run that has ended well has written its entries in order into the store that its last statement left
abbrev pub EntriesAreWritten : Type 0
EntriesAreWritten = (p : ProgramTerm) (store : Contents) (fuel : ℕ) (f : FinishedRun) → finished p store fuel ≡ Ok f → patched f.finish.store (map late_value f.entries) ≡ Ok f.after
