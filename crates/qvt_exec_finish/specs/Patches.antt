-- Late entries that are written into their slots.
use Rattle.std.specs.Prelude.{◌≡◌, List, map, Result, Ok, Err}
use Rattle.qvt_base.specs.declared.numbers.Place.{Place}
use Rattle.qvt_store.specs.Contents.{Contents}
use Rattle.qvt_slots.specs.declared.fault.StoreFault.{StoreFault}
use Rattle.qvt_run_data.specs.declared.exit.End.{End}
use Rattle.qvt_run_data.specs.declared.late.LateValue.{LateValue}
use Rattle.qvt_meaning.specs.Run as run
use Rattle.qvt_exec_finish.specs.Entries.{entry_view}
use Rattle.qvt_exec_finish.specs.declared.entries.Entry.{Entry}
use Rattle.qvt_exec_finish.specs.declared.stop.RunStop.{RunStop}
use Rattle.qvt_exec_finish.specs.declared.stop.RunStop.TheVariants.{Ends, NoMemory}

-- what an entry writes
abbrev pub value_of : Entry → LateValue
value_of e = run.late_value (entry_view e)

-- a change, or the fault of its refusal at a place, whatever follows
abbrev pub WritesPatch : Result Contents StoreFault → Place → Result (Unit {0}) RunStop → Contents → Type 0
WritesPatch r at (Ok u) new = r ≡ Ok new
WritesPatch r at (Err (Ends e)) new = (on : Contents → Result Contents End) → run.patch_on r at on ≡ Err e
WritesPatch r at (Err NoMemory) new = Unit {0}

abbrev pub Patches : Contents → Entry → Result (Unit {0}) RunStop → Contents → Type 0
Patches old e result new = WritesPatch (run.written old (value_of e)) e.write.place result new

-- all of them, or the fault of the first that is refused
abbrev pub PatchesAll : Contents → List Entry → Result (Unit {0}) RunStop → Contents → Type 0
PatchesAll old es (Ok u) new = run.patched old (map value_of es) ≡ Ok new
PatchesAll old es (Err (Ends e)) new = run.patched old (map value_of es) ≡ Err e
PatchesAll old es (Err NoMemory) new = Unit {0}
