use Rattle.std.proofs.Common.{◌≡◌, map, drop}
use Rattle.std.specs.Prelude.{All}
use Rattle.qvt_meaning.specs.Run.{patched}
use Rattle.qvt_live_store.specs.Held.{contents_of}
use Rattle.qvt_run_laws.specs.Entries.{CanBeWritten}
use Rattle.qvt_exec_finish.specs.Entries.{entry_view}
use Rattle.qvt_exec_finish.specs.Patches.{value_of}
use Rattle.qvt_exec_finish.proofs.patches.patch_all.Given as goal

abbrev pub invariant-loop-entry : goal.invariant-loop-entry
invariant-loop-entry l = record {
  fit : All (CanBeWritten (contents_of l.store)) (map entry_view l.entries);
  left : patched (contents_of l.fn.store) (map value_of l.entries) ≡ patched (contents_of l.store) (map value_of (drop l.entry-index l.entries));
}
