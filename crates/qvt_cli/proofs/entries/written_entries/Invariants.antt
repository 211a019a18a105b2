use Rattle.std.proofs.Common.{◌≡◌, map}
use Rattle.qvt_cli.specs.Entries.{entry_with}
use Rattle.qvt_cli.proofs.entries.written_entries.Given as goal

abbrev pub invariant-loop-entry : goal.invariant-loop-entry
invariant-loop-entry l = l.written ≡ map (entry_with l.trace l.store) l.yielded
