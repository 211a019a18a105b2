use Rattle.std.proofs.Common.{[], take}
use Rattle.std.specs.Prelude.{slice_index_or}
use Rattle.qvt_meta_repeats.specs.Flags.{NamesAre}
use Rattle.qvt_meta_repeats.proofs.line_flags.FrontNames.hold.Given as goal

abbrev pub invariant-loop-place : goal.invariant-loop-place
invariant-loop-place l = NamesAre l.numbers (take l.place (slice_index_or l.lists.lines l.front.line [])) l.self.names
