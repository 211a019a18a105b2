use Rattle.std.proofs.Common.{◌≡◌, map, take}
use Rattle.qvt_metamodel.specs.Lists.{front_of}
use Rattle.qvt_meta_repeats.specs.Flags.{number_flags, NamesAre}
use Rattle.qvt_meta_repeats.proofs.line_flags.all_line_flags.Given as goal

abbrev pub invariant-loop-at : goal.invariant-loop-at
invariant-loop-at l = record {
  all : l.all ≡ map (number_flags l.numbers) (take l.at l.lists.lines);
  held : NamesAre l.numbers (front_of l.lists.lines l.held.front) l.held.names;
}
