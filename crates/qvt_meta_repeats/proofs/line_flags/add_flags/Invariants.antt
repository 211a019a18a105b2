use Rattle.std.proofs.Common.{◌≡◌, ◌==◌, ◌||◌, ℕ, take}
use Rattle.std.specs.List.{list_any}
use Rattle.qvt_meta_names.specs.Named.{number_at}
use Rattle.qvt_meta_tables.specs.NumberSets.{has_number}
use Rattle.qvt_meta_repeats.specs.Flags.{number_flags}
use Rattle.qvt_meta_repeats.proofs.line_flags.add_flags.Given as goal

abbrev pub invariant-loop-place : goal.invariant-loop-place
invariant-loop-place l = record {
  flags : l.flags ≡ take l.place (number_flags l.numbers l.line);
  seen : (n : ℕ) → (has_number l.known n || has_number l.seen n) ≡ list_any (λ f. number_at l.numbers f == n) (take l.place l.line);
}
