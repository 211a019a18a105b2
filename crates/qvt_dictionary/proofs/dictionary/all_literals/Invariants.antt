use Rattle.std.proofs.Common.{◌≡◌, ◌<◌, ℕ, [], length}
use Rattle.std.specs.Prelude.{slice_index_or}
use Rattle.qvt_metas.specs.Named.{enumeration_at}
use Rattle.qvt_dictionary.proofs.dictionary.all_literals.Given as goal

abbrev pub invariant-loop-enumeration : goal.invariant-loop-enumeration
invariant-loop-enumeration l = record {
  count : length l.sets ≡ l.enumeration;
  each : (e : ℕ) → e < length l.sets → slice_index_or l.sets e [] ≡ (enumeration_at l.metas l.metamodel e).literals;
}
