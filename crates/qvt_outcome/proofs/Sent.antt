-- A text that goes out in pieces.
use Rattle.std.proofs.Common.{◌≡◌, ◌∙◌, ◌≤◌, ap, sym, refl, subst, ℕ, ◌+◌, List, [], ◌++◌, take, drop, Option, Some, None, append_assoc, append-nil}
use Rattle.std.proofs.Math.Seq.{take-add}
use Rattle.qvt_base.specs.Outside.{SinkSeen, Rose, IsSent}
use Rattle.qvt_base.specs.declared.outside.SinkAnswer.TheVariants as sink
use Rattle.qvt_outcome.specs.Reported.{appended, IsWhole, IsCut}

both_parts : (told : Option (List ℕ)) (text more : List ℕ) → appended more (appended text told) ≡ appended (text ++ more) told
both_parts None text more = refl
both_parts (Some bytes) text more = ap Some (append_assoc bytes text more)

nothing_more : (told : Option (List ℕ)) → appended [] told ≡ told
nothing_more None = refl
nothing_more (Some bytes) = ap Some (append-nil bytes)

-- the next piece of the text
pub next_piece : (old now new : SinkSeen) (at n : ℕ) (text piece : List ℕ) → piece ≡ drop at text → IsWhole (take at text) old now → IsSent now piece (sink.Taken n) new
    → IsWhole (take (at + n) text) old new
next_piece old now new at n text piece is h k = record {
  written = k.taken
      ∙ ap (appended (take n piece)) h.written
      ∙ both_parts old.written (take at text) (take n piece)
      ∙ ap (λ p. appended (take at text ++ take n p) old.written) is
      ∙ ap (λ t. appended t old.written) (sym (take-add at n text));
  faults = k.cause.kept ∙ h.faults;
}

-- the sink failed on the next piece
pub cut_piece : (old now new : SinkSeen) (at : ℕ) (text piece : List ℕ) → IsWhole (take at text) old now → IsSent now piece sink.Failed new → IsCut text old new
cut_piece old now new at text piece h k = record {
  front = at;
  written = k.taken ∙ nothing_more now.written ∙ h.written;
  rose = subst (λ n. Rose n new.faults) h.faults k.cause.failed;
  one = subst (λ n. new.faults ≤ n + 1) h.faults k.cause.one;
}
