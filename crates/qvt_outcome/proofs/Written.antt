-- Files written one after the other.
use Rattle.std.proofs.Common.{arith, zero, suc, ◌≡◌, ◌∙◌, ap, sym, refl, subst, ℕ, ◌+◌, ◌<◌, ◌≤◌, List, [], ◌∷◌, ◌++◌, take, length, get_or, Option, Some, None}
use Rattle.std.specs.Option.{option_map}
use Rattle.std.specs.FinMap as finite
use Rattle.std.proofs.lemmas.List.{map_more, get_or-map, take-map, length-map}
use Rattle.qvt_base.specs.Outside.{Held, FilesSeen, BothTold, SameBut, IsWritten, Rose}
use Rattle.qvt_base.specs.declared.outside.WriteAnswer.TheVariants as write
use Rattle.qvt_outcome.specs.Outcome.{File, put_all, write_fault_line}
use Rattle.qvt_outcome.specs.Reported.{name_at}
use Rattle.qvt_outcome.specs.Plans.{file_of, files_in, HaveFaultLines, AllWritten, StoppedAt}
use Rattle.qvt_outcome.specs.declared.plan.Output.{Output}

put_all-append : (fs : List File) (f : File) (held : Held) → put_all (fs ++ f ∷ []) held ≡ finite.insert (put_all fs held) f.0 f.1
put_all-append [] f held = refl
put_all-append (x ∷ fs) f held = put_all-append fs f (finite.insert held x.0 x.1)

told : (before now : Option Held) (fs : List File) (f : File) → now ≡ option_map (put_all fs) before
    → option_map (λ held. finite.insert held f.0 f.1) now ≡ option_map (put_all (fs ++ f ∷ [])) before
told None now fs f is = ap (option_map (λ held. finite.insert held f.0 f.1)) is
told (Some held) now fs f is = ap (option_map (λ held. finite.insert held f.0 f.1)) is ∙ ap Some (sym (put_all-append fs f held))

-- the next file
wrote_next : (before now : Option Held) (outputs : List Output) (i : ℕ) (o : Output) (name bytes : List ℕ) → i < length outputs → o ≡ get_or outputs i o
    → name ≡ o.file → bytes ≡ o.bytes → now ≡ option_map (put_all (files_in (take i outputs))) before
    → option_map (λ held. finite.insert held name bytes) now ≡ option_map (put_all (files_in (take (i + 1) outputs))) before
wrote_next before now outputs i o name bytes within is name_is bytes_are so_far =
    (λ j. option_map (λ held. finite.insert held (name_is j) (bytes_are j)) now)
    ∙ told before now (files_in (take i outputs)) (file_of o) so_far
    ∙ ap (λ f. option_map (put_all (files_in (take i outputs) ++ f ∷ [])) before) (ap file_of is)
    ∙ ap (λ fs. option_map (put_all fs) before) (sym (map_more file_of outputs i o within))

moved : (before now after : Option Held) (name : List ℕ) (fs : List File) → now ≡ option_map (put_all fs) before
    → BothTold (SameBut name) now after → BothTold (λ old new. SameBut name (put_all fs old) new) before after
moved None now after name fs is stopped = none after (subst (λ t. BothTold (SameBut name) t after) is stopped) where
  none : (after : Option Held) → BothTold (SameBut name) None after → BothTold (λ old new. SameBut name (put_all fs old) new) None after
  none None h = h
  none (Some held) h = h
moved (Some held) now after name fs is stopped = some after (subst (λ t. BothTold (SameBut name) t after) is stopped) where
  some : (after : Option Held) → BothTold (SameBut name) (Some (put_all fs held)) after → BothTold (λ old new. SameBut name (put_all fs old) new) (Some held) after
  some None h = h
  some (Some new) h = h

-- the next file was written
pub one_more : (old now new : FilesSeen) (outputs : List Output) (i : ℕ) (o : Output) (name bytes : List ℕ) → i < length outputs → o ≡ get_or outputs i o
    → name ≡ o.file → bytes ≡ o.bytes → AllWritten (files_in (take i outputs)) old now → IsWritten now name bytes write.Written new
    → AllWritten (files_in (take (i + 1) outputs)) old new
one_more old now new outputs i o name bytes within is name_is bytes_are h k = record {
  held = k.held ∙ wrote_next old.held now.held outputs i o name bytes within is name_is bytes_are h.held;
  reads = record { reads = k.reads ∙ h.reads.reads; failed = k.failed ∙ h.reads.failed };
  writes = k.cause.kept ∙ h.writes;
}

-- the next file failed
pub stopped_next : (old now new : FilesSeen) (outputs : List Output) (i : ℕ) (o : Output) (file bytes : List ℕ) → i < length outputs → o ≡ get_or outputs i o
    → file ≡ o.file → AllWritten (files_in (take i outputs)) old now → IsWritten now file bytes write.Failed new
    → StoppedAt (files_in outputs) i old new
stopped_next old now new outputs i o file bytes within is file_is h k =
    let name : file ≡ name_at (files_in outputs) i = file_is ∙ ap (λ x. x.file) is ∙ sym (ap (λ f. f.0) (get_or-map file_of outputs i o ([], []) within)) in
    let front : files_in (take i outputs) ≡ take i (files_in outputs) = sym (take-map file_of i outputs) in
    record {
      within = subst (λ n. i < n) (sym (length-map outputs file_of)) within;
      held = subst (λ n. BothTold (λ before after. SameBut n (put_all (take i (files_in outputs)) before) after) old.held new.held) name
          (subst (λ fs. BothTold (λ before after. SameBut file (put_all fs before) after) old.held new.held) front
          (moved old.held now.held new.held file (files_in (take i outputs)) h.held k.held));
      reads = record { reads = k.reads ∙ h.reads.reads; failed = k.failed ∙ h.reads.failed };
      rose = subst (λ n. Rose n new.writes) h.writes k.cause.failed;
      one = subst (λ n. new.writes ≤ n + 1) h.writes k.cause.one;
    }

ready_at : (outputs : List Output) (k : ℕ) (d : Output) → k < length outputs → HaveFaultLines outputs → (get_or outputs k d).fault_line ≡ write_fault_line (get_or outputs k d).file
ready_at [] k d within ready = absurd (omega arith)
ready_at (o ∷ os) zero d within ready = ready.0
ready_at (o ∷ os) (suc k) d within ready = ready_at os k d (omega arith) ready.1

-- the line of a file that fails
pub line_at : (outputs : List Output) (k : ℕ) (o : Output) → k < length outputs → o ≡ get_or outputs k o → HaveFaultLines outputs
    → o.fault_line ≡ write_fault_line (name_at (files_in outputs) k)
line_at outputs k o within is ready = ap (λ x. x.fault_line) is ∙ ready_at outputs k o within ready
    ∙ ap write_fault_line (sym (ap (λ f. f.0) (get_or-map file_of outputs k o ([], []) within)))

-- the files that were handed in as a slice
pub all_among : (outputs slice : List Output) (old new : FilesSeen) → slice ≡ outputs → AllWritten (files_in slice) old new → AllWritten (files_in outputs) old new
all_among outputs slice old new is h = subst (λ os. AllWritten (files_in os) old new) is h

pub stopped_among : (outputs slice : List Output) (k : ℕ) (old new : FilesSeen) → slice ≡ outputs → StoppedAt (files_in slice) k old new
    → StoppedAt (files_in outputs) k old new
stopped_among outputs slice k old new is h = subst (λ os. StoppedAt (files_in os) k old new) is h

pub within_outputs : (outputs : List Output) (k : ℕ) → k < length (files_in outputs) → k < length outputs
within_outputs outputs k within = subst (λ n. k < n) (length-map outputs file_of) within
