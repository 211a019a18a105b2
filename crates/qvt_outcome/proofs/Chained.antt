-- Chains one after the other: an end of the first is one of the whole, and what the first gives goes into the second.
use Rattle.std.proofs.Common.{◌≡◌, ◌∙◌, ◌≤◌, ◌+◌, ap, sym, subst, refl, ℕ, List, [], ◌∷◌, ◌++◌, Result, Ok, Err, Option, Some, inl, inr}
use Rattle.std.specs.Option.{IfSome}
use Rattle.qvt_base.specs.Outside.{FilesSeen, Rose, IsRead, found, missing, too_large, look}
use Rattle.qvt_base.specs.declared.outside.ReadAnswer.TheVariants as read
use Rattle.qvt_outcome.specs.Outcome.{Outcome, refused}
use Rattle.qvt_outcome.specs.Chain.{FileReading, Chain, step, on_ok, ◌>=>◌, read_of, read_step}
use Rattle.qvt_outcome.specs.Follows.{IsAmong, with_failed_name, NoneFailed, OneFailed, FailedAt, FailedBy, Follows}
use Rattle.qvt_outcome.specs.Steps.{Stops, GivesOrStops, IsFaultWith, IfFaultOf, RefusedOrNoMemory, ReadFaultOrNoMemory}
use Rattle.qvt_outcome.specs.declared.refusal.Refusal.{Refusal}
use Rattle.qvt_outcome.specs.declared.refusal.Refusal.TheVariants as refusal
use Rattle.qvt_outcome.specs.declared.stop.Stop.{Stop}
use Rattle.qvt_outcome.specs.declared.stop.Stop.TheVariants as stop

ended : {A B : Type 0} (e : Stop) (answer : Result A Outcome) (f : A → FileReading B) → Stops e answer → Stops e (on_ok answer f).answer
ended (stop.Refused file why) answer f h = ap (λ r. (on_ok r f).answer) h
ended (stop.Fault line) answer f h = ap (λ r. (on_ok r f).answer) h
ended (stop.OutOfFuel fuel) answer f h = ap (λ r. (on_ok r f).answer) h
ended (stop.Low model id feature) answer f h = ap (λ r. (on_ok r f).answer) h
ended (stop.ReadFault file) answer f h = h
ended stop.NoMemory answer f h = h

goes_on : {X A B : Type 0} (view : X → B) (r : Result X Stop) (answer : Result A Outcome) (a : A) (f : A → FileReading B) → answer ≡ Ok a → GivesOrStops view r (f a).answer
    → GivesOrStops view r (on_ok answer f).answer
goes_on view r answer a f is h = subst (λ s. GivesOrStops view r (on_ok s f).answer) (sym is) h

wider_stop : (e : Stop) (P Q : List ℕ → Type 0) → IsFaultWith e P → ((file : List ℕ) → P file → Q file) → IsFaultWith e Q
wider_stop (stop.Refused file why) P Q h f = h
wider_stop (stop.Fault line) P Q h f = h
wider_stop (stop.OutOfFuel fuel) P Q h f = h
wider_stop (stop.Low model id feature) P Q h f = h
wider_stop (stop.ReadFault file) P Q h f = f file h
wider_stop stop.NoMemory P Q h f = h

wider : {X : Type 0} (r : Result X Stop) (P Q : List ℕ → Type 0) → IfFaultOf r P → ((file : List ℕ) → P file → Q file) → IfFaultOf r Q
wider (Ok x) P Q h f = h
wider (Err e) P Q h f = wider_stop e P Q h f

among_first : (name : List ℕ) (names more : List (List ℕ)) → IsAmong name names → IsAmong name (names ++ more)
among_first name [] more h = absurd h
among_first name (x ∷ xs) more (inl h) = inl h
among_first name (x ∷ xs) more (inr h) = inr (among_first name xs more h)

among_later : (name : List ℕ) (names more : List (List ℕ)) → IsAmong name more → IsAmong name (names ++ more)
among_later name [] more h = h
among_later name (x ∷ xs) more h = inr (among_later name xs more h)

none_then : (old mid new : FilesSeen) → NoneFailed old mid → NoneFailed mid new → NoneFailed old new
none_then old mid new h k = record { reads = k.reads ∙ h.reads; failed = k.failed ∙ h.failed }

one_then : (file : List ℕ) (old mid new : FilesSeen) → NoneFailed old mid → OneFailed file mid new → OneFailed file old new
one_then file old mid new h k = record {
  rose = subst (λ n. Rose n new.reads) h.reads k.rose;
  one = subst (λ n. new.reads ≤ n + 1) h.reads k.one;
  failed = subst (λ told. new.failed ≡ with_failed_name file told) h.failed k.failed;
}

stop_then : (e : Stop) (old mid new : FilesSeen) → NoneFailed old mid → FailedAt e mid new → FailedAt e old new
stop_then (stop.Refused file why) old mid new h k = none_then old mid new h k
stop_then (stop.Fault line) old mid new h k = none_then old mid new h k
stop_then (stop.OutOfFuel fuel) old mid new h k = none_then old mid new h k
stop_then (stop.Low model id feature) old mid new h k = none_then old mid new h k
stop_then (stop.ReadFault file) old mid new h k = one_then file old mid new h k
stop_then stop.NoMemory old mid new h (inl k) = inl (none_then old mid new h k)
stop_then stop.NoMemory old mid new h (inr k) = inr (k.0, one_then k.0 old mid new h k.1)

failed_then : {X : Type 0} (r : Result X Stop) (old mid new : FilesSeen) → NoneFailed old mid → FailedBy r mid new → FailedBy r old new
failed_then (Ok x) old mid new h k = none_then old mid new h k
failed_then (Err e) old mid new h k = stop_then e old mid new h k

still : (s : FilesSeen) → NoneFailed s s
still s = record { reads = refl; failed = refl }

still_at : (e : Stop) (s : FilesSeen) → IsFaultWith e (λ file. ⊥) → FailedAt e s s
still_at (stop.Refused file why) s h = still s
still_at (stop.Fault line) s h = still s
still_at (stop.OutOfFuel fuel) s h = still s
still_at (stop.Low model id feature) s h = still s
still_at (stop.ReadFault file) s h = absurd h
still_at stop.NoMemory s h = inl (still s)

still_by : {X : Type 0} (r : Result X Stop) (s : FilesSeen) → IfFaultOf r (λ file. ⊥) → FailedBy r s s
still_by (Ok x) s h = still s
still_by (Err e) s h = still_at e s h

-- the first chain ended
pub stopped : {X Y A B : Type 0} (view : X → A) (seen : Y → B) (c : Chain A) (f : A → Chain B) (old new : FilesSeen) (e : Stop)
    → Follows view c old (Err e) new → Follows seen (c >=> f) old (Err e) new
stopped view seen c f old new e h = record {
  gives = λ held is. ended e (c held).answer (λ a. f a held) (h.gives held is);
  named = λ held is. wider_stop e (λ file. IsAmong file (c held).names) (λ file. IsAmong file ((c held).names ++ (on_ok (c held).answer (λ a. f a held)).names))
      (h.named held is) (λ file among. among_first file (c held).names _ among);
  reads = h.reads;
  held = h.held;
  writes = h.writes;
}

-- the first gave a value, and the second went on with it
pub chained : {X Y A B : Type 0} (view : X → A) (seen : Y → B) (c : Chain A) (f : A → Chain B) (old mid new : FilesSeen) (x : X) (r : Result Y Stop)
    → Follows view c old (Ok x) mid → Follows seen (f (view x)) mid r new → Follows seen (c >=> f) old r new
chained view seen c f old mid new x r h k = record {
  gives = λ held is. goes_on seen r (c held).answer (view x) (λ a. f a held) (h.gives held is) (k.gives held (h.held ∙ is));
  named = λ held is. wider r (λ file. IsAmong file (f (view x) held).names) (λ file. IsAmong file ((c held).names ++ (on_ok (c held).answer (λ a. f a held)).names))
      (k.named held (h.held ∙ is))
      (λ file among. among_later file (c held).names _ (subst (λ s. IsAmong file (on_ok s (λ a. f a held)).names) (sym (h.gives held is)) among));
  reads = failed_then r old mid new h.reads k.reads;
  held = k.held ∙ h.held;
  writes = k.writes ∙ h.writes;
}

-- a step that reads nothing
pub unread : {X A : Type 0} (view : X → A) (answer : Result A Outcome) (s : FilesSeen) (r : Result X Stop) → GivesOrStops view r answer → IfFaultOf r (λ file. ⊥)
    → Follows view (step answer) s r s
unread view answer s r h none = record {
  gives = λ held is. h;
  named = λ held is. wider r (λ file. ⊥) (λ file. IsAmong file []) none (λ file no. no);
  reads = still_by r s none;
  held = refl;
  writes = refl;
}

-- the first gave a value, and a step that reads nothing went on with it
pub stepped : {X Y A B : Type 0} (view : X → A) (seen : Y → B) (c : Chain A) (p : A → Result B Outcome) (old new : FilesSeen) (x : X) (r : Result Y Stop)
    → Follows view c old (Ok x) new → GivesOrStops seen r (p (view x)) → IfFaultOf r (λ file. ⊥) → Follows seen (c >=> (λ a. step (p a))) old r new
stepped view seen c p old new x r h k none = chained view seen c (λ a. step (p a)) old new new x r h (unread seen (p (view x)) new r k none)

-- One file that is read

refused_by : {A : Type 0} (name : List ℕ) (why : Refusal) (e : Stop) (answer : Result A Outcome) → RefusedOrNoMemory name why e → answer ≡ Err (refused name why) → Stops e answer
refused_by name why (stop.Refused file cause) answer h is = is ∙ (λ i. Err (refused (sym h.0 i) (sym h.1 i)))
refused_by name why (stop.Fault line) answer h is = absurd h
refused_by name why (stop.OutOfFuel fuel) answer h is = absurd h
refused_by name why (stop.Low model id feature) answer h is = absurd h
refused_by name why (stop.ReadFault file) answer h is = absurd h
refused_by name why stop.NoMemory answer h is = tt

at_refused : (name : List ℕ) (why : Refusal) (e : Stop) (old new : FilesSeen) → RefusedOrNoMemory name why e → NoneFailed old new → FailedAt e old new
at_refused name why (stop.Refused file cause) old new h k = k
at_refused name why (stop.Fault line) old new h k = absurd h
at_refused name why (stop.OutOfFuel fuel) old new h k = absurd h
at_refused name why (stop.Low model id feature) old new h k = absurd h
at_refused name why (stop.ReadFault file) old new h k = absurd h
at_refused name why stop.NoMemory old new h k = inl k

unnamed_refused : (name : List ℕ) (why : Refusal) (e : Stop) (P : List ℕ → Type 0) → RefusedOrNoMemory name why e → IsFaultWith e P
unnamed_refused name why (stop.Refused file cause) P h = tt
unnamed_refused name why (stop.Fault line) P h = absurd h
unnamed_refused name why (stop.OutOfFuel fuel) P h = absurd h
unnamed_refused name why (stop.Low model id feature) P h = absurd h
unnamed_refused name why (stop.ReadFault file) P h = absurd h
unnamed_refused name why stop.NoMemory P h = tt

told_by : {A : Type 0} (P : A → Type 0) (told : Option A) (x : A) → told ≡ Some x → IfSome told P → P x
told_by P told x is h = subst (λ t. IfSome t P) is h

quiet : (name : List ℕ) (limit : ℕ) (old new : FilesSeen) (bytes : List ℕ) → IsRead old name limit (read.Found bytes) new → NoneFailed old new
quiet name limit old new bytes h = record { reads = h.cause.kept; failed = h.failed }

-- a file was found
pub found_read : (name : List ℕ) (limit : ℕ) (old new : FilesSeen) (bytes : List ℕ) → IsRead old name limit (read.Found bytes) new
    → Follows (λ (b : List ℕ). b) (read_step name limit) old (Ok bytes) new
unfolding read_step
found_read name limit old new bytes h = record {
  gives = λ held is. ap (read_of name) (told_by (λ held. look held name limit ≡ found bytes) old.held held is h.found);
  named = λ held is. tt;
  reads = quiet name limit old new bytes h;
  held = h.held;
  writes = h.writes;
}

-- a file was missing, or too large
pub missing_read : (name : List ℕ) (limit : ℕ) (old new : FilesSeen) (e : Stop) → IsRead old name limit read.Missing new → RefusedOrNoMemory name refusal.Missing e
    → Follows {X = List ℕ} (λ b. b) (read_step name limit) old (Err e) new
unfolding read_step
missing_read name limit old new e h stops = record {
  gives = λ held is. refused_by name refusal.Missing e _ stops (ap (read_of name) (told_by (λ held. look held name limit ≡ missing) old.held held is h.found));
  named = λ held is. unnamed_refused name refusal.Missing e _ stops;
  reads = at_refused name refusal.Missing e old new stops (record { reads = h.cause.kept; failed = h.failed });
  held = h.held;
  writes = h.writes;
}

pub too_large_read : (name : List ℕ) (limit : ℕ) (old new : FilesSeen) (e : Stop) → IsRead old name limit read.TooLarge new → RefusedOrNoMemory name refusal.TooLarge e
    → Follows {X = List ℕ} (λ b. b) (read_step name limit) old (Err e) new
unfolding read_step
too_large_read name limit old new e h stops = record {
  gives = λ held is. refused_by name refusal.TooLarge e _ stops (ap (read_of name) (told_by (λ held. look held name limit ≡ too_large) old.held held is h.found));
  named = λ held is. unnamed_refused name refusal.TooLarge e _ stops;
  reads = at_refused name refusal.TooLarge e old new stops (record { reads = h.cause.kept; failed = h.failed });
  held = h.held;
  writes = h.writes;
}

one_failed : (name : List ℕ) (limit : ℕ) (old new : FilesSeen) → IsRead old name limit read.Failed new → OneFailed name old new
one_failed name limit old new h = record { rose = h.cause.failed; one = h.cause.one; failed = h.failed }

fault_stops : {A : Type 0} (name : List ℕ) (e : Stop) (answer : Result A Outcome) → ReadFaultOrNoMemory name e → Stops e answer
fault_stops name (stop.Refused file why) answer h = absurd h
fault_stops name (stop.Fault line) answer h = absurd h
fault_stops name (stop.OutOfFuel fuel) answer h = absurd h
fault_stops name (stop.Low model id feature) answer h = absurd h
fault_stops name (stop.ReadFault file) answer h = tt
fault_stops name stop.NoMemory answer h = tt

fault_named : (name : List ℕ) (e : Stop) → ReadFaultOrNoMemory name e → IsFaultWith e (λ file. IsAmong file (name ∷ []))
fault_named name (stop.Refused file why) h = absurd h
fault_named name (stop.Fault line) h = absurd h
fault_named name (stop.OutOfFuel fuel) h = absurd h
fault_named name (stop.Low model id feature) h = absurd h
fault_named name (stop.ReadFault file) h = inl h
fault_named name stop.NoMemory h = tt

fault_at : (name : List ℕ) (e : Stop) (old new : FilesSeen) → ReadFaultOrNoMemory name e → OneFailed name old new → FailedAt e old new
fault_at name (stop.Refused file why) old new h k = absurd h
fault_at name (stop.Fault line) old new h k = absurd h
fault_at name (stop.OutOfFuel fuel) old new h k = absurd h
fault_at name (stop.Low model id feature) old new h k = absurd h
fault_at name (stop.ReadFault file) old new h k = subst (λ f. OneFailed f old new) (sym h) k
fault_at name stop.NoMemory old new h k = inr (name, k)

-- a read failed
pub failed_read : (name : List ℕ) (limit : ℕ) (old new : FilesSeen) (e : Stop) → IsRead old name limit read.Failed new → ReadFaultOrNoMemory name e
    → Follows {X = List ℕ} (λ b. b) (read_step name limit) old (Err e) new
unfolding read_step
failed_read name limit old new e h stops = record {
  gives = λ held is. fault_stops name e _ stops;
  named = λ held is. fault_named name e stops;
  reads = fault_at name e old new stops (one_failed name limit old new h);
  held = h.held;
  writes = h.writes;
}

-- there was no memory for a file
pub unheld_read : (name : List ℕ) (limit : ℕ) (old new : FilesSeen) → IsRead old name limit read.NoMemory new
    → Follows {X = List ℕ} (λ b. b) (read_step name limit) old (Err stop.NoMemory) new
unfolding read_step
unheld_read name limit old new h = record {
  gives = λ held is. tt;
  named = λ held is. tt;
  reads = inl (record { reads = h.cause.kept; failed = h.failed });
  held = h.held;
  writes = h.writes;
}
