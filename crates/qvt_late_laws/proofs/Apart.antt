-- What answers a request has no object twice, so a slot takes it as it is.
use Rattle.std.proofs.Common.{◌≡◌, ℕ, ◌+◌, Bool, true, false, ◌==◌, not, cond, if◌then◌else◌, refl, sym, ap, ◌∙◌, subst, List, [], ◌∷◌, ◌++◌, map, filter, filter_map, fold, append_assoc}
use Rattle.std.proofs.lemmas.Bool.Decides.{Decides-eqb}
use Rattle.qvt_base.specs.declared.numbers.Oid.{Oid}
use Rattle.qvt_metamodel.specs.Metamodels.{Metamodels, shape_of}
use Rattle.qvt_relation.proofs.Bools.{clash, none_left, none_right, or_none, refuted}
use Rattle.qvt_slots.specs.Contents.{Contents}
use Rattle.qvt_slots.specs.Repeats.{new_list}
use Rattle.qvt_slots.proofs.Repeating.{same_as_object}
use Rattle.qvt_value.specs.Kept.{is_same, firsts}
use Rattle.qvt_value.specs.Order.{order_of}
use Rattle.qvt_typing.specs.Accepts.{ProgramTerm}
use Rattle.qvt_value.specs.declared.value.Value.{Obj}
use Rattle.qvt_run_data.specs.declared.late.LateWrite.{LateWrite}
use Rattle.qvt_run_data.specs.declared.record.Record.{Record}
use Rattle.qvt_run_data.specs.declared.request.Request.{Request}
use Rattle.qvt_run_rules.specs.Locals.{local_of}
use Rattle.qvt_run_rules.specs.Resolve.{ResolveAnswer, Fails, Invalid, Passes, Stops, ConditionVerdict, Weighed, sifted, sifted_by}
use Rattle.qvt_run_rules.specs.Trace.{candidates, far_end, has_object, is_object_of, matched_by, with_new}
use Rattle.qvt_meaning.specs.Plain.{answer, weighed}
use Rattle.qvt_meaning.specs.Run.{Finish, answered, objects_in}

-- no object stands in the list twice
abbrev pub AreApart : List Oid → Type 0
AreApart [] = Unit {0}
AreApart (o ∷ os) = (has_object os o ≡ false) × AreApart os

other_way : (a b : ℕ) → (a == b) ≡ false → (b == a) ≡ false
other_way a b n = refuted (b == a) (λ h. clash (a == b) ((Decides-eqb a b).1 (sym ((Decides-eqb b a).0 h))) n)

not_among : (os : List Oid) (d o : Oid) → has_object os d ≡ false → (o.0 == d.0) ≡ false → has_object (os ++ o ∷ []) d ≡ false
not_among [] d o h n = or_none _ _ n refl
not_among (x ∷ os) d o h n = or_none _ _ (none_left (x.0 == d.0) _ h) (not_among os d o (none_right (x.0 == d.0) _ h) n)

with_last : (os : List Oid) (o : Oid) → AreApart os → has_object os o ≡ false → AreApart (os ++ o ∷ [])
with_last [] o h n = (refl, tt)
with_last (d ∷ os) o h n = (not_among os d o h.0 (other_way d.0 o.0 (none_left (d.0 == o.0) _ n)), with_last os o h.1 (none_right (d.0 == o.0) _ n))

with_first : (os : List Oid) (o : Oid) (b : Bool) → has_object os o ≡ b → AreApart os → AreApart (if b then os else os ++ o ∷ [])
with_first os o true e h = h
with_first os o false e h = with_last os o h e

folds : (done os : List Oid) → AreApart done → AreApart (fold with_new done os)
folds done [] h = h
folds done (o ∷ os) h = folds (with_new done o) os (with_first done o (has_object done o) refl h)

candidates_are : (rs : List Record) (s : Contents) (q : Request) → AreApart (candidates rs s q)
unfolding candidates
candidates_are rs s q = folds [] (filter (is_object_of s q.class.0) (filter_map (far_end q) (matched_by q q.sources rs))) tt

-- so are those of them that pass

not_in_front : (done os : List Oid) (d : Oid) → has_object (done ++ os) d ≡ false → has_object done d ≡ false
not_in_front [] os d h = refl
not_in_front (x ∷ done) os d h = or_none _ _ (none_left (x.0 == d.0) _ h) (not_in_front done os d (none_right (x.0 == d.0) _ h))

front_is : (done os : List Oid) → AreApart (done ++ os) → AreApart done
front_is [] os h = tt
front_is (d ∷ done) os h = (not_in_front done os d h.0, front_is done os h.1)

not_without : (done : List Oid) (o : Oid) (os : List Oid) (d : Oid) → has_object (done ++ o ∷ os) d ≡ false → has_object (done ++ os) d ≡ false
not_without [] o os d h = none_right (o.0 == d.0) _ h
not_without (x ∷ done) o os d h = or_none _ _ (none_left (x.0 == d.0) _ h) (not_without done o os d (none_right (x.0 == d.0) _ h))

without_one : (done : List Oid) (o : Oid) (os : List Oid) → AreApart (done ++ o ∷ os) → AreApart (done ++ os)
without_one [] o os h = h.1
without_one (d ∷ done) o os h = (not_without done o os d h.0, without_one done o os h.1)

moved_over : (done : List Oid) (o : Oid) (os : List Oid) → AreApart (done ++ o ∷ os) → AreApart ((done ++ o ∷ []) ++ os)
moved_over done o os h = subst AreApart (sym (append_assoc done (o ∷ []) os)) h

by_verdict : (v : ConditionVerdict) (one : Bool) (done : List Oid) (cost : ℕ) (o : Oid) (os : List Oid) (on : List Oid → ResolveAnswer) → AreApart (done ++ o ∷ os)
    → ((more : List Oid) → AreApart (more ++ os) → AreApart (objects_in (on more).found)) → AreApart (objects_in (sifted_by v one done cost o on).found)
by_verdict Passes true done cost o os on h k = front_is (done ++ o ∷ []) os (moved_over done o os h)
by_verdict Passes false done cost o os on h k = k (done ++ o ∷ []) (moved_over done o os h)
by_verdict Fails one done cost o os on h k = k done (without_one done o os h)
by_verdict (Invalid r p) one done cost o os on h k = tt
by_verdict (Stops e) one done cost o os on h k = tt

sifts : (test : Oid → Weighed) (one : Bool) (done : List Oid) (cost : ℕ) (os : List Oid) → AreApart (done ++ os) → AreApart (objects_in (sifted test one done cost os).found)
sifts test one done cost [] h = front_is done [] h
sifts test one done cost (o ∷ os) h =
    by_verdict (test o).verdict one done (cost + (test o).cost) o os (λ more. sifted test one more (cost + (test o).cost) os) h (λ more m. sifts test one more (cost + (test o).cost) os m)

pub answers_are_apart : (p : ProgramTerm) (f : Finish) (w : LateWrite) → AreApart (objects_in (answered p f w).answer.found)
unfolding answer
answers_are_apart p f w = sifts (weighed p f.store (map local_of w.vars) w.place w.condition) w.one [] 0 (candidates f.trace f.store w.request) (candidates_are f.trace f.store w.request)

-- such a list is without repeats

kept_all : (o : Oid) (os : List Oid) → has_object os o ≡ false → filter (λ w. not (is_same order_of (Obj o) w)) (map Obj os) ≡ map Obj os
kept_all o [] h = refl
kept_all o (x ∷ os) h = go (is_same order_of (Obj o) (Obj x)) (same_as_object o (Obj x) ∙ none_left (x.0 == o.0) _ h) (kept_all o os (none_right (x.0 == o.0) _ h))
  where
    go : (b : Bool) → b ≡ false → filter (λ w. not (is_same order_of (Obj o) w)) (map Obj os) ≡ map Obj os →
        cond (not b) (Obj x ∷ filter (λ w. not (is_same order_of (Obj o) w)) (map Obj os)) (filter (λ w. not (is_same order_of (Obj o) w)) (map Obj os)) ≡ Obj x ∷ map Obj os
    go true e ih = cc
    go false e ih = ap (λ l. Obj x ∷ l) ih

no_repeats : (os : List Oid) → AreApart os → firsts order_of (map Obj os) ≡ map Obj os
no_repeats [] h = refl
no_repeats (o ∷ os) h = ap (λ l. Obj o ∷ filter (λ w. not (is_same order_of (Obj o) w)) l) (no_repeats os h.1) ∙ ap (λ l. Obj o ∷ l) (kept_all o os h.0)

pub as_it_is : (m : Metamodels) (f : ℕ) (os : List Oid) → AreApart os → new_list m f (map Obj os) ≡ map Obj os
as_it_is m f os h = go (shape_of m f).unique
  where
    go : (b : Bool) → cond b (firsts order_of (map Obj os)) (map Obj os) ≡ map Obj os
    go true = no_repeats os h
    go false = refl
