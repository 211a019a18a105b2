-- What answers a late assignment can be assigned to its slot.
use Rattle.std.proofs.Common.{◌≡◌, ◌∙◌, ℕ, ◌+◌, Bool, true, false, ◌&&◌, if◌then◌else◌, refl, sym, subst, List, [], ◌∷◌, ◌++◌, map, filter, filter_map, fold, Result, Ok, Err}
use Rattle.std.specs.List.{list_all}
use Rattle.qvt_base.specs.declared.numbers.Oid.{Oid}
use Rattle.qvt_metamodel.specs.declared.info.TypeKind.{TypeKind}
use Rattle.qvt_metamodel.specs.declared.info.TypeKind.TheVariants.{Bool as BoolKind, Int as IntKind, Str as StrKind, Enum as EnumKind, Class as ClassKind}
use Rattle.qvt_metamodel.specs.Metamodels.{Metamodels, shape_of, has_feature}
use Rattle.qvt_metamodel.specs.Descends.{descends, is_class_kind}
use Rattle.qvt_metamodel.specs.WellFormed.{IsWellFormed, IsRegular, Regular}
use Rattle.qvt_slots.specs.Contents.{Contents, class_of, is_live}
use Rattle.qvt_slots.specs.Types.{is_of_kind, is_of_type}
use Rattle.qvt_typing.specs.Accepts.{ProgramTerm}
use Rattle.qvt_value.specs.declared.value.Value.{Obj}
use Rattle.qvt_run_data.specs.declared.exit.End.{End}
use Rattle.qvt_run_data.specs.declared.exit.Exit.{Exit}
use Rattle.qvt_run_data.specs.declared.exit.Exit.TheVariants.{Returned, Ends}
use Rattle.qvt_run_data.specs.declared.late.LateWrite.{LateWrite}
use Rattle.qvt_run_data.specs.declared.record.Record.{Record}
use Rattle.qvt_run_data.specs.declared.request.Request.{Request}
use Rattle.qvt_run_rules.specs.State.{State}
use Rattle.qvt_run_rules.specs.Locals.{local_of}
use Rattle.qvt_run_rules.specs.Resolve.{ConditionVerdict, Passes, Fails, Invalid, Stops, Weighed, ResolveAnswer, sifted_by, sifted}
use Rattle.qvt_run_rules.specs.Trace.{candidates, far_end, has_object, is_object_of, matched_by, with_new}
use Rattle.qvt_meaning.specs.Laws.{request_run, answered_from, from_requests}
use Rattle.qvt_meaning.specs.Plain.{answer, weighed}
use Rattle.qvt_meaning.specs.Run.{Finish, AnsweredWrite, FinishedRun, answered, finish_of, walk, patched, objects_in, late_value, finished_as, carried_out}
use Rattle.qvt_meaning_laws.proofs.Runs.{one_pass}
use Rattle.qvt_run_laws.proofs.Every.{Every, every-append, all_of}
use Rattle.qvt_run_laws.specs.Entries.{IsFor, CanBeWritten, AnswersFit, EntriesFit}
use Rattle.qvt_run_laws.proofs.Fitting.{every_fits}

both : (a b : Bool) → a ≡ true → b ≡ true → (a && b) ≡ true
both true b h k = k
both false b h k = absurd (cc)

left_of : (a b : Bool) → (a && b) ≡ true → a ≡ true
left_of true b h = refl
left_of false b h = absurd (cc)

right_of : (a b : Bool) → (a && b) ≡ true → b ≡ true
right_of true b h = h
right_of false b h = absurd (cc)

-- What is found is among the candidates.

module _ (P : Oid → Type 0) where
  by_verdict : (v : ConditionVerdict) (one : Bool) (done : List Oid) (cost : ℕ) (o : Oid) (on : List Oid → ResolveAnswer) → Every P done → P o → ((more : List Oid) → Every P more → Every P (objects_in (on more).found))
      → Every P (objects_in (sifted_by v one done cost o on).found)
  by_verdict Passes true done cost o on d h k = every-append P done (o ∷ []) d (h, tt)
  by_verdict Passes false done cost o on d h k = k (done ++ o ∷ []) (every-append P done (o ∷ []) d (h, tt))
  by_verdict Fails one done cost o on d h k = k done d
  by_verdict (Invalid r p) one done cost o on d h k = tt
  by_verdict (Stops e) one done cost o on d h k = tt

  sifts : (test : Oid → Weighed) (one : Bool) (done : List Oid) (cost : ℕ) (os : List Oid) → Every P done → Every P os → Every P (objects_in (sifted test one done cost os).found)
  sifts test one done cost [] d h = d
  sifts test one done cost (o ∷ os) d h =
      by_verdict (test o).verdict one done (cost + (test o).cost) o (λ more. sifted test one more (cost + (test o).cost) os) d h.0 (λ more m. sifts test one more (cost + (test o).cost) os m h.1)

  adds_if : (b : Bool) (done : List Oid) (o : Oid) → Every P done → P o → Every P (if b then done else done ++ o ∷ [])
  adds_if true done o d h = d
  adds_if false done o d h = every-append P done (o ∷ []) d (h, tt)

  folds : (done os : List Oid) → Every P done → Every P os → Every P (fold with_new done os)
  folds done [] d h = d
  folds done (o ∷ os) d h = folds (with_new done o) os (adds_if (has_object done o) done o d h.0) h.1

kept_if : (test : Oid → Bool) (b : Bool) (o : Oid) (os : List Oid) → test o ≡ b → Every (λ x. test x ≡ true) os → Every (λ x. test x ≡ true) (if b then o ∷ os else os)
kept_if test true o os e h = (e, h)
kept_if test false o os e h = h

kept : (test : Oid → Bool) (os : List Oid) → Every (λ o. test o ≡ true) (filter test os)
kept test [] = tt
kept test (o ∷ os) = kept_if test (test o) o (filter test os) refl (kept test os)

all_candidates : (rs : List Record) (s : Contents) (q : Request) → Every (λ o. is_object_of s q.class.0 o ≡ true) (candidates rs s q)
unfolding candidates
all_candidates rs s q =
    folds (λ o. is_object_of s q.class.0 o ≡ true) [] (filter (is_object_of s q.class.0) (filter_map (far_end q) (matched_by q q.sources rs))) tt
    (kept (is_object_of s q.class.0) (filter_map (far_end q) (matched_by q q.sources rs)))

-- An object of the class is of the type of the slot.

transitive : (m : Metamodels) → IsWellFormed m → (c d e : ℕ) → descends m c d ≡ true → descends m d e ≡ true → descends m c e ≡ true
unfolding Regular
transitive m well c d e h k = let r : IsRegular m = well.regular in r.transitive c d e h k

of_kind : (s : Contents) → IsWellFormed s.metas → (c : ℕ) (k : TypeKind) (o : Oid) → is_class_kind s.metas c k ≡ true → is_object_of s c o ≡ true → is_of_kind s k (Obj o) ≡ true
of_kind s well c BoolKind o h e = absurd (cc)
of_kind s well c IntKind o h e = absurd (cc)
of_kind s well c StrKind o h e = absurd (cc)
of_kind s well c (EnumKind k l) o h e = absurd (cc)
of_kind s well c (ClassKind d) o h e =
    let live = left_of (is_live s o.0) (descends s.metas (class_of s o.0) c) e in
    let below = right_of (is_live s o.0) (descends s.metas (class_of s o.0) c) e in
    both (is_live s o.0) (descends s.metas (class_of s o.0) d.0) live (transitive s.metas well (class_of s o.0) c d.0 below h)

all_typed : (s : Contents) → IsWellFormed s.metas → (c f : ℕ) → is_class_kind s.metas c (shape_of s.metas f).kind ≡ true → (os : List Oid) → Every (λ o. is_object_of s c o ≡ true) os → list_all (is_of_type s f) (map Obj os) ≡ true
all_typed s well c f h [] e = refl
all_typed s well c f h (o ∷ os) e = both (is_of_type s f (Obj o)) (list_all (is_of_type s f) (map Obj os)) (of_kind s well c (shape_of s.metas f).kind o h e.0) (all_typed s well c f h os e.1)

pub answers_fit : AnswersFit
unfolding answer
answers_fit p f w well h =
    let slot : is_live f.store w.object.0 ≡ true = left_of (is_live f.store w.object.0) (has_feature f.store.metas (class_of f.store w.object.0) w.feature.0) h.slot in
    let found : Every (λ o. is_object_of f.store w.request.class.0 o ≡ true) (late_value (answered p f w)).values
    = sifts (λ o. is_object_of f.store w.request.class.0 o ≡ true) (weighed p f.store (map local_of w.vars) w.place w.condition) w.one [] 0 (candidates f.trace f.store w.request) tt (all_candidates f.trace f.store w.request) in
    record {
      live = slot;
      feature = right_of (is_live f.store w.object.0) (has_feature f.store.metas (class_of f.store w.object.0) w.feature.0) h.slot;
      types = all_typed f.store well w.request.class.0 w.feature.0 h.class (late_value (answered p f w)).values found;
    }

-- The entries of a run that has ended well.

pub all_answered : (p : ProgramTerm) (f : Finish) → IsWellFormed f.store.metas → (ws : List LateWrite) → Every (IsFor f.store) ws → Every (CanBeWritten f.store) (map (answered p f) ws)
all_answered p f well [] h = tt
all_answered p f well (w ∷ ws) h = (answers_fit p f w well h.0, all_answered p f well ws h.1)

abbrev Fit : FinishedRun → Type 0
Fit f = IsWellFormed f.finish.store.metas → Every (CanBeWritten f.finish.store) f.entries

as_patched : (f : Finish) (es : List AnsweredWrite) (cost : ℕ) (r : Result Contents End) (g : FinishedRun) → (IsWellFormed f.store.metas → Every (CanBeWritten f.store) es) → finished_as f es cost r ≡ Ok g → Fit g
as_patched f es cost (Ok store) g h e = let same : record { finish = f; after = store; entries = es; cost = cost } ≡ g = cc in subst Fit same h
as_patched f es cost (Err x) g h e = absurd (cc)

as_carried : (f : Finish) (es : List AnsweredWrite) (r : Result ℕ End) (g : FinishedRun) → (IsWellFormed f.store.metas → Every (CanBeWritten f.store) es) → carried_out f es r ≡ Ok g → Fit g
as_carried f es (Ok cost) g h e = as_patched f es cost (patched f.store (map late_value es)) g h e
as_carried f es (Err x) g h e = absurd (cc)

as_ended : (p : ProgramTerm) (fuel : ℕ) (r : Result (Unit {0}) Exit) (s : State LateWrite) (g : FinishedRun) → Every (IsFor s.store) s.entries → from_requests p fuel r s ≡ Ok g → Fit g
as_ended p fuel (Ok u) s g h e = as_carried (finish_of s) (answered_from p s) (walk fuel s.cost (answered_from p s)) g (λ well. all_answered p (finish_of s) well s.entries h) e
as_ended p fuel (Err (Returned v)) s g h e = as_carried (finish_of s) (answered_from p s) (walk fuel s.cost (answered_from p s)) g (λ well. all_answered p (finish_of s) well s.entries h) e
as_ended p fuel (Err (Ends x)) s g h e = absurd (cc)

pub entries_fit : EntriesFit
entries_fit p store fuel f e well =
    all_of (CanBeWritten f.finish.store) f.entries (as_ended p fuel (request_run p fuel store).0 (request_run p fuel store).1 f (every_fits p fuel store) (sym (one_pass p fuel store) ∙ e) well)
