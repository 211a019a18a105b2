-- A run leaves its inputs as they are.
use Rattle.std.proofs.Common.{◌≡◌, ◌∙◌, ℕ, true, ◌==◌, ◌&&◌, not, nat_lt, refl, sym, subst, List, [], ◌∷◌, map, length, Result, Ok, Err}
use Rattle.std.specs.List.{list_all}
use Rattle.std.proofs.lemmas.Bool.{ltb-true}
use Rattle.std.proofs.lemmas.Bool.Decides.{Decides-eqb}
use Rattle.qvt_metamodel.specs.Metamodels.{class_at, has_feature}
use Rattle.qvt_relation.proofs.Bools.{and_left, and_right, not_true}
use Rattle.qvt_slots.specs.declared.fault.StoreFault.{StoreFault}
use Rattle.qvt_slots.specs.Contents.{Contents, class_of, extent_at, is_extent, is_live, is_slot}
use Rattle.qvt_slots.specs.Types.{is_of_type, IsAssignable}
use Rattle.qvt_store_laws.specs.Sound.{IsClassFor}
use Rattle.qvt_store_laws.specs.Stay.{StaysIn}
use Rattle.qvt_typing.specs.Accepts.{ProgramTerm}
use Rattle.qvt_value.specs.declared.value.Value.{Value, Obj}
use Rattle.qvt_run_data.specs.declared.exit.End.{End}
use Rattle.qvt_run_data.specs.declared.exit.Exit.{Exit}
use Rattle.qvt_run_data.specs.declared.exit.Exit.TheVariants.{Returned, Ends}
use Rattle.qvt_run_data.specs.declared.late.LateWrite.{LateWrite}
use Rattle.qvt_run_rules.specs.State.{State}
use Rattle.qvt_run_rules.specs.Store.{is_class_for, are_fit}
use Rattle.qvt_meaning.specs.Laws.{request_run, answered_from, from_requests}
use Rattle.qvt_meaning.specs.Run.{Finish, AnsweredWrite, FinishedRun, finish_of, walk, written, patch_on, patched, late_value, finished_as, carried_out}
use Rattle.qvt_meaning_laws.proofs.Runs.{one_pass}
use Rattle.qvt_run_laws.specs.Entries.{IsFor, CanBeWritten}
use Rattle.qvt_run_laws.specs.Inputs.{InputsAreKept, MainKeepsInputs, RunsKeepInputs}
use Rattle.qvt_run_laws.proofs.Every.{Every}
use Rattle.qvt_run_laws.proofs.Fitting.{every_fits}
use Rattle.qvt_run_laws.proofs.Answering.{all_answered}
use Rattle.qvt_run_laws.proofs.Parting.{Apart, sound_apart, Leaves, leaves_itself, leaves_on, leaves_new, leaves_written, same_container}
use Rattle.qvt_run_laws.proofs.Moving.{Follows, main_moves}

-- The steps of a run on a store in which extents are apart.

class_is_for : (s : Contents) (c e : ℕ) → is_class_for s c e ≡ true → IsClassFor s c e
class_is_for s c e h =
    let live : (nat_lt c (length s.metas.classes) && (((class_at s.metas c).metamodel == (extent_at s e).metamodel) && not (class_at s.metas c).is_abstract)) ≡ true = and_right (is_extent s e) _ h in
    let kind : (((class_at s.metas c).metamodel == (extent_at s e).metamodel) && not (class_at s.metas c).is_abstract) ≡ true = and_right (nat_lt c (length s.metas.classes)) _ live in
    record {
      extent = and_left _ _ h;
      live = ltb-true c (length s.metas.classes) (and_left _ _ live);
      metamodel = (Decides-eqb (class_at s.metas c).metamodel (extent_at s e).metamodel).0 (and_left _ _ kind);
      concrete = not_true (class_at s.metas c).is_abstract (and_right ((class_at s.metas c).metamodel == (extent_at s e).metamodel) _ kind);
    }

can_be_written : (s : Contents) (o f : ℕ) (vs : List Value) → are_fit s o f vs ≡ true → IsAssignable s o f vs
can_be_written s o f vs h =
    let slot : is_slot s o f ≡ true = and_left (is_slot s o f) (list_all (is_of_type s f) vs) h in
    record { live = and_left (is_live s o) (has_feature s.metas (class_of s o) f) slot; feature = and_right (is_live s o) _ slot; types = and_right (is_slot s o f) _ h }

abbrev Leads : Contents → Contents → Type 0
Leads s t = Apart s → Leaves s t

follows : Follows Leads
follows = record {
  itself = leaves_itself;
  on = λ s t u h k apart. let first : Leaves s t = h apart in leaves_on s t u first (k first.apart);
  makes = λ s c e h apart. leaves_new s c e (class_is_for s c e h) apart;
  writes = λ s t o f op vs h e apart. leaves_written s t o f op vs (can_be_written s o f vs h) e apart;
}

main_leaves : (p : ProgramTerm) (fuel : ℕ) (store : Contents) → Apart store → Leaves store (request_run p fuel store).1.store
main_leaves p fuel store apart = main_moves Leads follows p fuel store apart

-- The late entries.

still_fit : (s t : Contents) → StaysIn s t → (es : List AnsweredWrite) → Every (CanBeWritten s) es → Every (CanBeWritten t) es
still_fit s t h [] k = tt
still_fit s t h (e ∷ es) k = (h.assignable (late_value e).object.0 (late_value e).feature.0 (map Obj (late_value e).values) k.0, still_fit s t h es k.1)

-- an entry, and those after it
carries_on : (s t : Contents) (x : AnsweredWrite) (es : List AnsweredWrite) (r : Result Contents StoreFault) → CanBeWritten s x → Every (CanBeWritten s) es → written s (late_value x) ≡ r
    → patch_on r (late_value x).place (λ u. patched u (map late_value es)) ≡ Ok t → ((u : Contents) → Every (CanBeWritten u) es → patched u (map late_value es) ≡ Ok t → Apart u → Leaves u t) → Apart s → Leaves s t
carries_on s t x es (Ok u) can h w e rest apart =
    let one : Leaves s u = leaves_written s u (late_value x).object.0 (late_value x).feature.0 (late_value x).op (map Obj (late_value x).values) can w apart in
    leaves_on s u t one (rest u (still_fit s u one.stays es h) e one.apart)
carries_on s t x es (Err f) can h w e rest apart = absurd (cc)

patches : (s t : Contents) (es : List AnsweredWrite) → Every (CanBeWritten s) es → patched s (map late_value es) ≡ Ok t → Apart s → Leaves s t
patches s t [] h e apart = let same : s ≡ t = cc in subst (Leaves s) same (leaves_itself s apart)
patches s t (x ∷ es) h e apart = carries_on s t x es (written s (late_value x)) h.0 h.1 refl e (λ u. patches u t es) apart

-- A run that has ended well.

module _ (store : Contents) where
  abbrev Left : FinishedRun → Type 0
  Left f = Leaves store f.finish.store × Leaves store f.after

  as_patched : (f : Finish) (es : List AnsweredWrite) (cost : ℕ) (r : Result Contents End) (g : FinishedRun) → Leaves store f.store → ((t : Contents) → r ≡ Ok t → Leaves store t) → finished_as f es cost r ≡ Ok g → Left g
  as_patched f es cost (Ok t) g h k e = let same : record { finish = f; after = t; entries = es; cost = cost } ≡ g = cc in subst Left same (h, k t refl)
  as_patched f es cost (Err x) g h k e = absurd (cc)

  as_carried : (f : Finish) (es : List AnsweredWrite) (r : Result ℕ End) (g : FinishedRun) → Leaves store f.store → Every (CanBeWritten f.store) es → carried_out f es r ≡ Ok g → Left g
  as_carried f es (Ok cost) g h k e = as_patched f es cost (patched f.store (map late_value es)) g h (λ t w. leaves_on store f.store t h (patches f.store t es k w h.apart)) e
  as_carried f es (Err x) g h k e = absurd (cc)

  after_requests : (p : ProgramTerm) (fuel : ℕ) (s : State LateWrite) (g : FinishedRun) → Leaves store s.store → Every (IsFor s.store) s.entries
      → carried_out (finish_of s) (answered_from p s) (walk fuel s.cost (answered_from p s)) ≡ Ok g → Left g
  after_requests p fuel s g h k e = as_carried (finish_of s) (answered_from p s) (walk fuel s.cost (answered_from p s)) g h (all_answered p (finish_of s) h.apart.well_formed s.entries k) e

  as_ended : (p : ProgramTerm) (fuel : ℕ) (r : Result (Unit {0}) Exit) (s : State LateWrite) (g : FinishedRun) → Leaves store s.store → Every (IsFor s.store) s.entries → from_requests p fuel r s ≡ Ok g → Left g
  as_ended p fuel (Ok u) s g h k e = after_requests p fuel s g h k e
  as_ended p fuel (Err (Returned v)) s g h k e = after_requests p fuel s g h k e
  as_ended p fuel (Err (Ends x)) s g h k e = absurd (cc)

-- What that says of the inputs.

kept : (s t : Contents) → Apart s → Leaves s t → InputsAreKept s t
kept s t apart h = record { metas = h.stays.metas; objects = h.inputs; containers = λ x y f live locked k. same_container s t apart h x y f live locked k }

pub main_keeps_inputs : MainKeepsInputs
main_keeps_inputs p fuel store is sound = let apart : Apart store = sound_apart store is sound in kept store (request_run p fuel store).1.store apart (main_leaves p fuel store apart)

pub runs_keep_inputs : RunsKeepInputs
runs_keep_inputs p store fuel f is sound e =
    let apart : Apart store = sound_apart store is sound in
    let left : Left store f = as_ended store p fuel (request_run p fuel store).0 (request_run p fuel store).1 f (main_leaves p fuel store apart) (every_fits p fuel store) (sym (one_pass p fuel store) ∙ e) in
    (kept store f.finish.store apart left.0, kept store f.after apart left.1)
