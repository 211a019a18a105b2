-- The slot of an entry, after the entries are carried out in order.
use Rattle.std.proofs.Common.{◌≡◌, ℕ, Bool, true, false, ◌==◌, cond, if◌then◌else◌, refl, sym, ap, ◌∙◌, List, [], ◌∷◌, ◌++◌, map, filter, fold, Result, Ok, Err}
use Rattle.std.proofs.lemmas.Bool.Decides.{Decides-eqb}
use Rattle.std.proofs.lemmas.List.Sums.{fold-append}
use Rattle.qvt_metamodel.specs.WellFormed.{IsWellFormed}
use Rattle.qvt_relation.proofs.Bools.{and_both, and_left, and_right, clash, refuted}
use Rattle.qvt_slots.specs.declared.fault.StoreFault.{StoreFault}
use Rattle.qvt_slots.specs.declared.op.SetOp.{SetOp}
use Rattle.qvt_slots.specs.declared.op.SetOp.TheVariants.{Put, Add}
use Rattle.qvt_slots.specs.Assign.{change_of, refusal_of, store_after, write}
use Rattle.qvt_slots.specs.Change.{Change, is_here, slot_after, slot_elsewhere}
use Rattle.qvt_slots.specs.Contents.{Contents, is_slot, slot_of}
use Rattle.qvt_slots.specs.Repeats.{new_list}
use Rattle.qvt_store_laws.proofs.Opposites.{here}
use Rattle.qvt_store_laws.proofs.SoundKept.{accepted}
use Rattle.qvt_value.specs.declared.value.Value.{Value, Obj}
use Rattle.qvt_run_data.specs.declared.late.LateValue.{LateValue}
use Rattle.qvt_meaning.specs.Laws.{LastPut, PerSlot, StandsAlone, is_for, list_after, put_in}
use Rattle.qvt_meaning.specs.Run.{patch_on, patched, written}
use Rattle.qvt_late_laws.proofs.Standing.{slot_there, stays_alone, still_slot}

-- the list that a write hands over
abbrev pub given : Contents → LateValue → SetOp → List Value
given s v Put = map Obj v.values
given s v Add = slot_of s v.object.0 v.feature.0 ++ map Obj v.values

abbrev pub change_by : Contents → LateValue → SetOp → Change
change_by s v op = change_of s v.object.0 v.feature.0 (given s v op)

-- a write that is not refused is its change
as_change : (s u : Contents) (v : LateValue) (op : SetOp) → write s v.object.0 v.feature.0 op (map Obj v.values) ≡ Ok u → store_after s (change_by s v op) ≡ u
as_change s u v Put e = (accepted (refusal_of s (change_by s v Put)) (store_after s (change_by s v Put)) u e).1
as_change s u v Add e = (accepted (refusal_of s (change_by s v Add)) (store_after s (change_by s v Add)) u e).1

module _ (s : Contents) (v : LateValue) (op : SetOp) (o f : ℕ) (well : IsWellFormed s.metas) (alone : StandsAlone s f) (slot : is_slot s o f ≡ true) where
  abbrev c : Change
  c = change_by s v op

  for_it : is_here c o f ≡ true → is_for o f v ≡ true
  for_it h = and_both _ _ ((Decides-eqb v.object.0 o).1 (sym (here c o f h).0)) ((Decides-eqb v.feature.0 f).1 (sym (here c o f h).1))

  here_it : is_for o f v ≡ true → is_here c o f ≡ true
  here_it h = and_both _ _ ((Decides-eqb o v.object.0).1 (sym ((Decides-eqb v.object.0 o).0 (and_left _ _ h)))) ((Decides-eqb f v.feature.0).1 (sym ((Decides-eqb v.feature.0 f).0 (and_right (v.object.0 == o) _ h))))

  items_as : (k : SetOp) → o ≡ v.object.0 → f ≡ v.feature.0 → new_list s.metas v.feature.0 (given s v k) ≡ list_after s f (slot_of s o f) v k
  items_as Put a b = ap (λ n. new_list s.metas n (map Obj v.values)) (sym b)
  items_as Add a b = λ i. new_list s.metas (sym b i) (slot_of s (sym a i) (sym b i) ++ map Obj v.values)

  -- the slot after the write
  pub after_one : slot_of (store_after s c) o f ≡ (if is_for o f v then list_after s f (slot_of s o f) v op else slot_of s o f)
  after_one = slot_there s v.object.0 v.feature.0 (new_list s.metas v.feature.0 (given s v op)) o f slot ∙ go (is_here c o f) refl
    where
      go : (b : Bool) → is_here c o f ≡ b → slot_after c o f ≡ cond (is_for o f v) (list_after s f (slot_of s o f) v op) (slot_of s o f)
      go true h = ap (λ b. cond b c.items (slot_elsewhere c o f)) h ∙ items_as op (here c o f h).0 (here c o f h).1
          ∙ sym (ap (λ b. cond b (list_after s f (slot_of s o f) v op) (slot_of s o f)) (for_it h))
      go false h = ap (λ b. cond b c.items (slot_elsewhere c o f)) h ∙ stays_alone c well o f alone.opposite alone.containment h
          ∙ sym (ap (λ b. cond b (list_after s f (slot_of s o f) v op) (slot_of s o f)) (refuted (is_for o f v) (λ k. clash (is_here c o f) (here_it k) h)))

-- what an entry makes of a list rests on the metamodels alone
same_list : (s : Contents) (c : Change) (f : ℕ) (old : List Value) (w : LateValue) (op : SetOp) → list_after (store_after s c) f old w op ≡ list_after s f old w op
same_list s c f old w Put = refl
same_list s c f old w Add = refl

same_put : (s : Contents) (c : Change) (f : ℕ) → put_in (store_after s c) f ≡ put_in s f
same_put s c f = λ i old w. same_list s c f old w w.op i

folded : (s : Contents) (f : ℕ) (v : LateValue) (vs : List LateValue) (b : Bool) (old new : List Value) → new ≡ (if b then put_in s f old v else old) →
    fold (put_in s f) new vs ≡ fold (put_in s f) old (if b then v ∷ vs else vs)
folded s f v vs true old new e = ap (λ l. fold (put_in s f) l vs) e
folded s f v vs false old new e = ap (λ l. fold (put_in s f) l vs) e

abbrev AfterAll : Contents → Contents → ℕ → ℕ → List LateValue → Type 0
AfterAll s t o f vs = slot_of t o f ≡ fold (put_in s f) (slot_of s o f) (filter (is_for o f) vs)

module _ (s t : Contents) (v : LateValue) (vs : List LateValue) (o f : ℕ) (well : IsWellFormed s.metas) (alone : StandsAlone s f) (slot : is_slot s o f ≡ true)
    (rest : (u : Contents) → IsWellFormed u.metas → StandsAlone u f → is_slot u o f ≡ true → patched u vs ≡ Ok t → AfterAll u t o f vs) where
  abbrev next : Contents
  next = store_after s (change_by s v v.op)

  by_write : (r : Result Contents StoreFault) → written s v ≡ r → patch_on r v.place (λ u. patched u vs) ≡ Ok t → AfterAll s t o f (v ∷ vs)
  by_write (Ok u) w e =
      rest next well (record { opposite = alone.opposite; containment = alone.containment }) (still_slot s (change_by s v v.op) o f slot) (ap (λ k. patched k vs) (as_change s u v v.op w) ∙ e)
      ∙ ap (λ g. fold g (slot_of next o f) (filter (is_for o f) vs)) (same_put s (change_by s v v.op) f)
      ∙ folded s f v (filter (is_for o f) vs) (is_for o f v) (slot_of s o f) (slot_of next o f) (after_one s v v.op o f well alone slot)
  by_write (Err x) w e = absurd (cc)

pub after_all : (vs : List LateValue) (s t : Contents) (o f : ℕ) → IsWellFormed s.metas → StandsAlone s f → is_slot s o f ≡ true → patched s vs ≡ Ok t → AfterAll s t o f vs
after_all [] s t o f well alone slot e = let same : s ≡ t = cc in ap (λ u. slot_of u o f) (sym same)
after_all (v ∷ vs) s t o f well alone slot e =
    by_write s t v vs o f well alone slot (λ u w a k h. after_all vs u t o f w a k h) (written s v) refl e

pub per_slot : PerSlot
per_slot s t vs o f well alone slot e = after_all vs s t o f well alone slot e

pub last_put : LastPut
last_put s t vs us v o f well alone slot e last puts =
    after_all vs s t o f well alone slot e
    ∙ ap (fold (put_in s f) (slot_of s o f)) last
    ∙ fold-append (put_in s f) (slot_of s o f) us (v ∷ [])
    ∙ ap (list_after s f (fold (put_in s f) (slot_of s o f) us) v) puts
