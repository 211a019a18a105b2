-- The steps of the loops of loading.
use Rattle.std.proofs.Common.{◌≡◌, ℕ, zero, suc, ◌+◌, ◌<◌, ◌≤◌, Bool, true, false, ◌==◌, cond, refl, sym, ap, ◌∙◌, subst, List, [], ◌∷◌, drop, length, get_or, arith}
use Rattle.std.specs.Prelude.{Option, Some}
use Rattle.std.proofs.lemmas.Bool.{ne_eqb}
use Rattle.std.proofs.lemmas.Bool.Decides.{Decides-eqb}
use Rattle.qvt_store.specs.Contents.{Contents, with_new, with_slot}
use Rattle.qvt_model.specs.declared.data.SlotData.{SlotData}
use Rattle.qvt_model.specs.declared.data.ObjectData.{ObjectData}
use Rattle.qvt_model.specs.IdTables.{id_in, with_id}
use Rattle.qvt_model.specs.Loaded.{id_told, all_told}
use Rattle.qvt_model.specs.Steps.{slot_values, put_slots, with_objects, IsAdding, ArePutting, IsPutting, IsTelling}

pub drop_cons : {X : Type 0} (xs : List X) (i : ℕ) (x : X) → i < length xs → x ≡ get_or xs i x → drop i xs ≡ x ∷ drop (i + 1) xs
drop_cons [] i x h e = absurd (omega arith)
drop_cons (y ∷ xs) zero x h e = ap (λ z. z ∷ xs) (sym e) ∙ ap (λ k. x ∷ drop k (y ∷ xs)) (let q : 1 ≡ 0 + 1 = omega arith in q)
drop_cons (y ∷ xs) (suc i) x h e = drop_cons xs i x (omega arith) e ∙ ap (λ k. x ∷ drop k (y ∷ xs)) (let q : suc (i + 1) ≡ suc i + 1 = omega arith in q)

pub drop_none : {X : Type 0} (xs : List X) (i : ℕ) → length xs ≤ i → drop i xs ≡ []
drop_none [] zero h = refl
drop_none [] (suc i) h = refl
drop_none (x ∷ xs) zero h = absurd (omega arith)
drop_none (x ∷ xs) (suc i) h = drop_none xs i (omega arith)

pub adding_more : (old now now' : Contents) (e : ℕ) (all rest : List ObjectData) (o : ObjectData) → now' ≡ with_new now o.class.0 e → IsAdding old now e all (o ∷ rest) → IsAdding old now' e all rest
adding_more old now now' e all rest o is h = subst (λ (t : Contents). IsAdding old t e all rest) (sym is) (record { can = h.can.1; same = h.same })

pub slots_more : (old now now' : Contents) (n x : ℕ) (all rest : List SlotData) (t : SlotData) → now' ≡ with_slot now x t.feature.0 (slot_values n t) → ArePutting old now n x all (t ∷ rest) → ArePutting old now' n x all rest
slots_more old now now' n x all rest t is h = subst (λ (u : Contents). ArePutting old u n x all rest) (sym is) (record { can = h.can.1; same = h.same })

pub objects_more : (old now now' : Contents) (n x y : ℕ) (all rest : List ObjectData) (o : ObjectData) → y ≡ suc x → now' ≡ with_objects now (put_slots now.metas n x now.objects o.slots) → IsPutting old now n x all (o ∷ rest) → IsPutting old now' n y all rest
objects_more old now now' n x y all rest o next is h = subst (λ z. IsPutting old now' n z all rest) (sym next) (subst (λ (u : Contents). IsPutting old u n (suc x) all rest) (sym is) (record { can = h.can.1; same = h.same }))

pub told_past : (n : ℕ) (os : List ObjectData) (x : ℕ) (old : Option (List ℕ)) → x < n → id_told n os x old ≡ old
told_past n [] x old h = refl
told_past n (o ∷ os) x old h = ap (λ b. cond b (Some o.id) (id_told (suc n) os x old)) (ne_eqb x n (λ e. let r : x ≡ n = e in omega arith)) ∙ told_past (suc n) os x old (omega arith)

pub told_more : (old now now' : List (Option (List ℕ))) (n x y : ℕ) (all rest : List ObjectData) (o : ObjectData) → y ≡ suc x →
    now' ≡ with_id now x o.id → ((z : ℕ) → id_in now' z ≡ cond (z == x) (Some o.id) (id_in now z)) → IsTelling old now n x all (o ∷ rest) → IsTelling old now' n y all rest
told_more old now now' n x y all rest o next set is h = subst (λ w. IsTelling old now' n w all rest) (sym next) (record { same = λ z. ap (λ v. id_told (suc x) rest z v) (is z) ∙ go z (z == x) refl ∙ h.same z; exact = ap (all_told (suc x) rest) set ∙ h.exact })
  where
    go : (z : ℕ) (b : Bool) → (z == x) ≡ b → id_told (suc x) rest z (cond b (Some o.id) (id_in now z)) ≡ cond b (Some o.id) (id_told (suc x) rest z (id_in now z))
    go z true e = told_past (suc x) rest z (Some o.id) (let q : z ≡ x = (Decides-eqb z x).0 e in omega arith)
    go z false e = refl
