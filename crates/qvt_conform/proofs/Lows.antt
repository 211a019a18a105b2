-- The features of a class are features that it has, and the objects of an extent are live.
use Rattle.std.proofs.Common.{◌≡◌, ℕ, zero, suc, ◌+◌, ◌<◌, ◌==◌, List, [], ◌∷◌, length, Bool, true, false, cond, refl, ap, arith}
use Rattle.std.specs.Prelude.{slice_index_or, slice_get, Option, Some, None}
use Rattle.std.proofs.lemmas.Bool.{eq-eqb, lt-ltb, or_left, or_right}
use Rattle.qvt_base.specs.declared.numbers.FeatureNo.{FeatureNo}
use Rattle.qvt_base.specs.declared.numbers.Oid.{Oid}
use Rattle.qvt_metas.specs.Metamodels.{among_features}
use Rattle.qvt_store.specs.Contents.{Instance, Contents, members_from, members_of, is_live}

pub among_at : (fs : List FeatureNo) (i : ℕ) (f : FeatureNo) → slice_get fs i ≡ Some f → among_features f.0 fs ≡ true
among_at [] i f h = cc
among_at (g ∷ fs) zero f h = or_left (g.0 == f.0) _ (eq-eqb g.0 f.0 (ap (λ o. number o) h))
  where
    number : Option FeatureNo → ℕ
    number None = 0
    number (Some x) = x.0
among_at (g ∷ fs) (suc i) f h = or_right (g.0 == f.0) _ (among_at fs i f h)

members_below : (x : ℕ) (objects : List Instance) (e i : ℕ) (o : Oid) → slice_get (members_from x objects e) i ≡ Some o → o.0 < x + length objects
members_below x [] e i o h = cc
members_below x (object ∷ objects) e i o h = by (λ j k. members_below (suc x) objects e j o k) (object.extent == e) i h
  where
    number : Option Oid → ℕ
    number None = 0
    number (Some y) = y.0

    by : ((j : ℕ) → slice_get (members_from (suc x) objects e) j ≡ Some o → o.0 < suc x + length objects)
        → (b : Bool) (j : ℕ) → slice_get (cond b (record { 0 = x } ∷ members_from (suc x) objects e) (members_from (suc x) objects e)) j ≡ Some o → o.0 < x + length (object ∷ objects)
    by later true zero k = let same : x ≡ o.0 = ap number k in omega (arith, same)
    by later true (suc j) k = let ih = later j k in omega (arith, ih)
    by later false j k = let ih = later j k in omega (arith, ih)

got : {X : Type 0} (xs : List X) (i : ℕ) (d : X) → i < length xs → slice_get xs i ≡ Some (slice_index_or xs i d)
got [] i d lt = absurd (omega (arith, lt))
got (x ∷ xs) zero d lt = refl
got (x ∷ xs) (suc i) d lt = got xs i d (omega (arith, lt))

pub member_is_live : (s : Contents) (e i : ℕ) (d : Oid) → i < length (members_of s e) → is_live s (slice_index_or (members_of s e) i d).0 ≡ true
member_is_live s e i d lt = let below = members_below 0 s.objects e i _ (got (members_of s e) i d lt) in lt-ltb _ _ (omega (arith, below))
