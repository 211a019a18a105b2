-- Inputs whose names are those of extents, no two the same: each has an extent of its own.
use Rattle.std.proofs.Common.{◌≡◌, ◌≢◌, ◌∙◌, refl, sym, ap, subst, ℕ, suc, ◌+◌, ◌<◌, ◌≤◌, Bool, true, false, not, cond, ◌||◌, List, [], ◌∷◌, length, Some, None, arith}
use Rattle.std.specs.Prelude.{unwrap_or, position}
use Rattle.std.specs.List.{list_any, position_or_len, AllByRecursion}
use Rattle.std.specs.Str.{bytes_eq}
use Rattle.std.proofs.lemmas.Bool.{lt-ltb}
use Rattle.std.proofs.lemmas.List.Quantifiers.{position-Some}
use Rattle.std.proofs.lemmas.Slice.Eq.{bytes_eq-Decides}
use Rattle.qvt_store.specs.declared.extent.Extent.{Extent}
use Rattle.qvt_store.specs.Contents.{Contents, no_extent, extent_at, members_of}
use Rattle.qvt_job.specs.Parameters.{times}
use Rattle.qvt_job.specs.declared.job.JobModel.{JobModel}
use Rattle.qvt_job.proofs.Served.{times_more}
use Rattle.qvt_inputs.specs.Inputs.{extent_named, metamodel_of, HasExtent, AreElsewhere, HaveExtents}

-- what is among the items has a place
within : {X : Type 0} (p : X → Bool) (xs : List X) → list_any p xs ≡ true → position_or_len p xs < length xs
within p [] h = absurd (cc)
within p (x ∷ xs) h = go (within p xs) (p x) h
  where
    go : (list_any p xs ≡ true → position_or_len p xs < length xs) → (b : Bool) → (b || list_any p xs) ≡ true → cond (not b) (1 + position_or_len p xs) 0 < suc (length xs)
    go rest true h = omega arith
    go rest false h = let q = rest h in omega (arith, q)

-- the extent of a name
record IsAt (s : Contents) (name : List ℕ) (e : ℕ) : Type 0 where
  there : e < length s.extents
  named : bytes_eq name (extent_at s e).name ≡ true

at : (s : Contents) (name : List ℕ) → list_any (λ (x : Extent). bytes_eq name x.name) s.extents ≡ true → IsAt s name (extent_named s name)
at s name h =
    let p : Extent → Bool = λ x. bytes_eq name x.name in
    let is : position p s.extents ≡ Some (position_or_len p s.extents) =
    ap (λ b. cond b (Some (position_or_len p s.extents)) None) (lt-ltb (position_or_len p s.extents) (length s.extents) (within p s.extents h)) in
    let found = position-Some p s.extents (position_or_len p s.extents) no_extent is in
    subst (IsAt s name) (sym (ap (λ o. unwrap_or o 0) is)) (record { there = found.0; named = found.1 })

-- its name is that of an extent, and of no other input
pub record IsAlone (s : Contents) (all : List JobModel) (input : JobModel) : Type 0 where
  pub named : list_any (λ (x : Extent). bytes_eq input.model x.name) s.extents ≡ true
  pub once : times input.model all ≤ 1

module _ (s : Contents) (all : List JobModel) (no_objects : s.objects ≡ []) (live : (e : ℕ) → e < length s.extents → metamodel_of s e < length s.metas.metamodels) where
  has : (input : JobModel) → IsAlone s all input → HasExtent s input
  has input h =
      let e = at s input.model h.named in
      record {
        there = lt-ltb (extent_named s input.model) (length s.extents) e.there;
        empty = ap (λ obs. members_of (record s { objects = obs }) (extent_named s input.model)) no_objects;
        metamodel = live (extent_named s input.model) e.there;
      }

  -- two inputs of different names have different extents
  differ : (x y : JobModel) → IsAlone s all x → IsAlone s all y → bytes_eq x.model y.model ≡ false → extent_named s y.model ≢ extent_named s x.model
  differ x y h k other same =
      let a : x.model ≡ (extent_at s (extent_named s x.model)).name = (bytes_eq-Decides x.model _).0 (at s x.model h.named).named in
      let b : y.model ≡ (extent_at s (extent_named s y.model)).name = (bytes_eq-Decides y.model _).0 (at s y.model k.named).named in
      let c : bytes_eq x.model y.model ≡ true = (bytes_eq-Decides x.model y.model).1 (a ∙ sym (b ∙ ap (λ e. (extent_at s e).name) same)) in
      absurd (cc)

  apart : (x : JobModel) (xs : List JobModel) → IsAlone s all x → AllByRecursion (IsAlone s all) xs → times x.model xs ≤ 0 → AreElsewhere s (extent_named s x.model) xs
  apart x [] h k none = tt
  apart x (y ∷ ys) h k none = go (apart x ys h k.1) (bytes_eq x.model y.model) refl (subst (λ n. n ≤ 0) (times_more x.model y ys) none)
    where
      go : (times x.model ys ≤ 0 → AreElsewhere s (extent_named s x.model) ys) → (b : Bool) → bytes_eq x.model y.model ≡ b → cond b 1 0 + times x.model ys ≤ 0 → AreElsewhere s (extent_named s x.model) (y ∷ ys)
      go rest true e none = absurd (omega arith)
      go rest false e none = (differ x y h k.0 e, rest (omega arith))

  pub have_extents : (xs : List JobModel) → AllByRecursion (IsAlone s all) xs → ((name : List ℕ) → times name xs ≤ times name all) → HaveExtents s xs
  have_extents [] h few = tt
  have_extents (x ∷ xs) h few =
      let one : 1 + times x.model xs ≤ times x.model all =
      subst (λ b. cond b 1 0 + times x.model xs ≤ times x.model all) ((bytes_eq-Decides x.model x.model).1 refl) (subst (λ n. n ≤ times x.model all) (times_more x.model x xs) (few x.model)) in
      let most = h.0.once in (
        has x h.0,
        apart x xs h.0 h.1 (omega (arith, one, most)),
        have_extents xs h.1 (λ name. let more : cond (bytes_eq name x.model) 1 0 + times name xs ≤ times name all = subst (λ n. n ≤ times name all) (times_more name x xs) (few name) in omega (arith, more)),
      )
