-- What is written within its lower bounds conforms.
use Rattle.std.proofs.Common.{◌≡◌, ◌∙◌, ℕ, zero, suc, ◌+◌, ◌<◌, Bool, true, false, cond, refl, sym, ap, subst, List, [], ◌∷◌, length, filter, take, get_or, Option, Some, None, Ok, arith}
use Rattle.std.specs.List.{AllByRecursion, range_with_len}
use Rattle.std.specs.Option.{option_map}
use Rattle.std.specs.Str.{bytes_eq}
use Rattle.std.proofs.lemmas.Bool.{and_parts, lt-ltb, ltb-true}
use Rattle.std.proofs.lemmas.List.Quantifiers.{position-Some}
use Rattle.qvt_json.specs.Steps.{none_of, or_next}
use Rattle.qvt_slots.specs.declared.extent.Extent.{Extent}
use Rattle.qvt_store.specs.Contents.{Contents, extent_at, is_extent, is_model, no_extent}
use Rattle.qvt_store.specs.Sound.{Sound}
use Rattle.qvt_store.specs.Stay.{IsStore}
use Rattle.qvt_model.specs.Extents.{data_of}
use Rattle.qvt_model.specs.Laws.{ExtentIsRead}
use Rattle.qvt_model.specs.Reading.{model_of}
use Rattle.qvt_conform.specs.LowerBounds.{low_of}
use Rattle.qvt_written.specs.Law.{WrittenConforms}
use Rattle.qvt_job.specs.declared.job.JobModel.{JobModel}
use Rattle.qvt_meaning_report.specs.Meaning.{is_written, low_among, low_in}
use Rattle.qvt_report.specs.Extents as report
use Rattle.qvt_outputs.specs.Left.{extent_named, text_in}
use Rattle.qvt_outputs.specs.Conforming.{IsOutput, IsConforming}

neither : {F : Type 0} (o p : Option F) → or_next o p ≡ None → (o ≡ None) × (p ≡ None)
neither None p e = (refl, e)
neither (Some f) p e = absurd (cc)

-- each extent that is written is within its lower bounds
low_each : (s : Contents) (e n : ℕ) → low_among s (filter (is_written s) (range_with_len e n)) ≡ None → (k : ℕ) → k < n → is_written s (e + k) ≡ true → low_of s (e + k) ≡ None
low_each s e zero none k l w = absurd (omega arith)
low_each s e (suc n) none k l w = by (is_written s e) refl (low_each s (e + 1) n) none k l w
  where
    rest : List ℕ
    rest = filter (is_written s) (range_with_len (e + 1) n)

    later : (low_among s rest ≡ None → (k : ℕ) → k < n → is_written s (e + 1 + k) ≡ true → low_of s (e + 1 + k) ≡ None) → low_among s rest ≡ None → (k : ℕ) → suc k < suc n → is_written s (e + suc k) ≡ true → low_of s (e + suc k) ≡ None
    later more none k l w =
        let same : e + 1 + k ≡ e + suc k = omega arith in
        subst (λ x. low_of s x ≡ None) same (more none k (omega arith) (subst (λ x. is_written s x ≡ true) (sym same) w))

    by : (b : Bool) → is_written s e ≡ b → (low_among s rest ≡ None → (k : ℕ) → k < n → is_written s (e + 1 + k) ≡ true → low_of s (e + 1 + k) ≡ None)
        → low_among s (cond b (e ∷ rest) rest) ≡ None → (k : ℕ) → k < suc n → is_written s (e + k) ≡ true → low_of s (e + k) ≡ None
    by true is more none zero l w = ap (low_of s) (let q : e + 0 ≡ e = omega arith in q) ∙ (neither (low_of s e) (low_among s rest) none).0
    by true is more none (suc k) l w = later more (neither (low_of s e) (low_among s rest) none).1 k l w
    by false is more none zero l w =
        let here : is_written s e ≡ true = ap (is_written s) (let q : e ≡ e + 0 = omega arith in q) ∙ w in absurd (cc)
    by false is more none (suc k) l w = later more none k l w

low_none : (s : Contents) → low_in s ≡ None → (e : ℕ) → is_extent s e ≡ true → is_written s e ≡ true → low_of s e ≡ None
unfolding low_in
low_none s none e live w =
    let same : 0 + e ≡ e = omega arith in
    subst (λ x. low_of s x ≡ None) same (low_each s 0 (length s.extents) none e (ltb-true e (length s.extents) live) (subst (λ x. is_written s x ≡ true) (sym same) w))

one_conforms : WrittenConforms → ExtentIsRead → (s : Contents) → IsStore s → Sound s → low_in s ≡ None → (o : JobModel) → IsOutput s o.model → IsConforming s o
one_conforms conform read s store sound none o is =
    let model : is_model s is.extent ≡ true = (and_parts (is_model s is.extent) (extent_at s is.extent).writable is.written).0 in
    record {
      extent = is.extent;
      named = is.named;
      objects = data_of s is.extent;
      read = subst (λ x. model_of s.metas (extent_at s is.extent).metamodel (text_in s x) ≡ Ok (data_of s is.extent)) (sym is.named) (read s is.extent store sound is.live model);
      conforms = conform s is.extent store sound model (low_none s none is.extent is.live is.written);
    }

pub all_conform : WrittenConforms → ExtentIsRead → (s : Contents) → IsStore s → Sound s → low_in s ≡ None → (os : List JobModel) → AllByRecursion (λ (o : JobModel). IsOutput s o.model) os → AllByRecursion (IsConforming s) os
all_conform conform read s store sound none [] all = tt
all_conform conform read s store sound none (o ∷ os) all = (one_conforms conform read s store sound none o all.0, all_conform conform read s store sound none os all.1)

-- nothing under a lower bound is told
pub none_low : {A F : Type 0} (f : A → F) (o : Option A) → none_of (option_map f o) ≡ Ok tt → o ≡ None
none_low f None e = refl
none_low f (Some x) e = absurd (cc)

same_at : {X : Type 0} (xs : List X) (i : ℕ) (d d' : X) → i < length xs → get_or xs i d ≡ get_or xs i d'
same_at [] i d d' l = absurd (omega arith)
same_at (x ∷ xs) zero d d' l = refl
same_at (x ∷ xs) (suc i) d d' l = same_at xs i d d' (omega arith)

-- the model of a name that is there, and whose extent is written
pub is_output : (s : Contents) (name : List ℕ) (e : ℕ) (x : Extent) → extent_named s name ≡ Some e → x ≡ get_or s.extents e x → report.is_written x ≡ true → IsOutput s name
is_output s name e x named is written =
    let within : e < length s.extents = (position-Some (λ (y : Extent). bytes_eq name y.name) s.extents e no_extent named).0 in
    let same : x ≡ extent_at s e = is ∙ same_at s.extents e x no_extent within in
    record {
      extent = e;
      named = named;
      live = lt-ltb e (length s.extents) within;
      written = subst (λ y. report.is_written y ≡ true) same written;
    }

-- one more
pub all_more : {X : Type 0} (P : X → Type 0) (xs : List X) (i : ℕ) (x d : X) → i < length xs → x ≡ get_or xs i d → P x → AllByRecursion P (take i xs) → AllByRecursion P (take (i + 1) xs)
all_more {X = X} P xs i x d l is p all = subst (λ k. AllByRecursion P (take k xs)) (let q : suc i ≡ i + 1 = omega arith in q) (go xs i l (subst P is p) all)
  where
    go : (xs : List X) (i : ℕ) → i < length xs → P (get_or xs i d) → AllByRecursion P (take i xs) → AllByRecursion P (take (suc i) xs)
    go [] i l p all = absurd (omega arith)
    go (y ∷ ys) zero l p all = (p, tt)
    go (y ∷ ys) (suc i) l p all = (all.0, go ys i (omega arith) p all.1)
