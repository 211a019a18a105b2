-- What is told of the class of a unit and those above it tells whether the unit does not fit one that it overrides.
use Rattle.std.proofs.Common.{◌≡◌, ◌∙◌, ℕ, zero, suc, List, [], ◌∷◌, length, Bool, true, false, not, ◌&&◌, ◌||◌, Option, Some, None, position, get_or, inl, inr, refl, sym, ap, ◌<◌, arith}
use Rattle.std.specs.Prelude.{nat_lt}
use Rattle.std.specs.List.{list_any, list_all}
use Rattle.std.specs.Str.{bytes_eq}
use Rattle.std.proofs.lemmas.Bool.{ltb-true}
use Rattle.qvt_metas.specs.Metamodels.{Metamodels}
use Rattle.qvt_metamodel.proofs.Bools.{and_left, and_right, or_left, or_right, or_cases, not_true, clash}
use Rattle.qvt_types_groups.specs.declared.signature.HeadClass.{HeadClass}
use Rattle.qvt_types_groups.specs.declared.signature.HeadClass.TheVariants.{Missing, Unknown, Known}
use Rattle.qvt_types_groups.specs.declared.signature.Signature.{Signature}
use Rattle.qvt_types_groups.specs.Choice.{context_at}
use Rattle.qvt_types_groups.specs.Numbers.{no_unit, unit_at, is_called}
use Rattle.qvt_types_groups.specs.Overrides.{are_alike, overrides, is_misfit, is_strictly_below, is_bad_override}
use Rattle.qvt_types_groups.specs.Lists.{list_at, numbers_under}
use Rattle.qvt_types_groups.proofs.ByClass.{AreLeast}
use Rattle.qvt_types_above.specs.declared.above.Above.{Above}
use Rattle.qvt_types_above.specs.declared.above.Above.TheVariants.{Untold, Nothing, Least, Both, Listed}
use Rattle.qvt_types_overrides.specs.declared.ranked.Ranked.{Ranked}
use Rattle.qvt_types_overrides.specs.Odd.{clashes_at, clashes_among}
use Rattle.qvt_types_overrides.specs.Ranked.{told_under, told_at, lists_under, table_at, EachFrom, AreRanked}
use Rattle.qvt_types_overrides.specs.Clashes.{fits_at, fits_told, is_bad_at, is_bad_by, clashes_ranked}
use Rattle.qvt_types_above.specs.Tells.{IsNumberIn, Asks, SomeAsks, Tells, IsUnitAbove, IsFrom}
use Rattle.qvt_types_above.proofs.SameShapes.{Law}
use Rattle.qvt_types_overrides.proofs.Overriding.{among_is, bad_is}
use Rattle.qvt_types_above.proofs.Tellings.{fewer}

none_in : (p : ℕ → Bool) (ns : List ℕ) → ((n : ℕ) → IsNumberIn n ns → p n ≡ true → ⊥) → list_any p ns ≡ false
none_in p [] never = refl
none_in p (n ∷ ns) never = ap (λ b. b || list_any p ns) (not_true (p n) (never n (inl refl))) ∙ none_in p ns (λ k i. never k (inr i))

any_at : (p : Signature → Bool) (us : List Signature) (n : ℕ) → n < length us → p (get_or us n no_unit) ≡ true → list_any p us ≡ true
any_at p [] n low h = absurd (omega (arith, low))
any_at p (u ∷ us) zero low h = or_left (p u) (list_any p us) h
any_at p (u ∷ us) (suc n) low h = or_right (p u) (list_any p us) (any_at p us n (omega (arith, low)) h)

module _ (m : Metamodels) (us : List Signature) (u : Signature) where
  -- A unit that fits all by which others are told of fits these.

  fits : (n x : ℕ) → fits_at m us u n ≡ true → Asks m us n x → is_misfit m u (unit_at us x) ≡ true → ⊥
  fits n x fit asks unfit = by (is_misfit m u (unit_at us n)) (and_right (nat_lt n (length us)) (not (is_misfit m u (unit_at us n))) fit) (asks u unfit)
    where
      by : (b : Bool) → not b ≡ true → b ≡ true → ⊥
      by true e f = absurd (cc)
      by false e f = absurd (cc)

  each_fits : (ks : List ℕ) (x : ℕ) → list_all (fits_at m us u) ks ≡ true → SomeAsks m us ks x → is_misfit m u (unit_at us x) ≡ true → ⊥
  each_fits [] x fit some unfit = some
  each_fits (k ∷ ks) x fit some unfit = elim some [
    | inl a ↦ fits k x (and_left (fits_at m us u k) (list_all (fits_at m us u) ks) fit) a unfit
    | inr r ↦ each_fits ks x (and_right (fits_at m us u k) (list_all (fits_at m us u) ks) fit) r unfit
  ]

  module _ (lists : List (List ℕ)) (P : ℕ → Type 0) where
    told_fits : (a : Above) → Tells m us lists P a → fits_told m us lists u a ≡ true → (x : ℕ) → P x → is_misfit m u (unit_at us x) ≡ true → ⊥
    told_fits Untold told fit x p unfit = absurd (cc)
    told_fits Nothing told fit x p unfit = told x p
    told_fits (Least k) told fit x p unfit = fits k x fit (told x p) unfit
    told_fits (Both i k) told fit x p unfit = elim (told x p) [
      | inl one ↦ fits i x (and_left (fits_at m us u i) (fits_at m us u k) fit) one unfit
      | inr other ↦ fits k x (and_right (fits_at m us u i) (fits_at m us u k) fit) other unfit
    ]
    told_fits (Listed s) told fit x p unfit = each_fits (get_or lists s []) x fit (told x p) unfit

  -- One that overrides one of those and does not fit it is bad.

  bad_there : (n : ℕ) → is_bad_at m us u n ≡ true → is_bad_override m us u ≡ true
  bad_there n bad = any_at (λ v. overrides m u v && is_misfit m u v) us n (ltb-true n (length us) (and_left (nat_lt n (length us)) _ bad)) (and_right (nat_lt n (length us)) _ bad)

  bad_one : (ks : List ℕ) → list_any (is_bad_at m us u) ks ≡ true → is_bad_override m us u ≡ true
  bad_one [] bad = absurd (cc)
  bad_one (k ∷ ks) bad = elim (or_cases (is_bad_at m us u k) (list_any (is_bad_at m us u) ks) bad) [
    | inl here ↦ bad_there k here
    | inr rest ↦ bad_one ks rest
  ]

  bad_told : (lists : List (List ℕ)) (a : Above) → is_bad_by m us lists u a ≡ true → is_bad_override m us u ≡ true
  bad_told lists Untold bad = absurd (cc)
  bad_told lists Nothing bad = absurd (cc)
  bad_told lists (Least n) bad = bad_there n bad
  bad_told lists (Both n k) bad = elim (or_cases (is_bad_at m us u n) (is_bad_at m us u k) bad) [
    | inl one ↦ bad_there n one
    | inr other ↦ bad_there k other
  ]
  bad_told lists (Listed s) bad = bad_one (get_or lists s []) bad

  none_clashes : (lists : List (List ℕ)) (ns : List ℕ) (a : Above) → Tells m us lists (IsUnitAbove m us ns u.context) a → fits_told m us lists u a ≡ true → list_any (clashes_at m us u) ns ≡ false
  none_clashes lists ns a told fit = none_in (clashes_at m us u) ns (λ n there is.
      told_fits lists (IsUnitAbove m us ns u.context) a told fit n (there, and_left (is_strictly_below m u.context (context_at us n)) (is_misfit m u (unit_at us n)) is)
      (and_right (is_strictly_below m u.context (context_at us n)) (is_misfit m u (unit_at us n)) is))

settled : (fit hit all bad : Bool) → all ≡ bad → (fit ≡ true → all ≡ false) → (hit ≡ true → bad ≡ true) → (not fit && (hit || all)) ≡ bad
settled true hit all bad same good found = sym (good refl) ∙ same
settled false true all bad same good found = sym (found refl)
settled false false all bad same good found = same

-- what is told of a unit is told by its name
over_tells : (m : Metamodels) (us : List Signature) (t : Ranked) (name : List ℕ) (h : HeadClass) → EachFrom m us t.named.all.lists t.tables
    → Tells m us (lists_under t.tables (position (bytes_eq name) t.named.all.names)) (IsUnitAbove m us (numbers_under t.named.all name) h) (told_at t.tables (position (bytes_eq name) t.named.all.names) h)
over_tells m us t name Missing each = λ n over. clash over.1 refl
over_tells m us t name Unknown each = λ n over. clash over.1 refl
over_tells m us t name (Known c) each = by (position (bytes_eq name) t.named.all.names)
  where
    by : (o : Option ℕ) → Tells m us (lists_under t.tables o) (IsUnitAbove m us (list_at t.named.all.lists o) (Known c)) (told_under t.tables o c.0)
    by None = tt
    by (Some s) = fewer m us (table_at t.tables s).lists (IsFrom m us (list_at t.named.all.lists (Some s)) c.0) (IsUnitAbove m us (list_at t.named.all.lists (Some s)) (Known c))
        (told_under t.tables (Some s) c.0) (λ n over. inr over) (each s c.0)

-- a unit that overrides others of its kind is bad where it does not fit what is told of its class and those above it
pub bad_by : Law → (m : Metamodels) → AreLeast m → (us : List Signature) (maps : Bool) (t : Ranked) (u : Signature) → AreRanked m maps us t
    → ((v : Signature) → is_called maps v.sort ≡ are_alike u.sort v.sort) → clashes_ranked m us t u ≡ is_bad_override m us u
bad_by law m least us maps t u are alike =
    settled (fits_told m us (lists_under t.tables o) u (told_at t.tables o u.context)) (is_bad_by m us (lists_under t.tables o) u (told_at t.tables o u.context))
    (clashes_among m us t.named u) (is_bad_override m us u) (among ∙ bad_is m us maps t.named u are.named alike)
    (λ fit. among ∙ none_clashes m us u (lists_under t.tables o) (numbers_under t.named.all u.name) (told_at t.tables o u.context) (over_tells m us t u.name u.context are.tables) fit)
    (bad_told m us u (lists_under t.tables o) (told_at t.tables o u.context))
  where
    o : Option ℕ
    o = position (bytes_eq u.name) t.named.all.names

    among : clashes_among m us t.named u ≡ list_any (clashes_at m us u) (numbers_under t.named.all u.name)
    among = among_is law m least us maps t.named u are.named
