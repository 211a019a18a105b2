-- Units that no call could tell apart, by their sorts and contexts.
use Rattle.std.proofs.Common.{◌≡◌, ◌∙◌, ℕ, ◌==◌, List, length, Bool, true, false, ◌&&◌, ◌||◌, not, None, position, refl, sym, ap}
use Rattle.std.specs.Str.{bytes_eq}
use Rattle.qvt_base.specs.declared.numbers.MappingNo.{MappingNo}
use Rattle.qvt_metamodel.proofs.Bools.{and_no}
use Rattle.qvt_types_groups.specs.declared.signature.HeadClass.{HeadClass}
use Rattle.qvt_types_groups.specs.declared.signature.HeadClass.TheVariants.{Missing, Unknown, Known}
use Rattle.qvt_types_groups.specs.declared.signature.UnitSort.{UnitSort}
use Rattle.qvt_types_groups.specs.declared.signature.UnitSort.TheVariants as sort
use Rattle.qvt_types_groups.specs.declared.signature.Signature.{Signature}
use Rattle.qvt_types_groups.specs.Numbers.{is_mapping, is_helper, is_constructor, is_main, is_called, is_context, has_context, is_free, is_constructor_of}
use Rattle.qvt_types_groups.specs.Units.{are_same, same_context, same_class}
use Rattle.qvt_types_groups.specs.Keys.{is_named}
use Rattle.qvt_types_groups.proofs.Keys.{flip_eq}
use Rattle.qvt_types_lists.specs.Same.{is_same_called, is_same_constructor}
use Rattle.qvt_types_lists.proofs.Before.{nowhere}

or_false : (a : Bool) → (a || false) ≡ a
or_false true = refl
or_false false = refl

missing_context : (h : HeadClass) → not (has_context h) ≡ same_context Missing h
missing_context Missing = refl
missing_context Unknown = refl
missing_context (Known c) = refl

known_context : (c : ℕ) (h : HeadClass) → is_context h c ≡ same_context (Known (record { 0 = c })) h
known_context c Missing = refl
known_context c Unknown = refl
known_context c (Known d) = flip_eq d.0 c

known_class : (c : ℕ) (h : HeadClass) → is_context h c ≡ same_class (Known (record { 0 = c })) h
known_class c Missing = refl
known_class c Unknown = refl
known_class c (Known d) = flip_eq d.0 c

unknown_context : (h : HeadClass) → same_context Unknown h ≡ false
unknown_context Missing = refl
unknown_context Unknown = refl
unknown_context (Known d) = refl

missing_class : (h : HeadClass) → same_class Missing h ≡ false
missing_class Missing = refl
missing_class Unknown = refl
missing_class (Known d) = refl

unknown_class : (h : HeadClass) → same_class Unknown h ≡ false
unknown_class Missing = refl
unknown_class Unknown = refl
unknown_class (Known d) = refl

module _ (us : List Signature) (u : Signature) where
  pub free_same : (maps : Bool) → u.context ≡ Missing → position (is_free maps u.name) us ≡ position (is_same_called maps u) us
  free_same maps e = λ i. position (λ v. is_called maps v.sort && (bytes_eq u.name v.name && (missing_context v.context ∙ ap (λ h. same_context h v.context) (sym e)) i)) us

  pub named_same : (maps : Bool) (c : ℕ) → u.context ≡ Known (record { 0 = c }) → position (is_named maps c u.name) us ≡ position (is_same_called maps u) us
  named_same maps c e = λ i. position (λ v. is_called maps v.sort && (bytes_eq u.name v.name && (known_context c v.context ∙ ap (λ h. same_context h v.context) (sym e)) i)) us

  pub unknown_same : (maps : Bool) → u.context ≡ Unknown → None ≡ position (is_same_called maps u) us
  unknown_same maps e = nowhere (is_same_called maps u) us
      (λ v. and_no (is_called maps v.sort) (bytes_eq u.name v.name && same_context u.context v.context)
      (and_no (bytes_eq u.name v.name) (same_context u.context v.context) (ap (λ h. same_context h v.context) e ∙ unknown_context v.context)))

  no_constructor : ((v : Signature) → same_class u.context v.context ≡ false) → None ≡ position (is_same_constructor u) us
  no_constructor fails = nowhere (is_same_constructor u) us
      (λ v. ap (λ b. b && (length u.params == length v.params)) (and_no (is_constructor v.sort) (same_class u.context v.context) (fails v)))

  pub missing_constructor : u.context ≡ Missing → None ≡ position (is_same_constructor u) us
  missing_constructor e = no_constructor (λ v. ap (λ h. same_class h v.context) e ∙ missing_class v.context)

  pub unknown_constructor : u.context ≡ Unknown → None ≡ position (is_same_constructor u) us
  unknown_constructor e = no_constructor (λ v. ap (λ h. same_class h v.context) e ∙ unknown_class v.context)

  regroup : (a b k : Bool) → (a && (b && k)) ≡ ((a && b) && k)
  regroup true b k = refl
  regroup false b k = refl

  pub constructor_same : (c : ℕ) → u.context ≡ Known (record { 0 = c }) → position (is_constructor_of c (length u.params)) us ≡ position (is_same_constructor u) us
  constructor_same c e = λ i. position (λ v. one v i) us
    where
      one : (v : Signature) → is_constructor_of c (length u.params) v ≡ is_same_constructor u v
      one v = (λ j. is_constructor v.sort && ((known_class c v.context ∙ ap (λ h. same_class h v.context) (sym e)) j && flip_eq (length v.params) (length u.params) j))
          ∙ regroup (is_constructor v.sort) (same_class u.context v.context) (length u.params == length v.params)

  -- with a sort in the place of the unit's own
  abbrev same_as : UnitSort → Signature → Bool
  same_as s v =
      (is_main s && is_main v.sort)
      || (((is_mapping s && is_mapping v.sort) || (is_helper s && is_helper v.sort)) && (bytes_eq u.name v.name && same_context u.context v.context))
      || (is_constructor s && is_constructor v.sort && same_class u.context v.context && (length u.params == length v.params))

  as_sort : (s : UnitSort) → u.sort ≡ s → position (are_same u) us ≡ position (same_as s) us
  unfolding are_same
  as_sort s e = λ i. position (λ v. same_as (e i) v) us

  pub class_sort : u.sort ≡ sort.Class → None ≡ position (are_same u) us
  class_sort e = nowhere (same_as sort.Class) us (λ v. refl) ∙ sym (as_sort sort.Class e)

  pub main_sort : u.sort ≡ sort.Main → position (λ (v : Signature). is_main v.sort) us ≡ position (are_same u) us
  main_sort e = (λ i. position (λ v. sym (or_false (is_main v.sort || false) ∙ or_false (is_main v.sort)) i) us) ∙ sym (as_sort sort.Main e)

  pub helper_sort : u.sort ≡ sort.Helper → position (is_same_called false u) us ≡ position (are_same u) us
  helper_sort e = (λ i. position (λ v. sym (or_false (is_same_called false u v)) i) us) ∙ sym (as_sort sort.Helper e)

  pub query_sort : u.sort ≡ sort.Query → position (is_same_called false u) us ≡ position (are_same u) us
  query_sort e = (λ i. position (λ v. sym (or_false (is_same_called false u v)) i) us) ∙ sym (as_sort sort.Query e)

  pub constructor_sort : u.sort ≡ sort.Constructor → position (is_same_constructor u) us ≡ position (are_same u) us
  constructor_sort e = sym (as_sort sort.Constructor e)

  pub mapping_sort : (n : MappingNo) → u.sort ≡ sort.Mapping n → position (is_same_called true u) us ≡ position (are_same u) us
  mapping_sort n e = (λ i. position (λ v. mapped v i) us) ∙ sym (as_sort (sort.Mapping n) e)
    where
      mapped : (v : Signature) → is_same_called true u v ≡ same_as (sort.Mapping n) v
      mapped v = ap (λ b. b && (bytes_eq u.name v.name && same_context u.context v.context)) (sym (or_false (is_mapping v.sort)))
          ∙ sym (or_false ((is_mapping v.sort || false) && (bytes_eq u.name v.name && same_context u.context v.context)))
