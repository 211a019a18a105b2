-- Which units of a name a unit does not fit that overrides them.
use Rattle.std.proofs.Common.{◌≡◌, ◌∙◌, ℕ, List, [], ◌∷◌, length, Bool, true, false, not, ◌&&◌, ◌||◌, refl, sym, ap}
use Rattle.std.specs.Prelude.{nat_lt}
use Rattle.std.specs.List.{list_any}
use Rattle.std.specs.Str.{bytes_eq}
use Rattle.qvt_base.specs.declared.numbers.MappingNo.{MappingNo}
use Rattle.qvt_metas.specs.Metamodels.{Metamodels}
use Rattle.qvt_metamodel.proofs.Bools.{and_both, and_left, and_right}
use Rattle.qvt_types_groups.specs.declared.signature.HeadClass.{HeadClass}
use Rattle.qvt_types_groups.specs.declared.signature.HeadClass.TheVariants.{Missing, Unknown, Known}
use Rattle.qvt_types_groups.specs.declared.signature.UnitSort.{UnitSort}
use Rattle.qvt_types_groups.specs.declared.signature.UnitSort.TheVariants as sort
use Rattle.qvt_types_groups.specs.declared.signature.Signature.{Signature}
use Rattle.qvt_types_groups.specs.Numbers.{is_mapping, is_called, has_context, is_in_group, unit_at}
use Rattle.qvt_types_groups.specs.Overrides.{are_alike, is_strictly_below, overrides, is_misfit, is_bad_override}
use Rattle.qvt_types_groups.specs.Lists.{numbers_under}
use Rattle.qvt_types_overrides.specs.declared.odd.UnitsByName.{UnitsByName}
use Rattle.qvt_types_above.specs.Shapes.{same_shape}
use Rattle.qvt_types_groups.proofs.ByClass.{AreLeast}
use Rattle.qvt_types_overrides.specs.Odd.{is_like_first, is_odd, is_upper_unit, AreByName, clashes, clashes_at, misfits_first, clashes_among}
use Rattle.qvt_types_overrides.specs.Upper.{is_upper}
use Rattle.qvt_types_overrides.proofs.Parted.{any_where, asked_between, asked_first, parted}
use Rattle.qvt_types_overrides.proofs.Uppers.{below_upper}
use Rattle.qvt_types_above.proofs.SameShapes.{Law, shape_is}

below_context : (m : Metamodels) (h i : HeadClass) → is_strictly_below m h i ≡ true → has_context i ≡ true
below_context m Missing i e = absurd (cc)
below_context m Unknown i e = absurd (cc)
below_context m (Known c) Missing e = absurd (cc)
below_context m (Known c) Unknown e = absurd (cc)
below_context m (Known c) (Known d) e = refl

mixed : (a n h s k : Bool) → (s ≡ true → h ≡ true) → ((a && (n && h)) && (s && k)) ≡ ((a && (n && s)) && k)
mixed false n h s k f = refl
mixed true false h s k f = refl
mixed true true true s k f = refl
mixed true true false true k f = absurd (let wrong : false ≡ true = f refl in cc)
mixed true true false false k f = refl

or_false : (a : Bool) → (a || false) ≡ a
or_false true = refl
or_false false = refl

each_is : (m : Metamodels) (maps : Bool) (u v : Signature) → is_called maps v.sort ≡ are_alike u.sort v.sort → (is_in_group maps u.name v && clashes m u v) ≡ (overrides m u v && is_misfit m u v)
unfolding overrides
each_is m maps u v alike =
    mixed (is_called maps v.sort) (bytes_eq u.name v.name) (has_context v.context) (is_strictly_below m u.context v.context) (is_misfit m u v) (below_context m u.context v.context)
    ∙ ap (λ a. (a && (bytes_eq u.name v.name && is_strictly_below m u.context v.context)) && is_misfit m u v) alike

-- a unit that does not fit one that is like the first of these does not fit the first
like_is : Law → (m : Metamodels) (us : List Signature) (u v : Signature) (ns : List ℕ) → is_like_first us ns v ≡ true → clashes m u v ≡ true → misfits_first m us ns u ≡ true
like_is law m us u v [] like e = absurd (cc)
like_is law m us u v (n ∷ ns) like e =
    and_both (nat_lt n (length us)) (is_misfit m u (unit_at us n)) (and_left (nat_lt n (length us)) (same_shape (unit_at us n) v) like)
    (shape_is law m u (unit_at us n) v (and_right (nat_lt n (length us)) (same_shape (unit_at us n) v) like)
    ∙ and_right (is_strictly_below m u.context v.context) (is_misfit m u v) e)

-- a unit that one does not fit that is below it is of a class that others are below
clash_upper : (m : Metamodels) → AreLeast m → (u v : Signature) → clashes m u v ≡ true → is_upper m v.context ≡ true
clash_upper m least u v e = below_upper m least u.context v.context (and_left (is_strictly_below m u.context v.context) (is_misfit m u v) e)

-- where those that are unlike the first are looked at, and all where the unit does not fit the first, all are
pub among_is : Law → (m : Metamodels) → AreLeast m → (us : List Signature) (maps : Bool) (t : UnitsByName) (u : Signature) → AreByName m maps us t
    → clashes_among m us t u ≡ list_any (clashes_at m us u) (numbers_under t.all u.name)
among_is law m least us maps t u are =
    (λ i. list_any (clashes_at m us u) (are.odd u.name i) || (misfits_first m us (numbers_under t.all u.name) u && list_any (clashes_at m us u) (are.upper u.name i)))
    ∙ (λ i. any_where (is_odd m maps us (numbers_under t.all u.name) u.name) (clashes m u) us i
    || (misfits_first m us (numbers_under t.all u.name) u && any_where (is_upper_unit m maps u.name) (clashes m u) us i))
    ∙ (λ i. list_any (λ v. asked_between (is_in_group maps u.name v) (is_upper m v.context) (not (is_like_first us (numbers_under t.all u.name) v)) (clashes m u v) (clash_upper m least u v) i) us
    || (misfits_first m us (numbers_under t.all u.name) u
    && list_any (λ v. asked_first (is_in_group maps u.name v) (is_upper m v.context) (clashes m u v) (clash_upper m least u v) i) us))
    ∙ parted (is_in_group maps u.name) (is_like_first us (numbers_under t.all u.name)) (clashes m u) us (misfits_first m us (numbers_under t.all u.name) u)
    (λ v. like_is law m us u v (numbers_under t.all u.name))
    ∙ sym (any_where (is_in_group maps u.name) (clashes m u) us)
    ∙ ap (list_any (clashes_at m us u)) (sym (are.all u.name))

-- a unit that overrides others of its kind
pub bad_is : (m : Metamodels) (us : List Signature) (maps : Bool) (t : UnitsByName) (u : Signature) → AreByName m maps us t
    → ((v : Signature) → is_called maps v.sort ≡ are_alike u.sort v.sort) → list_any (clashes_at m us u) (numbers_under t.all u.name) ≡ is_bad_override m us u
bad_is m us maps t u are alike =
    ap (list_any (clashes_at m us u)) (are.all u.name)
    ∙ any_where (is_in_group maps u.name) (clashes m u) us
    ∙ (λ i. list_any (λ v. each_is m maps u v (alike v) i) us)

none : (p : Signature → Bool) (us : List Signature) → ((v : Signature) → p v ≡ false) → false ≡ list_any p us
none p [] fails = refl
none p (u ∷ us) fails = none p us fails ∙ ap (λ b. b || list_any p us) (sym (fails u))

-- a unit of a kind that overrides nothing
pub good_is : (m : Metamodels) (us : List Signature) (u : Signature) → ((v : Signature) → are_alike u.sort v.sort ≡ false) → false ≡ is_bad_override m us u
unfolding overrides
good_is m us u alone = none (λ v. overrides m u v && is_misfit m u v) us
    (λ v. ap (λ a. (a && (bytes_eq u.name v.name && is_strictly_below m u.context v.context)) && is_misfit m u v) (alone v))

pub mapping_alike : (s : UnitSort) (n : MappingNo) → s ≡ sort.Mapping n → (v : Signature) → is_called true v.sort ≡ are_alike s v.sort
mapping_alike s n e v = sym (or_false (is_mapping v.sort)) ∙ ap (λ x. are_alike x v.sort) (sym e)

pub helper_alike : (s : UnitSort) → s ≡ sort.Helper → (v : Signature) → is_called false v.sort ≡ are_alike s v.sort
helper_alike s e v = ap (λ x. are_alike x v.sort) (sym e)

pub query_alike : (s : UnitSort) → s ≡ sort.Query → (v : Signature) → is_called false v.sort ≡ are_alike s v.sort
query_alike s e v = ap (λ x. are_alike x v.sort) (sym e)

pub class_alone : (s : UnitSort) → s ≡ sort.Class → (v : Signature) → are_alike s v.sort ≡ false
class_alone s e v = ap (λ x. are_alike x v.sort) e

pub main_alone : (s : UnitSort) → s ≡ sort.Main → (v : Signature) → are_alike s v.sort ≡ false
main_alone s e v = ap (λ x. are_alike x v.sort) e

pub constructor_alone : (s : UnitSort) → s ≡ sort.Constructor → (v : Signature) → are_alike s v.sort ≡ false
constructor_alone s e v = ap (λ x. are_alike x v.sort) e
