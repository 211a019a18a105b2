-- The units of each name with a context, among them those of classes that others may be below, and among these those that take or
-- answer other than the first of the name.
use Rattle.std.specs.Prelude.{◌≡◌, ℕ, ◌&&◌, ◌||◌, not, Bool, false, List, [], ◌∷◌, length, nat_lt}
use Rattle.std.specs.List.{list_any}
use Rattle.qvt_metas.specs.Metamodels.{Metamodels}
use Rattle.qvt_types_groups.specs.declared.signature.Signature.{Signature}
use Rattle.qvt_types_groups.specs.Numbers.{unit_at, is_in_group, numbers_where}
use Rattle.qvt_types_groups.specs.Overrides.{is_strictly_below, is_misfit}
use Rattle.qvt_types_groups.specs.Lists.{numbers_under}
use Rattle.qvt_types_overrides.specs.declared.odd.UnitsByName.{UnitsByName}
use Rattle.qvt_types_overrides.specs.Upper.{is_upper}
use Rattle.qvt_types_above.specs.Shapes.{same_shape}

-- the unit takes and answers what the first of these does
abbrev pub is_like_first : List Signature → List ℕ → Signature → Bool
is_like_first us [] u = false
is_like_first us (n ∷ ns) u = nat_lt n (length us) && same_shape (unit_at us n) u

-- it is one of the name, of a class that others may be below
abbrev pub is_upper_unit : Metamodels → Bool → List ℕ → Signature → Bool
is_upper_unit m maps name u = is_in_group maps name u && is_upper m u.context

-- and not like the first of these
abbrev pub is_odd : Metamodels → Bool → List Signature → List ℕ → List ℕ → Signature → Bool
is_odd m maps us ns name u = is_in_group maps name u && (is_upper m u.context && not (is_like_first us ns u))

-- mappings, or helpers and queries
pub record AreByName (m : Metamodels) (maps : Bool) (us : List Signature) (t : UnitsByName) : Type 0 where
  pub all : (name : List ℕ) → numbers_under t.all name ≡ numbers_where (is_in_group maps name) 0 us
  pub upper : (name : List ℕ) → numbers_under t.upper name ≡ numbers_where (is_upper_unit m maps name) 0 us
  pub odd : (name : List ℕ) → numbers_under t.odd name ≡ numbers_where (is_odd m maps us (numbers_under t.all name) name) 0 us

-- the unit does not fit one that is above it
abbrev pub clashes : Metamodels → Signature → Signature → Bool
clashes m u v = is_strictly_below m u.context v.context && is_misfit m u v

abbrev pub clashes_at : Metamodels → List Signature → Signature → ℕ → Bool
clashes_at m us u n = clashes m u (unit_at us n)

-- it does not fit the first of these, whether that is above it or not
abbrev pub misfits_first : Metamodels → List Signature → List ℕ → Signature → Bool
misfits_first m us [] u = false
misfits_first m us (n ∷ ns) u = nat_lt n (length us) && is_misfit m u (unit_at us n)

-- it does not fit one of its name that is above it: of classes that others may be below those that are unlike the first are asked, and
-- all where it does not fit the first
abbrev pub clashes_among : Metamodels → List Signature → UnitsByName → Signature → Bool
clashes_among m us t u =
    list_any (clashes_at m us u) (numbers_under t.odd u.name)
    || (misfits_first m us (numbers_under t.all u.name) u && list_any (clashes_at m us u) (numbers_under t.upper u.name))
