-- Which unit does not fit one that it overrides, by what is told of its class and those above it.
use Rattle.std.specs.Prelude.{ℕ, ◌&&◌, ◌||◌, not, Bool, true, false, List, [], length, nat_lt, position, slice_index_or}
use Rattle.std.specs.List.{list_any, list_all}
use Rattle.std.specs.Str.{bytes_eq}
use Rattle.qvt_metas.specs.Metamodels.{Metamodels}
use Rattle.qvt_types_groups.specs.declared.signature.Signature.{Signature}
use Rattle.qvt_types_groups.specs.Numbers.{unit_at}
use Rattle.qvt_types_groups.specs.Overrides.{overrides, is_misfit}
use Rattle.qvt_types_above.specs.declared.above.Above.{Above}
use Rattle.qvt_types_above.specs.declared.above.Above.TheVariants.{Untold, Nothing, Least, Both, Listed}
use Rattle.qvt_types_overrides.specs.declared.odd.UnitsByName.{UnitsByName}
use Rattle.qvt_types_overrides.specs.declared.ranked.Ranked.{Ranked}
use Rattle.qvt_types_overrides.specs.Odd.{clashes_among}
use Rattle.qvt_types_overrides.specs.Ranked.{told_at, lists_under}

abbrev pub fits_at : Metamodels → List Signature → Signature → ℕ → Bool
fits_at m us u n = nat_lt n (length us) && not (is_misfit m u (unit_at us n))

-- the unit fits those by which it is told what is asked
abbrev pub fits_told : Metamodels → List Signature → List (List ℕ) → Signature → Above → Bool
fits_told m us lists u Untold = false
fits_told m us lists u Nothing = true
fits_told m us lists u (Least n) = fits_at m us u n
fits_told m us lists u (Both n k) = fits_at m us u n && fits_at m us u k
fits_told m us lists u (Listed s) = list_all (fits_at m us u) (slice_index_or lists s [])

abbrev pub is_bad_at : Metamodels → List Signature → Signature → ℕ → Bool
is_bad_at m us u n = nat_lt n (length us) && (overrides m u (unit_at us n) && is_misfit m u (unit_at us n))

-- it overrides one of those and does not fit it
abbrev pub is_bad_by : Metamodels → List Signature → List (List ℕ) → Signature → Above → Bool
is_bad_by m us lists u Untold = false
is_bad_by m us lists u Nothing = false
is_bad_by m us lists u (Least n) = is_bad_at m us u n
is_bad_by m us lists u (Both n k) = is_bad_at m us u n || is_bad_at m us u k
is_bad_by m us lists u (Listed s) = list_any (is_bad_at m us u) (slice_index_or lists s [])

-- it does not fit one of its name that is above it
abbrev pub clashes_by : Metamodels → List Signature → UnitsByName → List (List ℕ) → Signature → Above → Bool
clashes_by m us t lists u a = not (fits_told m us lists u a) && (is_bad_by m us lists u a || clashes_among m us t u)

abbrev pub clashes_ranked : Metamodels → List Signature → Ranked → Signature → Bool
clashes_ranked m us t u = clashes_by m us t.named (lists_under t.tables (position (bytes_eq u.name) t.named.all.names)) u
    (told_at t.tables (position (bytes_eq u.name) t.named.all.names) u.context)
