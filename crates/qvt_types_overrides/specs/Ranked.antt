-- What is told of the units of each name.
use Rattle.std.specs.Prelude.{ℕ, ◌/◌, ◌&&◌, Bool, false, List, [], ◌∷◌, length, nat_lt, Option, Some, None, slice_index_or}
use Rattle.qvt_metas.specs.Metamodels.{Metamodels}
use Rattle.qvt_types_groups.specs.declared.signature.HeadClass.{HeadClass}
use Rattle.qvt_types_groups.specs.declared.signature.HeadClass.TheVariants.{Missing, Unknown, Known}
use Rattle.qvt_types_groups.specs.declared.signature.Signature.{Signature}
use Rattle.qvt_types_groups.specs.Lists.{numbers_under}
use Rattle.qvt_types_groups.specs.Numbers.{unit_at}
use Rattle.qvt_types_above.specs.declared.above.Above.{Above}
use Rattle.qvt_types_above.specs.declared.above.Above.TheVariants.{Untold, Nothing}
use Rattle.qvt_types_overrides.specs.declared.odd.UnitsByName.{UnitsByName}
use Rattle.qvt_types_overrides.specs.declared.ranked.Ranked.{Ranked}
use Rattle.qvt_types_above.specs.declared.table.AboveTable.{AboveTable}
use Rattle.qvt_types_overrides.specs.Odd.{AreByName}
use Rattle.qvt_types_above.specs.Above.{above_at}
use Rattle.qvt_types_above.specs.Tells.{AllFrom}

-- a list of a name is worth a table: to compare each with those that are unlike the first takes longer than there are classes
abbrev pub is_worth : ℕ → ℕ → ℕ → Bool
is_worth count all odd = nat_lt 0 all && nat_lt (count / all) odd

abbrev pub is_wide : ℕ → List Signature → UnitsByName → List ℕ → Bool
is_wide count us t [] = false
is_wide count us t (n ∷ ns) = nat_lt n (length us) && is_worth count (length (n ∷ ns)) (length (numbers_under t.odd (unit_at us n).name))

-- a table that tells nothing
abbrev pub no_table : AboveTable
no_table = record { row = []; lists = []; guards = [] }

abbrev pub table_at : List AboveTable → ℕ → AboveTable
table_at tables s = slice_index_or tables s no_table

-- what the table at this place tells of a class and those above it
abbrev pub told_under : List AboveTable → Option ℕ → ℕ → Above
told_under tables None c = Untold
told_under tables (Some s) c = above_at (table_at tables s).row c

abbrev pub told_at : List AboveTable → Option ℕ → HeadClass → Above
told_at tables o Missing = Nothing
told_at tables o Unknown = Nothing
told_at tables o (Known c) = told_under tables o c.0

-- the lists by which it tells it
abbrev pub lists_under : List AboveTable → Option ℕ → List (List ℕ)
lists_under tables None = []
lists_under tables (Some s) = (table_at tables s).lists

-- by each name
abbrev pub EachFrom : Metamodels → List Signature → List (List ℕ) → List AboveTable → Type 0
EachFrom m us lists tables = (s : ℕ) → AllFrom m us (slice_index_or lists s []) (table_at tables s)

pub record AreRanked (m : Metamodels) (maps : Bool) (us : List Signature) (t : Ranked) : Type 0 where
  pub named : AreByName m maps us t.named
  pub tables : EachFrom m us t.named.all.lists t.tables
