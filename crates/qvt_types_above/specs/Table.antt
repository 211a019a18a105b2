-- What is told of the units of a name at each class and above it.
use Rattle.std.specs.Prelude.{◌≡◌, ℕ, ◌⊎◌, true, List, [], ◌∷◌, ◌++◌, length, replicate}
use Rattle.qvt_base.specs.declared.numbers.ClassNo.{ClassNo}
use Rattle.qvt_metas.specs.Metamodels.{Metamodels}
use Rattle.qvt_types_groups.specs.declared.signature.Signature.{Signature}
use Rattle.qvt_types_above.specs.declared.above.Above.{Above}
use Rattle.qvt_types_above.specs.declared.above.Above.TheVariants.{Untold, Nothing, Least, Both, Listed}
use Rattle.qvt_types_above.specs.declared.table.AboveTable.{AboveTable}
use Rattle.qvt_types_above.specs.Above.{from_all}
use Rattle.qvt_types_above.specs.Asks.{no_guard}
use Rattle.qvt_types_above.specs.Gathered.{gathered, are_told}
use Rattle.qvt_types_above.specs.Tells.{AreGuarded, IsAskedBy}

-- two tables tell the same by the same lists, which are guarded
pub record AreAlike (m : Metamodels) (us : List Signature) (had : AboveTable) (has : AboveTable) : Type 0 where
  pub row : has.row ≡ had.row
  pub lists : has.lists ≡ had.lists
  pub each : length has.guards ≡ length had.guards
  pub guards : AreGuarded m us had.lists has.guards

-- something is told already by a unit that asks all that is told of these classes, or it is told together
abbrev pub IsShort : Metamodels → List Signature → List (List ℕ) → List Above → Above → List ClassNo → Above → Type 0
IsShort m us lists row a cs told = ((told ≡ a) × IsAskedBy m us lists row a cs) ⊎ (told ≡ from_all m us row a cs)

-- a table with one list more
abbrev pub with_more : AboveTable → List ℕ → AboveTable
with_more t ks = record { row = t.row; lists = t.lists ++ ks ∷ []; guards = t.guards ++ no_guard ∷ [] }

-- nothing is told, or it is told by a list of all units by which it is told already and of these classes
abbrev pub IsListed : AboveTable → AboveTable → Above → List ClassNo → Above → Type 0
IsListed had has a cs told = ((told ≡ Untold) × (has ≡ had))
    ⊎ ((told ≡ Listed (length had.lists)) × ((are_told had.row a cs ≡ true) × (has ≡ with_more had (gathered had.lists had.row a cs))))

-- what is told by little, or else by a list
abbrev pub IsToldOrListed : AboveTable → AboveTable → Above → Above → List ClassNo → Above → Type 0
IsToldOrListed had has Untold a cs told = IsListed had has a cs told
IsToldOrListed had has Nothing a cs told = (told ≡ Nothing) × (has ≡ had)
IsToldOrListed had has (Least n) a cs told = (told ≡ Least n) × (has ≡ had)
IsToldOrListed had has (Both i k) a cs told = (told ≡ Both i k) × (has ≡ had)
IsToldOrListed had has (Listed s) a cs told = (told ≡ Listed s) × (has ≡ had)

-- a table that tells nothing
abbrev pub untold : ℕ → AboveTable
untold count = record { row = replicate count Untold; lists = []; guards = [] }
