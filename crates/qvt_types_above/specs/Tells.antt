-- What the tellings mean.
use Rattle.std.specs.Prelude.{◌≡◌, ℕ, ◌⊎◌, true, List, [], ◌∷◌, length, IfSome, slice_index_or}
use Rattle.qvt_base.specs.declared.numbers.ClassNo.{ClassNo}
use Rattle.qvt_metas.specs.Metamodels.{Metamodels}
use Rattle.qvt_types_groups.specs.declared.signature.HeadClass.{HeadClass}
use Rattle.qvt_types_groups.specs.declared.signature.HeadClass.TheVariants.{Known}
use Rattle.qvt_types_groups.specs.declared.signature.Signature.{Signature}
use Rattle.qvt_types_groups.specs.ByClass.{is_top}
use Rattle.qvt_types_groups.specs.Choice.{context_at}
use Rattle.qvt_types_groups.specs.Numbers.{unit_at, is_context}
use Rattle.qvt_types_groups.specs.Overrides.{is_misfit, is_strictly_below}
use Rattle.qvt_types_above.specs.declared.above.Above.{Above}
use Rattle.qvt_types_above.specs.declared.above.Above.TheVariants.{Untold, Nothing, Least, Both, Listed}
use Rattle.qvt_types_above.specs.declared.asks.Guard.{Guard}
use Rattle.qvt_types_above.specs.declared.table.AboveTable.{AboveTable}
use Rattle.qvt_types_above.specs.Above.{above_at}
use Rattle.qvt_types_above.specs.Asks.{Guards, guard_at}
use Rattle.qvt_types_above.specs.Bounds.{are_bounded}
use Rattle.qvt_types_above.specs.Gathered.{is_told, numbers_of}

abbrev pub IsNumberIn : ℕ → List ℕ → Type 0
IsNumberIn n [] = ⊥
IsNumberIn n (k ∷ ks) = (n ≡ k) ⊎ IsNumberIn n ks

-- a unit that does not fit unit n does not fit unit k
abbrev pub Asks : Metamodels → List Signature → ℕ → ℕ → Type 0
Asks m us k n = (u : Signature) → is_misfit m u (unit_at us n) ≡ true → is_misfit m u (unit_at us k) ≡ true

-- so it is of one of these
abbrev pub SomeAsks : Metamodels → List Signature → List ℕ → ℕ → Type 0
SomeAsks m us [] n = ⊥
SomeAsks m us (k ∷ ks) n = Asks m us k n ⊎ SomeAsks m us ks n

-- what is told of the units of which P holds
abbrev pub Tells : Metamodels → List Signature → List (List ℕ) → (ℕ → Type 0) → Above → Type 0
Tells m us lists P Untold = Unit {0}
Tells m us lists P Nothing = (n : ℕ) → P n → ⊥
Tells m us lists P (Least k) = (n : ℕ) → P n → Asks m us k n
Tells m us lists P (Both i k) = (n : ℕ) → P n → Asks m us i n ⊎ Asks m us k n
Tells m us lists P (Listed s) = (n : ℕ) → P n → SomeAsks m us (slice_index_or lists s []) n

-- unit n asks all that one of these asks
abbrev pub AsksAll : Metamodels → List Signature → ℕ → List ℕ → Type 0
AsksAll m us n ks = (x : ℕ) → SomeAsks m us ks x → Asks m us n x

-- all by which something is told
abbrev pub AsksTold : Metamodels → List Signature → List (List ℕ) → ℕ → Above → Type 0
AsksTold m us lists n a = (is_told a ≡ true) × AsksAll m us n (numbers_of lists a)

-- and of each of these classes
abbrev pub AsksClasses : Metamodels → List Signature → List (List ℕ) → List Above → ℕ → List ClassNo → Type 0
AsksClasses m us lists row n [] = Unit {0}
AsksClasses m us lists row n (c ∷ cs) = AsksTold m us lists n (above_at row c.0) × AsksClasses m us lists row n cs

-- something is told by one unit, which asks all that is told of these classes
abbrev pub IsAskedBy : Metamodels → List Signature → List (List ℕ) → List Above → Above → List ClassNo → Type 0
IsAskedBy m us lists row Untold cs = ⊥
IsAskedBy m us lists row Nothing cs = ⊥
IsAskedBy m us lists row (Least n) cs = AsksClasses m us lists row n cs
IsAskedBy m us lists row (Both i k) cs = ⊥
IsAskedBy m us lists row (Listed s) cs = ⊥

-- the unit of a guard asks all that one of its list asks, and its class bounds the list
pub record IsGuard (m : Metamodels) (us : List Signature) (ks : List ℕ) (g : Guard) : Type 0 where
  pub unit : IfSome g.unit (λ n. AsksAll m us n ks)
  pub class : IfSome g.class (λ e. are_bounded m us ks e.0 ≡ true)

abbrev pub AreGuarded : Metamodels → List Signature → List (List ℕ) → Guards → Type 0
AreGuarded m us lists guards = (s : ℕ) → IsGuard m us (slice_index_or lists s []) (guard_at guards s)

-- where ns are all units of the name, unit n is one of the class
abbrev pub IsOwn : List Signature → List ℕ → ℕ → ℕ → Type 0
IsOwn us ns c n = IsNumberIn n ns × (is_context (context_at us n) c ≡ true)

-- unit n is one of the class above all
abbrev pub IsTop : Metamodels → List Signature → List ℕ → ℕ → Type 0
IsTop m us ns n = IsNumberIn n ns × (is_top m (context_at us n) ≡ true)

-- unit n is one of a class above this one
abbrev pub IsUnitAbove : Metamodels → List Signature → List ℕ → HeadClass → ℕ → Type 0
IsUnitAbove m us ns h n = IsNumberIn n ns × (is_strictly_below m h (context_at us n) ≡ true)

-- unit n is one of the class or of one above it
abbrev pub IsFrom : Metamodels → List Signature → List ℕ → ℕ → ℕ → Type 0
IsFrom m us ns c n = IsOwn us ns c n ⊎ IsUnitAbove m us ns (Known (record { 0 = c })) n

-- what a table is made of: what is told of each class by itself, and of the class above all
pub record AreOwn (m : Metamodels) (us : List Signature) (ns : List ℕ) (own : List Above) (top : Above) : Type 0 where
  pub each : (c : ℕ) → Tells m us [] (IsOwn us ns c) (above_at own c)
  pub over : Tells m us [] (IsTop m us ns) top

-- the units of each class and those above it are told
abbrev pub AllFrom : Metamodels → List Signature → List ℕ → AboveTable → Type 0
AllFrom m us ns t = (c : ℕ) → Tells m us t.lists (IsFrom m us ns c) (above_at t.row c)

pub record IsAboveTable (m : Metamodels) (us : List Signature) (ns : List ℕ) (t : AboveTable) : Type 0 where
  pub row : AllFrom m us ns t
  pub each : length t.guards ≡ length t.lists
  pub guards : AreGuarded m us t.lists t.guards
