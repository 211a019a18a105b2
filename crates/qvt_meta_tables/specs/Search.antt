-- The search for an order of classes in which each comes after its superclasses: a class is entered, then its superclasses are,
-- and after these it is left, and so placed. A class between the two is open.
use Rattle.std.specs.Prelude.{◌≡◌, ℕ, suc, ◌+◌, ◌<◌, Bool, true, false, ◌==◌, ◌⊎◌, List, [], ◌∷◌, length, take, slice_index_or, IsTrue, if◌then◌else◌}
use Rattle.std.specs.List.{list_any}
use Rattle.qvt_relation.specs.Closure.{Closure}
use Rattle.qvt_metamodel.specs.declared.info.ClassInfo.{ClassInfo}
use Rattle.qvt_metamodel.specs.Descends.{is_superclass}
use Rattle.qvt_meta_tables.specs.declared.visit.Visit.{Visit}
use Rattle.qvt_meta_tables.specs.declared.visit.Visit.TheVariants.{Enter, Leave}
use Rattle.qvt_meta_tables.specs.Tables.{of_classes}

abbrev pub visited_class : Visit → ℕ
visited_class (Enter c) = c
visited_class (Leave c) = c

abbrev pub is_leave : ℕ → Visit → Bool
is_leave c (Enter d) = false
is_leave c (Leave d) = d == c

-- the class is to be entered or left
abbrev pub is_waiting : ℕ → List Visit → Bool
is_waiting c vs = list_any (λ v. visited_class v == c) vs

-- the class is to be left
abbrev pub is_open : ℕ → List Visit → Bool
is_open c vs = list_any (is_leave c) vs

-- how many classes are to be left
abbrev pub opens : List Visit → ℕ
opens [] = 0
opens (Enter c ∷ vs) = opens vs
opens (Leave c ∷ vs) = 1 + opens vs

abbrev pub stands_in : ℕ → List ℕ → Bool
stands_in c order = list_any (λ d. d == c) order

abbrev pub flag : List Bool → ℕ → Bool
flag marks c = slice_index_or marks c false

-- how many are not marked
abbrev pub unmarked_count : List Bool → ℕ
unmarked_count [] = 0
unmarked_count (true ∷ marks) = unmarked_count marks
unmarked_count (false ∷ marks) = 1 + unmarked_count marks

-- how many visits the classes that are not marked still take: one to leave each, and one to enter each of its superclasses
abbrev pub work : List Bool → List ClassInfo → ℕ
work [] ks = 0
work (b ∷ marks) [] = 0
work (true ∷ marks) (k ∷ ks) = work marks ks
work (false ∷ marks) (k ∷ ks) = 1 + length k.supers + work marks ks

-- d is a superclass of c
abbrev pub IsSuper : List ClassInfo → ℕ → ℕ → Type 0
IsSuper ks c d = IsTrue (is_superclass (of_classes ks) c d)

-- superclasses are classes that are there
abbrev pub AreLive : List ClassInfo → Type 0
AreLive ks = (c d : ℕ) → IsSuper ks c d → d < length ks

-- no class is above itself
abbrev pub IsAcyclic : List ClassInfo → Type 0
IsAcyclic ks = (c : ℕ) → Closure (IsSuper ks) c c → ⊥

-- what waits after a class that is to be left is above it
abbrev pub Rise : List ClassInfo → List Visit → Type 0
Rise ks [] = Unit {0}
Rise ks (Enter c ∷ vs) = Rise ks vs
Rise ks (Leave c ∷ vs) = ((d : ℕ) → IsTrue (is_waiting d vs) → Closure (IsSuper ks) c d) × Rise ks vs

-- each superclass of a class that is to be left is placed, or waits after it
abbrev pub Owe : List ClassInfo → List ℕ → List Visit → Type 0
Owe ks placed [] = Unit {0}
Owe ks placed (Enter c ∷ vs) = Owe ks placed vs
Owe ks placed (Leave c ∷ vs) = ((d : ℕ) → IsSuper ks c d → IsTrue (stands_in d placed) ⊎ IsTrue (is_waiting d vs)) × Owe ks placed vs

-- each class stands after its superclasses
abbrev pub IsClosed : List ClassInfo → List ℕ → Type 0
IsClosed ks placed = (i : ℕ) → i < length placed → (d : ℕ) → IsSuper ks (slice_index_or placed i 0) d → IsTrue (stands_in d (take i placed))

-- what holds while the search goes on
pub record IsSearch (ks : List ClassInfo) (met : List Bool) (placed : List ℕ) (visits : List Visit) : Type 0 where
  pub each : length met ≡ length ks
  pub live : (c : ℕ) → IsTrue (is_waiting c visits) → c < length ks
  pub rise : Rise ks visits
  pub owe : Owe ks placed visits
  pub seen : (c : ℕ) → IsTrue (flag met c) → IsTrue (stands_in c placed) ⊎ IsTrue (is_open c visits)
  pub closed : IsClosed ks placed
  pub count : unmarked_count met + (length placed + opens visits) ≡ length ks

-- the first place of a class in an order
abbrev pub place_of : ℕ → List ℕ → ℕ
place_of c [] = 0
place_of c (d ∷ order) = if d == c then 0 else suc (place_of c order)
