-- The tables of the units of a name.
use Rattle.std.proofs.Common.{◌≡◌, ◌≢◌, ◌∙◌, ℕ, ◌+◌, ◌<◌, ◌≤◌, eqb, List, [], ◌∷◌, ◌++◌, length, get_or, Bool, true, false, ◌&&◌, Some, position, refl, sym, ap, subst, arith, ◌⊎◌, inl, inr, leb}
use Rattle.std.specs.Prelude.{if◌then◌else◌, not, nat_lt, IsTrue, slice_get}
use Rattle.std.specs.Str.{bytes_eq}
use Rattle.std.specs.List.{IsDistinct, AllByRecursion}
use Rattle.std.proofs.lemmas.Bool.{cases_eq, eqb-true, lt-ltb, not-true}
use Rattle.std.proofs.lemmas.Bool.Decides.{leb_tells}
use Rattle.std.proofs.lemmas.List.{get_or_append_left, get_or-append-add, get_or_past, length-append}
use Rattle.std.proofs.lemmas.List.Quantifiers.{position-Some}
use Rattle.std.proofs.lemmas.List.Folds.{list_any_at}
use Rattle.std.proofs.lemmas.Map.Keys.{IsDistinct-cons}
use Rattle.std.proofs.lemmas.Option.{get_or_from_slice_get}
use Rattle.qvt_metamodel.specs.Metamodels.{Metamodels}
use Rattle.qvt_metamodel.proofs.Bools.{and_left, and_right, not_true, clash}
use Rattle.qvt_types_units.specs.declared.signature.UnitSort.{UnitSort}
use Rattle.qvt_types_units.specs.declared.signature.UnitSort.TheVariants as sort
use Rattle.qvt_types_units.specs.declared.signature.Signature.{Signature}
use Rattle.qvt_types_units.specs.Numbers.{unit_at, no_unit, is_mapping, is_helper, is_called, has_context, is_in_group, numbers_where, group}
use Rattle.qvt_types_choices.specs.Tables.{TellsOf}
use Rattle.qvt_types_choices.specs.declared.tables.GroupTable.{GroupTable}
use Rattle.qvt_types_choices.specs.declared.tables.GroupTable.TheVariants.{Untold}
use Rattle.qvt_types_groups.specs.Lists.{first_of}
use Rattle.qvt_types_groups.specs.Choices.{called_like, group_of, are_several, group_table_at, EachTells}
use Rattle.qvt_types_groups.proofs.Firsts.{first_where, first_is}
use Rattle.qvt_types_groups.proofs.Lists.{same_bytes}

helper_not_mapping : (s : UnitSort) → is_helper s ≡ true → is_mapping s ≡ false
helper_not_mapping sort.Helper h = refl
helper_not_mapping sort.Query h = refl
helper_not_mapping sort.Class h = absurd (cc)
helper_not_mapping sort.Main h = absurd (cc)
helper_not_mapping sort.Constructor h = absurd (cc)
helper_not_mapping (sort.Mapping n) h = absurd (cc)

called_so : (maps : Bool) (s : UnitSort) → is_called maps s ≡ true → is_mapping s ≡ maps
called_so true s h = h
called_so false s h = helper_not_mapping s h

-- the first unit of a name is called like the others
pub same_group : (us : List Signature) (maps : Bool) (name : List ℕ) (f : ℕ) → first_of (group maps name us) ≡ Some f → group_of us f ≡ group maps name us
unfolding group
same_group us maps name f first =
    let at : position (is_in_group maps name) us ≡ Some f = sym (first_where (is_in_group maps name) us) ∙ first in
    let u : Signature = unit_at us f in
    let passes : is_in_group maps name u ≡ true = (position-Some (is_in_group maps name) us f no_unit at).1 in
    let rest : (bytes_eq name u.name && has_context u.context) ≡ true = and_right (is_called maps u.sort) (bytes_eq name u.name && has_context u.context) passes in
    let like : is_mapping u.sort ≡ maps = called_so maps u.sort (and_left (is_called maps u.sort) (bytes_eq name u.name && has_context u.context) passes) in
    let named : name ≡ u.name = same_bytes name u.name (and_left (bytes_eq name u.name) (has_context u.context) rest) in
    (λ i. group (like i) (sym named i) us)

-- where no units are called like others, no name has several
pub called_alone : (us : List Signature) (maps : Bool) (name : List ℕ) → IsTrue (not (are_several us)) → 1 < length (group maps name us) → ⊥
unfolding group
called_alone us maps name none several =
    let f : ℕ = get_or (group maps name us) 0 0 in
    let first : first_of (group maps name us) ≡ Some f = first_is (group maps name us) (omega (arith, several)) in
    let at : position (is_in_group maps name) us ≡ Some f = sym (first_where (is_in_group maps name) us) ∙ first in
    let like : group_of us f ≡ group maps name us = same_group us maps name f first in
    clash
    (list_any_at (λ u. nat_lt 1 (length (called_like us u))) us f no_unit (position-Some (is_in_group maps name) us f no_unit at).0
    (lt-ltb 1 (length (group_of us f)) (omega (arith, several, ap length like))))
    (not-true (are_several us) none)

-- The numbers of units that pass are different ones.

above_all : (p : Signature → Bool) (k n : ℕ) (us : List Signature) → k < n → AllByRecursion (λ y. eqb k y ≡ false) (numbers_where p n us)
above_all p k n [] low = tt
above_all p k n (u ∷ us) low = by (p u) (above_all p k (n + 1) us (omega (arith, low)))
  where
    by : (b : Bool) → AllByRecursion (λ y. eqb k y ≡ false) (numbers_where p (n + 1) us) → AllByRecursion (λ y. eqb k y ≡ false) (if b then n ∷ numbers_where p (n + 1) us else numbers_where p (n + 1) us)
    by true rest = (not_true (eqb k n) (λ h. (let same : k ≡ n = eqb-true k n h in absurd (omega (arith, same, low)))), rest)
    by false rest = rest

differ_from : (p : Signature → Bool) (n : ℕ) (us : List Signature) → IsDistinct eqb (numbers_where p n us)
unfolding IsDistinct
differ_from p n [] = tt
differ_from p n (u ∷ us) = by (p u) (differ_from p (n + 1) us)
  where
    by : (b : Bool) → IsDistinct eqb (numbers_where p (n + 1) us) → IsDistinct eqb (if b then n ∷ numbers_where p (n + 1) us else numbers_where p (n + 1) us)
    by true rest = IsDistinct-cons eqb n (numbers_where p (n + 1) us) (above_all p n (n + 1) us (omega arith)) rest
    by false rest = rest

pub group_distinct : (maps : Bool) (name : List ℕ) (us : List Signature) → IsDistinct eqb (group maps name us)
unfolding group
group_distinct maps name us = differ_from (is_in_group maps name) 0 us

pub like_distinct : (us : List Signature) (n : ℕ) → IsDistinct eqb (group_of us n)
like_distinct us n = group_distinct (is_mapping (unit_at us n).sort) (unit_at us n).name us

-- The tables.

-- one table more
pub table_more : (m : Metamodels) (us : List Signature) (tables more : List GroupTable) (t : GroupTable) (n : ℕ) → length tables ≡ n → EachTells m us tables → TellsOf m us (group_of us n) t
    → more ≡ tables ++ t ∷ [] → EachTells m us more
table_more m us tables more t n long each one are k = subst (λ ts. TellsOf m us (group_of us k) (group_table_at ts k)) (sym are) (by (leb_tells (length tables) k) (cases_eq k (length tables)))
  where
    old : k < length tables → TellsOf m us (group_of us k) (group_table_at (tables ++ t ∷ []) k)
    old low = subst (TellsOf m us (group_of us k)) (sym (get_or_append_left tables (t ∷ []) Untold k low)) (each k)

    last : group_table_at (tables ++ t ∷ []) (length tables) ≡ t
    last = ap (λ j. get_or (tables ++ t ∷ []) j Untold) (let same : length tables ≡ length tables + 0 = omega arith in same) ∙ get_or-append-add tables (t ∷ []) 0 Untold

    new : k ≡ length tables → TellsOf m us (group_of us k) (group_table_at (tables ++ t ∷ []) k)
    new same = subst (λ j. TellsOf m us (group_of us j) (group_table_at (tables ++ t ∷ []) j)) (sym same)
        (subst (λ x. TellsOf m us (group_of us (length tables)) x) (sym last) (subst (λ j. TellsOf m us (group_of us j) t) (sym long) one))

    past : length tables < k → TellsOf m us (group_of us k) (group_table_at (tables ++ t ∷ []) k)
    past high = subst (TellsOf m us (group_of us k)) (sym (get_or_past (tables ++ t ∷ []) k Untold (let more : length (tables ++ t ∷ []) ≡ length tables + 1 = length-append tables (t ∷ []) in omega (arith, high, more)))) tt

    by : ((leb (length tables) k ≡ true) × (length tables ≤ k)) ⊎ ((leb (length tables) k ≡ false) × (k < length tables)) → (k ≡ length tables) ⊎ (k ≢ length tables)
        → TellsOf m us (group_of us k) (group_table_at (tables ++ t ∷ []) k)
    by (inr f) c = old f.1
    by (inl h) (inl same) = new same
    by (inl h) (inr other) = past (omega (arith, h.1, other))

-- what is told of a unit tells of those that are called like it
pub table_tells : (m : Metamodels) (us : List Signature) (tables : List GroupTable) (t : GroupTable) (n : ℕ) (g : List ℕ) → EachTells m us tables → slice_get tables n ≡ Some t → g ≡ group_of us n
    → TellsOf m us g t
table_tells m us tables t n g each at are = subst (λ ns. TellsOf m us ns t) (sym are) (subst (TellsOf m us (group_of us n)) (get_or_from_slice_get tables n t Untold at) (each n))
