-- No class is above itself once those that are have lost their superclasses.
use Rattle.std.proofs.Common.{◌≡◌, ◌∙◌, ℕ, zero, suc, ◌+◌, ◌<◌, List, [], ◌∷◌, length, map, get_or, Bool, true, false, refl, ap, sym, subst, arith, ◌==◌}
use Rattle.std.specs.Prelude.{if◌then◌else◌}
use Rattle.std.specs.List.{list_any, AllByRecursion}
use Rattle.std.proofs.lemmas.List.{length-map, get_or_past}
use Rattle.std.proofs.lemmas.List.FromFn.{get_or-map-range_with_len}
use Rattle.qvt_base.specs.declared.numbers.ClassNo.{ClassNo}
use Rattle.qvt_cycle.specs.Successors.{among, leads, is_on_cycle}
use Rattle.qvt_relation.specs.Closure.{Closure, directly, through, Decides, IsBelow}
use Rattle.qvt_relation.proofs.Closures.{closure-reaches, first_step}
use Rattle.qvt_metas.specs.Metamodels.{nowhere_class}
use Rattle.qvt_metas.specs.Descends.{is_superclass}
use Rattle.qvt_metamodel.proofs.Bools.{clash}
use Rattle.qvt_metamodel.proofs.Halves.{Half, old, new, half}
use Rattle.qvt_metamodel.proofs.Infos.{map-at_all}
use Rattle.qvt_metamodel.proofs.ListFacts.{list_any-map}
use Rattle.qvt_metamodel.proofs.Owners.{all-there}
use Rattle.qvt_metas.specs.Tables.{of_classes}
use Rattle.qvt_metas.specs.Search.{AreLive, IsAcyclic}
use Rattle.qvt_types_classes.specs.declared.declared.Declared.{Declared}
use Rattle.qvt_types_classes.specs.Written.{super_lists, cycle_flags, flag_at, uncycled_from}
use Rattle.qvt_types_classes.specs.Inherited.{class_number, numbered_from}
use Rattle.qvt_types_classes.specs.Classes.{own_classes, HaveSupers}

abbrev pub nothing : Declared
nothing = record { name = []; supers = []; properties = []; place = record { line = 1; column = 1; offset = 0 } }

abbrev pub at : List Declared → ℕ → Declared
at ds i = get_or ds i nothing

-- j is a superclass of i
abbrev pub Over : List Declared → ℕ → ℕ → Type 0
Over ds i j = among (at ds i).supers j ≡ true

pub closure_map : (r s : ℕ → ℕ → Type 0) → ((x y : ℕ) → r x y → s x y) → {x y : ℕ} → Closure r x y → Closure s x y
closure_map r s f (directly {x} {y} h) = directly (f x y h)
closure_map r s f (through {x} {y} {z} h p) = through (f x y h) (closure_map r s f p)

pub over_there : (ds : List Declared) (i j : ℕ) → Over ds i j → i < length ds
over_there ds i j h = by i (half (length ds) i) h
  where
    by : (i : ℕ) → Half (length ds) i → Over ds i j → i < length ds
    by _ (old i l) h = l
    by _ (new k) h = clash h (ap (λ (d : Declared). among d.supers j) (get_or_past ds (length ds + k) nothing (omega arith)))

pub from_there : (ds : List Declared) {i j : ℕ} → Closure (Over ds) i j → i < length ds
from_there ds {i} {j} p = (let s : (z : ℕ) × Over ds i z = first_step (Over ds) p in over_there ds i s.0 s.1)

pub uncycled_count : (flags : List Bool) (i : ℕ) (ds : List Declared) → length (uncycled_from flags i ds) ≡ length ds
uncycled_count flags i [] = refl
uncycled_count flags i (d ∷ ds) = ap suc (uncycled_count flags (i + 1) ds)

none_left : (b : Bool) → (let none : List ℕ = [] in none) ≡ (if b then [] else [])
none_left true = refl
none_left false = refl

supers_at : (flags : List Bool) (i : ℕ) (ds : List Declared) (p : ℕ) → (at (uncycled_from flags i ds) p).supers ≡ (if flag_at flags (i + p) then [] else (at ds p).supers)
supers_at flags i [] p = none_left (flag_at flags (i + p))
supers_at flags i (d ∷ ds) zero = ap (λ n. if flag_at flags n then [] else d.supers) (let same : i ≡ i + 0 = omega arith in same)
supers_at flags i (d ∷ ds) (suc p) = supers_at flags (i + 1) ds p ∙ ap (λ n. if flag_at flags n then [] else (at ds p).supers) (let same : i + 1 + p ≡ i + suc p = omega arith in same)

module _ (ds : List Declared) where
  abbrev lists : List (List ℕ)
  lists = super_lists ds

  abbrev flags : List Bool
  flags = cycle_flags lists

  was : (i j : ℕ) → Over (own_classes ds) i j → (flag_at flags i ≡ false) × Over ds i j
  unfolding own_classes
  was i j h = by (flag_at flags i) refl
      (subst (λ ss. among ss j ≡ true) (supers_at flags 0 ds i ∙ ap (λ n. if flag_at flags n then [] else (at ds i).supers) (let same : 0 + i ≡ i = omega arith in same)) h)
    where
      by : (t : Bool) → flag_at flags i ≡ t → among (if t then [] else (at ds i).supers) j ≡ true → (flag_at flags i ≡ false) × Over ds i j
      by true e h = absurd (cc)
      by false e h = (e, h)

  list_is : (i : ℕ) → get_or lists i [] ≡ (at ds i).supers
  list_is i = map-at_all (λ (d : Declared). d.supers) ds i nothing

  decides : Decides (leads lists) (Over ds)
  decides = record {
    sound = λ x y h. ap (λ ss. among ss y) (sym (list_is x)) ∙ h;
    complete = λ x y h. ap (λ ss. among ss y) (list_is x) ∙ h;
  }

  count : length lists ≡ length ds
  count = length-map ds (λ (d : Declared). d.supers)

  below : IsBelow (length lists) (Over ds)
  below = record { starts = λ x y h. (let l : x < length ds = over_there ds x y h in omega (arith, l, count)) }

  flagged : (i : ℕ) → Closure (Over ds) i i → flag_at flags i ≡ true
  flagged i p =
      get_or-map-range_with_len (is_on_cycle lists) 0 (length lists) i i false (let l : i < length ds = from_there ds p in omega (arith, l, count)) (let same : 0 + i ≡ i = omega arith in same)
      ∙ closure-reaches (leads lists) (Over ds) decides (length lists) below p

  pub own_acyclic : (i : ℕ) → Closure (Over (own_classes ds)) i i → ⊥
  own_acyclic i p =
      let s : (z : ℕ) × Over (own_classes ds) i z = first_step (Over (own_classes ds)) p in
      clash (flagged i (closure_map (Over (own_classes ds)) (Over ds) (λ x y h. (was x y h).1) p)) (was i s.0 s.1).0

  pub own_are : uncycled_from flags 0 ds ≡ own_classes ds
  unfolding own_classes
  own_are = refl

  pub own_count : length (own_classes ds) ≡ length ds
  unfolding own_classes
  own_count = uncycled_count flags 0 ds

uncycled_supers : (P : ℕ → Type 0) (flags : List Bool) (i : ℕ) (ds : List Declared) → AllByRecursion (λ d. AllByRecursion P d.supers) ds → AllByRecursion (λ d. AllByRecursion P d.supers) (uncycled_from flags i ds)
uncycled_supers P marks i [] all = tt
uncycled_supers P marks i (d ∷ ds) all = (by (flag_at marks i), uncycled_supers P marks (i + 1) ds all.1)
  where
    by : (t : Bool) → AllByRecursion P (if t then [] else d.supers)
    by true = tt
    by false = all.0

pub own_supers : (P : ℕ → Type 0) (ds : List Declared) → AllByRecursion (λ d. AllByRecursion P d.supers) ds → AllByRecursion (λ d. AllByRecursion P d.supers) (own_classes ds)
unfolding own_classes
own_supers P ds all = uncycled_supers P (cycle_flags (super_lists ds)) 0 ds all

-- the same classes by number
pub numbered_count : (f : ℕ) (ds : List Declared) → length (numbered_from f ds) ≡ length ds
numbered_count f [] = refl
numbered_count f (d ∷ ds) = ap suc (numbered_count (f + length d.properties) ds)

pub numbered_supers : (f : ℕ) (ds : List Declared) (i : ℕ) → (get_or (numbered_from f ds) i nowhere_class).supers ≡ map class_number (at ds i).supers
numbered_supers f [] i = refl
numbered_supers f (d ∷ ds) zero = refl
numbered_supers f (d ∷ ds) (suc i) = numbered_supers (f + length d.properties) ds i

pub is_over : (ds : List Declared) (i j : ℕ) → is_superclass (of_classes (numbered_from 0 ds)) i j ≡ among (at ds i).supers j
is_over ds i j = ap (λ (ss : List ClassNo). list_any (λ s. s.0 == j) ss) (numbered_supers 0 ds i) ∙ list_any-map (λ (s : ClassNo). s.0 == j) class_number (at ds i).supers

pub numbered_acyclic : (ds : List Declared) → ((i : ℕ) → Closure (Over ds) i i → ⊥) → IsAcyclic (numbered_from 0 ds)
numbered_acyclic ds alone i p = alone i (closure_map _ (Over ds) (λ x y h. sym (is_over ds x y) ∙ h) p)

among_below : (n j : ℕ) (ss : List ℕ) → AllByRecursion (λ s. s < n) ss → among ss j ≡ true → j < n
among_below n j ss all h = all-there (λ s. s < n) (map class_number ss) j (by ss all) (list_any-map (λ (s : ClassNo). s.0 == j) class_number ss ∙ h)
  where
    by : (ss : List ℕ) → AllByRecursion (λ s. s < n) ss → AllByRecursion (λ (s : ClassNo). s.0 < n) (map class_number ss)
    by [] all = tt
    by (s ∷ ss) all = (all.0, by ss all.1)

supers_below : (n : ℕ) (ds : List Declared) (i : ℕ) → AllByRecursion (λ d. AllByRecursion (λ s. s < n) d.supers) ds → AllByRecursion (λ s. s < n) (at ds i).supers
supers_below n [] i all = tt
supers_below n (d ∷ ds) zero all = all.0
supers_below n (d ∷ ds) (suc i) all = supers_below n ds i all.1

pub numbered_live : (ds : List Declared) → HaveSupers ds → AreLive (numbered_from 0 ds)
numbered_live ds all i j h =
    (let l : j < length ds = among_below (length ds) j (at ds i).supers (supers_below (length ds) ds i all) (sym (is_over ds i j) ∙ h) in omega (arith, l, numbered_count 0 ds))

-- what the code asks of classes that are written
pub own_live : (ds : List Declared) → HaveSupers ds → AreLive (numbered_from 0 (own_classes ds))
own_live ds all = numbered_live (own_classes ds) (subst (λ n. AllByRecursion (λ (d : Declared). AllByRecursion (λ s. s < n) d.supers) (own_classes ds)) (sym (own_count ds)) (own_supers (λ s. s < length ds) ds all))

pub own_alone : (ds : List Declared) → IsAcyclic (numbered_from 0 (own_classes ds))
own_alone ds = numbered_acyclic (own_classes ds) (own_acyclic ds)
