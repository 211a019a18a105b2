-- Classes that are above themselves, as numbers that lead back to themselves.
use Rattle.std.proofs.Common.{◌≡◌, ◌∙◌, ℕ, zero, suc, ◌+◌, ◌<◌, ◌-◌, List, length, map, get_or, Bool, true, false, refl, ap, sym, arith, ◌==◌, Option, Some, None}
use Rattle.std.specs.List.{list_any}
use Rattle.std.specs.Prelude.{if◌then◌else◌}
use Rattle.std.proofs.lemmas.List.{length-map}
use Rattle.qvt_base.specs.declared.numbers.ClassNo.{ClassNo}
use Rattle.qvt_relation.specs.Closure.{Closure, directly, through, reaches_by}
use Rattle.qvt_cycle.specs.Successors.{leads, is_on_cycle}
use Rattle.qvt_metamodel.specs.declared.info.ClassInfo.{ClassInfo}
use Rattle.qvt_metamodel.specs.Metamodels.{nowhere_class}
use Rattle.qvt_metamodel.specs.Descends.{is_superclass}
use Rattle.qvt_metamodel.proofs.Ancestors.{live, reached}
use Rattle.qvt_metamodel.proofs.Bools.{clash}
use Rattle.qvt_metamodel.proofs.Infos.{map-at_all}
use Rattle.qvt_metamodel.proofs.ListFacts.{list_any-map}
use Rattle.qvt_meta_tables.specs.Tables.{of_classes}
use Rattle.qvt_meta_tables.specs.Search.{IsSuper, IsAcyclic}
use Rattle.qvt_meta_tables.specs.Cycles.{super_numbers, is_own_ancestor, cycle_from, first_cycle}

pub leads_is : (ks : List ClassInfo) (c d : ℕ) → leads (map super_numbers ks) c d ≡ is_superclass (of_classes ks) c d
leads_is ks c d =
    ap (list_any (λ x. x == d)) (map-at_all super_numbers ks c nowhere_class)
    ∙ list_any-map (λ x. x == d) (λ (s : ClassNo). s.0) (get_or ks c nowhere_class).supers

pub on_cycle_is : (ks : List ClassInfo) (c : ℕ) → is_on_cycle (map super_numbers ks) c ≡ is_own_ancestor ks c
on_cycle_is ks c = (λ t. reaches_by (λ x y. leads_is ks x y t) (length-map ks super_numbers t) c c)

pub cycle_next : (ks : List ClassInfo) (c n : ℕ) (all : Option ℕ) → c < n → is_own_ancestor ks c ≡ false → cycle_from ks c (n - c) ≡ all → cycle_from ks (c + 1) (n - (c + 1)) ≡ all
cycle_next ks c n all l other e =
    ap (λ k. cycle_from ks k (n - (c + 1))) (let one : c + 1 ≡ suc c = omega arith in one)
    ∙ sym (ap (λ b. if b then Some c else cycle_from ks (suc c) (n - (c + 1))) other)
    ∙ ap (cycle_from ks c) (let more : suc (n - (c + 1)) ≡ n - c = omega (arith, l) in more)
    ∙ e

pub cycle_found : (ks : List ClassInfo) (c n : ℕ) (all : Option ℕ) → c < n → is_own_ancestor ks c ≡ true → cycle_from ks c (n - c) ≡ all → Some c ≡ all
cycle_found ks c n all l there e =
    sym (ap (λ b. if b then Some c else cycle_from ks (suc c) (n - (c + 1))) there)
    ∙ ap (cycle_from ks c) (let more : suc (n - (c + 1)) ≡ n - c = omega (arith, l) in more)
    ∙ e

none_at : (ks : List ClassInfo) (c n : ℕ) → cycle_from ks c n ≡ None → (i : ℕ) → i < n → is_own_ancestor ks (c + i) ≡ false
none_at ks c zero e i l = absurd (omega arith)
none_at ks c (suc n) e i l = by (is_own_ancestor ks c) refl e i l (none_at ks (suc c) n)
  where
    by : (t : Bool) → is_own_ancestor ks c ≡ t → (if t then Some c else cycle_from ks (suc c) n) ≡ None → (i : ℕ) → i < suc n
        → (cycle_from ks (suc c) n ≡ None → (i : ℕ) → i < n → is_own_ancestor ks (suc c + i) ≡ false) → is_own_ancestor ks (c + i) ≡ false
    by true f e i l more = absurd (cc)
    by false f e zero l more = ap (is_own_ancestor ks) (let same : c + 0 ≡ c = omega arith in same) ∙ f
    by false f e (suc i) l more = ap (is_own_ancestor ks) (let same : c + suc i ≡ suc c + i = omega arith in same) ∙ more e i (omega (arith, l))

-- where no class is found, none is above itself
pub acyclic_of : (ks : List ClassInfo) → first_cycle ks ≡ None → IsAcyclic ks
acyclic_of ks e c way = clash (reached (of_classes ks) way) (ap (is_own_ancestor ks) (let same : c ≡ 0 + c = omega arith in same) ∙ none_at ks 0 (length ks) e c (start way))
  where
    start : {x y : ℕ} → Closure (IsSuper ks) x y → x < length ks
    start (directly {x} {y} h) = live (of_classes ks) x y h
    start (through {x} {y} {z} h p) = live (of_classes ks) x y h
