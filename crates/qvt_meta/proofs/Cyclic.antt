-- The classes of a metamodel that are their own ancestors, by name and by number.
use Rattle.std.proofs.Common.{◌≡◌, ◌∙◌, ℕ, suc, ◌+◌, ◌<◌, List, [], ◌∷◌, length, map, get_or, Bool, true, false, refl, ap, sym, arith, ◌==◌, ◌||◌, inl, inr, Option, Some, None, option_map}
use Rattle.std.specs.Prelude.{if◌then◌else◌}
use Rattle.std.specs.List.{list_any}
use Rattle.std.proofs.lemmas.List.{get_or_past}
use Rattle.std.proofs.lemmas.Bool.Decides.{leb_tells}
use Rattle.qvt_base.specs.declared.numbers.ClassNo.{ClassNo}
use Rattle.qvt_relation.specs.Closure.{reaches_by}
use Rattle.qvt_metamodel.specs.declared.info.ClassInfo.{ClassInfo}
use Rattle.qvt_metamodel.specs.declared.declared.DeclaredClass.{DeclaredClass}
use Rattle.qvt_metamodel.specs.declared.declared.MetaData.{MetaData}
use Rattle.qvt_metamodel.specs.MetaData.{class_names}
use Rattle.qvt_metas.specs.Descends.{is_superclass}
use Rattle.qvt_metas.specs.Added.{declared_at, nothing_declared, names_of, place_in, first_begin, class_info, class_infos}
use Rattle.qvt_metamodel.specs.Checks.{first_from, is_super, inheritance_cycle}
use Rattle.qvt_metas.specs.Tables.{of_classes}
use Rattle.qvt_json.specs.Steps.{or_next}
use Rattle.qvt_metas.specs.Search.{AreLive}
use Rattle.qvt_meta_tables.specs.Cycles.{is_own_ancestor, cycle_from, first_cycle}
use Rattle.qvt_metamodel.proofs.Bools.{ap2, clash}
use Rattle.qvt_metamodel.proofs.Infos.{length-class_infos}
use Rattle.qvt_meta.proofs.Whole.{class_is, past_class, live_superclass_at}

module _ (d : MetaData) where
  abbrev ks : List DeclaredClass
  ks = d.classes

  abbrev infos : List ClassInfo
  infos = class_infos first_begin (names_of ks) 0 ks

  pub live : AreLive infos
  live c s h = live_superclass_at d c s h

  pub total : length infos ≡ length ks
  total = length-class_infos first_begin (names_of ks) 0 ks

  any_place : (names xs : List (List ℕ)) (j : ℕ) → list_any (λ (s : ClassNo). s.0 == j) (map (λ name. record { 0 = 0 + place_in names name }) xs) ≡ list_any (λ name. place_in names name == j) xs
  any_place names [] j = refl
  any_place names (x ∷ xs) j = ap2 (λ a b. a || b) (ap (λ n. n == j) (let same : 0 + place_in names x ≡ place_in names x = omega arith in same)) (any_place names xs j)

  super_same : (i j : ℕ) → is_superclass (of_classes infos) i j ≡ is_super d i j
  unfolding class_info
  super_same i j = elim (leb_tells (suc i) (length ks)) [
    | inl t ↦ ap (λ (k : ClassInfo). list_any (λ s. s.0 == j) k.supers) (class_is d i (omega (arith, t.1))) ∙ any_place (names_of ks) (declared_at ks i).supers j
    | inr f ↦ ap (λ (k : ClassInfo). list_any (λ s. s.0 == j) k.supers) (past_class d i (omega (arith, f.1)))
        ∙ sym (ap (λ (k : DeclaredClass). list_any (λ name. place_in (class_names d) name == j) k.supers) (get_or_past ks i nothing_declared (omega (arith, f.1))))
  ]

  own_same : (i : ℕ) → is_own_ancestor infos i ≡ reaches_by (is_super d) (length ks) i i
  own_same i = (λ t. reaches_by (λ x y. super_same x y t) (total t) i i)

  cycle_names : (c : ℕ) (left : List DeclaredClass) → ((i : ℕ) → i < length left → declared_at ks (c + i) ≡ get_or left i nothing_declared)
      → first_from (λ i k. if reaches_by (is_super d) (length ks) i i then Some k.name else None) c left ≡ option_map (λ i. (declared_at ks i).name) (cycle_from infos c (length left))
  cycle_names c [] at = refl
  cycle_names c (k ∷ left) at =
      by (is_own_ancestor infos c) (reaches_by (is_super d) (length ks) c c) (own_same c) k.name
      (sym (ap (λ (x : DeclaredClass). x.name) (ap (declared_at ks) (let same : c ≡ c + 0 = omega arith in same) ∙ at 0 (omega arith))))
      (first_from (λ i k. if reaches_by (is_super d) (length ks) i i then Some k.name else None) (suc c) left) (cycle_from infos (suc c) (length left))
      (cycle_names (suc c) left (λ i l. ap (declared_at ks) (let same : suc c + i ≡ c + suc i = omega arith in same) ∙ at (suc i) (omega (arith, l))))
    where
      by : (a b : Bool) → a ≡ b → (x : List ℕ) → x ≡ (declared_at ks c).name → (o : Option (List ℕ)) (p : Option ℕ) → o ≡ option_map (λ i. (declared_at ks i).name) p
          → or_next (if b then Some x else None) o ≡ option_map (λ i. (declared_at ks i).name) (if a then Some c else p)
      by true true e x n o p q = ap (λ z. Some z) n
      by true false e x n o p q = clash refl e
      by false true e x n o p q = clash refl (sym e)
      by false false e x n o p q = q

  pub cycle_is : inheritance_cycle d ≡ option_map (λ i. (declared_at ks i).name) (first_cycle infos)
  unfolding inheritance_cycle
  cycle_is = cycle_names 0 ks (λ i l. ap (declared_at ks) (let same : 0 + i ≡ i = omega arith in same)) ∙ ap (λ n. option_map (λ i. (declared_at ks i).name) (cycle_from infos 0 n)) (sym total)
