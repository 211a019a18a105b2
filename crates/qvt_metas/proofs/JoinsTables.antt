-- The tables of two lists of metamodels are those of both as one.
use Rattle.std.proofs.Common.{◌≡◌, ◌∙◌, ℕ, ◌+◌, ◌-◌, ◌<◌, ◌≤◌, ◌^◌, List, [], ◌∷◌, ◌++◌, length, map, get_or, Bool, true, false, None, refl, ap, sym, subst, arith, ◌&&◌, ◌/◌, ◌%◌, leb}
use Rattle.std.specs.Prelude.{slice_index, slice_index_or}
use Rattle.std.specs.List.{AllByRecursion}
use Rattle.std.proofs.lemmas.List.{length-map, length-append, get_or_past}
use Rattle.std.proofs.lemmas.Bool.{leb-true, le-leb}
use Rattle.qvt_base.specs.declared.numbers.ClassNo.{ClassNo}
use Rattle.qvt_base.specs.declared.numbers.FeatureNo.{FeatureNo}
use Rattle.qvt_metamodel.specs.declared.row.Row.{Row}
use Rattle.qvt_metamodel.specs.declared.info.ClassInfo.{ClassInfo}
use Rattle.qvt_metamodel.specs.Metamodels.{Metamodels, class_at, features_of, nowhere_class}
use Rattle.qvt_metamodel.specs.Descends.{reaches}
use Rattle.qvt_metamodel.specs.Kept.{AreRanks, IsKept, no_row, is_marked, is_bit, word_of}
use Rattle.qvt_metamodel.specs.Joined.{class_on, feature_on, class_info_on, row_on, begin_after, joined}
use Rattle.qvt_metamodel.proofs.Bools.{ap2, not_true, no-and}
use Rattle.qvt_metamodel.proofs.Rows.{no_mark}
use Rattle.qvt_metamodel.proofs.Halves.{Half, old, new, half, old-at, new-at}
use Rattle.qvt_metamodel.proofs.Infos.{map-at, map-at_all}
use Rattle.qvt_metamodel.proofs.ListFacts.{all-both, all-found}
use Rattle.qvt_metas.proofs.Joins.{J, is_joined, class_count, class_old, class_new, features_old, features_new, reaches_old, reaches_new, reaches_new_old}
use Rattle.qvt_metas.proofs.JoinsKept.{well_formed}

all-map : {X Y : Type 0} (P : Y → Type 0) (g : X → Y) (xs : List X) → AllByRecursion (λ x. P (g x)) xs → AllByRecursion P (map g xs)
all-map P g [] all = tt
all-map P g (x ∷ xs) all = (all.0, all-map P g xs all.1)

-- at a place that both lists of tables begin at
new-place : {X : Type 0} (xs ys : List X) (b i : ℕ) (d : X) → length xs ≡ b → get_or (xs ++ ys) (b + i) d ≡ get_or ys i d
new-place xs ys b i d e = ap (λ x. get_or (xs ++ ys) (x + i) d) (sym e) ∙ new-at xs ys i d

leb-add : (b x y : ℕ) → leb (b + x) (b + y) ≡ leb x y
leb-add b x y = by (leb x y) refl
  where
    by : (t : Bool) → leb x y ≡ t → leb (b + x) (b + y) ≡ t
    by true e = le-leb (b + x) (b + y) (omega (arith, leb-true x y e))
    by false e = not_true (leb (b + x) (b + y)) (λ h. (let less : x ≤ y = omega (arith, leb-true (b + x) (b + y) h) in absurd (let clash : true ≡ false = sym (le-leb x y less) ∙ e in cc)))

module _ (m n : Metamodels) (lm ln : List (List FeatureNo)) (ws vs : List Row) (rm rn : List ℕ) (km : IsKept m lm ws rm) (kn : IsKept n ln vs rn) (other : n.element ≡ None)
    (few_ms : length m.metamodels + length n.metamodels < 2 ^ 32) (few_cs : length m.classes + length n.classes < 2 ^ 32) (few_fs : length m.features + length n.features < 2 ^ 32) where
  abbrev B : ℕ
  B = length m.classes

  abbrev W : Metamodels
  W = J m n rm rn km.well_formed kn.well_formed km.ranked kn.ranked

  abbrev ranks : List ℕ
  ranks = rm ++ map (λ r. B + r) rn

  abbrev lists : List (List FeatureNo)
  lists = lm ++ map (map (feature_on (begin_after m))) ln

  abbrev rows : List Row
  rows = ws ++ map (row_on (begin_after m)) vs

  count : length W.classes ≡ B + length n.classes
  count = class_count m n rm rn km.well_formed kn.well_formed km.ranked kn.ranked

  rank_old : (c : ℕ) → c < B → slice_index ranks c ≡ slice_index rm c
  rank_old c h = old-at rm (map (λ r. B + r) rn) c 0 (omega (arith, h, km.ranked.each))

  rank_new : (c : ℕ) → c < length n.classes → slice_index ranks (B + c) ≡ B + slice_index rn c
  rank_new c h = new-place rm (map (λ r. B + r) rn) B c 0 km.ranked.each ∙ map-at (λ r. B + r) rn c 0 0 (omega (arith, h, kn.ranked.each))

  ranked : AreRanks W ranks
  unfolding class_info_on
  ranked = record {
    each = length-append rm (map (λ r. B + r) rn) ∙ omega (arith, km.ranked.each, kn.ranked.each, length-map rn (λ r. B + r), count);
    bounded = λ c h. bounded c (half B c) h;
    rise = λ c. rise c (half B c);
  }
    where
      bounded : (c : ℕ) → Half B c → c < length W.classes → slice_index ranks c < length W.classes
      bounded _ (old c l) h = omega (arith, rank_old c l, km.ranked.bounded c l, count)
      bounded _ (new c) h = (let l : c < length n.classes = omega (arith, h, count) in omega (arith, rank_new c l, kn.ranked.bounded c l, count))

      rise : (c : ℕ) → Half B c → AllByRecursion (λ (s : ClassNo). slice_index ranks s.0 < slice_index ranks c) (class_at W c).supers
      rise _ (old c l) = subst (λ (k : ClassInfo). AllByRecursion (λ (s : ClassNo). slice_index ranks s.0 < slice_index ranks c) k.supers) (sym (class_old m n rm rn km.well_formed kn.well_formed km.ranked kn.ranked c l))
          (all-both (λ (s : ClassNo). s.0 < B) (λ (s : ClassNo). slice_index rm s.0 < slice_index rm c) (λ (s : ClassNo). slice_index ranks s.0 < slice_index ranks c) (class_at m c).supers
          (λ s live less. omega (arith, rank_old s.0 live, rank_old c l, less))
          (all-found (λ d. d < B) (class_at m c).supers (km.well_formed.live_superclass c)) (km.ranked.rise c))
      rise _ (new c) = new_rise c (half (length n.classes) c)
        where
          new_rise : (c : ℕ) → Half (length n.classes) c → AllByRecursion (λ (s : ClassNo). slice_index ranks s.0 < slice_index ranks (B + c)) (class_at W (B + c)).supers
          new_rise _ (old c l) = subst (λ (k : ClassInfo). AllByRecursion (λ (s : ClassNo). slice_index ranks s.0 < slice_index ranks (B + c)) k.supers) (sym (class_new m n rm rn km.well_formed kn.well_formed km.ranked kn.ranked c l))
              (all-map (λ (s : ClassNo). slice_index ranks s.0 < slice_index ranks (B + c)) (class_on (begin_after m)) (class_at n c).supers
              (all-both (λ (s : ClassNo). s.0 < length n.classes) (λ (s : ClassNo). slice_index rn s.0 < slice_index rn c) (λ (s : ClassNo). slice_index ranks (B + s.0) < slice_index ranks (B + c)) (class_at n c).supers
              (λ s live less. omega (arith, rank_new s.0 live, rank_new c l, less))
              (all-found (λ d. d < length n.classes) (class_at n c).supers (kn.well_formed.live_superclass c)) (kn.ranked.rise c)))
          new_rise _ (new k) = subst (λ (x : ClassInfo). AllByRecursion (λ (s : ClassNo). slice_index ranks s.0 < slice_index ranks (B + (length n.classes + k))) x.supers)
              (sym (get_or_past W.classes (B + (length n.classes + k)) nowhere_class (omega (arith, count)))) tt

  each_list : (c : ℕ) → slice_index_or lists c [] ≡ features_of W c
  each_list c = by c (half B c)
    where
      by : (c : ℕ) → Half B c → slice_index_or lists c [] ≡ features_of W c
      by _ (old c l) = old-at lm (map (map (feature_on (begin_after m))) ln) c [] (omega (arith, l, km.each)) ∙ km.features c ∙ sym (features_old m n rm rn km.well_formed kn.well_formed km.ranked kn.ranked c l)
      by _ (new c) = new-place lm (map (map (feature_on (begin_after m))) ln) B c [] km.each ∙ map-at_all (map (feature_on (begin_after m))) ln c []
          ∙ ap (map (feature_on (begin_after m))) (kn.features c) ∙ sym (features_new m n rm rn km.well_formed kn.well_formed km.ranked kn.ranked c)

  row_old : (c : ℕ) → c < B → slice_index_or rows c no_row ≡ slice_index_or ws c no_row
  row_old c l = old-at ws (map (row_on (begin_after m)) vs) c no_row (omega (arith, l, km.each_row))

  row_new : (c : ℕ) → c < length n.classes → slice_index_or rows (B + c) no_row ≡ row_on (begin_after m) (slice_index_or vs c no_row)
  row_new c l = new-place ws (map (row_on (begin_after m)) vs) B c no_row km.each_row ∙ map-at (row_on (begin_after m)) vs c no_row no_row (omega (arith, l, kn.each_row))

  row_past : (c : ℕ) → length n.classes ≤ c → slice_index_or rows (B + c) no_row ≡ no_row
  row_past c l = new-place ws (map (row_on (begin_after m)) vs) B c no_row km.each_row
      ∙ get_or_past (map (row_on (begin_after m)) vs) c no_row (omega (arith, l, kn.each_row, length-map vs (row_on (begin_after m))))

  marked_on : (r : Row) (d : ℕ) → is_marked (row_on (begin_after m) r) (B + d) ≡ is_marked r d
  marked_on r d = ap2 (λ b k. b && is_bit (word_of r (k / 64)) (k % 64)) (leb-add B r.start d) (let same : (B + d) - (B + r.start) ≡ d - r.start = omega arith in same)

  marked_below : (r : Row) (d : ℕ) → d < B → is_marked (row_on (begin_after m) r) d ≡ false
  marked_below r d h = no-and (leb (B + r.start) d) (is_bit (word_of r ((d - (B + r.start)) / 64)) ((d - (B + r.start)) % 64))
      (not_true (leb (B + r.start) d) (λ e. (let le : B + r.start ≤ d = leb-true (B + r.start) d e in omega (arith, le, h))))

  each_row : (c d : ℕ) → is_marked (slice_index_or rows c no_row) d ≡ reaches W c d
  each_row c d = by c d (half B c) (half B d)
    where
      past : (c d : ℕ) → length n.classes ≤ c → is_marked (slice_index_or rows (B + c) no_row) d ≡ false
      past c d l = ap (λ r. is_marked r d) (row_past c l) ∙ no_mark d

      by : (c d : ℕ) → Half B c → Half B d → is_marked (slice_index_or rows c no_row) d ≡ reaches W c d
      by _ d (old c l) any = ap (λ r. is_marked r d) (row_old c l) ∙ km.ancestors c d ∙ sym (reaches_old m n rm rn km.well_formed kn.well_formed km.ranked kn.ranked c d l)
      by _ _ (new c) (old d l) = below c d l (half (length n.classes) c)
        where
          below : (c d : ℕ) → d < B → Half (length n.classes) c → is_marked (slice_index_or rows (B + c) no_row) d ≡ reaches W (B + c) d
          below _ d l (old c k) = ap (λ r. is_marked r d) (row_new c k) ∙ marked_below (slice_index_or vs c no_row) d l ∙ sym (reaches_new_old m n rm rn km.well_formed kn.well_formed km.ranked kn.ranked c d l)
          below _ d l (new k) = past (length n.classes + k) d (omega arith) ∙ sym (reaches_new_old m n rm rn km.well_formed kn.well_formed km.ranked kn.ranked (length n.classes + k) d l)
      by _ _ (new c) (new d) = on c d (half (length n.classes) c)
        where
          on : (c d : ℕ) → Half (length n.classes) c → is_marked (slice_index_or rows (B + c) no_row) (B + d) ≡ reaches W (B + c) (B + d)
          on _ d (old c k) = ap (λ r. is_marked r (B + d)) (row_new c k) ∙ marked_on (slice_index_or vs c no_row) d ∙ kn.ancestors c d ∙ sym (reaches_new m n rm rn km.well_formed kn.well_formed km.ranked kn.ranked c d)
          on _ d (new k) = past (length n.classes + k) (B + d) (omega arith)
              ∙ sym (no_mark d) ∙ ap (λ r. is_marked r d) (sym (get_or_past vs (length n.classes + k) no_row (omega (arith, kn.each_row))))
              ∙ kn.ancestors (length n.classes + k) d ∙ sym (reaches_new m n rm rn km.well_formed kn.well_formed km.ranked kn.ranked (length n.classes + k) d)

  starts : (c : ℕ) → (slice_index_or rows c no_row).start ≤ length W.classes
  starts c = by c (half B c)
    where
      by : (c : ℕ) → Half B c → (slice_index_or rows c no_row).start ≤ length W.classes
      by _ (old c l) = omega (arith, ap (λ (r : Row). r.start) (row_old c l), km.starts c, count)
      by _ (new c) = at c (half (length n.classes) c)
        where
          at : (c : ℕ) → Half (length n.classes) c → (slice_index_or rows (B + c) no_row).start ≤ length W.classes
          at _ (old c l) = omega (arith, ap (λ (r : Row). r.start) (row_new c l), kn.starts c, count)
          at _ (new k) = (let none : (slice_index_or rows (B + (length n.classes + k)) no_row).start ≡ 0 = ap (λ (r : Row). r.start) (row_past (length n.classes + k) (omega arith)) in omega (arith, none))

  pub kept : IsKept (joined m n) lists rows ranks
  kept = subst (λ x. IsKept x lists rows ranks) (sym (is_joined m n rm rn km.well_formed kn.well_formed km.ranked kn.ranked)) (record {
    well_formed = well_formed m n rm rn km.well_formed kn.well_formed km.ranked kn.ranked other few_ms few_cs few_fs ranks ranked;
    ranked = ranked;
    each = length-append lm (map (map (feature_on (begin_after m))) ln) ∙ omega (arith, km.each, kn.each, length-map ln (map (feature_on (begin_after m))), count);
    each_row = length-append ws (map (row_on (begin_after m)) vs) ∙ omega (arith, km.each_row, kn.each_row, length-map vs (row_on (begin_after m)), count);
    starts = starts;
    features = each_list;
    ancestors = each_row;
  })
