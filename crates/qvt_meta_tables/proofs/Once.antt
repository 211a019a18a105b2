-- Lists in which each feature stands once.
use Rattle.std.proofs.Common.{◌≡◌, ◌∙◌, ℕ, zero, suc, ◌+◌, ◌<◌, List, [], ◌∷◌, ◌++◌, length, get_or, set, take, drop, Bool, true, false, refl, ap, sym, subst, arith, ◌==◌, ◌||◌, ◌⊎◌, inl, inr, append_assoc}
use Rattle.std.specs.Prelude.{if◌then◌else◌, IfSome, Option, Some, None}
use Rattle.std.specs.Option.{unwrap_or}
use Rattle.std.specs.List.{flat_map, slice_range}
use Rattle.std.proofs.Math.Bool.{or-false}
use Rattle.std.proofs.Math.Seq.{take-length}
use Rattle.std.proofs.lemmas.Bool.{eq-eqb, eqb-true}
use Rattle.std.proofs.lemmas.List.{append-nil, append_cancel_left, drop_more, length-drop, take-append-drop, take_more}
use Rattle.qvt_base.specs.declared.numbers.ClassNo.{ClassNo}
use Rattle.qvt_base.specs.declared.numbers.FeatureNo.{FeatureNo}
use Rattle.qvt_metamodel.specs.Metamodels.{among_features, each_once}
use Rattle.qvt_metamodel.proofs.Bools.{not_true, clash, or_cases, or_left, or_right}
use Rattle.qvt_metamodel.proofs.ListFacts.{once-append}
use Rattle.qvt_metamodel.proofs.Owners.{among-append, once-from}
use Rattle.qvt_meta_tables.specs.NumberSets.{has_number}
use Rattle.qvt_meta_tables.specs.Placed.{IsOnce, AreIn, AreNew, AreNoted}

-- a first part of those that are left
pub behind_part : (gs all list next xs ys zs : List FeatureNo) → list ++ each_once (gs ++ list) xs ≡ all → xs ≡ ys ++ zs → next ≡ list ++ each_once (gs ++ list) ys
    → next ++ each_once (gs ++ next) zs ≡ all
behind_part gs all list next xs ys zs h split e =
    append_cancel_left gs (next ++ each_once (gs ++ next) zs) all
    (sym (append_assoc gs next (each_once (gs ++ next) zs))
    ∙ ap (λ n. n ++ each_once n zs) (ap (λ x. gs ++ x) e ∙ sym (append_assoc gs list (each_once (gs ++ list) ys)))
    ∙ once-append (gs ++ list) ys zs
    ∙ sym (ap (λ x. (gs ++ list) ++ each_once (gs ++ list) x) split)
    ∙ append_assoc gs list (each_once (gs ++ list) xs)
    ∙ ap (λ x. gs ++ x) h)

-- features that all are seen already
once_known : (seen xs ys : List FeatureNo) → ((n : ℕ) → among_features n xs ≡ true → among_features n seen ≡ true) → each_once seen (xs ++ ys) ≡ each_once seen ys
once_known seen [] ys known = refl
once_known seen (x ∷ xs) ys known =
    ap (λ t. if t then each_once seen (xs ++ ys) else x ∷ each_once (seen ++ x ∷ []) (xs ++ ys)) (known x.0 (or_left (x.0 == x.0) (among_features x.0 xs) (eq-eqb x.0 x.0 refl)))
    ∙ once_known seen xs ys (λ n h. known n (or_right (x.0 == n) (among_features n xs) h))

-- features behind those that are shared with the first ones
pub once_beyond : (gs more list : List FeatureNo) (k : ℕ) → take k gs ≡ take k list → each_once (gs ++ more) (drop k list) ≡ each_once (gs ++ more) list
once_beyond gs more list k same =
    sym (once_known (gs ++ more) (take k gs) (drop k list) (λ n h. among-append n gs more ∙ or_left (among_features n gs) (among_features n more) (sym (ap (among_features n) (take-append-drop k gs))
    ∙ among-append n (take k gs) (drop k gs) ∙ or_left (among_features n (take k gs)) (among_features n (drop k gs)) h)))
    ∙ ap (each_once (gs ++ more)) (ap (λ xs. xs ++ drop k list) same ∙ take-append-drop k list)

-- the first of several lists has nothing that is not seen
pub none_beyond : (seen xs ys : List FeatureNo) → each_once seen xs ≡ [] → each_once seen (xs ++ ys) ≡ each_once seen ys
none_beyond seen xs ys none =
    sym (append_cancel_left seen (each_once seen ys) (each_once seen (xs ++ ys))
    (ap (λ s. s ++ each_once s ys) (sym (append-nil seen) ∙ ap (λ l. seen ++ l) (sym none)) ∙ once-append seen xs ys))

pub none_next : {X : Type 0} (f : X → List FeatureNo) (gs rest all : List FeatureNo) (xs : List X) (i : ℕ) (d : X) → i < length xs → each_once (gs ++ []) rest ≡ each_once (gs ++ []) (f (get_or xs i d)) → (length rest == 0) ≡ true
    → each_once gs (flat_map f (drop i xs)) ≡ all → each_once gs (flat_map f (drop (i + 1) xs)) ≡ all
none_next f gs (x ∷ rest) all xs i d l same none before = (let z : suc (length rest) ≡ 0 = eqb-true (suc (length rest)) 0 none in absurd (omega (arith, z)))
none_next f gs [] all xs i d l same none before =
    sym (none_beyond gs (f (get_or xs i d)) (flat_map f (drop (i + 1) xs)) (ap (λ s. each_once s (f (get_or xs i d))) (sym (append-nil gs)) ∙ sym same))
    ∙ sym (ap (λ ys. each_once gs (flat_map f ys)) (drop_more xs i d l))
    ∙ before

-- what all have from one on, each once, where that one has no feature twice
pub once_first : {X : Type 0} (f : X → List FeatureNo) (xs : List X) (i : ℕ) (d : X) → i < length xs → flat_map f xs ≡ flat_map f (drop i xs) → IsOnce (f (get_or xs i d))
    → f (get_or xs i d) ++ each_once (f (get_or xs i d)) (flat_map f (slice_range xs (i + 1) (length xs))) ≡ each_once [] (flat_map f xs)
once_first f xs i d l from once =
    ap (λ ys. f (get_or xs i d) ++ each_once (f (get_or xs i d)) (flat_map f ys)) (ap (λ n. take n (drop (i + 1) xs)) (sym (length-drop (i + 1) xs)) ∙ take-length (drop (i + 1) xs))
    ∙ ap (λ s. s ++ each_once s (flat_map f (drop (i + 1) xs))) (sym once)
    ∙ once-append [] (f (get_or xs i d)) (flat_map f (drop (i + 1) xs))
    ∙ ap (each_once []) (sym (from ∙ ap (flat_map f) (drop_more xs i d l)))

-- the place of the first one that has features, or the first place
pub at_first : {X : Type 0} (f : X → List FeatureNo) (xs : List X) (found : Option ℕ) → (length xs == 0) ≡ false → IfSome found (λ i. i < length xs) → IfSome found (λ i. flat_map f xs ≡ flat_map f (drop i xs))
    → (unwrap_or found 0 < length xs) × (flat_map f xs ≡ flat_map f (drop (unwrap_or found 0) xs))
at_first f [] found some within from = absurd (cc)
at_first f (x ∷ xs) None some within from = (let l : 0 < suc (length xs) = omega arith in l, refl)
at_first f (x ∷ xs) (Some i) some within from = (within, from)

once_again : (seen gs : List FeatureNo) → each_once seen (each_once seen gs) ≡ each_once seen gs
once_again seen [] = refl
once_again seen (g ∷ gs) = by (among_features g.0 seen) refl (once_again seen gs) (once_again (seen ++ g ∷ []) gs)
  where
    by : (t : Bool) → among_features g.0 seen ≡ t → each_once seen (each_once seen gs) ≡ each_once seen gs
        → each_once (seen ++ g ∷ []) (each_once (seen ++ g ∷ []) gs) ≡ each_once (seen ++ g ∷ []) gs
        → each_once seen (if t then each_once seen gs else g ∷ each_once (seen ++ g ∷ []) gs) ≡ (if t then each_once seen gs else g ∷ each_once (seen ++ g ∷ []) gs)
    by true e same more = same
    by false e same more =
        ap (λ t. if t then each_once seen (each_once (seen ++ g ∷ []) gs) else g ∷ each_once (seen ++ g ∷ []) (each_once (seen ++ g ∷ []) gs)) e ∙ ap (λ l. g ∷ l) more

-- features behind others that they are not among
once_behind : (gs own : List FeatureNo) → IsOnce gs → each_once gs own ≡ own → IsOnce (gs ++ own)
once_behind gs own once new =
    sym (once-append [] gs own) ∙ ap (λ l. l ++ each_once l own) once ∙ ap (λ l. gs ++ l) new

-- features that are put into a set one by one

pub new_next : (set next : List ℕ × ℕ) (own : List FeatureNo) (i : ℕ) (d : FeatureNo) (gs : List FeatureNo) → i < length own → has_number set (get_or own i d).0 ≡ false
    → ((n : ℕ) → has_number next n ≡ (has_number set n || ((get_or own i d).0 == n)))
    → (each_once gs own ≡ take i own ++ each_once (gs ++ take i own) (drop i own)) × AreIn set (gs ++ take i own)
    → (each_once gs own ≡ take (i + 1) own ++ each_once (gs ++ take (i + 1) own) (drop (i + 1) own)) × AreIn next (gs ++ take (i + 1) own)
new_next set next own i d gs l new puts before =
    let g : FeatureNo = get_or own i d in
    let seen : List FeatureNo = gs ++ take i own in
    let rest : List FeatureNo = drop (i + 1) own in
    let first : take (i + 1) own ≡ take i own ++ g ∷ [] = take_more own i d l in
    let more : gs ++ take (i + 1) own ≡ seen ++ g ∷ [] = ap (λ x. gs ++ x) first ∙ sym (append_assoc gs (take i own) (g ∷ [])) in
    let none : among_features g.0 seen ≡ false = not_true (among_features g.0 seen) (λ h. clash (before.1 g.0 h) new) in (
      before.0
          ∙ ap (λ x. take i own ++ x) (ap (each_once seen) (drop_more own i d l) ∙ ap (λ t. if t then each_once seen rest else g ∷ each_once (seen ++ g ∷ []) rest) none)
          ∙ sym (append_assoc (take i own) (g ∷ []) (each_once (seen ++ g ∷ []) rest))
          ∙ (λ j. sym first j ++ each_once (sym more j) rest),
      subst (AreIn next) (sym more) (λ n h. puts n ∙ among n g (or_cases (among_features n seen) (among_features n (g ∷ [])) (sym (among-append n seen (g ∷ [])) ∙ h))),
    )
  where
    among : (n : ℕ) (g : FeatureNo) → (among_features n (gs ++ take i own) ≡ true) ⊎ (among_features n (g ∷ []) ≡ true) → (has_number set n || (g.0 == n)) ≡ true
    among n g (inl a) = or_left (has_number set n) (g.0 == n) (before.1 n a)
    among n g (inr b) = or_right (has_number set n) (g.0 == n) (sym (or-false (g.0 == n)) ∙ b)

-- the lists with that of one class more

set_either : (P : List FeatureNo → Type 0) (lists : List (List FeatureNo)) (place : ℕ) (list : List FeatureNo) (c : ℕ) → P list → P (get_or lists c []) → P (get_or (set lists place list) c [])
set_either P [] place list c p q = q
set_either P (x ∷ lists) zero list zero p q = p
set_either P (x ∷ lists) zero list (suc c) p q = q
set_either P (x ∷ lists) (suc place) list zero p q = q
set_either P (x ∷ lists) (suc place) list (suc c) p q = set_either P lists place list c p q

module _ (lists : List (List FeatureNo)) (before after : List ℕ × ℕ) (noted : AreNoted lists before) where
  abbrev lists_above : List ClassNo → List FeatureNo
  lists_above supers = flat_map (λ s. get_or lists s.0 []) supers

  above_within : (supers : List ClassNo) → AreIn before (lists_above supers)
  above_within [] n h = absurd (cc)
  above_within (s ∷ supers) n h = elim (or_cases (among_features n (get_or lists s.0 [])) (among_features n (lists_above supers)) (sym (among-append n (get_or lists s.0 []) (lists_above supers)) ∙ h)) [
    | inl here ↦ noted.within s.0 n here
    | inr later ↦ above_within supers n later
  ]

  pub noted_next : (place : ℕ) (supers : List ClassNo) (own : List FeatureNo) → AreNew before own after → AreNoted (set lists place (each_once [] (lists_above supers) ++ own)) after
  noted_next place supers own new =
      let above : List FeatureNo = each_once [] (lists_above supers) in
      let next = new above (λ n h. above_within supers n (once-from [] (lists_above supers) n h)) in
      record {
        once = λ c. set_either IsOnce lists place (above ++ own) c (once_behind above own (once_again [] (lists_above supers)) next.0) (noted.once c);
        within = λ c. set_either (AreIn after) lists place (above ++ own) c next.1 (λ n h. (new (get_or lists c []) (noted.within c)).1 n
            (among-append n (get_or lists c []) own ∙ or_left (among_features n (get_or lists c [])) (among_features n own) h));
      }

-- lists without features
pub none_noted : (lists : List (List FeatureNo)) (set : List ℕ × ℕ) → ((c : ℕ) → get_or lists c [] ≡ []) → AreNoted lists set
none_noted lists set none = record {
  once = λ c. ap (each_once []) (none c) ∙ sym (none c);
  within = λ c n h. absurd (clash h (ap (among_features n) (none c)));
}
