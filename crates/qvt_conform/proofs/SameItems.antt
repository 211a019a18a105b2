-- Equality of items, by cases.
use Rattle.std.proofs.Common.{◌≡◌, ◌∙◌, ◌==◌, ℕ, ◌+◌, ◌<◌, Bool, true, false, not, List, [], ◌∷◌, ◌++◌, map, length, take, get_or, ◌||◌, ◌&&◌, refl, sym, ap, subst, Bor}
use Rattle.std.specs.List.{list_any}
use Rattle.std.specs.Cmp.{booleans_Decides}
use Rattle.std.proofs.lemmas.Bool.Decides.{Decides-eqb, Decides-int_eq}
use Rattle.std.proofs.lemmas.List.{take_more}
use Rattle.std.proofs.lemmas.Slice.Eq.{bytes_eq-Decides}
use Rattle.qvt_model.specs.declared.data.Datum.{Datum}
use Rattle.qvt_model.specs.declared.data.Datum.TheVariants.{Bool as BoolDatum, Int, Str, Literal, Ref}
use Rattle.qvt_model.specs.contracts.data.DatumPartialEq.TheImpl.{ghosts}
use Rattle.qvt_value.specs.declared.value.LiteralRef.{LiteralRef}
use Rattle.qvt_relation.proofs.Bools.{and_left, and_right, and_both, same_test}
use Rattle.qvt_repeats.specs.Repeats.{repeats_by}
use Rattle.qvt_repeats.proofs.Repeating as general
use Rattle.qvt_conform.specs.Items.{same_literal, same_item}

grouped : (a b c : Bool) → (a && (b && c)) ≡ ((a && b) && c)
grouped true b c = refl
grouped false b c = refl

pub same : (x y : Datum) → ghosts.eq x y ≡ same_item x y
same (BoolDatum a) (BoolDatum b) = refl
same (BoolDatum a) (Int b) = refl
same (BoolDatum a) (Str b) = refl
same (BoolDatum a) (Literal b) = refl
same (BoolDatum a) (Ref b) = refl
same (Int a) (BoolDatum b) = refl
same (Int a) (Int b) = refl
same (Int a) (Str b) = refl
same (Int a) (Literal b) = refl
same (Int a) (Ref b) = refl
same (Str a) (BoolDatum b) = refl
same (Str a) (Int b) = refl
same (Str a) (Str b) = refl
same (Str a) (Literal b) = refl
same (Str a) (Ref b) = refl
same (Literal a) (BoolDatum b) = refl
same (Literal a) (Int b) = refl
same (Literal a) (Str b) = refl
same (Literal a) (Literal b) = grouped (a.metamodel == b.metamodel) (a.enumeration == b.enumeration) (a.literal == b.literal)
same (Literal a) (Ref b) = refl
same (Ref a) (BoolDatum b) = refl
same (Ref a) (Int b) = refl
same (Ref a) (Str b) = refl
same (Ref a) (Literal b) = refl
same (Ref a) (Ref b) = refl

pub held : (x : Bor Datum) (keys : List (Bor Datum)) → list_any (λ k. ghosts.eq x.now k.now) keys ≡ list_any (same_item x.now) (map (λ k. k.now) keys)
held x [] = refl
held x (k ∷ keys) = ap (λ b. b || list_any (λ k. ghosts.eq x.now k.now) keys) (same x.now k.now) ∙ ap (λ b. same_item x.now k.now || b) (held x keys)

-- ---- equal items are the same

literal_is : (a b : LiteralRef) → same_literal a b ≡ true → a ≡ b
literal_is a b h =
    let first : ((a.metamodel == b.metamodel) && (a.enumeration == b.enumeration)) ≡ true = and_left _ _ h in
    let m : a.metamodel ≡ b.metamodel = (Decides-eqb a.metamodel b.metamodel).0 (and_left _ _ first) in
    let e : a.enumeration ≡ b.enumeration = (Decides-eqb a.enumeration b.enumeration).0 (and_right (a.metamodel == b.metamodel) _ first) in
    let l : a.literal ≡ b.literal = (Decides-eqb a.literal b.literal).0 (and_right ((a.metamodel == b.metamodel) && (a.enumeration == b.enumeration)) _ h) in
    λ i. record { metamodel = m i; enumeration = e i; literal = l i }

pub same_is : (x y : Datum) → same_item x y ≡ true → x ≡ y
same_is (BoolDatum a) (BoolDatum b) h = ap BoolDatum ((booleans_Decides a b).0 h)
same_is (Int a) (Int b) h = ap Int ((Decides-int_eq a b).0 h)
same_is (Str a) (Str b) h = ap Str ((bytes_eq-Decides a b).0 h)
same_is (Literal a) (Literal b) h = ap Literal (literal_is a b h)
same_is (Ref a) (Ref b) h = ap Ref ((Decides-eqb a b).0 h)
same_is x y h = cc

pub same_itself : (x : Datum) → same_item x x ≡ true
same_itself (BoolDatum a) = (booleans_Decides a a).1 refl
same_itself (Int a) = (Decides-int_eq a a).1 refl
same_itself (Str a) = (bytes_eq-Decides a a).1 refl
same_itself (Literal a) = and_both _ _ (and_both _ _ ((Decides-eqb a.metamodel a.metamodel).1 refl) ((Decides-eqb a.enumeration a.enumeration).1 refl)) ((Decides-eqb a.literal a.literal).1 refl)
same_itself (Ref a) = (Decides-eqb a a).1 refl

pub same_flip : (x y : Datum) → same_item x y ≡ same_item y x
same_flip x y = same_test _ _ (turned x y) (turned y x)
  where
    turned : (x y : Datum) → same_item x y ≡ true → same_item y x ≡ true
    turned x y h = subst (λ z. same_item z x ≡ true) (same_is x y h) (same_itself x)

-- ---- items one after the other, so far without a repeat

module _ (xs seen : List Datum) (i : ℕ) (x : Datum) (below : i < length xs) (is : x ≡ get_or xs i x) (so : seen ≡ take i xs) where
  pub seen_next : (new : List Datum) → new ≡ seen ++ x ∷ [] → new ≡ take (i + 1) xs
  seen_next new e = e ∙ (λ k. so k ++ is k ∷ []) ∙ sym (take_more xs i x below)

  pub repeats_next : (b : Bool) → repeats_by same_item (take i xs) ≡ false → b ≡ not (list_any (same_item x) seen) → repeats_by same_item (take (i + 1) xs) ≡ not b
  repeats_next b none e = general.repeats_next same_item same_flip xs i x below none ∙ (λ k. list_any (same_item (sym is k)) (sym so k)) ∙ sym (ap not e ∙ twice (list_any (same_item x) seen))
    where
      twice : (c : Bool) → not (not c) ≡ c
      twice true = refl
      twice false = refl
