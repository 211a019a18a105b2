-- The lists of the objects of extents.
use Rattle.std.proofs.Common.{◌≡◌, ℕ, suc, ◌+◌, ◌<◌, Bool, true, false, ◌==◌, cond, inl, inr, refl, sym, ap, ◌∙◌, subst, List, [], ◌∷◌, ◌++◌, length, get_or, set, arith}
use Rattle.std.specs.Prelude.{slice_index_or}
use Rattle.std.proofs.lemmas.Bool.{cases_eq, eq-eqb, ne_eqb}
use Rattle.std.proofs.lemmas.List.{get_or-set_same, get_or-set_other, length-set}
use Rattle.qvt_base.specs.declared.numbers.Oid.{Oid}
use Rattle.qvt_slots.specs.declared.extent.Extent.{Extent}
use Rattle.qvt_slots.specs.declared.cell.Cell.{Cell}
use Rattle.qvt_slots.specs.Contents.{Instance, members_from}
use Rattle.qvt_slots.specs.Cells.{instance_of, instances, AreMembers}
use Rattle.qvt_slots.specs.Members.{AreEmpty}

abbrev oid : ℕ → Oid
oid x = record { 0 = x }

members-push : (x n : ℕ) (obs : List Instance) (ob : Instance) (e : ℕ) → x + length obs ≡ n →
    members_from x (obs ++ ob ∷ []) e ≡ cond (ob.extent == e) (members_from x obs e ++ oid n ∷ []) (members_from x obs e)
members-push x n [] ob e h = let same : x ≡ n = omega arith in ap (λ i. cond (ob.extent == e) (oid i ∷ []) []) same
members-push x n (o ∷ obs) ob e h = ap (λ l. cond (o.extent == e) (oid x ∷ l) l) (members-push (suc x) n obs ob e (omega arith)) ∙ go (o.extent == e) (ob.extent == e)
  where
    go : (a b : Bool) → cond a (oid x ∷ cond b (members_from (suc x) obs e ++ oid n ∷ []) (members_from (suc x) obs e)) (cond b (members_from (suc x) obs e ++ oid n ∷ []) (members_from (suc x) obs e))
        ≡ cond b (cond a (oid x ∷ members_from (suc x) obs e) (members_from (suc x) obs e) ++ oid n ∷ []) (cond a (oid x ∷ members_from (suc x) obs e) (members_from (suc x) obs e))
    go true true = refl
    go true false = refl
    go false true = refl
    go false false = refl

pub members_added : (extents : List Extent) (cells new : List Cell) (k : Cell) (members lists : List (List Oid)) (n : ℕ) → length (instances cells) ≡ n →
    instances new ≡ instances cells ++ instance_of k ∷ [] → k.extent < length members →
    lists ≡ set members k.extent (slice_index_or members k.extent [] ++ oid n ∷ []) → AreMembers extents cells members → AreMembers extents new lists
members_added extents cells new k members lists n count pushed live is are = record {
  count = ap length is ∙ length-set members k.extent (slice_index_or members k.extent [] ++ oid n ∷ []) ∙ are.count;
  lists = λ e h.
      let h' : e < length members = subst (λ i. e < i) (ap length is ∙ length-set members k.extent (slice_index_or members k.extent [] ++ oid n ∷ [])) h in
      ap (λ l. slice_index_or l e []) is ∙ go e h'
      ∙ sym (ap (λ l. members_from 0 l e) pushed ∙ members-push 0 n (instances cells) (instance_of k) e (omega (arith, count)));
}
  where
    go : (e : ℕ) → e < length members → slice_index_or (set members k.extent (slice_index_or members k.extent [] ++ oid n ∷ [])) e []
        ≡ cond (k.extent == e) (members_from 0 (instances cells) e ++ oid n ∷ []) (members_from 0 (instances cells) e)
    go e h = elim (cases_eq e k.extent) [
      | inl same ↦ subst (λ i. slice_index_or (set members k.extent (slice_index_or members k.extent [] ++ oid n ∷ [])) i [] ≡ cond (k.extent == i) (members_from 0 (instances cells) i ++ oid n ∷ []) (members_from 0 (instances cells) i)) (sym same)
          (get_or-set_same members k.extent (slice_index_or members k.extent [] ++ oid n ∷ []) [] live
          ∙ ap (λ (l : List Oid). l ++ oid n ∷ []) (are.lists k.extent live)
          ∙ sym (ap (λ b. cond b (members_from 0 (instances cells) k.extent ++ oid n ∷ []) (members_from 0 (instances cells) k.extent)) (eq-eqb k.extent k.extent refl)))
      | inr other ↦ get_or-set_other members k.extent e (slice_index_or members k.extent [] ++ oid n ∷ []) [] other
          ∙ are.lists e h
          ∙ sym (ap (λ b. cond b (members_from 0 (instances cells) e ++ oid n ∷ []) (members_from 0 (instances cells) e)) (ne_eqb k.extent e (λ q. other (sym q))))
    ]

pub no_members : (extents : List Extent) (lists : List (List Oid)) → AreEmpty (length extents) lists → AreMembers extents [] lists
no_members extents lists are = record { count = are.same; lists = λ e h. are.empty e }

-- classes and slots do not tell which extent an object is in
pub members_same : (xs ys : List Instance) (x e : ℕ) → length xs ≡ length ys → ((k : ℕ) (d : Instance) → k < length xs → (get_or xs k d).extent ≡ (get_or ys k d).extent) → members_from x xs e ≡ members_from x ys e
members_same [] [] x e l h = refl
members_same [] (b ∷ ys) x e l h = absurd (omega arith)
members_same (a ∷ xs) [] x e l h = absurd (omega arith)
members_same (a ∷ xs) (b ∷ ys) x e l h =
    ap (λ n. cond (n == e) (oid x ∷ members_from (suc x) xs e) (members_from (suc x) xs e)) (h 0 a (omega arith))
    ∙ ap (λ t. cond (b.extent == e) (oid x ∷ t) t) (members_same xs ys (suc x) e (omega arith) (λ k d q. h (suc k) d (omega arith)))
