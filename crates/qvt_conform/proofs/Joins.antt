-- Sets joined one after the other.
use Rattle.std.proofs.Common.{◌≡◌, ◌∙◌, ℕ, suc, ◌+◌, ◌<◌, List, [], ◌∷◌, ◌++◌, length, drop, get_or, Bool, true, false, ◌||◌, refl, sym, ap, subst, arith}
use Rattle.std.proofs.lemmas.List.{at_drop_more}
use Rattle.std.specs.List.{list_any}
use Rattle.qvt_conform.specs.declared.links.ObjectLink.{ObjectLink}
use Rattle.qvt_conform.specs.Joined.{Joined}
use Rattle.qvt_conform.specs.Links.{same_link}

or_false : (a : Bool) → a ≡ (a || false)
or_false true = refl
or_false false = refl

or_or : (a b d : Bool) → ((a || b) || d) ≡ (a || (b || d))
or_or true b d = refl
or_or false b d = refl

any-append : (p : ObjectLink → Bool) (xs ys : List ObjectLink) → list_any p (xs ++ ys) ≡ (list_any p xs || list_any p ys)
any-append p [] ys = refl
any-append p (x ∷ xs) ys = ap (λ b. p x || b) (any-append p xs ys) ∙ sym (or_or (p x) (list_any p xs) (list_any p ys))

pub nothing_joined : (a : List ObjectLink) → Joined a [] a
nothing_joined a = record { holds = λ l. or_false (list_any (same_link l) a) }

pub chained : (a xs b ys c : List ObjectLink) → Joined a xs b → Joined b ys c → Joined a (xs ++ ys) c
chained a xs b ys c p q = record {
  holds = λ l.
      q.holds l ∙ ap (λ t. t || list_any (same_link l) ys) (p.holds l)
      ∙ or_or (list_any (same_link l) a) (list_any (same_link l) xs) (list_any (same_link l) ys)
      ∙ ap (λ t. list_any (same_link l) a || t) (sym (any-append (same_link l) xs ys));
}

-- the walk over a list goes on by one
pub goes_on : {X : Type 0} (F : ℕ → List X → List ObjectLink) (g : ℕ → X → List ObjectLink) → ((i : ℕ) (x : X) (xs : List X) → F i (x ∷ xs) ≡ g i x ++ F (suc i) xs)
    → (items : List X) (k : ℕ) (x : X) → k < length items → x ≡ get_or items k x → (start cur next : List ObjectLink)
    → ((end : List ObjectLink) → Joined cur (F k (drop k items)) end → Joined start (F 0 items) end)
    → Joined cur (g k x) next
    → (end : List ObjectLink) → Joined next (F (k + 1) (drop (k + 1) items)) end → Joined start (F 0 items) end
goes_on F g step items k x lt is start cur next inv one end rest =
    let more : F k (drop k items) ≡ g k (get_or items k x) ++ F (suc k) (drop (k + 1) items) = at_drop_more (F k) items k x lt ∙ step k (get_or items k x) (drop (k + 1) items) in
    let same : suc k ≡ k + 1 = omega arith in
    inv end (subst (λ ls. Joined cur ls end) (sym more) (chained cur (g k (get_or items k x)) next (F (suc k) (drop (k + 1) items)) end
    (subst (λ y. Joined cur (g k y) next) is one) (subst (λ j. Joined next (F j (drop (k + 1) items)) end) (sym same) rest)))
