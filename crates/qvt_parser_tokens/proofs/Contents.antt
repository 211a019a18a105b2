-- What stands between two quotes.
use Rattle.std.proofs.Common.{◌≡◌, ℕ, zero, suc, ◌≤◌, List, [], ◌∷◌, length, refl, ap, ◌∙◌, arith, Some, None}
use Rattle.qvt_lexer.specs.Literals.{TakenCodePoint, item_at}
use Rattle.qvt_lexer.proofs.Items.{item_shorter}
use Rattle.qvt_parser_tokens.specs.Said.{items, content}

abbrev step : ℕ → ℕ → TakenCodePoint → List ℕ
step n q t = elim t [ None ↦ [] | Some x ↦ x.0 ∷ items n q x.1 ]

same_step : (n m q : ℕ) (cs : List ℕ) (t : TakenCodePoint) → item_at q cs ≡ t → ((v : ℕ) (s : List ℕ) → item_at q cs ≡ Some (v, s) → items n q s ≡ items m q s) → step n q t ≡ step m q t
same_step n m q cs None h ih = refl
same_step n m q cs (Some (v, s)) h ih = ap (λ z. v ∷ z) (ih v s h)

-- as many items as there are characters are all
enough : (n m q : ℕ) (cs : List ℕ) → length cs ≤ n → length cs ≤ m → items n q cs ≡ items m q cs
enough zero zero q cs a b = refl
enough zero (suc m) q [] a b = refl
enough zero (suc m) q (c ∷ cs) a b = absurd (omega arith)
enough (suc n) zero q [] a b = refl
enough (suc n) zero q (c ∷ cs) a b = absurd (omega arith)
enough (suc n) (suc m) q cs a b = same_step n m q cs (item_at q cs) refl (λ v s h. let lt = item_shorter q cs v s h in enough n m q s (omega arith) (omega arith))

content_cases : (n q : ℕ) (cs : List ℕ) (v : ℕ) (s : List ℕ) → length cs ≤ suc n → item_at q cs ≡ Some (v, s) → items (suc n) q cs ≡ v ∷ content q s
content_cases n q cs v s le h = let lt = item_shorter q cs v s h in ap (step n q) h ∙ ap (λ z. v ∷ z) (enough n (length s) q s (omega arith) (omega arith))

-- one item more
pub content_item : (q : ℕ) (cs : List ℕ) (v : ℕ) (s : List ℕ) → item_at q cs ≡ Some (v, s) → content q cs ≡ v ∷ content q s
content_item q [] v s h = absurd (let lt = item_shorter q [] v s h in omega arith)
content_item q (c ∷ cs) v s h = content_cases (length cs) q (c ∷ cs) v s (omega arith) h

none_step : (n q : ℕ) (cs : List ℕ) → item_at q cs ≡ None → items n q cs ≡ []
none_step zero q cs h = refl
none_step (suc n) q cs h = ap (step n q) h

-- no item is left
pub content_none : (q : ℕ) (cs : List ℕ) → item_at q cs ≡ None → content q cs ≡ []
content_none q cs h = none_step (length cs) q cs h
