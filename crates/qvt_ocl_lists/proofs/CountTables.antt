-- How often values are left in a table, step by step.
use Rattle.std.proofs.Common.{◌≡◌, ◌∙◌, ℕ, zero, suc, ◌+◌, ◌-◌, ◌<◌, ◌≤◌, Bool, true, false, cond, refl, sym, ap, List, [], ◌∷◌, length, take, get_or, arith}
use Rattle.std.specs.Prelude.{Option, Some, None, nat_lt, unwrap_or}
use Rattle.std.specs.Map.{lookup}
use Rattle.std.specs.Ordering.{is_eq}
use Rattle.std.proofs.lemmas.Bool.{ltb-true, ltb-false, lt-ltb, le-ltb}
use Rattle.std.proofs.lemmas.List.Sums.{count_by_more_yes, count_by_more_no}
use denote.Ref.{Bor}
use Rattle.indexmap.specs.IndexMap.{insert_entry}
use Rattle.qvt_value.specs.declared.value.Value.{Value}
use Rattle.qvt_value.specs.contracts.value.ValuePartialEq.TheImpl as equality
use Rattle.qvt_value.proofs.OrderOfValues.{alike, itself}
use Rattle.qvt_ocl_words.specs.Lists.{same, count}
use Rattle.qvt_ocl_lists.specs.Counts.{shown, left}
use Rattle.qvt_ocl_lists.proofs.ItemLists.{same_is}

-- a look-up by what keys point to
pub looked : (x : Value) (es : List (Bor Value × ℕ)) → lookup (λ (k : Bor Value). equality.ghosts.eq x k.now) es ≡ lookup (same x) (shown es)
looked x [] = refl
looked x (e ∷ es) = λ i. cond (alike x e.0.now i) (Some e.1) (looked x es i)

same_itself : (v : Value) → same v v ≡ true
same_itself v = ap is_eq (itself v)

hit : (b : Bool) (n m : ℕ) (o : Option ℕ) → unwrap_or (cond b (Some n) o) 0 ≡ cond b n (unwrap_or (cond b (Some m) o) 0)
hit true n m o = refl
hit false n m o = refl

miss : (b c : Bool) → (b ≡ true → c ≡ true → ⊥) → (n m : ℕ) (o p : Option ℕ) → unwrap_or o 0 ≡ cond c n (unwrap_or p 0) → unwrap_or (cond b (Some m) o) 0 ≡ cond c n (unwrap_or (cond b (Some m) p) 0)
miss true true h n m o p e = absurd (h refl refl)
miss true false h n m o p e = refl
miss false c h n m o p e = e

first : (b : Bool) (n : ℕ) → unwrap_or (cond b (Some n) None) 0 ≡ cond b n 0
first true n = refl
first false n = refl

no : {A : Type 0} → (b : Bool) → b ≡ true → b ≡ false → A
no true h k = cc
no false h k = cc

-- after a key has got a number
pub put : (k : Bor Value) (n : ℕ) (es : List (Bor Value × ℕ)) (x : Value) → left (shown (insert_entry (λ (a b : Bor Value). equality.ghosts.eq a.now b.now) es k n)) x ≡ cond (same x k.now) n (left (shown es) x)
put k n [] x = first (same x k.now) n
put k n (e ∷ es) x = go (equality.ghosts.eq k.now e.0.now) refl (put k n es x)
  where
    go : (b : Bool) → equality.ghosts.eq k.now e.0.now ≡ b → left (shown (insert_entry (λ (a b : Bor Value). equality.ghosts.eq a.now b.now) es k n)) x ≡ cond (same x k.now) n (left (shown es) x)
        → left (shown (cond b ((e.0, n) ∷ es) (e ∷ insert_entry (λ (a b : Bor Value). equality.ghosts.eq a.now b.now) es k n))) x ≡ cond (same x k.now) n (left (shown (e ∷ es)) x)
    go true h ih =
        let q : e.0.now ≡ k.now = sym (same_is k.now e.0.now (sym (alike k.now e.0.now) ∙ h)) in
        ap (λ v. unwrap_or (cond (same x v) (Some n) (lookup (same x) (shown es))) 0) q
        ∙ hit (same x k.now) n e.1 (lookup (same x) (shown es))
        ∙ ap (λ v. cond (same x k.now) n (unwrap_or (cond (same x v) (Some e.1) (lookup (same x) (shown es))) 0)) (sym q)
    go false h ih =
        miss (same x e.0.now) (same x k.now)
        (λ s t. no (same k.now e.0.now) (ap (λ v. same v e.0.now) (sym (same_is x k.now t)) ∙ s) (sym (alike k.now e.0.now) ∙ h))
        n e.1 (lookup (same x) (shown (insert_entry (λ (a b : Bor Value). equality.ghosts.eq a.now b.now) es k n))) (lookup (same x) (shown es)) ih

-- an item more
counted_one : (x v : Value) (xs : List Value) (i : ℕ) (b : Bool) → same x v ≡ b → i < length xs → v ≡ get_or xs i v → count x (take (i + 1) xs) ≡ cond b (count x (take i xs) + 1) (count x (take i xs))
counted_one x v xs i true s l e = count_by_more_yes (same x) xs i v l (ap (same x) (sym e) ∙ s)
counted_one x v xs i false s l e = count_by_more_no (same x) xs i v l (ap (same x) (sym e) ∙ s)

pub counted : (xs : List Value) (i : ℕ) (v : Value) (before after : List (Value × ℕ)) (more : ℕ) → i < length xs → v ≡ get_or xs i v → ((x : Value) → left before x ≡ count x (take i xs)) → more ≡ left before v + 1 → ((x : Value) → left after x ≡ cond (same x v) more (left before x)) → (x : Value) → left after x ≡ count x (take (i + 1) xs)
counted xs i v before after more l e inv m step x = step x ∙ go (same x v) refl
  where
    go : (b : Bool) → same x v ≡ b → cond (same x v) more (left before x) ≡ count x (take (i + 1) xs)
    go true s =
        ap (λ b. cond b more (left before x)) s ∙ m ∙ ap (λ w. left before w + 1) (sym (same_is x v s)) ∙ ap (λ n. n + 1) (inv x) ∙ sym (counted_one x v xs i true s l e)
    go false s = ap (λ b. cond b more (left before x)) s ∙ inv x ∙ sym (counted_one x v xs i false s l e)

-- a value taken that is not left
pub none_taken : (es : List (Value × ℕ)) (v : Value) → left es v ≡ 0 → (x : Value) → left es x ≡ cond (same x v) (left es x - 1) (left es x)
none_taken es v z x = go (same x v) refl
  where
    nothing : (n : ℕ) → n ≡ 0 → n ≡ n - 1
    nothing n h = omega arith

    go : (b : Bool) → same x v ≡ b → left es x ≡ cond (same x v) (left es x - 1) (left es x)
    go true s = nothing (left es x) (ap (left es) (same_is x v s) ∙ z) ∙ sym (ap (λ b. cond b (left es x - 1) (left es x)) s)
    go false s = sym (ap (λ b. cond b (left es x - 1) (left es x)) s)

-- one taken
pub some_taken : (before after : List (Value × ℕ)) (v : Value) (n : ℕ) → n ≡ left before v → ((x : Value) → left after x ≡ cond (same x v) (n - 1) (left before x)) → (x : Value) → left after x ≡ cond (same x v) (left before x - 1) (left before x)
some_taken before after v n m step x = step x ∙ go (same x v) refl
  where
    go : (b : Bool) → same x v ≡ b → cond (same x v) (n - 1) (left before x) ≡ cond (same x v) (left before x - 1) (left before x)
    go true s =
        ap (λ b. cond b (n - 1) (left before x)) s ∙ ap (λ k. k - 1) (m ∙ ap (left before) (sym (same_is x v s))) ∙ sym (ap (λ b. cond b (left before x - 1) (left before x)) s)
    go false s = ap (λ b. cond b (n - 1) (left before x)) s ∙ sym (ap (λ b. cond b (left before x - 1) (left before x)) s)

-- what is left of a list, of which as many were taken as stood before
pub less_left : (a b : ℕ) → nat_lt 0 (a - b) ≡ nat_lt b a
less_left a b = go (nat_lt b a) refl
  where
    go : (c : Bool) → nat_lt b a ≡ c → nat_lt 0 (a - b) ≡ nat_lt b a
    go true h = let l : b < a = ltb-true b a h in lt-ltb 0 (a - b) (omega arith) ∙ sym h
    go false h = let l : a ≤ b = ltb-false b a h in le-ltb 0 (a - b) (omega arith) ∙ sym h

pub left_more : (ys xs : List Value) (i : ℕ) (v : Value) (before after : List (Value × ℕ)) → i < length xs → v ≡ get_or xs i v → ((x : Value) → left before x ≡ count x ys - count x (take i xs)) → ((x : Value) → left after x ≡ cond (same x v) (left before x - 1) (left before x)) → (x : Value) → left after x ≡ count x ys - count x (take (i + 1) xs)
left_more ys xs i v before after l e inv step x = step x ∙ go (same x v) refl
  where
    one_less : (a b : ℕ) → a - b - 1 ≡ a - (b + 1)
    one_less a b = omega arith

    go : (b : Bool) → same x v ≡ b → cond (same x v) (left before x - 1) (left before x) ≡ count x ys - count x (take (i + 1) xs)
    go true s =
        ap (λ b. cond b (left before x - 1) (left before x)) s ∙ ap (λ n. n - 1) (inv x) ∙ one_less (count x ys) (count x (take i xs)) ∙ sym (ap (λ n. count x ys - n) (counted_one x v xs i true s l e))
    go false s = ap (λ b. cond b (left before x - 1) (left before x)) s ∙ inv x ∙ sym (ap (λ n. count x ys - n) (counted_one x v xs i false s l e))
