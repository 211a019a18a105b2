-- Writes looked up by their slots.
use Rattle.std.proofs.Common.{◌≡◌, ◌∙◌, ℕ, ◌<◌, ◌≤◌, Bool, true, false, ◌||◌, ◌&&◌, ◌==◌, cond, refl, sym, ap, List, [], ◌∷◌, ◌++◌, length, take, drop, arith}
use Rattle.std.specs.List.{list_any}
use Rattle.std.proofs.lemmas.Bool.Decides.{Decides-eqb}
use Rattle.std.proofs.lemmas.List.{take-append-drop, drop-append-le, drop_all, length-append}
use Rattle.std.proofs.lemmas.List.Folds.{list_any-append}
use Rattle.indexmap.specs.IndexSet.{insert_key}
use Rattle.qvt_relation.proofs.Bools.{and_left, and_right, or_left, or_false}
use Rattle.qvt_slots.specs.declared.commit.Write.{Write}
use Rattle.qvt_slots.specs.declared.planned.SlotKey.{SlotKey}
use Rattle.qvt_slots.specs.Listed.{is_write_of, listed, is_key_of, AreKeysOf}

abbrev pub same_key : SlotKey → SlotKey → Bool
same_key k l = is_key_of k.object k.feature l

listed-last : (ws : List Write) (w : Write) (x f : ℕ) → listed (ws ++ w ∷ []) x f ≡ (listed ws x f || is_write_of x f w)
listed-last ws w x f = list_any-append (is_write_of x f) ws (w ∷ []) ∙ ap (λ b. listed ws x f || b) (or_false (is_write_of x f w))

key-last : (ks : List SlotKey) (k : SlotKey) (x f : ℕ) → list_any (is_key_of x f) (ks ++ k ∷ []) ≡ (list_any (is_key_of x f) ks || is_key_of x f k)
key-last ks k x f = list_any-append (is_key_of x f) ks (k ∷ []) ∙ ap (λ b. list_any (is_key_of x f) ks || b) (or_false (is_key_of x f k))

key-put : (ks : List SlotKey) (k : SlotKey) (x f : ℕ) → list_any (is_key_of x f) (insert_key same_key ks k) ≡ (list_any (is_key_of x f) ks || is_key_of x f k)
key-put ks k x f = go (list_any (same_key k) ks) refl
  where
    there : (b : Bool) → is_key_of x f k ≡ b → list_any (same_key k) ks ≡ true → list_any (is_key_of x f) ks ≡ (list_any (is_key_of x f) ks || b)
    there true e h =
        let o : x ≡ k.object = (Decides-eqb x k.object).0 (and_left _ _ e) in
        let p : f ≡ k.feature = (Decides-eqb f k.feature).0 (and_right (x == k.object) _ e) in
        let in_it : list_any (is_key_of x f) ks ≡ true = (λ i. list_any (is_key_of (o i) (p i)) ks) ∙ h in
        in_it ∙ sym (or_left _ true in_it)
    there false e h = sym (or_false (list_any (is_key_of x f) ks))

    go : (b : Bool) → list_any (same_key k) ks ≡ b → list_any (is_key_of x f) (cond b ks (ks ++ k ∷ [])) ≡ (list_any (is_key_of x f) ks || is_key_of x f k)
    go true h = there (is_key_of x f k) refl h
    go false h = key-last ks k x f

-- the writes are the first of them and those after them
pub listed_parts : (ws : List Write) (n x f : ℕ) → listed ws x f ≡ (listed (take n ws) x f || listed (drop n ws) x f)
listed_parts ws n x f = ap (λ l. listed l x f) (sym (take-append-drop n ws)) ∙ list_any-append (is_write_of x f) (take n ws) (drop n ws)

-- one more write, and its key
pub keys_more : (ks new : List SlotKey) (ws : List Write) (w : Write) (k : SlotKey) (n : ℕ) → AreKeysOf ks (drop n ws) → n ≤ length ws → k.object ≡ w.object.0 → k.feature ≡ w.feature.0 → new ≡ insert_key same_key ks k →
    AreKeysOf new (drop n (ws ++ w ∷ []))
keys_more ks new ws w k n so l o p is = λ x f. ap (list_any (is_key_of x f)) is ∙ key-put ks k x f
    ∙ ap (λ b. b || is_key_of x f k) (so x f) ∙ (λ i. listed (drop n ws) x f || ((x == o i) && (f == p i)))
    ∙ sym (ap (λ l. listed l x f) (drop-append-le n ws (w ∷ []) l) ∙ listed-last (drop n ws) w x f)

-- one more write among the first
pub keys_few : (ks : List SlotKey) (ws : List Write) (w : Write) (n : ℕ) → AreKeysOf ks (drop n ws) → length ws < n → AreKeysOf ks (drop n (ws ++ w ∷ []))
keys_few ks ws w n so l = λ x f. so x f ∙ ap (λ xs. listed xs x f) (drop_all n ws (omega (arith, l)) ∙ sym (drop_all n (ws ++ w ∷ []) (omega (arith, l, length-append ws (w ∷ [])))))
