-- Values noted in a set, and what a list of them repeats.
use Rattle.std.proofs.Common.{◌≡◌, ◌∙◌, ℕ, ◌+◌, ◌<◌, Bool, true, false, ◌||◌, not, cond, refl, sym, ap, List, [], ◌∷◌, ◌++◌, length, map, take, get_or, Bor}
use Rattle.std.specs.List.{list_any}
use Rattle.std.proofs.lemmas.List.{take_more}
use Rattle.indexmap.specs.IndexSet.{insert_key}
use Rattle.qvt_repeats.proofs.Repeating as general
use Rattle.qvt_repeats.proofs.Repeating.{any-last}
use Rattle.qvt_value.specs.declared.value.Value.{Value}
use Rattle.qvt_value.specs.contracts.value.ValuePartialEq.TheImpl.{ghosts}
use Rattle.qvt_value.specs.Kept.{is_same, firsts}
use Rattle.qvt_value.specs.Order.{order_of}
use Rattle.qvt_value.proofs.OrderOfValues.{alike}
use Rattle.qvt_relation.proofs.Bools.{or_left, or_false}
use Rattle.qvt_slots.specs.Repeats.{repeats}
use Rattle.qvt_slots.specs.Noted.{with_noted, NotesValue}
use Rattle.qvt_slots.proofs.Repeating.{same_true, same_flip, any-without}

pub denied : {a b : Bool} → a ≡ not b → not a ≡ b
denied {b = true} e = ap not e
denied {b = false} e = ap not e

-- ---- a value noted

pub found : (v : Bor Value) (keys : List (Bor Value)) → list_any (λ k. ghosts.eq v.now k.now) keys ≡ list_any (is_same order_of v.now) (map (λ k. k.now) keys)
found v [] = refl
found v (k ∷ keys) = λ i. alike v.now k.now i || found v keys i

notes_again : (v : Value) (vs : List Value) → list_any (is_same order_of v) vs ≡ true → NotesValue vs vs v
notes_again v vs h = λ u. go u (is_same order_of u v) refl
  where
    go : (u : Value) (b : Bool) → is_same order_of u v ≡ b → list_any (is_same order_of u) vs ≡ (list_any (is_same order_of u) vs || is_same order_of u v)
    go u true e = let there : list_any (is_same order_of u) vs ≡ true = ap (λ x. list_any (is_same order_of x) vs) (same_true u v e) ∙ h in there ∙ sym (or_left _ _ there)
    go u false e = sym (ap (λ b. list_any (is_same order_of u) vs || b) e ∙ or_false (list_any (is_same order_of u) vs))

map-last : (keys : List (Bor Value)) (v : Bor Value) → map (λ k. k.now) (keys ++ v ∷ []) ≡ map (λ k. k.now) keys ++ v.now ∷ []
map-last [] v = refl
map-last (k ∷ keys) v = ap (λ vs. k.now ∷ vs) (map-last keys v)

pub notes_key : (v : Bor Value) (keys : List (Bor Value)) → NotesValue (map (λ k. k.now) keys) (map (λ k. k.now) (insert_key (λ a b. ghosts.eq a.now b.now) keys v)) v.now
notes_key v keys = go (list_any (λ k. ghosts.eq v.now k.now) keys) refl
  where
    go : (b : Bool) → list_any (λ k. ghosts.eq v.now k.now) keys ≡ b → NotesValue (map (λ k. k.now) keys) (map (λ k. k.now) (cond b keys (keys ++ v ∷ []))) v.now
    go true e = notes_again v.now (map (λ k. k.now) keys) (sym (found v keys) ∙ e)
    go false e = λ u. ap (list_any (is_same order_of u)) (map-last keys v) ∙ any-last (is_same order_of u) (map (λ k. k.now) keys) v.now

pub key_noted : (v : Bor Value) (keys : List (Bor Value)) → map (λ k. k.now) (insert_key (λ a b. ghosts.eq a.now b.now) keys v) ≡ with_noted (map (λ k. k.now) keys) v.now
key_noted v keys = go (list_any (λ k. ghosts.eq v.now k.now) keys) ∙ ap (λ b. cond b (map (λ k. k.now) keys) (map (λ k. k.now) keys ++ v.now ∷ [])) (found v keys)
  where
    go : (b : Bool) → map (λ k. k.now) (cond b keys (keys ++ v ∷ [])) ≡ cond b (map (λ k. k.now) keys) (map (λ k. k.now) keys ++ v.now ∷ [])
    go true = refl
    go false = map-last keys v

-- ---- what a list repeats, from its front

-- the values noted are those of a list
abbrev pub Noted : List Value → List Value → Type 0
Noted seen vs = (u : Value) → list_any (is_same order_of u) seen ≡ list_any (is_same order_of u) vs

pub noted_next : (old new vs : List Value) (i : ℕ) (d : Value) → i < length vs → Noted old (take i vs) → NotesValue old new (get_or vs i d) → Noted new (take (i + 1) vs)
noted_next old new vs i d l so next = λ u. next u ∙ ap (λ b. b || is_same order_of u (get_or vs i d)) (so u)
    ∙ sym (ap (list_any (is_same order_of u)) (take_more vs i d l) ∙ any-last (is_same order_of u) (take i vs) (get_or vs i d))

pub repeats_next : (vs : List Value) (i : ℕ) (d : Value) (seen : List Value) (b : Bool) → i < length vs → Noted seen (take i vs) → repeats (take i vs) ≡ false → b ≡ list_any (is_same order_of (get_or vs i d)) seen →
    repeats (take (i + 1) vs) ≡ b
repeats_next vs i d seen b l so none is = general.repeats_next (is_same order_of) same_flip vs i d l none ∙ sym (is ∙ so (get_or vs i d))

pub repeats_found : (vs : List Value) (n : ℕ) → repeats (take n vs) ≡ true → repeats vs ≡ true
repeats_found = general.repeats_found (is_same order_of)

-- what was noted tells what the list without repeats holds
pub kept_before : (vs : List Value) (i : ℕ) (seen list : List Value) (v : Value) (b : Bool) → Noted seen (take i vs) → list ≡ firsts order_of (take i vs) → b ≡ list_any (is_same order_of v) seen → b ≡ list_any (λ w. is_same order_of w v) list
kept_before vs i seen list v b so is test = test ∙ so v ∙ turned (take i vs) ∙ sym (ap (list_any (λ w. is_same order_of w v)) is ∙ any-without v (take i vs))
  where
    turned : (ws : List Value) → list_any (is_same order_of v) ws ≡ list_any (λ w. is_same order_of w v) ws
    turned [] = refl
    turned (w ∷ ws) = ap (λ b. b || list_any (is_same order_of v) ws) (same_flip v w) ∙ ap (λ b. is_same order_of w v || b) (turned ws)
