-- The first characters of a text, and what follows them.
use Rattle.std.proofs.Common.{◌≡◌, ℕ, zero, suc, ◌+◌, ◌-◌, ◌<◌, ◌≤◌, Bool, true, false, cond, length, List, [], ◌∷◌, ◌++◌, take, drop, refl, sym, ap, ◌∙◌, subst, arith, length-append, take-append-drop}
use Rattle.std.proofs.Math.Seq.{take-append_seam}
use Rattle.std.proofs.lemmas.Bool.{cond_below, cond_above}
use Rattle.std.proofs.lemmas.Str.{encodes-append, encodes-chars, IsCharBoundary-at_seam}
use Rattle.std.specs.Prelude.{encode_utf8, nat_lt, Some, None}
use Rattle.std.specs.Str.{chars, encode_utf8_all, IsCharBoundary, IsUtf8}
use Rattle.qvt_ocl_words.specs.Strings.{first_by}

drop_one : (n c : ℕ) (cs : List ℕ) → 0 < n → drop n (c ∷ cs) ≡ drop (n - 1) cs
drop_one zero c cs h = absurd (omega arith)
drop_one (suc n) c cs h = let e : suc n - 1 ≡ n = omega arith in ap (λ k. drop k cs) (sym e)

take_one : (n c : ℕ) (cs : List ℕ) → 0 < n → take n (c ∷ cs) ≡ c ∷ take (n - 1) cs
take_one zero c cs h = absurd (omega arith)
take_one (suc n) c cs h = let e : suc n - 1 ≡ n = omega arith in ap (λ k. c ∷ take k cs) (sym e)

pub drop_past : (n c : ℕ) (xs cs goal : List ℕ) → drop n xs ≡ goal → xs ≡ c ∷ cs → 0 < n → drop (n - 1) cs ≡ goal
drop_past n c xs cs goal h e l = sym (drop_one n c cs l) ∙ ap (drop n) (sym e) ∙ h

drop_empty : (n : ℕ) → drop n (let e : List ℕ = [] in e) ≡ []
drop_empty zero = refl
drop_empty (suc n) = refl

pub drop_none : (n : ℕ) (xs goal : List ℕ) → drop n xs ≡ goal → xs ≡ [] → xs ≡ goal
drop_none n xs goal h e = e ∙ sym (drop_empty n) ∙ ap (drop n) (sym e) ∙ h

-- as many characters are taken as there are fewer to take
pub fewer_left : (m n left c : ℕ) (xs cs : List ℕ) → length xs + n ≡ m + left → xs ≡ c ∷ cs → 0 < left → length cs + n ≡ m + (left - 1)
fewer_left m n left c xs cs h e l = let k : length xs ≡ suc (length cs) = ap length e in omega (arith, h, k, l)

pub behind_short : (m n left : ℕ) (xs goal : List ℕ) → length xs + n ≡ m + left → xs ≡ [] → 0 < left → None ≡ cond (nat_lt m n) None (Some goal)
behind_short m n left xs goal h e l = let k : length xs ≡ 0 = ap length e in cond_below m n None (Some goal) (omega (arith, h, k, l))

all_behind : (n : ℕ) (xs goal : List ℕ) → drop n xs ≡ goal → n ≤ 0 → xs ≡ goal
all_behind zero xs goal h e = h
all_behind (suc n) xs goal h e = absurd (omega arith)

pub behind_all : (m n left : ℕ) (xs goal : List ℕ) → drop left xs ≡ goal → length xs + n ≡ m + left → left ≤ 0 → Some xs ≡ cond (nat_lt m n) None (Some goal)
behind_all m n left xs goal h e l = cond_above m n None (Some goal) (Some xs) (omega (arith, e, l)) (ap Some (all_behind left xs goal h l))

pub with_first : (f : ℕ → ℕ) (c : ℕ) (xs rest out : List ℕ) → xs ≡ c ∷ chars rest → IsUtf8 rest → out ≡ encode_utf8 (f c) ++ rest → out ≡ encode_utf8_all (first_by f xs)
with_first f c xs rest out e u o = o ∙ ap (λ t. encode_utf8 (f c) ++ t) (sym (encodes-chars rest u)) ∙ ap (λ t. encode_utf8_all (first_by f t)) (sym e)

pub without_first : (f : ℕ → ℕ) (xs out : List ℕ) → xs ≡ [] → out ≡ [] → out ≡ encode_utf8_all (first_by f xs)
without_first f xs out e o = o ∙ ap (λ t. encode_utf8_all (first_by f t)) (sym e)

-- what a choice gives that is no None
pub chosen : (b : Bool) (x y z : List ℕ) → Some x ≡ cond b None (Some y) → cond b None (Some z) ≡ Some z
chosen false x y z h = refl
chosen true x y z h = absurd (cc)

chosen_is : (b : Bool) (x y : List ℕ) → Some x ≡ cond b None (Some y) → x ≡ y
chosen_is false x y h = cc
chosen_is true x y h = absurd (cc)

-- the text is its first characters and what stands behind them
pub seam : (text rest : List ℕ) (n : ℕ) → IsUtf8 text → IsUtf8 rest → Some (chars rest) ≡ cond (nat_lt (length (chars text)) n) None (Some (drop n (chars text))) → text ≡ encode_utf8_all (take n (chars text)) ++ rest
seam text rest n u v h =
    sym (encodes-chars text u) ∙ ap encode_utf8_all (sym (take-append-drop n (chars text))) ∙ encodes-append (take n (chars text)) (drop n (chars text))
    ∙ ap (λ t. encode_utf8_all (take n (chars text)) ++ t) (ap encode_utf8_all (sym (chosen_is (nat_lt (length (chars text)) n) (chars rest) (drop n (chars text)) h)) ∙ encodes-chars rest v)

shorter_by : (text front rest : List ℕ) → text ≡ front ++ rest → length text - length rest ≡ length front
shorter_by text front rest h = let k : length text ≡ length front + length rest = ap length h ∙ length-append front rest in omega (arith, k)

pub within : (text front rest : List ℕ) → text ≡ front ++ rest → length rest ≤ length text
within text front rest h = let k : length text ≡ length front + length rest = ap length h ∙ length-append front rest in omega (arith, k)

pub cut_there : (text front rest : List ℕ) → text ≡ front ++ rest → IsUtf8 rest → IsCharBoundary text (length text - length rest)
cut_there text front rest h v = subst (λ i. IsCharBoundary text i) (sym (shorter_by text front rest h)) (IsCharBoundary-at_seam text front rest h v)

pub front_is : (text front rest : List ℕ) → text ≡ front ++ rest → take (length text - length rest) text ≡ front
front_is text front rest h = ap (λ i. take i text) (shorter_by text front rest h) ∙ ap (take (length front)) h ∙ take-append_seam front rest
