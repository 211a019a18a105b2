-- Readers: functions from a list of tokens to a value and the tokens that are left, or to a fault. What it means that a
-- reader is exact for a language.
use Rattle.std.specs.Prelude.{◌≡◌, ℕ, zero, suc, List, [], ◌∷◌, ◌++◌, length, ◌≤◌, ◌<◌, Bool, false, IsTrue, ◌⊎◌, Result, Ok, Err, cond, Option, Some, None}
use Rattle.std.proofs.Common.{inl, inr}
use Rattle.qvt_grammar.specs.Language.{Language, head_of}
use Rattle.qvt_results.specs.Bind.{◌>>=◌}

-- what is left, from the faulty token on
pub data Fault (T : Type 0) : Type 0 where
  At : List T → Fault T

abbrev pub Answer : Type 0 → Type 0 → Type 0
Answer T A = Result (A × List T) (Fault T)

-- the list begins with a token of the set
abbrev pub Begins : {T : Type 0} → (T → Bool) → List T → Type 0
Begins c [] = ⊥
Begins c (t ∷ ts) = IsTrue (c t)

-- no front leaves less than r
abbrev pub IsFarthest : {T A : Type 0} → Language T A → List T → List T → Type 0
IsFarthest {T} l ts r = (u s : List T) → ts ≡ u ++ s → l.front u → length r ≤ length s

-- the language reads a as the beginning of ts and leaves r, no front goes farther, and another reading can only be one
-- after which a token of c stands: one that may go on with it
pub record IsReading {T A : Type 0} (c : T → Bool) (l : Language T A) (ts : List T) (a : A) (r : List T) : Type 0 where
  pub found : (u : List T) × (ts ≡ u ++ r) × l.reads u a
  pub only : (u s : List T) (b : A) → ts ≡ u ++ s → l.reads u b → ((b ≡ a) × (s ≡ r)) ⊎ Begins c s
  pub farthest : IsFarthest l ts r

-- the longest front leaves r, and a reading can only be one after which a token of c stands
pub record IsStuck {T A : Type 0} (c : T → Bool) (l : Language T A) (ts : List T) (r : List T) : Type 0 where
  pub found : (u : List T) × (ts ≡ u ++ r) × l.front u
  pub only : (u s : List T) (b : A) → ts ≡ u ++ s → l.reads u b → Begins c s
  pub farthest : IsFarthest l ts r

abbrev pub Exact : {T A : Type 0} → (T → Bool) → Language T A → List T → Answer T A → Type 0
Exact c l ts (Ok (a, r)) = IsReading c l ts a r
Exact c l ts (Err (At r)) = IsStuck c l ts r

abbrev pub follow_at : {T A B : Type 0} → (List T → Answer T A) → (A → List T → Answer T B) → List T → Answer T (A × B)
follow_at f g ts = f ts >>= λ (a, r). g a r >>= λ (b, s). Ok ((a, b), s)

abbrev pub then_at : {T A B : Type 0} → (List T → Answer T A) → (List T → Answer T B) → List T → Answer T (A × B)
then_at f g = follow_at f (λ _. g)

abbrev pub token_at : {T : Type 0} → (T → Bool) → List T → Answer T T
token_at p [] = Err (At [])
token_at p (t ∷ ts) = cond (p t) (Ok (t, ts)) (Err (At (t ∷ ts)))

abbrev pub made_at : {T A B : Type 0} → (A → B) → (List T → Answer T A) → List T → Answer T B
made_at h f ts = f ts >>= λ (a, r). Ok (h a, r)

abbrev pub starts : {T : Type 0} → (T → Bool) → List T → Bool
starts p [] = false
starts p (t ∷ ts) = p t

-- the first reader where the next token passes the test, else the second
abbrev pub choose_at : {T A : Type 0} → (T → Bool) → (List T → Answer T A) → (List T → Answer T A) → List T → Answer T A
choose_at p f g ts = cond (starts p ts) (f ts) (g ts)

-- turns while the next token passes the test, n at most
abbrev pub turns_at : {T A : Type 0} → ℕ → (T → Bool) → (List T → Answer T A) → List T → Answer T (List A)
turns_at zero p f ts = Ok ([], ts)
turns_at (suc n) p f ts = cond (starts p ts) (made_at (λ ab. ab.0 ∷ ab.1) (then_at f (turns_at n p f)) ts) (Ok ([], ts))

-- each turn takes a token, so there are no more turns than tokens
abbrev pub many_at : {T A : Type 0} → (T → Bool) → (List T → Answer T A) → List T → Answer T (List A)
many_at p f ts = turns_at (length ts) p f ts

abbrev pub empty_at : {T : Type 0} → List T → Answer T (Unit {0})
empty_at ts = Ok (tt, ts)

abbrev pub maybe_at : {T A : Type 0} → (T → Bool) → (List T → Answer T A) → List T → Answer T (Option A)
maybe_at p f = choose_at p (made_at Some f) (made_at (λ _. None) empty_at)

abbrev pub marked_at : {T P A : Type 0} → (T → P) → P → (List T → Answer T A) → List T → Answer T (P × A)
marked_at h d f ts = f ts >>= λ (a, r). Ok ((head_of h d ts, a), r)

-- the values before, and then those of the answer
abbrev pub with_front : {T A : Type 0} → List A → Answer T (List A) → Answer T (List A)
with_front before x = x >>= λ (more, r). Ok (before ++ more, r)

-- an answer leaves fewer tokens
abbrev pub Consumes : {T A : Type 0} → (List T → Answer T A) → Type 0
Consumes {T} {A} f = (ts : List T) (a : A) (r : List T) → f ts ≡ Ok (a, r) → length r < length ts

-- what is read after one turn of either kind
abbrev pub after_turn : {T A B : Type 0} → (List T → Answer T (List A × Option B)) → A ⊎ B → List T → Answer T (List A × Option B)
after_turn g (inl a) r = g r >>= λ (got, s). Ok ((a ∷ got.0, got.1), s)
after_turn g (inr b) r = Ok (([], Some b), r)

abbrev pub ended_turns : {T A B : Type 0} → ℕ → (T → Bool) → (List T → Answer T (A ⊎ B)) → List T → Answer T (List A × Option B)
ended_turns zero p f ts = Ok (([], None), ts)
ended_turns (suc n) p f ts = cond (starts p ts) (f ts >>= λ (x, r). after_turn (ended_turns n p f) x r) (Ok (([], None), ts))

abbrev pub ended_at : {T A B : Type 0} → (T → Bool) → (List T → Answer T (A ⊎ B)) → List T → Answer T (List A × Option B)
ended_at p f ts = ended_turns (length ts) p f ts
