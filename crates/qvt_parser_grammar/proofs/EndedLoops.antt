-- A loop that reads turns until one is the last: what it has read, and what is read of the rest.
use Rattle.std.proofs.Common.{◌≡◌, ℕ, zero, suc, ◌≤◌, ◌<◌, List, [], ◌∷◌, ◌++◌, length, Bool, true, false, ◌⊎◌, inl, inr, refl, sym, ap, ◌∙◌, arith, append_assoc, append-nil, map, Option, Some, None, Ok, Err, cond}
use Rattle.std.proofs.lemmas.List.{map-append}
use Rattle.qvt_results.specs.Bind.{◌>>=◌}
use Rattle.qvt_grammar.specs.Reader.{Fault, Answer, starts, after_turn, ended_turns, ended_at}

-- the turns before, and then those of the answer
abbrev pub turns_before : {T A B : Type 0} → List A → Answer T (List A × Option B) → Answer T (List A × Option B)
turns_before before x = x >>= λ (got, r). Ok ((before ++ got.0, got.1), r)

module _ {T A B : Type 0} (p : T → Bool) (f : List T → Answer T (A ⊎ B)) (less : (ts : List T) (a : A ⊎ B) (r : List T) → f ts ≡ Ok (a, r) → length r < length ts) where
  abbrev go_on : (List T → Answer T (List A × Option B)) → Answer T (A ⊎ B) → Answer T (List A × Option B)
  go_on g x = x >>= λ (a, r). after_turn g a r

  same_turn : (g h : List T → Answer T (List A × Option B)) (x : A ⊎ B) (r : List T) → g r ≡ h r → after_turn g x r ≡ after_turn h x r
  same_turn g h (inl a) r e = ap (λ y. y >>= λ (got, s). Ok ((a ∷ got.0, got.1), s)) e
  same_turn g h (inr b) r e = refl

  same_after : (g h : List T → Answer T (List A × Option B)) (x : Answer T (A ⊎ B)) → ((a : A ⊎ B) (r : List T) → x ≡ Ok (a, r) → g r ≡ h r) → go_on g x ≡ go_on h x
  same_after g h (Ok (a, r)) k = same_turn g h a r (k a r refl)
  same_after g h (Err e) k = refl

  -- more turns than tokens change nothing
  enough : (n m : ℕ) (ts : List T) → length ts ≤ n → length ts ≤ m → ended_turns n p f ts ≡ ended_turns m p f ts
  enough zero zero ts a b = refl
  enough zero (suc m) [] a b = refl
  enough zero (suc m) (t ∷ ts) a b = absurd (omega arith)
  enough (suc n) zero [] a b = refl
  enough (suc n) zero (t ∷ ts) a b = absurd (omega arith)
  enough (suc n) (suc m) ts a b =
      ap (λ z. cond (starts p ts) z (Ok (([], None), ts)))
      (same_after (ended_turns n p f) (ended_turns m p f) (f ts) (λ x r e. let q = less ts x r e in enough n m r (omega arith) (omega arith)))

  pub ended_stop : (ts : List T) → starts p ts ≡ false → ended_at p f ts ≡ Ok (([], None), ts)
  ended_stop [] h = refl
  ended_stop (t ∷ ts) h = ap (λ b. cond b (go_on (ended_turns (length ts) p f) (f (t ∷ ts))) (Ok (([], None), t ∷ ts))) h

  one_turn : (t : T) (ts : List T) (x : Answer T (A ⊎ B)) → starts p (t ∷ ts) ≡ true → f (t ∷ ts) ≡ x → ended_at p f (t ∷ ts) ≡ go_on (ended_turns (length ts) p f) x
  one_turn t ts x h e = ap (λ b. cond b (go_on (ended_turns (length ts) p f) (f (t ∷ ts))) (Ok (([], None), t ∷ ts))) h ∙ ap (go_on (ended_turns (length ts) p f)) e

  pub ended_stuck : (ts : List T) (e : Fault T) → starts p ts ≡ true → f ts ≡ Err e → ended_at p f ts ≡ Err e
  ended_stuck [] e h q = absurd cc
  ended_stuck (t ∷ ts) e h q = one_turn t ts (Err e) h q

  pub ended_last : (ts : List T) (b : B) (r : List T) → starts p ts ≡ true → f ts ≡ Ok (inr b, r) → ended_at p f ts ≡ Ok (([], Some b), r)
  ended_last [] b r h q = absurd cc
  ended_last (t ∷ ts) b r h q = one_turn t ts (Ok (inr b, r)) h q

  first_turn : (a : A) (y : Answer T (List A × Option B)) → (y >>= λ (got, s). Ok ((a ∷ got.0, got.1), s)) ≡ turns_before (a ∷ []) y
  first_turn a (Ok (got, s)) = refl
  first_turn a (Err e) = refl

  pub ended_more : (ts : List T) (a : A) (r : List T) → starts p ts ≡ true → f ts ≡ Ok (inl a, r) → ended_at p f ts ≡ turns_before (a ∷ []) (ended_at p f r)
  ended_more [] a r h q = absurd cc
  ended_more (t ∷ ts) a r h q =
      one_turn t ts (Ok (inl a, r)) h q
      ∙ ap (λ y. y >>= λ (got, s). Ok ((a ∷ got.0, got.1), s)) (let z = less (t ∷ ts) (inl a) r q in enough (length ts) (length r) r (omega arith) (omega arith))
      ∙ first_turn a (ended_at p f r)

  before_before : (xs ys : List A) (y : Answer T (List A × Option B)) → turns_before xs (turns_before ys y) ≡ turns_before (xs ++ ys) y
  before_before xs ys (Ok (got, s)) = ap (λ z. Ok ((z, got.1), s)) (sym (append_assoc xs ys got.0))
  before_before xs ys (Err e) = refl

  -- the invariant of a loop is whole ≡ turns_before xs (ended_at p f ts)
  pub loop_turn : (whole : Answer T (List A × Option B)) (xs : List A) (ts : List T) (a : A) (r : List T) → whole ≡ turns_before xs (ended_at p f ts) → starts p ts ≡ true → f ts ≡ Ok (inl a, r) → whole ≡ turns_before (xs ++ a ∷ []) (ended_at p f r)
  loop_turn whole xs ts a r i h e = i ∙ ap (turns_before xs) (ended_more ts a r h e) ∙ before_before xs (a ∷ []) (ended_at p f r)

  -- and so with what a clause sees of the turns, where the turn was pushed
  pub loop_pushed : {X : Type 0} (v : X → A) (whole : Answer T (List A × Option B)) (xs new : List X) (x : X) (ts r : List T) → whole ≡ turns_before (map v xs) (ended_at p f ts) → starts p ts ≡ true → f ts ≡ Ok (inl (v x), r) → new ≡ xs ++ x ∷ [] → whole ≡ turns_before (map v new) (ended_at p f r)
  loop_pushed v whole xs new x ts r i h e n =
      loop_turn whole (map v xs) ts (v x) r i h e ∙ ap (λ z. turns_before z (ended_at p f r)) (sym (ap (map v) n ∙ map-append v xs (x ∷ [])))

  pub loop_last : (whole : Answer T (List A × Option B)) (xs : List A) (ts : List T) (b : B) (r : List T) → whole ≡ turns_before xs (ended_at p f ts) → starts p ts ≡ true → f ts ≡ Ok (inr b, r) → whole ≡ Ok ((xs, Some b), r)
  loop_last whole xs ts b r i h e = i ∙ ap (turns_before xs) (ended_last ts b r h e) ∙ ap (λ z. Ok ((z, Some b), r)) (append-nil xs)

  pub loop_stuck : (whole : Answer T (List A × Option B)) (xs : List A) (ts : List T) (e : Fault T) → whole ≡ turns_before xs (ended_at p f ts) → starts p ts ≡ true → f ts ≡ Err e → whole ≡ Err e
  loop_stuck whole xs ts e i h q = i ∙ ap (turns_before xs) (ended_stuck ts e h q)

  pub loop_stop : (whole : Answer T (List A × Option B)) (xs : List A) (ts : List T) → whole ≡ turns_before xs (ended_at p f ts) → starts p ts ≡ false → whole ≡ Ok ((xs, None), ts)
  loop_stop whole xs ts i h = i ∙ ap (turns_before xs) (ended_stop ts h) ∙ ap (λ z. Ok ((z, None), ts)) (append-nil xs)

  nothing_before : (y : Answer T (List A × Option B)) → y ≡ turns_before [] y
  nothing_before (Ok (got, r)) = refl
  nothing_before (Err e) = refl

  pub loop_start : (ts : List T) → ended_at p f ts ≡ turns_before [] (ended_at p f ts)
  loop_start ts = nothing_before (ended_at p f ts)
