-- Runs of characters that pass a test.
use Rattle.std.proofs.Common.{◌≡◌, ℕ, ◌≤◌, List, [], ◌∷◌, ◌++◌, length, Bool, true, false, ◌&&◌, refl, sym, ap, ◌∙◌, arith, cond}
use Rattle.qvt_lexer.specs.Literals.{run, skip, every, begins}

pub and_left : (a b : Bool) → (a && b) ≡ true → a ≡ true
and_left true b h = refl
and_left false b h = absurd cc

pub and_right : (a b : Bool) → (a && b) ≡ true → b ≡ true
and_right true b h = h
and_right false b h = absurd cc

pub and_both : (a b : Bool) → a ≡ true → b ≡ true → (a && b) ≡ true
and_both true b h k = k
and_both false b h k = absurd cc

pub no_both : (b : Bool) → b ≡ true → b ≡ false → ⊥
no_both b h k = let e : true ≡ false = sym h ∙ k in cc

module _ (p : ℕ → Bool) where
  pub run_more : (c : ℕ) (cs : List ℕ) → p c ≡ true → run p (c ∷ cs) ≡ c ∷ run p cs
  run_more c cs h = ap (λ b. cond b (c ∷ run p cs) []) h

  pub skip_more : (c : ℕ) (cs : List ℕ) → p c ≡ true → skip p (c ∷ cs) ≡ skip p cs
  skip_more c cs h = ap (λ b. cond b (skip p cs) (c ∷ cs)) h

  pub skip_stop : (c : ℕ) (cs : List ℕ) → p c ≡ false → skip p (c ∷ cs) ≡ c ∷ cs
  skip_stop c cs h = ap (λ b. cond b (skip p cs) (c ∷ cs)) h

  run_skip_step : (c : ℕ) (cs : List ℕ) (b : Bool) → cs ≡ run p cs ++ skip p cs → c ∷ cs ≡ cond b (c ∷ run p cs) [] ++ cond b (skip p cs) (c ∷ cs)
  run_skip_step c cs true h = ap (λ z. c ∷ z) h
  run_skip_step c cs false h = refl

  pub run_skip : (cs : List ℕ) → cs ≡ run p cs ++ skip p cs
  run_skip [] = refl
  run_skip (c ∷ cs) = run_skip_step c cs (p c) (run_skip cs)

  every_step : (c : ℕ) (cs : List ℕ) (b : Bool) → p c ≡ b → every p cs ≡ true → every p (cond b (c ∷ cs) []) ≡ true
  every_step c cs true e h = and_both (p c) (every p cs) e h
  every_step c cs false e h = refl

  pub every_run : (cs : List ℕ) → every p (run p cs) ≡ true
  every_run [] = refl
  every_run (c ∷ cs) = every_step c (run p cs) (p c) refl (every_run cs)

  begins_step : (c : ℕ) (cs : List ℕ) (b : Bool) → p c ≡ b → begins p (skip p cs) ≡ false → begins p (cond b (skip p cs) (c ∷ cs)) ≡ false
  begins_step c cs true e h = h
  begins_step c cs false e h = e

  pub begins_skip : (cs : List ℕ) → begins p (skip p cs) ≡ false
  begins_skip [] = refl
  begins_skip (c ∷ cs) = begins_step c cs (p c) refl (begins_skip cs)

  -- no front of such characters is longer than the run
  pub run_longest : (cs v s : List ℕ) → cs ≡ v ++ s → every p v ≡ true → length v ≤ length (run p cs)
  run_longest cs [] s e h = omega arith
  run_longest [] (x ∷ v) s e h = absurd cc
  run_longest (c ∷ cs) (x ∷ v) s e h =
      let same : x ≡ c = cc in
      let tail : cs ≡ v ++ s = cc in
      let test : p c ≡ true = sym (ap p same) ∙ and_left (p x) (every p v) h in
      let le = run_longest cs v s tail (and_right (p x) (every p v) h) in
      omega (arith, ap length (run_more c cs test))

  -- a front of such characters that is not cut is the run
  pub run_only : (cs v s : List ℕ) → cs ≡ v ++ s → every p v ≡ true → begins p s ≡ false → (v ≡ run p cs) × (s ≡ skip p cs)
  run_only [] [] s e h n = (refl, sym e)
  run_only (c ∷ cs) [] s e h n =
      let stop : p c ≡ false = ap (begins p) e ∙ n in
      (sym (ap (λ b. cond b (c ∷ run p cs) []) stop), sym e ∙ sym (skip_stop c cs stop))
  run_only [] (x ∷ v) s e h n = absurd cc
  run_only (c ∷ cs) (x ∷ v) s e h n =
      let same : x ≡ c = cc in
      let tail : cs ≡ v ++ s = cc in
      let test : p c ≡ true = sym (ap p same) ∙ and_left (p x) (every p v) h in
      let rest = run_only cs v s tail (and_right (p x) (every p v) h) n in
      ((λ i. same i ∷ rest.0 i) ∙ sym (run_more c cs test), rest.1 ∙ sym (skip_more c cs test))
