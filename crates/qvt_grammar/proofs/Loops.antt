-- A loop that reads turn after turn: what it has read, and what many turns read of the rest.
use Rattle.std.proofs.Common.{◌≡◌, ℕ, zero, suc, ◌≤◌, List, [], ◌∷◌, ◌++◌, length, Bool, true, false, refl, sym, ap, ◌∙◌, subst, arith, append_assoc, append-nil, map, Ok, Err, cond}
use Rattle.std.proofs.lemmas.List.{map-append}
use Rattle.qvt_grammar.specs.Language.{Language}
use Rattle.qvt_results.specs.Bind.{◌>>=◌}
use Rattle.qvt_grammar.specs.Reader.{Fault, Answer, Exact, then_at, made_at, starts, turns_at, many_at, with_front, Consumes}
use Rattle.qvt_grammar.proofs.Firsts.{Solid}
use Rattle.qvt_grammar.proofs.Repeats.{read_less}

-- an exact reader of a solid language takes a token
pub consumes_of : {T A : Type 0} (c : T → Bool) (l : Language T A) (f : List T → Answer T A) → Solid l → ((ts : List T) → Exact c l ts (f ts)) → Consumes f
consumes_of c l f solid exact ts a r e = let k = subst (Exact c l ts) e (exact ts) in read_less l solid ts k.found.0 r a k.found.1 k.found.2

module _ {T A : Type 0} (p : T → Bool) (f : List T → Answer T A) (less : Consumes f) where
  abbrev put_first : A → Answer T (List A) → Answer T (List A)
  put_first a x = x >>= λ (more, r). Ok (a ∷ more, r)

  abbrev paired : A → Answer T (List A) → Answer T (A × List A)
  paired a y = y >>= λ (b, s). Ok ((a, b), s)

  abbrev both : (List T → Answer T (List A)) → Answer T A → Answer T (A × List A)
  both g x = x >>= λ (a, r). paired a (g r)

  abbrev joined : Answer T (A × List A) → Answer T (List A)
  joined x = x >>= λ (ab, r). Ok (ab.0 ∷ ab.1, r)

  joined_paired : (a : A) (y : Answer T (List A)) → joined (paired a y) ≡ put_first a y
  joined_paired a (Ok (b, r)) = refl
  joined_paired a (Err e) = refl

  after_one : (g : List T → Answer T (List A)) (x : Answer T A) (a : A) (r : List T) → x ≡ Ok (a, r) → joined (both g x) ≡ put_first a (g r)
  after_one g x a r e = ap (λ x. joined (both g x)) e ∙ joined_paired a (g r)

  after_fault : (g : List T → Answer T (List A)) (x : Answer T A) (e : Fault T) → x ≡ Err e → joined (both g x) ≡ Err e
  after_fault g x e h = ap (λ x. joined (both g x)) h

  same_after : (g h : List T → Answer T (List A)) (x : Answer T A) → ((a : A) (r : List T) → x ≡ Ok (a, r) → g r ≡ h r) → joined (both g x) ≡ joined (both h x)
  same_after g h (Ok (a, r)) k = ap (λ y. joined (paired a y)) (k a r refl)
  same_after g h (Err e) k = refl

  -- more turns than tokens change nothing
  turns_enough : (n m : ℕ) (ts : List T) → length ts ≤ n → length ts ≤ m → turns_at n p f ts ≡ turns_at m p f ts
  turns_enough zero zero ts a b = refl
  turns_enough zero (suc m) [] a b = refl
  turns_enough zero (suc m) (t ∷ ts) a b = absurd (omega arith)
  turns_enough (suc n) zero [] a b = refl
  turns_enough (suc n) zero (t ∷ ts) a b = absurd (omega arith)
  turns_enough (suc n) (suc m) ts a b =
      ap (λ z. cond (starts p ts) z (Ok ([], ts)))
      (same_after (turns_at n p f) (turns_at m p f) (f ts) (λ x r e. let q = less ts x r e in turns_enough n m r (omega arith) (omega arith)))

  pub many_stop : (ts : List T) → starts p ts ≡ false → many_at p f ts ≡ Ok ([], ts)
  many_stop [] h = refl
  many_stop (t ∷ ts) h = ap (λ b. cond b (made_at (λ ab. ab.0 ∷ ab.1) (then_at f (turns_at (length ts) p f)) (t ∷ ts)) (Ok ([], t ∷ ts))) h

  pub many_more : (ts : List T) (a : A) (r : List T) → starts p ts ≡ true → f ts ≡ Ok (a, r) → many_at p f ts ≡ with_front (a ∷ []) (many_at p f r)
  many_more [] a r h e = absurd cc
  many_more (t ∷ ts) a r h e =
      ap (λ b. cond b (made_at (λ ab. ab.0 ∷ ab.1) (then_at f (turns_at (length ts) p f)) (t ∷ ts)) (Ok ([], t ∷ ts))) h
      ∙ after_one (turns_at (length ts) p f) (f (t ∷ ts)) a r e
      ∙ ap (put_first a) (let q = less (t ∷ ts) a r e in turns_enough (length ts) (length r) r (omega arith) (omega arith))

  pub many_stuck : (ts : List T) (x : Fault T) → starts p ts ≡ true → f ts ≡ Err x → many_at p f ts ≡ Err x
  many_stuck [] x h e = absurd cc
  many_stuck (t ∷ ts) x h e =
      ap (λ b. cond b (made_at (λ ab. ab.0 ∷ ab.1) (then_at f (turns_at (length ts) p f)) (t ∷ ts)) (Ok ([], t ∷ ts))) h
      ∙ after_fault (turns_at (length ts) p f) (f (t ∷ ts)) x e

  front_front : (xs : List A) (a : A) (y : Answer T (List A)) → with_front xs (with_front (a ∷ []) y) ≡ with_front (xs ++ a ∷ []) y
  front_front xs a (Ok (more, r)) = ap (λ z. Ok (z, r)) (sym (append_assoc xs (a ∷ []) more))
  front_front xs a (Err e) = refl

  -- the invariant of a loop is whole ≡ with_front xs (many_at p f ts)
  pub loop_more : (whole : Answer T (List A)) (xs : List A) (ts : List T) (a : A) (r : List T) → whole ≡ with_front xs (many_at p f ts) → starts p ts ≡ true → f ts ≡ Ok (a, r) → whole ≡ with_front (xs ++ a ∷ []) (many_at p f r)
  loop_more whole xs ts a r i h e = i ∙ ap (with_front xs) (many_more ts a r h e) ∙ front_front xs a (many_at p f r)

  pub loop_stuck : (whole : Answer T (List A)) (xs : List A) (ts : List T) (x : Fault T) → whole ≡ with_front xs (many_at p f ts) → starts p ts ≡ true → f ts ≡ Err x → whole ≡ Err x
  loop_stuck whole xs ts x i h e = i ∙ ap (with_front xs) (many_stuck ts x h e)

  pub loop_stop : (whole : Answer T (List A)) (xs : List A) (ts : List T) → whole ≡ with_front xs (many_at p f ts) → starts p ts ≡ false → whole ≡ Ok (xs, ts)
  loop_stop whole xs ts i h = i ∙ ap (with_front xs) (many_stop ts h) ∙ ap (λ z. Ok (z, ts)) (append-nil xs)

  nothing_before : (y : Answer T (List A)) → y ≡ with_front [] y
  nothing_before (Ok (more, r)) = refl
  nothing_before (Err e) = refl

  pub loop_start : (ts : List T) → many_at p f ts ≡ with_front [] (many_at p f ts)
  loop_start ts = nothing_before (many_at p f ts)

  -- a loop that pushes what it reads, where v is what a clause sees of an item
  pub loop_push : {X : Type 0} (v : X → A) (whole : Answer T (List A)) (xs new : List X) (x : X) (ts r : List T) → whole ≡ with_front (map v xs) (many_at p f ts) → starts p ts ≡ true → f ts ≡ Ok (v x, r) → new ≡ xs ++ x ∷ [] → whole ≡ with_front (map v new) (many_at p f r)
  loop_push v whole xs new x ts r i h e n =
      loop_more whole (map v xs) ts (v x) r i h e ∙ ap (λ z. with_front z (many_at p f r)) (sym (ap (map v) n ∙ map-append v xs (x ∷ [])))
