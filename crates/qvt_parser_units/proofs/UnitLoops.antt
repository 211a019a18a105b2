-- The loop over the units of a transformation: what it has read, and what is read of the rest.
use Rattle.std.proofs.Common.{◌≡◌, List, [], ◌∷◌, ◌++◌, Bool, true, false, refl, sym, ap, ◌∙◌, append_assoc, append-nil, Ok, Err}
use Rattle.qvt_results.specs.Bind.{◌>>=◌}
use Rattle.qvt_grammar.specs.Reader.{Fault, Answer, Consumes, starts, made_at, many_at, with_front}
use Rattle.qvt_grammar.proofs.Loops.{many_more, many_stop, many_stuck}
use Rattle.qvt_tree_types.specs.Module.{UnitTerm}
use Rattle.qvt_language.specs.Tokens.{Tok}
use Rattle.qvt_language.specs.Readers.{Reader}
use Rattle.qvt_language.specs.UnitTrees.{units_of}

module _ (p : Tok → Bool) (f : Reader (List UnitTerm)) (less : Consumes f) where
  abbrev pub all_at : Reader (List UnitTerm)
  all_at = made_at units_of (many_at p f)

  abbrev made_of : Answer Tok (List (List UnitTerm)) → Answer Tok (List UnitTerm)
  made_of y = y >>= λ (a, r). Ok (units_of a, r)

  one_turn : (some : List UnitTerm) (y : Answer Tok (List (List UnitTerm))) → made_of (with_front (some ∷ []) y) ≡ with_front some (made_of y)
  one_turn some (Ok (more, r)) = refl
  one_turn some (Err e) = refl

  both : (xs ys : List UnitTerm) (y : Answer Tok (List UnitTerm)) → with_front xs (with_front ys y) ≡ with_front (xs ++ ys) y
  both xs ys (Ok (more, r)) = ap (λ z. Ok (z, r)) (sym (append_assoc xs ys more))
  both xs ys (Err e) = refl

  pub loop_turn : (whole : Answer Tok (List UnitTerm)) (xs new : List UnitTerm) (ts : List Tok) (some : List UnitTerm) (r : List Tok) → whole ≡ with_front xs (all_at ts) → starts p ts ≡ true → f ts ≡ Ok (some, r) → new ≡ xs ++ some → whole ≡ with_front new (all_at r)
  loop_turn whole xs new ts some r i h e n =
      i ∙ ap (λ z. with_front xs (made_of z)) (many_more p f less ts some r h e) ∙ ap (with_front xs) (one_turn some (many_at p f r)) ∙ both xs some (all_at r) ∙ ap (λ z. with_front z (all_at r)) (sym n)

  pub loop_stuck : (whole : Answer Tok (List UnitTerm)) (xs : List UnitTerm) (ts : List Tok) (e : Fault Tok) → whole ≡ with_front xs (all_at ts) → starts p ts ≡ true → f ts ≡ Err e → whole ≡ Err e
  loop_stuck whole xs ts e i h q = i ∙ ap (λ z. with_front xs (made_of z)) (many_stuck p f less ts e h q)

  pub loop_stop : (whole : Answer Tok (List UnitTerm)) (xs : List UnitTerm) (ts : List Tok) → whole ≡ with_front xs (all_at ts) → starts p ts ≡ false → whole ≡ Ok (xs, ts)
  loop_stop whole xs ts i h = i ∙ ap (λ z. with_front xs (made_of z)) (many_stop p f less ts h) ∙ ap (λ z. Ok (z, ts)) (append-nil xs)

  nothing_before : (y : Answer Tok (List UnitTerm)) → y ≡ with_front [] y
  nothing_before (Ok (more, r)) = refl
  nothing_before (Err e) = refl

  pub loop_start : (ts : List Tok) → all_at ts ≡ with_front [] (all_at ts)
  loop_start ts = nothing_before (all_at ts)
