-- The loop over the statements of a block: what it has read, and what is read of the rest.
use Rattle.std.proofs.Common.{◌≡◌, List, [], ◌∷◌, ◌++◌, Bool, true, false, inl, inr, refl, sym, ap, ◌∙◌, append_assoc, append-nil, Option, Ok, Err}
use Rattle.qvt_results.specs.Bind.{◌>>=◌}
use Rattle.qvt_grammar.specs.Reader.{Fault, Answer, Consumes, starts, made_at, ended_at}
use Rattle.qvt_tree_types.specs.Tree.{StmtTerm}
use Rattle.qvt_language.specs.Tokens.{Tok}
use Rattle.qvt_language.specs.Readers.{Reader}
use Rattle.qvt_language.specs.Leads.{EndedBlock}
use Rattle.qvt_language.specs.StmtTrees.{TurnTree, concat, last_of, ended_of}
use Rattle.qvt_parser_grammar.proofs.EndedLoops.{turns_before, ended_more, ended_last, ended_stuck, ended_stop}
use Rattle.qvt_parser_stmts.specs.Turns.{Adds}

-- the statements before, and then those of the answer
abbrev pub stmts_before : List StmtTerm → Answer Tok EndedBlock → Answer Tok EndedBlock
stmts_before before x = x >>= λ (e, r). Ok (record { stmts = before ++ e.stmts; open_end = e.open_end }, r)

module _ (p : Tok → Bool) (f : Reader TurnTree) (less : Consumes f) where
  abbrev pub rest_at : Reader EndedBlock
  rest_at = made_at ended_of (ended_at p f)

  abbrev made_of : Answer Tok (List (List StmtTerm) × Option StmtTerm) → Answer Tok EndedBlock
  made_of y = y >>= λ (a, r). Ok (ended_of a, r)

  one_turn : (some : List StmtTerm) (y : Answer Tok (List (List StmtTerm) × Option StmtTerm)) → made_of (turns_before (some ∷ []) y) ≡ stmts_before some (made_of y)
  one_turn some (Ok ((got, last), r)) = ap (λ z. Ok (record { stmts = z; open_end = (ended_of (got, last)).open_end }, r)) (append_assoc some (concat got) (last_of last))
  one_turn some (Err e) = refl

  rest_more : (ts : List Tok) (some : List StmtTerm) (r : List Tok) → starts p ts ≡ true → f ts ≡ Ok (inl some, r) → rest_at ts ≡ stmts_before some (rest_at r)
  rest_more ts some r h e = ap made_of (ended_more p f less ts some r h e) ∙ one_turn some (ended_at p f r)

  before_before : (xs ys : List StmtTerm) (y : Answer Tok EndedBlock) → stmts_before xs (stmts_before ys y) ≡ stmts_before (xs ++ ys) y
  before_before xs ys (Ok (e, r)) = ap (λ z. Ok (record { stmts = z; open_end = e.open_end }, r)) (sym (append_assoc xs ys e.stmts))
  before_before xs ys (Err e) = refl

  some_turn : (whole : Answer Tok EndedBlock) (xs new : List StmtTerm) (ts : List Tok) (some : List StmtTerm) (r : List Tok) → whole ≡ stmts_before xs (rest_at ts) → starts p ts ≡ true → f ts ≡ Ok (inl some, r) → new ≡ xs ++ some → whole ≡ stmts_before new (rest_at r)
  some_turn whole xs new ts some r i h e n = i ∙ ap (stmts_before xs) (rest_more ts some r h e) ∙ before_before xs some (rest_at r) ∙ ap (λ z. stmts_before z (rest_at r)) (sym n)

  last_turn : (whole : Answer Tok EndedBlock) (xs new : List StmtTerm) (ts : List Tok) (s : StmtTerm) (r : List Tok) → whole ≡ stmts_before xs (rest_at ts) → starts p ts ≡ true → f ts ≡ Ok (inr s, r) → new ≡ xs ++ s ∷ [] → whole ≡ Ok (record { stmts = new; open_end = true }, r)
  last_turn whole xs new ts s r i h e n = i ∙ ap (λ z. stmts_before xs (made_of z)) (ended_last p f less ts s r h e) ∙ ap (λ z. Ok (record { stmts = z; open_end = true }, r)) (sym n)

  -- after a turn that is not the last the loop goes on
  pub loop_turn : (whole : Answer Tok EndedBlock) (xs new : List StmtTerm) (ts : List Tok) (x : TurnTree) (r : List Tok) (last : Bool) → whole ≡ stmts_before xs (rest_at ts) → starts p ts ≡ true → f ts ≡ Ok (x, r) → Adds x xs new last → last ≡ false → whole ≡ stmts_before new (rest_at r)
  loop_turn whole xs new ts (inl some) r last i h e n q = some_turn whole xs new ts some r i h e n.0
  loop_turn whole xs new ts (inr s) r last i h e n q = let k = sym n.1 ∙ q in absurd cc

  -- after the last one it ends
  pub loop_last : (whole : Answer Tok EndedBlock) (xs new : List StmtTerm) (ts : List Tok) (x : TurnTree) (r : List Tok) (last : Bool) → whole ≡ stmts_before xs (rest_at ts) → starts p ts ≡ true → f ts ≡ Ok (x, r) → Adds x xs new last → last ≡ true → whole ≡ Ok (record { stmts = new; open_end = true }, r)
  loop_last whole xs new ts (inl some) r last i h e n q = let k = sym n.1 ∙ q in absurd cc
  loop_last whole xs new ts (inr s) r last i h e n q = last_turn whole xs new ts s r i h e n.0

  pub loop_stuck : (whole : Answer Tok EndedBlock) (xs : List StmtTerm) (ts : List Tok) (e : Fault Tok) → whole ≡ stmts_before xs (rest_at ts) → starts p ts ≡ true → f ts ≡ Err e → whole ≡ Err e
  loop_stuck whole xs ts e i h q = i ∙ ap (λ z. stmts_before xs (made_of z)) (ended_stuck p f less ts e h q)

  pub loop_stop : (whole : Answer Tok EndedBlock) (xs : List StmtTerm) (ts : List Tok) → whole ≡ stmts_before xs (rest_at ts) → starts p ts ≡ false → whole ≡ Ok (record { stmts = xs; open_end = false }, ts)
  loop_stop whole xs ts i h = i ∙ ap (λ z. stmts_before xs (made_of z)) (ended_stop p f less ts h) ∙ ap (λ z. Ok (record { stmts = z; open_end = false }, ts)) (append-nil xs)

  nothing_before : (y : Answer Tok EndedBlock) → y ≡ stmts_before [] y
  nothing_before (Ok (e, r)) = refl
  nothing_before (Err e) = refl

  pub loop_start : (ts : List Tok) → rest_at ts ≡ stmts_before [] (rest_at ts)
  loop_start ts = nothing_before (rest_at ts)
