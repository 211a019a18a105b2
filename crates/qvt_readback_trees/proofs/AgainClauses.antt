-- The clauses of a mapping are printed in one order, and read again.
use Rattle.std.proofs.Common.{◌≡◌, ℕ, zero, suc, List, [], ◌∷◌, ◌++◌, map, Bool, false, inl, inr, refl, sym, ap, ◌∙◌, subst, append-nil, Option, Some, None, option_map}
use Rattle.std.specs.Prelude.{⊤}
use Rattle.qvt_tree_types.specs.Tree.{ExprTerm}
use Rattle.qvt_tree_types.specs.View.{optional_expr}
use Rattle.qvt_tree_types.specs.declared.types.PathTree.{PathTree}
use Rattle.qvt_tree.specs.Shape.{erase_path, erase_expr}
use Rattle.qvt_grammar.specs.Language.{Language, made, then}
use Rattle.qvt_grammar.specs.Reader.{starts}
use Rattle.qvt_language.specs.declared.class.Class.{Class}
use Rattle.qvt_language.specs.declared.class.Class.TheVariants as class
use Rattle.qvt_language.specs.Readers.{the}
use Rattle.qvt_language.specs.Tokens.{Tok, of}
use Rattle.qvt_language.specs.Trees.{second, inner}
use Rattle.qvt_language.specs.Grammar.{NestedLanguages, paths}
use Rattle.qvt_language.specs.Units.{when_clause, clause, clauses}
use Rattle.qvt_language.specs.UnitTrees.{ClausesTree, no_clauses, ClauseTree, InheritsClause, MergesClause, DisjunctsClause, WhenClause, with_clause, read_words, or_same, paths_or_none}
use Rattle.qvt_printer_layout.specs.declared.piece.PrintPiece.{PrintPiece}
use Rattle.qvt_printer_layout.specs.declared.piece.PrintPiece.TheVariants as piece
use Rattle.qvt_printer.specs.Expressions as print
use Rattle.qvt_printer.specs.Units as printed
use Rattle.qvt_readback_tokens.specs.Spelled.{all_spelled}
use Rattle.qvt_readback_trees.specs.Printable.{IsPrintableExpr, IsPrintableOptional}
use Rattle.qvt_readback_trees.proofs.Spelling.{plain, spelled_append}
use Rattle.qvt_readback_trees.proofs.Again.{Again, any, again_the, again_then, again_made, again_left_out}
use Rattle.qvt_readback_trees.proofs.AgainUnits.{again_listed}
use Rattle.qvt_readback_trees.proofs.UnitBase.{AgainUnits}

abbrev when_pieces : ExprTerm → List PrintPiece
when_pieces e = piece.Plain class.WhenWord ∷ piece.Plain class.OpenBrace ∷ (print.expr e ++ print.one class.CloseBrace)

abbrev Listed : Class → Language Tok (List PathTree)
Listed word = made second (then (the word) paths)

-- what was read of a clause of paths, and of a condition

abbrev PathsGood : Class → Option (List PathTree) → Type 0
PathsGood word None = ⊤
PathsGood word (Some ps) = (Listed word).reads (all_spelled (printed.listed word ps)) (map erase_path ps)

abbrev WhenGood : NestedLanguages → Option ExprTerm → Type 0
WhenGood j None = ⊤
WhenGood j (Some e) = IsPrintableExpr e → (when_clause j).reads (all_spelled (when_pieces e)) (erase_expr e)

record GoodClauses (j : NestedLanguages) (x : ClausesTree) : Type 0 where
  inherits : PathsGood class.InheritsWord x.inherits
  merges : PathsGood class.MergesWord x.merges
  disjuncts : PathsGood class.DisjunctsWord x.disjuncts
  condition : WhenGood j x.condition

module _ {i j : NestedLanguages} (h : AgainUnits i j) where
  again_when : Again IsPrintableExpr when_pieces erase_expr (when_clause i) (when_clause j)
  unfolding when_clause
  again_when = again_made second (again_then (again_the class.WhenWord) (again_made {ok2 = IsPrintableExpr} {p2 = λ e. piece.Plain class.OpenBrace ∷ (print.expr e ++ print.one class.CloseBrace)} {b2 = erase_expr} inner (again_then (again_the class.OpenBrace) (again_then h.value
      (again_made {ok2 = any} {p2 = λ _. print.one class.CloseBrace} {b2 = λ _. plain class.CloseBrace} second (again_then (again_left_out {l = the class.Semicolon} {m = the class.Semicolon}) (again_the class.CloseBrace)) (λ a o. (tt, tt)) (λ a. refl) (λ a. refl))))
      (λ a o. (tt, (o, tt))) (λ a. refl) (λ a. refl)))
      (λ a o. (tt, o)) (λ a. refl) (λ a. refl)

  paths_good : (word : Class) (ts : List Tok) (ps : List PathTree) → (Listed word).reads ts ps → PathsGood word (Some ps)
  paths_good word ts ps rd = (again_listed word).again ts ps rd tt

  inherits_good : (ts : List Tok) (x : ClausesTree) (ps : List PathTree) → GoodClauses j x → (Listed class.InheritsWord).reads ts ps → GoodClauses j (with_clause x (InheritsClause ps))
  inherits_good ts x ps g rd = record { inherits = paths_good class.InheritsWord ts ps rd; merges = g.merges; disjuncts = g.disjuncts; condition = g.condition }

  merges_good : (ts : List Tok) (x : ClausesTree) (ps : List PathTree) → GoodClauses j x → (Listed class.MergesWord).reads ts ps → GoodClauses j (with_clause x (MergesClause ps))
  merges_good ts x ps g rd = record { inherits = g.inherits; merges = paths_good class.MergesWord ts ps rd; disjuncts = g.disjuncts; condition = g.condition }

  disjuncts_good : (ts : List Tok) (x : ClausesTree) (ps : List PathTree) → GoodClauses j x → (Listed class.DisjunctsWord).reads ts ps → GoodClauses j (with_clause x (DisjunctsClause ps))
  disjuncts_good ts x ps g rd = record { inherits = g.inherits; merges = g.merges; disjuncts = paths_good class.DisjunctsWord ts ps rd; condition = g.condition }

  when_good : (ts : List Tok) (x : ClausesTree) (e : ExprTerm) → GoodClauses j x → (when_clause i).reads ts e → GoodClauses j (with_clause x (WhenClause e))
  when_good ts x e g rd = record { inherits = g.inherits; merges = g.merges; disjuncts = g.disjuncts; condition = again_when.again ts e rd }

  clause_good : (ts : List Tok) (x : ClausesTree) (c : ClauseTree) → GoodClauses j x → (clause i).reads ts c → GoodClauses j (with_clause x c)
  unfolding clause
  clause_good ts x c g rd = elim rd [
    | inl q ↦ subst (λ z. GoodClauses j (with_clause x z)) (sym q.2) (inherits_good ts x q.0 g q.1)
    | inr r ↦ elim r [
      | inl q ↦ subst (λ z. GoodClauses j (with_clause x z)) (sym q.2) (merges_good ts x q.0 g q.1)
      | inr s ↦ elim s [
        | inl q ↦ subst (λ z. GoodClauses j (with_clause x z)) (sym q.2) (disjuncts_good ts x q.0 g q.1)
        | inr q ↦ subst (λ z. GoodClauses j (with_clause x z)) (sym q.2) (when_good ts x q.0 g q.1)
      ]
    ]
  ]

  clauses_good : (n : ℕ) (x y : ClausesTree) (ts : List Tok) → GoodClauses j x → (clauses i n x).reads ts y → GoodClauses j y
  clauses_good zero x y ts g rd = subst (GoodClauses j) (sym rd.2) g
  clauses_good (suc n) x y ts g rd = elim rd.1 [
    | inl q ↦ (
        let f = q.1.1 in
        let c = f.3 in
        let g2 : GoodClauses j q.1.0.0 = subst (GoodClauses j) (sym c.2) (clause_good f.0 x c.0 g c.1.0) in
        let g3 : GoodClauses j q.1.0.1 = clauses_good n q.1.0.0 q.1.0.1 f.1 g2 f.4 in
        let same : y ≡ q.1.0.1 = rd.2 ∙ ap (or_same x) q.2 ∙ q.1.2 in
        subst (GoodClauses j) (sym same) g3)
    | inr q ↦ subst (GoodClauses j) (sym (rd.2 ∙ ap (or_same x) q.2)) g
  ]

-- one clause more, of a kind that was not there

module _ (j : NestedLanguages) where
  stop : (n : ℕ) (x : ClausesTree) → (clauses j n x).reads [] x
  stop zero x = (tt, refl, refl)
  stop (suc n) x = (None, inr (tt, refl, refl), refl)

  go_on : (n : ℕ) (x y : ClausesTree) (c : ClauseTree) (us vs ts : List Tok) → ts ≡ us ++ vs → (clause j).reads us c → starts (of (read_words x)) us ≡ false → (clauses j n (with_clause x c)).reads vs y → (clauses j (suc n) x).reads ts y
  go_on n x y c us vs ts e rc bar rest = (Some y, inl (y, ((with_clause x c, y), (us, vs, e, (c, (rc, bar), refl), rest), refl), refl), refl)

abbrev bare_paths : Option (List PathTree) → Option (List PathTree)
bare_paths = option_map (map erase_path)

abbrev pub bare_clauses : ClausesTree → ClausesTree
bare_clauses x = record { inherits = bare_paths x.inherits; merges = bare_paths x.merges; disjuncts = bare_paths x.disjuncts; condition = option_map erase_expr x.condition }

abbrev pub clause_pieces : ClausesTree → List PrintPiece
clause_pieces x = printed.listed class.InheritsWord (paths_or_none x.inherits) ++ (printed.listed class.MergesWord (paths_or_none x.merges) ++ (printed.listed class.DisjunctsWord (paths_or_none x.disjuncts) ++ printed.when_if (optional_expr x.condition)))

abbrev Four : Type 0
Four = Option (List PathTree)

abbrev some_of : Four → Four → Four → ClausesTree
some_of a b c = record { inherits = a; merges = b; disjuncts = c; condition = None }

-- no word of a later kind was read
fresh_when : (a b c : Four) (ts : List Tok) → starts (of (read_words (some_of a b c))) (plain class.WhenWord ∷ ts) ≡ false
fresh_when None None None ts = refl
fresh_when None None (Some z) ts = refl
fresh_when None (Some y) None ts = refl
fresh_when None (Some y) (Some z) ts = refl
fresh_when (Some x) None None ts = refl
fresh_when (Some x) None (Some z) ts = refl
fresh_when (Some x) (Some y) None ts = refl
fresh_when (Some x) (Some y) (Some z) ts = refl

fresh_disjuncts : (a b : Four) (ts : List Tok) → starts (of (read_words (some_of a b None))) (plain class.DisjunctsWord ∷ ts) ≡ false
fresh_disjuncts None None ts = refl
fresh_disjuncts None (Some y) ts = refl
fresh_disjuncts (Some x) None ts = refl
fresh_disjuncts (Some x) (Some y) ts = refl

fresh_merges : (a : Four) (ts : List Tok) → starts (of (read_words (some_of a None None))) (plain class.MergesWord ∷ ts) ≡ false
fresh_merges None ts = refl
fresh_merges (Some x) ts = refl

-- a list that is read begins with its word
listed_start : (p : Tok → Bool) (word : Class) (ps : List PathTree) → (Listed word).reads (all_spelled (printed.listed word ps)) (map erase_path ps) → ((ts : List Tok) → starts p (plain word ∷ ts) ≡ false) → starts p (all_spelled (printed.listed word ps)) ≡ false
listed_start p word [] rd f = absurd (let z : [] ≡ rd.0.0 ∷ rd.1.1 = rd.1.2 ∙ ap (λ u. u ++ rd.1.1) rd.1.3.0 in cc)
listed_start p word (q ∷ ps) rd f = f (all_spelled (print.paths (q ∷ ps)))

module _ (j : NestedLanguages) where
  when_reads : (n : ℕ) (a b c : Four) (d : Option ExprTerm) → WhenGood j d → IsPrintableOptional (optional_expr d) → (clauses j (suc n) (some_of a b c)).reads (all_spelled (printed.when_if (optional_expr d))) (record { inherits = a; merges = b; disjuncts = c; condition = option_map erase_expr d })
  unfolding clause
  when_reads n a b c None g o = stop j (suc n) (some_of a b c)
  when_reads n a b c (Some e) g o =
      let ts = all_spelled (when_pieces e) in
      let y : ClausesTree = record { inherits = a; merges = b; disjuncts = c; condition = Some (erase_expr e) } in
      go_on j n (some_of a b c) y (WhenClause (erase_expr e)) ts [] ts (sym (append-nil ts)) (inr (inr (inr (erase_expr e, g o, refl)))) (fresh_when a b c (plain class.OpenBrace ∷ all_spelled (print.expr e ++ print.one class.CloseBrace))) (stop j n y)

  disjuncts_reads : (n : ℕ) (a b c : Four) (d : Option ExprTerm) → PathsGood class.DisjunctsWord c → WhenGood j d → IsPrintableOptional (optional_expr d) →
      (clauses j (suc (suc n)) (some_of a b None)).reads (all_spelled (printed.listed class.DisjunctsWord (paths_or_none c) ++ printed.when_if (optional_expr d))) (record { inherits = a; merges = b; disjuncts = bare_paths c; condition = option_map erase_expr d })
  unfolding clause
  disjuncts_reads n a b None d gc gd o = when_reads (suc n) a b None d gd o
  disjuncts_reads n a b (Some ps) d gc gd o =
      let ws = printed.listed class.DisjunctsWord ps in
      let rest = printed.when_if (optional_expr d) in
      go_on j (suc n) (some_of a b None) _ (DisjunctsClause (map erase_path ps)) (all_spelled ws) (all_spelled rest) (all_spelled (ws ++ rest)) (spelled_append ws rest) (inr (inr (inl (map erase_path ps, gc, refl)))) (listed_start _ class.DisjunctsWord ps gc (fresh_disjuncts a b)) (when_reads n a b (Some (map erase_path ps)) d gd o)

  merges_reads : (n : ℕ) (a b c : Four) (d : Option ExprTerm) → PathsGood class.MergesWord b → PathsGood class.DisjunctsWord c → WhenGood j d → IsPrintableOptional (optional_expr d) →
      (clauses j (suc (suc (suc n))) (some_of a None None)).reads (all_spelled (printed.listed class.MergesWord (paths_or_none b) ++ (printed.listed class.DisjunctsWord (paths_or_none c) ++ printed.when_if (optional_expr d)))) (record { inherits = a; merges = bare_paths b; disjuncts = bare_paths c; condition = option_map erase_expr d })
  unfolding clause
  merges_reads n a None c d gb gc gd o = disjuncts_reads (suc n) a None c d gc gd o
  merges_reads n a (Some ps) c d gb gc gd o =
      let ws = printed.listed class.MergesWord ps in
      let rest = printed.listed class.DisjunctsWord (paths_or_none c) ++ printed.when_if (optional_expr d) in
      go_on j (suc (suc n)) (some_of a None None) _ (MergesClause (map erase_path ps)) (all_spelled ws) (all_spelled rest) (all_spelled (ws ++ rest)) (spelled_append ws rest) (inr (inl (map erase_path ps, gb, refl))) (listed_start _ class.MergesWord ps gb (fresh_merges a)) (disjuncts_reads n a (Some (map erase_path ps)) c d gc gd o)

  inherits_reads : (a b c : Four) (d : Option ExprTerm) → PathsGood class.InheritsWord a → PathsGood class.MergesWord b → PathsGood class.DisjunctsWord c → WhenGood j d → IsPrintableOptional (optional_expr d) →
      (clauses j 4 no_clauses).reads (all_spelled (printed.listed class.InheritsWord (paths_or_none a) ++ (printed.listed class.MergesWord (paths_or_none b) ++ (printed.listed class.DisjunctsWord (paths_or_none c) ++ printed.when_if (optional_expr d))))) (record { inherits = bare_paths a; merges = bare_paths b; disjuncts = bare_paths c; condition = option_map erase_expr d })
  unfolding clause
  inherits_reads None b c d ga gb gc gd o = merges_reads 1 None b c d gb gc gd o
  inherits_reads (Some ps) b c d ga gb gc gd o =
      let ws = printed.listed class.InheritsWord ps in
      let rest = printed.listed class.MergesWord (paths_or_none b) ++ (printed.listed class.DisjunctsWord (paths_or_none c) ++ printed.when_if (optional_expr d)) in
      go_on j 3 no_clauses _ (InheritsClause (map erase_path ps)) (all_spelled ws) (all_spelled rest) (all_spelled (ws ++ rest)) (spelled_append ws rest) (inl (map erase_path ps, ga, refl)) (listed_start _ class.InheritsWord ps ga (λ ts. refl)) (merges_reads 0 (Some (map erase_path ps)) b c d gb gc gd o)

none_good : (j : NestedLanguages) → GoodClauses j no_clauses
none_good j = record { inherits = tt; merges = tt; disjuncts = tt; condition = tt }

module _ {i j : NestedLanguages} (h : AgainUnits i j) where
  pub again_clauses : Again (λ (x : ClausesTree). IsPrintableOptional (optional_expr x.condition)) clause_pieces bare_clauses (clauses i 4 no_clauses) (clauses j 4 no_clauses)
  again_clauses = record { again = λ ts x rd o. (let g = clauses_good h 4 no_clauses x ts (none_good j) rd in inherits_reads j x.inherits x.merges x.disjuncts x.condition g.inherits g.merges g.disjuncts g.condition o) }
