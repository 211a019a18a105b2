-- Bodies of mappings, and mappings, are read again.
use Rattle.std.proofs.Common.{◌≡◌, List, [], ◌∷◌, ◌++◌, map, Bool, true, false, if◌then◌else◌, ◌||◌, inl, inr, refl, sym, ap, ◌∙◌, subst, append_assoc, append-nil, Option, Some, None, option_map, IsTrue}
use Rattle.qvt_tree_types.specs.Tree.{StmtTerm}
use Rattle.qvt_tree_types.specs.View.{stmts_of, optional_expr}
use Rattle.qvt_tree_types.specs.Module.{MappingOf}
use Rattle.qvt_tree.specs.Shape.{nowhere, erase_stmt}
use Rattle.qvt_tree.specs.ModuleShape.{erase_typed, erase_unit, erase_result}
use Rattle.qvt_grammar.specs.Language.{Language, made, then, maybe}
use Rattle.qvt_language.specs.declared.class.Class.{Class}
use Rattle.qvt_language.specs.declared.class.Class.TheVariants as class
use Rattle.qvt_language.specs.Readers.{the}
use Rattle.qvt_language.specs.Tokens.{Tok, is}
use Rattle.qvt_language.specs.Trees.{second}
use Rattle.qvt_language.specs.Grammar.{NestedLanguages}
use Rattle.qvt_language.specs.Units.{init_part, end_part, end_unless, sections, body, mapping_unit}
use Rattle.qvt_language.specs.UnitTrees.{BodyTree, sections_of, mapping_of, stmts_or_none}
use Rattle.qvt_printer_layout.specs.declared.piece.PrintPiece.{PrintPiece}
use Rattle.qvt_printer_layout.specs.declared.piece.PrintPiece.TheVariants as piece
use Rattle.qvt_printer.specs.Expressions as print
use Rattle.qvt_printer.specs.Units as printed
use Rattle.qvt_readback_tokens.specs.Spelled.{all_spelled}
use Rattle.qvt_readback_trees.specs.Printable.{IsPrintableUnit, IsPrintableOptional}
use Rattle.qvt_readback_tokens.proofs.Classes.{is_itself}
use Rattle.qvt_readback_trees.proofs.Statements.{bare_ended}
use Rattle.qvt_readback_trees.proofs.Spelling.{plain, spelled_append, block_spelled}
use Rattle.qvt_readback_trees.proofs.Again.{Again, again_the, again_then, again_made, again_maybe}
use Rattle.qvt_readback_trees.proofs.AgainNames.{again_unit_path, bare_unit_path}
use Rattle.qvt_readback_trees.proofs.AgainExprs.{bare_stmts, bare_optional, optional_any}
use Rattle.qvt_readback_trees.proofs.AgainUnits.{again_params, again_result_decl, result_same, result_bare, paths_bare}
use Rattle.qvt_readback_trees.proofs.AgainClauses.{bare_clauses, clause_pieces, again_clauses}
use Rattle.qvt_readback_trees.proofs.UnitBase.{Stmts, AgainBlock, AgainUnits}

-- each part of a body is read again, in its own block or without one
record GoodBody (j : NestedLanguages) (x : BodyTree) : Type 0 where
  init : AgainBlock j x.init
  population : AgainBlock j x.population
  finish : AgainBlock j x.finish

abbrev pub bare_body : BodyTree → BodyTree
bare_body x = record { init = map erase_stmt x.init; population = map erase_stmt x.population; finish = map erase_stmt x.finish }

abbrev body_ok : BodyTree → Type 0
body_ok x = Stmts x.init × Stmts x.population × Stmts x.finish

abbrev section : Class → List StmtTerm → List PrintPiece
section word ss = printed.section word (stmts_of ss)

abbrev all_sections : BodyTree → List PrintPiece
all_sections x = section class.InitWord x.init ++ (section class.PopulationWord x.population ++ section class.EndWord x.finish)

abbrev has_sections : BodyTree → Bool
has_sections x = printed.has_statements (stmts_of x.init) || printed.has_statements (stmts_of x.finish)

abbrev pub body_pieces : BodyTree → List PrintPiece
body_pieces x = if has_sections x then print.in_block (all_sections x) else print.block (stmts_of x.population)

module _ {i j : NestedLanguages} (h : AgainUnits i j) where
  -- what was read

  block_of : (word : Class) (ts : List Tok) (x : Option (List StmtTerm)) → (maybe (made second ((then) (the word) i.block))).reads ts x → AgainBlock j (stmts_or_none x)
  block_of word ts x rd = elim rd [
    | inl q ↦ (
        let w = q.1.1 in
        let same : x ≡ Some q.1.0.1 = q.2 ∙ ap Some q.1.2 in
        subst (λ z. AgainBlock j (stmts_or_none z)) (sym same) (h.block w.1 q.1.0.1 w.4))
    | inr q ↦ subst (λ z. AgainBlock j (stmts_or_none z)) (sym q.2) h.nothing
  ]

  abbrev Sections : List StmtTerm × List StmtTerm → Type 0
  Sections x = AgainBlock j x.0 × AgainBlock j x.1

  end_good : (b : Bool) (ts : List Tok) (x : Option (List StmtTerm)) → (end_unless i b).reads ts x → AgainBlock j (stmts_or_none x)
  unfolding end_part
  end_good true ts x rd = subst (λ z. AgainBlock j (stmts_or_none z)) (sym rd.2) h.nothing
  end_good false ts x rd = block_of class.EndWord ts x rd

  sections_good : (ts : List Tok) (x : List StmtTerm × List StmtTerm) → (sections i).reads ts x → Sections x
  unfolding sections end_part
  sections_good ts x rd = elim rd [
    | inl q ↦ (
        let a = q.1.0 in
        let w = q.1.1 in
        let r = w.4 in
        let same : x ≡ sections_of a.1 = q.2 ∙ ap sections_of q.1.2 in
        subst Sections (sym same) (h.block r.0 a.1.0 r.3, block_of class.EndWord r.1 a.1.1 r.4))
    | inr q ↦ (
        let w = q.1 in
        subst Sections (sym q.2) (h.list w.0 q.0.0 w.3, end_good q.0.0.open_end w.1 q.0.1 w.4))
  ]

  body_good : (ts : List Tok) (x : BodyTree) → (body i).reads ts x → GoodBody j x
  unfolding body init_part
  body_good ts x rd = elim rd [
    | inl q ↦ subst (GoodBody j) (sym q.2) (record { init = h.nothing; population = h.nothing; finish = h.nothing })
    | inr q ↦ (
        let a = q.0.1 in
        let w = q.1.4 in
        let s = sections_good w.4.0 a.1.0 w.4.3 in
        subst (GoodBody j) (sym q.2) (record { init = block_of class.InitWord w.0 a.0 w.3; population = s.0; finish = s.1 }))
  ]

-- what is printed

module _ (j : NestedLanguages) where
  abbrev Worded : Class → Language Tok (List StmtTerm)
  Worded word = made second ((then) (the word) j.block)

  abbrev if_any : List StmtTerm → Option (List StmtTerm)
  if_any [] = None
  if_any (s ∷ ss) = Some (map erase_stmt (s ∷ ss))

  any_same : (ss : List StmtTerm) → stmts_or_none (if_any ss) ≡ map erase_stmt ss
  any_same [] = refl
  any_same (s ∷ ss) = refl

  section_reads : (word : Class) → IsTrue (is word (plain word)) → (ss : List StmtTerm) → AgainBlock j ss → Stmts ss → (maybe (Worded word)).reads (all_spelled (section word ss)) (if_any ss)
  section_reads word w [] g o = inr (tt, refl, refl)
  section_reads word w (s ∷ ss) g o = inl (map erase_stmt (s ∷ ss), ((plain word, map erase_stmt (s ∷ ss)), (plain word ∷ [], all_spelled (print.block (stmts_of (s ∷ ss))), refl, (refl, w), g.block o), refl), refl)

  abbrev Two : List StmtTerm → List StmtTerm → Type 0
  Two population finish = (sections j).reads (all_spelled (section class.PopulationWord population ++ section class.EndWord finish)) (map erase_stmt population, map erase_stmt finish)

  two_reads : (population finish : List StmtTerm) → AgainBlock j population → AgainBlock j finish → Stmts population → Stmts finish → Two population finish
  unfolding sections end_part
  two_reads [] finish gp gf op of_ =
      let ts = all_spelled (section class.EndWord finish) in
      inr ((bare_ended [], if_any finish), ([], ts, refl, gp.list op, section_reads class.EndWord (is_itself class.EndWord) finish gf of_), ap (λ z. ([], z)) (sym (any_same finish)))
  two_reads (s ∷ ss) finish gp gf op of_ =
      let b = print.block (stmts_of (s ∷ ss)) in
      let e = section class.EndWord finish in
      let us = all_spelled b in
      let vs = all_spelled e in
      let ms = map erase_stmt (s ∷ ss) in
      inl ((ms, if_any finish), ((plain class.PopulationWord, (ms, if_any finish)), (plain class.PopulationWord ∷ [], us ++ vs, ap (λ z. plain class.PopulationWord ∷ z) (spelled_append b e), (refl, refl), (us, vs, refl, gp.block op, section_reads class.EndWord (is_itself class.EndWord) finish gf of_)), refl), ap (λ z. (ms, z)) (sym (any_same finish)))

  sections_read : (x : BodyTree) → GoodBody j x → body_ok x → (body j).reads (all_spelled (print.in_block (all_sections x))) (bare_body x)
  unfolding body init_part
  sections_read x g o =
      let init = section class.InitWord x.init in
      let two = section class.PopulationWord x.population ++ section class.EndWord x.finish in
      let us = all_spelled init in
      let vs = all_spelled two in
      let all = init ++ two in
      let close = plain class.CloseBrace ∷ [] in
      let cut : all_spelled (print.in_block all) ≡ plain class.OpenBrace ∷ (us ++ (vs ++ close)) =
      block_spelled all ∙ ap (λ z. plain class.OpenBrace ∷ z) (spelled_append all (print.one class.CloseBrace) ∙ ap (λ z. z ++ close) (spelled_append init two) ∙ append_assoc us vs close) in
      inr (
        (plain class.OpenBrace, (if_any x.init, ((map erase_stmt x.population, map erase_stmt x.finish), plain class.CloseBrace))),
        (plain class.OpenBrace ∷ [], us ++ (vs ++ close), cut, (refl, refl), (us, vs ++ close, refl, section_reads class.InitWord (is_itself class.InitWord) x.init g.init o.0, (vs, close, refl, two_reads x.population x.finish g.population g.finish o.1 o.2, (refl, refl)))),
        ap (λ z. record { init = z; population = map erase_stmt x.population; finish = map erase_stmt x.finish }) (sym (any_same x.init)),
      )

  -- neither `init` nor `end`
  plain_read : (population : List StmtTerm) → AgainBlock j population → Stmts population → (body j).reads (all_spelled (print.block (stmts_of population))) (record { init = []; population = map erase_stmt population; finish = [] })
  unfolding body sections
  plain_read population g o =
      let ps = print.stmts (stmts_of population) in
      let us = all_spelled ps in
      let close = plain class.CloseBrace ∷ [] in
      let cut : all_spelled (print.in_block ps) ≡ plain class.OpenBrace ∷ (us ++ close) = block_spelled ps ∙ ap (λ z. plain class.OpenBrace ∷ z) (spelled_append ps (print.one class.CloseBrace)) in
      inr (
        (plain class.OpenBrace, (None, ((map erase_stmt population, []), plain class.CloseBrace))),
        (plain class.OpenBrace ∷ [], us ++ close, cut, (refl, refl), ([], us ++ close, refl, inr (tt, refl, refl), (us, close, refl, inr ((bare_ended population, None), (us, [], sym (append-nil us), g.list o, inr (tt, refl, refl)), refl), (refl, refl)))),
        refl,
      )

  body_reads : (init population finish : List StmtTerm) → GoodBody j (record { init = init; population = population; finish = finish }) → body_ok (record { init = init; population = population; finish = finish }) →
      (body j).reads (all_spelled (body_pieces (record { init = init; population = population; finish = finish }))) (bare_body (record { init = init; population = population; finish = finish }))
  body_reads [] population [] g o = plain_read population g.population o.1
  body_reads [] population (s ∷ finish) g o = sections_read (record { init = []; population = population; finish = s ∷ finish }) g o
  body_reads (s ∷ init) population finish g o = sections_read (record { init = s ∷ init; population = population; finish = finish }) g o

module _ {i j : NestedLanguages} (h : AgainUnits i j) where
  again_body : Again body_ok body_pieces bare_body (body i) (body j)
  again_body = record { again = λ ts x rd o. body_reads j x.init x.population x.finish (body_good h ts x rd) o }

  pub again_mapping_unit : Again IsPrintableUnit printed.unit erase_unit (mapping_unit i) (mapping_unit j)
  unfolding mapping_unit
  again_mapping_unit = again_made mapping_of (again_made {ok2 = λ a. (IsPrintableOptional (optional_expr a.1.1.1.0.condition)) × body_ok a.1.1.1.1} {p2 = λ a. piece.Plain class.MappingWord ∷ (print.names a.0.names ++ (print.in_round (printed.params a.1.0) ++ (printed.result_if a.1.1.0 ++ (clause_pieces a.1.1.1.0 ++ body_pieces a.1.1.1.1))))} {b2 = λ a. (bare_unit_path a.0, (map erase_typed a.1.0, (option_map erase_result a.1.1.0, (bare_clauses a.1.1.1.0, bare_body a.1.1.1.1))))} second
      (again_then (again_the class.MappingWord) (again_then again_unit_path (again_then (again_params h) (again_then (again_maybe again_result_decl) (again_then (again_clauses h) again_body)))))
      (λ a o. (tt, (tt, (tt, (optional_any a.1.1.1.0, (o.0, o.1))))))
      (λ a. ap (λ z. plain class.MappingWord ∷ all_spelled (print.names a.1.0.names ++ (print.in_round (printed.params a.1.1.0) ++ (z ++ (clause_pieces a.1.1.1.1.0 ++ body_pieces a.1.1.1.1.1))))) (result_same a.1.1.1.0))
      (λ a. refl))
      (λ a o. (o.0, (o.1, o.2, o.3)))
      (λ a. ap (λ z. plain class.MappingWord ∷ all_spelled z) (append_assoc (print.names a.0.names) (print.in_round (printed.params a.1.0)) _))
      (λ a k. MappingOf (record {
        path = a.0.names;
        params = map erase_typed a.1.0;
        result_decl = result_bare a.1.1.0 k;
        inherits = paths_bare a.1.1.1.0.inherits k;
        merges = paths_bare a.1.1.1.0.merges k;
        disjuncts = paths_bare a.1.1.1.0.disjuncts k;
        condition = bare_optional a.1.1.1.0.condition k;
        init = bare_stmts a.1.1.1.1.init k;
        population = bare_stmts a.1.1.1.1.population k;
        finish = bare_stmts a.1.1.1.1.finish k;
        place = nowhere;
      }))
