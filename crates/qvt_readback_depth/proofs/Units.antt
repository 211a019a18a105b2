-- How units and their parts are printed, by how they are read: a unit may get one block more.
use Rattle.std.proofs.Common.{◌≡◌, ℕ, ◌≤◌, List, [], ◌∷◌, ◌++◌, Bool, true, false, cond, not, ◌&&◌, ◌||◌, ◌⊎◌, inl, inr, refl, sym, ap, ◌∙◌, subst, append_assoc, append-nil, Option, Some, None, IsTrue, arith}
use Rattle.qvt_tree_types.specs.Tree.{TypeTerm, ExprTerm, StmtTerm, SomeExpr}
use Rattle.qvt_tree_types.specs.View.{stmts_of, optional_expr}
use Rattle.qvt_tree_types.specs.Module.{TypedName, UnitTerm}
use Rattle.qvt_tree_types.specs.declared.types.PathTree.{PathTree}
use Rattle.qvt_tree_types.specs.declared.module.ResultDecl.{ResultDecl}
use Rattle.qvt_tree_types.specs.declared.module.ModelParam.{ModelParam}
use Rattle.qvt_tree_types.specs.declared.words.Direction.{Direction}
use Rattle.qvt_tree_types.specs.declared.words.Direction.TheVariants as directions
use Rattle.qvt_language.specs.Tokens.{Tok}
use Rattle.qvt_language.specs.StmtTrees.{last_of}
use Rattle.qvt_language.specs.UnitTrees.{return_body, is_query, helper_of, ClausesTree, no_clauses, ClauseTree, InheritsClause, MergesClause, DisjunctsClause, WhenClause, with_clause, paths_or_none, stmts_or_none, BodyTree, mapping_of, sections_of}
use Rattle.qvt_language.specs.declared.class.Class.{Class}
use Rattle.qvt_language.specs.declared.class.Class.TheVariants as class
use Rattle.qvt_language.specs.declared.named.UnitPath.{UnitPath}
use Rattle.qvt_language_rows.specs.Values.{open_sections, with_clauses}
use Rattle.qvt_parser_tokens.specs.declared.depth.Open.{Open}
use Rattle.qvt_parser_tokens.specs.Depth.{begins_statement}
use Rattle.qvt_printer.specs.Expressions as print
use Rattle.qvt_printer.specs.Units as printed
use Rattle.qvt_printer.specs.Units.{has_statements}
use Rattle.qvt_printer_layout.specs.Words as words
use Rattle.qvt_printer_layout.specs.declared.piece.PrintPiece.{PrintPiece}
use Rattle.qvt_printer_layout.specs.declared.piece.PrintPiece.TheVariants as piece
use Rattle.qvt_readback_depth.specs.Law.{is_semicolon, ends_in_semicolon, has_population, gets_block}
use Rattle.qvt_readback_depth.proofs.Runs.{Still, AllStill, Strong, Below}
use Rattle.qvt_readback_depth.proofs.Wide.{Wide, Spare, wide_strong, wide_then, spare_wide, spare_then, Room, room_round, wide_room, spare_empty, strong_drop, wide_braces, strong_wrapped, Parts, parts_strong, parts_then, parts_turns, parts_none, turns_none, parts_braces}
use Rattle.qvt_readback_depth.proofs.Pieces.{pc, tc, pc_append, tc_append, tc_one, moved, Cut, IsTok, same, all_same, peel, PStrong, POver, PTurns, strong_at, over_at, turns_at, as_over, is_still, still, word_still, Quiet, WordTok, quiet_none, quiet_tok, quiet_at, quiet_word, quiet_of, pieces_of, none_of, no_pieces, keep, word_tok, word_at, in_brackets, in_turns}
use Rattle.qvt_readback_depth.proofs.Claims.{After, Before, Between, Perhaps, Many, Series, Lacking, LackingIf, lacks_front, lacks_at}
use Rattle.qvt_readback_depth.proofs.Exprs.{Opening, Printed, Silent, still_names, still_extent, after_if, quiet_series, series_are, led}
use Rattle.qvt_readback_depth.proofs.Stmts.{SimpleIs, StmtsAre, stmts_at, last_is}

abbrev pub PWide : ℕ → List PrintPiece → List Tok → Type 0
PWide e ps ts = Wide e (pc ps) (tc ts)

pub record PSpare (e : ℕ) (ps : List PrintPiece) (ts : List Tok) : Type 0 where
  pub is : Spare e (pc ps) (tc ts)

abbrev PParts : ℕ → List PrintPiece → List Tok → Type 0
PParts e ps ts = Parts e (pc ps) (tc ts)

pub wide_of : (e : ℕ) {ps : List PrintPiece} {ts : List Tok} → PStrong ps ts → PWide e ps ts
wide_of e h = wide_strong e h.is

pub wide_more : (e : ℕ) (a b : List PrintPiece) (x y : List Tok) → PWide e a x → PWide e b y → PWide e (a ++ b) (x ++ y)
wide_more e a b x y h k = moved (Wide e) a b x y (wide_then e h k)

pub wide_after : (e : ℕ) (a b : List PrintPiece) (x y : List Tok) → PStrong a x → PWide e b y → PWide e (a ++ b) (x ++ y)
wide_after e a b x y h k = wide_more e a b x y (wide_of e h) k

spare_after : (e : ℕ) (a b : List PrintPiece) (x y : List Tok) → PStrong a x → PSpare e b y → PSpare e (a ++ b) (x ++ y)
spare_after e a b x y h k = record { is = moved (Spare e) a b x y (spare_then e h.is k.is) }

room_after : (e : ℕ) (a b : List PrintPiece) (x y : List Tok) → PStrong a x → Room (tc x) → PSpare e b y → PWide e (a ++ b) (x ++ y)
room_after e a b x y h r k = moved (Wide e) a b x y (wide_room e h.is r k.is)

parts_more : (e : ℕ) (a b : List PrintPiece) (x y : List Tok) → PParts e a x → PParts e b y → PParts e (a ++ b) (x ++ y)
parts_more e a b x y h k = moved (Parts e) a b x y (parts_then e h k)

dropped : {ps : List PrintPiece} {ts : List Tok} → PStrong ps ts → PStrong [] ts
dropped h = record { is = strong_drop h.is }

-- whatever opens and closes nothing, for what leaves all as it was
pub idle_strong : (ps : List PrintPiece) {ts : List Tok} → AllStill (pc ps) → PStrong [] ts → PStrong ps ts
idle_strong ps {ts} h k = subst (λ z. PStrong z ts) (append-nil ps) (led ps h k)

-- parameters and features
abbrev pub Params : List Tok → List TypedName → Type 0
Params = Between class.OpenRound (Series (Opening printed.typed_name)) class.CloseRound

params_are : {ts : List Tok} (ps : List TypedName) → Params ts ps → PStrong (print.in_round (printed.params ps)) ts
params_are ps h = in_brackets h.3 h.4 (series_are printed.typed_name printed.params printed.more_params refl (λ a as_. refl) refl (λ a as_. refl) ps h.5) h.6

params_room : (ts : List Tok) (ps : List TypedName) → Params ts ps → Room (tc ts)
params_room ts ps h = subst Room (sym (ap tc h.3.is ∙ tc_one h.0 (h.1 ++ h.2) h.4.is)) (room_round (tc (h.1 ++ h.2)))

pub signature_is : {ts u v : List Tok} (names : List (List ℕ)) (ps : List TypedName) → Cut ts u v → Quiet u → Params v ps → PStrong (printed.signature names ps) ts
signature_is names ps e h k = strong_at e (quiet_of (print.names names) (still_names names) h) (params_are ps k)

feature_is : (ts : List Tok) (t : TypedName) → Before (Printed printed.typed_name) class.Semicolon ts t → PStrong (piece.Line ∷ print.ended (printed.typed_name t)) ts
feature_is ts t h = led (piece.Line ∷ []) tt (strong_at h.2 h.3 (pieces_of (print.one class.Semicolon) refl (quiet_tok {c = class.Semicolon} refl h.4)))

pub features_are : (fs : List TypedName) {ts : List Tok} → Many (Before (Printed printed.typed_name) class.Semicolon) ts fs → PStrong (printed.fields fs) ts
features_are [] h = no_pieces h
features_are (t ∷ fs) h = strong_at {a = piece.Line ∷ print.ended (printed.typed_name t)} h.2 (feature_is h.0 t h.3) (features_are fs h.4)

still_paths : (ps : List PathTree) → AllStill (pc (print.paths ps))
still_paths [] = tt
still_paths (p ∷ ps) = both (print.path p) (print.more_paths ps) (still_names p.names) (more ps) where
  both : (a b : List PrintPiece) → AllStill (pc a) → AllStill (pc b) → AllStill (pc (a ++ b))
  both a b h k = subst AllStill (sym (pc_append a b)) (all_both (pc a) (pc b) h k) where
    all_both : (a b : List Class) → AllStill a → AllStill b → AllStill (a ++ b)
    all_both [] b h k = k
    all_both (c ∷ a) b h k = (h.0, all_both a b h.1 k)

  more : (qs : List PathTree) → AllStill (pc (print.more_paths qs))
  more [] = tt
  more (q ∷ qs) = ((λ f s. refl), both (print.path q) (print.more_paths qs) (still_names q.names) (more qs))

still_listed : (word : Class) → Still word → (ps : List PathTree) → AllStill (pc (printed.listed word ps))
still_listed word w [] = tt
still_listed word w (p ∷ ps) = (w, still_paths (p ∷ ps))

supers_quiet : {ts : List Tok} (ps : Option (List PathTree)) → Perhaps (After class.ExtendsWord (Series Silent)) ts ps → Quiet ts
supers_quiet None h = quiet_none h
supers_quiet (Some all) h = quiet_at h.2 (quiet_tok {c = class.ExtendsWord} refl h.3) (quiet_series all h.4)

pub supers_are : {ts : List Tok} (ps : Option (List PathTree)) → Perhaps (After class.ExtendsWord (Series Silent)) ts ps → PStrong (printed.listed class.ExtendsWord (paths_or_none ps)) ts
supers_are ps h = quiet_of (printed.listed class.ExtendsWord (paths_or_none ps)) (still_listed class.ExtendsWord (λ f s. refl) (paths_or_none ps)) (supers_quiet ps h)

-- a section in a block, or none where it has no statements
abbrev BlockIs : List Tok → List StmtTerm → Type 0
BlockIs ts ss = PStrong (print.block (stmts_of ss)) ts

pub section_is : {ts : List Tok} (word : Class) → IsTrue (is_still word) → (ss : List StmtTerm) → After word BlockIs ts ss → PStrong (printed.section word (stmts_of ss)) ts
section_is word w [] h = strong_at {a = []} h.2 (none_of (quiet_tok w h.3)) (dropped h.4)
section_is word w (s ∷ ss) h = led (piece.Line ∷ []) tt (keep w h.2 h.3 h.4)

pub section_if : {ts : List Tok} (word : Class) → IsTrue (is_still word) → (ss : Option (List StmtTerm)) → Perhaps (After word BlockIs) ts ss → PStrong (printed.section word (stmts_of (stmts_or_none ss))) ts
section_if word w None h = no_pieces h
section_if word w (Some ss) h = section_is word w ss h

-- the body of a mapping
abbrev any_section : List StmtTerm → List StmtTerm → Bool
any_section init finish = has_statements (stmts_of init) || has_statements (stmts_of finish)

abbrev body_pieces : BodyTree → List PrintPiece
body_pieces b = cond (any_section b.init b.finish)
    (print.in_block (printed.section class.InitWord (stmts_of b.init) ++ (printed.section class.PopulationWord (stmts_of b.population) ++ printed.section class.EndWord (stmts_of b.finish)))) (print.block (stmts_of b.population))

abbrev pub slack : Bool → ℕ
slack true = 1
slack false = 0

pub slack_one : (b : Bool) → slack b ≤ 1
slack_one true = omega arith
slack_one false = omega arith

-- whether the statements of the body get a block, where the tokens have no word for it
abbrev may : BodyTree → Bool
may b = has_statements (stmts_of b.population) && any_section b.init b.finish

abbrev block_slack : Bool → List Tok → ℕ
block_slack b ts = slack (b && not (has_population ts))

abbrev body_slack : BodyTree → List Tok → ℕ
body_slack b ts = block_slack (may b) ts

-- statements in a block of their own, or not, where the whole has no word for it
abbrev Population : List Tok → List Tok → List StmtTerm → Type 0
Population whole ts ss = BlockIs ts ss ⊎ (StmtsAre ts ss × Lacking whole)

pub record SectionsAre (ts : List Tok) (a : List StmtTerm × List StmtTerm) : Type 0 where
  front : List Tok
  back : List Tok
  same : ts ≡ front ++ back
  population : Population ts front a.0
  finish : PStrong (printed.section class.EndWord (stmts_of a.1)) back

pub closed_sections : {ts u v x y : List Tok} (a : List StmtTerm × Option (List StmtTerm)) → Cut ts u v → IsTok class.PopulationWord u → Cut v x y → BlockIs x a.0 → Perhaps (After class.EndWord BlockIs) y a.1 → SectionsAre ts (sections_of a)
closed_sections {u = u} {x = x} {y = y} a e w g h k = record { front = u ++ x; back = y; same = (peel e g).is; population = inl (strong_at {a = []} same (none_of (quiet_tok {c = class.PopulationWord} refl w)) h); finish = section_if class.EndWord refl a.1 k }

abbrev pub EndingIs : List Tok → Option StmtTerm ⊎ List StmtTerm → Type 0
EndingIs ts (inl last) = Perhaps SimpleIs ts last
EndingIs ts (inr finish) = After class.EndWord BlockIs ts finish

pub open_are : {ts u v : List Tok} (a : List StmtTerm × (Option StmtTerm ⊎ List StmtTerm)) → Cut ts u v → StmtsAre u a.0 → EndingIs v a.1 → Lacking ts → SectionsAre ts (open_sections a)
open_are {ts} (all, (inl last)) e h k l = record { front = ts; back = []; same = sym (append-nil ts); population = inr (stmts_at all (last_of last) e h (last_is last k), l); finish = no_pieces refl }
open_are {ts} {u} {v} (all, (inr finish)) e h k l = record { front = u; back = v; same = e.is; population = inr (h, l); finish = section_is class.EndWord refl finish k }

block_pieces : (ps : List PrintPiece) → pc (print.in_block ps) ≡ class.OpenBrace ∷ (pc ps ++ (class.CloseBrace ∷ []))
block_pieces ps = ap (λ z. class.OpenBrace ∷ z) (pc_append ps (piece.Dedent ∷ piece.Line ∷ piece.Plain class.CloseBrace ∷ []))

braced_toks : (u v w : List Tok) → tc u ≡ class.OpenBrace ∷ [] → tc w ≡ class.CloseBrace ∷ [] → tc (u ++ (v ++ w)) ≡ class.OpenBrace ∷ (tc v ++ (class.CloseBrace ∷ []))
braced_toks u v w e g = tc_one u (v ++ w) e ∙ ap (λ z. class.OpenBrace ∷ z) (tc_append v w ∙ ap (λ z. tc v ++ z) g)

-- the population among other sections
among : (e : ℕ) (ss : List StmtTerm) (whole v : List Tok) → Population whole v ss → (has_statements (stmts_of ss) ≡ true → Lacking whole → e ≡ 1) → PParts e (printed.section class.PopulationWord (stmts_of ss)) v
among e [] whole v (inl h) k = parts_strong e (strong_drop h.is)
among e [] whole v (inr h) k = parts_none e h.0.is
among e (s ∷ ss) whole v (inl h) k = let all = led (piece.Line ∷ piece.Plain class.PopulationWord ∷ []) ((λ f s. refl), tt) h in parts_strong e all.is
among e (s ∷ ss) whole v (inr h) k =
    subst (λ z. PParts z (printed.section class.PopulationWord (stmts_of (s ∷ ss))) v) (sym (k refl h.1))
    (subst (λ z. Parts 1 (class.PopulationWord ∷ z) (tc v)) (sym (block_pieces (print.stmts (stmts_of (s ∷ ss))))) (parts_turns h.0.is))

among_all : (e : ℕ) (i p f : List PrintPiece) (u v w x y : List Tok) → tc u ≡ class.OpenBrace ∷ [] → PStrong i v → PParts e p w → PStrong f x → tc y ≡ class.CloseBrace ∷ [] → PWide e (print.in_block (i ++ (p ++ f))) (u ++ (v ++ ((w ++ x) ++ y)))
among_all e i p f u v w x y a h k j b =
    subst (λ z. Wide e z (tc (u ++ (v ++ ((w ++ x) ++ y))))) (sym (block_pieces (i ++ (p ++ f))))
    (subst (λ z. Wide e (class.OpenBrace ∷ (pc (i ++ (p ++ f)) ++ (class.CloseBrace ∷ []))) z) (sym (ap (λ z. tc (u ++ z)) (sym (append_assoc v (w ++ x) y)) ∙ braced_toks u (v ++ (w ++ x)) y a b))
    (parts_braces e (parts_more e i (p ++ f) v (w ++ x) (parts_strong e h.is) (parts_more e p f w x k (parts_strong e j.is)))))

-- the population alone
alone : (ss : List StmtTerm) (whole u v w x y : List Tok) → tc u ≡ class.OpenBrace ∷ [] → PStrong [] v → Population whole w ss → PStrong [] x → tc y ≡ class.CloseBrace ∷ [] → PStrong (print.block (stmts_of ss)) (u ++ (v ++ ((w ++ x) ++ y)))
alone ss whole u v w x y a h (inl k) j b =
    let ps = print.block (stmts_of ss) in
    let inside = strong_at {a = []} {b = ps} (same {u = v} {v = w ++ x}) h (subst (λ z. PStrong z (w ++ x)) (append-nil ps) (strong_at {a = ps} same k j)) in
    record { is = subst (Strong (pc ps)) (sym (ap (λ z. tc (u ++ z)) (sym (append_assoc v (w ++ x) y)) ∙ braced_toks u (v ++ (w ++ x)) y a b)) (strong_wrapped inside.is) }
alone ss whole u v w x y a h (inr (k, l)) j b =
    let ps = print.stmts (stmts_of ss) in
    let inside = turns_at {a = []} {b = ps} (same {u = v} {v = w ++ x}) (record { is = turns_none h.is }) (subst (λ z. PTurns z (w ++ x)) (append-nil ps) (turns_at {a = ps} same k (record { is = turns_none j.is }))) in
    in_turns (record { is = ap (λ z. u ++ z) (sym (append_assoc v (w ++ x) y)) }) (record { is = a }) inside (record { is = b })

body_is : (i p f : List StmtTerm) (u v w x y : List Tok) → tc u ≡ class.OpenBrace ∷ [] → PStrong (printed.section class.InitWord (stmts_of i)) v → Population (u ++ (v ++ ((w ++ x) ++ y))) w p → PStrong (printed.section class.EndWord (stmts_of f)) x → tc y ≡ class.CloseBrace ∷ []
    → PWide (body_slack (record { init = i; population = p; finish = f }) (u ++ (v ++ ((w ++ x) ++ y)))) (body_pieces (record { init = i; population = p; finish = f })) (u ++ (v ++ ((w ++ x) ++ y)))
body_is [] p [] u v w x y a h k j b = wide_of (body_slack (record { init = []; population = p; finish = [] }) (u ++ (v ++ ((w ++ x) ++ y)))) (alone p (u ++ (v ++ ((w ++ x) ++ y))) u v w x y a h k j b)
body_is (s ∷ i) p f u v w x y a h k j b =
    let ts = u ++ (v ++ ((w ++ x) ++ y)) in
    let e = body_slack (record { init = s ∷ i; population = p; finish = f }) ts in
    among_all e (printed.section class.InitWord (stmts_of (s ∷ i))) (printed.section class.PopulationWord (stmts_of p)) (printed.section class.EndWord (stmts_of f)) u v w x y a h (among e p ts w k (λ some lack. λ n. slack ((some n && true) && not (lack n)))) j b
body_is [] p (s ∷ f) u v w x y a h k j b =
    let ts = u ++ (v ++ ((w ++ x) ++ y)) in
    let e = body_slack (record { init = []; population = p; finish = s ∷ f }) ts in
    among_all e (printed.section class.InitWord (stmts_of [])) (printed.section class.PopulationWord (stmts_of p)) (printed.section class.EndWord (stmts_of (s ∷ f))) u v w x y a h (among e p ts w k (λ some lack. λ n. slack ((some n && true) && not (lack n)))) j b

abbrev pub BodyIs : List Tok → BodyTree → Type 0
BodyIs ts b = PSpare (body_slack b ts) (body_pieces b) ts

pub empty_is : {ts : List Tok} → IsTok class.Semicolon ts → BodyIs ts (record { init = []; population = []; finish = [] })
empty_is h = record { is = subst (Spare 0 (class.OpenBrace ∷ class.CloseBrace ∷ [])) (sym h.is) spare_empty }

population_in : (ss : List StmtTerm) (ts whole v : List Tok) → (Lacking ts → Lacking whole) → Population ts v ss → Population whole v ss
population_in ss ts whole v k (inl h) = inl h
population_in ss ts whole v k (inr h) = inr (h.0, k h.1)

pub sections_in : {ts u v x y z w : List Tok} (init : Option (List StmtTerm)) (a : List StmtTerm × List StmtTerm) → Cut ts u v → IsTok class.OpenBrace u → Cut v x y → Perhaps (After class.InitWord BlockIs) x init → Cut y z w → SectionsAre z a → IsTok class.CloseBrace w
    → Lacking u → Lacking x → Lacking w → BodyIs ts (record { init = stmts_or_none init; population = a.0; finish = a.1 })
sections_in {ts} {u} {v} {x} {y} {z} {w} init a e p f h g k q lu lx lw =
    let b : BodyTree = record { init = stmts_or_none init; population = a.0; finish = a.1 } in
    let whole = u ++ (x ++ ((k.front ++ k.back) ++ w)) in
    let equal : ts ≡ whole = e.is ∙ ap (λ m. u ++ m) (f.is ∙ ap (λ m. x ++ m) (g.is ∙ ap (λ m. m ++ w) k.same)) in
    let lacks : Lacking z → Lacking whole = λ l. subst Lacking equal (lacks_at e lu (lacks_at f lx (lacks_at g l lw))) in
    subst (λ m. BodyIs m b) (sym equal) (record { is = spare_wide (body_slack b whole) (body_is (stmts_or_none init) a.0 a.1 u x k.front k.back w p.is (section_if class.InitWord refl init h) (population_in a.0 z whole k.front lacks k.population) k.finish q.is) })

-- the condition of a mapping, and a `;` behind it
pub guarded_is : {u v : List Tok} (e : ExprTerm) → POver (print.expr e) u → Quiet v → POver (print.expr e) (u ++ v)
guarded_is {u} {v} e h k = subst (λ z. POver z (u ++ v)) (append-nil (print.expr e)) (over_at {a = print.expr e} same h (none_of k))

-- the clauses of a mapping: all but the condition open and close nothing
abbrev pub WhenIs : List Tok → Option ExprTerm → Type 0
WhenIs ts e = PStrong (printed.when_if (optional_expr e)) ts

abbrev pub ClauseIs : List Tok → ClauseTree → Type 0
ClauseIs ts (InheritsClause ps) = Quiet ts
ClauseIs ts (MergesClause ps) = Quiet ts
ClauseIs ts (DisjunctsClause ps) = Quiet ts
ClauseIs ts (WhenClause e) = PStrong (printed.when_if (SomeExpr e)) ts

same_when : {ts u v : List Tok} (e : Option ExprTerm) → Cut ts u v → WhenIs u e → Quiet v → WhenIs ts e
same_when {ts} e g h k = subst (λ z. PStrong z ts) (append-nil (printed.when_if (optional_expr e))) (strong_at g h (none_of k))

with_is : {ts u v : List Tok} (x : ClausesTree) (c : ClauseTree) → Cut ts u v → WhenIs u x.condition → ClauseIs v c → WhenIs ts (with_clause x c).condition
with_is x (InheritsClause ps) g h k = same_when x.condition g h k
with_is x (MergesClause ps) g h k = same_when x.condition g h k
with_is x (DisjunctsClause ps) g h k = same_when x.condition g h k
with_is x (WhenClause e) g h k = strong_at {a = []} g (dropped h) k

clauses_after : (cs : List ClauseTree) (x : ClausesTree) {ts u v : List Tok} → Cut ts u v → WhenIs u x.condition → Many ClauseIs v cs → WhenIs ts (with_clauses x cs).condition
clauses_after [] x g h k = same_when x.condition g h (quiet_none k)
clauses_after (c ∷ cs) x g h k = clauses_after cs (with_clause x c) (peel g k.2) (with_is x c same h k.3) k.4

pub clauses_are : {ts : List Tok} (cs : List ClauseTree) → Many ClauseIs ts cs → WhenIs ts (with_clauses no_clauses cs).condition
clauses_are cs h = clauses_after cs no_clauses (same {u = []}) (no_pieces refl) h

abbrev extra_pieces : ClausesTree → List PrintPiece
extra_pieces c = printed.listed class.InheritsWord (paths_or_none c.inherits) ++ (printed.listed class.MergesWord (paths_or_none c.merges) ++ (printed.listed class.DisjunctsWord (paths_or_none c.disjuncts) ++ printed.when_if (optional_expr c.condition)))

extras_are : {ts : List Tok} (c : ClausesTree) → WhenIs ts c.condition → PStrong (extra_pieces c) ts
extras_are c k =
    led (printed.listed class.InheritsWord (paths_or_none c.inherits)) (still_listed class.InheritsWord (λ f s. refl) (paths_or_none c.inherits))
    (led (printed.listed class.MergesWord (paths_or_none c.merges)) (still_listed class.MergesWord (λ f s. refl) (paths_or_none c.merges))
    (led (printed.listed class.DisjunctsWord (paths_or_none c.disjuncts)) (still_listed class.DisjunctsWord (λ f s. refl) (paths_or_none c.disjuncts)) k))

still_result : (r : Option ResultDecl) → AllStill (pc (printed.result_if r))
still_result None = tt
still_result (Some r) = ((λ f s. refl), still_path r.path.names r.extent) where
  still_path : (ns : List (List ℕ)) (n : Option (List ℕ)) → AllStill (pc (print.names ns ++ print.extent n))
  still_path [] n = still_extent n
  still_path (m ∷ ns) n = ((λ f s. refl), more ns) where
    more : (ms : List (List ℕ)) → AllStill (pc (print.more_names ms ++ print.extent n))
    more [] = still_extent n
    more (m ∷ ms) = ((λ f s. refl), ((λ f s. refl), more ms))

-- a unit begins with a word that opens nothing, wherever it stands
abbrev Steady : List Tok → Type 0
Steady ts = (n : ℕ) (f : Bool) (s : List Open) → Below n f s (tc ts) → Below n false s (tc ts)

steady_at : {c : Class} {ts u v : List Tok} → Still c → Cut ts u v → IsTok c u → Steady ts
steady_at {c} {ts} {u} {v} k g e n f s h =
    let equal : tc ts ≡ c ∷ tc v = ap tc g.is ∙ tc_one u v e.is in
    let b : Below n f s (c ∷ tc v) = subst (Below n f s) equal h in
    subst (Below n false s) (sym equal) (b.0, subst (λ z. Below n (begins_statement c) z (tc v)) (k f s ∙ sym (k false s)) b.1)

-- a unit, which may get a block
pub record UnitIs (ts : List Tok) (u : UnitTerm) : Type 0 where
  pub wide : PWide (slack (gets_block ts u)) (printed.unit u) ts
  pub steady : Steady ts

-- the last token, after others
ends_append : (b : Bool) (x y : List Tok) → ends_in_semicolon b (x ++ y) ≡ ends_in_semicolon (ends_in_semicolon b x) y
ends_append b [] y = refl
ends_append b (t ∷ x) y = ends_append (is_semicolon t.class) x y

last_ends : (b : Bool) (ts : List Tok) → tc ts ≡ class.Semicolon ∷ [] → ends_in_semicolon b ts ≡ true
last_ends b [] e = absurd cc
last_ends b (t ∷ []) e = let same : t.class ≡ class.Semicolon = cc in ap is_semicolon same
last_ends b (t ∷ r ∷ ts) e = absurd cc

-- the body of a helper, after whatever tokens
pub record Ended (ps : List PrintPiece) (ts : List Tok) : Type 0 where
  pub is : (b : Bool) → PWide (slack (ends_in_semicolon b ts)) ps ts

ended_at : {ps qs : List PrintPiece} {ts u v : List Tok} → Cut ts u v → PStrong ps u → Ended qs v → Ended (ps ++ qs) ts
ended_at {ps} {qs} {ts} {u} {v} g h k = subst (Ended (ps ++ qs)) (sym g.is) (record {
  is = λ b. subst (λ z. PWide (slack z) (ps ++ qs) (u ++ v)) (sym (ends_append b u v)) (wide_after (slack (ends_in_semicolon (ends_in_semicolon b u) v)) ps qs u v h (k.is (ends_in_semicolon b u)));
})

pub returned : {ts u v x y : List Tok} (t : Tok) (e : ExprTerm) → Cut ts u v → Cut u x y → IsTok class.EqualSign x → POver (print.expr e) y → IsTok class.Semicolon v → Ended (print.block (stmts_of (return_body (t, e)))) ts
returned {ts} {u} {v} t e g f w h q =
    let ps = print.block (stmts_of (return_body (t, e))) in
    let inside = print.ended (piece.Plain class.ReturnWord ∷ print.expr e) in
    let whole : PStrong inside (u ++ v) = strong_at same (word_at class.ReturnWord refl f (word_tok {c = class.EqualSign} refl w) h) (pieces_of (print.one class.Semicolon) refl (quiet_tok {c = class.Semicolon} refl q)) in
    let one_more : PWide 1 ps (u ++ v) = subst (λ z. Wide 1 z (tc (u ++ v))) (sym (block_pieces (piece.Line ∷ (inside ++ [])))) (wide_braces (subst (λ z. Strong (pc z) (tc (u ++ v))) (sym (append-nil inside)) whole.is)) in
    subst (Ended ps) (sym g.is) (record { is = λ b. subst (λ z. PWide (slack z) ps (u ++ v)) (sym (ends_append b u v ∙ last_ends (ends_in_semicolon b u) v q.is)) one_more })

still_helper : (b : Bool) → AllStill (pc (print.one (words.helper_word b)))
still_helper true = ((λ f s. refl), tt)
still_helper false = ((λ f s. refl), tt)

pub helper_is : {ts u v x y p r c d : List Tok} (a : Tok × (UnitPath × (List TypedName × (Option TypeTerm × List StmtTerm)))) → Cut ts u v → WordTok u → Cut v x y → Quiet x → Cut y p r → Params p a.1.1.0
    → Cut r c d → PStrong (print.typed_if a.1.1.1.0) c → Ended (print.block (stmts_of a.1.1.1.1)) d → UnitIs ts (helper_of a)
helper_is a g w e h f k m t b =
    let word = print.one (words.helper_word (is_query a.0.class)) in
    let signature = printed.signature a.1.0.names a.1.1.0 in
    let whole = ended_at {ps = word} g (quiet_of word (still_helper (is_query a.0.class)) (quiet_word w)) (ended_at {ps = signature} (peel e f) (signature_is a.1.0.names a.1.1.0 same h k) (ended_at {ps = print.typed_if a.1.1.1.0} m t b)) in
    record { wide = whole.is false; steady = steady_at (still w.class (word_still w.class w.word)) g (record { is = w.is }) }

-- a mapping, whose body stands after tokens that lack the word
open_same : (b : Bool) (x y : List Tok) → Lacking x → block_slack b (x ++ y) ≡ block_slack b y
open_same b x y l = ap (λ z. slack (b && not z)) (lacks_front x y l)

spare_open : (b : Bool) {ps qs : List PrintPiece} {ts u v : List Tok} → Cut ts u v → PStrong ps u → Lacking u → PSpare (block_slack b v) qs v → PSpare (block_slack b ts) (ps ++ qs) ts
spare_open b {ps} {qs} {ts} {u} {v} g h l k = subst (λ z. PSpare (block_slack b z) (ps ++ qs) z) (sym g.is) (subst (λ z. PSpare z (ps ++ qs) (u ++ v)) (sym (open_same b u v l)) (spare_after (block_slack b v) ps qs u v h k))

wide_open : (b : Bool) {ps : List PrintPiece} (qs : List PrintPiece) {ts u v : List Tok} → Cut ts u v → PStrong ps u → Lacking u → PWide (block_slack b v) qs v → PWide (block_slack b ts) (ps ++ qs) ts
wide_open b {ps} qs {ts} {u} {v} g h l k = subst (λ z. PWide (block_slack b z) (ps ++ qs) z) (sym g.is) (subst (λ z. PWide z (ps ++ qs) (u ++ v)) (sym (open_same b u v l)) (wide_after (block_slack b v) ps qs u v h k))

room_open : (b : Bool) {ps qs : List PrintPiece} {ts u v : List Tok} → Cut ts u v → PStrong ps u → Room (tc u) → Lacking u → PSpare (block_slack b v) qs v → PWide (block_slack b ts) (ps ++ qs) ts
room_open b {ps} {qs} {ts} {u} {v} g h r l k = subst (λ z. PWide (block_slack b z) (ps ++ qs) z) (sym g.is) (subst (λ z. PWide z (ps ++ qs) (u ++ v)) (sym (open_same b u v l)) (room_after (block_slack b v) ps qs u v h r k))

abbrev tail_pieces : Option ResultDecl × (ClausesTree × BodyTree) → List PrintPiece
tail_pieces a = printed.result_if a.0 ++ (extra_pieces a.1.0 ++ body_pieces a.1.1)

-- the parts of a mapping behind its word, each with what its tokens lack
abbrev Part : (List Tok → Type 0) → (List Tok → Type 0) → List Tok → Type 0
Part p q ts = (u : List Tok) × (v : List Tok) × Cut ts u v × p u × q v × (LackingIf true u × LackingIf false v)

pub mapping_is : {ts u v : List Tok} (path : UnitPath) (params : List TypedName) (a : Option ResultDecl × (ClausesTree × BodyTree)) → Cut ts u v → IsTok class.MappingWord u → Lacking u
    → Part Quiet (Part (λ z. Params z params) (Part (λ z. Perhaps (After class.Colon Silent) z a.0) (Part (λ z. WhenIs z a.1.0.condition) (λ z. BodyIs z a.1.1)))) v → UnitIs ts (mapping_of (path, (params, a)))
mapping_is {ts} {u} {v} path params a g w l (x, y, f, q, (p, r, e, j, (d, m, c, k, (n, b, o, t, body, ln), lm), lp), lx) =
    let may_be = may a.1.1 in
    let extras = spare_open may_be o (extras_are a.1.0 t) (ln.0 refl) body in
    let tail = spare_open may_be c (quiet_of (printed.result_if a.0) (still_result a.0) (after_if class.Colon refl a.0 k)) (lm.0 refl) extras in
    let behind = room_open may_be {ps = print.in_round (printed.params params)} e (params_are params j) (params_room p params j) (lp.0 refl) tail in
    let named = wide_open may_be {ps = print.names path.names} (print.in_round (printed.params params) ++ tail_pieces a) f (quiet_of (print.names path.names) (still_names path.names) q) (lx.0 refl) behind in
    let lined = subst (λ z. PWide (block_slack may_be v) z v) (sym (append_assoc (print.names path.names) (print.in_round (printed.params params)) (tail_pieces a))) named in
    record {
      wide = wide_open may_be {ps = piece.Plain class.MappingWord ∷ []} (printed.signature path.names params ++ tail_pieces a) g (pieces_of (piece.Plain class.MappingWord ∷ []) refl (quiet_tok {c = class.MappingWord} refl w)) l lined;
      steady = steady_at {c = class.MappingWord} (λ f s. refl) g w;
    }

-- the other units are printed as deep as they are
pub unit_is : {c : Class} {ts u v : List Tok} (unit : UnitTerm) → Still c → Cut ts u v → IsTok c u → PStrong (printed.unit unit) ts → UnitIs ts unit
unit_is {ts = ts} unit k g w h = record { wide = wide_of (slack (gets_block ts unit)) h; steady = steady_at k g w }

-- what stands before the units
still_direction : (d : Direction) → Still (words.direction_word d)
still_direction directions.Input = λ f s. refl
still_direction directions.Output = λ f s. refl
still_direction directions.Both = λ f s. refl

still_model_params : (ps : List ModelParam) → AllStill (pc (printed.model_params ps))
still_model_params [] = tt
still_model_params (p ∷ ps) = (still_direction p.direction, ((λ f s. refl), ((λ f s. refl), ((λ f s. refl), more ps)))) where
  more : (qs : List ModelParam) → AllStill (pc (printed.more_model_params qs))
  more [] = tt
  more (q ∷ qs) = ((λ f s. refl), (still_direction q.direction, ((λ f s. refl), ((λ f s. refl), ((λ f s. refl), more qs)))))

-- the brackets of a header, and its end
abbrev pub header_end : List ModelParam → List PrintPiece
header_end ps = print.in_round (printed.model_params ps) ++ print.one class.Semicolon

abbrev pub header_pieces : List ℕ × List ModelParam → List PrintPiece
header_pieces a = piece.Plain class.TransformationWord ∷ piece.Name a.0 ∷ header_end a.1

pub header_is : {ts u v x y z w : List Tok} (ps : List ModelParam) → Cut ts u v → IsTok class.OpenRound u → Cut v x y → Quiet x → Cut y z w → IsTok class.CloseRound z → IsTok class.Semicolon w → PStrong (header_end ps) ts
header_is ps e a f h g b c =
    strong_at (peel e (peel f g)) (in_brackets all_same a (as_over (quiet_of (printed.model_params ps) (still_model_params ps) h)) b) (pieces_of (print.one class.Semicolon) refl (quiet_tok {c = class.Semicolon} refl c))

pub bracketed_uri : {ts : List Tok} (n : List ℕ) → Between class.OpenRound Silent class.CloseRound ts n → PStrong [] ts
bracketed_uri n h = dropped (in_brackets {ps = []} h.3 h.4 (as_over (none_of h.5)) h.6)
