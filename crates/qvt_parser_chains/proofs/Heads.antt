-- A name may begin a head, and no other expression does.
use Rattle.std.proofs.Common.{◌≡◌, ◌∙◌, List, true, false, Option, Some, None, Ok, unwrap_or, refl, ap, sym, cond}
use Rattle.qvt_results.specs.Bind.{◌>>=◌}
use Rattle.qvt_grammar.specs.Reader.{made_at, starts}
use Rattle.qvt_tree_types.specs.Parts.{path_in}
use Rattle.qvt_tree_types.specs.Tree.{TypeTerm, AccumulatorTerm, ExprTerm, BareTarget, ResultTarget, MemberTarget}
use Rattle.qvt_tree_types.specs.Tree.{IntExpr, StrExpr, BoolExpr, NullExpr, SelfExpr, ResultExpr, PathExpr, CallExpr, CollExpr, IfExpr, ObjectExpr, NewExpr, MapExpr, ResolveExpr, ChainExpr, PrefixExpr, PostExpr}
use Rattle.qvt_tree_types.specs.declared.types.PathTree.{PathTree}
use Rattle.qvt_language.specs.Firsts.{head_first}
use Rattle.qvt_language.specs.declared.named.Named.{Named}
use Rattle.qvt_language.specs.Leads.{Lead, Plain, Bracketed, Each}
use Rattle.qvt_language.specs.Reading.{NestedAt, after_first_at, head_rest_at, more_exprs_at}
use Rattle.qvt_language.specs.Tokens.{Tok, of}
use Rattle.qvt_language.specs.Trees.{bare_target, expr_of, headed, is_there, with_first}
use Rattle.qvt_parser_chains.specs.Heads.{name_in}

pub after_headless : (r : NestedAt) (ts : List Tok) (x : Lead) (e : ExprTerm) → e ≡ expr_of x → is_there (name_in x) ≡ false → after_first_at r x ts ≡ made_at (with_first e) (more_exprs_at r) ts
after_headless r ts (Plain c None) e is h = ap (λ z. made_at (with_first z) (more_exprs_at r) ts) (sym is)
after_headless r ts (Plain c (Some (BareTarget text place))) e is h = absurd cc
after_headless r ts (Plain c (Some (ResultTarget place))) e is h = ap (λ z. made_at (with_first z) (more_exprs_at r) ts) (sym is)
after_headless r ts (Plain c (Some (MemberTarget object name place))) e is h = ap (λ z. made_at (with_first z) (more_exprs_at r) ts) (sym is)
after_headless r ts (Bracketed c) e is h = ap (λ z. made_at (with_first z) (more_exprs_at r) ts) (sym is)
after_headless r ts (Each c part) e is h = ap (λ z. made_at (with_first z) (more_exprs_at r) ts) (sym is)

pub after_name : (r : NestedAt) (ts s : List Tok) (x : Lead) (n : Named) (rest : Option TypeTerm × (Option AccumulatorTerm × ExprTerm)) → name_in x ≡ Some n → starts (of head_first) ts ≡ true
    → head_rest_at r ts ≡ Ok (rest, s) → after_first_at r x ts ≡ Ok (headed n.text n.place rest, s)
after_name r ts s (Plain c None) n rest is h e = absurd cc
after_name r ts s (Plain c (Some (BareTarget text place))) n rest is h e =
    let same : record { text = text; place = place } ≡ n = ap (λ (o : Option Named). elim o [ None ↦ record { text = text; place = place } | Some m ↦ m ]) is in
    ap (λ b. cond b (made_at (headed text place) (head_rest_at r) ts) (made_at (with_first c) (more_exprs_at r) ts)) h
    ∙ ap (λ y. y >>= λ (a, q). Ok (headed text place a, q)) e
    ∙ ap (λ (m : Named). Ok (headed m.text m.place rest, s)) same
after_name r ts s (Plain c (Some (ResultTarget place))) n rest is h e = absurd cc
after_name r ts s (Plain c (Some (MemberTarget object name place))) n rest is h e = absurd cc
after_name r ts s (Bracketed c) n rest is h e = absurd cc
after_name r ts s (Each c part) n rest is h e = absurd cc

-- a path of one name is told by its name, and no other expression is
pub named_path : (e : ExprTerm) (path : PathTree) → path_in e ≡ Some path → name_in (Plain e (bare_target e)) ≡ name_in (Plain (PathExpr path) (bare_target (PathExpr path)))
named_path (PathExpr p) path h = ap (λ o. name_in (Plain (PathExpr (unwrap_or o p)) (bare_target (PathExpr (unwrap_or o p))))) h
named_path (ResultExpr p) path h = absurd cc
named_path (IntExpr n p) path h = absurd cc
named_path (StrExpr t p) path h = absurd cc
named_path (BoolExpr b p) path h = absurd cc
named_path (NullExpr p) path h = absurd cc
named_path (SelfExpr p) path h = absurd cc
named_path (CallExpr name es p) path h = absurd cc
named_path (CollExpr k es p) path h = absurd cc
named_path (IfExpr c a b p) path h = absurd cc
named_path (ObjectExpr v q x body p) path h = absurd cc
named_path (NewExpr q x es p) path h = absurd cc
named_path (MapExpr m) path h = absurd cc
named_path (ResolveExpr r) path h = absurd cc
named_path (ChainExpr l e ls p) path h = absurd cc
named_path (PrefixExpr signs e p) path h = absurd cc
named_path (PostExpr e old p) path h = absurd cc

pub no_name : (e : ExprTerm) → path_in e ≡ None → name_in (Plain e (bare_target e)) ≡ None
no_name (PathExpr p) h = absurd cc
no_name (ResultExpr p) h = refl
no_name (IntExpr n p) h = refl
no_name (StrExpr t p) h = refl
no_name (BoolExpr b p) h = refl
no_name (NullExpr p) h = refl
no_name (SelfExpr p) h = refl
no_name (CallExpr name es p) h = refl
no_name (CollExpr k es p) h = refl
no_name (IfExpr c a b p) h = refl
no_name (ObjectExpr v path x body p) h = refl
no_name (NewExpr path x es p) h = refl
no_name (MapExpr m) h = refl
no_name (ResolveExpr r) h = refl
no_name (ChainExpr l e ls p) h = refl
no_name (PrefixExpr signs e p) h = refl
no_name (PostExpr e old p) h = refl
