-- The forms of expressions that are read: what the printing of each part needs.
use Rattle.std.proofs.Common.{◌≡◌, ℕ, zero, suc, ◌+◌, ◌≤◌, ◌<◌, List, ◌∷◌, Bool, true, false, refl, Option, arith, leb-false}
use borrow.Author.Tests.{lt-leb}
use Rattle.qvt_tree_types.specs.Tree.{ExprTerm, LinkTerm, LinkTerms, StepTerm, StepTerms, TargetTerm, IfExpr, ChainExpr, PrefixExpr, PostExpr, MoreLinks, MoreSteps}
use Rattle.qvt_tree_types.specs.View.{links_of, steps_of}
use Rattle.qvt_tree_types.specs.declared.words.Level.{Level}
use Rattle.qvt_tree_types.specs.declared.words.Level.TheVariants as levels
use Rattle.qvt_tree_types.specs.declared.words.Sign.{Sign}
use Rattle.qvt_tree.specs.Shape.{erase_expr, erase_links, erase_steps}
use Rattle.qvt_grammar.specs.Language.{turns}
use Rattle.qvt_language.specs.Leads.{Plain}
use Rattle.qvt_language.specs.Grammar.{NestedLanguages, bare_expr, if_expr, step, pre, link, chain, level_of}
use Rattle.qvt_printer.specs.Expressions as print
use Rattle.qvt_printer.specs.Levels.{tightness, is_as_loose, is_chain, is_chain_or_prefix}
use Rattle.qvt_readback_tokens.specs.Spelled.{all_spelled}

-- the number of a level
abbrev pub index_of : Level → ℕ
index_of levels.Product = 0
index_of levels.Sum = 1
index_of levels.Relation = 2
index_of levels.Equality = 3
index_of levels.And = 4
index_of levels.Or = 5
index_of levels.Xor = 6
index_of levels.Implies = 7

pub level_back : (l : Level) → level_of (index_of l) ≡ l
level_back levels.Product = refl
level_back _ = refl

pub index_back : (k : ℕ) → k < 8 → index_of (level_of k) ≡ k
index_back zero lt = refl
index_back (suc zero) lt = refl
index_back (suc (suc zero)) lt = refl
index_back (suc (suc (suc zero))) lt = refl
index_back (suc (suc (suc (suc zero)))) lt = refl
index_back (suc (suc (suc (suc (suc zero))))) lt = refl
index_back (suc (suc (suc (suc (suc (suc zero)))))) lt = refl
index_back (suc (suc (suc (suc (suc (suc (suc zero))))))) lt = refl
index_back (suc (suc (suc (suc (suc (suc (suc (suc k)))))))) lt = absurd (omega arith)

index_tight : (l : Level) → tightness l + index_of l ≡ 7
index_tight levels.Product = refl
index_tight _ = refl

pub index_low : (l : Level) → index_of l < 8
index_low l = omega (arith, index_tight l)

-- the chains from this number on read the printed expression without brackets
abbrev pub rank : ExprTerm → ℕ
rank (ChainExpr level first rest place) = suc (index_of level)
rank e = 0

-- an operand of a tighter chain, or of none, is not as loose
pub tight_operand : (l : Level) (e : ExprTerm) → rank e ≤ index_of l → is_as_loose l e ≡ false
tight_operand l (ChainExpr k first rest place) le = lt-leb (tightness k) (tightness l) (omega (arith, le, index_tight l, index_tight k))
tight_operand l _ le = refl

pub operand_tight : (l : Level) (e : ExprTerm) → is_as_loose l e ≡ false → rank e ≤ index_of l
operand_tight l (ChainExpr k first rest place) q = omega (arith, leb-false (tightness k) (tightness l) q, index_tight l, index_tight k)
operand_tight l _ q = omega arith

abbrev pub is_post : ExprTerm → Bool
is_post (PostExpr first steps place) = true
is_post e = false

abbrev pub is_prefix : ExprTerm → Bool
is_prefix (PrefixExpr signs e place) = true
is_prefix e = false

-- none of a chain, a prefix and a post
abbrev pub is_primary : ExprTerm → Bool
is_primary (ChainExpr level first rest place) = false
is_primary (PrefixExpr signs e place) = false
is_primary (PostExpr first steps place) = false
is_primary e = true

-- a primary that is no conditional
abbrev pub is_basic : ExprTerm → Bool
is_basic (ChainExpr level first rest place) = false
is_basic (PrefixExpr signs e place) = false
is_basic (PostExpr first steps place) = false
is_basic (IfExpr condition one_value other place) = false
is_basic e = true

-- the printed expression is read inside brackets
abbrev pub Bracket : NestedLanguages → ExprTerm → Type 0
Bracket i e = (t : Option TargetTerm) × i.flagged.reads (all_spelled (print.expr e)) (Plain (erase_expr e) t)

abbrev pub NeedsBracket : NestedLanguages → Bool → ExprTerm → Type 0
NeedsBracket i b e = b ≡ true → Bracket i e

abbrev pub LinksForm : NestedLanguages → Level → LinkTerms → Type 0
LinksForm i level rest =
    (l : LinkTerm) × (more : List LinkTerm) × (MoreLinks l (links_of more) ≡ erase_links rest)
    × turns (link (index_of level) (chain (index_of level) (pre i) (pre i))) (all_spelled (print.links level rest)) (l ∷ more)

abbrev pub StepsForm : NestedLanguages → StepTerms → Type 0
StepsForm i ss =
    (s : StepTerm) × (more : List StepTerm) × (MoreSteps s (steps_of more) ≡ erase_steps ss) × turns (step i) (all_spelled (print.steps ss)) (s ∷ more)

abbrev pub SignsForm : List Sign → Type 0
SignsForm signs = (s : Sign) × (more : List Sign) × (signs ≡ s ∷ more)

abbrev pub Form : NestedLanguages → ExprTerm → Type 0
Form i (IfExpr condition one_value other place) = (if_expr i).reads (all_spelled (print.expr (IfExpr condition one_value other place))) (erase_expr (IfExpr condition one_value other place))
Form i (ChainExpr level first rest place) = Form i first × NeedsBracket i (is_as_loose level first) first × LinksForm i level rest
Form i (PrefixExpr signs e place) = Form i e × NeedsBracket i (is_chain e) e × (is_prefix e ≡ false) × SignsForm signs
Form i (PostExpr first steps place) = Form i first × NeedsBracket i (is_chain_or_prefix first) first × (is_post first ≡ false) × StepsForm i steps
Form i e = (bare_expr i).reads (all_spelled (print.expr e)) (erase_expr e)

pub basic_form : (i : NestedLanguages) (e : ExprTerm) → is_basic e ≡ true → (bare_expr i).reads (all_spelled (print.expr e)) (erase_expr e) → Form i e
basic_form i (IfExpr condition one_value other place) b rd = absurd cc
basic_form i (ChainExpr level first rest place) b rd = absurd cc
basic_form i (PrefixExpr signs e place) b rd = absurd cc
basic_form i (PostExpr first steps place) b rd = absurd cc
basic_form i _ b rd = rd
