-- Chains of operands: the rows of the levels, and the parser's one chain with what its expressions are besides.
use Rattle.std.proofs.Common.{◌≡◌, ℕ, zero, suc, List, [], ◌∷◌, ◌++◌, refl, sym, ap, ◌∙◌, subst, append-nil, Option, Some, None}
use Rattle.qvt_base.specs.declared.numbers.Place.{Place}
use Rattle.qvt_grammar.specs.Language.{Language, head_of}
use Rattle.qvt_grammar.specs.Language as language
use Rattle.qvt_tree_types.specs.Tree.{ExprTerm, ChainExpr, LinkTerm, LinkOf, TargetTerm}
use Rattle.qvt_tree_types.specs.View.{links_of}
use Rattle.qvt_tree_types.specs.declared.words.Level.{Level}
use Rattle.qvt_language.specs.Tokens.{Tok}
use Rattle.qvt_language.specs.Readers.{nowhere}
use Rattle.qvt_language.specs.Leads.{Lead, Plain, Bracketed, Each, EachPart}
use Rattle.qvt_language.specs.Trees.{expr_of, chain_of, binary_op}
use Rattle.qvt_language.specs.StmtTrees.{IsPlainLead}
use Rattle.qvt_language.specs.Grammar.{level_of, operator, link, links, chain as chain_production}
use Rattle.qvt_language_rows.specs.Phrase.{Phrase, ◌gives◌, ◌then◌, nothing, many}
use Rattle.qvt_language_rows.specs.Values.{linked, chained}
use Rattle.qvt_language_rows.specs.Rows.{chain}

-- what an expression of the parser is: one of a row, and where it is a target one of another; or the source and the rest of a
-- `forEach`
abbrev pub Means : Phrase TargetTerm → Phrase (ExprTerm × EachPart) → Phrase ExprTerm → List Tok → Lead → Type 0
Means T F P ts (Plain e None) = P ts e
Means T F P ts (Plain e (Some t)) = P ts e × T ts t
Means T F P ts (Bracketed e) = P ts e
Means T F P ts (Each e part) = F ts (e, part)

module _ (T : Phrase TargetTerm) where
  pub means_plain : (F : Phrase (ExprTerm × EachPart)) (P : Phrase ExprTerm) (ts : List Tok) (e : ExprTerm) (o : Option TargetTerm) → P ts e → ((t : TargetTerm) → o ≡ Some t → T ts t) → Means T F P ts (Plain e o)
  means_plain F P ts e None rd k = rd
  means_plain F P ts e (Some t) rd k = (rd, k t refl)

  pub plain_of : (F : Phrase (ExprTerm × EachPart)) (P : Phrase ExprTerm) (ts : List Tok) (x : Lead) → IsPlainLead x → Means T F P ts x → P ts (expr_of x)
  plain_of F P ts (Plain e None) p m = m
  plain_of F P ts (Plain e (Some t)) p m = m.0
  plain_of F P ts (Bracketed e) p m = m
  plain_of F P ts (Each e part) p m = absurd p

  -- where no `forEach` is
  pub never_each : (P : Phrase ExprTerm) (ts : List Tok) (x : Lead) → Means T nothing P ts x → P ts (expr_of x)
  never_each P ts (Plain e None) m = m
  never_each P ts (Plain e (Some t)) m = m.0
  never_each P ts (Bracketed e) m = m
  never_each P ts (Each e part) m = absurd m

  pub means_more : (F : Phrase (ExprTerm × EachPart)) (P Q : Phrase ExprTerm) → ((ts : List Tok) (e : ExprTerm) → P ts e → Q ts e) → (ts : List Tok) (x : Lead) → Means T F P ts x → Means T F Q ts x
  means_more F P Q k ts (Plain e None) m = k ts e m
  means_more F P Q k ts (Plain e (Some t)) m = (k ts e m.0, m.1)
  means_more F P Q k ts (Bracketed e) m = k ts e m
  means_more F P Q k ts (Each e part) m = m

-- one operand alone is a chain
pub alone : (level : Level) (sign : Phrase Tok) (P : Phrase ExprTerm) (ts : List Tok) (e : ExprTerm) → P ts e → chain level sign P ts e
alone level sign P ts e rd = ((head_of (λ t. t.place) nowhere ts, (e, [])), ((ts, [], sym (append-nil ts), rd, refl), refl), refl)

first_alone : (ts u v : List Tok) → ts ≡ u ++ v → v ≡ [] → u ≡ ts
first_alone ts u v e n = sym (e ∙ ap (λ z. u ++ z) n ∙ append-nil u)

-- from the parser's chain
module _ (T : Phrase TargetTerm) (F : Phrase (ExprTerm × EachPart)) (P : Phrase ExprTerm) (k : ℕ) (p q : Language Tok Lead)
    (first : (ts : List Tok) (x : Lead) → (chain_production k p q).reads ts x → Means T F P ts x)
    (other : (ts : List Tok) (x : Lead) → (chain_production k q q).reads ts x → Means T nothing P ts x) where
  abbrev Chain : Phrase ExprTerm
  Chain = chain (level_of k) (operator k).reads P

  links_to : (ls : List LinkTerm) (ts : List Tok) → language.turns (link k (chain_production k q q)) ts ls → many ((operator k).reads then P gives linked) ts ls
  unfolding link
  links_to [] ts rd = rd
  links_to (l ∷ ls) ts (u, v, e, (x, (a, b, e1, sign, operand), d), more) =
      (u, v, e, ((x.0, expr_of x.1), (a, b, e1, sign, never_each T P b x.1 (other b x.1 operand)), d), links_to ls v more)

  abbrev chain_with : (ts u v : List Tok) (place : Place) (e : ExprTerm) (ls : List LinkTerm) → ts ≡ u ++ v → place ≡ head_of (λ t. t.place) nowhere ts → P u e → language.turns (link k (chain_production k q q)) v ls → Chain ts (chained (level_of k) (place, (e, ls)))
  chain_with ts u v place e ls cut at rd more = ((place, (e, ls)), ((u, v, cut, rd, links_to ls v more), at), refl)

  step_means : (ts u v : List Tok) (place : Place) (z : Lead) (ls : List LinkTerm) → ts ≡ u ++ v → place ≡ head_of (λ t. t.place) nowhere ts → Means T F P u z → (links k (chain_production k q q) z).reads v ls → Means T F Chain ts (chain_of (level_of k) (place, (z, ls)))
  step_means ts u v place (Plain e o) [] cut at m rd = subst (λ s. Means T F Chain s (Plain e o)) (first_alone ts u v cut rd) (means_more T F P Chain (alone (level_of k) (operator k).reads P) u (Plain e o) m)
  step_means ts u v place (Bracketed e) [] cut at m rd = subst (λ s. Means T F Chain s (Bracketed e)) (first_alone ts u v cut rd) (means_more T F P Chain (alone (level_of k) (operator k).reads P) u (Bracketed e) m)
  step_means ts u v place (Each e part) [] cut at m rd = subst (λ s. F s (e, part)) (first_alone ts u v cut rd.1) m
  step_means ts u v place (Plain e o) (l ∷ ls) cut at m rd = chain_with ts u v place e (l ∷ ls) cut at (plain_of T F P u (Plain e o) tt m) rd
  step_means ts u v place (Bracketed e) (l ∷ ls) cut at m rd = chain_with ts u v place e (l ∷ ls) cut at m rd
  step_means ts u v place (Each e part) (l ∷ ls) cut at m rd = absurd (let d = rd.2 in cc)

  pub chain_to : (ts : List Tok) (x : Lead) → (chain_production (suc k) p q).reads ts x → Means T F Chain ts x
  unfolding chain_production
  chain_to ts x (y, ((u, v, e, rd, more), at), d) = subst (λ z. Means T F Chain ts z) (sym d) (step_means ts u v y.0 y.1.0 y.1.1 e at (first u y.1.0 rd) more)

-- an expression of the parser that this one is
abbrev pub HasLead : Language Tok Lead → List Tok → ExprTerm → Type 0
HasLead l ts e = (x : Lead) × l.reads ts x × (e ≡ expr_of x) × IsPlainLead x

-- to the parser's chain; G tells which lists the first operand may begin
module _ (G : List Tok → Type 0) (parts : (u v : List Tok) → G (u ++ v) → G u) (P : Phrase ExprTerm) (k : ℕ) (p q : Language Tok Lead)
    (first : (ts : List Tok) (e : ExprTerm) → G ts → P ts e → HasLead (chain_production k p q) ts e)
    (other : (ts : List Tok) (e : ExprTerm) → P ts e → HasLead (chain_production k q q) ts e) where
  links_of_rows : (ls : List LinkTerm) (ts : List Tok) → many ((operator k).reads then P gives linked) ts ls → language.turns (link k (chain_production k q q)) ts ls
  unfolding link
  links_of_rows [] ts rd = rd
  links_of_rows (l ∷ ls) ts (u, v, e, (x, (a, b, e1, sign, operand), d), more) =
      let w = other b x.1 operand in
      (u, v, e, ((x.0, w.0), (a, b, e1, sign, w.1), d ∙ ap (λ z. LinkOf (binary_op x.0.class) z x.0.place) w.2), links_of_rows ls v more)

  all_links : (z : Lead) (ls : List LinkTerm) (v : List Tok) → IsPlainLead z → language.turns (link k (chain_production k q q)) v ls → (links k (chain_production k q q) z).reads v ls
  all_links (Plain e o) ls v is rd = rd
  all_links (Bracketed e) ls v is rd = rd
  all_links (Each e part) ls v is rd = absurd is

  chain_expr : (place : Place) (z : Lead) (ls : List LinkTerm) (e : ExprTerm) → e ≡ expr_of z → chained (level_of k) (place, (e, ls)) ≡ expr_of (chain_of (level_of k) (place, (z, ls)))
  chain_expr place z [] e d = d
  chain_expr place z (l ∷ ls) e d = ap (λ y. ChainExpr (level_of k) y (links_of (l ∷ ls)) place) d

  chain_plain : (place : Place) (z : Lead) (ls : List LinkTerm) → IsPlainLead z → IsPlainLead (chain_of (level_of k) (place, (z, ls)))
  chain_plain place z [] is = is
  chain_plain place z (l ∷ ls) is = tt

  pub chain_row_of : (ts : List Tok) (e : ExprTerm) → G ts → chain (level_of k) (operator k).reads P ts e → HasLead (chain_production (suc k) p q) ts e
  unfolding chain_production
  chain_row_of ts e g (y, ((u, v, cut, rd, more), at), d) =
      let w = first u y.1.0 (parts u v (subst G cut g)) rd in
      (chain_of (level_of k) (y.0, (w.0, y.1.1)), ((y.0, (w.0, y.1.1)), ((u, v, cut, w.1, all_links w.0 y.1.1 v w.3 (links_of_rows y.1.1 v more)), at), refl), d ∙ chain_expr y.0 w.0 y.1.1 y.1.0 w.2, chain_plain y.0 w.0 y.1.1 w.3)

-- an operand alone is a chain of each level
module _ (p q : Language Tok Lead) where
  no_links : (k : ℕ) (x : Lead) → (links k q x).reads [] []
  no_links k (Plain e o) = refl
  no_links k (Bracketed e) = refl
  no_links k (Each e part) = (tt, refl, refl)

pub raise : (p q : Language Tok Lead) (k : ℕ) (ts : List Tok) (x : Lead) → p.reads ts x → (chain_production k p q).reads ts x
unfolding chain_production
raise p q zero ts x rd = rd
raise p q (suc k) ts x rd = ((head_of (λ t. t.place) nowhere ts, (x, [])), ((ts, [], sym (append-nil ts), raise p q k ts x rd, no_links p (chain_production k q q) k x), refl), refl)
