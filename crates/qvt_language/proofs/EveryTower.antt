-- What is kept holds of the chains of operands, level by level.
use Rattle.std.specs.Prelude.{ℕ, zero, suc, List, [], ◌∷◌, ◌++◌}
use Rattle.std.proofs.Common.{◌≡◌, ◌<◌, arith, true, refl}
use Rattle.qvt_grammar.specs.Language.{Language}
use Rattle.qvt_language.specs.Tokens.{Tok, code_of}
use Rattle.qvt_words.specs.declared.class.Class.TheVariants.{Star, PlusSign, MinusSign, LessSign, AtMost, GreaterSign, AtLeast, EqualSign, DoubleEqual, Diamond, BangEqual, AndWord, OrWord, XorWord, ImpliesWord}
use Rattle.qvt_language.specs.Readers.{Reader}
use Rattle.qvt_language.specs.Firsts.{expr_first, expr_next, post_next}
use Rattle.qvt_language.specs.Levels.{next_at}
use Rattle.qvt_language.specs.Leads.{Lead, Plain, Bracketed, Each}
use Rattle.qvt_language.specs.Trees.{link_of, chain_of, nothing}
use Rattle.qvt_language.specs.Grammar.{NestedLanguages, level_of, operator, link, links, chain, flagged}
use Rattle.qvt_language.specs.Reading.{NestedAt, operator_at, operators, link_at, links_at, chain_at, flagged_at}
use Rattle.qvt_language.proofs.Sets.{all_in, none_in, within_both, within_right, none_in_nothing}
use Rattle.qvt_language.proofs.Every.{solid, loose, fits, Keeping, Valuing, Forms, Inside}
use Rattle.qvt_language.proofs.EveryExprs.{k_pre}

pub same_operators : (k : ℕ) → all_in (operators k) (operators k) ≡ true
same_operators zero = refl
same_operators (suc zero) = refl
same_operators (suc (suc zero)) = refl
same_operators (suc (suc (suc zero))) = refl
same_operators (suc (suc (suc (suc zero)))) = refl
same_operators (suc (suc (suc (suc (suc zero))))) = refl
same_operators (suc (suc (suc (suc (suc (suc zero)))))) = refl
same_operators (suc (suc (suc (suc (suc (suc (suc zero))))))) = refl
same_operators (suc (suc (suc (suc (suc (suc (suc (suc k)))))))) = refl

-- no operator of a level goes on with what has the operators of the tighter levels alone
pub apart_operators : (k : ℕ) → none_in (next_at k) (operators k) ≡ true
apart_operators zero = refl
apart_operators (suc zero) = refl
apart_operators (suc (suc zero)) = refl
apart_operators (suc (suc (suc zero))) = refl
apart_operators (suc (suc (suc (suc zero)))) = refl
apart_operators (suc (suc (suc (suc (suc zero))))) = refl
apart_operators (suc (suc (suc (suc (suc (suc zero)))))) = refl
apart_operators (suc (suc (suc (suc (suc (suc (suc zero))))))) = refl
apart_operators (suc (suc (suc (suc (suc (suc (suc (suc k)))))))) = none_in_nothing (next_at (suc (suc (suc (suc (suc (suc (suc (suc k)))))))))

module _ {K KB : Keeping} {KV : Valuing} (F : Forms K KB KV) where
  pub k_operator : (k : ℕ) → k < 8 → K _ (solid (operators k) []) (operator k) (operator k) (operator_at k)
  k_operator zero lt = F.token Star
  k_operator (suc zero) lt = F.wider (fits refl) (F.one_of (code_of PlusSign ∷ []) (F.token PlusSign) (F.token MinusSign) refl refl)
  k_operator (suc (suc zero)) lt = F.wider (fits refl) (F.one_of (code_of LessSign ∷ []) (F.token LessSign) (F.one_of (code_of AtMost ∷ []) (F.token AtMost) (F.one_of (code_of GreaterSign ∷ []) (F.token GreaterSign) (F.token AtLeast) refl refl) refl refl) refl refl)
  k_operator (suc (suc (suc zero))) lt = F.wider (fits refl) (F.one_of (code_of EqualSign ∷ []) (F.token EqualSign) (F.one_of (code_of DoubleEqual ∷ []) (F.token DoubleEqual) (F.one_of (code_of Diamond ∷ []) (F.token Diamond) (F.token BangEqual) refl refl) refl refl) refl refl)
  k_operator (suc (suc (suc (suc zero)))) lt = F.token AndWord
  k_operator (suc (suc (suc (suc (suc zero))))) lt = F.token OrWord
  k_operator (suc (suc (suc (suc (suc (suc zero)))))) lt = F.token XorWord
  k_operator (suc (suc (suc (suc (suc (suc (suc zero))))))) lt = F.token ImpliesWord
  k_operator (suc (suc (suc (suc (suc (suc (suc (suc k)))))))) lt = absurd (omega arith)

  -- what is kept of the operators of a level
  abbrev pub KeptAt : ℕ → Type 0
  KeptAt k = K Tok (solid (operators k) []) (operator k) (operator k) (operator_at k)

  module _ (k : ℕ) (o : KeptAt k) {l l2 : Language Tok Lead} {f : Reader Lead} (q : K Lead (solid expr_first (next_at k)) l l2 f) where
    pub k_link : K _ (solid (operators k) (next_at k)) (link k l) (link k l2) (link_at k f)
    unfolding link link_at
    k_link = F.gives link_of (F.both o q refl)

    pub k_links : (x : Lead) → K _ (loose (operators k) (operators k ++ next_at k)) (links k l x) (links k l2 x) (links_at k f x)
    k_links (Plain e target) = F.turns (operators k) (same_operators k) (apart_operators k) k_link
    k_links (Bracketed e) = F.turns (operators k) (same_operators k) (apart_operators k) k_link
    k_links (Each e part) = F.wider (fits refl) (F.gives nothing F.no_token)

  pub k_chain : (k : ℕ) → ((n : ℕ) → n < k → KeptAt n) → (first : List ℕ) {p p2 q q2 : Language Tok Lead} {f g : Reader Lead} → K _ (solid first post_next) p p2 f → K _ (solid expr_first post_next) q q2 g
      → K _ (solid first (next_at k)) (chain k p q) (chain k p2 q2) (chain_at k f g)
  unfolding chain chain_at
  k_chain zero o first hp hq = hp
  k_chain (suc k) o first hp hq =
      let lower : (n : ℕ) → n < k → KeptAt n = λ n lt. o n (omega (arith, lt)) in
      F.gives (chain_of (level_of k)) (F.at (F.wider {t = solid first (next_at (suc k))}
      (record { early = λ e. e; full = λ e. e; first = λ t q. q; next = within_both (next_at k) (next_at (suc k)) (next_at (suc k)) (within_right (operators k) (next_at k)) (λ t q. q) })
      (F.depending (k_chain k lower first hp hq) (k_links k (o k (omega arith)) (k_chain k lower expr_first hq hq)) (apart_operators k))))

pub k_flagged : {K KB : Keeping} {KV : Valuing} {F : Forms K KB KV} {i j : NestedLanguages} {r : NestedAt} → Inside F i j r → K _ (solid expr_first expr_next) (flagged i) (flagged j) (flagged_at r)
unfolding flagged flagged_at
k_flagged {F = F} h = F.wider (fits refl) (k_chain F 8 (k_operator F) expr_first (k_pre h) (k_pre h))
