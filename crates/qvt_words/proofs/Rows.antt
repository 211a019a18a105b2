-- What all rows of the table have, what is looked up in it has.
use Rattle.std.proofs.Common.{◌≡◌, ℕ, List, [], ◌∷◌, Bool, true, false, cond, ◌||◌, ◌&&◌, refl, ap, ◌∙◌, Some, unwrap_or}
use Rattle.std.specs.Prelude.{is_some}
use Rattle.std.specs.List.{list_any, list_all}
use Rattle.std.specs.Str.{bytes_eq}
use Rattle.std.proofs.lemmas.Slice.Eq.{bytes_eq-Decides}
use Rattle.qvt_words.specs.declared.class.Class.{Class}
use Rattle.qvt_words.specs.declared.class.Class.TheVariants.{Name}
use Rattle.qvt_words.specs.Words.{spelling, words, single_signs, double_signs, found, word_of, is_reserved, is_single_sign, is_double_sign}

both : (a b : Bool) → (a && b) ≡ true → (a ≡ true) × (b ≡ true)
both true b h = (refl, h)
both false b h = absurd cc

-- a text that is spelled as one of the classes has what all their spellings have
module _ (good : List ℕ → Bool) where
  abbrev pub all_good : List Class → Bool
  all_good [] = true
  all_good (c ∷ cs) = good (spelling c) && all_good cs

  spelled : (cs : List Class) (u : List ℕ) → all_good cs ≡ true → list_any (λ c. bytes_eq u (spelling c)) cs ≡ true → good u ≡ true
  spelled [] u h k = absurd cc
  spelled (c ∷ cs) u h k = by (bytes_eq u (spelling c)) refl k (λ j. spelled cs u (both (good (spelling c)) (all_good cs) h).1 j) where
    by : (b : Bool) → bytes_eq u (spelling c) ≡ b → (b || list_any (λ c. bytes_eq u (spelling c)) cs) ≡ true → (list_any (λ c. bytes_eq u (spelling c)) cs ≡ true → good u ≡ true) → good u ≡ true
    by true e k more = ap good ((bytes_eq-Decides u (spelling c)).0 e) ∙ (both (good (spelling c)) (all_good cs) h).0
    by false e k more = more k

  pub of_single : (c : ℕ) → all_good single_signs ≡ true → is_single_sign c ≡ true → good (c ∷ []) ≡ true
  unfolding is_single_sign
  of_single c h k = spelled single_signs (c ∷ []) h k

  pub of_double : (c d : ℕ) → all_good double_signs ≡ true → is_double_sign c d ≡ true → good (c ∷ d ∷ []) ≡ true
  unfolding is_double_sign
  of_double c d h k = spelled double_signs (c ∷ d ∷ []) h k

-- the class that is found is one of the classes
found_is : (good : Class → Bool) (cs : List Class) (u : List ℕ) → list_all good cs ≡ true → is_some (found u cs) ≡ true → good (unwrap_or (found u cs) Name) ≡ true
found_is good [] u h k = absurd cc
found_is good (c ∷ cs) u h k = by (bytes_eq u (spelling c)) k (λ j. found_is good cs u (both (good c) (list_all good cs) h).1 j) where
  by : (b : Bool) → is_some (cond b (Some c) (found u cs)) ≡ true → (is_some (found u cs) ≡ true → good (unwrap_or (found u cs) Name) ≡ true) → good (unwrap_or (cond b (Some c) (found u cs)) Name) ≡ true
  by true k more = (both (good c) (list_all good cs) h).0
  by false k more = more k

pub of_word : (good : Class → Bool) (u : List ℕ) → list_all good words ≡ true → is_reserved u ≡ true → good (unwrap_or (word_of u) Name) ≡ true
unfolding is_reserved word_of
of_word good u h k = found_is good words u h k
