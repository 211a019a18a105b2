-- One more item at the end of a list of which each is kept where it first stands.
use Rattle.std.proofs.Common.{◌≡◌, ◌∙◌, true, false, cond, sym, ap, List, [], ◌∷◌, ◌++◌}
use Rattle.qvt_value.specs.declared.value.Value.{Value}
use Rattle.qvt_value.specs.Kept.{firsts}
use Rattle.qvt_value.specs.Order.{order_of}
use Rattle.qvt_ocl_words.specs.Lists.{has}
use Rattle.qvt_ocl_lists.proofs.Joined.{firsts_more}

-- where nothing stands twice, it is put last unless it stands there
pub stays : (xs : List Value) (x : Value) → firsts order_of xs ≡ xs → has xs x ≡ true → xs ≡ firsts order_of (xs ++ x ∷ [])
stays xs x h e = sym (firsts_more xs x ∙ ap (λ b. cond b (firsts order_of xs) (firsts order_of xs ++ x ∷ [])) e ∙ h)

pub joins : (xs all : List Value) (x : Value) → firsts order_of xs ≡ xs → has xs x ≡ false → all ≡ xs ++ x ∷ [] → all ≡ firsts order_of (xs ++ x ∷ [])
joins xs all x h e a = a ∙ ap (λ ys. ys ++ x ∷ []) (sym h) ∙ sym (firsts_more xs x ∙ ap (λ b. cond b (firsts order_of xs) (firsts order_of xs ++ x ∷ [])) e)
