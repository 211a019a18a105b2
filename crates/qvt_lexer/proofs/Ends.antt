-- Ends of texts.
use Rattle.std.proofs.Common.{◌≡◌, ℕ, List, ◌++◌, sym, ap, ◌∙◌, append_assoc, Option, Some, None, IfSome}
use Rattle.qvt_lexer.specs.Ends.{IsEndOf}

-- the end of an end
pub end_of_end : (text rest more : List ℕ) → IsEndOf text rest → IsEndOf rest more → IsEndOf text more
end_of_end text rest more h k = (h.0 ++ k.0, h.1 ∙ ap (λ z. h.0 ++ z) k.1 ∙ sym (append_assoc h.0 k.0 more))

pub some_more : {A : Type 0} (P Q : A → Type 0) → ((x : A) → P x → Q x) → (r : Option A) → IfSome r P → IfSome r Q
some_more P Q k None h = tt
some_more P Q k (Some x) h = k x h

pub end_same : (text rest same : List ℕ) → same ≡ rest → IsEndOf text rest → IsEndOf text same
end_same text rest same e h = (h.0, h.1 ∙ ap (λ z. h.0 ++ z) (sym e))
