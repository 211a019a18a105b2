-- The refusal that is told of several.
use Rattle.std.specs.Prelude.{◌≡◌, List, [], ◌∷◌, ◌++◌, IsTrue, IsFalse, Some, None}
use Rattle.std.specs.List.{AllByRecursion}
use Rattle.qvt_types_data.specs.declared.refusal.TypingRefusal.{TypingRefusal}
use Rattle.qvt_types_context.specs.Accepts.{comes_before, least}

-- the refusal is among these, none of these comes before it, and it comes before each that stands to its left
pub record IsLeast (rs : List TypingRefusal) (r : TypingRefusal) : Type 0 where
  pub left : List TypingRefusal
  pub right : List TypingRefusal
  pub listed : rs ≡ left ++ r ∷ right
  pub least : AllByRecursion (λ s. IsFalse (comes_before s r)) rs
  pub leftmost : AllByRecursion (λ s. IsTrue (comes_before r s)) left

-- what `least` gives, in words
abbrev pub LeastIsLeast : Type 0
LeastIsLeast = (rs : List TypingRefusal) (r : TypingRefusal) → least rs ≡ Some r → IsLeast rs r

-- and it gives nothing of no refusals alone
abbrev pub NoneOfNone : Type 0
NoneOfNone = (rs : List TypingRefusal) → least rs ≡ None → rs ≡ []
