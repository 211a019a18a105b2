-- The work of a command as steps that may read files. Each gives a value, or ends the whole with an outcome, and tells the names that
-- it reads, in order.
use Rattle.std.specs.Prelude.{ℕ, List, [], ◌∷◌, ◌++◌, Result, Ok, Err}
use Rattle.qvt_base.specs.Outside.{Held, Look, found, missing, too_large, look}
use Rattle.qvt_outcome.specs.Outcome.{Outcome, refused}
use Rattle.qvt_outcome.specs.declared.refusal.Refusal.TheVariants as refusal

pub record FileReading (A : Type 0) : Type 0 where
  pub answer : Result A Outcome
  pub names : List (List ℕ)

abbrev pub reading : {A : Type 0} → Result A Outcome → List (List ℕ) → FileReading A
reading answer names = record { answer = answer; names = names }

-- over the bytes that the files hold
abbrev pub Chain : Type 0 → Type 0
Chain A = Held → FileReading A

-- a step that reads nothing
abbrev pub step : {A : Type 0} → Result A Outcome → Chain A
step answer = λ held. reading answer []

-- what follows a value; an end stays
abbrev pub on_ok : {A B : Type 0} → Result A Outcome → (A → FileReading B) → FileReading B
on_ok (Ok x) f = f x
on_ok (Err o) f = reading (Err o) []

-- more names, read before
abbrev pub behind : {A : Type 0} → List (List ℕ) → FileReading A → FileReading A
behind names r = reading r.answer (names ++ r.names)

-- one chain, then another over its value
infixl 10 ◌>=>◌
abbrev pub ◌>=>◌ : {A B : Type 0} → Chain A → (A → Chain B) → Chain B
c >=> f = λ held. behind (c held).names (on_ok (c held).answer (λ x. f x held))

-- a chain for each item in order, over what the chains before it gave
unfoldable pub folded : {A B : Type 0} → (B → A → Chain B) → B → List A → Chain B
folded f b [] = step (Ok b)
folded f b (x ∷ xs) = f b x >=> (λ c. folded f c xs)

-- a file's bytes, or its refusal
abbrev pub read_of : List ℕ → Look → Result (List ℕ) Outcome
read_of name (found bytes) = Ok bytes
read_of name missing = Err (refused name refusal.Missing)
read_of name too_large = Err (refused name refusal.TooLarge)

-- reads a file within its limit
unfoldable pub read_step : List ℕ → ℕ → Chain (List ℕ)
read_step name limit = λ held. reading (read_of name (look held name limit)) (name ∷ [])
