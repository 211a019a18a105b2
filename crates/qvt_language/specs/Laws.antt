-- The laws of a start symbol: at most one tree and at most one fault, and what its fronts are.
use Rattle.std.specs.Prelude.{◌≡◌, ◌++◌, List, [], ◌∷◌, ◌⊎◌, ◌↔◌}
use Rattle.qvt_language.specs.Tokens.{Tok}
use Rattle.qvt_language.specs.Same.{AllSimple}
use Rattle.qvt_language.specs.Module.{Start, ReadsFrom, FrontFrom, FaultFrom}

-- fronts are the beginnings of the lists that are read: each is completed by tokens that a text can say
pub record Beginnings {A : Type 0} (start : Start A) : Type 0 where
  pub begins : (ts v : List Tok) (a : A) → ReadsFrom start (ts ++ v) a → FrontFrom start ts
  pub completed : (ts : List Tok) → FrontFrom start ts → (v : List Tok) × (a : A) × ReadsFrom start (ts ++ v) a × AllSimple v

pub record AtMostOne {A : Type 0} (start : Start A) : Type 0 where
  pub one_tree : (ts : List Tok) (a b : A) → ReadsFrom start ts a → ReadsFrom start ts b → a ≡ b
  pub one_fault : (ts r s : List Tok) → FaultFrom start ts r → FaultFrom start ts s → r ≡ s

-- the tokens before the fault are a front, with the one at the fault they are none, and the list is not read
pub record IsFirstFault {A : Type 0} (start : Start A) (ts rest : List Tok) : Type 0 where
  pub before : List Tok
  pub cut : ts ≡ before ++ rest
  pub front : FrontFrom start before
  pub none : (t : Tok) (more : List Tok) → rest ≡ t ∷ more → FrontFrom start (before ++ t ∷ []) → ⊥
  pub unread : (a : A) → ReadsFrom start ts a → ⊥

pub record Faults {A : Type 0} (start : Start A) : Type 0 where
  -- a list is read, or has a fault
  pub some : (ts : List Tok) → ((a : A) × ReadsFrom start ts a) ⊎ ((rest : List Tok) × FaultFrom start ts rest)
  pub first : (ts rest : List Tok) → FaultFrom start ts rest ↔ IsFirstFault start ts rest
