-- A text is divided in one way only, and a place where no piece begins has one fault.
use Rattle.std.specs.Prelude.{◌≡◌, ℕ, List}
use Rattle.qvt_lexer.specs.Pieces.{NoPiece, IsLexFaultOf}
use Rattle.qvt_lexer.specs.Division.{Written, Divides}
use Rattle.qvt_lexer.specs.declared.token.LexKind.{LexKind}

-- two divisions of a text, each up to where no piece begins, are the same
abbrev pub OneDivision : Type 0
OneDivision = (text : List ℕ) (ps qs : List Written) (r s : List ℕ) → Divides text ps r → NoPiece r → Divides text qs s → NoPiece s → (ps ≡ qs) × (r ≡ s)

-- two faults of a text are the same
abbrev pub OneFault : Type 0
OneFault = (text : List ℕ) (k j : LexKind) (r s : List ℕ) → IsLexFaultOf text k r → IsLexFaultOf text j s → (k ≡ j) × (r ≡ s)
