-- Start symbols: a transformation, and one of its units.
use Rattle.std.proofs.Common.{◌≡◌, ℕ, ◌≤◌, List, [], ◌∷◌, length, true, false, Ok, Err}
use Rattle.qvt_grammar.specs.Reader.{At}
use Rattle.qvt_tree_types.specs.Module.{ModuleTerm}
use Rattle.qvt_language.specs.Tokens.{Tok, is_nil}
use Rattle.qvt_language.specs.Firsts.{unit_first}
use Rattle.qvt_language.specs.Nesting.{nested_at}
use Rattle.qvt_language.specs.Units.{transformation, unit}
use Rattle.qvt_language.specs.ReadingUnits.{transformation_at, unit_at}
use Rattle.qvt_language.specs.Module.{ReadsModule, IsFault}
use Rattle.qvt_language.proofs.EveryUnits.{k_transformation, k_unit}
use Rattle.qvt_language.proofs.Starts as starts
use Rattle.qvt_language.proofs.Starts.{IsStart, at_most_one}

pub whole : IsStart (60 ∷ 80 ∷ []) unit_first transformation transformation_at
whole = record { good = λ n i j r h. k_transformation h; live = λ i j r h. k_transformation h }

pub part : IsStart (32 ∷ 41 ∷ 49 ∷ 56 ∷ 58 ∷ 69 ∷ []) [] unit unit_at
part = record { good = λ n i j r h. k_unit h; live = λ i j r h. k_unit h }

pub answer_reads : (n : ℕ) (ts : List Tok) → length ts ≤ n → (m : ModuleTerm) (r : List Tok) → transformation_at (nested_at n) ts ≡ Ok (m, r) → is_nil r ≡ true → ReadsModule ts m
answer_reads = starts.answer_reads whole

pub answer_only : (n : ℕ) (ts : List Tok) → length ts ≤ n → (m : ModuleTerm) (r : List Tok) → transformation_at (nested_at n) ts ≡ Ok (m, r) → is_nil r ≡ true → (other : ModuleTerm) → ReadsModule ts other → other ≡ m
answer_only = starts.answer_only whole

pub answer_rest : (n : ℕ) (ts : List Tok) → length ts ≤ n → (m : ModuleTerm) (r : List Tok) → transformation_at (nested_at n) ts ≡ Ok (m, r) → is_nil r ≡ false → IsFault ts r
answer_rest = starts.answer_rest whole

pub answer_fault : (n : ℕ) (ts : List Tok) → length ts ≤ n → (r : List Tok) → transformation_at (nested_at n) ts ≡ Err (At r) → IsFault ts r
answer_fault = starts.answer_fault whole

pub one_tree : (ts : List Tok) (m n : ModuleTerm) → ReadsModule ts m → ReadsModule ts n → m ≡ n
one_tree = (at_most_one whole).one_tree

pub one_fault : (ts r s : List Tok) → IsFault ts r → IsFault ts s → r ≡ s
one_fault = (at_most_one whole).one_fault
