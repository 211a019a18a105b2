-- What the reader's answers say of the language.
use Rattle.std.proofs.Common.{◌≡◌, ℕ, ◌≤◌, List, length, true, false, Ok, Err}
use Rattle.qvt_grammar.specs.Reader.{At}
use Rattle.qvt_tree_types.specs.Module.{ModuleTerm}
use Rattle.qvt_language.specs.Tokens.{Tok}
use Rattle.qvt_language.specs.Tokens.{is_nil}
use Rattle.qvt_language.specs.Nesting.{nested_at}
use Rattle.qvt_language.specs.ReadingUnits.{transformation_at}
use Rattle.qvt_language.specs.Module as grammar
use Rattle.qvt_language.proofs.Whole as productions
use Rattle.qvt_language_rows.specs.Language.{Reads, BeginTransformation, HaveFirstFault}
use Rattle.qvt_language_rows.proofs.Whole.{whole}

pub to_rows : (ts : List Tok) (m : ModuleTerm) → grammar.ReadsModule ts m → Reads ts m
to_rows ts m = (whole.read ts m).1

pub of_rows : (ts : List Tok) (m : ModuleTerm) → Reads ts m → grammar.ReadsModule ts m
of_rows ts m = (whole.read ts m).0

pub front_to_rows : (ts : List Tok) → grammar.IsFront ts → BeginTransformation ts
front_to_rows ts = (whole.begun ts).1

pub front_of_rows : (ts : List Tok) → BeginTransformation ts → grammar.IsFront ts
front_of_rows ts = (whole.begun ts).0

fault_to_rows : (ts rest : List Tok) → grammar.IsFault ts rest → HaveFirstFault ts rest
fault_to_rows ts rest = (whole.faulty ts rest).1

fault_of_rows : (ts rest : List Tok) → HaveFirstFault ts rest → grammar.IsFault ts rest
fault_of_rows ts rest = (whole.faulty ts rest).0

pub answer_reads : (n : ℕ) (ts : List Tok) → length ts ≤ n → (m : ModuleTerm) (r : List Tok) → transformation_at (nested_at n) ts ≡ Ok (m, r) → is_nil r ≡ true → Reads ts m
answer_reads n ts le m r e nil = to_rows ts m (productions.answer_reads n ts le m r e nil)

pub answer_only : (n : ℕ) (ts : List Tok) → length ts ≤ n → (m : ModuleTerm) (r : List Tok) → transformation_at (nested_at n) ts ≡ Ok (m, r) → is_nil r ≡ true → (other : ModuleTerm) → Reads ts other → other ≡ m
answer_only n ts le m r e nil other rd = productions.answer_only n ts le m r e nil other (of_rows ts other rd)

pub answer_rest : (n : ℕ) (ts : List Tok) → length ts ≤ n → (m : ModuleTerm) (r : List Tok) → transformation_at (nested_at n) ts ≡ Ok (m, r) → is_nil r ≡ false → HaveFirstFault ts r
answer_rest n ts le m r e some = fault_to_rows ts r (productions.answer_rest n ts le m r e some)

pub answer_fault : (n : ℕ) (ts : List Tok) → length ts ≤ n → (r : List Tok) → transformation_at (nested_at n) ts ≡ Err (At r) → HaveFirstFault ts r
answer_fault n ts le r e = fault_to_rows ts r (productions.answer_fault n ts le r e)

pub one_tree : (ts : List Tok) (m n : ModuleTerm) → Reads ts m → Reads ts n → m ≡ n
one_tree ts m n a b = productions.one_tree ts m n (of_rows ts m a) (of_rows ts n b)

pub one_fault : (ts r s : List Tok) → HaveFirstFault ts r → HaveFirstFault ts s → r ≡ s
one_fault ts r s a b = productions.one_fault ts r s (fault_of_rows ts r a) (fault_of_rows ts s b)
