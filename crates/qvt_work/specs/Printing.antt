-- What `print FILE` does over the bytes that the files hold: the text's one printed form alone.
use Rattle.std.specs.Prelude.{ℕ, List, [], Result, Ok}
use Rattle.qvt_tree_types.specs.Module.{ModuleTerm}
use Rattle.qvt_printer.specs.PrintText.{print_text}
use Rattle.qvt_outcome.specs.Outcome.{Outcome, done}
use Rattle.qvt_work.specs.Source.{tree_in}
use Rattle.qvt_outcome.specs.Chain.{Chain, step, ◌>=>◌, read_step}

-- reads the text
unfoldable pub tree_read : List ℕ → Chain ModuleTerm
tree_read name = read_step name 262144 >=> (λ bytes. step (tree_in name bytes))

abbrev pub printed : ModuleTerm → Result Outcome Outcome
printed tree = Ok (done [] (print_text tree))

unfoldable pub print_of : List ℕ → Chain Outcome
print_of name = tree_read name >=> (λ tree. step (printed tree))
