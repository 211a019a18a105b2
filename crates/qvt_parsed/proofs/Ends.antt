-- The place where the text of a tree ends.
use Rattle.std.proofs.Common.{◌≡◌, List, ap, ◌∙◌, sym}
use Rattle.qvt_tree_types.specs.Module.{ModuleTerm}
use Rattle.qvt_language.specs.Tokens.{Tok}
use Rattle.qvt_language.specs.Readers.{nowhere}
use Rattle.qvt_language.specs.Module.{with_end}
use Rattle.qvt_language_rows.specs.Units.{ModuleRow}
use Rattle.qvt_language_rows.specs.Language.{Reads}

-- what tokens are read as ends nowhere
pub read_nowhere : (ts : List Tok) (m : ModuleTerm) → Reads ts m → m ≡ with_end nowhere m
unfolding ModuleRow
read_nowhere ts m rd = let made = rd.is.2 in made ∙ ap (with_end nowhere) (sym made)

pub same_tree : (m n : ModuleTerm) → with_end nowhere m ≡ with_end nowhere n → m.end ≡ n.end → m ≡ n
same_tree m n tree end = λ i. with_end (end i) (tree i)
