-- How the tree of a text lies in its text.
use Rattle.std.specs.Prelude.{ℕ, ◌*◌, ◌^◌, ◌≤◌, ◌<◌, List, [], ◌∷◌, ◌++◌, length}
use Rattle.std.specs.Str.{IsUtf8}
use Rattle.qvt_tree_types.specs.Module.{MappingTerm, ModuleTerm}
use Rattle.qvt_parser_nodes.specs.Nodes.{nodes}
use Rattle.qvt_parser_nodes.specs.Names.{HasNames}
use Rattle.qvt_parser_nodes.specs.Places.{ClauseKind, places}
use Rattle.qvt_parser_nodes.specs.Law.{of_tokens, at_most, DoNotFall}
use Rattle.qvt_parsed.specs.Parsing.{IsTransformation}

-- the limit on a text, in bytes
abbrev pub longest_text : ℕ
longest_text = 262144

pub record LiesInText : Type 0 where
  -- a transformation has at most two nodes for each byte of its text
  pub size : (text : List ℕ) (m : ModuleTerm) → IsUtf8 text → IsTransformation text m → nodes m ≤ 2 * length text
  -- so the nodes of a text within the limit can be numbered with 32 bits
  pub numbers : (text : List ℕ) (m : ModuleTerm) → IsUtf8 text → length text ≤ longest_text → IsTransformation text m → nodes m < 2 ^ 32
  -- each path has a name, each name is that of a token that is a name, and each text in quotes that of a token that is a text
  pub tokens : (text : List ℕ) (m : ModuleTerm) (t : IsTransformation text m) → HasNames (of_tokens t.tokens) m
  -- no name and no text in quotes is longer than the text, in bytes
  pub longest : (text : List ℕ) (m : ModuleTerm) → IsUtf8 text → IsTransformation text m → HasNames (at_most (length text)) m
  -- the places of the nodes, in the order of the text, do not fall, and none is past the end
  pub order : (c : MappingTerm → ClauseKind) (text : List ℕ) (m : ModuleTerm) → IsTransformation text m → DoNotFall (places c m ++ m.end ∷ [])
