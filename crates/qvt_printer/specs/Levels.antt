-- Where round brackets stand.
use Rattle.std.specs.Prelude.{ℕ, Bool, true, false, nat_le}
use Rattle.qvt_tree_types.specs.Tree.{ExprTerm, ChainExpr, PrefixExpr}
use Rattle.qvt_tree_types.specs.declared.words.Level.{Level}
use Rattle.qvt_tree_types.specs.declared.words.Level.TheVariants as level

-- the loosest level has the least number
abbrev pub tightness : Level → ℕ
tightness level.Implies = 0
tightness level.Xor = 1
tightness level.Or = 2
tightness level.And = 3
tightness level.Equality = 4
tightness level.Relation = 5
tightness level.Sum = 6
tightness level.Product = 7

-- a chain of this or a looser level
abbrev pub is_as_loose : Level → ExprTerm → Bool
is_as_loose l (ChainExpr k first rest place) = nat_le (tightness k) (tightness l)
is_as_loose l e = false

abbrev pub is_chain : ExprTerm → Bool
is_chain (ChainExpr k first rest place) = true
is_chain e = false

abbrev pub is_chain_or_prefix : ExprTerm → Bool
is_chain_or_prefix (ChainExpr k first rest place) = true
is_chain_or_prefix (PrefixExpr signs operand place) = true
is_chain_or_prefix e = false
