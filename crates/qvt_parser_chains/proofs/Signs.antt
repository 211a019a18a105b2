-- Signs before an expression that has signs, and before any other.
use Rattle.std.proofs.Common.{◌≡◌, List, ◌++◌, Some, None, unwrap_or, refl, ap}
use Rattle.qvt_base.specs.declared.numbers.Place.{Place}
use Rattle.qvt_tree_types.specs.Parts.{prefix_in}
use Rattle.qvt_tree_types.specs.Tree.{ExprTerm, IntExpr, StrExpr, BoolExpr, NullExpr, SelfExpr, ResultExpr, PathExpr, CallExpr, CollExpr, IfExpr, ObjectExpr, NewExpr, MapExpr, ResolveExpr, ChainExpr, PrefixExpr, PostExpr}
use Rattle.qvt_tree_types.specs.declared.words.Sign.{Sign}
use Rattle.qvt_language.specs.Trees.{signed}

pub signed_apart : (place : Place) (signs : List Sign) (e : ExprTerm) → prefix_in e ≡ None → signed place signs e ≡ PrefixExpr signs e place
signed_apart place signs (PrefixExpr old e p) h = absurd cc
signed_apart place signs (IntExpr n p) h = refl
signed_apart place signs (StrExpr t p) h = refl
signed_apart place signs (BoolExpr b p) h = refl
signed_apart place signs (NullExpr p) h = refl
signed_apart place signs (SelfExpr p) h = refl
signed_apart place signs (CallExpr name es p) h = refl
signed_apart place signs (CollExpr k es p) h = refl
signed_apart place signs (IfExpr c a b p) h = refl
signed_apart place signs (ObjectExpr v path x body p) h = refl
signed_apart place signs (NewExpr path x es p) h = refl
signed_apart place signs (MapExpr m) h = refl
signed_apart place signs (ResolveExpr r) h = refl
signed_apart place signs (ChainExpr l e ls p) h = refl
signed_apart place signs (PostExpr e old p) h = refl
signed_apart place signs (ResultExpr p) h = refl
signed_apart place signs (PathExpr path) h = refl

pub signed_more : (place : Place) (signs : List Sign) (e : ExprTerm) (old : List Sign) (operand : ExprTerm) → prefix_in e ≡ Some (old, operand) → signed place signs e ≡ PrefixExpr (signs ++ old) operand place
signed_more place signs (PrefixExpr s e p) old operand h = ap (λ o. PrefixExpr (signs ++ (unwrap_or {T = List Sign × ExprTerm} o (s, e)).0) (unwrap_or {T = List Sign × ExprTerm} o (s, e)).1 place) h
signed_more place signs (IntExpr n p) old operand h = absurd cc
signed_more place signs (StrExpr t p) old operand h = absurd cc
signed_more place signs (BoolExpr b p) old operand h = absurd cc
signed_more place signs (NullExpr p) old operand h = absurd cc
signed_more place signs (SelfExpr p) old operand h = absurd cc
signed_more place signs (CallExpr name es p) old operand h = absurd cc
signed_more place signs (CollExpr k es p) old operand h = absurd cc
signed_more place signs (IfExpr c a b p) old operand h = absurd cc
signed_more place signs (ObjectExpr v path x body p) old operand h = absurd cc
signed_more place signs (NewExpr path x es p) old operand h = absurd cc
signed_more place signs (MapExpr m) old operand h = absurd cc
signed_more place signs (ResolveExpr r) old operand h = absurd cc
signed_more place signs (ChainExpr l e ls p) old operand h = absurd cc
signed_more place signs (PostExpr e more p) old operand h = absurd cc
signed_more place signs (ResultExpr p) old operand h = absurd cc
signed_more place signs (PathExpr path) old operand h = absurd cc
