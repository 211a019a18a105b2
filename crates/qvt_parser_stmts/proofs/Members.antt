-- The target that steps end in is told by the last one.
use Rattle.std.proofs.Common.{◌≡◌, ℕ, Some, None, unwrap_or, List, [], ◌∷◌, ◌++◌, map, refl, ap, ◌∙◌}
use Rattle.std.proofs.lemmas.List.{map-append}
use Rattle.qvt_base.specs.declared.numbers.Place.{Place}
use Rattle.qvt_tree_types.specs.Parts.{member_in, path_in, result_in}
use Rattle.qvt_tree_types.specs.Tree.{ExprTerm, IntExpr, StrExpr, BoolExpr, NullExpr, SelfExpr, ResultExpr, PathExpr, CallExpr, CollExpr, IfExpr, ObjectExpr, NewExpr, MapExpr, ResolveExpr, ChainExpr, PrefixExpr, PostExpr, MemberTarget, ResultTarget}
use Rattle.qvt_tree_types.specs.Tree.{StepTerm, DotStep, ArrowStep, DotMapStep, ArrowMapStep, DotResolveStep, ArrowResolveStep, NoArgs, SomeArgs}
use Rattle.qvt_tree_types.specs.declared.types.PathTree.{PathTree}
use Rattle.qvt_tree_types.specs.View.{step_view}
use Rattle.qvt_tree_types.specs.declared.tree.Step.{Step}
use Rattle.qvt_language.specs.Trees.{bare_target, split_last, member_of, member_target, post_of}

split_end : (s : StepTerm) (ss : List StepTerm) (t : StepTerm) → split_last s (ss ++ t ∷ []) ≡ (s ∷ ss, t)
split_end s [] t = refl
split_end s (x ∷ ss) t = ap (λ z. (s ∷ z.0, z.1)) (split_end x ss t)

member_end : (place : Place) (e : ExprTerm) (ss : List StepTerm) (t : StepTerm) → member_target place e (ss ++ t ∷ []) ≡ member_of place e (ss, t)
member_end place e [] t = refl
member_end place e (s ∷ ss) t = ap (member_of place e) (split_end s ss t)

pub member_last : (place : Place) (e : ExprTerm) (steps before : List Step) (last : Step) → steps ≡ before ++ last ∷ [] → member_target place e (map step_view steps) ≡ member_of place e (map step_view before, step_view last)
member_last place e steps before last q = ap (λ z. member_target place e z) (ap (map step_view) q ∙ map-append step_view before (last ∷ [])) ∙ member_end place e (map step_view before) (step_view last)

-- a step is a member where it is a name without arguments
pub member_there : (place : Place) (e : ExprTerm) (before : List StepTerm) (s : StepTerm) (name : List ℕ) (at : Place) → member_in s ≡ Some (name, at) → member_of place e (before, s) ≡ Some (MemberTarget (post_of place e before) name at)
member_there place e before (DotStep n NoArgs p) name at h = ap (λ o. Some (MemberTarget (post_of place e before) (unwrap_or {T = List ℕ × Place} o (n, p)).0 (unwrap_or {T = List ℕ × Place} o (n, p)).1)) h
member_there place e before (DotStep n (SomeArgs es) p) name at h = absurd cc
member_there place e before (ArrowStep n head es p) name at h = absurd cc
member_there place e before (DotMapStep m) name at h = absurd cc
member_there place e before (ArrowMapStep m) name at h = absurd cc
member_there place e before (DotResolveStep r) name at h = absurd cc
member_there place e before (ArrowResolveStep r) name at h = absurd cc

pub no_member : (place : Place) (e : ExprTerm) (before : List StepTerm) (s : StepTerm) → member_in s ≡ None → member_of place e (before, s) ≡ None
no_member place e before (DotStep n NoArgs p) h = absurd cc
no_member place e before (DotStep n (SomeArgs es) p) h = refl
no_member place e before (ArrowStep n head es p) h = refl
no_member place e before (DotMapStep m) h = refl
no_member place e before (ArrowMapStep m) h = refl
no_member place e before (DotResolveStep r) h = refl
no_member place e before (ArrowResolveStep r) h = refl

-- what an expression is as a target: `result`, a path of one name, or none
pub bare_result : (e : ExprTerm) (place : Place) → result_in e ≡ Some place → bare_target e ≡ Some (ResultTarget place)
bare_result (ResultExpr p) place h = ap (λ o. Some (ResultTarget (unwrap_or o p))) h
bare_result (PathExpr path) place h = absurd cc
bare_result (IntExpr n p) place h = absurd cc
bare_result (StrExpr t p) place h = absurd cc
bare_result (BoolExpr b p) place h = absurd cc
bare_result (NullExpr p) place h = absurd cc
bare_result (SelfExpr p) place h = absurd cc
bare_result (CallExpr name es p) place h = absurd cc
bare_result (CollExpr k es p) place h = absurd cc
bare_result (IfExpr c a b p) place h = absurd cc
bare_result (ObjectExpr v path x body p) place h = absurd cc
bare_result (NewExpr path x es p) place h = absurd cc
bare_result (MapExpr m) place h = absurd cc
bare_result (ResolveExpr r) place h = absurd cc
bare_result (ChainExpr l e ls p) place h = absurd cc
bare_result (PrefixExpr signs e p) place h = absurd cc
bare_result (PostExpr e old p) place h = absurd cc

pub bare_path : (e : ExprTerm) (path : PathTree) → path_in e ≡ Some path → bare_target e ≡ bare_target (PathExpr path)
bare_path (PathExpr p) path h = ap (λ o. bare_target (PathExpr (unwrap_or o p))) h
bare_path (ResultExpr p) path h = absurd cc
bare_path (IntExpr n p) path h = absurd cc
bare_path (StrExpr t p) path h = absurd cc
bare_path (BoolExpr b p) path h = absurd cc
bare_path (NullExpr p) path h = absurd cc
bare_path (SelfExpr p) path h = absurd cc
bare_path (CallExpr name es p) path h = absurd cc
bare_path (CollExpr k es p) path h = absurd cc
bare_path (IfExpr c a b p) path h = absurd cc
bare_path (ObjectExpr v q x body p) path h = absurd cc
bare_path (NewExpr q x es p) path h = absurd cc
bare_path (MapExpr m) path h = absurd cc
bare_path (ResolveExpr r) path h = absurd cc
bare_path (ChainExpr l e ls p) path h = absurd cc
bare_path (PrefixExpr signs e p) path h = absurd cc
bare_path (PostExpr e old p) path h = absurd cc

pub bare_none : (e : ExprTerm) → path_in e ≡ None → result_in e ≡ None → bare_target e ≡ None
bare_none (PathExpr p) h q = absurd cc
bare_none (ResultExpr p) h q = absurd cc
bare_none (IntExpr n p) h q = refl
bare_none (StrExpr t p) h q = refl
bare_none (BoolExpr b p) h q = refl
bare_none (NullExpr p) h q = refl
bare_none (SelfExpr p) h q = refl
bare_none (CallExpr name es p) h q = refl
bare_none (CollExpr k es p) h q = refl
bare_none (IfExpr c a b p) h q = refl
bare_none (ObjectExpr v path x body p) h q = refl
bare_none (NewExpr path x es p) h q = refl
bare_none (MapExpr m) h q = refl
bare_none (ResolveExpr r) h q = refl
bare_none (ChainExpr l e ls p) h q = refl
bare_none (PrefixExpr signs e p) h q = refl
bare_none (PostExpr e old p) h q = refl
