-- What the calls that join give: the node that the definition gives, and the notes that it leaves. Only memory may be
-- wanting.
use Rattle.std.specs.Prelude.{◌≡◌, List, Option, Some, None, Result, Ok, Err, Box}
use Rattle.std.specs.declared.alloc.Global.{Global}
use Rattle.qvt_base.specs.declared.list_fault.ListFault.{ListFault}
use Rattle.qvt_tree_types.specs.Tree.{OptionalExpr, NoExpr, SomeExpr}
use Rattle.qvt_tree_types.specs.View.{expr_view}
use Rattle.qvt_tree_types.specs.declared.tree.Expr.{Expr}
use Rattle.qvt_types_data.specs.declared.note.Note.{Note}

abbrev pub Joins : {A B : Type 0} → (A → B) → B × List Note → Result A ListFault → List Note → Type 0
Joins view meant (Ok a) new = meant ≡ (view a, new)
Joins view meant (Err e) new = Unit {0}

-- the same of what has no view
abbrev pub JoinsAsIs : {A : Type 0} → A × List Note → Result A ListFault → List Note → Type 0
JoinsAsIs meant (Ok a) new = meant ≡ (a, new)
JoinsAsIs meant (Err e) new = Unit {0}

abbrev pub boxed_view : Option (Box Expr Global) → OptionalExpr
boxed_view None = NoExpr
boxed_view (Some e) = SomeExpr (expr_view e.value)
