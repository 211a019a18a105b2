-- The type of a resolve is that which is ruled of one without a source.
use Rattle.std.proofs.Common.{◌≡◌, ◌∙◌, ℕ, refl, ap, Option, Some, None}
use Rattle.qvt_tree_types.specs.declared.words.ResolveWord.{ResolveWord}
use Rattle.qvt_types_data.specs.declared.ruling.Ruling.{Ruling}
use Rattle.qvt_types_data.specs.declared.ty.Ty.{Ty}
use Rattle.qvt_types_nodes.specs.Tree.{TypedFilterTerm}
use Rattle.qvt_types_steps.specs.Resolving.{resolve}
use Rattle.qvt_types_steps.specs.declared.classes.ClassPart.{ClassPart}
use Rattle.qvt_types_steps.specs.declared.resolves.Joint.TheVariants.{Sourceless}
use Rattle.qvt_types_program.specs.Accepts.{ProgramTerm}
use Rattle.qvt_meaning.specs.Program.{class_for, form_with}
use Rattle.qvt_meaning.specs.StepTypes.{answer_of, class_part, form_type}

pub form_ruled : (p : ProgramTerm) (w : ResolveWord) (k : Option ℕ) (f : TypedFilterTerm) (o : Option ℕ)
    → answer_of (resolve Sourceless w None (class_part o)) ≡ form_type w (form_with p w k f o)
form_ruled p w k f None = refl
form_ruled p w k f (Some c) = refl

pub form_answered : (p : ProgramTerm) (w : ResolveWord) (j k : Option ℕ) (f : TypedFilterTerm) (q : ClassPart) (r : Ruling) (a : Option Ty)
    → j ≡ k → q ≡ class_part (class_for p w j f) → r ≡ resolve Sourceless w None q → a ≡ answer_of r
    → a ≡ form_type w (form_with p w k f (class_for p w k f))
form_answered p w j k f q r a e1 e2 e3 e4 =
    e4 ∙ ap answer_of (e3 ∙ ap (λ (x : ClassPart). resolve Sourceless w None x) (e2 ∙ ap (λ (i : Option ℕ). class_part (class_for p w i f)) e1))
    ∙ form_ruled p w k f (class_for p w k f)
