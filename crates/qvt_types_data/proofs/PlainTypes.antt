-- A type and its plain data tell the same.
use Rattle.std.proofs.Common.{◌≡◌, refl, sym, ap, subst, ◌∙◌, Option, Some, None}
use Rattle.std.specs.Option.{option_map}
use Rattle.qvt_tree_types.specs.declared.words.CollKind.{CollKind}
use Rattle.qvt_tree_types.specs.declared.words.CollKind.TheVariants as coll
use Rattle.qvt_value.specs.declared.value.Kind.{Kind}
use Rattle.qvt_value.specs.declared.value.Kind.TheVariants.{Set, Bag, Sequence, OrderedSet}
use Rattle.qvt_types_data.specs.Term.{TyTerm, Void, Boolean, Integer, Text, Literals, Class, Collection, kind_of, word_of, ty_of, ty_step, ty_view}
use Rattle.qvt_types_data.specs.declared.ty.Ty.TheOpen.{Ty-F}
use Rattle.qvt_types_data.specs.declared.ty.Ty.{Ty, roll-Ty, ind-Ty, fold-roll-Ty}
use Rattle.qvt_types_data.specs.declared.ty.Ty.TheVariants as ty

same_word : (k : CollKind) → word_of (kind_of k) ≡ k
same_word coll.Set = refl
same_word coll.Bag = refl
same_word coll.Sequence = refl
same_word coll.OrderedSet = refl

same_kind : (k : Kind) → kind_of (word_of k) ≡ k
same_kind Set = refl
same_kind Bag = refl
same_kind Sequence = refl
same_kind OrderedSet = refl

pub plain : (T : TyTerm) → ty_view (ty_of T) ≡ T
plain Void = ap ty_view (sym ty.rolls-Void) ∙ fold-roll-Ty TyTerm ty_step Ty-F.Void
plain Boolean = ap ty_view (sym ty.rolls-Boolean) ∙ fold-roll-Ty TyTerm ty_step Ty-F.Boolean
plain Integer = ap ty_view (sym ty.rolls-Integer) ∙ fold-roll-Ty TyTerm ty_step Ty-F.Integer
plain Text = ap ty_view (sym ty.rolls-Str) ∙ fold-roll-Ty TyTerm ty_step Ty-F.Str
plain (Literals m e) = ap ty_view (sym (ty.rolls-Enum m e)) ∙ fold-roll-Ty TyTerm ty_step (Ty-F.Enum m e)
plain (Class c) = ap ty_view (sym (ty.rolls-Class (record { 0 = c }))) ∙ fold-roll-Ty TyTerm ty_step (Ty-F.Class (record { 0 = c }))
plain (Collection k T) =
    ap ty_view (sym (ty.rolls-Coll (word_of k) (ty_of T)))
    ∙ fold-roll-Ty TyTerm ty_step (Ty-F.Coll (word_of k) (ty_of T))
    ∙ λ i. Collection (same_kind k i) (plain T i)

abbrev pub IsAgain : Ty → Type 0
IsAgain t = ty_of (ty_view t) ≡ t

abbrev item_in : Ty-F Ty → Ty
item_in (Ty-F.Coll k t) = t
item_in x = ty.Void

-- the layer whose parts these are
abbrev all_of : Ty-F ((t : Ty) × IsAgain t) → Ty-F Ty
all_of Ty-F.Void = Ty-F.Void
all_of Ty-F.Boolean = Ty-F.Boolean
all_of Ty-F.Integer = Ty-F.Integer
all_of Ty-F.Str = Ty-F.Str
all_of (Ty-F.Enum m e) = Ty-F.Enum m e
all_of (Ty-F.Class c) = Ty-F.Class c
all_of (Ty-F.Coll k e) = Ty-F.Coll k e.0

collection_again : (k : CollKind) (t : Ty) → IsAgain t → IsAgain (roll-Ty (Ty-F.Coll k t))
collection_again k t same =
    ap ty_of (fold-roll-Ty TyTerm ty_step (Ty-F.Coll k t))
    ∙ (λ i. ty.Coll (same_word k i) (same i))
    ∙ sym (ty.rolls-Coll k t)

layer : (x : Ty-F Ty) (y : Ty-F ((t : Ty) × IsAgain t)) → all_of y ≡ x → IsAgain (roll-Ty x)
layer Ty-F.Void Ty-F.Void is = ap ty_of (fold-roll-Ty TyTerm ty_step Ty-F.Void) ∙ sym ty.rolls-Void
layer Ty-F.Boolean Ty-F.Boolean is = ap ty_of (fold-roll-Ty TyTerm ty_step Ty-F.Boolean) ∙ sym ty.rolls-Boolean
layer Ty-F.Integer Ty-F.Integer is = ap ty_of (fold-roll-Ty TyTerm ty_step Ty-F.Integer) ∙ sym ty.rolls-Integer
layer Ty-F.Str Ty-F.Str is = ap ty_of (fold-roll-Ty TyTerm ty_step Ty-F.Str) ∙ sym ty.rolls-Str
layer (Ty-F.Enum m e) (Ty-F.Enum n f) is = ap ty_of (fold-roll-Ty TyTerm ty_step (Ty-F.Enum m e)) ∙ sym (ty.rolls-Enum m e)
layer (Ty-F.Class c) (Ty-F.Class d) is = ap ty_of (fold-roll-Ty TyTerm ty_step (Ty-F.Class c)) ∙ sym (ty.rolls-Class c)
layer (Ty-F.Coll k t) (Ty-F.Coll l e) is = collection_again k t (subst IsAgain (ap item_in is) e.1)
layer x y is = cc

pub again : (t : Ty) → IsAgain t
again = ind-Ty IsAgain layer

pub again_if_any : (o : Option Ty) → option_map ty_of (option_map ty_view o) ≡ o
again_if_any None = refl
again_if_any (Some t) = ap Some (again t)

-- what is known of the plain data is known of the type
pub from_plain : (o : Option Ty) (P : Option TyTerm) → option_map ty_view o ≡ P → o ≡ option_map ty_of P
from_plain o P same = sym (again_if_any o) ∙ ap (option_map ty_of) same
