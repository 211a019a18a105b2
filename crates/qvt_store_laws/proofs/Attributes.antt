-- A slot of values that are no objects, set.
use Rattle.std.proofs.Common.{◌≡◌, ℕ, ◌<◌, Bool, true, false, ◌==◌, ◌&&◌, cond, refl, sym, ap, ◌∙◌, subst, List}
use Rattle.std.specs.Prelude.{nat_lt}
use Rattle.std.proofs.lemmas.Bool.Decides.{Decides-eqb}
use Rattle.qvt_base.specs.declared.numbers.Oid.{Oid}
use Rattle.qvt_value.specs.declared.value.Value.{Value}
use Rattle.qvt_metamodel.specs.Metamodels.{Metamodels}
use Rattle.qvt_relation.proofs.Bools.{and_left, and_right}
use Rattle.qvt_slots.specs.declared.cell.Cell.{Cell}
use Rattle.qvt_slots.specs.declared.extent.Extent.{Extent}
use Rattle.qvt_slots.specs.Slots.{Slots}
use Rattle.qvt_slots.specs.Contents.{Instance, no_instance, is_live, class_of}
use Rattle.qvt_slots.specs.Cells.{instances, contents_of, AreMembers, SameObjects, with_list}
use Rattle.qvt_slots.proofs.Cells.{length-instances}
use Rattle.qvt_slots.proofs.Lists.{any_default}
use Rattle.qvt_slots.proofs.Members.{members_same}

pub stays_live : (m : Metamodels) (extents : List Extent) (old new : List Cell) → SameObjects m old new → (y : ℕ) → is_live (contents_of m extents old) y ≡ true →
    (is_live (contents_of m extents new) y ≡ true) × (class_of (contents_of m extents old) y ≡ class_of (contents_of m extents new) y)
stays_live m extents old new same y live =
    (subst (λ n. nat_lt y n ≡ true) (length-instances old ∙ sym same.same_length ∙ sym (length-instances new)) live, sym (same.classes y))

pub listed_same : (m : Metamodels) (extents : List Extent) (old new : List Cell) (members : List (List Oid)) → SameObjects m old new → AreMembers extents old members → AreMembers extents new members
listed_same m extents old new members same are = record {
  count = are.count;
  lists = λ e h. are.lists e h ∙ members_same (instances old) (instances new) 0 e (length-instances old ∙ sym same.same_length ∙ sym (length-instances new))
      (λ k d b. ap (λ (ob : Instance). ob.extent) (any_default (instances old) k d no_instance b) ∙ sym (same.extents k)
      ∙ ap (λ (ob : Instance). ob.extent) (any_default (instances new) k no_instance d (subst (λ n. k < n) (length-instances old ∙ sym same.same_length ∙ sym (length-instances new)) b)));
}

-- a fact of each list, after one is set
pub each_put : (P : ℕ → ℕ → List Value → Type 0) (s : Slots) (o p : ℕ) (vs : List Value) → P o p vs → ((x f : ℕ) → P x f (s x f)) → (x f : ℕ) → P x f (with_list s o p vs x f)
each_put P s o p vs new old x f = go ((x == o) && (f == p)) refl
  where
    go : (b : Bool) → ((x == o) && (f == p)) ≡ b → P x f (cond b vs (s x f))
    go true e = subst (λ n. P n f vs) (sym ((Decides-eqb x o).0 (and_left _ _ e))) (subst (λ n. P o n vs) (sym ((Decides-eqb f p).0 (and_right (x == o) _ e))) new)
    go false e = old x f
