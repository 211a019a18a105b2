-- How a shared value is stored, so that a type may hold itself through `Boxed`.
use mathlib.Core.Path.{refl}
use mathlib.Core.Former.{Former, this, const, pair, via}
use base.Stored.{gnil}
use base.Fml.{ftrue}
use denote.RattleType.{RattleType}
use denote.Memory.{part_of}
use denote.RawPtr.{Ptr}
use denote.Sharing.{nothing}
use denote.HoleLaws.{Alike}
use denote.HolePlaces.{Recodes, struct_places, laid, one_value}
use denote.Hole.Fix.{over}
use denote.Param.Weighed.{Weighed}
use denote.Model.Placed.{view_places}
use Rattle.std.specs.declared.rc.Rc.{Rc}
use Rattle.std.specs.contracts.rc.Rc as row_of_rc
use Rattle.std.specs.declared.alloc.Global.{Global}
use Rattle.std.specs.contracts.alloc.Global as heap
use Rattle.std.specs.contracts.impls.GlobalAllocator.TheImpl.{ghosts}
use Rattle.qvt_types_data.specs.declared.boxed.Boxed.TheInside.{Inside}
use Rattle.qvt_types_data.specs.declared.boxed.Boxed.TheView.{view, invariant}
use Rattle.qvt_types_data.specs.contracts.boxed.Boxed as row_of_boxed
use Rattle.qvt_types_data.specs.contracts.boxed.Boxed.TheInside as row_of_fields

-- it is seen as its value alone
abbrev pub the_former : Former {0} → Former {0}
the_former inner = inner

abbrev pub the_weighed : {inner : Former {0}} → Weighed inner → Weighed (the_former inner)
the_weighed weight = weight

-- its one field is a pointer, and the value
abbrev field : Former {0}
field = via (pair (const Ptr) this) Inside
    (λ X fields. (fields.inner.ptr, fields.inner.value))
    (λ X parts. record { inner = record { ptr = parts.0; value = parts.1 } })
    (λ X fields. refl) (λ X parts. refl)

abbrev holding : {X Y : Type 0} → Rc X Global → Y → Rc Y Global
holding r y = record { ptr = r.ptr; value = y }

abbrev shared_in : RattleType → RattleType
shared_in R = row_of_rc.the_row R heap.the_row ghosts

module _ (R S : RattleType) (along : R.Denot → S.Denot) where
  shared_places : Alike R S along → Alike (shared_in R) (shared_in S) (λ b. holding b (along b.value))
  unfolding part_of
  shared_places alike = record {
    mir_same = λ i. (shared_in (one_value R (alike.mir_same i) (λ _. ftrue) (λ _ _. nothing) gnil)).mir;
    own_same = λ b i. (shared_in (one_value R (alike.mir_same i) (alike.own_same b.value i) (alike.shr_same b.value i) gnil)).own_val (holding b tt);
    shr_same = λ b i. (shared_in (one_value R (alike.mir_same i) (alike.own_same b.value i) (alike.shr_same b.value i) gnil)).shr_at (holding b tt);
  }

  pub the_places : Alike R S along → Alike (row_of_boxed.the_row R) (row_of_boxed.the_row S) ((the_former this).map R.Denot S.Denot along)
  the_places alike = view_places field this view (λ X Y k u. refl) (λ X u. refl)
      R.Denot S.Denot along (row_of_boxed.the_row R).coded (row_of_boxed.the_row S).coded
      (invariant R.Denot) (invariant S.Denot) (λ u p q. refl) (λ u p q. refl) (λ u e. tt) (λ u e. tt)
      (over (row_of_fields.the_row R)) (over (row_of_fields.the_row S))
      (struct_places (row_of_fields.the_type R) (row_of_fields.the_type S) ((λ b. holding b (along b.value)), tt) _ (λ fields. refl) refl
      (laid _ _ _ (shared_places alike), tt))

  pub the_codes_placed : Recodes R S along → Recodes (row_of_boxed.the_row R) (row_of_boxed.the_row S) ((the_former this).map R.Denot S.Denot along)
  the_codes_placed recodes b = recodes b
