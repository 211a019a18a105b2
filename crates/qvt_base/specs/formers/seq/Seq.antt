-- How a list stores its items, so that a type may hold itself through `Seq`.
use mathlib.Core.Path.{◌≡◌, refl, sym}
use mathlib.Core.List.{List, []}
use mathlib.Core.Former.{Former, this, list, via, children}
use base.Stored.{code_map}
use denote.RattleType.{RattleType}
use denote.HoleLaws.{Alike}
use denote.HolePlaces.{Recodes, struct_places, laid}
use denote.Hole.Carrier.{listed, list-listed}
use denote.Hole.Fix.{over}
use denote.Param.Weighed.{Weighed, w_list}
use denote.Model.Placed.{view_places}
use Rattle.std.specs.formers.vec.Vec as vec
use Rattle.std.specs.declared.alloc.Global.{Global}
use Rattle.std.specs.contracts.alloc.Global as heap
use Rattle.std.specs.contracts.impls.GlobalAllocator.TheImpl.{ghosts}
use Rattle.qvt_base.specs.declared.seq.Seq.TheInside.{Inside}
use Rattle.qvt_base.specs.declared.seq.Seq.TheView.{view, invariant}
use Rattle.qvt_base.specs.contracts.seq.Seq as row_of_list
use Rattle.qvt_base.specs.contracts.seq.Seq.TheInside as row_of_fields

abbrev pub the_former : Former {0} → Former {0}
the_former inner = list inner

abbrev pub the_weighed : {inner : Former {0}} → Weighed inner → Weighed (the_former inner)
the_weighed weight = w_list weight

abbrev pub the_items : (X : Type 0) → List X → List X
the_items X items = items

pub the_items_listed : (X : Type 0) (items : List X) → listed _ (children (the_former this) X items) ≡ the_items X items
the_items_listed X items = list-listed X items

abbrev pub the_empty : List ⊥
the_empty = []

-- the struct holds the items of its one field
abbrev field : Former {0}
field = via (vec.the_former this Global) Inside (λ X fields. fields.items) (λ X items. record { items = items }) (λ X fields. refl) (λ X items. refl)

module _ (R S : RattleType) (along : R.Denot → S.Denot) where
  pub the_places : Alike R S along → Alike (row_of_list.the_row R) (row_of_list.the_row S) ((the_former this).map R.Denot S.Denot along)
  the_places alike = view_places field (list this) view (λ X Y k u. refl) (λ X u. refl)
      R.Denot S.Denot along (row_of_list.the_row R).coded (row_of_list.the_row S).coded
      (invariant R.Denot) (invariant S.Denot) (λ u p q. refl) (λ u p q. refl) (λ u e. tt) (λ u e. tt)
      (over (row_of_fields.the_row R)) (over (row_of_fields.the_row S))
      (struct_places (row_of_fields.the_type R) (row_of_fields.the_type S) (vec.mapped along, tt) _ (λ fields. refl) refl
      (laid _ _ _ (vec.the_places heap.the_row ghosts R S along alike), tt))

  pub the_codes_placed : Recodes R S along → Recodes (row_of_list.the_row R) (row_of_list.the_row S) ((the_former this).map R.Denot S.Denot along)
  the_codes_placed recodes items = sym (code_map R.coded.code S.coded.code along (λ x. sym (recodes x)) items)
