-- What is known before a change is carried out.
use Rattle.std.specs.Prelude.{◌≡◌, ℕ, Bool, not, List, ◌++◌, length, IsTrue, IsFalse}
use Rattle.std.specs.List.{list_any}
use Rattle.qvt_base.specs.declared.numbers.Oid.{Oid}
use Rattle.qvt_value.specs.declared.value.Value.{Value}
use Rattle.qvt_metamodel.specs.Metamodels.{shape_of}
use Rattle.qvt_slots.specs.declared.commit.Write.{Write}
use Rattle.qvt_slots.specs.declared.draft.Draft.{Draft}
use Rattle.qvt_slots.specs.Change.{Change, is_linked, slot_after, slot_elsewhere}
use Rattle.qvt_slots.specs.Contents.{Contents, is_writable, slot_of}
use Rattle.qvt_slots.specs.Types.{AreTyped, IsAssignable}
use Rattle.qvt_slots.specs.Slots.{Inside}
use Rattle.qvt_metamodel.specs.WellFormed.{IsWellFormed}
use Rattle.qvt_value.specs.Kept.{is_same}
use Rattle.qvt_value.specs.Order.{order_of}
use Rattle.qvt_slots.specs.Repeats.{repeats, new_list}
use Rattle.qvt_slots.specs.Assign.{exceeds_bound, crosses, change_to, store_after}
use Rattle.qvt_store_laws.specs.Law.{IsFit, FitsSingle}
use Rattle.qvt_store.specs.Draft.{drafted, IsDraft}
use Rattle.qvt_slots.specs.Walk.{IsCyclic}
use Rattle.qvt_slots.specs.Writes.{released_of}
use Rattle.qvt_store.specs.Plan.{IsPlan}

pub record Ready (s : Contents) (d : Draft) (items : List Value) (ws : List Write) (released : List Oid) : Type 0 where
  pub draft : IsDraft s d items
  pub fit : IsFit s d.object.0 d.feature.0 items
  pub single : FitsSingle (change_to s d.object.0 d.feature.0 items)
  pub acyclic : IsCyclic s.metas (slot_after (change_to s d.object.0 d.feature.0 items)) → ⊥
  pub unique : IsTrue (shape_of s.metas d.feature.0).unique → IsFalse (repeats items)
  pub own : IsFalse (crosses s d.object.0 items)
  pub plan : IsPlan s (drafted s d) ws
  pub is_released : released ≡ released_of s.metas (slot_of s) d ws

-- no value of the list equals this one
abbrev pub is_absent : List Value → Value → Bool
is_absent vs v = not (list_any (λ w. is_same order_of w v) vs)

-- what every store keeps, and a change relies on
pub record IsKnown (s : Contents) : Type 0 where
  pub well_formed : IsWellFormed s.metas
  pub acyclic : (x : ℕ) → Inside s.metas (slot_of s) x x → ⊥
  pub typed : AreTyped s
  -- a change that leaves each slot as it is leaves the store
  pub told : (c : Change) → c.metas ≡ s.metas → ((x f : ℕ) → slot_of s x f ≡ slot_after c x f) → store_after s c ≡ s

-- what is new of the given values can be put last in slot (o, p), whose changes touch no other slot
pub record IsLone (s : Contents) (o p : ℕ) (fresh : List Value) : Type 0 where
  pub known : IsKnown s
  pub given : List Value
  pub can : IsAssignable s o p given
  pub alone : IsFalse (is_linked s.metas p)
  pub last : new_list s.metas p (slot_of s o p ++ given) ≡ slot_of s o p ++ fresh
  pub few : IsFalse (exceeds_bound (length (slot_of s o p ++ fresh)) (shape_of s.metas p).upper)
  pub writable : IsTrue (is_writable s o)
  pub own : IsFalse (crosses s o (slot_of s o p ++ fresh))

-- the slots other than the changed one stay
pub record StaysElsewhere (c : Change) : Type 0 where
  pub stays : (x f : ℕ) → slot_elsewhere c x f ≡ c.slots x f
