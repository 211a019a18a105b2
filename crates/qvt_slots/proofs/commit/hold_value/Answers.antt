use Rattle.std.proofs.Common.{◌≡◌, ◌∷◌, [], sym, subst, true, refl, ◌==◌, false}
use Rattle.std.proofs.lemmas.Bool.{eq-eqb}
use Rattle.qvt_relation.proofs.Bools.{or_left}
use Rattle.qvt_value.specs.declared.value.Value.{Value}
use Rattle.qvt_slots.specs.Slots.{has}
use Rattle.qvt_slots.proofs.commit.hold_value.Goals as goal

pub hold-requires : goal.hold-requires
hold-requires c = c.requires.live c.in-Obj.child.0 (subst (λ (v : Value). has (v ∷ []) c.in-Obj.child.0 ≡ true) (sym c.in-Obj.is) (or_left (c.in-Obj.child.0 == c.in-Obj.child.0) false (eq-eqb c.in-Obj.child.0 c.in-Obj.child.0 refl)))
