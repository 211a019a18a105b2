use Rattle.std.proofs.Common.{◌≡◌, ◌∙◌, sym, subst, List}
use Rattle.std.specs.Prelude.{Ok, Err, All}
use Rattle.qvt_value.specs.declared.value.Value.{Value}
use Rattle.qvt_slots.specs.Types.{IsAssignable, HasCodeType}
use Rattle.qvt_slots.specs.Repeats.{new_list}
use Rattle.qvt_slots.specs.Assign.{assign}
use Rattle.qvt_store.proofs.Appending.{list_assignable}
use Rattle.qvt_store.proofs.store.Store.extend_whole.Goals as goal

pub assign_list-requires : goal.assign_list-requires
assign_list-requires c = subst (λ (l : List Value). IsAssignable c.args.self.now c.args.object.0 c.args.feature.0 l) (sym (c.as_slice.ensures ∙ c.in_ok-list.ensures))
    (list_assignable c.args.self.now c.args.object.0 c.args.feature.0 c.args.values.now c.requires.known c.requires.can)

pub returns-in-Ok-clause-ok : goal.returns-in-Ok-clause-ok
returns-in-Ok-clause-ok c = subst (λ (l : List Value). assign c.args.self.now c.args.object.0 c.args.feature.0 l ≡ Ok c.assign_list.new.self) (c.as_slice.ensures ∙ c.in_ok-list.ensures) c.in-Ok.ensures.ok

pub returns-clause-refused : goal.returns-clause-refused
returns-clause-refused c n = subst (λ (l : List Value). assign c.args.self.now c.args.object.0 c.args.feature.0 l ≡ Err c.in-Err.fault) (c.as_slice.ensures ∙ c.in_ok-list.ensures) (c.in-Err.ensures.refused n)

pub returns-in-Ok-clause-plain : goal.returns-in-Ok-clause-plain
returns-in-Ok-clause-plain c = subst (λ (l : List Value). All HasCodeType (new_list c.args.self.now.metas c.args.feature.0 l)) (c.as_slice.ensures ∙ c.in_ok-list.ensures) c.in-Ok.ensures.plain
