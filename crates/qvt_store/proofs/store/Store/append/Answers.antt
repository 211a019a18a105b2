use Rattle.std.proofs.Common.{[], ◌∷◌, sym, subst}
use Rattle.std.proofs.lemmas.List.Elements.{All-nil, All-cons}
use Rattle.qvt_slots.specs.Types.{HasCodeType}
use Rattle.qvt_slots.specs.declared.op.SetOp.TheVariants.{Add}
use Rattle.qvt_store_laws.specs.Sound.{Sound}
use Rattle.qvt_store_laws.specs.Stay.{InputsStay, StaysIn}
use Rattle.qvt_store_laws.proofs.SoundKept.{append_keeps_sound}
use Rattle.qvt_store_laws.proofs.Stays.{stays_is_reflexive, append_stays}
use Rattle.qvt_store_laws.proofs.ReadOnly.{inputs_stay_is_reflexive, write_leaves_inputs}
use Rattle.qvt_store.proofs.store.Store.append.Goals as goal

pub returns-in-Ok-clause-stays : goal.returns-in-Ok-clause-stays
returns-in-Ok-clause-stays c = append_stays c.args.self.now c.append_value.new.self c.args.object.0 c.args.feature.0 c.args.value.now c.in-Ok.ensures.ok

pub returns-in-Ok-clause-sound : goal.returns-in-Ok-clause-sound
returns-in-Ok-clause-sound c sound = append_keeps_sound c.args.self.now c.append_value.new.self c.args.object.0 c.args.feature.0 c.args.value.now
    c.is_whole.ensures.well_formed c.is_whole.ensures.named c.requires (All-cons HasCodeType c.args.value.now [] c.is_plain.ensures (All-nil HasCodeType)) sound c.in-Ok.ensures.ok

pub returns-in-Err-clause-stays : goal.returns-in-Err-clause-stays
returns-in-Err-clause-stays c = subst (StaysIn c.args.self.now) (sym c.in-Err.ensures.err) (stays_is_reflexive c.args.self.now)

pub returns-in-Err-clause-sound : goal.returns-in-Err-clause-sound
returns-in-Err-clause-sound c sound = subst Sound (sym c.in-Err.ensures.err) sound

pub returns-in-Ok-clause-inputs : goal.returns-in-Ok-clause-inputs
returns-in-Ok-clause-inputs c sound = write_leaves_inputs c.args.self.now c.append_value.new.self c.args.object.0 c.args.feature.0 Add (c.args.value.now ∷ []) c.is_whole.ensures sound c.requires c.in-Ok.ensures.ok

pub returns-in-Err-clause-inputs : goal.returns-in-Err-clause-inputs
returns-in-Err-clause-inputs c sound = subst (InputsStay c.args.self.now) (sym c.in-Err.ensures.err) (inputs_stay_is_reflexive c.args.self.now)
