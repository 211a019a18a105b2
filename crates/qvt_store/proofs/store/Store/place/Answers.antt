use Rattle.std.proofs.Common.{sym, subst}
use Rattle.qvt_store_laws.specs.Sound.{Sound, SoundButOpposites}
use Rattle.qvt_store_laws.specs.Stay.{StaysIn}
use Rattle.qvt_store_laws.proofs.SoundGrown.{place_keeps_loading, place_keeps_sound}
use Rattle.qvt_store_laws.proofs.Stays.{stays_is_reflexive, place_stays}
use Rattle.qvt_store.proofs.store.Store.place.Goals as goal

pub returns-in-Ok-clause-stays : goal.returns-in-Ok-clause-stays
returns-in-Ok-clause-stays c = subst (StaysIn c.args.self.now) (sym c.in-Ok.ensures.ok) (place_stays c.args.self.now c.args.object.0 c.args.feature.0 c.args.values.now)

pub returns-in-Ok-clause-loading : goal.returns-in-Ok-clause-loading
returns-in-Ok-clause-loading c fits loading = subst SoundButOpposites (sym c.in-Ok.ensures.ok)
    (place_keeps_loading c.args.self.now c.args.object.0 c.args.feature.0 c.args.values.now c.requires c.in-Ok.ensures.plain fits loading)

pub returns-in-Err-clause-stays : goal.returns-in-Err-clause-stays
returns-in-Err-clause-stays c = subst (StaysIn c.args.self.now) (sym c.in-Err.ensures.err) (stays_is_reflexive c.args.self.now)

pub returns-in-Err-clause-loading : goal.returns-in-Err-clause-loading
returns-in-Err-clause-loading c fits loading = subst SoundButOpposites (sym c.in-Err.ensures.err) loading

pub returns-in-Ok-clause-ends : goal.returns-in-Ok-clause-ends
returns-in-Ok-clause-ends c fits loading agree = record { parts = returns-in-Ok-clause-loading c fits loading; opposites = agree }

pub returns-in-Ok-clause-sound : goal.returns-in-Ok-clause-sound
returns-in-Ok-clause-sound c fits alone sound = subst Sound (sym c.in-Ok.ensures.ok)
    (place_keeps_sound c.args.self.now c.args.object.0 c.args.feature.0 c.args.values.now c.is_whole.ensures.well_formed c.requires c.in-Ok.ensures.plain fits alone sound)

pub returns-in-Err-clause-ends : goal.returns-in-Err-clause-ends
returns-in-Err-clause-ends c fits loading agree = record { parts = returns-in-Err-clause-loading c fits loading; opposites = agree }

pub returns-in-Err-clause-sound : goal.returns-in-Err-clause-sound
returns-in-Err-clause-sound c fits alone sound = subst Sound (sym c.in-Err.ensures.err) sound
