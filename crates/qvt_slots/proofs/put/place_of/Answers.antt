use Rattle.std.proofs.Common.{◌∙◌, sym}
use Rattle.qvt_relation.proofs.Bools.{clash}
use Rattle.qvt_slots.proofs.Places.{place_found, place_missing}
use Rattle.qvt_slots.proofs.put.place_of.Goals as goal

pub returns : goal.returns
returns c = place_found _ c.args.feature.0 _ (sym c.place.ensures ∙ c.in-Some.is)

pub unreachable-requires : goal.unreachable-requires
unreachable-requires c = clash _ c.requires (place_missing _ c.args.feature.0 (sym c.place.ensures ∙ c.in-None.is))
