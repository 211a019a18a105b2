use Rattle.std.proofs.Common.{◌≡◌, take, false}
use Rattle.std.specs.List.{list_any}
use Rattle.qvt_store.specs.Draft.{drafted, overfills_elsewhere}
use Rattle.qvt_store.proofs.store.Store.overfills_any.Given as goal

abbrev pub invariant-loop-added : goal.invariant-loop-added
invariant-loop-added l = list_any (overfills_elsewhere (drafted l.self l.draft) l.back) (take l.added-index l.objects) ≡ false
