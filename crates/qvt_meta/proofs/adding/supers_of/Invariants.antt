use Rattle.std.proofs.Common.{◌≡◌, ◌+◌, take, map}
use Rattle.qvt_metas.specs.Added.{place_in}
use Rattle.qvt_meta.proofs.adding.supers_of.Given as goal

abbrev pub invariant-loop-name : goal.invariant-loop-name
invariant-loop-name l = l.numbers ≡ map (λ name. record { 0 = l.begin.class + place_in l.classes name }) (take l.name-index l.supers)
