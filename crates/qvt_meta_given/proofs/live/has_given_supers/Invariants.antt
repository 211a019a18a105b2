use Rattle.std.proofs.Common.{◌≡◌, true, take}
use Rattle.std.specs.List.{list_all}
use Rattle.qvt_meta_given.specs.Given.{is_given_number}
use Rattle.qvt_meta_given.proofs.live.has_given_supers.Given as goal

abbrev pub invariant-loop-superclass : goal.invariant-loop-superclass
invariant-loop-superclass l = list_all (is_given_number l.metas l.classes) (take l.superclass-index l.class.supers) ≡ true
