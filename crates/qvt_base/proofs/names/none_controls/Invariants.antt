use Rattle.std.proofs.Common.{◌≡◌, length, not}
use denote.Text.{Utf8}
use denote.Shadow.{shadow}
use Rattle.std.specs.List.{list_all}
use Rattle.std.specs.Str.{chars}
use Rattle.qvt_base.specs.Names.{is_control}
use Rattle.qvt_base.proofs.names.none_controls.Given as goal

abbrev pub invariant-loop-c : goal.invariant-loop-c
invariant-loop-c l = shadow (Utf8 l.rest) × (list_all (λ c. not (is_control c)) (chars l.rest) ≡ list_all (λ c. not (is_control c)) (chars l.fn.text))

abbrev pub decreases-loop-c : goal.decreases-loop-c
decreases-loop-c l = length l.rest
