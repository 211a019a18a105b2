use Rattle.std.proofs.Common.{◌≡◌, map}
use Rattle.serde_json.specs.View.{members_view}
use Rattle.qvt_json.specs.Json.{keys_among}
use Rattle.qvt_json.proofs.value.has_only.Given as goal

abbrev pub invariant-loop-key : goal.invariant-loop-key
invariant-loop-key l = keys_among (map (λ x. x.now) l.keys) (members_view l.initial.key-iterator) ≡ keys_among (map (λ x. x.now) l.keys) (members_view l.key-iterator)
