use Rattle.std.proofs.Common.{◌≡◌, drop, map}
use Rattle.std.specs.List.{list_any}
use Rattle.std.specs.Str.{bytes_eq}
use Rattle.qvt_json.proofs.value.is_key.Given as goal

abbrev pub invariant-loop-other : goal.invariant-loop-other
invariant-loop-other l = list_any (λ x. bytes_eq x l.key) (map (λ x. x.now) (drop l.other-index l.keys)) ≡ list_any (λ x. bytes_eq x l.key) (map (λ x. x.now) l.keys)
