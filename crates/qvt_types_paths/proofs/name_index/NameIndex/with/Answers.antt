use Rattle.std.proofs.Common.{◌≡◌, ◌∙◌, ◌+◌, List, ℕ, ◌++◌, ◌∷◌, [], length, position, Some, None, ap, sym, arith}
use Rattle.std.specs.Prelude.{if◌then◌else◌}
use Rattle.std.specs.Option.{option_or}
use Rattle.std.specs.Str.{bytes_eq}
use Rattle.std.proofs.lemmas.List.{length-append}
use Rattle.qvt_types_paths.proofs.Places.{position-push}
use Rattle.qvt_types_paths.proofs.name_index.NameIndex.with.Goals as goal

pub invariant_of-result : goal.invariant_of-result
invariant_of-result c =
    let place : c.count-place.result ≡ length c.self.inside.names = c.count-place.ensures ∙ sym (ap length c.self.view_is) in
    let all : c.push.new.self ≡ c.self.inside.names ++ c.args.name.now ∷ [] = c.in_ok-push.ensures.ok ∙ ap (λ (x : List ℕ). c.self.inside.names ++ x ∷ []) c.in_ok-from_str.ensures in
    record {
      found = λ other.
          c.in_ok-enter.ensures other
          ∙ (λ t. option_or (c.self.invariant.found other t) (if bytes_eq other c.args.name.now then Some (place t) else None))
          ∙ sym (position-push (bytes_eq other) c.self.inside.names c.args.name.now)
          ∙ ap (position (bytes_eq other)) (sym all);
      few = (let more : length c.push.new.self ≡ length c.self.inside.names + 1 = ap length all ∙ length-append c.self.inside.names (c.args.name.now ∷ []) in omega (arith, more, place, c.self.invariant.few, c.if-place.false));
    }
