use Rattle.std.proofs.Common.{◌≡◌, ◌∙◌, suc, [], Some, None, ap, arith, get_or, map, sym}
use Rattle.std.specs.Prelude.{if◌then◌else◌}
use Rattle.std.specs.Map.{lookup}
use Rattle.std.specs.Option.{option_or}
use Rattle.std.specs.Str.{bytes_eq}
use Rattle.std.proofs.lemmas.List.{get_or-map, length-map}
use Rattle.qvt_meta_names.proofs.Tables.{first-all}
use Rattle.qvt_meta_given.specs.Given.{known_names}
use Rattle.qvt_meta_given.proofs.Known.{known_next, name_of}
use Rattle.qvt_meta_given.proofs.named.known_names.Goals as goal

pub loop-feature-preserved : goal.loop-feature-preserved
loop-feature-preserved c =
    let fs = c.args.features.now in
    let i = c.loop-feature.feature-index in
    let name_is : c.as_str.result.now ≡ get_or (map name_of fs) i [] = c.as_str.ensures ∙ ap name_of c.feature-item.is ∙ sym (get_or-map name_of fs i _ [] c.loop-feature-test.true) in
    let place : c.in-Some.number ≡ suc i = omega (arith, c.in-Some.ensures, c.loop-feature.invariant.last) in
    record {
      last = omega (arith, c.in-Some.ensures, c.loop-feature.invariant.last);
      table = λ name.
          known_next name (map name_of fs) i (lookup (bytes_eq name) c.loop-feature.table) (lookup (bytes_eq name) c.add_first.new.table) _ (omega (arith, c.loop-feature-test.true, length-map fs name_of))
          (c.loop-feature.invariant.table name)
          (c.in_ok-add_first.ensures name ∙ (λ t. option_or (lookup (bytes_eq name) c.loop-feature.table) (if bytes_eq name (name_is t) then Some (place t) else None)));
    }

pub returns : goal.returns
returns c = λ name.
    let names = known_names c.args.features.now in
    first-all (bytes_eq name) (suc c.loop-feature.feature-index) names (lookup (bytes_eq name) c.loop-feature.table) (omega (arith, c.loop-feature-test.false, length-map c.args.features.now name_of)) (c.loop-feature.invariant.table name)
