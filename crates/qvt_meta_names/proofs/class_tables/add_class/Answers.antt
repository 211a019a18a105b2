use Rattle.std.proofs.Common.{◌≡◌, ◌∙◌, Some, None, true, ◌==◌, ◌&&◌, ap, sym, arith}
use Rattle.std.specs.Prelude.{if◌then◌else◌}
use Rattle.std.specs.Option.{option_or}
use Rattle.std.specs.Map.{lookup}
use Rattle.std.specs.Str.{bytes_eq}
use Rattle.std.proofs.lemmas.Bool.{eq-eqb}
use Rattle.qvt_meta_names.proofs.class_tables.add_class.Goals as goal

pub returns : goal.returns
returns c = λ name.
    let here : (c.args.class.now.metamodel == c.args.metamodel) ≡ true = eq-eqb c.args.class.now.metamodel c.args.metamodel (omega (arith, c.if-class-metamodel.false)) in
    c.in_ok-add_text.ensures name
    ∙ ap (λ b. option_or (lookup (bytes_eq name) c.args.table.now) (if b && bytes_eq name c.args.class.now.name then Some c.args.number else None)) (sym here)
