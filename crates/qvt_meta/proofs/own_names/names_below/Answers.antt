use Rattle.std.proofs.Common.{arith}
use Rattle.std.specs.Str.{bytes_eq}
use Rattle.qvt_metamodel.specs.declared.declared.DeclaredFeature.{DeclaredFeature}
use Rattle.qvt_meta_names.proofs.Tables.{first-all}
use Rattle.qvt_meta.proofs.own_names.names_below.Goals as goal

pub returns : goal.returns
returns c = λ name.
    first-all (λ (f : DeclaredFeature). bytes_eq name f.name) c.loop-place.place c.args.features.now _ (omega (arith, c.loop-place-test.false, c.requires)) (c.loop-place.invariant name)
