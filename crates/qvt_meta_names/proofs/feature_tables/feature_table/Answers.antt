use Rattle.std.proofs.Common.{arith}
use Rattle.std.specs.Str.{bytes_eq}
use Rattle.qvt_metamodel.specs.declared.info.FeatureInfo.{FeatureInfo}
use Rattle.qvt_meta_names.proofs.Tables.{first-all}
use Rattle.qvt_meta_names.proofs.feature_tables.feature_table.Goals as goal

pub returns : goal.returns
returns c = λ name.
    first-all (λ (f : FeatureInfo). bytes_eq name f.name) c.loop-number.number c.args.features.now _ (omega (arith, c.loop-number-test.false, c.requires)) (c.loop-number.invariant name)
