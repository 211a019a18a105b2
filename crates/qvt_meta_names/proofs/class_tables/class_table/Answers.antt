use Rattle.std.proofs.Common.{◌==◌, ◌&&◌, arith}
use Rattle.std.specs.Str.{bytes_eq}
use Rattle.qvt_metamodel.specs.declared.info.ClassInfo.{ClassInfo}
use Rattle.qvt_meta_names.proofs.Tables.{first-all}
use Rattle.qvt_meta_names.proofs.class_tables.class_table.Goals as goal

pub returns : goal.returns
returns c = λ name.
    first-all (λ (k : ClassInfo). (k.metamodel == c.args.metamodel) && bytes_eq name k.name) c.loop-number.number c.args.classes.now _ (omega (arith, c.loop-number-test.false, c.requires)) (c.loop-number.invariant name)
