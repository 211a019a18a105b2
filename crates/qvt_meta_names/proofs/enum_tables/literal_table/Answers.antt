use Rattle.std.proofs.Common.{arith}
use Rattle.std.specs.Str.{bytes_eq}
use Rattle.qvt_meta_names.proofs.Tables.{first-all}
use Rattle.qvt_meta_names.proofs.enum_tables.literal_table.Goals as goal

pub returns : goal.returns
returns c = λ name.
    first-all (bytes_eq name) c.loop-number.number c.args.literals.now _ (omega (arith, c.loop-number-test.false, c.requires)) (c.loop-number.invariant name)
