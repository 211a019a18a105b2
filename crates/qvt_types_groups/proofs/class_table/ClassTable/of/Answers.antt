use Rattle.std.proofs.Common.{◌≤◌, length, arith}
use Rattle.std.specs.Map.{lookup}
use Rattle.qvt_meta_names.proofs.Tables.{first-all}
use Rattle.qvt_types_groups.specs.Keys.{same_key, is_key}
use Rattle.qvt_types_groups.proofs.class_table.ClassTable.of.Goals as goal

pub returns : goal.returns
returns c = λ k. first-all (is_key k) c.loop-place.place c.args.keys.now (lookup (same_key k) c.loop-place.table)
    (let all : length c.args.keys.now ≤ c.loop-place.place = omega (arith, c.loop-place-test.false) in all) (c.loop-place.invariant k)
