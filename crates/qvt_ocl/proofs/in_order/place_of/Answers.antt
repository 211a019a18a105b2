use Rattle.std.proofs.Common.{rules}
use Rattle.std.specs.Ordering.{is_lt}
use Rattle.std.proofs.lemmas.List.Sorted.{IsPartitionPoint-from_clause}
use Rattle.qvt_value.specs.Order.{order_of}
use Rattle.qvt_ocl.proofs.Placed.{is_parted, put_sorted}
use Rattle.qvt_ocl.proofs.in_order.place_of.Goals as goal

pub returns-clause-place : goal.returns-clause-place
returns-clause-place c =
    put_sorted c.args.items.now c.partition_point.result c.args.item.now c.requires c.partition_point.ensures.bound
    (IsPartitionPoint-from_clause (λ y. is_lt (order_of y c.args.item.now)) c.args.items.now c.partition_point.result c.partition_point.ensures.partitioned
    (is_parted c.args.items.now c.args.item.now c.requires) (λ a r q k. search rules))
