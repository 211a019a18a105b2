-- The value that items stand for: the collection whose items are lent, or what was made.
use Rattle.qvt_value.specs.declared.value.Value.{Value}
use Rattle.qvt_value.specs.declared.value.Value.TheViews.{Coll}
use Rattle.qvt_value.specs.declared.items.Items.{Items}
use Rattle.qvt_value.specs.declared.items.Items.TheVariants.{Lent, Made}

abbrev pub stands_for : Items → Value
stands_for (Lent k xs) = Coll k xs.now
stands_for (Made v) = v
