use Rattle.std.proofs.Common.{◌≡◌, map, take}
use Rattle.qvt_tree_types.specs.Module.{field_view}
use Rattle.qvt_types_classes.specs.Written.{property_of}
use Rattle.qvt_types_classes.proofs.declared.properties_of.Given as goal

abbrev pub invariant-loop-field : goal.invariant-loop-field
invariant-loop-field l = l.properties ≡ map (property_of l.metas l.names) (map field_view (take l.field-index l.fields))
