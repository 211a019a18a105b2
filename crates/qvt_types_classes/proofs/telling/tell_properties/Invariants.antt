use Rattle.std.proofs.Common.{◌≡◌, ◌++◌, map, take}
use Rattle.std.specs.List.{flat_map}
use Rattle.qvt_tree_types.specs.Module.{field_view, TypedName}
use Rattle.qvt_types_classes.specs.Written.{property_told, property_shape}
use Rattle.qvt_types_classes.proofs.telling.tell_properties.Given as goal

abbrev pub invariant-loop-field : goal.invariant-loop-field
invariant-loop-field l = l.log ≡ l.initial.log ++ flat_map (λ (f : TypedName). property_told (property_shape l.metas l.names f)) (map field_view (take l.field-index l.fields))
