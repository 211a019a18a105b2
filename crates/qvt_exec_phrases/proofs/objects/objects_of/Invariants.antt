use Rattle.std.proofs.Common.{◌≡◌, ◌++◌, drop}
use Rattle.std.specs.Prelude.{option_map}
use Rattle.qvt_run_rules.specs.Sources.{all_objects, present_items}
use Rattle.qvt_exec_phrases.proofs.objects.objects_of.Given as goal

abbrev pub invariant-loop-value : goal.invariant-loop-value
invariant-loop-value l = option_map (λ os. l.objects ++ os) (all_objects (present_items (drop l.value-index l.values))) ≡ all_objects (present_items l.values)
