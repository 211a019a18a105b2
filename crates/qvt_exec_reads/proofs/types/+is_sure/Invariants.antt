use Rattle.std.proofs.Common.{◌≡◌, ◌||◌, true, take}
use Rattle.std.specs.List.{list_all}
use Rattle.qvt_ocl_words.specs.Lists.{is_null}
use Rattle.qvt_types_data.specs.Term.{ty_view}
use Rattle.qvt_run_rules.specs.Typed.{is_sure}
use Rattle.qvt_exec_reads.proofs.types.+is_sure.Given as goal

abbrev pub invariant-loop-item : goal.invariant-loop-item
invariant-loop-item l = list_all (λ w. is_null w || is_sure l.store (ty_view l.of_items) w) (take l.item-index l.item-items) ≡ true
