use Rattle.std.proofs.Common.{◌∙◌, ℕ, Bool, length, ◌&&◌, ap, sym}
use Rattle.std.specs.List.{list_any, range_with_len}
use Rattle.std.proofs.lemmas.Bool.{lt-ltb}
use Rattle.qvt_metas.specs.Kept.{is_marked}
use Rattle.qvt_metas.specs.Metamodels.{Metamodels}
use Rattle.qvt_types_units.specs.Choice.{is_context_above, context_at}
use Rattle.qvt_types_choices.proofs.Sets.{any_same, in_range_below, some_in_both}
use Rattle.qvt_types_choices.proofs.stuck.is_contested.Goals as goal

pub returns-then-are_rivals : goal.returns-then-are_rivals
returns-then-are_rivals c =
    some_in_both m (over c.args.other) c.set_of.result.now c.set_of-then-are_rivals.result.now c.overlap.result c.set_of-then-are_rivals.ensures c.overlap.ensures
    ∙ any_same (λ d. is_marked c.set_of.result.now d && over c.args.other d) (λ d. over c.args.number d && over c.args.other d) (range_with_len 0 (length m.classes))
    (λ d i. ap (λ t. t && over c.args.other d) (c.set_of.ensures.marks d ∙ ap (λ t. t && over c.args.number d) (lt-ltb d (length m.classes) (in_range_below (length m.classes) d i))))
    ∙ ap (λ t. t && list_any (λ d. over c.args.number d && over c.args.other d) (range_with_len 0 (length m.classes))) (sym c.if-are_rivals.true ∙ c.are_rivals.ensures)
  where
    m : Metamodels
    m = c.args.metas.now

    over : ℕ → ℕ → Bool
    over n d = is_context_above m (context_at c.args.units.now n) d
