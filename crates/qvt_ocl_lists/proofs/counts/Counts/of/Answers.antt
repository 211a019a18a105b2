use Rattle.std.proofs.Common.{◌∙◌, ℕ, List, ap}
use Rattle.std.specs.Prelude.{Option, unwrap_or}
use Rattle.qvt_value.specs.declared.value.Value.{Value}
use Rattle.qvt_ocl_lists.specs.Counts.{left}
use Rattle.qvt_ocl_lists.proofs.CountTables.{looked}
use Rattle.qvt_ocl_lists.proofs.counts.Counts.of.Goals as goal

pub returns : goal.returns
returns c =
    c.unwrap_or.ensures
    ∙ ap (λ (o : Option ℕ). unwrap_or o 0) (c.copied.ensures ∙ c.get.ensures.value ∙ looked c.args.value.now c.self.inside.counts.entries)
    ∙ ap (λ (t : List (Value × ℕ)). left t c.args.value.now) c.self.view_is
