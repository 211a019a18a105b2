use Rattle.std.proofs.Common.{◌∙◌, ap, List}
use Rattle.qvt_value.specs.declared.value.Value.{Value}
use Rattle.qvt_value.specs.declared.value.Value.TheViews.{Coll}
use Rattle.qvt_value.specs.Make.{made}
use Rattle.qvt_ocl_made.proofs.Collections.{list_test}
use Rattle.qvt_ocl_made.proofs.as_made.is_made_of_itself.Goals as goal

pub returns-in-Ok : goal.returns-in-Ok
returns-in-Ok c =
    list_test c.args.kind c.args.items.now c.in-Ok.again c.is_collection_of.result
    (c.in-Ok.ensures.is ∙ ap (λ (xs : List Value). Coll c.args.kind (made c.args.kind xs)) c.in_ok-copies.ensures) c.is_collection_of.ensures
