use Rattle.std.proofs.Common.{◌≡◌, ◌∙◌, ◌++◌, sym, ap, subst, OnOk}
use Rattle.qvt_ocl_words.specs.Lists.{innermost, flattened}
use Rattle.qvt_ocl_lists.proofs.ItemLists.{coll_innermost}
use Rattle.qvt_ocl_lists.proofs.flat.+flatten.Goals as goal

pub push_innermost-returns-in-Coll : goal.push_innermost-returns-in-Coll
push_innermost-returns-in-Coll t c =
    subst (λ l. OnOk c.push_flattened.result (c.push_flattened.new.out ≡ c.args.out.now ++ l))
    (ap flattened c.as_slice.ensures ∙ sym (ap innermost c.in-Coll.is ∙ coll_innermost c.in-Coll.field-0 c.in-Coll.items))
    c.push_flattened.ensures
