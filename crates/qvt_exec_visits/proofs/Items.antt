-- Items that are looked up by the derived test of equality.
use Rattle.std.proofs.Common.{◌≡◌, ap, List, [], ◌∷◌, ◌++◌}
use Rattle.std.specs.Prelude.{if◌then◌else◌}
use Rattle.std.specs.List.{list_any}
use Rattle.indexmap.specs.IndexSet.{insert_key}
use Rattle.qvt_value.specs.declared.value.Value.{Value}
use Rattle.qvt_value.specs.contracts.value.ValuePartialEq.TheImpl as equality
use Rattle.qvt_value.proofs.OrderOfValues.{alike}
use Rattle.qvt_ocl_words.specs.Lists.{has}
use Rattle.qvt_exec_visits.specs.Visited.{with_item}

-- the derived test of equality finds what the order does
pub held : (xs : List Value) (x : Value) → list_any (equality.ghosts.eq x) xs ≡ has xs x
held xs x = λ i. list_any (λ y. alike x y i) xs

pub put_in : (xs : List Value) (x : Value) → insert_key equality.ghosts.eq xs x ≡ with_item xs x
put_in xs x = ap (λ b. if b then xs else xs ++ x ∷ []) (held xs x)
