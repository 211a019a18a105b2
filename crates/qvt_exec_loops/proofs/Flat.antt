-- Values that are no collections are flat already.
use Rattle.std.proofs.Common.{◌≡◌, ◌∙◌, refl, sym, ap, true, List, [], ◌∷◌, ◌++◌}
use Rattle.std.specs.List.{list_all}
use Rattle.qvt_relation.proofs.Bools.{and_left, and_right}
use Rattle.qvt_value.specs.declared.value.Value.{Value, Coll'}
use Rattle.qvt_ocl_words.specs.Lists.{innermost, flattened}
use Rattle.qvt_exec_loops.specs.Singles.{is_single_value}

alone : (v : Value) → is_single_value v ≡ true → innermost v ≡ v ∷ []
alone (Coll' k s r) h = absurd (cc)
alone v h = refl

pub flat_already : (vs : List Value) → list_all is_single_value vs ≡ true → vs ≡ flattened vs
flat_already [] h = refl
flat_already (v ∷ vs) h =
    ap (λ (ws : List Value). v ∷ ws) (flat_already vs (and_right (is_single_value v) (list_all is_single_value vs) h))
    ∙ ap (λ (ws : List Value). ws ++ flattened vs) (sym (alone v (and_left (is_single_value v) (list_all is_single_value vs) h)))
