use Rattle.std.proofs.Common.{◌≡◌, ◌∙◌, ℕ, ◌+◌, ◌<◌, ◌^◌, ◌++◌, length, map, None, refl, ap, sym, subst, arith}
use Rattle.std.specs.List.{AllByRecursion}
use Rattle.qvt_metamodel.specs.declared.begin.Begin.{Begin}
use Rattle.qvt_metamodel.specs.declared.row.Row.{Row}
use Rattle.qvt_metamodel.specs.Metamodels.{Metamodels}
use Rattle.qvt_metamodel.specs.Joined.{ClassFits, FeatureFits, class_info_on, feature_info_on, row_on, joined}
use Rattle.qvt_metamodel.proofs.Bools.{ap2}
use Rattle.qvt_metamodel.specs.Lists.{all_lists}
use Rattle.qvt_metas.specs.Held.{capped_on}
use Rattle.qvt_metas.proofs.Lines.{lists_capped}
use Rattle.qvt_metas.proofs.Withs.{Both, both_of, classes_go_on, features_go_on, lists_go_on, rows_go_on, ranks_go_on, same, tables}
use Rattle.qvt_metas.proofs.metas.Metas.with.Goals as goal

pub class_infos_on-requires : goal.class_infos_on-requires
class_infos_on-requires c =
    let n0 : c.len.result ≡ length c.self.inside.metamodels.items = omega (arith, c.len.ensures) in
    let n1 : c.len-2.result ≡ length c.self.inside.classes.items = omega (arith, c.len-2.ensures) in
    let n2 : c.len-3.result ≡ length c.self.inside.features.items = omega (arith, c.len-3.ensures) in
    let m : Metamodels = record { metamodels = c.self.inside.metamodels.items; classes = c.self.inside.classes.items; features = c.self.inside.features.items; element = c.self.inside.element } in
    let n : Metamodels = record { metamodels = c.others.inside.metamodels.items; classes = c.others.inside.classes.items; features = c.others.inside.features.items; element = None } in
    let both : Both m n (all_lists c.others.inside.lists) c.others.inside.rows.items c.others.inside.ranks.items (record { metamodel = c.len.result; class = c.len-2.result; feature = c.len-3.result }) =
    both_of m n _ _ c.self.view_is c.others.view_is c.requires _ _ _ c.others.invariant _ _ _ n0 n1 n2 in
    subst (AllByRecursion (ClassFits (record { metamodel = c.len.result; class = c.len-2.result; feature = c.len-3.result }))) (sym c.as_slice-2.ensures.value) (classes_go_on _ _ _ _ _ _ both)

pub feature_infos_on-requires : goal.feature_infos_on-requires
feature_infos_on-requires c =
    let n0 : c.len.result ≡ length c.self.inside.metamodels.items = omega (arith, c.len.ensures) in
    let n1 : c.len-2.result ≡ length c.self.inside.classes.items = omega (arith, c.len-2.ensures) in
    let n2 : c.len-3.result ≡ length c.self.inside.features.items = omega (arith, c.len-3.ensures) in
    let m : Metamodels = record { metamodels = c.self.inside.metamodels.items; classes = c.self.inside.classes.items; features = c.self.inside.features.items; element = c.self.inside.element } in
    let n : Metamodels = record { metamodels = c.others.inside.metamodels.items; classes = c.others.inside.classes.items; features = c.others.inside.features.items; element = None } in
    let both : Both m n (all_lists c.others.inside.lists) c.others.inside.rows.items c.others.inside.ranks.items (record { metamodel = c.len.result; class = c.len-2.result; feature = c.len-3.result }) =
    both_of m n _ _ c.self.view_is c.others.view_is c.requires _ _ _ c.others.invariant _ _ _ n0 n1 n2 in
    subst (AllByRecursion (FeatureFits (record { metamodel = c.len.result; class = c.len-2.result; feature = c.len-3.result }))) (sym c.as_slice-3.ensures.value) (features_go_on _ _ _ _ _ _ both)

pub rows_on-requires : goal.rows_on-requires
rows_on-requires c =
    let n0 : c.len.result ≡ length c.self.inside.metamodels.items = omega (arith, c.len.ensures) in
    let n1 : c.len-2.result ≡ length c.self.inside.classes.items = omega (arith, c.len-2.ensures) in
    let n2 : c.len-3.result ≡ length c.self.inside.features.items = omega (arith, c.len-3.ensures) in
    let m : Metamodels = record { metamodels = c.self.inside.metamodels.items; classes = c.self.inside.classes.items; features = c.self.inside.features.items; element = c.self.inside.element } in
    let n : Metamodels = record { metamodels = c.others.inside.metamodels.items; classes = c.others.inside.classes.items; features = c.others.inside.features.items; element = None } in
    let both : Both m n (all_lists c.others.inside.lists) c.others.inside.rows.items c.others.inside.ranks.items (record { metamodel = c.len.result; class = c.len-2.result; feature = c.len-3.result }) =
    both_of m n _ _ c.self.view_is c.others.view_is c.requires _ _ _ c.others.invariant _ _ _ n0 n1 n2 in
    subst (AllByRecursion (λ (r : Row). c.len-2.result + r.start < 2 ^ 32)) (sym c.as_slice-4.ensures.value) (rows_go_on _ _ _ _ _ _ both)

pub ranks_on-requires : goal.ranks_on-requires
ranks_on-requires c =
    let n0 : c.len.result ≡ length c.self.inside.metamodels.items = omega (arith, c.len.ensures) in
    let n1 : c.len-2.result ≡ length c.self.inside.classes.items = omega (arith, c.len-2.ensures) in
    let n2 : c.len-3.result ≡ length c.self.inside.features.items = omega (arith, c.len-3.ensures) in
    let m : Metamodels = record { metamodels = c.self.inside.metamodels.items; classes = c.self.inside.classes.items; features = c.self.inside.features.items; element = c.self.inside.element } in
    let n : Metamodels = record { metamodels = c.others.inside.metamodels.items; classes = c.others.inside.classes.items; features = c.others.inside.features.items; element = None } in
    let both : Both m n (all_lists c.others.inside.lists) c.others.inside.rows.items c.others.inside.ranks.items (record { metamodel = c.len.result; class = c.len-2.result; feature = c.len-3.result }) =
    both_of m n _ _ c.self.view_is c.others.view_is c.requires _ _ _ c.others.invariant _ _ _ n0 n1 n2 in
    subst (AllByRecursion (λ (r : ℕ). c.len-2.result + r < 2 ^ 32)) (sym c.as_slice-5.ensures.value) (ranks_go_on _ _ _ _ _ _ both)

pub joined-requires-4 : goal.joined-requires-4
joined-requires-4 c =
    let b : Begin = record { metamodel = c.len.result; class = c.len-2.result; feature = c.len-3.result } in
    (capped_on b, c.in_ok-lines.ensures ∙ ap (map (map (capped_on b))) c.lines.ensures)

pub whole-requires : goal.whole-requires
whole-requires c =
    let n0 : c.len.result ≡ length c.self.inside.metamodels.items = omega (arith, c.len.ensures) in
    let n1 : c.len-2.result ≡ length c.self.inside.classes.items = omega (arith, c.len-2.ensures) in
    let n2 : c.len-3.result ≡ length c.self.inside.features.items = omega (arith, c.len-3.ensures) in
    let m : Metamodels = record { metamodels = c.self.inside.metamodels.items; classes = c.self.inside.classes.items; features = c.self.inside.features.items; element = c.self.inside.element } in
    let n : Metamodels = record { metamodels = c.others.inside.metamodels.items; classes = c.others.inside.classes.items; features = c.others.inside.features.items; element = None } in
    let both : Both m n (all_lists c.others.inside.lists) c.others.inside.rows.items c.others.inside.ranks.items (record { metamodel = c.len.result; class = c.len-2.result; feature = c.len-3.result }) =
    both_of m n _ _ c.self.view_is c.others.view_is c.requires _ _ _ c.others.invariant _ _ _ n0 n1 n2 in
    let ems = c.in_ok-joined.ensures ∙ ap2 (λ x y. x ++ y) c.as_slice-6.ensures.value (c.in_ok-metamodels.ensures ∙ c.as_slice.ensures.value) in
    let ecs = c.in_ok-joined-2.ensures ∙ ap2 (λ x y. x ++ y) c.as_slice-7.ensures.value (c.in_ok-classes.ensures ∙ ap (map (class_info_on (record { metamodel = c.len.result; class = c.len-2.result; feature = c.len-3.result }))) c.as_slice-2.ensures.value) in
    let efs = c.in_ok-joined-3.ensures ∙ ap2 (λ x y. x ++ y) c.as_slice-8.ensures.value (c.in_ok-features.ensures ∙ ap (map (feature_info_on (record { metamodel = c.len.result; class = c.len-2.result; feature = c.len-3.result }))) c.as_slice-3.ensures.value) in
    let lines : c.in_ok-lines.lines.items ≡ map (map (capped_on (record { metamodel = c.len.result; class = c.len-2.result; feature = c.len-3.result }))) c.others.inside.lists.lines =
    c.in_ok-lines.ensures ∙ ap (map (map (capped_on (record { metamodel = c.len.result; class = c.len-2.result; feature = c.len-3.result })))) c.lines.ensures in
    let els = c.in_ok-joined-4.ensures ∙ ap (λ x. all_lists c.self.inside.lists ++ x) (lists_capped (record { metamodel = c.len.result; class = c.len-2.result; feature = c.len-3.result }) c.others.inside.lists.lines c.others.inside.lists.fronts _ lines (lists_go_on _ _ _ _ _ _ both)) in
    let ers = c.in_ok-joined-5.ensures ∙ ap2 (λ x y. x ++ y) c.as_slice-9.ensures.value (c.in_ok-rows.ensures ∙ ap (map (row_on (record { metamodel = c.len.result; class = c.len-2.result; feature = c.len-3.result }))) c.as_slice-4.ensures.value) in
    let eks = c.in_ok-joined-6.ensures ∙ ap2 (λ x y. x ++ y) c.as_slice-10.ensures.value (c.in_ok-ranks.ensures ∙ ap (map (λ (r : ℕ). c.len-2.result + r)) c.as_slice-5.ensures.value) in
    tables m n _ _ _ _ both _ _ _ refl ems ecs efs _ _ _ _ _ _ c.self.invariant.kept els ers eks

pub returns : goal.returns
returns c =
    let n0 : c.len.result ≡ length c.self.inside.metamodels.items = omega (arith, c.len.ensures) in
    let n1 : c.len-2.result ≡ length c.self.inside.classes.items = omega (arith, c.len-2.ensures) in
    let n2 : c.len-3.result ≡ length c.self.inside.features.items = omega (arith, c.len-3.ensures) in
    let m : Metamodels = record { metamodels = c.self.inside.metamodels.items; classes = c.self.inside.classes.items; features = c.self.inside.features.items; element = c.self.inside.element } in
    let n : Metamodels = record { metamodels = c.others.inside.metamodels.items; classes = c.others.inside.classes.items; features = c.others.inside.features.items; element = None } in
    let both : Both m n (all_lists c.others.inside.lists) c.others.inside.rows.items c.others.inside.ranks.items (record { metamodel = c.len.result; class = c.len-2.result; feature = c.len-3.result }) =
    both_of m n _ _ c.self.view_is c.others.view_is c.requires _ _ _ c.others.invariant _ _ _ n0 n1 n2 in
    let ems = c.in_ok-joined.ensures ∙ ap2 (λ x y. x ++ y) c.as_slice-6.ensures.value (c.in_ok-metamodels.ensures ∙ c.as_slice.ensures.value) in
    let ecs = c.in_ok-joined-2.ensures ∙ ap2 (λ x y. x ++ y) c.as_slice-7.ensures.value (c.in_ok-classes.ensures ∙ ap (map (class_info_on (record { metamodel = c.len.result; class = c.len-2.result; feature = c.len-3.result }))) c.as_slice-2.ensures.value) in
    let efs = c.in_ok-joined-3.ensures ∙ ap2 (λ x y. x ++ y) c.as_slice-8.ensures.value (c.in_ok-features.ensures ∙ ap (map (feature_info_on (record { metamodel = c.len.result; class = c.len-2.result; feature = c.len-3.result }))) c.as_slice-3.ensures.value) in
    c.in_ok-next.ensures ∙ same m n _ _ _ _ both _ _ _ refl ems ecs efs ∙ ap2 joined c.self.view_is c.others.view_is
