use Rattle.std.proofs.Common.{◌≡◌, ◌∙◌, ap, sym, get_or, option_map, Some, length, arith, ℕ, Option}
use Rattle.qvt_metas.specs.Added.{numbered}
use Rattle.qvt_metamodel.specs.declared.declared.MetaData.{MetaData}
use Rattle.qvt_metamodel.specs.Checks.{same_feature, repeated_feature, ClassAndName}
use Rattle.qvt_metamodel.specs.declared.declared.DeclaredClass.{DeclaredClass}
use Rattle.qvt_meta_checks.proofs.Passing.{from_next, from_found}
use Rattle.qvt_meta.proofs.same_feature.same_feature.Goals as goal

abbrev told : MetaData → ℕ → DeclaredClass → Option ClassAndName
told d i k = option_map (λ name. (k.name, name)) (repeated_feature (numbered d) i)

pub returns-in-Some : goal.returns-in-Some
unfolding same_feature
returns-in-Some c =
    let at : c.class-item.result ≡ get_or c.args.meta.now.classes c.loop-at.at c.class-item.result = c.class-item.is ∙ ap (λ xs. get_or xs c.loop-at.at c.class-item.result) c.as_slice-class-items.ensures in
    from_found (told c.args.meta.now) c.loop-at.at c.args.meta.now.classes c.class-item.result _ (c.in_ok-copy.field-0, c.in-Some.name)
    (omega (arith, c.loop-at-test.true, ap length c.as_slice-class-items.ensures)) c.loop-at.invariant
    (ap (λ (k : DeclaredClass). told c.args.meta.now c.loop-at.at k) (sym at)
    ∙ ap (option_map (λ name. (c.class-item.result.name, name))) (sym c.in_ok-name.ensures ∙ c.in-Some.is)
    ∙ ap (λ x. Some (x, c.in-Some.name)) (sym c.in_ok-copy.ensures))

pub loop-at-preserved : goal.loop-at-preserved
loop-at-preserved c =
    from_next (told c.args.meta.now) c.loop-at.at c.args.meta.now.classes c.class-item.result _
    (omega (arith, c.loop-at-test.true, ap length c.as_slice-class-items.ensures)) c.loop-at.invariant
    (ap (option_map (λ name. ((get_or c.args.meta.now.classes c.loop-at.at c.class-item.result).name, name))) (sym c.in_ok-name.ensures ∙ c.in_default.is))
