use Rattle.std.proofs.Common.{◌∙◌, ap, length}
use Rattle.qvt_tree_types.specs.Module.{module_view, unit_view}
use Rattle.std.specs.Prelude.{map}
use Rattle.qvt_types_heads.proofs.Read.{heads_read, told_read}
use Rattle.qvt_types_heads.proofs.reading.declared.Goals as goal

pub returns-clause-heads : goal.returns-clause-heads
returns-clause-heads c =
    heads_read c.args.given.now (module_view c.args.module.now) c.as_slice.result.now (map unit_view c.as_slice-written.result.now) c.in_ok-types.types c.in_ok-models.models
    c.in_ok-units.units.metas c.in_ok-units.units.units (length c.feature_infos.result.now) c.parts-metas.result.1
    c.as_slice.ensures
    (ap (λ us. map unit_view us) c.as_slice-written.ensures)
    c.in_ok-types.ensures
    c.in_ok-models.ensures.models
    (ap (λ u. u.metas) c.in_ok-units.ensures ∙ ap (λ p. p.0) c.parts-metas.ensures ∙ c.in_ok-extended.ensures.metas)
    (ap (λ p. p.1) c.parts-metas.ensures ∙ c.in_ok-extended.ensures.typed)
    (ap (λ u. u.units) c.in_ok-units.ensures)
    (ap length c.feature_infos.ensures)

pub returns-clause-told : goal.returns-clause-told
returns-clause-told c =
    told_read c.args.given.now (module_view c.args.module.now) c.as_slice.result.now (map unit_view c.as_slice-written.result.now) c.in_ok-types.types c.args.log.now c.read_models.new.log
    c.with_classes.new.log
    c.as_slice.ensures
    (ap (λ us. map unit_view us) c.as_slice-written.ensures)
    c.in_ok-types.ensures
    c.in_ok-models.ensures.told
    c.in_ok-extended.ensures.told
