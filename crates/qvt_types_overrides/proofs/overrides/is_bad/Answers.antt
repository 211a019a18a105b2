use Rattle.std.proofs.Common.{◌∙◌, true, false}
use Rattle.qvt_types_overrides.proofs.Overriding.{good_is, mapping_alike, helper_alike, query_alike, class_alone, main_alone, constructor_alone}
use Rattle.qvt_types_overrides.proofs.BadAbove.{bad_by}
use Rattle.qvt_types_overrides.proofs.overrides.is_bad.Goals as goal

pub returns-in-Class : goal.returns-in-Class
returns-in-Class c = good_is c.args.metas.now c.args.units.now c.args.unit.now (class_alone c.args.unit.now.sort c.in-Class.is)

pub returns-in-Main : goal.returns-in-Main
returns-in-Main c = good_is c.args.metas.now c.args.units.now c.args.unit.now (main_alone c.args.unit.now.sort c.in-Main.is)

pub returns-in-Constructor : goal.returns-in-Constructor
returns-in-Constructor c = good_is c.args.metas.now c.args.units.now c.args.unit.now (constructor_alone c.args.unit.now.sort c.in-Constructor.is)

pub returns-in-Helper : goal.returns-in-Helper
returns-in-Helper c = c.clashes.ensures
    ∙ bad_by (λ t u. (c.same_means_equal.ensures t u).0) c.args.metas.now c.ancestors_are_least.ensures c.args.units.now false c.args.helpers.now c.args.unit.now c.requires.helpers (helper_alike c.args.unit.now.sort c.in-Helper.is)

pub returns-in-Query : goal.returns-in-Query
returns-in-Query c = c.clashes-in-Query.ensures
    ∙ bad_by (λ t u. (c.same_means_equal.ensures t u).0) c.args.metas.now c.ancestors_are_least.ensures c.args.units.now false c.args.helpers.now c.args.unit.now c.requires.helpers (query_alike c.args.unit.now.sort c.in-Query.is)

pub returns-in-Mapping : goal.returns-in-Mapping
returns-in-Mapping c = c.clashes-in-Mapping.ensures
    ∙ bad_by (λ t u. (c.same_means_equal.ensures t u).0) c.args.metas.now c.ancestors_are_least.ensures c.args.units.now true c.args.mappings.now c.args.unit.now c.requires.mappings (mapping_alike c.args.unit.now.sort _ c.in-Mapping.is)
