use Rattle.std.proofs.Common.{◌∙◌}
use Rattle.qvt_types_lists.proofs.SameUnits.{class_sort, main_sort, helper_sort, query_sort, constructor_sort, mapping_sort}
use Rattle.qvt_types_lists.proofs.same.first_same.Goals as goal

pub returns-in-Class : goal.returns-in-Class
returns-in-Class c = class_sort c.args.units.now c.args.unit.now c.in-Class.is

pub returns-in-Main : goal.returns-in-Main
returns-in-Main c = c.main.ensures ∙ main_sort c.args.units.now c.args.unit.now c.in-Main.is

pub returns-in-Helper : goal.returns-in-Helper
returns-in-Helper c = c.first_called.ensures ∙ helper_sort c.args.units.now c.args.unit.now c.in-Helper.is

pub returns-in-Query : goal.returns-in-Query
returns-in-Query c = c.first_called-in-Query.ensures ∙ query_sort c.args.units.now c.args.unit.now c.in-Query.is

pub returns-in-Constructor : goal.returns-in-Constructor
returns-in-Constructor c = c.first_constructor.ensures ∙ constructor_sort c.args.units.now c.args.unit.now c.in-Constructor.is

pub returns-in-Mapping : goal.returns-in-Mapping
returns-in-Mapping c = c.first_called-in-Mapping.ensures ∙ mapping_sort c.args.units.now c.args.unit.now _ c.in-Mapping.is
