-- What the code holds of the heads of a transformation, as the definitions say it; and what is told of them, in two parts.
use Rattle.std.specs.Prelude.{List, [], ◌++◌}
use Rattle.std.specs.List.{flat_map}
use Rattle.qvt_metamodel.specs.Metamodels.{Metamodels}
use Rattle.qvt_tree_types.specs.Module.{ModuleTerm}
use Rattle.qvt_types_lists.specs.Classes.{above_told}
use Rattle.qvt_types_lists.specs.Written.{all_declared, classes_told}
use Rattle.qvt_types_data.specs.declared.refusal.TypingRefusal.{TypingRefusal}
use Rattle.qvt_types_paths.specs.ModelTypes.{NamedTypes, model_types_told}
use Rattle.qvt_types_paths.specs.Models.{models_told}
use Rattle.qvt_types_lists.specs.Units.{head_told, same_told, overrides_told, lists_told, main_told}
use Rattle.qvt_types_context.specs.Context.{DeclaredHeads}
use Rattle.qvt_types_context.specs.Accepts.{reuse_lists}
use Rattle.qvt_types_heads.specs.declared.declarations.Declarations.{Declarations}

abbrev pub heads_over : Metamodels → Declarations → DeclaredHeads
heads_over m d = record { given = m; metas = d.units.metas; types = d.types; models = d.models; units = d.units.units; first = d.first; flags = d.typed }

-- what is told of the units: of each by itself, and of each by what stands beside it
unfoldable pub units_told : DeclaredHeads → ModuleTerm → List TypingRefusal
units_told h t =
    flat_map (head_told h.given h.metas h.types h.models) t.units
    ++ same_told [] h.units
    ++ overrides_told h.metas h.units h.units
    ++ lists_told h.given h.metas h.types h.units (reuse_lists h t.units) 0 t.units
    ++ main_told h.units t.end

-- what is told of model types, of model parameters and of the intermediate classes
unfoldable pub types_told : Metamodels → NamedTypes → ModuleTerm → List TypingRefusal
types_told m names t =
    model_types_told m [] t.model_types
    ++ models_told names [] t.params
    ++ classes_told m names [] t.units
    ++ above_told (all_declared m names t.units)
