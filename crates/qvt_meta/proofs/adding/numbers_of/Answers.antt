use Rattle.std.proofs.Common.{◌∙◌, [], map, ap}
use Rattle.qvt_metamodel.specs.declared.info.EnumInfo.{EnumInfo}
use Rattle.qvt_json.specs.Repeated.{repeated}
use Rattle.qvt_metas.specs.Added.{names_of}
use Rattle.qvt_meta_checks.proofs.Passing.{enums_alone, classes_alone}
use Rattle.qvt_meta.proofs.adding.numbers_of.Goals as goal

pub places_of-requires-clause-enums : goal.places_of-requires-clause-enums
places_of-requires-clause-enums c = ap (λ es. repeated [] (map (λ (e : EnumInfo). e.name) es)) c.as_slice-enums.ensures ∙ enums_alone c.args.meta.now c.requires

pub places_of-requires-clause-classes : goal.places_of-requires-clause-classes
places_of-requires-clause-classes c = ap (λ ks. repeated [] (names_of ks)) c.as_slice-classes.ensures ∙ classes_alone c.args.meta.now c.requires
