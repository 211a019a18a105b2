use Rattle.std.proofs.Common.{◌∙◌, [], ap}
use Rattle.qvt_json.specs.Repeated.{repeated}
use Rattle.qvt_metas.specs.Added.{names_of}
use Rattle.qvt_meta_checks.proofs.Passing.{classes_alone}
use Rattle.qvt_meta.proofs.meta.types_checked.Goals as goal

pub names_of-requires : goal.names_of-requires
names_of-requires c = ap (λ ks. repeated [] (names_of ks)) c.as_slice.ensures ∙ classes_alone c.args.meta c.requires.same_name
