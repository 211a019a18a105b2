-- What an operation of a model asks of each object of it (QVT 1.3, 8.3.4.1 to 8.3.4.3).
use Rattle.std.specs.Prelude.{Bool, true}
use Rattle.qvt_base.specs.declared.numbers.Oid.{Oid}
use Rattle.qvt_metas.specs.Descends.{descends}
use Rattle.qvt_store.specs.Contents.{Contents, class_of}
use Rattle.qvt_run_rules.specs.declared.questions.ModelQuery.{ModelQuery}
use Rattle.qvt_run_rules.specs.declared.questions.ModelQuery.TheVariants.{Objects, RootObjects, ObjectsOfType}
use Rattle.qvt_run_rules.specs.Store.{is_root}

abbrev pub is_asked : Contents → ModelQuery → Oid → Bool
is_asked s Objects = λ o. true
is_asked s RootObjects = is_root s
is_asked s (ObjectsOfType c) = λ o. descends s.metas (class_of s o.0) c
