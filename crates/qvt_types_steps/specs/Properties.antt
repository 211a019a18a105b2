-- What is ruled of a dot without arguments: a property of an object (OCL 2.4, 7.5.3).
use Rattle.std.specs.Prelude.{ℕ, List, Option, Some, None}
use Rattle.qvt_base.specs.declared.numbers.FeatureNo.{FeatureNo}
use Rattle.qvt_types_words.specs.Metamodels.{Metamodels, shape_of}
use Rattle.qvt_types_words.specs.Named.{feature_named}
use Rattle.qvt_types_data.specs.declared.ty.Ty.{Ty}
use Rattle.qvt_types_data.specs.declared.ty.Ty.TheVariants as ty
use Rattle.qvt_types_data.specs.Notes.{plain}
use Rattle.qvt_types_data.specs.declared.note.Reading.TheVariants as reading
use Rattle.qvt_types_data.specs.declared.refusal.RefusalKind.TheVariants as refusal
use Rattle.qvt_types_data.specs.declared.ruling.Ruling.{Ruling}
use Rattle.qvt_types_data.specs.declared.ruling.Ruling.TheVariants.{Holds, Fails, Silent}
use Rattle.qvt_types_words.specs.Types.{innermost, feature_type}
use Rattle.qvt_types_steps.specs.Calls.{collected}

-- the feature of this name that the values of the type have
abbrev pub feature_in : Metamodels → Ty → List ℕ → Option FeatureNo
feature_in m (ty.Class c) name = feature_named m c.0 name
feature_in m t name = None

abbrev pub feature_read : Metamodels → Option FeatureNo → Ruling
feature_read m None = Fails refusal.UnknownName
feature_read m (Some f) = Holds (plain (reading.Feature f) (Some (feature_type (shape_of m f.0))))

abbrev pub property : Metamodels → List ℕ → Option Ty → Ruling
property m name None = Silent
property m name (Some t) = collected t (feature_read m (feature_in m (innermost t) name))
