-- What `+=` adds to a variable.
use Rattle.std.proofs.Common.{◌≡◌, false, refl, [], ◌∷◌, Option}
use Rattle.std.specs.Prelude.{if◌then◌else◌}
use Rattle.qvt_metas.specs.Metamodels.{Metamodels}
use Rattle.qvt_types_data.specs.declared.ty.Ty.{Ty}
use Rattle.qvt_types_words.specs.Types.{Collection}
use Rattle.qvt_types_words.specs.Rulings.{items_conform}
use Rattle.qvt_value.specs.declared.value.Value.{Value, Null}
use Rattle.qvt_ocl_words.specs.Lists.{is_null}
use Rattle.qvt_run_rules.specs.Sources.{items_of}
use Rattle.qvt_run_rules.specs.Statements.{added_items}

pub items_added : (m : Metamodels) (c : Option Collection) (t : Ty) (v : Value) → is_null v ≡ false → added_items m c t v ≡ (if items_conform m c t then items_of v else v ∷ [])
items_added m c t Null h = cc
items_added m c t v h = refl
