use Rattle.std.proofs.Common.{◌≡◌, ℕ, List, true, subst}
use Rattle.std.specs.List.{list_all}
use Rattle.std.specs.Str.{is_utf8}
use Rattle.std.proofs.lemmas.Str.{is_utf8-from_IsUtf8}
use Rattle.qvt_metamodel.specs.Extended.{has_text}
use Rattle.qvt_metamodel.specs.declared.given.FeatureData.{FeatureData}
use Rattle.qvt_metamodel.proofs.Bools.{and_both}
use Rattle.qvt_metas.proofs.extending.class_has_texts.Goals as goal

pub returns : goal.returns
returns c = and_both _ _
    (subst (λ (t : List ℕ). is_utf8 t ≡ true) c.as_str-name.ensures (is_utf8-from_IsUtf8 _ c.as_str-name.utf8))
    (subst (λ (fs : List FeatureData). list_all has_text fs ≡ true) c.as_slice.ensures c.features_have_texts.ensures)
