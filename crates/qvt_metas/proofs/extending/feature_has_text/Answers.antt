use Rattle.std.proofs.Common.{◌≡◌, ℕ, List, true, subst}
use Rattle.std.specs.Str.{is_utf8}
use Rattle.std.proofs.lemmas.Str.{is_utf8-from_IsUtf8}
use Rattle.qvt_metas.proofs.extending.feature_has_text.Goals as goal

pub returns : goal.returns
returns c = subst (λ (t : List ℕ). is_utf8 t ≡ true) c.as_str-name.ensures (is_utf8-from_IsUtf8 _ c.as_str-name.utf8)
