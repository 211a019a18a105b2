-- A feature that has a place is there.
use Rattle.std.proofs.Common.{◌≡◌, ℕ, true, ◌==◌, List}
use Rattle.std.proofs.lemmas.Bool.Decides.{Decides-eqb}
use Rattle.std.proofs.lemmas.List.Folds.{list_any_at}
use Rattle.std.specs.Prelude.{slice_index_or}
use Rattle.qvt_base.specs.declared.numbers.FeatureNo.{FeatureNo}
use Rattle.qvt_metas.specs.Metamodels.{among_features}
use Rattle.qvt_store.specs.Cells.{IsPlaceOf}

pub there : (gs : List FeatureNo) (f i : ℕ) → IsPlaceOf gs f i → among_features f gs ≡ true
there gs f i at = list_any_at (λ (g : FeatureNo). g.0 == f) gs i (record { 0 = 0 }) at.within ((Decides-eqb (slice_index_or gs i (record { 0 = 0 })).0 f).1 at.here)
