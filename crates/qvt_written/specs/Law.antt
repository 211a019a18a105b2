-- What is written conforms (EMOF 12.4 and 12.5).
use Rattle.std.specs.Prelude.{◌≡◌, ℕ, IsTrue, None}
use Rattle.qvt_store.specs.Contents.{Contents, is_model}
use Rattle.qvt_store.specs.Sound.{Sound}
use Rattle.qvt_store.specs.Stay.{IsStore}
use Rattle.qvt_model.specs.Extents.{data_of}
use Rattle.qvt_conform.specs.Conformance.{conform_fault}
use Rattle.qvt_conform.specs.LowerBounds.{low_of}

-- the data of a model of a sound store have no fault, where no object of it has fewer items for a feature than the lower bound
abbrev pub WrittenConforms : Type 0
WrittenConforms = (s : Contents) (e : ℕ) → IsStore s → Sound s → IsTrue (is_model s e) → low_of s e ≡ None → conform_fault s.metas (data_of s e) ≡ None
