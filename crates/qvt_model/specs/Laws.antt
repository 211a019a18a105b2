-- What is written is read as the same model.
use Rattle.std.specs.Prelude.{◌≡◌, ◌≢◌, [], ℕ, List, IsTrue, Ok}
use Rattle.qvt_metas.specs.Metamodels.{Metamodels}
use Rattle.qvt_metas.specs.Named.{metamodel_at}
use Rattle.qvt_metas.specs.WellFormed.{IsWellFormed}
use Rattle.qvt_store.specs.Contents.{Contents, extent_at, is_extent, is_model}
use Rattle.qvt_store.specs.Sound.{Sound}
use Rattle.qvt_store.specs.Stay.{IsStore}
use Rattle.qvt_model.specs.Extents.{data_of}
use Rattle.qvt_model.specs.WellFormed.{IsModel, IsStorable}
use Rattle.qvt_model.specs.Reading.{model_of}
use Rattle.qvt_model.specs.Written.{model_text}
use Rattle.qvt_model.specs.declared.data.ObjectData.{ObjectData}

abbrev pub WrittenModelIsRead : Type 0
WrittenModelIsRead = (m : Metamodels) (k : ℕ) (os : List ObjectData) → IsWellFormed m → (metamodel_at m k).name ≢ [] → IsModel m k os → IsStorable m os → model_of m k (model_text m os) ≡ Ok os

-- the text of a model of a sound store is read as the data of its extent
abbrev pub ExtentIsRead : Type 0
ExtentIsRead = (s : Contents) (e : ℕ) → IsStore s → Sound s → IsTrue (is_extent s e) → IsTrue (is_model s e)
    → model_of s.metas (extent_at s e).metamodel (model_text s.metas (data_of s e)) ≡ Ok (data_of s e)
