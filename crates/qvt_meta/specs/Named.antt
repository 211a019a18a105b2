-- A metamodel that is read has a name.
use Rattle.std.specs.Prelude.{◌≡◌, ◌≢◌, ℕ, List, [], Ok}
use Rattle.qvt_metamodel.specs.declared.declared.MetaData.{MetaData}
use Rattle.qvt_meta.specs.MetaOf.{meta_of}

abbrev pub MetaHasName : Type 0
MetaHasName = (bytes : List ℕ) (d : MetaData) → meta_of bytes ≡ Ok d → d.name ≢ []
