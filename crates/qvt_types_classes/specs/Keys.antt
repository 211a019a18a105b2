-- The numbers that stand for the names of properties.
use Rattle.std.specs.Prelude.{ℕ, List, [], ◌∷◌, map}
use Rattle.qvt_base.specs.declared.numbers.FeatureNo.{FeatureNo}
use Rattle.qvt_metas.specs.Added.{place_in}
use Rattle.qvt_types_classes.specs.declared.declared.Property.{Property}
use Rattle.qvt_types_classes.specs.Inherited.{names_of, property_at}

-- the name of what stands past the end, and those of the properties
abbrev pub known : List Property → List (List ℕ)
known all = [] ∷ names_of all

-- the number that stands for a name: its first place there
abbrev pub key_of : List Property → List ℕ → ℕ
key_of all name = place_in (known all) name

-- those of the names of the properties
abbrev pub keys_of : List Property → List ℕ
keys_of all = map (λ p. key_of all p.name) all

abbrev pub names_at : List Property → List FeatureNo → List (List ℕ)
names_at all list = map (λ f. (property_at all f).name) list
