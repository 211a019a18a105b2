-- What a list of metamodels says, in a longer one, of the numbers that were there before: the same.
use Rattle.std.specs.Prelude.{◌≡◌, ℕ, ◌<◌, List, length, Some}
use Rattle.qvt_metamodel.specs.Metamodels.{Metamodels, class_at, feature_at, features_of}
use Rattle.qvt_metamodel.specs.Descends.{descends}
use Rattle.qvt_metamodel.specs.Named.{metamodel_at, metamodel_named, class_named, feature_named, enumeration_named, literal_named}

pub record NumbersStay (m w : Metamodels) : Type 0 where
  -- a number is that of the same metamodel, with its enumerations and their literals, of the same class, of the same feature
  pub metamodel : (k : ℕ) → k < length m.metamodels → metamodel_at w k ≡ metamodel_at m k
  pub class : (c : ℕ) → c < length m.classes → class_at w c ≡ class_at m c
  pub feature : (f : ℕ) → f < length m.features → feature_at w f ≡ feature_at m f
  -- a class has the same features, and the same classes above it
  pub features : (c : ℕ) → c < length m.classes → features_of w c ≡ features_of m c
  pub descends : (c d : ℕ) → c < length m.classes → d < length m.classes → descends w c d ≡ descends m c d
  -- a name finds the same number
  pub metamodel_named : (name : List ℕ) (k : ℕ) → metamodel_named m name ≡ Some k → metamodel_named w name ≡ Some k
  pub class_named : (k : ℕ) (name : List ℕ) → k < length m.metamodels → class_named w k name ≡ class_named m k name
  pub feature_named : (c : ℕ) (name : List ℕ) → c < length m.classes → feature_named w c name ≡ feature_named m c name
  pub enumeration_named : (k : ℕ) (name : List ℕ) → k < length m.metamodels → enumeration_named w k name ≡ enumeration_named m k name
  pub literal_named : (k e : ℕ) (name : List ℕ) → k < length m.metamodels → literal_named w k e name ≡ literal_named m k e name
