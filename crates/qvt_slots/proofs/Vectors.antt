-- Small stores, computed.
use Rattle.std.proofs.Common.{◌≡◌, ℕ, Bool, true, false, List, [], ◌∷◌, refl}
use Rattle.std.specs.Prelude.{Option, Some, None, Ok, Err}
use Rattle.qvt_base.specs.declared.numbers.FeatureNo.{FeatureNo}
use Rattle.qvt_value.specs.declared.value.Value.{Value}
use Rattle.qvt_metamodel.specs.declared.info.TypeKind.TheVariants.{Class as ClassKind}
use Rattle.qvt_metamodel.specs.declared.info.FeatureInfo.{FeatureInfo}
use Rattle.qvt_metas.specs.Metamodels.{Metamodels, features_of}
use Rattle.qvt_relation.specs.Closure.{reaches_by}
use Rattle.qvt_slots.specs.declared.fault.StoreFault.TheVariants.{TooMany, ContainmentCycle, ReadOnly, CrossModel}
use Rattle.qvt_slots.specs.Change.{object_value}
use Rattle.qvt_slots.specs.Contents.{Contents, Instance}
use Rattle.qvt_slots.specs.Assign.{assign, append}

abbrev reference : ℕ → Option ℕ → Bool → Option FeatureNo → FeatureInfo
reference c upper containment opposite = record {
  owner = record { 0 = 0 };
  name = [];
  shape = record { kind = ClassKind (record { 0 = c }); lower = 0; upper = upper; ordered = false; unique = true; containment = containment };
  opposite = opposite;
}

abbrev feature : ℕ → FeatureNo
feature f = record { 0 = f }

-- Class 0 contains objects of class 1 in two slots, parts (0) and extras (2), whose opposites are owner (1) and holder (3).
-- Class 2 has kids (4), contained, with the opposite parent (5), spare (6), contained, with upper bound 1, and friends (7) and fans (8), opposite to each other.
abbrev metas : Metamodels
metas = record {
  metamodels = [];
  classes =
      record { metamodel = 0; name = []; is_abstract = false; supers = []; own = feature 0 ∷ feature 2 ∷ [] }
      ∷ record { metamodel = 0; name = []; is_abstract = false; supers = []; own = feature 1 ∷ feature 3 ∷ [] }
      ∷ record { metamodel = 0; name = []; is_abstract = false; supers = []; own = feature 4 ∷ feature 5 ∷ feature 6 ∷ feature 7 ∷ feature 8 ∷ [] }
      ∷ [];
  features =
      reference 1 None true (Some (feature 1))
      ∷ reference 0 (Some 1) false (Some (feature 0))
      ∷ reference 1 None true (Some (feature 3))
      ∷ reference 0 (Some 1) false (Some (feature 2))
      ∷ reference 2 None true (Some (feature 5))
      ∷ reference 2 (Some 1) false (Some (feature 4))
      ∷ reference 2 (Some 1) true None
      ∷ reference 2 None false (Some (feature 8))
      ∷ reference 2 (Some 2) false (Some (feature 7))
      ∷ [];
  element = None;
}

abbrev obj : ℕ → Value
obj n = object_value n

abbrev of : List Instance → Contents
of objects = record {
  metas = metas;
  extents = record { name = 97 ∷ []; metamodel = 0; writable = true } ∷ record { name = 98 ∷ []; metamodel = 0; writable = false } ∷ [];
  objects = objects;
}

abbrev box : List Value → List Value → Instance
box parts extras = record { class = 0; extent = 0; slots = parts ∷ extras ∷ [] }

abbrev item : List Value → List Value → Instance
item owner holder = record { class = 1; extent = 0; slots = owner ∷ holder ∷ [] }

-- one statement changes four slots: an item moves from the parts of one box to the extras of another
four_slots : append (of (box (obj 2 ∷ []) [] ∷ box [] [] ∷ item (obj 0 ∷ []) [] ∷ [])) 1 2 (obj 2)
    ≡ Ok (of (box [] [] ∷ box [] (obj 2 ∷ []) ∷ item [] (obj 1 ∷ []) ∷ []))
unfolding reaches_by features_of
four_slots = refl

abbrev node : List Value → List Value → List Value → Instance
node kids parent spare = record { class = 2; extent = 0; slots = kids ∷ parent ∷ spare ∷ [] ∷ [] ∷ [] }

-- 0 has the kid 1
abbrev family : Contents
family = of (node (obj 1 ∷ []) [] [] ∷ node [] (obj 0 ∷ []) [] ∷ node [] [] [] ∷ [])

-- a kid moves to another parent
moved : assign family 2 4 (obj 1 ∷ []) ≡ Ok (of (node [] [] [] ∷ node [] (obj 2 ∷ []) [] ∷ node (obj 1 ∷ []) [] [] ∷ []))
unfolding reaches_by features_of
moved = refl

-- and by its own end
moved_by_parent : assign family 1 5 (obj 2 ∷ []) ≡ Ok (of (node [] [] [] ∷ node [] (obj 2 ∷ []) [] ∷ node (obj 1 ∷ []) [] [] ∷ []))
unfolding reaches_by features_of
moved_by_parent = refl

-- between two containments of one parent
moved_within : assign family 0 6 (obj 1 ∷ []) ≡ Ok (of (node [] [] (obj 1 ∷ []) ∷ node [] [] [] ∷ node [] [] [] ∷ []))
unfolding reaches_by features_of
moved_within = refl

-- a kid leaves
emptied : assign family 0 4 [] ≡ Ok (of (node [] [] [] ∷ node [] [] [] ∷ node [] [] [] ∷ []))
unfolding reaches_by features_of
emptied = refl

inside_itself : assign family 1 4 (obj 0 ∷ []) ≡ Err ContainmentCycle
unfolding reaches_by features_of
inside_itself = refl

two_parents : assign family 1 5 (obj 0 ∷ obj 2 ∷ []) ≡ Err TooMany
unfolding features_of
two_parents = refl

-- an equal value twice counts once
repeated : assign family 2 4 (obj 1 ∷ obj 1 ∷ []) ≡ Ok (of (node [] [] [] ∷ node [] (obj 2 ∷ []) [] ∷ node (obj 1 ∷ []) [] [] ∷ []))
unfolding reaches_by features_of
repeated = refl

abbrev known : ℕ → List Value → List Value → Instance
known e friends fans = record { class = 2; extent = e; slots = [] ∷ [] ∷ [] ∷ friends ∷ fans ∷ [] }

-- an added opposite stands at the end of the opposite slot
friends : append (of (known 0 (obj 2 ∷ []) [] ∷ known 0 [] [] ∷ known 0 [] (obj 0 ∷ []) ∷ [])) 1 7 (obj 2)
    ≡ Ok (of (known 0 (obj 2 ∷ []) [] ∷ known 0 (obj 2 ∷ []) [] ∷ known 0 [] (obj 0 ∷ obj 1 ∷ []) ∷ []))
unfolding reaches_by features_of
friends = refl

-- the opposite slot is full
too_many_fans : append (of (known 0 (obj 2 ∷ []) [] ∷ known 0 [] [] ∷ known 0 [] (obj 0 ∷ obj 2 ∷ []) ∷ [])) 1 7 (obj 2) ≡ Err TooMany
unfolding reaches_by features_of
too_many_fans = refl

-- an extent that is not writable, and an object of another one
read_only : assign (of (known 1 [] [] ∷ known 0 [] [] ∷ [])) 0 7 [] ≡ Err ReadOnly
unfolding reaches_by features_of
read_only = refl

other_model : assign (of (known 1 [] [] ∷ known 0 [] [] ∷ [])) 1 7 (obj 0 ∷ []) ≡ Err CrossModel
unfolding reaches_by features_of
other_model = refl
