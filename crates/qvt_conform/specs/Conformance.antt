-- The first fault of a model against its metamodel (EMOF 12.4 and 12.5): its objects in order; of an object that its class is
-- abstract, then for each feature of the class in order the bounds, the repeats and the opposite, then that it stands in containment
-- slots more than once over the model, then that it is inside itself.
use Rattle.std.specs.Prelude.{ℕ, suc, Bool, not, ◌&&◌, nat_lt, length, List, [], ◌∷◌, Option, Some, None, if◌then◌else◌}
use Rattle.qvt_base.specs.declared.numbers.FeatureNo.{FeatureNo}
use Rattle.qvt_json.specs.Steps.{or_next}
use Rattle.qvt_metas.specs.Metamodels.{Metamodels, class_at, feature_at, shape_of, opposite, features_of}
use Rattle.qvt_model.specs.declared.data.ObjectData.{ObjectData}
use Rattle.qvt_model.specs.WellFormed.{IsModel}
use Rattle.qvt_repeats.specs.Repeats.{repeats_by}
use Rattle.qvt_conform.specs.Items.{items_of, is_within, same_item, lack_opposite}
use Rattle.qvt_cycle.specs.Successors.{is_on_cycle, how_often_in}
use Rattle.qvt_conform.specs.Containment.{contents}
use Rattle.qvt_conform.specs.declared.fault.ConformFault.{ConformFault}
use Rattle.qvt_conform.specs.declared.fault.ConformFault.TheVariants.{Abstract, Bounds, NotUnique, Opposite, TwoContainers, ContainmentCycle}

-- well formed data of a model of some metamodel
pub record IsSomeModel (m : Metamodels) (os : List ObjectData) : Type 0 where
  pub metamodel : ℕ
  pub model : IsModel m metamodel os

abbrev pub fault_if : Bool → ConformFault → Option ConformFault
fault_if b fault = if b then Some fault else None

-- feature f of object i
unfoldable pub feature_fault : Metamodels → List ObjectData → ℕ → ObjectData → FeatureNo → Option ConformFault
feature_fault m os i o f =
    or_next (fault_if (not (is_within (shape_of m f.0) (length (items_of o f.0)))) (Bounds o.id (feature_at m f.0).name))
    (or_next (fault_if ((shape_of m f.0).unique && repeats_by same_item (items_of o f.0)) (NotUnique o.id (feature_at m f.0).name))
    (fault_if (lack_opposite (opposite m f.0) os i (items_of o f.0)) (Opposite o.id (feature_at m f.0).name)))

abbrev pub features_fault : Metamodels → List ObjectData → ℕ → ObjectData → List FeatureNo → Option ConformFault
features_fault m os i o [] = None
features_fault m os i o (f ∷ fs) = or_next (feature_fault m os i o f) (features_fault m os i o fs)

-- the containment of object i, where cs is what each object contains
unfoldable pub containment_fault : List (List ℕ) → ℕ → ObjectData → Option ConformFault
containment_fault cs i o = or_next (fault_if (nat_lt 1 (how_often_in cs i)) (TwoContainers o.id)) (fault_if (is_on_cycle cs i) (ContainmentCycle o.id))

-- object i
unfoldable pub object_fault : Metamodels → List ObjectData → ℕ → ObjectData → Option ConformFault
object_fault m os i o =
    or_next (fault_if (class_at m o.class.0).is_abstract (Abstract o.id))
    (or_next (features_fault m os i o (features_of m o.class.0))
    (containment_fault (contents m os) i o))

-- the objects from i on
abbrev pub faults_from : Metamodels → List ObjectData → ℕ → List ObjectData → Option ConformFault
faults_from m all i [] = None
faults_from m all i (o ∷ os) = or_next (object_fault m all i o) (faults_from m all (suc i) os)

unfoldable pub conform_fault : Metamodels → List ObjectData → Option ConformFault
conform_fault m os = faults_from m os 0 os
