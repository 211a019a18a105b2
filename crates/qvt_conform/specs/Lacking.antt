-- The checks of a model by the set of its references, in place of its slots.
use Rattle.std.specs.Prelude.{ℕ, suc, List, [], ◌∷◌, Option, None, option_map}
use Rattle.qvt_base.specs.declared.numbers.FeatureNo.{FeatureNo}
use Rattle.qvt_json.specs.Steps.{or_next}
use Rattle.qvt_metas.specs.Metamodels.{Metamodels, class_at, features_of}
use Rattle.qvt_model.specs.declared.data.ObjectData.{ObjectData}
use Rattle.qvt_conform.specs.Items.{items_of}
use Rattle.qvt_conform.specs.Breaches.{breach_of, fault_of}
use Rattle.qvt_conform.specs.declared.links.ObjectLink.{ObjectLink}
use Rattle.qvt_conform.specs.Conformance.{fault_if, containment_fault}
use Rattle.qvt_conform.specs.declared.fault.ConformFault.{ConformFault}
use Rattle.qvt_conform.specs.declared.fault.ConformFault.TheVariants.{Abstract}

unfoldable pub feature_fault_by : Metamodels → List ObjectLink → ℕ → ObjectData → FeatureNo → Option ConformFault
feature_fault_by m ls i o f = option_map (fault_of m o f.0) (breach_of m ls i f.0 (items_of o f.0))

abbrev pub features_fault_by : Metamodels → List ObjectLink → ℕ → ObjectData → List FeatureNo → Option ConformFault
features_fault_by m ls i o [] = None
features_fault_by m ls i o (f ∷ fs) = or_next (feature_fault_by m ls i o f) (features_fault_by m ls i o fs)

unfoldable pub object_fault_by : Metamodels → List ObjectLink → List (List ℕ) → ℕ → ObjectData → Option ConformFault
object_fault_by m ls cs i o =
    or_next (fault_if (class_at m o.class.0).is_abstract (Abstract o.id))
    (or_next (features_fault_by m ls i o (features_of m o.class.0))
    (containment_fault cs i o))

abbrev pub faults_by : Metamodels → List ObjectLink → List (List ℕ) → ℕ → List ObjectData → Option ConformFault
faults_by m ls cs i [] = None
faults_by m ls cs i (o ∷ os) = or_next (object_fault_by m ls cs i o) (faults_by m ls cs (suc i) os)
