-- What is broken by the items of one feature, with the references of the model in a set; the first of the checks that fails.
use Rattle.std.specs.Prelude.{ℕ, Bool, true, false, not, ◌&&◌, length, List, [], ◌∷◌, Option, Some, None, is_some, if◌then◌else◌}
use Rattle.std.specs.List.{list_any}
use Rattle.qvt_base.specs.declared.numbers.FeatureNo.{FeatureNo}
use Rattle.qvt_metas.specs.Metamodels.{Metamodels, feature_at, shape_of, opposite}
use Rattle.qvt_model.specs.declared.data.Datum.{Datum}
use Rattle.qvt_model.specs.declared.data.Datum.TheVariants.{Bool as BoolDatum, Int, Str, Literal, Ref}
use Rattle.qvt_model.specs.declared.data.SlotData.{SlotData}
use Rattle.qvt_model.specs.declared.data.ObjectData.{ObjectData}
use Rattle.qvt_repeats.specs.Repeats.{repeats_by}
use Rattle.qvt_conform.specs.Items.{is_within, same_item}
use Rattle.qvt_conform.specs.Links.{link, same_link}
use Rattle.qvt_conform.specs.declared.links.ObjectLink.{ObjectLink}
use Rattle.qvt_conform.specs.declared.breach.Breach.{Breach}
use Rattle.qvt_conform.specs.declared.breach.Breach.TheVariants.{Bounds as BoundsBroken, NotUnique as UniqueBroken, Opposite as OppositeBroken}
use Rattle.qvt_conform.specs.declared.fault.ConformFault.{ConformFault}
use Rattle.qvt_conform.specs.declared.fault.ConformFault.TheVariants.{Bounds, NotUnique, Opposite}

abbrev pub lacks_link : List ObjectLink → ℕ → ℕ → Datum → Bool
lacks_link ls q i (BoolDatum b) = false
lacks_link ls q i (Int z) = false
lacks_link ls q i (Str s) = false
lacks_link ls q i (Literal l) = false
lacks_link ls q i (Ref j) = not (list_any (same_link (link j q i)) ls)

abbrev pub lack_links : List ObjectLink → Option FeatureNo → ℕ → List Datum → Bool
lack_links ls None i xs = false
lack_links ls (Some q) i xs = list_any (lacks_link ls q.0 i) xs

-- feature f of object i, with these items
unfoldable pub breach_of : Metamodels → List ObjectLink → ℕ → ℕ → List Datum → Option Breach
breach_of m ls i f xs =
    if not (is_within (shape_of m f) (length xs)) then Some BoundsBroken
    else (if (shape_of m f).unique && repeats_by same_item xs then Some UniqueBroken
    else (if lack_links ls (opposite m f) i xs then Some OppositeBroken
    else None))

-- the fault that this is, told of an object and a feature
abbrev pub fault_named : List ℕ → List ℕ → Breach → ConformFault
fault_named id name BoundsBroken = Bounds id name
fault_named id name UniqueBroken = NotUnique id name
fault_named id name OppositeBroken = Opposite id name

abbrev pub fault_of : Metamodels → ObjectData → ℕ → Breach → ConformFault
fault_of m o f b = fault_named o.id (feature_at m f).name b

-- none of these slots of object i breaks anything
abbrev pub are_kept : Metamodels → List ObjectLink → ℕ → List SlotData → Bool
are_kept m ls i [] = true
are_kept m ls i (t ∷ ts) = not (is_some (breach_of m ls i t.feature.0 t.items)) && are_kept m ls i ts
