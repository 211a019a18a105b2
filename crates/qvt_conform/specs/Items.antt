-- The checks of one slot (EMOF 12.4).
use Rattle.std.specs.Prelude.{ℕ, Bool, true, false, not, ◌==◌, ◌&&◌, nat_le, List, Option, Some, None}
use Rattle.std.specs.List.{list_any}
use Rattle.std.specs.Str.{bytes_eq}
use Rattle.std.specs.Ordering.{int_eq}
use Rattle.std.proofs.Math.Bool.{beq}
use Rattle.qvt_base.specs.declared.numbers.FeatureNo.{FeatureNo}
use Rattle.qvt_metamodel.specs.declared.info.FeatureShape.{FeatureShape}
use Rattle.qvt_value.specs.declared.value.LiteralRef.{LiteralRef}
use Rattle.qvt_model.specs.declared.data.Datum.{Datum}
use Rattle.qvt_model.specs.declared.data.Datum.TheVariants.{Bool as BoolDatum, Int, Str, Literal, Ref}
use Rattle.qvt_model.specs.declared.data.ObjectData.{ObjectData}
use Rattle.qvt_model.specs.Items.{items_in}
use Rattle.qvt_model.specs.WellFormed.{object_data_at}

-- what an object holds for feature f: nothing where it has no slot of it
abbrev pub items_of : ObjectData → ℕ → List Datum
items_of o f = items_in f o.slots

abbrev pub is_at_most : ℕ → Option ℕ → Bool
is_at_most n None = true
is_at_most n (Some most) = nat_le n most

-- not fewer than the lower bound and not more than the upper
abbrev pub is_within : FeatureShape → ℕ → Bool
is_within shape n = nat_le shape.lower n && is_at_most n shape.upper

abbrev pub same_literal : LiteralRef → LiteralRef → Bool
same_literal a b = (a.metamodel == b.metamodel) && (a.enumeration == b.enumeration) && (a.literal == b.literal)

-- items are equal where they are of one sort and the same
abbrev pub same_item : Datum → Datum → Bool
same_item (BoolDatum a) (BoolDatum b) = beq a b
same_item (Int a) (Int b) = int_eq a b
same_item (Str a) (Str b) = bytes_eq a b
same_item (Literal a) (Literal b) = same_literal a b
same_item (Ref a) (Ref b) = a == b
same_item _ _ = false

abbrev pub is_ref : ℕ → Datum → Bool
is_ref i (BoolDatum b) = false
is_ref i (Int z) = false
is_ref i (Str s) = false
is_ref i (Literal l) = false
is_ref i (Ref j) = i == j

-- the item is an object that does not hold object i for feature q
abbrev pub lacks : List ObjectData → ℕ → ℕ → Datum → Bool
lacks os q i (BoolDatum b) = false
lacks os q i (Int z) = false
lacks os q i (Str s) = false
lacks os q i (Literal l) = false
lacks os q i (Ref j) = not (list_any (is_ref i) (items_of (object_data_at os j) q))

-- one of the items lacks object i for the opposite
abbrev pub lack_opposite : Option FeatureNo → List ObjectData → ℕ → List Datum → Bool
lack_opposite None os i xs = false
lack_opposite (Some q) os i xs = list_any (lacks os q.0 i) xs
