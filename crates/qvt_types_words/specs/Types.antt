-- Types over metamodels: which conforms to which, joins, what a property holds (OCL 2.4, 7.4 and 11.2).
use Rattle.std.specs.Prelude.{Bool, true, false, if◌then◌else◌, Option, Some, None}
use Rattle.qvt_metas.specs.Metamodels.{Metamodels, is_one}
use Rattle.qvt_metas.specs.Descends.{descends}
use Rattle.qvt_metas.specs.declared.info.FeatureShape.{FeatureShape}
use Rattle.qvt_metas.specs.declared.info.TypeKind.{TypeKind}
use Rattle.qvt_metas.specs.declared.info.TypeKind.TheVariants as kind
use Rattle.qvt_tree_types.specs.declared.words.CollKind.{CollKind}
use Rattle.qvt_tree_types.specs.declared.words.CollKind.TheVariants as coll
use Rattle.qvt_types_data.specs.Term.{ty_view, ty_of}
use Rattle.qvt_types_data.specs.declared.ty.Ty.{Ty, out-Ty}
use Rattle.qvt_types_data.specs.declared.ty.Ty.TheOpen.{Ty-F}
use Rattle.qvt_types_data.specs.declared.ty.Ty.TheVariants as ty
use Rattle.qvt_ocl_types.specs.Types as types

-- the first type conforms to the second, as classes descend from classes
abbrev pub conforms : Metamodels → Ty → Ty → Bool
conforms m t u = types.conforms (descends m) (ty_view t) (ty_view u)

-- the one to which the other conforms
abbrev pub join : Metamodels → Ty → Ty → Option Ty
join m t u = if conforms m t u then Some u else if conforms m u t then Some t else None

-- the item type under all collections; a type that is no collection is its own
abbrev pub innermost : Ty → Ty
innermost t = ty_of (types.innermost (ty_view t))

abbrev pub is_string : Ty → Bool
is_string ty.Str = true
is_string t = false

abbrev pub is_void : Ty → Bool
is_void ty.Void = true
is_void t = false

abbrev pub is_ordered : CollKind → Bool
is_ordered coll.Sequence = true
is_ordered coll.OrderedSet = true
is_ordered coll.Set = false
is_ordered coll.Bag = false

-- the kind of what is collected from a kind: a Sequence from ordered kinds, else a Bag
abbrev pub collected_kind : CollKind → CollKind
collected_kind k = if is_ordered k then coll.Sequence else coll.Bag

abbrev pub value_type : TypeKind → Ty
value_type kind.Bool = ty.Boolean
value_type kind.Int = ty.Integer
value_type kind.Str = ty.Str
value_type (kind.Enum k e) = ty.Enum k e
value_type (kind.Class c) = ty.Class c

-- the kind of a property with these flags: ordered, and unique
abbrev pub flags_kind : Bool → Bool → CollKind
flags_kind true true = coll.OrderedSet
flags_kind true false = coll.Sequence
flags_kind false true = coll.Set
flags_kind false false = coll.Bag

-- the type of a property: with a larger upper bound than 1 the kind of its flags
abbrev pub feature_type : FeatureShape → Ty
feature_type s = if is_one s.upper then value_type s.kind else ty.Coll (flags_kind s.ordered s.unique) (value_type s.kind)

-- a collection type taken apart
pub record Collection : Type 0 where
  pub kind : CollKind
  pub item : Ty

abbrev pub collection_in : Ty-F Ty → Option Collection
collection_in (Ty-F.Coll k t) = Some (record { kind = k; item = t })
collection_in x = None

-- the kind and the item type of a collection type
abbrev pub collection_of : Ty → Option Collection
collection_of t = collection_in (out-Ty t)
