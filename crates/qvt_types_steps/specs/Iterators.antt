-- What is ruled of an arrow: of iterators by their Head, the items of the source and the body (OCL 2.4, 7.6 and 11.9), and of
-- operations, which take no Head.
use Rattle.std.specs.Prelude.{ℕ, ◌&&◌, ◌||◌, Bool, true, false, if◌then◌else◌, List, [], ◌∷◌, Option, Some, None}
use Rattle.qvt_types_words.specs.Metamodels.{Metamodels}
use Rattle.qvt_tree_types.specs.declared.words.CollKind.{CollKind}
use Rattle.qvt_tree_types.specs.declared.words.CollKind.TheVariants as coll
use Rattle.qvt_types_data.specs.declared.ty.Ty.{Ty}
use Rattle.qvt_types_data.specs.declared.ty.Ty.TheVariants as ty
use Rattle.qvt_types_data.specs.Notes.{plain, ruled_wrapped}
use Rattle.qvt_types_data.specs.declared.note.Reading.TheVariants as reading
use Rattle.qvt_types_data.specs.declared.refusal.RefusalKind.{RefusalKind}
use Rattle.qvt_types_data.specs.declared.refusal.RefusalKind.TheVariants as refusal
use Rattle.qvt_types_data.specs.declared.ruling.Ruling.{Ruling}
use Rattle.qvt_types_data.specs.declared.ruling.Ruling.TheVariants.{Holds, Fails, Silent}
use Rattle.qvt_types_words.specs.Rulings.{wrong_unless, items_conform}
use Rattle.qvt_types_words.specs.Types.{conforms, innermost, is_ordered, collected_kind, Collection, collection_of}
use Rattle.qvt_types_steps.specs.Calls.{source_of, is_single_type, call, named_arity}
use Rattle.qvt_types_steps.specs.IteratorTable.{row_of, iterator_named}
use Rattle.qvt_types_steps.specs.declared.iterators.IteratorKind.{IteratorKind}
use Rattle.qvt_types_steps.specs.declared.iterators.IteratorRow.{IteratorRow}
use Rattle.qvt_types_steps.specs.declared.iterators.ItemDemand.{ItemDemand}
use Rattle.qvt_types_steps.specs.declared.iterators.ItemDemand.TheVariants.{Every, Objects}
use Rattle.qvt_types_steps.specs.declared.iterators.BodyDemand.{BodyDemand}
use Rattle.qvt_types_steps.specs.declared.iterators.BodyDemand.TheVariants as body
use Rattle.qvt_types_steps.specs.declared.iterators.IteratorAnswer.{IteratorAnswer}
use Rattle.qvt_types_steps.specs.declared.iterators.IteratorAnswer.TheVariants as gives
use Rattle.qvt_types_steps.specs.declared.heads.Heading.{Heading}
use Rattle.qvt_types_steps.specs.declared.heads.Heading.TheVariants.{Missing, Plain, Folding, Untyped}

-- Heads.

-- the type of what an arrow and a `forEach` go over
abbrev pub item_type : Option Ty → Option Ty
item_type None = None
item_type (Some t) = Some (source_of t).item

-- the type of an iterator or of the variable of a `forEach`: the one that is declared, else that of the items
abbrev pub iterator_type : Bool → Option Ty → Option Ty → Option Ty
iterator_type true kind items = kind
iterator_type false kind items = items

-- told where a type is declared to which the items do not conform
abbrev pub iterator_wrong : Metamodels → Bool → Option Ty → Option Ty → Option RefusalKind
iterator_wrong m true (Some k) (Some i) = wrong_unless (conforms m i k)
iterator_wrong m true (Some k) None = None
iterator_wrong m true None items = None
iterator_wrong m false kind items = None

-- told where the first value of an accumulator does not conform to its type
abbrev pub accumulator_wrong : Metamodels → Option Ty → Option Ty → Option RefusalKind
accumulator_wrong m (Some k) (Some v) = wrong_unless (conforms m v k)
accumulator_wrong m (Some k) None = None
accumulator_wrong m None first = None

-- a Head without an accumulator: a part of it has no type where its declared type has none or is refused
abbrev pub declared_head : Metamodels → Ty → Option Ty → Heading
declared_head m k None = Plain
declared_head m k (Some i) = if conforms m i k then Plain else Untyped

abbrev pub plain_head : Metamodels → Bool → Option Ty → Option Ty → Heading
plain_head m false kind items = Plain
plain_head m true None items = Untyped
plain_head m true (Some k) items = declared_head m k items

-- the accumulator behind it
abbrev pub first_value : Metamodels → Ty → Option Ty → Heading
first_value m k None = Untyped
first_value m k (Some v) = if conforms m v k then Folding k else Untyped

abbrev pub folding_head : Metamodels → Heading → Option Ty → Option Ty → Heading
folding_head m Untyped kind first = Untyped
folding_head m h None first = Untyped
folding_head m h (Some k) first = first_value m k first

-- Iterators.

-- an object, or null alone
abbrev pub is_object : Ty → Bool
is_object (ty.Class c) = true
is_object ty.Void = true
is_object t = false

abbrev pub are_items : ItemDemand → Ty → Bool
are_items Every i = true
are_items Objects i = is_object i

-- of the item type i, the type a of the accumulator and the type b of the body
abbrev pub body_fits : Metamodels → BodyDemand → Ty → Ty → Ty → Bool
body_fits m body.Every i a b = true
body_fits m body.Boolean i a b = conforms m b ty.Boolean
body_fits m body.Key i a b = conforms m b ty.Integer || conforms m b ty.Str
body_fits m body.SameObjects i a b = conforms m b i || items_conform m (collection_of b) i
body_fits m body.Accumulated i a b = conforms m b a

abbrev pub sorted_kind : CollKind → CollKind
sorted_kind coll.Set = coll.OrderedSet
sorted_kind coll.OrderedSet = coll.OrderedSet
sorted_kind coll.Bag = coll.Sequence
sorted_kind coll.Sequence = coll.Sequence

abbrev pub reached_kind : CollKind → CollKind
reached_kind k = if is_ordered k then coll.OrderedSet else coll.Set

abbrev pub given : IteratorAnswer → CollKind → Ty → Ty → Ty → Ty
given gives.Boolean k i a b = ty.Boolean
given gives.Item k i a b = i
given gives.Items k i a b = ty.Coll k i
given gives.Sorted k i a b = ty.Coll (sorted_kind k) i
given gives.Reached k i a b = ty.Coll (reached_kind k) i
given gives.Bodies k i a b = ty.Coll (collected_kind k) b
given gives.Flattened k i a b = ty.Coll (collected_kind k) (innermost b)
given gives.Accumulator k i a b = a

abbrev pub row_fits : Metamodels → IteratorRow → Ty → Ty → Ty → Bool
row_fits m r i a b = are_items r.items i && body_fits m r.body i a b

-- an iterator with one body
abbrev pub iterated : Metamodels → List ℕ → IteratorRow → Collection → Ty → Ty → Ruling
iterated m name r s a b = if row_fits m r s.item a b then Holds (plain (reading.Operation name) (Some (given r.gives s.kind s.item a b))) else Fails refusal.WrongType

-- an accumulator stands exactly where the iterator takes one
abbrev pub head_fits : Bool → Heading → Bool
head_fits true (Folding a) = true
head_fits false Missing = true
head_fits false Plain = true
head_fits folds h = false

abbrev pub accumulator_type : Heading → Ty
accumulator_type (Folding a) = a
accumulator_type h = ty.Void

abbrev pub iteration : Metamodels → List ℕ → IteratorRow → Heading → Collection → List Ty → Ruling
iteration m name r h s [] = Fails refusal.WrongCount
iteration m name r h s (b ∷ []) = if head_fits r.folds h then iterated m name r s (accumulator_type h) b else Fails refusal.WrongCount
iteration m name r h s (b ∷ c ∷ bs) = Fails refusal.WrongCount

abbrev pub is_missing : Heading → Bool
is_missing Missing = true
is_missing h = false

-- an operation takes no Head
abbrev pub needless_head : Option ℕ → Ruling
needless_head None = Fails refusal.UnknownName
needless_head (Some n) = Fails refusal.WrongCount

abbrev pub headless : Metamodels → List ℕ → Heading → Ty → List Ty → Ruling
headless m name h t us = if is_missing h then call m name t us else needless_head (named_arity name t)

abbrev pub arrowed : Metamodels → List ℕ → Option IteratorKind → Heading → Collection → List Ty → Ruling
arrowed m name (Some i) h s us = iteration m name (row_of i) h s us
arrowed m name None h s us = headless m name h (ty.Coll s.kind s.item) us

abbrev pub is_untyped : Heading → Bool
is_untyped Untyped = true
is_untyped h = false

abbrev pub arrow_over : Metamodels → List ℕ → Heading → Ty → List Ty → Ruling
arrow_over m name h t us = if is_untyped h then Silent else ruled_wrapped (is_single_type t) (arrowed m name (iterator_named name) h (source_of t) us)

-- an arrow with a name and arguments, of which an iterator has one, its body
abbrev pub arrow : Metamodels → List ℕ → Heading → Option Ty → Option (List Ty) → Ruling
arrow m name h (Some t) (Some us) = arrow_over m name h t us
arrow m name h None us = Silent
arrow m name h (Some t) None = Silent
