-- A store with a model loaded into an extent: after the objects that are there its objects stand in order, each with the class,
-- and for each feature of the class with the items, of its data.
use Rattle.std.specs.List.{AllByRecursion}
use Rattle.std.specs.Prelude.{⊤, ◌≡◌, ◌≢◌, ℕ, suc, ◌+◌, ◌<◌, ◌≤◌, ◌==◌, List, [], ◌∷◌, ◌++◌, map, length, if◌then◌else◌, IsTrue, IsFalse, Option, Some, None, is_some}
use Rattle.qvt_value.specs.declared.value.Value.{Value}
use Rattle.qvt_value.specs.declared.value.Value.TheVariants.{Bool as BoolValue, Int as IntValue, Str as StrValue, Enum as EnumValue, Obj}
use Rattle.qvt_metas.specs.Metamodels.{Metamodels, features_of}
use Rattle.qvt_store.specs.Contents.{Contents, Instance, is_extent, is_live, extent_at, members_of}
use Rattle.qvt_store.specs.Limits.{most_objects}
use Rattle.qvt_store.specs.Stay.{InputsStay, StaysIn}
use Rattle.qvt_model.specs.declared.data.Datum.{Datum}
use Rattle.qvt_model.specs.declared.data.Datum.TheVariants.{Bool as BoolDatum, Int, Str, Literal, Ref}
use Rattle.qvt_model.specs.declared.data.ObjectData.{ObjectData}
use Rattle.qvt_model.specs.Items.{items_in}
use Rattle.qvt_model.specs.IdTables.{id_in, with_id}
use Rattle.qvt_model.specs.Extents.{own_id}
use Rattle.qvt_model.specs.RunIds.{run_id}
use Rattle.qvt_model.specs.WellFormed.{object_data_at, IsModel}

-- the value of an item, where the first object of the model gets number n
abbrev pub value_at : ℕ → Datum → Value
value_at n (BoolDatum b) = BoolValue b
value_at n (Int z) = IntValue z
value_at n (Str t) = StrValue t
value_at n (Literal l) = EnumValue l
value_at n (Ref i) = Obj (record { 0 = n + i })

-- what an object holds for a feature
abbrev pub list_in : ℕ → ObjectData → ℕ → List Value
list_in n o f = map (value_at n) (items_in f o.slots)

abbrev pub instance_at : Metamodels → ℕ → ℕ → ObjectData → Instance
instance_at m e n o = record { class = o.class.0; extent = e; slots = map (λ f. list_in n o f.0) (features_of m o.class.0) }

unfoldable pub loaded : Contents → ℕ → List ObjectData → Contents
loaded s e os = record s { objects = s.objects ++ map (instance_at s.metas e (length s.objects)) os }

-- the id that object x has in its file, where the first of these objects got number n and `old` was told before
abbrev pub id_told : ℕ → List ObjectData → ℕ → Option (List ℕ) → Option (List ℕ)
id_told n [] x old = old
id_told n (o ∷ os) x old = if x == n then Some o.id else id_told (suc n) os x old

-- the table with the ids of these objects, of which the first got number n
abbrev pub all_told : ℕ → List ObjectData → List (Option (List ℕ)) → List (Option (List ℕ))
all_told n [] table = table
all_told n (o ∷ os) table = all_told (suc n) os (with_id table n o.id)

-- the data are those of a model of the extent's metamodel, the extent has no objects, and the store has room for them
pub record IsLoadable (s : Contents) (e : ℕ) (os : List ObjectData) : Type 0 where
  pub extent : IsTrue (is_extent s e)
  pub empty : members_of s e ≡ []
  pub model : IsModel s.metas (extent_at s e).metamodel os
  pub room : length s.objects + length os ≤ most_objects

-- the members of every extent but e are as before
pub record MembersStay (s s' : Contents) (e : ℕ) : Type 0 where
  pub others : (f : ℕ) → f ≢ e → members_of s' f ≡ members_of s f

-- the table tells an id for each object of the store
abbrev pub TellsAll : Contents → List (Option (List ℕ)) → Type 0
TellsAll s ids = (x : ℕ) → IsTrue (is_live s x) → IsTrue (is_some (id_in ids x))

-- and none for another number
abbrev pub TellsNoOther : Contents → List (Option (List ℕ)) → Type 0
TellsNoOther s ids = (x : ℕ) → IsFalse (is_live s x) → id_in ids x ≡ None

-- the table tells the ids of these objects, which were loaded into store s, and of every other what it told before
abbrev pub AreTold : Contents → List ObjectData → List (Option (List ℕ)) → List (Option (List ℕ)) → Type 0
AreTold s os old new = (x : ℕ) → id_in new x ≡ id_told (length s.objects) os x (id_in old x)

-- the ids of the loaded objects in a run, and those of the objects that were there before
pub record HaveRunIds (s : Contents) (e : ℕ) (os : List ObjectData) (old new : List (Option (List ℕ))) : Type 0 where
  -- in an extent that is not writable those of their file
  pub read : IsFalse (extent_at s e).writable → (i : ℕ) → i < length os → run_id (loaded s e os) new (length s.objects + i) ≡ (object_data_at os i).id
  -- in a writable one, which had no objects, by their places
  pub written : IsTrue (extent_at s e).writable → members_of s e ≡ [] → (i : ℕ) → i < length os → run_id (loaded s e os) new (length s.objects + i) ≡ own_id (suc i)
  pub before : (x : ℕ) → IsTrue (is_live s x) → run_id (loaded s e os) new x ≡ run_id s old x

-- what a loading leaves
pub record LoadLeaves (s : Contents) (e : ℕ) (os : List ObjectData) : Type 0 where
  pub stays : StaysIn s (loaded s e os)
  pub inputs : InputsStay s (loaded s e os)
  pub others : MembersStay s (loaded s e os) e
  pub count : length (loaded s e os).objects ≡ length s.objects + length os
  -- each earlier object keeps its id, and the table tells one for each loaded object
  pub ids : (old new : List (Option (List ℕ))) → AreTold s os old new → (x : ℕ) → IsTrue (is_live s x) → id_in new x ≡ id_in old x
  pub tells : (old new : List (Option (List ℕ))) → AreTold s os old new → TellsAll s old → TellsAll (loaded s e os) new
  pub no_other : (old new : List (Option (List ℕ))) → AreTold s os old new → TellsNoOther s old → TellsNoOther (loaded s e os) new
  pub run_ids : (old new : List (Option (List ℕ))) → AreTold s os old new → HaveRunIds s e os old new
  -- what can be loaded into another extent still can, if there is room
  pub next : (f : ℕ) (more : List ObjectData) → f ≢ e → IsLoadable s f more → length s.objects + length os + length more ≤ most_objects → IsLoadable (loaded s e os) f more

abbrev pub EachLoadLeaves : Type 0
EachLoadLeaves = (s : Contents) (e : ℕ) (os : List ObjectData) → LoadLeaves s e os

-- Several models, each with the extent that it is loaded into, one after the other: each can be loaded when its turn comes.
abbrev pub CanLoadEach : Contents → List (ℕ × List ObjectData) → Type 0
CanLoadEach s [] = ⊤
CanLoadEach s (l ∷ ls) = IsLoadable s l.0 l.1 × CanLoadEach (loaded s l.0 l.1) ls

abbrev pub object_count : List (ℕ × List ObjectData) → ℕ
object_count [] = 0
object_count (l ∷ ls) = length l.1 + object_count ls

-- none of them is loaded into extent e
abbrev pub ElsewhereThan : ℕ → List (ℕ × List ObjectData) → Type 0
ElsewhereThan e [] = ⊤
ElsewhereThan e (l ∷ ls) = (l.0 ≢ e) × ElsewhereThan e ls

abbrev pub AreApart : List (ℕ × List ObjectData) → Type 0
AreApart [] = ⊤
AreApart (l ∷ ls) = ElsewhereThan l.0 ls × AreApart ls

-- each can be loaded into the store as it is, into an extent of its own, and there is room for all
pub record AreLoadable (s : Contents) (ls : List (ℕ × List ObjectData)) : Type 0 where
  pub each : AllByRecursion (λ l. IsLoadable s l.0 l.1) ls
  pub apart : AreApart ls
  pub room : length s.objects + object_count ls ≤ most_objects

-- what is known before the first is known of each
abbrev pub LoadEach : Type 0
LoadEach = (s : Contents) (ls : List (ℕ × List ObjectData)) → AreLoadable s ls → CanLoadEach s ls
