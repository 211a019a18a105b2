-- What is ruled of a node whose parts have types: that it holds, with a type, or fails. It is silent nowhere.
use Rattle.std.proofs.Common.{◌≡◌, refl, sym, ℕ, Bool, true, false, List, [], ◌∷◌, Option, Some, None, length}
use Rattle.std.proofs.lemmas.Bool.{false≢true}
use Rattle.std.specs.Prelude.{is_some, if◌then◌else◌, ◌==◌}
use Rattle.std.specs.List.{list_any}
use Rattle.qvt_base.specs.declared.numbers.ClassNo.{ClassNo}
use Rattle.qvt_base.specs.declared.numbers.FeatureNo.{FeatureNo}
use Rattle.qvt_metas.specs.Metamodels.{Metamodels}
use Rattle.qvt_ocl_words.specs.declared.op.Op.{Op}
use Rattle.qvt_tree_types.specs.declared.words.BinaryOp.{BinaryOp}
use Rattle.qvt_tree_types.specs.declared.words.CollKind.{CollKind}
use Rattle.qvt_tree_types.specs.declared.words.CollKind.TheVariants as coll
use Rattle.qvt_tree_types.specs.declared.words.PrefixOp.{PrefixOp}
use Rattle.qvt_tree_types.specs.declared.words.PrefixOp.TheVariants as sign
use Rattle.qvt_tree_types.specs.declared.words.ResolveWord.{ResolveWord}
use Rattle.qvt_types_data.specs.Notes.{ruled_wrapped, told, plain}
use Rattle.qvt_types_data.specs.declared.note.Reading.{Reading}
use Rattle.qvt_types_data.specs.declared.ruling.Ruling.{Ruling}
use Rattle.qvt_types_data.specs.declared.ruling.Ruling.TheVariants.{Holds, Fails, Silent}
use Rattle.qvt_types_data.specs.declared.ty.Ty.{Ty}
use Rattle.qvt_types_data.specs.declared.ty.Ty.TheVariants as ty
use Rattle.qvt_types_steps.specs.Calls.{flattened, collected_over, collected, operation_read, counted, applied, dot_call, named_arity, is_single_type, source_of}
use Rattle.qvt_types_steps.specs.Classes as classes
use Rattle.qvt_types_steps.specs.Iterators as iterators
use Rattle.qvt_types_steps.specs.Properties.{feature_read, feature_in, property}
use Rattle.qvt_types_steps.specs.Resolving as resolving
use Rattle.qvt_types_steps.specs.UnitCalls.{unit_step, mapped, mapping_step}
use Rattle.qvt_types_steps.specs.declared.classes.ClassPart.{ClassPart}
use Rattle.qvt_types_steps.specs.declared.classes.ClassPart.TheVariants as part
use Rattle.qvt_types_steps.specs.declared.classes.ClassTest.{ClassTest}
use Rattle.qvt_types_steps.specs.declared.heads.Heading.{Heading}
use Rattle.qvt_types_steps.specs.declared.iterators.IteratorKind.{IteratorKind}
use Rattle.qvt_types_steps.specs.declared.iterators.IteratorRow.{IteratorRow}
use Rattle.qvt_types_steps.specs.declared.resolves.Joint.{Joint}
use Rattle.qvt_types_steps.specs.declared.resolves.Joint.TheVariants as joint
use Rattle.qvt_types_steps.specs.IteratorTable.{iterator_named, row_of}
use Rattle.qvt_types_words.specs.Answers.{answer, arity}
use Rattle.qvt_types_words.specs.OperationNames.{operation_named}
use Rattle.qvt_types_words.specs.Rulings as ruling
use Rattle.qvt_types_words.specs.Types.{Collection, collection_of, conforms, join, innermost}
use Rattle.qvt_typed_laws.proofs.Keeps.{SomeTy}

abbrev pub is_solid : Ruling → Bool
is_solid (Holds r) = is_some r.answer
is_solid (Fails k) = true
is_solid Silent = false

abbrev pub Solid : Ruling → Type 0
Solid w = is_solid w ≡ true

pub solid_if : (b : Bool) (v w : Ruling) → Solid v → Solid w → Solid (if b then v else w)
solid_if true v w h k = h
solid_if false v w h k = k

-- Rulings by types alone.

or_wrong : (o : Option Ty) → Solid (ruling.or_wrong o)
or_wrong None = refl
or_wrong (Some t) = refl

typed_if : (b : Bool) (t : Ty) → Solid (ruling.typed_if b t)
typed_if b t = solid_if b (ruling.typed t) _ refl refl

by_table : (m : Metamodels) (o : Option Op) (a b : Ty) → Solid (ruling.by_table m o a b)
by_table m None a b = typed_if (ruling.both m ty.Boolean a b) ty.Boolean
by_table m (Some o) a b = or_wrong (answer m o a (b ∷ []))

pub operator : (m : Metamodels) (op : BinaryOp) (a b : Option Ty) → SomeTy a → SomeTy b → Solid (ruling.operator m op a b)
operator m op None b h k = h
operator m op (Some a) None h k = k
operator m op (Some a) (Some b) h k = by_table m (ruling.operation_of op) a b

signed : (m : Metamodels) (op : PrefixOp) (t : Ty) → Solid (ruling.signed m op t)
signed m sign.Not t = typed_if (conforms m t ty.Boolean) ty.Boolean
signed m sign.Minus t = or_wrong _

pub prefixed : (m : Metamodels) (op : PrefixOp) (o : Option Ty) → SomeTy o → Solid (ruling.prefixed m op o)
prefixed m op None h = h
prefixed m op (Some t) h = signed m op t

pub conditional : (m : Metamodels) (c y z : Option Ty) → SomeTy c → SomeTy y → SomeTy z → Solid (ruling.conditional m c y z)
conditional m None y z h k l = h
conditional m (Some c) None z h k l = k
conditional m (Some c) (Some y) None h k l = l
conditional m (Some c) (Some y) (Some z) h k l = solid_if (conforms m c ty.Boolean) (ruling.or_wrong (join m y z)) _ (or_wrong (join m y z)) refl

coll_or_wrong : (k : CollKind) (o : Option Ty) → Solid (ruling.coll_or_wrong k o)
coll_or_wrong k None = refl
coll_or_wrong k (Some t) = refl

pub literal : (m : Metamodels) (k : CollKind) (us : Option (List Ty)) → is_some us ≡ true → Solid (ruling.literal m k us)
literal m k None h = h
literal m k (Some us) h = coll_or_wrong k (ruling.joined_from m (Some ty.Void) us)

pub range : (m : Metamodels) (a b : Option Ty) → SomeTy a → SomeTy b → Solid (ruling.range m a b)
range m None b h k = h
range m (Some a) None h k = k
range m (Some a) (Some b) h k = typed_if (ruling.both m ty.Integer a b) ty.Integer

-- Steps.

pub wrapped : (b : Bool) (w : Ruling) → Solid w → Solid (ruled_wrapped b w)
wrapped b (Holds r) h = h
wrapped b (Fails k) h = refl
wrapped b Silent h = h

flat : (k : CollKind) (o : Option Ty) → SomeTy o → SomeTy (flattened k o)
flat k None h = h
flat k (Some t) h = refl

over : (c : Option Collection) (w : Ruling) → Solid w → Solid (collected_over c w)
over None w h = h
over (Some c) (Holds r) h = flat c.kind r.answer h
over (Some c) (Fails k) h = refl
over (Some c) Silent h = h

pub collect : (t : Ty) (w : Ruling) → Solid w → Solid (collected t w)
collect t w h = over (collection_of t) w h

operation : (name : List ℕ) (o : Option Ty) → Solid (operation_read name o)
operation name None = refl
operation name (Some t) = refl

count : (k : Option ℕ) (n : ℕ) (w : Ruling) → Solid w → Solid (counted k n w)
count None n w h = refl
count (Some k) n w h = solid_if (n == k) w _ h refl

apply : (m : Metamodels) (name : List ℕ) (op : Option Op) (t : Ty) (us : List Ty) → Solid (applied m name op t us)
apply m name None t us = refl
apply m name (Some op) t us = count (arity op t) (length us) _ (operation name (answer m op t us))

pub dot : (m : Metamodels) (name : List ℕ) (o : Option Ty) (us : Option (List Ty)) → SomeTy o → is_some us ≡ true → Solid (dot_call m name o us)
dot m name None us h k = h
dot m name (Some t) None h k = k
dot m name (Some t) (Some us) h k = collect t _ (apply m name (operation_named name) (innermost t) us)

read : (m : Metamodels) (f : Option FeatureNo) → Solid (feature_read m f)
read m None = refl
read m (Some f) = refl

pub property_step : (m : Metamodels) (name : List ℕ) (o : Option Ty) → SomeTy o → Solid (property m name o)
property_step m name None h = h
property_step m name (Some t) h = collect t _ (read m (feature_in m (innermost t) name))

-- Classes.

abbrev pub Typed : ClassPart → Type 0
Typed c = classes.is_untyped c ≡ false

class_answer : (name : List ℕ) (f : ClassNo → Ty) (c : ClassPart) → Typed c → Solid (classes.class_answer name f c)
class_answer name f (part.Class c) h = refl
class_answer name f part.Missing h = refl
class_answer name f part.Untyped h = sym h

any_first : (p : ClassPart) (ps : List ClassPart) → list_any classes.is_untyped (p ∷ ps) ≡ false → Typed p
any_first (part.Class c) ps h = refl
any_first part.Missing ps h = refl
any_first part.Untyped ps h = h

with_class : (name : List ℕ) (f : ClassNo → Ty) (ps : List ClassPart) → list_any classes.is_untyped ps ≡ false → Solid (classes.with_class name f ps)
with_class name f [] h = refl
with_class name f (p ∷ []) h = class_answer name f p (any_first p [] h)
with_class name f (p ∷ q ∷ ps) h = refl

tested : (name : List ℕ) (o : ClassTest) (t : Ty) (ps : List ClassPart) → list_any classes.is_untyped ps ≡ false → Solid (classes.tested name o t ps)
tested name o (ty.Class c) ps h = with_class name (classes.test_type o) ps h
tested name o t ps h = refl

-- a ruling where no class is untyped
unless_any : (b : Bool) (w : Ruling) → b ≡ false → Solid w → Solid (if b then Silent else w)
unless_any true w h k = absurd (false≢true (sym h))
unless_any false w h k = k

pub test : (name : List ℕ) (t : ClassTest) (o : Option Ty) (ps : List ClassPart) → SomeTy o → list_any classes.is_untyped ps ≡ false → Solid (classes.class_test name t o ps)
test name t None ps h k = h
test name t (Some s) ps h k = unless_any (list_any classes.is_untyped ps) _ k (collect s _ (tested name t (innermost s) ps k))

selected : (name : List ℕ) (s : Collection) (ps : List ClassPart) → list_any classes.is_untyped ps ≡ false → Solid (classes.selected name s ps)
selected name s [] h = refl
selected name s (p ∷ []) h = solid_if (iterators.is_object s.item) _ _ (class_answer name (classes.objects_in s.kind) p (any_first p [] h)) refl
selected name s (p ∷ q ∷ ps) h = refl

pub selection : (name : List ℕ) (b : Bool) (o : Option Ty) (ps : List ClassPart) → SomeTy o → list_any classes.is_untyped ps ≡ false → Solid (classes.selection name b o ps)
selection name b None ps h k = h
selection name b (Some t) ps h k = unless_any (list_any classes.is_untyped ps) _ k (wrapped (is_single_type t) _ (solid_if b _ _ refl (selected name (source_of t) ps k)))

pub model_objects : (name : List ℕ) (element : ClassNo) (us : Option (List Ty)) → is_some us ≡ true → Solid (classes.model_objects name element us)
model_objects name element None h = h
model_objects name element (Some []) h = refl
model_objects name element (Some (t ∷ ts)) h = refl

pub model_objects_of : (name : List ℕ) (ps : List ClassPart) → list_any classes.is_untyped ps ≡ false → Solid (classes.model_objects_of name ps)
model_objects_of name ps h = unless_any (list_any classes.is_untyped ps) _ h (with_class name (classes.objects_in coll.OrderedSet) ps h)

-- Iterators.

iterated : (m : Metamodels) (name : List ℕ) (r : IteratorRow) (s : Collection) (a b : Ty) → Solid (iterators.iterated m name r s a b)
iterated m name r s a b = solid_if (iterators.row_fits m r s.item a b) _ _ refl refl

iteration : (m : Metamodels) (name : List ℕ) (r : IteratorRow) (h : Heading) (s : Collection) (us : List Ty) → Solid (iterators.iteration m name r h s us)
iteration m name r h s [] = refl
iteration m name r h s (b ∷ []) = solid_if (iterators.head_fits r.folds h) _ _ (iterated m name r s (iterators.accumulator_type h) b) refl
iteration m name r h s (b ∷ c ∷ bs) = refl

needless : (n : Option ℕ) → Solid (iterators.needless_head n)
needless None = refl
needless (Some n) = refl

arrowed : (m : Metamodels) (name : List ℕ) (i : Option IteratorKind) (h : Heading) (s : Collection) (us : List Ty) → Solid (iterators.arrowed m name i h s us)
arrowed m name (Some i) h s us = iteration m name (row_of i) h s us
arrowed m name None h s us = solid_if (iterators.is_missing h) _ _ (apply m name (operation_named name) (ty.Coll s.kind s.item) us) (needless (named_arity name (ty.Coll s.kind s.item)))

pub arrow : (m : Metamodels) (name : List ℕ) (h : Heading) (o : Option Ty) (us : Option (List Ty)) → iterators.is_untyped h ≡ false → SomeTy o → is_some us ≡ true → Solid (iterators.arrow m name h o us)
arrow m name h None us g k l = k
arrow m name h (Some t) None g k l = l
arrow m name h (Some t) (Some us) g k l = unless_any (iterators.is_untyped h) _ g (wrapped (is_single_type t) _ (arrowed m name (iterator_named name) h (source_of t) us))

-- Resolves.

looked_for : (w : ResolveWord) (c : ClassPart) → Typed c → Solid (resolving.looked_for w c)
looked_for w (part.Class c) h = refl
looked_for w part.Missing h = refl
looked_for w part.Untyped h = sym h

resolve_over : (w : ResolveWord) (t : Ty) (c : ClassPart) → Typed c → Solid (resolving.resolve_over w t c)
resolve_over w t c h = unless_any (classes.is_untyped c) _ h (solid_if (resolving.is_source t) _ _ (looked_for w c h) refl)

-- behind a source it has a type
abbrev pub HasSource : Joint → Option Ty → Type 0
HasSource joint.Sourceless o = Unit {0}
HasSource joint.Dot o = SomeTy o
HasSource joint.Arrow o = SomeTy o

pub resolve : (j : Joint) (w : ResolveWord) (o : Option Ty) (c : ClassPart) → HasSource j o → Typed c → Solid (resolving.resolve j w o c)
resolve joint.Sourceless w o c h k = looked_for w c k
resolve joint.Dot w None c h k = h
resolve joint.Dot w (Some t) c h k = resolve_over w t c k
resolve joint.Arrow w None c h k = h
resolve joint.Arrow w (Some t) c h k = wrapped (is_single_type t) _ (resolve_over w t c k)

-- Calls of units.

pub stepped_unit : (o : Option Ty) (r : Reading) (a : Option Ty) → SomeTy o → SomeTy a → Solid (unit_step o r a)
stepped_unit None r a h k = h
stepped_unit (Some t) r None h k = k
stepped_unit (Some t) r (Some a) h k = collect t (Holds (plain r (Some a))) refl

mapped_solid : (arrow : Bool) (t : Ty) (r : Reading) (a : Ty) → Solid (mapped arrow t r a)
mapped_solid true t r a = refl
mapped_solid false t r a = solid_if (is_single_type t) _ _ refl refl

pub stepped_mapping : (arrow : Bool) (o : Option Ty) (r : Reading) (a : Option Ty) → SomeTy o → SomeTy a → Solid (mapping_step arrow o r a)
stepped_mapping arrow None r a h k = h
stepped_mapping arrow (Some t) r None h k = k
stepped_mapping arrow (Some t) r (Some a) h k = mapped_solid arrow t r a

-- What is read by a ruling after which nothing is told.
pub solid_read : (w : Ruling) → Solid w → (told w).0 ≡ None → SomeTy (told w).1.answer
solid_read (Holds r) h e = h
solid_read (Fails k) h e = absurd (cc)
solid_read Silent h e = h
