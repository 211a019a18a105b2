-- What has a type has a value of that type.
use Rattle.std.proofs.Common.{◌≡◌, ◌∙◌, ℕ, Bool, true, false, ◌||◌, not, cond, List, [], ◌∷◌, refl, sym, ap, subst}
use Rattle.std.specs.Prelude.{⊤, Option, Some, None, IsSomeAnd}
use Rattle.std.specs.Option.{is_some, option_map}
use Rattle.std.specs.List.{list_any, find}
use Rattle.qvt_base.specs.declared.numbers.Oid.{Oid}
use Rattle.qvt_base.specs.declared.numbers.Place.{Place}
use Rattle.qvt_value.specs.declared.value.LiteralRef.{LiteralRef}
use Rattle.qvt_value.specs.declared.value.Value.{Value, Null, Bool as Truth, Int, Str, Enum, Obj, Coll', Invalid, items-the_row-Value}
use Rattle.qvt_value.specs.declared.value.Kind.{Kind}
use Rattle.qvt_value.specs.declared.value.Kind.TheVariants.{Set, Bag, Sequence, OrderedSet}
use Rattle.qvt_value.specs.declared.value.Reason.TheVariants.{NullSource}
use Rattle.qvt_value.specs.Make.{is_invalid}
use Rattle.qvt_ocl_words.specs.declared.op.Op.{Op}
use Rattle.qvt_ocl_words.specs.declared.op.Op.TheVariants.{Equal, NotEqual, IsUndefined, IsInvalid, Minus, At, IncludesAll, ExcludesAll, Union, Intersection, SubSequence, SubOrderedSet, Includes, Excludes, Count, Including, Excluding, IndexOf, Append, Prepend, InsertAt, Size, IsEmpty, NotEmpty, Flatten, AsSet, AsBag, AsSequence, AsOrderedSet, Sum, Min, Max, First, Last, Reverse}
use Rattle.qvt_ocl_words.specs.Lists.{is_null, same}
use Rattle.qvt_value.specs.Limits.{limited}
use Rattle.qvt_ocl_words.specs.Operation as answers
use Rattle.qvt_ocl_words.specs.Operation.{operation, on_valid, unless_null, lacks_operand, on_present, besides_items, is_test, tested, is_equality, compared, value_or}
use Rattle.qvt_types_data.specs.Term.{TyTerm, Void, Boolean, Integer, Text, Literals, Class, Collection}
use Rattle.qvt_ocl_types.specs.Types.{join}
use Rattle.qvt_ocl_types.specs.declared.signature.Sort.{Sort}
use Rattle.qvt_ocl_types.specs.declared.signature.Sort.TheVariants as sort
use Rattle.qvt_ocl_types.specs.declared.signature.ArgumentSort.{ArgumentSort}
use Rattle.qvt_ocl_types.specs.declared.signature.ArgumentSort.TheVariants as param
use Rattle.qvt_ocl_types.specs.declared.signature.Demand.{Demand}
use Rattle.qvt_ocl_types.specs.declared.signature.Demand.TheVariants.{Any, Integers, Ordered}
use Rattle.qvt_ocl_types.specs.declared.signature.OperationSignature.{OperationSignature}
use Rattle.qvt_ocl_types.specs.declared.signature.Kinds.TheVariants.{Every, SetOrBag, Only}
use Rattle.qvt_ocl_types.specs.Table.{signature, listed, allows}
use Rattle.qvt_ocl_types.specs.Fits.{Each, Sure, IsNothing, Fits}
use Rattle.qvt_ocl_types.specs.Rows.{Holds, RowHolds, Says, type_of, Meets, AreOrdered, numbers, texts, nothing, AreIntegers, numbers', nothing'}
use Rattle.qvt_ocl_types.specs.Typing.{Taken, sort_of, meets, is_of_all, accepts, answered, by_signature, by_sort, type_of_all, answer_type}
use Rattle.qvt_ocl_types.specs.Law.{AreBelow, AllFit, TypedIsSound}
use Rattle.qvt_ocl_types.proofs.Fitting as fit
use Rattle.qvt_ocl_types.proofs.EachRow.{rows_of}
use Rattle.qvt_ocl_types.proofs.Present as present

some_same : {A : Type 0} (a b : A) → Some a ≡ Some b → a ≡ b
some_same a b h = cc

found_from : (b : Bool) (x w : Value) (o : Option Value) → is_invalid x ≡ b → (o ≡ Some w → is_invalid w ≡ true) → cond b (Some x) o ≡ Some w → is_invalid w ≡ true
found_from true x w o e f h = ap is_invalid (sym (some_same x w h)) ∙ e
found_from false x w o e f h = f h

found_invalid : (xs : List Value) (w : Value) → find is_invalid xs ≡ Some w → is_invalid w ≡ true
found_invalid [] w h = cc
found_invalid (x ∷ xs) w h = found_from (is_invalid x) x w (find is_invalid xs) refl (found_invalid xs w) h

missed : (b : Bool) (x : Value) (o : Option Value) → cond b (Some x) o ≡ None → (b ≡ false) × (o ≡ None)
missed true x o h = cc
missed false x o h = (refl, h)

abbrev Valid : List Value → Type 0
Valid [] = ⊤
Valid (v ∷ vs) = (is_invalid v ≡ false) × Valid vs

all_valid : (xs : List Value) → find is_invalid xs ≡ None → Valid xs
all_valid [] h = tt
all_valid (x ∷ xs) h = let m = missed (is_invalid x) x (find is_invalid xs) h in (m.0, all_valid xs m.1)

demanded : (d : Demand) (I : TyTerm) → meets d I ≡ true → Meets d I
demanded Any I h = tt
demanded Integers Integer h = numbers'
demanded Integers Void h = nothing'
demanded Ordered Integer h = numbers
demanded Ordered Text h = texts
demanded Ordered Void h = nothing
demanded d I h = cc

module _ (below : ℕ → ℕ → Bool) (literals : ℕ → ℕ → LiteralRef → Bool) (objects : ℕ → Oid → Bool) (ab : AreBelow below objects) where
  abbrev In : TyTerm → Value → Type 0
  In T v = Fits literals objects T v

  abbrev There : List ArgumentSort → List Value → Type 0
  There ps vs = present.Present below literals objects ab ps vs

  abbrev IsThere : Op → Option OperationSignature → Type 0
  IsThere op None = ⊤
  IsThere op (Some s) = (vs : List Value) → list_any is_null (besides_items op vs) ≡ false → There (listed s.params) vs

  all_there : (ps : List ArgumentSort) (vs : List Value) → list_any is_null vs ≡ false → There ps vs
  all_there = present.all_present below literals objects ab

  item_there : (vs : List Value) → There (param.Item ∷ []) vs
  item_there = present.item_present below literals objects ab

  place_there : (vs : List Value) → list_any is_null (besides_items InsertAt vs) ≡ false → There (param.Integer ∷ param.Item ∷ []) vs
  place_there = present.place_present below literals objects ab

  one_there : (op : Op) (p : ArgumentSort) → ((v : Value) (vs : List Value) → besides_items op (v ∷ vs) ≡ v ∷ vs) → (ps : List ArgumentSort) (vs : List Value) → list_any is_null (besides_items op vs) ≡ false → There (p ∷ ps) vs
  one_there op param.Integer e ps [] h = tt
  one_there op param.Text e ps [] h = tt
  one_there op param.Item e ps [] h = tt
  one_there op (param.Items ok) e ps [] h = tt
  one_there op p e ps (v ∷ vs) h = all_there (p ∷ ps) (v ∷ vs) (sym (ap (list_any is_null) (e v vs)) ∙ h)

  -- a line a row: which arguments of a collection's operation may be null
  there : (op : Op) (k : Kind) → IsThere op (signature op (sort.Collection k))
  there Includes k = λ vs h. item_there vs
  there Excludes k = λ vs h. item_there vs
  there Count k = λ vs h. item_there vs
  there Including k = λ vs h. item_there vs
  there Excluding k = λ vs h. item_there vs
  there IncludesAll k = one_there IncludesAll (param.Items Every) (λ v vs. refl) []
  there ExcludesAll k = one_there ExcludesAll (param.Items Every) (λ v vs. refl) []
  there Union k = one_there Union (param.Items (Only k)) (λ v vs. refl) []
  there Size k = λ vs h. tt
  there IsEmpty k = λ vs h. tt
  there NotEmpty k = λ vs h. tt
  there Flatten k = λ vs h. tt
  there AsSet k = λ vs h. tt
  there AsBag k = λ vs h. tt
  there AsSequence k = λ vs h. tt
  there AsOrderedSet k = λ vs h. tt
  there Sum k = λ vs h. tt
  there Min k = λ vs h. tt
  there Max k = λ vs h. tt
  there Minus Set = one_there Minus (param.Items Every) (λ v vs. refl) []
  there Minus OrderedSet = one_there Minus (param.Items Every) (λ v vs. refl) []
  there Intersection Set = one_there Intersection (param.Items SetOrBag) (λ v vs. refl) []
  there Intersection Bag = one_there Intersection (param.Items SetOrBag) (λ v vs. refl) []
  there At Sequence = one_there At param.Integer (λ v vs. refl) []
  there At OrderedSet = one_there At param.Integer (λ v vs. refl) []
  there SubSequence Sequence = one_there SubSequence param.Integer (λ v vs. refl) (param.Integer ∷ [])
  there SubOrderedSet OrderedSet = one_there SubOrderedSet param.Integer (λ v vs. refl) (param.Integer ∷ [])
  there IndexOf Sequence = λ vs h. item_there vs
  there IndexOf OrderedSet = λ vs h. item_there vs
  there Append Sequence = λ vs h. item_there vs
  there Append OrderedSet = λ vs h. item_there vs
  there Prepend Sequence = λ vs h. item_there vs
  there Prepend OrderedSet = λ vs h. item_there vs
  there InsertAt Sequence = λ vs h. place_there vs h
  there InsertAt OrderedSet = λ vs h. place_there vs h
  there First Sequence = λ vs h. tt
  there First OrderedSet = λ vs h. tt
  there Last Sequence = λ vs h. tt
  there Last OrderedSet = λ vs h. tt
  there Reverse Sequence = λ vs h. tt
  there Reverse OrderedSet = λ vs h. tt
  there op Set = tt
  there op Bag = tt
  there op Sequence = tt
  there op OrderedSet = tt

  abbrev Gives : Option Value → TyTerm → Type 0
  Gives o U = IsSomeAnd o (In U)

  any_invalid : (U : TyTerm) (w : Value) → is_invalid w ≡ true → In U w
  any_invalid U (Invalid r p) h = fit.invalid_fits literals objects U r p
  any_invalid U v h = cc

  -- the type of a signature's answer
  typed_as : (s : OperationSignature) (I U : TyTerm) (o : Option Taken) (Q : Type 0) → answered below s I o ≡ Some U → ((t : Taken) → o ≡ Some t → type_of s.answer I t.kind t.joined ≡ U → Q) → Q
  typed_as s I U (Some t) Q h f = f t refl (some_same (type_of s.answer I t.kind t.joined) U h)
  typed_as s I U None Q h f = cc

  tested_by : {X : Type 0} (b : Bool) (o : Option X) (x : X) (Q : Type 0) → cond b o None ≡ Some x → (b ≡ true → o ≡ Some x → Q) → Q
  tested_by true o x Q h f = f refl h
  tested_by false o x Q h f = cc

  -- a source that is there
  on_boolean : (op : Op) (o : Option OperationSignature) → Holds literals objects op sort.Boolean o → (U : TyTerm) (Us : List TyTerm) → by_signature below o Boolean Us ≡ Some U → (at : Place) (b : Bool) (vs : List Value) → AllFit literals objects Us vs → present.Valid below literals objects ab vs → list_any is_null vs ≡ false → Gives (on_present op at (Truth b) vs) U
  on_boolean op None r U Us e at b vs f i n = cc
  on_boolean op (Some s) r U Us e at b vs f i n =
      tested_by (meets s.demand Void) (answered below s Void (accepts below (listed s.params) Set Void Us)) U (Gives (on_present op at (Truth b) vs) U) e (λ d k.
      typed_as s Void U (accepts below (listed s.params) Set Void Us) (Gives (on_present op at (Truth b) vs) U) k (λ t a is.
      subst (λ X. Gives (on_present op at (Truth b) vs) X) is
      (present.apply_given below literals objects ab (listed s.params) Set Void (Says literals objects op (Truth b) s.answer Void) (r b) Us vs f i (all_there (listed s.params) vs n) t a at)))

  on_integer : (op : Op) (o : Option OperationSignature) → Holds literals objects op sort.Integer o → (U : TyTerm) (Us : List TyTerm) → by_signature below o Integer Us ≡ Some U → (at : Place) (b : _) (vs : List Value) → AllFit literals objects Us vs → present.Valid below literals objects ab vs → list_any is_null vs ≡ false → Gives (on_present op at (Int b) vs) U
  on_integer op None r U Us e at b vs f i n = cc
  on_integer op (Some s) r U Us e at b vs f i n =
      tested_by (meets s.demand Void) (answered below s Void (accepts below (listed s.params) Set Void Us)) U (Gives (on_present op at (Int b) vs) U) e (λ d k.
      typed_as s Void U (accepts below (listed s.params) Set Void Us) (Gives (on_present op at (Int b) vs) U) k (λ t a is.
      subst (λ X. Gives (on_present op at (Int b) vs) X) is
      (present.apply_given below literals objects ab (listed s.params) Set Void (Says literals objects op (Int b) s.answer Void) (r b) Us vs f i (all_there (listed s.params) vs n) t a at)))

  on_string : (op : Op) (o : Option OperationSignature) → Holds literals objects op sort.Text o → (U : TyTerm) (Us : List TyTerm) → by_signature below o Text Us ≡ Some U → (at : Place) (b : _) (vs : List Value) → AllFit literals objects Us vs → present.Valid below literals objects ab vs → list_any is_null vs ≡ false → Gives (on_present op at (Str b) vs) U
  on_string op None r U Us e at b vs f i n = cc
  on_string op (Some s) r U Us e at b vs f i n =
      tested_by (meets s.demand Void) (answered below s Void (accepts below (listed s.params) Set Void Us)) U (Gives (on_present op at (Str b) vs) U) e (λ d k.
      typed_as s Void U (accepts below (listed s.params) Set Void Us) (Gives (on_present op at (Str b) vs) U) k (λ t a is.
      subst (λ X. Gives (on_present op at (Str b) vs) X) is
      (present.apply_given below literals objects ab (listed s.params) Set Void (Says literals objects op (Str b) s.answer Void) (r b) Us vs f i (all_there (listed s.params) vs n) t a at)))

  on_collection : (op : Op) (k : Kind) (o : Option OperationSignature) → Holds literals objects op (sort.Collection k) o → IsThere op o → (I U : TyTerm) (Us : List TyTerm) → by_signature below o (Collection k I) Us ≡ Some U → (at : Place) (z : _) (r : _) (vs : List Value)
      → Each (Sure (In I)) (items-the_row-Value _ r) → AllFit literals objects Us vs → present.Valid below literals objects ab vs → list_any is_null (besides_items op vs) ≡ false → Gives (on_present op at (Coll' k z r) vs) U
  on_collection op k None h th I U Us e at z r vs q f i n = cc
  on_collection op k (Some s) h th I U Us e at z r vs q f i n =
      tested_by (meets s.demand I) (answered below s I (accepts below (listed s.params) k I Us)) U (Gives (on_present op at (Coll' k z r) vs) U) e (λ d c.
      typed_as s I U (accepts below (listed s.params) k I Us) (Gives (on_present op at (Coll' k z r) vs) U) c (λ t a is.
      subst (λ X. Gives (on_present op at (Coll' k z r) vs) X) is
      (present.apply_given below literals objects ab (listed s.params) k I (Says literals objects op (Coll' k z r) s.answer I) (h I (demanded s.demand I d) z r q) Us vs f i (th vs n) t a at)))

  -- operands none of which is invalid or, where it may not be, null
  there_all : (op : Op) (T U : TyTerm) (Us : List TyTerm) → by_sort below op (sort_of op T Us) T Us ≡ Some U → (at : Place) (v : Value) (vs : List Value) → In T v → is_invalid v ≡ false → AllFit literals objects Us vs → present.Valid below literals objects ab vs → lacks_operand op v vs ≡ false → Gives (on_present op at v vs) U
  there_all op Boolean U Us e at (Truth b) vs f x g i n = on_boolean op (signature op sort.Boolean) (rows_of literals objects op sort.Boolean) U Us e at b vs g i n
  there_all op Integer U Us e at (Int b) vs f x g i n = on_integer op (signature op sort.Integer) (rows_of literals objects op sort.Integer) U Us e at b vs g i n
  there_all op Text U Us e at (Str b) vs f x g i n = on_string op (signature op sort.Text) (rows_of literals objects op sort.Text) U Us e at b vs g i n
  there_all op (Collection k I) U Us e at (Coll' m z r) vs f x g i n =
      subst (λ j. Gives (on_present op at (Coll' j z r) vs) U) (sym f.0)
      (on_collection op k (signature op (sort.Collection k)) (rows_of literals objects op (sort.Collection k)) (there op k) I U Us e at z r vs f.1 g i n)
  there_all op (Literals y w) U Us e at v vs f x g i n = cc
  there_all op (Class y) U Us e at v vs f x g i n = cc
  there_all op T U Us e at Null vs f x g i n = cc
  there_all op T U Us e at (Invalid p q) vs f x g i n = cc
  there_all op T U Us e at v vs f x g i n = absurd f

  valid_on : (op : Op) (T U : TyTerm) (Us : List TyTerm) → by_sort below op (sort_of op T Us) T Us ≡ Some U → (at : Place) (v : Value) (vs : List Value) → In T v → AllFit literals objects Us vs → Valid (v ∷ vs) → Gives (unless_null op at v vs) U
  unfolding unless_null
  valid_on op T U Us e at v vs f g i = go (lacks_operand op v vs) refl
    where
      go : (b : Bool) → lacks_operand op v vs ≡ b → Gives (cond b (Some (Invalid NullSource at)) (on_present op at v vs)) U
      go true l = fit.invalid_fits literals objects U NullSource at
      go false l = there_all op T U Us e at v vs f i.0 g i.1 l

  either : (o : Option Value) (w : Option Value) (U : TyTerm) → ((x : Value) → o ≡ Some x → In U x) → (o ≡ None → Gives w U) → Gives (value_or o w) U
  either (Some x) w U f g = f x refl
  either None w U f g = g refl

  -- what is answered is limited
  within : (U : TyTerm) (at : Place) (o : Option Value) → Gives o U → Gives (option_map (limited at) o) U
  within U at (Some v) g = fit.limited_fits literals objects U at v g
  within U at None g = absurd g

  plain : (op : Op) → is_test op ≡ false → is_equality op ≡ false → (T U : TyTerm) (Us : List TyTerm) → by_sort below op (sort_of op T Us) T Us ≡ Some U → (at : Place) (v : Value) (vs : List Value) → In T v → AllFit literals objects Us vs → Gives (answers.answered op at v vs) U
  unfolding answers.answered on_valid
  plain op p q T U Us e at v vs f g =
      subst (λ b. Gives (cond b (tested op v vs) (value_or (find is_invalid (v ∷ vs)) (on_valid op at v vs))) U) (sym p)
      (either (find is_invalid (v ∷ vs)) (on_valid op at v vs) U
      (λ x h. any_invalid U x (found_invalid (v ∷ vs) x h))
      (λ h. subst (λ b. Gives (cond b (compared op v vs) (unless_null op at v vs)) U) (sym q) (valid_on op T U Us e at v vs f g (all_valid (v ∷ vs) h))))

  -- the tests and comparisons of all values
  truth : (b : Bool) (U : TyTerm) → cond b (Some Boolean) None ≡ Some U → (t : Bool) → In U (Truth t)
  truth true U h t = subst (λ X. In X (Truth t)) (some_same Boolean U h) tt
  truth false U h t = cc

  asked : (op : Op) → is_of_all op ≡ true → (T U : TyTerm) (Us : List TyTerm) → type_of_all below op T Us ≡ Some U → (at : Place) (v : Value) (vs : List Value) → AllFit literals objects Us vs → Gives (answers.answered op at v vs) U
  unfolding answers.answered on_valid tested compared
  asked IsUndefined p T U [] e at v [] g = truth true U e _
  asked IsInvalid p T U [] e at v [] g = truth true U e _
  asked Equal p T U (W ∷ []) e at v (w ∷ []) g =
      either (find is_invalid (v ∷ w ∷ [])) (Some (Truth (same v w))) U (λ x h. any_invalid U x (found_invalid (v ∷ w ∷ []) x h)) (λ h. truth (is_some (join below T W)) U e (same v w))
  asked NotEqual p T U (W ∷ []) e at v (w ∷ []) g =
      either (find is_invalid (v ∷ w ∷ [])) (Some (Truth (not (same v w)))) U (λ x h. any_invalid U x (found_invalid (v ∷ w ∷ []) x h)) (λ h. truth (is_some (join below T W)) U e (not (same v w)))
  asked IsUndefined p T U [] e at v (w ∷ ws) g = absurd g
  asked IsInvalid p T U [] e at v (w ∷ ws) g = absurd g
  asked Equal p T U (W ∷ []) e at v [] g = absurd g
  asked Equal p T U (W ∷ []) e at v (w ∷ x ∷ ws) g = absurd g.1
  asked NotEqual p T U (W ∷ []) e at v [] g = absurd g
  asked NotEqual p T U (W ∷ []) e at v (w ∷ x ∷ ws) g = absurd g.1
  asked op p T U Us e at v vs g = cc

neither : (a b : Bool) → (a || b) ≡ false → (a ≡ false) × (b ≡ false)
neither false b h = (refl, h)
neither true b h = cc

every : (below : ℕ → ℕ → Bool) (literals : ℕ → ℕ → LiteralRef → Bool) (objects : ℕ → Oid → Bool) → AreBelow below objects →
    (op : Op) (T U : TyTerm) (Us : List TyTerm) → answer_type below op T Us ≡ Some U →
    (at : Place) (v : Value) (vs : List Value) → Fits literals objects T v → AllFit literals objects Us vs → IsSomeAnd (operation op at v vs) (Fits literals objects U)
unfolding answer_type operation
every below literals objects ab op T U Us e at v vs f g = within below literals objects ab U at (answers.answered op at v vs) (go (is_of_all op) refl e)
  where
    go : (b : Bool) → is_of_all op ≡ b → cond b (type_of_all below op T Us) (by_sort below op (sort_of op T Us) T Us) ≡ Some U → IsSomeAnd (answers.answered op at v vs) (Fits literals objects U)
    go true t e = asked below literals objects ab op t T U Us e at v vs g
    go false t e = let n = neither (is_test op) (is_equality op) t in plain below literals objects ab op n.0 n.1 T U Us e at v vs f g

pub sound : TypedIsSound
sound = every
