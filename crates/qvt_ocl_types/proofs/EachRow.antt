-- Each row of the table, one line a row.
use Rattle.std.proofs.Common.{◌≡◌, ℕ, Bool, true, false, not, ◌+ℤ◌, ◌-ℤ◌, ◌*ℤ◌, neg_ℤ, ℤ, pos, List, [], ◌∷◌, ◌++◌, length, refl, subst}
use Rattle.std.specs.Prelude.{⊤, unsigned_abs, IsSomeAnd}
use Rattle.qvt_base.specs.declared.numbers.Place.{Place}
use Rattle.std.specs.Str.{chars}
use Rattle.qvt_base.specs.declared.numbers.Oid.{Oid}
use Rattle.qvt_value.specs.declared.value.LiteralRef.{LiteralRef}
use Rattle.qvt_value.specs.declared.value.Value.{Value, Row_of-Value, items-the_row-Value}
use Rattle.qvt_value.specs.declared.value.Kind.{Kind}
use Rattle.qvt_value.specs.declared.value.Kind.TheVariants.{Set, Bag, Sequence, OrderedSet}
use Rattle.qvt_ocl_words.specs.declared.op.Op.{Op}
use Rattle.qvt_ocl_words.specs.declared.op.Op.TheVariants.{Plus, Minus, Times, Negate, Less, LessEqual, Greater, GreaterEqual, Abs, Min, Max, Div, Mod, ToString, Concat, Size, Substring, At, Characters, IndexOf, StartsWith, EndsWith, ToUpper, ToLower, FirstToUpper, FirstToLower, ToInteger, IsEmpty, NotEmpty, Includes, Excludes, Count, IncludesAll, ExcludesAll, Including, Excluding, Union, Flatten, AsSet, AsBag, AsSequence, AsOrderedSet, Sum, Intersection, First, Last, Append, Prepend, InsertAt, Reverse, SubSequence, SubOrderedSet}
use Rattle.qvt_ocl_words.specs.Integers.{of_boolean, of_integer, of_integers}
use Rattle.qvt_ocl_words.specs.Strings.{of_string, of_string_at, of_string_span, of_strings, index_in}
use Rattle.qvt_ocl_words.specs.Lists as lists
use Rattle.qvt_ocl_words.specs.Collections.{of_collection, of_collection_item, of_collection_at, of_collections, of_collection_span, of_collection_place, where', intersected, common_kind, same_kind, kept}
use Rattle.qvt_ocl_words.specs.Operation as operations
use Rattle.qvt_types_data.specs.Term.{TyTerm, Void, Boolean, Integer, Text, Literals, Class, Collection}
use Rattle.qvt_ocl_types.specs.declared.signature.Sort.{Sort}
use Rattle.qvt_ocl_types.specs.declared.signature.Sort.TheVariants as sort
use Rattle.qvt_ocl_types.specs.declared.signature.Kinds.TheVariants.{SetOrBag}
use Rattle.qvt_ocl_types.specs.Table.{signature, listed, allows}
use Rattle.qvt_ocl_types.specs.Fits.{Each, Sure, IsNothing, IsNumber, IsText, IsCollection, Fits}
use Rattle.qvt_ocl_types.specs.Rows as rows
use Rattle.qvt_ocl_types.specs.Rows.{FitsWithin, Holds, AreOrdered, numbers, texts, nothing, AreIntegers, numbers', nothing'}
use Rattle.qvt_ocl_types.proofs.Fitting as fit

module _ (literals : ℕ → ℕ → LiteralRef → Bool) (objects : ℕ → Oid → Bool) where
  abbrev In : TyTerm → Value → Type 0
  In T v = Fits literals objects T v

  abbrev It : Op → Sort → Type 0
  It op sort = Holds literals objects op sort (signature op sort)

  on_boolean : (op : Op) → It op sort.Boolean
  unfolding operations.on_present operations.on_boolean of_boolean
  on_boolean ToString = λ b at. tt
  on_boolean op = tt

  on_integer : (op : Op) → It op sort.Integer
  unfolding operations.on_present operations.on_integer of_integer of_integers
  on_integer Plus = λ a b at. fit.whole_is at (a +ℤ b)
  on_integer Minus = λ a b at. fit.whole_is at (a -ℤ b)
  on_integer Times = λ a b at. fit.whole_is at (a *ℤ b)
  on_integer Div = λ a b at. fit.quotient_is at a b
  on_integer Mod = λ a b at. fit.remainder_is at a b
  on_integer Min = λ a b at. tt
  on_integer Max = λ a b at. tt
  on_integer Less = λ a b at. tt
  on_integer LessEqual = λ a b at. tt
  on_integer Greater = λ a b at. tt
  on_integer GreaterEqual = λ a b at. tt
  on_integer Negate = λ a at. fit.whole_is at (neg_ℤ a)
  on_integer Abs = λ a at. fit.whole_is at (pos (unsigned_abs a))
  on_integer ToString = λ a at. tt
  on_integer op = tt

  on_string : (op : Op) → It op sort.Text
  unfolding operations.on_present operations.on_string of_string of_strings of_string_at of_string_span
  on_string Plus = λ s t at. tt
  on_string Concat = λ s t at. tt
  on_string Size = λ s at. fit.whole_is at (pos (length (chars s)))
  on_string Substring = λ s l u at. fit.substring_is at s l u
  on_string At = λ s i at. fit.substring_is at s i i
  on_string Characters = λ s at. fit.coll_is _ Sequence _ (fit.strings_are _)
  on_string IndexOf = λ s t at. fit.whole_is at (pos (index_in t s))
  on_string StartsWith = λ s t at. tt
  on_string EndsWith = λ s t at. tt
  on_string ToUpper = λ s at. tt
  on_string ToLower = λ s at. tt
  on_string FirstToUpper = λ s at. tt
  on_string FirstToLower = λ s at. tt
  on_string ToInteger = λ s at. fit.integer_in_is at s
  on_string Less = λ s t at. tt
  on_string LessEqual = λ s t at. tt
  on_string Greater = λ s t at. tt
  on_string GreaterEqual = λ s t at. tt
  on_string op = tt

  -- items of the source fit the join too
  wider : (I K : TyTerm) → FitsWithin literals objects I K → (xs : List Value) → Each (Sure (In I)) xs → Each (Sure (In K)) xs
  wider I K w xs a = fit.each_map (Sure (In I)) (Sure (In K)) (λ v h. (w.fits v h.0, h.1)) xs a

  sums : (I : TyTerm) → AreIntegers I → (xs : List Value) → Each (Sure (In I)) xs → Each (Sure IsNumber) xs
  sums Integer numbers' xs a = a
  sums Boolean d xs a = elim d [ ]
  sums Text d xs a = elim d [ ]
  sums (Literals m e) d xs a = elim d [ ]
  sums (Class c) d xs a = elim d [ ]
  sums (Collection k T) d xs a = elim d [ ]
  sums Void nothing' xs a = fit.each_map (Sure IsNothing) (Sure IsNumber) fit.nothing_number xs a

  least : (I : TyTerm) → AreOrdered I → (at : Place) (xs : List Value) → Each (Sure (In I)) xs → IsSomeAnd (lists.best_by lists.lesser at xs) (In I)
  least Integer numbers at xs a = fit.best_is IsNumber lists.lesser (fit.lesser_of _) (λ r p. tt) at xs a (fit.ordered_numbers xs a)
  least Text texts at xs a = fit.best_is IsText lists.lesser (fit.lesser_of _) (λ r p. tt) at xs a (fit.ordered_texts xs a)
  least Boolean d at xs a = elim d [ ]
  least (Literals m e) d at xs a = elim d [ ]
  least (Class c) d at xs a = elim d [ ]
  least (Collection k T) d at xs a = elim d [ ]
  least Void nothing at xs a = fit.best_is IsNothing lists.lesser (fit.lesser_of _) (λ r p. tt) at xs a (fit.ordered_numbers xs (fit.each_map (Sure IsNothing) (Sure IsNumber) fit.nothing_number xs a))

  greatest : (I : TyTerm) → AreOrdered I → (at : Place) (xs : List Value) → Each (Sure (In I)) xs → IsSomeAnd (lists.best_by lists.greater at xs) (In I)
  greatest Integer numbers at xs a = fit.best_is IsNumber lists.greater (fit.greater_of _) (λ r p. tt) at xs a (fit.ordered_numbers xs a)
  greatest Text texts at xs a = fit.best_is IsText lists.greater (fit.greater_of _) (λ r p. tt) at xs a (fit.ordered_texts xs a)
  greatest Boolean d at xs a = elim d [ ]
  greatest (Literals m e) d at xs a = elim d [ ]
  greatest (Class c) d at xs a = elim d [ ]
  greatest (Collection k T) d at xs a = elim d [ ]
  greatest Void nothing at xs a = fit.best_is IsNothing lists.greater (fit.greater_of _) (λ r p. tt) at xs a (fit.ordered_numbers xs (fit.each_map (Sure IsNothing) (Sure IsNumber) fit.nothing_number xs a))

  same_only : (P : Value → Type 0) (k l : Kind) → same_kind k l ≡ true → (xs : List Value) → Each (Sure P) xs → IsSomeAnd (where' (same_kind k l) (kept k xs)) (IsCollection k P)
  same_only P Set Set o xs a = fit.kept_is _ Set xs a
  same_only P Bag Bag o xs a = fit.kept_is _ Bag xs a
  same_only P Sequence Sequence o xs a = fit.kept_is _ Sequence xs a
  same_only P OrderedSet OrderedSet o xs a = fit.kept_is _ OrderedSet xs a
  same_only P k l o xs a = cc

  common_of_set : (P : Value → Type 0) (l : Kind) → allows SetOrBag l ≡ true → (xs ys : List Value) → Each (Sure P) xs → IsSomeAnd (intersected (common_kind Set l) xs ys) (IsCollection (rows.kind_in_common Set l) P)
  common_of_set P Set o xs ys a = fit.kept_is _ Set _ (fit.commons _ [] xs ys a)
  common_of_set P Bag o xs ys a = fit.kept_is _ Set _ (fit.commons _ [] xs ys a)
  common_of_set P l o xs ys a = cc

  common_of_bag : (P : Value → Type 0) (l : Kind) → allows SetOrBag l ≡ true → (xs ys : List Value) → Each (Sure P) xs → IsSomeAnd (intersected (common_kind Bag l) xs ys) (IsCollection (rows.kind_in_common Bag l) P)
  common_of_bag P Set o xs ys a = fit.kept_is _ Set _ (fit.commons _ [] xs ys a)
  common_of_bag P Bag o xs ys a = fit.kept_is _ Bag _ (fit.commons _ [] xs ys a)
  common_of_bag P l o xs ys a = cc

  on_collection : (op : Op) (k : Kind) → It op (sort.Collection k)
  unfolding operations.on_present operations.on_collection operations.with_other operations.with_place of_collection of_collection_item of_collection_at of_collections of_collection_span of_collection_place
  on_collection Size k = λ I m z r a at. fit.whole_is at (pos (length (items-the_row-Value _ r)))
  on_collection IsEmpty k = λ I m z r a at. tt
  on_collection NotEmpty k = λ I m z r a at. tt
  on_collection Includes k = λ I m z r a K w x s at. tt
  on_collection Excludes k = λ I m z r a K w x s at. tt
  on_collection Count k = λ I m z r a K w x s at. fit.whole_is at (pos (lists.count x (items-the_row-Value _ r)))
  on_collection IncludesAll k = λ I m z r a K w l o y q b at. tt
  on_collection ExcludesAll k = λ I m z r a K w l o y q b at. tt
  on_collection Including k = λ I m z r a K w x s at. fit.kept_is _ k _ (fit.append _ _ _ (wider I K w _ a) (s, tt))
  on_collection Excluding k = λ I m z r a K w x s at. fit.kept_is _ k _ (fit.filtered _ _ _ a)
  on_collection Union k = λ I m z r a K w l o y q b at. same_only _ k l o _ (fit.append _ _ _ (wider I K w _ a) b)
  on_collection Flatten k = λ I m z r a at. fit.kept_is _ k _ (fit.flat literals objects I _ a)
  on_collection AsSet k = λ I m z r a at. fit.kept_is _ Set _ a
  on_collection AsBag k = λ I m z r a at. fit.kept_is _ Bag _ a
  on_collection AsSequence k = λ I m z r a at. fit.kept_is _ Sequence _ a
  on_collection AsOrderedSet k = λ I m z r a at. fit.kept_is _ OrderedSet _ a
  on_collection Sum k = λ I m z r a at. fit.sum_is at _ (sums I m _ a)
  on_collection Min k = λ I m z r a at. least I m at _ a
  on_collection Max k = λ I m z r a at. greatest I m at _ a
  on_collection First Sequence = λ I m z r a at. fit.first_fits literals objects I at _ a
  on_collection First OrderedSet = λ I m z r a at. fit.first_fits literals objects I at _ a
  on_collection Last Sequence = λ I m z r a at. fit.last_fits literals objects I at _ a
  on_collection Last OrderedSet = λ I m z r a at. fit.last_fits literals objects I at _ a
  on_collection At Sequence = λ I m z r a i at. fit.item_fits literals objects I at _ i a
  on_collection At OrderedSet = λ I m z r a i at. fit.item_fits literals objects I at _ i a
  on_collection IndexOf Sequence = λ I m z r a K w x s at. fit.whole_is at (pos (lists.index_of x (items-the_row-Value _ r)))
  on_collection IndexOf OrderedSet = λ I m z r a K w x s at. fit.whole_is at (pos (lists.index_of x (items-the_row-Value _ r)))
  on_collection Append Sequence = λ I m z r a K w x s at. fit.kept_is _ Sequence _ (fit.append _ _ _ (wider I K w _ a) (s, tt))
  on_collection Append OrderedSet = λ I m z r a K w x s at. fit.kept_is _ OrderedSet _ (fit.append _ _ _ (wider I K w _ a) (s, tt))
  on_collection Prepend Sequence = λ I m z r a K w x s at. fit.kept_is _ Sequence _ (s, wider I K w _ a)
  on_collection Prepend OrderedSet = λ I m z r a K w x s at. fit.kept_is _ OrderedSet _ (s, wider I K w _ a)
  on_collection InsertAt Sequence = λ I m z r a i K w x s at. fit.inserted_is _ at Sequence _ i x (wider I K w _ a) s
  on_collection InsertAt OrderedSet = λ I m z r a i K w x s at. fit.inserted_is _ at OrderedSet _ i x (wider I K w _ a) s
  on_collection Reverse Sequence = λ I m z r a at. fit.kept_is _ Sequence _ (fit.reversed _ _ a)
  on_collection Reverse OrderedSet = λ I m z r a at. fit.kept_is _ OrderedSet _ (fit.reversed _ _ a)
  on_collection SubSequence Sequence = λ I m z r a l u at. fit.part_is _ at Sequence _ l u a
  on_collection SubOrderedSet OrderedSet = λ I m z r a l u at. fit.part_is _ at OrderedSet _ l u a
  on_collection Minus Set = λ I m z r a K w l o y q b at. fit.kept_is _ Set _ (fit.filtered _ _ _ a)
  on_collection Minus OrderedSet = λ I m z r a K w l o y q b at. fit.kept_is _ OrderedSet _ (fit.filtered _ _ _ a)
  on_collection Intersection Set = λ I m z r a K w l o y q b at. common_of_set _ l o _ _ a
  on_collection Intersection Bag = λ I m z r a K w l o y q b at. common_of_bag _ l o _ _ a
  on_collection op Set = tt
  on_collection op Bag = tt
  on_collection op Sequence = tt
  on_collection op OrderedSet = tt

pub rows_of : (literals : ℕ → ℕ → LiteralRef → Bool) (objects : ℕ → Oid → Bool) (op : Op) (sort : Sort) → Holds literals objects op sort (signature op sort)
rows_of literals objects op sort.Boolean = on_boolean literals objects op
rows_of literals objects op sort.Integer = on_integer literals objects op
rows_of literals objects op sort.Text = on_string literals objects op
rows_of literals objects op (sort.Collection k) = on_collection literals objects op k

pub every_row : rows.EachRow
every_row = rows_of
