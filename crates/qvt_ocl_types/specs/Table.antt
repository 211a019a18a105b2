-- The table of operations by types: for a sort of source, what each takes and what it answers, a line a row. The tests and
-- comparisons of all values stand in Typing.antt.
use Rattle.std.specs.Prelude.{Bool, true, false, List, [], ◌∷◌, Option, Some, None}
use Rattle.qvt_value.specs.declared.value.Kind.{Kind}
use Rattle.qvt_value.specs.declared.value.Kind.TheVariants.{Set, Bag, Sequence, OrderedSet}
use Rattle.qvt_ocl_words.specs.declared.op.Op.{Op}
use Rattle.qvt_ocl_words.specs.declared.op.Op.TheVariants.{Plus, Minus, Times, Negate, Less, LessEqual, Greater, GreaterEqual, Abs, Min, Max, Div, Mod, ToString, Concat, Size, Substring, At, Characters, IndexOf, StartsWith, EndsWith, ToUpper, ToLower, FirstToUpper, FirstToLower, ToInteger, IsEmpty, NotEmpty, Includes, Excludes, Count, IncludesAll, ExcludesAll, Including, Excluding, Union, Flatten, AsSet, AsBag, AsSequence, AsOrderedSet, Sum, Intersection, First, Last, Append, Prepend, InsertAt, Reverse, SubSequence, SubOrderedSet}
use Rattle.qvt_ocl_words.specs.Collections.{same_kind}
use Rattle.qvt_ocl_types.specs.declared.signature.Sort.{Sort}
use Rattle.qvt_ocl_types.specs.declared.signature.Sort.TheVariants as sort
use Rattle.qvt_ocl_types.specs.declared.signature.Kinds.{Kinds}
use Rattle.qvt_ocl_types.specs.declared.signature.Kinds.TheVariants.{Every, SetOrBag, Only}
use Rattle.qvt_ocl_types.specs.declared.signature.ArgumentSort.{ArgumentSort}
use Rattle.qvt_ocl_types.specs.declared.signature.ArgumentSort.TheVariants as param
use Rattle.qvt_ocl_types.specs.declared.signature.ArgumentSorts.{ArgumentSorts}
use Rattle.qvt_ocl_types.specs.declared.signature.ArgumentSorts.TheVariants.{None as NoParams, One, Two}
use Rattle.qvt_ocl_types.specs.declared.signature.Demand.{Demand}
use Rattle.qvt_ocl_types.specs.declared.signature.Demand.TheVariants.{Any, Integers, Ordered}
use Rattle.qvt_ocl_types.specs.declared.signature.AnswerType.{AnswerType}
use Rattle.qvt_ocl_types.specs.declared.signature.AnswerType.TheVariants as answer
use Rattle.qvt_ocl_types.specs.declared.signature.OperationSignature.{OperationSignature}

-- the parameters as a list
abbrev pub listed : ArgumentSorts → List ArgumentSort
listed NoParams = []
listed (One p) = p ∷ []
listed (Two p q) = p ∷ q ∷ []

-- a collection of the kind may be given
abbrev pub allows : Kinds → Kind → Bool
allows Every l = true
allows SetOrBag Set = true
allows SetOrBag Bag = true
allows SetOrBag l = false
allows (Only k) l = same_kind k l

abbrev pub row : ArgumentSorts → AnswerType → Option OperationSignature
row params answer = Some (record { demand = Any; params = params; answer = answer })

-- of items that are as demanded, without arguments
abbrev pub row_of : Demand → AnswerType → Option OperationSignature
row_of demand answer = Some (record { demand = demand; params = NoParams; answer = answer })

-- on a Boolean
abbrev pub on_boolean : Op → Option OperationSignature
on_boolean ToString = row NoParams answer.Text
on_boolean op = None

-- on an Integer
abbrev pub on_integer : Op → Option OperationSignature
on_integer Plus = row (One param.Integer) answer.Integer
on_integer Minus = row (One param.Integer) answer.Integer
on_integer Times = row (One param.Integer) answer.Integer
on_integer Div = row (One param.Integer) answer.Integer
on_integer Mod = row (One param.Integer) answer.Integer
on_integer Min = row (One param.Integer) answer.Integer
on_integer Max = row (One param.Integer) answer.Integer
on_integer Less = row (One param.Integer) answer.Boolean
on_integer LessEqual = row (One param.Integer) answer.Boolean
on_integer Greater = row (One param.Integer) answer.Boolean
on_integer GreaterEqual = row (One param.Integer) answer.Boolean
on_integer Negate = row NoParams answer.Integer
on_integer Abs = row NoParams answer.Integer
on_integer ToString = row NoParams answer.Text
on_integer op = None

-- on a String
abbrev pub on_string : Op → Option OperationSignature
on_string Plus = row (One param.Text) answer.Text
on_string Concat = row (One param.Text) answer.Text
on_string Size = row NoParams answer.Integer
on_string Substring = row (Two param.Integer param.Integer) answer.Text
on_string At = row (One param.Integer) answer.Text
on_string Characters = row NoParams answer.Texts
on_string IndexOf = row (One param.Text) answer.Integer
on_string StartsWith = row (One param.Text) answer.Boolean
on_string EndsWith = row (One param.Text) answer.Boolean
on_string ToUpper = row NoParams answer.Text
on_string ToLower = row NoParams answer.Text
on_string FirstToUpper = row NoParams answer.Text
on_string FirstToLower = row NoParams answer.Text
on_string ToInteger = row NoParams answer.Integer
on_string Less = row (One param.Text) answer.Boolean
on_string LessEqual = row (One param.Text) answer.Boolean
on_string Greater = row (One param.Text) answer.Boolean
on_string GreaterEqual = row (One param.Text) answer.Boolean
on_string op = None

-- on a Sequence or an OrderedSet
abbrev pub on_ordered : Op → Kind → Option OperationSignature
on_ordered First k = row NoParams answer.Item
on_ordered Last k = row NoParams answer.Item
on_ordered At k = row (One param.Integer) answer.Item
on_ordered IndexOf k = row (One param.Item) answer.Integer
on_ordered Append k = row (One param.Item) (answer.Joined k)
on_ordered Prepend k = row (One param.Item) (answer.Joined k)
on_ordered InsertAt k = row (Two param.Integer param.Item) (answer.Joined k)
on_ordered Reverse k = row NoParams (answer.Items k)
on_ordered op k = None

-- on the kind alone
abbrev pub on_kind : Op → Kind → Option OperationSignature
on_kind SubSequence Sequence = row (Two param.Integer param.Integer) (answer.Items Sequence)
on_kind SubOrderedSet OrderedSet = row (Two param.Integer param.Integer) (answer.Items OrderedSet)
on_kind Minus Set = row (One (param.Items Every)) (answer.Items Set)
on_kind Minus OrderedSet = row (One (param.Items Every)) (answer.Items OrderedSet)
on_kind Intersection Set = row (One (param.Items SetOrBag)) (answer.Common Set)
on_kind Intersection Bag = row (One (param.Items SetOrBag)) (answer.Common Bag)
on_kind op Sequence = on_ordered op Sequence
on_kind op OrderedSet = on_ordered op OrderedSet
on_kind op k = None

-- on any collection
abbrev pub on_collection : Op → Kind → Option OperationSignature
on_collection Size k = row NoParams answer.Integer
on_collection IsEmpty k = row NoParams answer.Boolean
on_collection NotEmpty k = row NoParams answer.Boolean
on_collection Includes k = row (One param.Item) answer.Boolean
on_collection Excludes k = row (One param.Item) answer.Boolean
on_collection Count k = row (One param.Item) answer.Integer
on_collection IncludesAll k = row (One (param.Items Every)) answer.Boolean
on_collection ExcludesAll k = row (One (param.Items Every)) answer.Boolean
on_collection Including k = row (One param.Item) (answer.Joined k)
on_collection Excluding k = row (One param.Item) (answer.Items k)
on_collection Union k = row (One (param.Items (Only k))) (answer.Joined k)
on_collection Flatten k = row NoParams (answer.Innermost k)
on_collection AsSet k = row NoParams (answer.Items Set)
on_collection AsBag k = row NoParams (answer.Items Bag)
on_collection AsSequence k = row NoParams (answer.Items Sequence)
on_collection AsOrderedSet k = row NoParams (answer.Items OrderedSet)
on_collection Sum k = row_of Integers answer.Integer
on_collection Min k = row_of Ordered answer.Item
on_collection Max k = row_of Ordered answer.Item
on_collection op k = on_kind op k

abbrev pub signature : Op → Sort → Option OperationSignature
signature op sort.Boolean = on_boolean op
signature op sort.Integer = on_integer op
signature op sort.Text = on_string op
signature op (sort.Collection k) = on_collection op k
