-- The operations by their names (OCL 2.4, 11). Operators have none.
use Rattle.std.specs.Prelude.{ℕ, List, Option, Some, None, if◌then◌else◌, codes}
use Rattle.std.specs.Str.{bytes_eq}
use Rattle.qvt_ocl_types.specs.declared.op.Op.{Op}
use Rattle.qvt_ocl_types.specs.declared.op.Op.TheVariants.{Abs, Append, AsBag, AsOrderedSet, AsSequence, AsSet, At, Characters, Concat, Count, Div, EndsWith, Excludes, ExcludesAll, Excluding, First, FirstToLower, FirstToUpper, Flatten, Includes, IncludesAll, Including, IndexOf, InsertAt, Intersection, IsEmpty, IsInvalid, IsUndefined, Last, Max, Min, Mod, NotEmpty, Prepend, Reverse, Size, StartsWith, SubOrderedSet, SubSequence, Substring, Sum, ToInteger, ToLower, ToString, ToUpper, Union}

-- of all values
unfoldable pub of_any : List ℕ → Option Op
of_any name =
    if bytes_eq name (codes "oclIsUndefined") then Some IsUndefined
    else if bytes_eq name (codes "oclIsInvalid") then Some IsInvalid
    else None

-- of numbers, and of a text of them
unfoldable pub of_numbers : List ℕ → Option Op
of_numbers name =
    if bytes_eq name (codes "abs") then Some Abs
    else if bytes_eq name (codes "min") then Some Min
    else if bytes_eq name (codes "max") then Some Max
    else if bytes_eq name (codes "div") then Some Div
    else if bytes_eq name (codes "mod") then Some Mod
    else if bytes_eq name (codes "toString") then Some ToString
    else if bytes_eq name (codes "toInteger") then Some ToInteger
    else None

-- of texts
unfoldable pub of_texts : List ℕ → Option Op
of_texts name =
    if bytes_eq name (codes "concat") then Some Concat
    else if bytes_eq name (codes "substring") then Some Substring
    else if bytes_eq name (codes "characters") then Some Characters
    else if bytes_eq name (codes "startsWith") then Some StartsWith
    else if bytes_eq name (codes "endsWith") then Some EndsWith
    else None

-- of the letters of a text; two have a shorter name
unfoldable pub of_letters : List ℕ → Option Op
of_letters name =
    if bytes_eq name (codes "toUpperCase") then Some ToUpper
    else if bytes_eq name (codes "toUpper") then Some ToUpper
    else if bytes_eq name (codes "toLowerCase") then Some ToLower
    else if bytes_eq name (codes "toLower") then Some ToLower
    else if bytes_eq name (codes "firstToUpper") then Some FirstToUpper
    else if bytes_eq name (codes "firstToLower") then Some FirstToLower
    else None

-- of collections, by their items
unfoldable pub of_items : List ℕ → Option Op
of_items name =
    if bytes_eq name (codes "size") then Some Size
    else if bytes_eq name (codes "isEmpty") then Some IsEmpty
    else if bytes_eq name (codes "notEmpty") then Some NotEmpty
    else if bytes_eq name (codes "includes") then Some Includes
    else if bytes_eq name (codes "excludes") then Some Excludes
    else if bytes_eq name (codes "count") then Some Count
    else if bytes_eq name (codes "including") then Some Including
    else if bytes_eq name (codes "excluding") then Some Excluding
    else if bytes_eq name (codes "sum") then Some Sum
    else None

-- of collections, with others and as other kinds
unfoldable pub of_collections : List ℕ → Option Op
of_collections name =
    if bytes_eq name (codes "includesAll") then Some IncludesAll
    else if bytes_eq name (codes "excludesAll") then Some ExcludesAll
    else if bytes_eq name (codes "union") then Some Union
    else if bytes_eq name (codes "intersection") then Some Intersection
    else if bytes_eq name (codes "flatten") then Some Flatten
    else if bytes_eq name (codes "asSet") then Some AsSet
    else if bytes_eq name (codes "asBag") then Some AsBag
    else if bytes_eq name (codes "asSequence") then Some AsSequence
    else if bytes_eq name (codes "asOrderedSet") then Some AsOrderedSet
    else None

-- by places of items
unfoldable pub of_places : List ℕ → Option Op
of_places name =
    if bytes_eq name (codes "first") then Some First
    else if bytes_eq name (codes "last") then Some Last
    else if bytes_eq name (codes "at") then Some At
    else if bytes_eq name (codes "indexOf") then Some IndexOf
    else if bytes_eq name (codes "append") then Some Append
    else if bytes_eq name (codes "prepend") then Some Prepend
    else if bytes_eq name (codes "insertAt") then Some InsertAt
    else if bytes_eq name (codes "reverse") then Some Reverse
    else if bytes_eq name (codes "subSequence") then Some SubSequence
    else if bytes_eq name (codes "subOrderedSet") then Some SubOrderedSet
    else None

abbrev pub or_else : Option Op → Option Op → Option Op
or_else None other = other
or_else (Some op) other = Some op

-- the operation of this name
abbrev pub operation_named : List ℕ → Option Op
operation_named name = or_else (of_any name) (or_else (of_numbers name) (or_else (of_texts name) (or_else (of_letters name) (or_else (of_items name) (or_else (of_collections name) (of_places name))))))
