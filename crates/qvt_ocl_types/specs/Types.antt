-- Which type conforms to which, joins, and the innermost item type (OCL 2.4, 7.4.5 and 11.7).
use Rattle.std.specs.Prelude.{ℕ, ◌==◌, Bool, true, false, ◌&&◌, if◌then◌else◌, Option, Some, None}
use Rattle.qvt_types_data.specs.Term.{TyTerm, Void, Boolean, Integer, Text, Literals, Class, Collection}
use Rattle.qvt_ocl_words.specs.Collections.{same_kind}

-- `below c d`: class c is d, or descends from it
module _ (below : ℕ → ℕ → Bool) where
  abbrev pub conforms : TyTerm → TyTerm → Bool
  conforms Void U = true
  conforms Boolean Boolean = true
  conforms Integer Integer = true
  conforms Text Text = true
  conforms (Literals m e) (Literals n f) = (m == n) && (e == f)
  conforms (Class c) (Class d) = below c d
  conforms (Collection k T) (Collection l U) = same_kind k l && conforms T U
  conforms T U = false

  -- the one to which the other conforms
  abbrev pub join : TyTerm → TyTerm → Option TyTerm
  join T U = if conforms T U then Some U else if conforms U T then Some T else None

-- the item type under all collections; a type that is no collection is its own
abbrev pub innermost : TyTerm → TyTerm
innermost (Collection k T) = innermost T
innermost T = T
