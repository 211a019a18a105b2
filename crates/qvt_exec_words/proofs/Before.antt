-- What stands before an arrow that is neither null nor invalid; the items of a value.
use Rattle.std.proofs.Common.{◌≡◌, Bool, false, List, [], ◌∷◌, refl}
use Rattle.qvt_value.specs.declared.value.Value.{Value, Null, Invalid, Coll', items_hidden-the_row-Value-0}
use Rattle.qvt_value.specs.declared.value.Value.TheViews.{Coll}
use Rattle.qvt_value.specs.declared.value.Kind.{Kind}
use Rattle.qvt_value.specs.Make.{is_invalid, is_collection}
use Rattle.qvt_ocl_words.specs.Lists.{is_null}
use Rattle.qvt_run_rules.specs.Sources.{wrapped_if, before_arrow, items_of}

pub neither : (wrap : Bool) (k : Kind) (v : Value) → is_null v ≡ false → is_invalid v ≡ false → before_arrow wrap k v ≡ wrapped_if wrap v
neither wrap k Null h g = cc
neither wrap k (Invalid r p) h g = cc
neither wrap k v h g = refl

pub of_single : (v : Value) → is_null v ≡ false → is_collection v ≡ false → items_of v ≡ v ∷ []
of_single Null h g = cc
of_single (Coll' k s r) h g = cc
of_single v h g = refl

pub of_collection : (k : Kind) (xs : List Value) → items_of (Coll k xs) ≡ xs
of_collection k xs = items_hidden-the_row-Value-0 xs
