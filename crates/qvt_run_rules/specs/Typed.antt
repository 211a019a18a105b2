-- Values of the types of a program, over a store (OCL 2.4, 8.2): every object in them is there.
use Rattle.std.specs.Prelude.{Bool, true, false, ◌||◌, ◌&&◌, if◌then◌else◌, Option, Some, None}
use Rattle.std.specs.List.{list_all}
use Rattle.qvt_base.specs.declared.numbers.Oid.{Oid}
use Rattle.qvt_base.specs.declared.numbers.Place.{Place}
use Rattle.qvt_value.specs.declared.value.Value.{Value, Null, Obj, Invalid, Coll', items-the_row-Value}
use Rattle.qvt_value.specs.declared.value.Kind.{Kind}
use Rattle.qvt_value.specs.declared.value.Reason.TheVariants.{NullSource}
use Rattle.qvt_ocl_words.specs.Collections.{same_kind}
use Rattle.qvt_ocl_words.specs.Lists.{is_null}
use Rattle.qvt_slots.specs.Contents.{Contents}
use Rattle.qvt_slots.specs.Types.{is_bool, is_int, is_text_value, is_literal, is_instance}
use Rattle.qvt_types_data.specs.Term.{TyTerm, Void, Boolean, Integer, Text, Literals, Class, Collection, ty_view}
use Rattle.qvt_types_data.specs.declared.ty.Ty.{Ty}
use Rattle.qvt_run_data.specs.declared.fault.RunFault.TheVariants as fault
use Rattle.qvt_run_data.specs.declared.exit.End.TheVariants.{Fault}
use Rattle.qvt_run_rules.specs.State.{Does, ◌>>=◌, pure, stop, misfit, look}

-- a collection of the kind, of items that pass
abbrev pub is_collection_of : Kind → (Value → Bool) → Value → Bool
is_collection_of k test (Coll' l s r) = same_kind l k && list_all test (items-the_row-Value _ r)
is_collection_of k test v = false

-- a value of the type that is not null
abbrev pub is_sure : Contents → TyTerm → Value → Bool
is_sure s Void v = false
is_sure s Boolean v = is_bool v
is_sure s Integer v = is_int v
is_sure s Text v = is_text_value v
is_sure s (Literals m e) v = is_literal s.metas m e v
is_sure s (Class c) v = is_instance s c v
is_sure s (Collection k T) v = is_collection_of k (λ w. is_null w || is_sure s T w) v

-- a value of the type: null is of every type, and what is invalid of none
unfoldable pub has_type : Contents → Ty → Value → Bool
has_type s t v = is_null v || is_sure s (ty_view t) v

abbrev pub has_asked : Contents → Option Ty → Value → Bool
has_asked s None v = true
has_asked s (Some t) v = has_type s t v

module _ {E : Type 0} where
  -- What may not be invalid, or null.

  abbrev pub valid : Value → Does E Value
  valid (Invalid r p) = stop (Fault (fault.InvalidValue r) p)
  valid v = pure v

  -- null is a fault of the source
  abbrev pub present_at : Bool → Place → Value → Does E Value
  present_at true at v = stop (Fault (fault.InvalidValue NullSource) at)
  present_at false at v = pure v

  abbrev pub present : Place → Value → Does E Value
  present at v = present_at (is_null v) at v

  -- an object that there has to be
  abbrev pub object_of : Place → Value → Does E Oid
  object_of at (Obj o) = pure o
  object_of at Null = stop (Fault (fault.InvalidValue NullSource) at)
  object_of at (Invalid r p) = stop (Fault (fault.InvalidValue r) p)
  object_of at v = misfit at

  -- a value of the type that is asked, if one is
  abbrev pub asked : Option Ty → Place → Value → Does E Value
  asked t at v = look (λ s. if has_asked s.store t v then Some v else None) at

  -- a value that a phrase takes: not invalid, and of the type that is asked
  abbrev pub taken : Option Ty → Place → Value → Does E Value
  taken t at v = valid v >>= asked t at
