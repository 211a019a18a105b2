-- `+=` to a variable of a Sequence type that holds a Sequence: what is asked of the sum is asked of its parts.
use Rattle.std.proofs.Common.{◌≡◌, ◌∙◌, ℕ, ◌&&◌, ◌||◌, Bool, true, false, refl, sym, ap, List, ◌++◌, length, slice_get, slice_set, nat_lt, if◌then◌else◌, IfSome, option_map, Option, Some, None, Ok, Err, length-append}
use Rattle.std.specs.List.{list_all}
use Rattle.std.proofs.lemmas.List.Folds.{list_all-append}
use Rattle.qvt_base.specs.declared.numbers.Place.{Place}
use Rattle.qvt_tree_types.specs.declared.words.CollKind.TheVariants as coll
use Rattle.qvt_types_data.specs.Term.{Collection as CollectionType, ty_view}
use Rattle.qvt_types_data.specs.declared.ty.Ty.{Ty}
use Rattle.qvt_types_words.specs.Types.{Collection}
use Rattle.qvt_value.specs.declared.value.Value.{Value, Invalid, Coll', items_hidden-the_row-Value-0}
use Rattle.qvt_value.specs.declared.value.Value.TheViews.{Coll}
use Rattle.qvt_value.specs.declared.value.Kind.{Kind}
use Rattle.qvt_value.specs.declared.value.Kind.TheVariants.{Sequence}
use Rattle.qvt_value.specs.declared.value.Reason.TheVariants.{TooLarge}
use Rattle.qvt_value.specs.Limits.{most, limited, built}
use Rattle.qvt_value.specs.Make.{is_collection}
use Rattle.qvt_ocl_words.specs.Lists.{is_null}
use Rattle.qvt_run_data.specs.declared.exit.End.{End}
use Rattle.qvt_run_data.specs.declared.exit.End.TheVariants.{Fault}
use Rattle.qvt_run_data.specs.declared.exit.Exit.TheVariants.{Ends}
use Rattle.qvt_run_data.specs.declared.fault.RunFault.TheVariants.{InvalidValue, TypeFault}
use Rattle.qvt_run_data.specs.declared.late.LateWrite.{LateWrite}
use Rattle.qvt_run_data.specs.declared.local.Local.{Local}
use Rattle.qvt_run_rules.specs.State.{State, Done, Does, ◌>>=◌, found, on_outcome, turn_to}
use Rattle.qvt_run_rules.specs.Typed.{asked, has_asked, has_type, is_sure, valid}
use Rattle.qvt_run_rules.specs.Locals.{local}
use Rattle.qvt_run_rules.specs.Sources.{items_of}
use Rattle.qvt_run_rules.specs.Statements.{added, added_as, added_items, collection_type, is_item}
use Rattle.qvt_exec_words.proofs.Before.{of_collection}
use Rattle.qvt_exec_moves.specs.Appended.{IsSequence, are_beyond, barred, misfit_unless, with_items}
use Rattle.qvt_exec_moves.specs.Moves.{add_there, set_there, sum_there}

-- Items behind those of a collection.

pub behind_items : (k : Kind) (xs vs : List Value) → with_items (Coll k xs) vs ≡ Coll k (xs ++ vs)
behind_items k xs vs = ap (λ ys. Coll k (ys ++ vs)) (items_hidden-the_row-Value-0 xs)

pub behind_none : (v : Value) (vs : List Value) → is_collection v ≡ false → with_items v vs ≡ v
behind_none (Coll' k s r) vs h = cc
behind_none v vs h = refl

and_true : (b : Bool) → (b && true) ≡ b
and_true true = refl
and_true false = refl

module _ (k : ℕ) (t : Option Ty) (v : Value) (at : Place) (s : State LateWrite) (l : Local) (item : Ty) (xs vs : List Value) where
  abbrev whole : Value
  whole = Coll Sequence (xs ++ vs)

  abbrev fits : List Value → Bool
  fits us = list_all (is_item s.store item) us

  abbrev judged : Option Value → Done LateWrite Value
  judged o = on_outcome (found o at s).0 (found o at s).1 valid

  abbrev sum_if : Bool → Bool → Option Value
  sum_if fit large = if fit then Some (if large then Invalid TooLarge at else whole) else None

  abbrev replaced : Local → Value → Does LateWrite (Unit {0})
  replaced old w = turn_to (λ (u : State LateWrite). record u { locals = slice_set u.locals k (local old.name old.asked w) })

  abbrev kept : Bool → Done LateWrite (Unit {0})
  kept b = on_outcome (found (if b then Some whole else None) at s).0 (found (if b then Some whole else None) at s).1 (replaced l)

  abbrev grown : State LateWrite
  grown = record s { locals = slice_set s.locals k (local l.name l.asked whole) }

  abbrev pub by_end : Option End → Done LateWrite (Unit {0})
  by_end None = (Ok tt, grown)
  by_end (Some e) = (Err (Ends e), s)

  abbrev bar : Bool → Bool → Option End
  bar fit large = if fit then (if large then Some (Fault (InvalidValue TooLarge) at) else misfit_unless (fits xs) at) else Some (Fault TypeFault at)

  whole_is : built at Sequence (xs ++ vs) ≡ (if are_beyond xs vs then Invalid TooLarge at else whole)
  unfolding built limited
  whole_is = ap (λ b. if b then Invalid TooLarge at else whole) (ap (λ (us : List Value). nat_lt most (length us)) (items_hidden-the_row-Value-0 (xs ++ vs)) ∙ ap (nat_lt most) (length-append xs vs))

  sum_is : slice_get s.locals k ≡ Some l → IsSequence l item xs → vs ≡ added_items s.store.metas (collection_type t) item v →
      sum_there k t v at s ≡ judged (sum_if (fits vs) (are_beyond xs vs))
  sum_is there of is =
      ap (λ (o : Option Local). on_outcome (found o at s).0 (found o at s).1 (λ old. added old t v at >>= valid)) there
      ∙ ap (λ (c : Option Collection). judged (added_as s.store at c (collection_type t) l.value v)) of.collection
      ∙ ap (λ (w : Value). judged (added_as s.store at (Some (record { kind = coll.Sequence; item = item })) (collection_type t) w v)) of.value
      ∙ ap (λ (us : List Value). judged (if fits us then Some (built at Sequence (items_of (Coll Sequence xs) ++ us)) else None)) (sym is)
      ∙ ap (λ (ys : List Value). judged (if fits vs then Some (built at Sequence (ys ++ vs)) else None)) (of_collection Sequence xs)
      ∙ ap (λ (w : Value). judged (if fits vs then Some w else None)) whole_is

  set_is : slice_get s.locals k ≡ Some l → set_there k whole at s ≡ kept (has_asked s.store l.asked whole)
  set_is there = ap (λ (o : Option Local). on_outcome (found o at s).0 (found o at s).1 (λ old. asked old.asked at whole >>= replaced old)) there

  of_type : (o : Option Ty) → option_map ty_view o ≡ Some (CollectionType Sequence (ty_view item)) → has_asked s.store o whole ≡ is_sure s.store (CollectionType Sequence (ty_view item)) whole
  unfolding has_type
  of_type None e = cc
  of_type (Some T) e = let same : ty_view T ≡ CollectionType Sequence (ty_view item) = cc in ap (λ U. is_sure s.store U whole) same

  of_items : fits vs ≡ true → is_sure s.store (CollectionType Sequence (ty_view item)) whole ≡ fits xs
  unfolding has_type
  of_items fit =
      ap (list_all (λ w. is_null w || is_sure s.store (ty_view item) w)) (items_hidden-the_row-Value-0 (xs ++ vs))
      ∙ list_all-append (λ w. is_null w || is_sure s.store (ty_view item) w) xs vs ∙ ap (λ b. fits xs && b) fit ∙ and_true (fits xs)

  last : (b : Bool) → kept b ≡ by_end (misfit_unless b at)
  last true = refl
  last false = refl

  pub appended_is : slice_get s.locals k ≡ Some l → IsSequence l item xs → vs ≡ added_items s.store.metas (collection_type t) item v →
      add_there k t v at s ≡ by_end (barred s.store item xs vs at)
  appended_is there of is = ap (λ (d : Done LateWrite Value). on_outcome d.0 d.1 (λ w. set_there k w at)) (sum_is there of is) ∙ on (fits vs) refl (are_beyond xs vs)
    where
      on : (fit : Bool) → fits vs ≡ fit → (large : Bool) → on_outcome (judged (sum_if fit large)).0 (judged (sum_if fit large)).1 (λ w. set_there k w at) ≡ by_end (bar fit large)
      on false e large = refl
      on true e true = refl
      on true e false = set_is there ∙ ap kept (of_type l.asked of.view ∙ of_items e) ∙ last (fits xs)

  -- where something bars it
  pub ends : slice_get s.locals k ≡ Some l → IsSequence l item xs → vs ≡ added_items s.store.metas (collection_type t) item v → (e : End) → Some e ≡ barred s.store item xs vs at →
      add_there k t v at s ≡ (Err (Ends e), s)
  ends there of is e end = appended_is there of is ∙ ap by_end (sym end)

  -- and where nothing does
  pub grows : slice_get s.locals k ≡ Some l → IsSequence l item xs → vs ≡ added_items s.store.metas (collection_type t) item v → None ≡ barred s.store item xs vs at →
      (ls : List Local) → ls ≡ slice_set s.locals k (local l.name l.asked (with_items l.value vs)) → add_there k t v at s ≡ (Ok tt, record s { locals = ls })
  grows there of is free ls new =
      appended_is there of is ∙ ap by_end (sym free)
      ∙ ap (λ (w : Value). (Ok tt, record s { locals = slice_set s.locals k (local l.name l.asked w) })) (sym (ap (λ (w : Value). with_items w vs) of.value ∙ behind_items Sequence xs vs))
      ∙ ap (λ (us : List Local). (Ok tt, record s { locals = us })) (sym new)

-- Options.

pub if_some : {A : Type 0} (P Q : A → Type 0) (o : Option A) → ((a : A) → P a → Q a) → IfSome o P → IfSome o Q
if_some P Q None f h = tt
if_some P Q (Some a) f h = f a h
