-- The arguments of an operation are taken one by one.
use Rattle.std.proofs.Common.{◌≡◌, refl, sym, ap, ◌∙◌, ℕ, Bool, true, false, List, [], ◌∷◌, Option, Some, None, cond}
use Rattle.qvt_value.specs.declared.value.Kind.{Kind}
use Rattle.qvt_types_data.specs.Term.{TyTerm, Integer, Text, Void, Boolean, Literals, Class, Collection}
use Rattle.qvt_ocl_types.specs.Types.{conforms, join}
use Rattle.qvt_ocl_types.specs.Table.{allows}
use Rattle.qvt_ocl_types.specs.Typing.{Taken, accepts, on_join}
use Rattle.qvt_types_words.specs.Answers.{after}
use Rattle.qvt_ocl_types.specs.declared.signature.ArgumentSort.{ArgumentSort}
use Rattle.qvt_ocl_types.specs.declared.signature.ArgumentSort.TheVariants as param

abbrev taken : Kind → TyTerm → Option Taken
taken k T = Some (record { kind = k; joined = T })

module _ (below : ℕ → ℕ → Bool) (ps : List ArgumentSort) (Us : List TyTerm) where
  if_it_conforms : (b : Bool) (k : Kind) (T : TyTerm) → cond b (accepts below ps k T Us) None ≡ after below ps Us (cond b (taken k T) None)
  if_it_conforms true k T = refl
  if_it_conforms false k T = refl

  if_they_join : (o : Option TyTerm) (k : Kind) → on_join below o (λ K. accepts below ps k K Us) ≡ after below ps Us (on_join below o (taken k))
  if_they_join None k = refl
  if_they_join (Some K) k = refl

  if_it_is_allowed : (b : Bool) (o : Option TyTerm) (k : Kind) → cond b (on_join below o (λ K. accepts below ps k K Us)) None ≡ after below ps Us (cond b (on_join below o (taken k)) None)
  if_it_is_allowed true o k = if_they_join o k
  if_it_is_allowed false o k = refl

  pub one_by_one : (p : ArgumentSort) (k : Kind) (T U : TyTerm) → accepts below (p ∷ ps) k T (U ∷ Us) ≡ after below ps Us (accepts below (p ∷ []) k T (U ∷ []))
  one_by_one param.Integer k T U = if_it_conforms (conforms below U Integer) k T
  one_by_one param.Text k T U = if_it_conforms (conforms below U Text) k T
  one_by_one param.Item k T U = if_they_join (join below T U) k
  one_by_one (param.Items ok) k T (Collection l V) = if_it_is_allowed (allows ok l) (join below T V) l
  one_by_one (param.Items ok) k T Void = refl
  one_by_one (param.Items ok) k T Boolean = refl
  one_by_one (param.Items ok) k T Integer = refl
  one_by_one (param.Items ok) k T Text = refl
  one_by_one (param.Items ok) k T (Literals m e) = refl
  one_by_one (param.Items ok) k T (Class c) = refl

pub none_given : (below : ℕ → ℕ → Bool) (p : ArgumentSort) (ps : List ArgumentSort) (k : Kind) (T : TyTerm) → accepts below (p ∷ ps) k T [] ≡ None
none_given below param.Integer ps k T = refl
none_given below param.Text ps k T = refl
none_given below param.Item ps k T = refl
none_given below (param.Items ok) ps k T = refl

pub two_by_two :
    (below : ℕ → ℕ → Bool) (p q : ArgumentSort) (k : Kind) (T U : TyTerm) (Vs : List TyTerm) (next last : Option Taken) →
    next ≡ accepts below (p ∷ []) k T (U ∷ []) → last ≡ after below (q ∷ []) Vs next → last ≡ accepts below (p ∷ q ∷ []) k T (U ∷ Vs)
two_by_two below p q k T U Vs next last n l = l ∙ ap (after below (q ∷ []) Vs) n ∙ sym (one_by_one below (q ∷ []) Vs p k T U)
