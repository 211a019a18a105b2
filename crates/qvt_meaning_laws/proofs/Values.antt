-- The rules of expressions that make and change nothing, under a closed relation.
use Rattle.std.proofs.Common.{ℕ, Bool, true, false, List, [], ◌∷◌, ◌++◌, Option, Some, None}
use Rattle.qvt_base.specs.declared.numbers.Place.{Place}
use Rattle.qvt_tree_types.specs.declared.words.BinaryOp.{BinaryOp}
use Rattle.qvt_tree_types.specs.declared.words.PrefixOp.{PrefixOp}
use Rattle.qvt_tree_types.specs.declared.words.PrefixOp.TheVariants as sign
use Rattle.qvt_value.specs.declared.value.Value.{Value, Null, Bool as Truth, Obj, Invalid}
use Rattle.qvt_value.specs.declared.value.Kind.{Kind}
use Rattle.qvt_value.specs.Limits.{limited}
use Rattle.qvt_ocl_words.specs.declared.op.Op.{Op}
use Rattle.qvt_ocl_words.specs.Operation.{operation}
use Rattle.qvt_run_data.specs.declared.questions.ObjectTest.{ObjectTest}
use Rattle.qvt_run_data.specs.declared.questions.ModelQuery.{ModelQuery}
use Rattle.qvt_run_rules.specs.State.{Does, found}
use Rattle.qvt_run_rules.specs.Logic.{logic, by_left}
use Rattle.qvt_run_rules.specs.Store.{ordered_set}
use Rattle.qvt_run_rules.specs.Expressions as rule
use Rattle.qvt_meaning.specs.Readings.{Setting}
use Rattle.qvt_meaning_laws.proofs.Closed.{Relation, Repeated, Closed, Each, none, more}
use Rattle.qvt_meaning_laws.proofs.Parts.{on, ticks, misfits, finds, looks, reads, over, dots, reads_property}

module _ {E F : Type 0} {R : Relation E F} {T : Repeated E F} {x : Setting E} {y : Setting F} (c : Closed E F R T x y) where
  -- Parts in order.

  pub values_onto : (done : List Value) {ps : List (Does E Value)} {qs : List (Does F Value)} → Each (R Value) ps qs → R (List Value) (rule.values_onto done ps) (rule.values_onto done qs)
  values_onto done none = c.gives (List Value) done
  values_onto done (more e k) = on c e (λ v. values_onto (done ++ v ∷ []) k)

  pub lists_onto : (done : List Value) {ps : List (Does E (List Value))} {qs : List (Does F (List Value))} → Each (R (List Value)) ps qs → R (List Value) (rule.lists_onto done ps) (rule.lists_onto done qs)
  lists_onto done none = c.gives (List Value) done
  lists_onto done (more e k) = on c e (λ vs. lists_onto (done ++ vs) k)

  -- what two steps do with each value
  abbrev pub Steps : (Value → Does E Value) → (Value → Does F Value) → Type 0
  Steps f g = (v : Value) → R Value (f v) (g v)

  pub goes_along : (v : Value) {fs : List (Value → Does E Value)} {gs : List (Value → Does F Value)} → Each Steps fs gs → R Value (rule.along v fs) (rule.along v gs)
  goes_along v none = c.gives Value v
  goes_along v (more e k) = on c (e v) (λ w. goes_along w k)

  pub on_first : {p : Does E Value} {q : Does F Value} {fs : List (Value → Does E Value)} {gs : List (Value → Does F Value)} → R Value p q → Each Steps fs gs → R Value (rule.on_first p fs) (rule.on_first q gs)
  unfolding rule.on_first
  on_first e k = on c e (λ v. goes_along v k)

  pub property_of : (f : ℕ) (at : Place) (v : Value) → R Value (rule.property_of f at v) (rule.property_of f at v)
  property_of f at (Invalid r p) = c.gives Value _
  property_of f at Null = c.gives Value _
  property_of f at (Obj o) = reads_property c f o at
  property_of f at v = misfits c Value at

  pub chosen : (at : Place) {p p' : Does E Value} {q q' : Does F Value} (v : Value) → R Value p q → R Value p' q' → R Value (rule.chosen at p p' v) (rule.chosen at q q' v)
  chosen at (Truth true) e k = e
  chosen at (Truth false) e k = k
  chosen at Null e k = c.gives Value _
  chosen at (Invalid r i) e k = c.gives Value _
  chosen at v e k = misfits c Value at

  unless_known : (o : Option Value) {p : Does E Value} {q : Does F Value} → R Value p q → R Value (rule.unless_known o p) (rule.unless_known o q)
  unless_known (Some v) e = c.gives Value v
  unless_known None e = e

  -- Literals and names.

  pub literal : (v : Value) → R Value (rule.literal x.spend v) (rule.literal y.spend v)
  unfolding rule.literal
  literal v = ticks c (c.gives Value v)

  pub variable : (name : List ℕ) (at : Place) → R Value (rule.variable x.spend name at) (rule.variable y.spend name at)
  unfolding rule.variable
  variable name at = ticks c (reads c name at)

  pub implicit : (source : List ℕ) (f : ℕ) (at : Place) → R Value (rule.implicit x.spend source f at) (rule.implicit y.spend source f at)
  unfolding rule.implicit
  implicit source f at = ticks c (on c (reads c source at) (λ v. property_of f at v))

  pub item : {p : Does E Value} {q : Does F Value} → R Value p q → R (List Value) (rule.item x.spend p) (rule.item y.spend q)
  unfolding rule.item
  item e = on c e (λ v. c.gives (List Value) (v ∷ []))

  pub range : {p p' : Does E Value} {q q' : Does F Value} (at : Place) → R Value p q → R Value p' q' → R (List Value) (rule.range x.spend p p' at) (rule.range y.spend q q' at)
  unfolding rule.range
  range at e k = on c e (λ v. on c k (λ w. finds c (List Value) (rule.range_of at v w) at))

  pub collected : (k : Kind) (at : Place) {ps : List (Does E (List Value))} {qs : List (Does F (List Value))} → Each (R (List Value)) ps qs → R Value (rule.collected x.spend k ps at) (rule.collected y.spend k qs at)
  unfolding rule.collected
  collected k at e = ticks c (on c (lists_onto [] e) (λ vs. c.gives Value (rule.collection at k vs)))

  -- Conditionals and operators.

  pub conditional : {t p p' : Does E Value} {u q q' : Does F Value} (at : Place) → R Value t u → R Value p q → R Value p' q' → R Value (rule.conditional x.spend t at p p') (rule.conditional y.spend u at q q')
  unfolding rule.conditional
  conditional at d e k = ticks c (on c d (λ v. chosen at v e k))

  pub operated : (o : Op) {p : Does E Value} {q : Does F Value} (at : Place) (v : Value) → R Value p q → R Value (rule.operated x.spend o p at v) (rule.operated y.spend o q at v)
  unfolding rule.operated
  operated o at v e = ticks c (on c e (λ w. finds c Value (operation o at v (w ∷ [])) at))

  pub logical : (o : BinaryOp) {p : Does E Value} {q : Does F Value} (at : Place) (v : Value) → R Value p q → R Value (rule.logical x.spend o p at v) (rule.logical y.spend o q at v)
  unfolding rule.logical
  logical o at v e = ticks c (unless_known (by_left o v) (on c e (λ w. finds c Value (logic o v w) at)))

  signed : (o : PrefixOp) (at : Place) (v : Value) → R Value (found (rule.signed x.spend o at v) at) (found (rule.signed y.spend o at v) at)
  signed sign.Not at v = finds c Value _ at
  signed sign.Minus at v = finds c Value _ at

  pub prefixed : (o : PrefixOp) (at : Place) {p : Does E Value} {q : Does F Value} → R Value p q → R Value (rule.prefixed x.spend o at p) (rule.prefixed y.spend o at q)
  unfolding rule.prefixed
  prefixed o at e = ticks c (on c e (λ v. signed o at v))

  -- Steps.

  pub dot : (b : Bool) (f : ℕ) (at : Place) (v : Value) → R Value (rule.dot x.spend b f at v) (rule.dot y.spend b f at v)
  unfolding rule.dot
  dot b f at v = ticks c (dots c at _ _ (λ w. property_of f at w) b [] v)

  pub called : (b : Bool) (o : Op) (at : Place) (v : Value) {ps : List (Does E Value)} {qs : List (Does F Value)} → Each (R Value) ps qs → R Value (rule.called x.spend b o ps at v) (rule.called y.spend b o qs at v)
  unfolding rule.called
  called b o at v e = ticks c (on c (values_onto [] e) (λ ws. dots c at _ _ (λ w. finds c Value (operation o at w ws) at) b ws v))

  pub object_tested : (b : Bool) (t : ObjectTest) (n : ℕ) (at : Place) (v : Value) → R Value (rule.object_tested x.spend b t n at v) (rule.object_tested y.spend b t n at v)
  unfolding rule.object_tested
  object_tested b t n at v = ticks c (dots c at _ _ (λ w. looks c Value (λ st. rule.tested st t n at w) at) b [] v)

  pub select_class : (exact : Bool) (n : ℕ) (at : Place) (v : Value) → R Value (rule.select_class x.spend exact n at v) (rule.select_class y.spend exact n at v)
  unfolding rule.select_class
  select_class exact n at v = ticks c (over c at v (λ k vs. looks c Value (λ st. rule.selected st exact n at k vs) at))

  pub model_step : (q : ModelQuery) (e : ℕ) (at : Place) → R Value (rule.model_step x.spend q e at) (rule.model_step y.spend q e at)
  unfolding rule.model_step
  model_step q e at = ticks c (ticks c (c.stores Value (λ st. limited at (ordered_set (rule.model_objects st q e)))))
