-- What the rules of iterators, objects and resolves keep, over what their parts keep.
use Rattle.std.proofs.Common.{◌≡◌, refl, sym, ℕ, Bool, true, false, List, [], Option, Some, None}
use Rattle.std.proofs.lemmas.Bool.{false≢true, and_from}
use Rattle.std.specs.Prelude.{is_some, if◌then◌else◌, not, Result, Ok, Err, ◌||◌, ◌&&◌}
use Rattle.std.specs.List.{list_any}
use Rattle.qvt_base.specs.declared.numbers.ExprNo.{ExprNo}
use Rattle.qvt_base.specs.declared.numbers.Place.{Place}
use Rattle.qvt_metas.specs.Metamodels.{Metamodels, class_at}
use Rattle.qvt_tree_types.specs.declared.types.PathTree.{PathTree}
use Rattle.qvt_tree_types.specs.declared.words.ResolveWord.{ResolveWord}
use Rattle.qvt_types_data.specs.Notes.{told}
use Rattle.qvt_types_data.specs.declared.refusal.RefusalKind.{RefusalKind}
use Rattle.qvt_types_data.specs.declared.refusal.RefusalKind.TheVariants as refusal
use Rattle.qvt_types_data.specs.declared.ruling.Read.{Read}
use Rattle.qvt_types_data.specs.declared.ruling.Ruling.{Ruling}
use Rattle.qvt_types_data.specs.declared.ruling.Ruling.TheVariants.{Holds, Fails, Silent}
use Rattle.qvt_tree_types.specs.Resolves.{is_inverse}
use Rattle.qvt_types_data.specs.declared.ty.Ty.{Ty}
use Rattle.qvt_types_data.specs.declared.ty.Ty.TheVariants as ty
use Rattle.qvt_types_data.specs.declared.variable.VariableSort.TheVariants as sort
use Rattle.qvt_types_states.specs.Judge.{Judges, in_scope, tell, declare}
use Rattle.qvt_types_states.specs.Scopes.{found, is_known, with_named}
use Rattle.qvt_types_states.specs.declared.scope.Known.{Known}
use Rattle.qvt_types_states.specs.declared.state.TypingState.{TypingState}
use Rattle.qvt_types_steps.specs.Classes as classes
use Rattle.qvt_types_steps.specs.Iterators as iterators
use Rattle.qvt_types_steps.specs.Resolving as resolving
use Rattle.qvt_types_steps.specs.declared.classes.ClassPart.{ClassPart}
use Rattle.qvt_types_steps.specs.declared.classes.ClassPart.TheVariants as part
use Rattle.qvt_types_steps.specs.declared.heads.Heading.{Heading}
use Rattle.qvt_types_steps.specs.declared.heads.Heading.TheVariants as heading
use Rattle.qvt_types_steps.specs.declared.iterators.IteratorKind.{IteratorKind}
use Rattle.qvt_types_steps.specs.declared.resolves.Joint.{Joint}
use Rattle.qvt_types_steps.specs.declared.resolves.Joint.TheVariants as joint
use Rattle.qvt_types_steps.specs.IteratorTable.{iterator_named}
use Rattle.qvt_types_units.specs.Numbers.{unit_at}
use Rattle.qvt_types_units.specs.Reuse.{listed}
use Rattle.qvt_types_words.specs.Rulings as ruling
use Rattle.qvt_types_words.specs.Types.{conforms}
use Rattle.qvt_typing.specs.Context.{TypingContext}
use Rattle.qvt_typing.specs.Names as names
use Rattle.qvt_typing.specs.Rules as rule
use Rattle.qvt_typing.specs.declared.parts.Effect.TheVariants.{PureOne, ImpureOne}
use Rattle.qvt_typing.specs.declared.parts.Filtered.{Filtered}
use Rattle.qvt_typing.specs.declared.parts.Filtered.TheVariants.{NoFilter, By}
use Rattle.qvt_typing.specs.declared.parts.Given.{Given}
use Rattle.qvt_typing.specs.declared.parts.ObjectVariable.{ObjectVariable}
use Rattle.qvt_typing.specs.declared.parts.ObjectVariable.TheVariants.{NoVariable}
use Rattle.qvt_typing.specs.declared.parts.Within.{Within}
use Rattle.qvt_typing.specs.declared.parts.Within.TheVariants.{Everywhere, Nobody, In}
use Rattle.qvt_typed_laws.proofs.Contexts.{TypedHeads, TypedContext}
use Rattle.qvt_typed_laws.proofs.Every.{Every}
use Rattle.qvt_typed_laws.proofs.Keeps.{SomeTy, Anything, Keeps, weak, next, given, numbered, looked, sourced, inside, telling, checking, either, declaring, settling, marking, blank, not_told}
use Rattle.qvt_typed_laws.proofs.Rulings as rulings
use Rattle.qvt_typed_laws.proofs.Rulings.{IsClass, class_typed, class_type_some, has_no_type}
use Rattle.qvt_typed_laws.proofs.Solid as solid
use Rattle.qvt_typed_laws.proofs.Solid.{Solid, Typed}
use Rattle.qvt_typed_laws.proofs.Rules.{settled_solid, answered, marked_some, effect, ruled, stepped, in_order, all_types, none_untyped, HasType, known_some, named_class, Behind}

abbrev pub TypedHeading : Heading → Type 0
TypedHeading h = iterators.is_untyped h ≡ false

-- Heads of iterators.

-- the name of a variable of a Head is new where nothing is told
declared_new : {P : Type 0} (name : List ℕ) (k : Known) (at : Place) → (P → SomeTy k.ty) → Keeps P (λ b. b ≡ true) (rule.declare_head name k at)
declared_new name k at f = record {
  back = λ s e. (declaring name k at f).back s e;
  on = λ h s t e. (((declaring name k at f).on h s t e).0, new_name name k at s e);
}
  where
    new_name : (name : List ℕ) (k : Known) (at : Place) (s : TypingState) → (declare name k at s).1.log ≡ [] → not (is_known name s.scope) ≡ true
    new_name name k at s e = by (is_known name s.scope) e
      where
        by : (b : Bool) → ((if b then tell refusal.SameName at else in_scope (with_named name k)) s).1.log ≡ [] → not b ≡ true
        by true e = absurd (not_told s.log _ e)
        by false e = refl

unless_wrong : (b : Bool) → ruling.wrong_unless b ≡ None → b ≡ true
unless_wrong true e = refl
unless_wrong false e = absurd (cc)

if_plain : (b : Bool) (h : Heading) → TypedHeading h → b ≡ true → TypedHeading (if b then h else heading.Untyped)
if_plain true h k e = k
if_plain false h k e = absurd (false≢true e)

declared_typed : (m : Metamodels) (k : Ty) (o : Option Ty) → SomeTy o → iterators.iterator_wrong m true (Some k) o ≡ None → TypedHeading (iterators.declared_head m k o)
declared_typed m k None h e = absurd (false≢true h)
declared_typed m k (Some i) h e = if_plain (conforms m i k) heading.Plain refl (unless_wrong (conforms m i k) e)

plain_typed_as : (m : Metamodels) (b : Bool) (k items : Option Ty) → (not b || is_some k) ≡ true → SomeTy items → iterators.iterator_wrong m b k items ≡ None → TypedHeading (iterators.plain_head m b k items)
plain_typed_as m false k items h j e = refl
plain_typed_as m true None items h j e = absurd (false≢true h)
plain_typed_as m true (Some k) items h j e = declared_typed m k items j e

plain_typed : (m : Metamodels) (k : Given) (items : Option Ty) → HasType k → SomeTy items → iterators.iterator_wrong m k.is_given k.ty items ≡ None → TypedHeading (iterators.plain_head m k.is_given k.ty items)
plain_typed m k items h j e = plain_typed_as m k.is_given k.ty items h j e

new_typed : (b : Bool) (h : Heading) → b ≡ true → TypedHeading h → TypedHeading (rule.if_new b h)
new_typed true h e k = k
new_typed false h e k = absurd (false≢true e)

-- an iterator with a Head, on items of a type
abbrev pub Heads : Type 0 → (Option Ty → Judges Heading) → Type 0
Heads P f = (o : Option Ty) → Keeps (P × SomeTy o) TypedHeading (f o)

pub no_head : {P : Type 0} (name : List ℕ) → Heads P (rule.no_head name)
unfolding rule.no_head
no_head name o = next (unnamed (iterator_named name)) (λ u. given heading.Missing (λ h. refl))
  where
    unnamed : {P : Type 0} (i : Option IteratorKind) → Keeps (P × SomeTy o) Anything (rule.add_unnamed i o)
    unnamed None = given tt (λ h. tt)
    unnamed (Some i) = next looked (λ s. sourced (names.source (names.unnamed s) o) (λ h. h.0.1))

items_some : (o : Option Ty) → SomeTy o → SomeTy (iterators.item_type o)
items_some None h = h
items_some (Some t) h = refl

-- what is told of the Head is told of the iterator, where the accumulator folds
untold : (h : Heading) (o : Option RefusalKind) → TypedHeading h → rule.unless_folding_fails h o ≡ None → o ≡ None
untold heading.Untyped o k e = absurd (false≢true (sym k))
untold heading.Missing o k e = e
untold heading.Plain o k e = e
untold (heading.Folding t) o k e = e

module _ (x : TypingContext) where
  pub plain_heading : {P : Type 0} (v : List ℕ) {p : Judges Given} (at : Place) → Keeps P HasType p → Heads P (rule.plain_heading x v p at)
  unfolding rule.plain_heading
  plain_heading v at a items = next (weak (λ h. h.0) a) (λ k. next (checking (iterators.iterator_wrong x.heads.metas k.is_given k.ty items) at) (λ u. next (declared_new v (rule.iterator_known k items) at (λ h. known_some k items h.0.1 h.0.0.1)) (λ b. next blank (λ w.
      given (rule.if_new b (iterators.plain_head x.heads.metas k.is_given k.ty items)) (λ h. new_typed b (iterators.plain_head x.heads.metas k.is_given k.ty items) h.0.1 (plain_typed x.heads.metas k items h.0.0.0.1 h.0.0.0.0.1 h.0.0.1))))))

  folds : (t first : Option Ty) → SomeTy t → SomeTy first → iterators.accumulator_wrong x.heads.metas t first ≡ None → (h : Heading) → TypedHeading h → TypedHeading (iterators.folding_head x.heads.metas h t first)
  folds None first h j e g k = absurd (false≢true h)
  folds (Some t) None h j e g k = absurd (false≢true j)
  folds (Some t) (Some v) h j e heading.Untyped k = k
  folds (Some t) (Some v) h j e heading.Missing k = if_plain (conforms x.heads.metas v t) (heading.Folding t) refl (unless_wrong (conforms x.heads.metas v t) e)
  folds (Some t) (Some v) h j e heading.Plain k = if_plain (conforms x.heads.metas v t) (heading.Folding t) refl (unless_wrong (conforms x.heads.metas v t) e)
  folds (Some t) (Some v) h j e (heading.Folding a) k = if_plain (conforms x.heads.metas v t) (heading.Folding t) refl (unless_wrong (conforms x.heads.metas v t) e)

  pub folded : {P : Type 0} (v : List ℕ) (k : Given) (a : List ℕ) (t first : Option Ty) (accumulator_at at : Place) (items : Option Ty)
      → Keeps (P × (HasType k × (SomeTy t × (SomeTy first × SomeTy items)))) TypedHeading (rule.folded x v k a t first accumulator_at at items)
  unfolding rule.folded
  folded v k a t first accumulator_at at items =
      next (checking (rule.fold_wrong x k items t first) at) (λ u.
      next (checking (iterators.accumulator_wrong x.heads.metas t first) accumulator_at) (λ w.
      next blank (λ n.
      next (declared_new v (rule.iterator_known k items) at (λ h. known_some k items h.0.0.0.1.0 h.0.0.0.1.1.1.1)) (λ b.
      next (declared_new a (record { sort = sort.Iterator; ty = t }) accumulator_at (λ h. h.0.0.0.0.1.1.0)) (λ c.
      next blank (λ o.
      given (rule.if_new (b && c) (iterators.folding_head x.heads.metas (iterators.plain_head x.heads.metas k.is_given k.ty items) t first)) (λ h.
      let start = h.0.0.0.0.0.0.1 in
      let wrong = h.0.0.0.0.0.1 in
      let fold = h.0.0.0.0.1 in
      new_typed (b && c) (iterators.folding_head x.heads.metas (iterators.plain_head x.heads.metas k.is_given k.ty items) t first) (and_from b c h.0.0.1 h.0.1) (folds t first start.1.0 start.1.1.0 fold (iterators.plain_head x.heads.metas k.is_given k.ty items)
      (plain_typed x.heads.metas k items start.0 start.1.1.1 (untold (iterators.folding_head x.heads.metas heading.Plain t first) (iterators.iterator_wrong x.heads.metas k.is_given k.ty items) (folds t first start.1.0 start.1.1.0 fold heading.Plain refl) wrong))))))))))

  pub folding_heading : {P : Type 0} (v : List ℕ) {p : Judges Given} (a : List ℕ) {q r : Judges (Option Ty)} (accumulator_at at : Place) → Keeps P HasType p → Keeps P SomeTy q → Keeps P SomeTy r → Heads P (rule.folding_heading x v p a q r accumulator_at at)
  unfolding rule.folding_heading
  folding_heading v a accumulator_at at b c d items = next (weak (λ h. h.0) b) (λ k. next (weak (λ h. h.0.0) c) (λ t. next (weak (λ h. h.0.0.0) d) (λ first.
      weak (λ h. (h.0.0.0.0, (h.0.0.1, (h.0.1, (h.1, h.0.0.0.1))))) (folded v k a t first accumulator_at at items))))

  -- the arrow
  selected_solid : (name : List ℕ) (h : Heading) (o : Option Ty) (ps : List ClassPart) → TypedHeading h → SomeTy o → list_any classes.is_untyped ps ≡ false → Solid (rule.selected_by name h o ps)
  selected_solid name heading.Untyped o ps k l m = sym k
  selected_solid name heading.Missing o ps k l m = solid.selection name false o ps l m
  selected_solid name heading.Plain o ps k l m = solid.selection name true o ps l m
  selected_solid name (heading.Folding t) o ps k l m = solid.selection name true o ps l m

  arrow_parts : {P : Type 0} (name : List ℕ) {args : List (Judges (Option Ty))} {cs : List (Judges ClassPart)} (o : Option Ty) (h : Heading) → Every (Keeps P SomeTy) args → Every (Keeps P Typed) cs
      → Keeps ((P × SomeTy o) × TypedHeading h) Solid (rule.arrow_parts x name args cs o h)
  unfolding rule.arrow_parts
  arrow_parts name o h a b = either (classes.is_selection name)
      (next (weak (λ h. h.0.0) (in_order b)) (λ ps. given (rule.selected_by name h o ps) (λ k. selected_solid name h o ps k.0.1 k.0.0.1 (none_untyped ps k.1))))
      (next (weak (λ h. h.0.0) (in_order a)) (λ os. given (iterators.arrow x.heads.metas name h o (rule.all_types os)) (λ k. solid.arrow x.heads.metas name h o (rule.all_types os) k.0.1 k.0.0.1 (all_types os k.1))))

  pub arrowed : {P : Type 0} (name : List ℕ) {f : Option Ty → Judges Heading} {args : List (Judges (Option Ty))} {cs : List (Judges ClassPart)} (at : Place) → Heads P f → Every (Keeps P SomeTy) args → Every (Keeps P Typed) cs → Behind P (rule.arrowed x name f args cs at)
  unfolding rule.arrowed
  arrowed name at a b c o = next (inside (next (weak (λ h. (h.0, items_some o h.1)) (a (iterators.item_type o))) (λ h. arrow_parts name o h b c)))
      (λ w. stepped x w (rule.iterator_effect (iterator_named name)) at (λ h. h.1))

-- Objects.

abbrev pub TypedVariable : ObjectVariable → Type 0
TypedVariable v = has_no_type v ≡ false

variable_typed : (o : Option Ty) → SomeTy o → TypedVariable (rule.variable_of_type o)
variable_typed None h = absurd (false≢true h)
variable_typed (Some t) h = refl

pub no_variable : {P : Type 0} → Keeps P TypedVariable rule.no_variable
no_variable = given NoVariable (λ h. refl)

abbrev pub is_nobody : Within → Bool
is_nobody Nobody = true
is_nobody Everywhere = false
is_nobody (In n) = false

abbrev pub Somebody : Within → Type 0
Somebody w = is_nobody w ≡ false

abbrev pub FilteredBy : Filtered → Type 0
FilteredBy NoFilter = Unit {0}
FilteredBy (By c) = Typed c

within_class : (w : ResolveWord) (r c : ClassPart) → Typed r → Typed c → Typed (resolving.class_within w r c)
within_class w r c h k = by (is_inverse w)
  where
    by : (b : Bool) → Typed (if b then c else r)
    by true = k
    by false = h

filter_as : (m : Metamodels) (c : ClassPart) (b : Bool) (o : Option Ty) → IsClass c → (not b || is_some o) ≡ true → Solid (resolving.filter m (names.class_type c) b o)
filter_as m part.Untyped b o h k = h
filter_as m part.Missing b o h k = h
filter_as m (part.Class c) false o h k = refl
filter_as m (part.Class c) true None h k = k
filter_as m (part.Class c) true (Some t) h k = solid.solid_if (conforms m t ty.Boolean) (ruling.typed (ty.Class c)) (Fails refusal.WrongType) refl refl

filter_kept : (w : Ruling) (c : ClassPart) → Solid w → (told w).0 ≡ None → Typed c → Typed (rule.filter_part w c)
filter_kept (Holds r) c h e k = k
filter_kept (Fails kind) c h e k = absurd (cc)
filter_kept Silent c h e k = absurd (false≢true h)

behind : (j : Joint) (o : Option Ty) → SomeTy o → solid.HasSource j o
behind joint.Sourceless o h = tt
behind joint.Dot o h = h
behind joint.Arrow o h = h

module _ (x : TypingContext) where
  pub named_variable : {P : Type 0} (name : List ℕ) (at : Place) → Keeps P TypedVariable (rule.named_variable x name at)
  unfolding rule.named_variable
  named_variable name at = next looked (λ s. next (settled_solid (rule.settable_ruled name (found name s)) at (λ h. rulings.settable_solid name (found name s) (λ k e. rulings.found_some name s h.1 k e)))
      (λ r. next (marked_some r (λ h. h.1)) (λ o. given (rule.variable_of_type o) (λ h. variable_typed o h.1))))

  pub result_variable : {P : Type 0} (tx : P → TypedContext x) (at : Place) → Keeps P TypedVariable (rule.result_variable x at)
  unfolding rule.result_variable
  result_variable tx at = next (settled_solid (names.result_ruled x.result) at (λ h. rulings.held_solid names.result_name refusal.ResultPlace x.result (tx h).result)) (λ r. next (marked_some r (λ h. h.1)) (λ o. given (rule.variable_of_type o) (λ h. variable_typed o h.1)))

  abstract_told : {P : Type 0} (c : ClassPart) (at : Place) → Keeps P Anything (rule.abstract_told x c at)
  abstract_told (part.Class c) at = either (class_at x.heads.metas c.0).is_abstract (telling refusal.AbstractClass at) (given tt (λ h. tt))
  abstract_told part.Untyped at = given tt (λ h. tt)
  abstract_told part.Missing at = given tt (λ h. tt)

  extent_told : {P : Type 0} (o : Option ℕ) (at : Place) → Keeps P Anything (rule.extent_told o at)
  extent_told None at = telling refusal.BadExtent at
  extent_told (Some e) at = given tt (λ h. tt)

  class_extent_told : {P : Type 0} (name : Option (List ℕ)) (c : ClassPart) (at : Place) → Keeps P Anything (rule.class_extent_told x name c at)
  class_extent_told name (part.Class c) at = extent_told (rule.extent_of x name c) at
  class_extent_told name part.Untyped at = given tt (λ h. tt)
  class_extent_told name part.Missing at = given tt (λ h. tt)

  pub object : {P : Type 0} {p : Judges ObjectVariable} (path : PathTree) (name : Option (List ℕ)) {body : ClassPart → Judges (Unit {0})} (at : Place) → Keeps P TypedVariable p → ((c : ClassPart) → Keeps P Anything (body c)) → Keeps P SomeTy (rule.object x p path name body at)
  unfolding rule.object
  object path name at a b = next numbered (λ n. next (weak (λ h. h.0) a) (λ v. next (named_class x path) (λ c. next (abstract_told c path.place)
      (λ u. next (weak (λ h. h.0.0.0.0) (b c))
      (λ w. next (class_extent_told name (rule.class_beside v c) at)
      (λ y. ruled x n (rule.object_ruled x v name c) ImpureOne at (λ h. rulings.object_solid x v name c h.0.0.0.0.1 h.0.0.0.1)))))))

  constructed : (n : ExprNo) (c : ClassPart) (path_at : Place) (name : Option (List ℕ)) (us : Option (List Ty)) (at : Place) → Keeps (IsClass c × (is_some us ≡ true)) SomeTy (rule.constructed x n c path_at name us at)
  unfolding rule.constructed
  constructed n c path_at name us at = next (class_extent_told name (rule.class_with us c) at) (λ u. next (settled_solid (rule.new_ruled x name c us) (rule.new_place (rule.new_ruled x name c us) path_at at) (λ h. rulings.new_solid x name c us h.0.0 h.0.1))
      (λ r. next (effect x ImpureOne r at) (λ w. answered n r (λ h. h.0.1))))

  pub new : {P : Type 0} (path : PathTree) (name : Option (List ℕ)) {args : List (Judges (Option Ty))} (at : Place) → Every (Keeps P SomeTy) args → Keeps P SomeTy (rule.new x path name args at)
  unfolding rule.new
  new path name at a = next numbered (λ n. next (named_class x path) (λ c. next (abstract_told c path.place)
      (λ u. next (weak (λ h. h.0.0.0) (in_order a)) (λ os. weak (λ h. (h.0.0.1, all_types os h.1)) (constructed n c path.place name (rule.all_types os) at)))))

  -- Resolves.

  pub everywhere : {P : Type 0} → Keeps P Somebody rule.everywhere
  everywhere = given Everywhere (λ h. refl)

  listed_there : (R : Result ℕ RefusalKind) → (told (rule.listed_ruled x R)).0 ≡ None → Somebody (rule.within_of R)
  listed_there (Ok n) e = refl
  listed_there (Err k) e = absurd (cc)

  pub listed_path : {P : Type 0} (p : PathTree) → Keeps P Somebody (rule.listed_path x p)
  unfolding rule.listed_path
  listed_path p = next (settling (rule.listed_ruled x (listed x.heads.given x.heads.types x.heads.units p.names)) p.place) (λ r. next (marking r) (λ o. given (rule.within_of (listed x.heads.given x.heads.types x.heads.units p.names)) (λ h. listed_there (listed x.heads.given x.heads.types x.heads.units p.names) h.0.1.untold)))

  pub no_filter : {P : Type 0} → Keeps P FilteredBy rule.no_filter
  no_filter = given NoFilter (λ h. tt)

  filter_settled : {P : Type 0} (c : ClassPart) (k : Given) (at : Place) → Keeps ((P × IsClass c) × HasType k) FilteredBy (rule.filter_settled x c k at)
  unfolding rule.filter_settled
  filter_settled c k at = next (settling (resolving.filter x.heads.metas (names.class_type c) k.is_given k.ty) at) (λ r. next blank (λ u. given (By (rule.filter_part (resolving.filter x.heads.metas (names.class_type c) k.is_given k.ty) c)) (λ h. filter_kept (resolving.filter x.heads.metas (names.class_type c) k.is_given k.ty) c (filter_as x.heads.metas c k.is_given k.ty h.0.0.0.1 h.0.0.1) h.0.1.untold (class_typed c h.0.0.0.1))))

  declare_filter : {P : Type 0} (name : Option (List ℕ)) (c : ClassPart) (at : Place) → Keeps (P × IsClass c) Anything (rule.declare_filter name c at)
  declare_filter None c at = next looked (λ s. sourced (names.source (names.unnamed s) (names.class_type c)) (λ h. class_type_some c h.0.1))
  declare_filter (Some name) c at = declaring name (record { sort = sort.Iterator; ty = names.class_type c }) at (λ h. class_type_some c h.1)

  pub filter : {P : Type 0} (name : Option (List ℕ)) {p : Judges ClassPart} {condition : Judges Given} (at : Place) → Keeps P IsClass p → Keeps P HasType condition → Keeps P FilteredBy (rule.filter x name p condition at)
  unfolding rule.filter
  filter name at a b = next a (λ c. next (inside (next (declare_filter name c at) (λ u. weak (λ h. h.0.0) b))) (λ k. filter_settled c k at))

  looked_typed : (h : TypedHeads x.heads) (w : ResolveWord) (i : Within) (f : Filtered) → Somebody i → FilteredBy f → Typed (rule.looked_for x w i f)
  looked_typed h w Nobody f k l = absurd (false≢true (sym k))
  looked_typed h w Everywhere (By c) k l = l
  looked_typed h w (In n) (By c) k l = l
  looked_typed h w Everywhere NoFilter k l = refl
  looked_typed h w (In n) NoFilter k l = within_class w (rule.head_part (unit_at x.heads.units n).result) (rule.head_part (unit_at x.heads.units n).context) (rulings.head_typed (unit_at x.heads.units n).result (h.units n).result) (rulings.head_typed (unit_at x.heads.units n).context (h.units n).context)

  late_told : {P : Type 0} (allowed late : Bool) (r : Read) (at : Place) → Keeps P Anything (rule.late_told allowed late r at)
  late_told allowed late r at = either (is_some r.answer && (late && not allowed)) (telling refusal.LatePlace at) (given tt (λ h. tt))

  resolve_ruled : {P : Type 0} (allowed late : Bool) (j : Joint) (w : ResolveWord) (o : Option Ty) (c : ClassPart) (at : Place) → (P → solid.HasSource j o) → (P → Typed c) → Keeps P (λ r. SomeTy r.answer) (rule.resolve_ruled x allowed late j w o c at)
  resolve_ruled allowed late j w o c at f g = next (settled_solid (resolving.resolve j w o c) at (λ h. solid.resolve j w o c (f h) (g h))) (λ r. next (effect x PureOne r at) (λ u. next (late_told allowed late r at) (λ v. given r (λ h. h.0.0.1))))

  pub resolve : {P : Type 0} (tx : P → TypedContext x) (allowed late : Bool) (w : ResolveWord) {p : Judges Within} {q : Judges Filtered} (at : Place) → Keeps P Somebody p → Keeps P FilteredBy q → Keeps P SomeTy (rule.resolve x allowed late w p q at)
  unfolding rule.resolve
  resolve tx allowed late w at a b = next numbered (λ n. next (weak (λ h. h.0) a) (λ i. next (weak (λ h. h.0.0) b) (λ f.
      next (resolve_ruled allowed late joint.Sourceless w None (rule.looked_for x w i f) at (λ h. tt) (λ h. looked_typed (tx h.0.0.0).heads w i f h.0.1 h.1)) (λ r. answered n r (λ h. h.1)))))

  pub resolve_step : {P : Type 0} (tx : P → TypedContext x) (allowed late : Bool) (j : Joint) (w : ResolveWord) {p : Judges Within} {q : Judges Filtered} (at : Place) → Keeps P Somebody p → Keeps P FilteredBy q → Behind P (rule.resolve_step x allowed late j w p q at)
  unfolding rule.resolve_step
  resolve_step tx allowed late j w at a b o = next (weak (λ h. h.0) a) (λ i. next (weak (λ h. h.0.0) b) (λ f.
      next (resolve_ruled allowed late j w o (rule.looked_for x w i f) at (λ h. behind j o h.0.0.1) (λ h. looked_typed (tx h.0.0.0).heads w i f h.0.1 h.1)) (λ r. marked_some r (λ h. h.1))))
