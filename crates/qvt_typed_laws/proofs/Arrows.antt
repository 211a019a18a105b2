-- What the rules of iterators, objects, resolves and statements write, over what their parts write.
use Rattle.qvt_base.specs.declared.numbers.ExprNo.{ExprNo}
use Rattle.qvt_base.specs.declared.numbers.Place.{Place}
use Rattle.qvt_metas.specs.Metamodels.{class_at}
use Rattle.qvt_tree_types.specs.declared.types.PathTree.{PathTree}
use Rattle.qvt_tree_types.specs.declared.words.ResolveWord.{ResolveWord}
use Rattle.qvt_typed_laws.proofs.Follows.{◌&◌, Quiet, Marks, Answers, Follows, quietly, given, looked, sourced, telling, checking, either, declaring, settling, blank, marking, answering, before_mark, after_mark, before_answer, one_mark, both, closed, behind, last, part, numbered, before, after, before_closing, inside}
use Rattle.qvt_typed_laws.proofs.Written.{effect, ruled, stepped, named_class}
use Rattle.qvt_typed_laws.specs.Numbers.{number}
use Rattle.qvt_types_data.specs.declared.refusal.RefusalKind.TheVariants as refusal
use Rattle.qvt_types_data.specs.declared.refusal.RefusalKind.{RefusalKind}
use Rattle.qvt_types_data.specs.declared.ruling.Read.{Read}
use Rattle.qvt_types_data.specs.declared.ty.Ty.{Ty}
use Rattle.qvt_types_data.specs.declared.variable.VariableSort.TheVariants as sort
use Rattle.qvt_types_data.specs.declared.note.Note.{Note}
use Rattle.qvt_types_laws.specs.Join as join
use Rattle.qvt_types_laws.specs.Join.{NoteTaker, next_note}
use Rattle.qvt_types_states.specs.Judge.{Judges, ◌>>=◌, gives, checked, writes_nothing}
use Rattle.qvt_types_states.specs.Scopes.{found, is_known}
use Rattle.qvt_types_states.specs.declared.scope.Known.{Known}
use Rattle.qvt_types_steps.specs.Classes as classes
use Rattle.qvt_types_steps.specs.IteratorTable.{iterator_named}
use Rattle.qvt_types_steps.specs.Iterators as iterators
use Rattle.qvt_types_steps.specs.Resolving as resolving
use Rattle.qvt_types_steps.specs.declared.classes.ClassPart.TheVariants as part
use Rattle.qvt_types_steps.specs.declared.classes.ClassPart.{ClassPart}
use Rattle.qvt_types_steps.specs.declared.heads.Heading.TheVariants as heading
use Rattle.qvt_types_steps.specs.declared.heads.Heading.{Heading}
use Rattle.qvt_types_steps.specs.declared.iterators.IteratorKind.{IteratorKind}
use Rattle.qvt_types_steps.specs.declared.resolves.Joint.TheVariants as joint
use Rattle.qvt_types_steps.specs.declared.resolves.Joint.{Joint}
use Rattle.qvt_types_units.specs.Reuse.{listed}
use Rattle.qvt_types_words.specs.Rulings as ruling
use Rattle.qvt_typing.specs.Aims as aims
use Rattle.qvt_typing.specs.Context.{TypingContext}
use Rattle.qvt_typing.specs.Names as names
use Rattle.qvt_typing.specs.Rules as rule
use Rattle.qvt_typing.specs.Statements as rule_of
use Rattle.qvt_typing.specs.declared.parts.Aim.{Aim}
use Rattle.qvt_typing.specs.declared.parts.Effect.TheVariants.{PureOne, ImpureOne}
use Rattle.qvt_typing.specs.declared.parts.Filtered.TheVariants.{By}
use Rattle.qvt_typing.specs.declared.parts.Filtered.{Filtered}
use Rattle.qvt_typing.specs.declared.parts.Given.{Given}
use Rattle.qvt_typing.specs.declared.parts.ObjectVariable.{ObjectVariable}
use Rattle.qvt_typing.specs.declared.parts.Within.{Within}
use Rattle.std.proofs.Common.{◌≡◌, refl, ◌∙◌, ℕ, Bool, true, false, List, [], ◌∷◌, ◌++◌, Option, Some, None, ◌+◌, arith}
use Rattle.std.specs.Prelude.{is_some, if◌then◌else◌, not, ◌&&◌}

-- Heads of iterators.

declared_head : (name : List ℕ) (k : Known) (at : Place) → Quiet (rule.declare_head name k at)
declared_head name k at = quietly looked (λ s. quietly (declaring name k at) (λ u. given (not (is_known name s))))

unnamed : (i : Option IteratorKind) (o : Option Ty) → Quiet (rule.add_unnamed i o)
unnamed None o = given tt
unnamed (Some i) o = quietly looked (λ s. sourced (names.source (names.unnamed s) o))

pub no_head : (name : List ℕ) (o : Option Ty) → Quiet (rule.no_head name o)
unfolding rule.no_head
no_head name o = quietly (unnamed (iterator_named name) o) (λ u. given heading.Missing)

-- a note after what leaves none
pub without : {A B : Type 0} (more : B → List ℕ) {p : Judges A} (b : B) → more b ≡ [] → Marks p → Follows p (join.gives b & next_note) (λ (y : B × Note). more y.0)
without more b none a = record {
  notes = λ s. a.note s ∷ [];
  node = λ s. (b, a.note s);
  count = λ s. 0;
  writes = a.notes;
  counts = λ s. a.next s ∙ (let z : s.next ≡ s.next + 0 = omega arith in z);
  takes = λ s rest. refl;
  numbers = λ s. none;
}

module _ (x : TypingContext) where
  plain_mark : (v : List ℕ) (k : Given) (at : Place) (items : Option Ty) → Marks (checked (iterators.iterator_wrong x.heads.metas k.is_given k.ty items) at
      >>= (λ _. rule.declare_head v (rule.iterator_known k items) at
      >>= (λ is_new. writes_nothing >>= (λ _. gives (rule.if_new is_new (iterators.plain_head x.heads.metas k.is_given k.ty items))))))
  plain_mark v k at items = before_mark (checking (iterators.iterator_wrong x.heads.metas k.is_given k.ty items) at) (λ u. before_mark (declared_head v (rule.iterator_known k items) at) (λ b. after_mark blank (λ w.
      given (rule.if_new b (iterators.plain_head x.heads.metas k.is_given k.ty items)))))

  -- its Head without an accumulator
  pub plain_heading : {B C : Type 0} {num : B → List ℕ} {q : NoteTaker B} (v : List ℕ) {p : Judges Given} (at : Place) (more : C → List ℕ) (none : C) → more none ≡ [] → Follows p q num → (items : Option Ty) → Follows (rule.plain_heading x v p at items) (q & (join.gives none & next_note)) (λ y. num y.0 ++ more y.1.0)
  unfolding rule.plain_heading
  plain_heading v at more none e a items = both a (λ k. without more none e (plain_mark v k at items))

  -- the accumulator's note, and that of the Head
  folded_first : (k : Given) (t first : Option Ty) (accumulator_at at : Place) (items : Option Ty) → Marks {A = Option Ty × Option Ty} (checked (rule.fold_wrong x k items t first) at
      >>= (λ _. checked (iterators.accumulator_wrong x.heads.metas t first) accumulator_at >>= (λ _. writes_nothing >>= (λ _. gives (t, first)))))
  folded_first k t first accumulator_at at items = before_mark (checking (rule.fold_wrong x k items t first) at) (λ u. before_mark (checking (iterators.accumulator_wrong x.heads.metas t first) accumulator_at) (λ w. after_mark blank (λ n. given (t, first))))

  folded_last : (v : List ℕ) (k : Given) (a : List ℕ) (t first : Option Ty) (accumulator_at at : Place) (items : Option Ty) → Marks (rule.declare_head v (rule.iterator_known k items) at
      >>= (λ is_new. rule.declare_head a (record { sort = sort.Iterator; ty = t }) accumulator_at
      >>= (λ is_other_new. writes_nothing
      >>= (λ _. gives (rule.if_new (is_new && is_other_new) (iterators.folding_head x.heads.metas (iterators.plain_head x.heads.metas k.is_given k.ty items) t first))))))
  folded_last v k a t first accumulator_at at items = before_mark (declared_head v (rule.iterator_known k items) at) (λ b. before_mark (declared_head a (record { sort = sort.Iterator; ty = t }) accumulator_at) (λ c. after_mark blank (λ o.
      given (rule.if_new (b && c) (iterators.folding_head x.heads.metas (iterators.plain_head x.heads.metas k.is_given k.ty items) t first)))))

  pub folding_heading : {B C D : Type 0} {num : B → List ℕ} {more : C → List ℕ} {most : D → List ℕ} {q : NoteTaker B} {r : NoteTaker C} {t : NoteTaker D} (v : List ℕ) {p : Judges Given} (a : List ℕ) {b c : Judges (Option Ty)} (accumulator_at at : Place)
      → Follows p q num → Follows b r more → Follows c t most → (items : Option Ty) → Follows (rule.folding_heading x v p a b c accumulator_at at items) (q & ((r & (t & next_note)) & next_note)) (λ y. num y.0 ++ (more y.1.0.0 ++ most y.1.0.1.0))
  unfolding rule.folding_heading rule.folded
  folding_heading v a accumulator_at at f g h items = both f (λ k. closed (both g (λ t. closed h (λ first. folded_first k t first accumulator_at at items))) (λ pair. folded_last v k a pair.0 pair.1 accumulator_at at items))

  -- the arrow
  arrow_parts : {B : Type 0} {num : B → List ℕ} {q : NoteTaker B} (name : List ℕ) (args : List (Judges (Option Ty))) (cs : List (Judges ClassPart)) (o : Option Ty) (h : Heading) → Follows (rule.all [] args) q num → Follows (rule.all [] cs) q num → Follows (rule.arrow_parts x name args cs o h) q num
  unfolding rule.arrow_parts
  arrow_parts {num = num} {q = q} name args cs o h a b = by (classes.is_selection name)
    where
      by : (c : Bool) → Follows (if c then rule.in_order cs >>= (λ ps. gives (rule.selected_by name h o ps)) else rule.in_order args >>= (λ os. gives (iterators.arrow x.heads.metas name h o (rule.all_types os)))) q num
      by true = after b (λ ps. given (rule.selected_by name h o ps))
      by false = after a (λ os. given (iterators.arrow x.heads.metas name h o (rule.all_types os)))

  pub arrowed : {B C : Type 0} {num : B → List ℕ} {more : C → List ℕ} {q : NoteTaker B} {r : NoteTaker C} (name : List ℕ) (f : Option Ty → Judges Heading) (args : List (Judges (Option Ty))) (cs : List (Judges ClassPart)) (at : Place)
      → ((o : Option Ty) → Follows (f o) q num) → Follows (rule.all [] args) r more → Follows (rule.all [] cs) r more → (o : Option Ty) → Follows (rule.arrowed x name f args cs at o) (q & r & next_note) (λ y. num y.0.0 ++ more y.0.1)
  unfolding rule.arrowed
  arrowed name f args cs at a b c o = closed (inside (both (a (iterators.item_type o)) (λ h. arrow_parts name args cs o h b c))) (λ w. stepped x w (rule.iterator_effect (iterator_named name)) at)

  -- Objects.

  pub named_variable : (name : List ℕ) (at : Place) → Marks (rule.named_variable x name at)
  unfolding rule.named_variable
  named_variable name at = before_mark looked (λ s. before_mark (settling (rule.settable_ruled name (found name s)) at) (λ r. after_mark (marking r) (λ o. given (rule.variable_of_type o))))

  pub result_variable : (at : Place) → Marks (rule.result_variable x at)
  unfolding rule.result_variable
  result_variable at = before_mark (settling (names.result_ruled x.result) at) (λ r. after_mark (marking r) (λ o. given (rule.variable_of_type o)))

  abstract_told : (c : ClassPart) (at : Place) → Quiet (rule.abstract_told x c at)
  abstract_told (part.Class c) at = either (class_at x.heads.metas c.0).is_abstract (telling refusal.AbstractClass at) (given tt)
  abstract_told part.Untyped at = given tt
  abstract_told part.Missing at = given tt

  extent_told : (o : Option ℕ) (at : Place) → Quiet (rule.extent_told o at)
  extent_told None at = telling refusal.BadExtent at
  extent_told (Some e) at = given tt

  class_extent_told : (name : Option (List ℕ)) (c : ClassPart) (at : Place) → Quiet (rule.class_extent_told x name c at)
  class_extent_told name (part.Class c) at = extent_told (rule.extent_of x name c) at
  class_extent_told name part.Untyped at = given tt
  class_extent_told name part.Missing at = given tt

  pub object : {B C : Type 0} {num : B → List ℕ} {more : C → List ℕ} {q : NoteTaker B} {r : NoteTaker C} {p : Judges ObjectVariable} (path : PathTree) (name : Option (List ℕ)) {body : ClassPart → Judges (Unit {0})} (at : Place)
      → Follows p q num → ((c : ClassPart) → Follows (body c) r more) → Follows (rule.object x p path name body at) (q & (next_note & (r & next_note))) (λ y. number y.1.1.1 ++ (num y.0 ++ more y.1.1.0))
  unfolding rule.object
  object path name at a b = numbered (λ n. part a (λ v. part (one_mark (named_class x path)) (λ c. before_closing (abstract_told c path.place) (λ u. last (b c) (λ w.
      before_answer (class_extent_told name (rule.class_beside v c) at) (λ z. ruled x n (rule.object_ruled x v name c) ImpureOne at))))))

  constructed : (n : ExprNo) (c : ClassPart) (path_at : Place) (name : Option (List ℕ)) (us : Option (List Ty)) (at : Place) → Answers n (rule.constructed x n c path_at name us at)
  unfolding rule.constructed
  constructed n c path_at name us at = before_answer (class_extent_told name (rule.class_with us c) at) (λ u. before_answer (settling (rule.new_ruled x name c us) (rule.new_place (rule.new_ruled x name c us) path_at at))
      (λ r. before_answer (effect x ImpureOne r at) (λ w. answering n r)))

  pub new : {B : Type 0} {num : B → List ℕ} {q : NoteTaker B} (path : PathTree) (name : Option (List ℕ)) (args : List (Judges (Option Ty))) (at : Place) → Follows (rule.all [] args) q num → Follows (rule.new x path name args at) (next_note & (q & next_note)) (λ y. number y.1.1 ++ num y.1.0)
  unfolding rule.new
  new path name args at a = numbered (λ n. part (one_mark (named_class x path)) (λ c. before_closing (abstract_told c path.place) (λ u. last a (λ os. constructed n c path.place name (rule.all_types os) at))))

  -- Resolves.

  pub listed_path : (p : PathTree) → Marks (rule.listed_path x p)
  unfolding rule.listed_path
  listed_path p = before_mark (settling (rule.listed_ruled x (listed x.heads.given x.heads.types x.heads.units p.names)) p.place) (λ r. after_mark (marking r) (λ o. given (rule.within_of (listed x.heads.given x.heads.types x.heads.units p.names))))

  filter_settled : (c : ClassPart) (k : Given) (at : Place) → Marks (rule.filter_settled x c k at)
  unfolding rule.filter_settled
  filter_settled c k at = before_mark (settling (resolving.filter x.heads.metas (names.class_type c) k.is_given k.ty) at) (λ r. after_mark blank (λ u. given (By (rule.filter_part (resolving.filter x.heads.metas (names.class_type c) k.is_given k.ty) c))))

  declare_filter : (name : Option (List ℕ)) (c : ClassPart) (at : Place) → Quiet (rule.declare_filter name c at)
  declare_filter None c at = quietly looked (λ s. sourced (names.source (names.unnamed s) (names.class_type c)))
  declare_filter (Some name) c at = declaring name (record { sort = sort.Iterator; ty = names.class_type c }) at

  pub filter : {B C : Type 0} {num : B → List ℕ} {more : C → List ℕ} {q : NoteTaker B} {r : NoteTaker C} (name : Option (List ℕ)) {p : Judges ClassPart} {condition : Judges Given} (at : Place) → Follows p q num → Follows condition r more → Follows (rule.filter x name p condition at) (q & (r & next_note)) (λ y. num y.0 ++ more y.1.0)
  unfolding rule.filter
  filter name at a b = both a (λ c. closed (inside (before (declare_filter name c at) (λ u. b))) (λ k. filter_settled c k at))

  late_told : (allowed late : Bool) (r : Read) (at : Place) → Quiet (rule.late_told allowed late r at)
  late_told allowed late r at = either (is_some r.answer && (late && not allowed)) (telling refusal.LatePlace at) (given tt)

  resolve_ruled : (allowed late : Bool) (j : Joint) (w : ResolveWord) (o : Option Ty) (c : ClassPart) (at : Place) → Quiet (rule.resolve_ruled x allowed late j w o c at)
  resolve_ruled allowed late j w o c at = quietly (settling (resolving.resolve j w o c) at) (λ r. quietly (effect x PureOne r at) (λ u. quietly (late_told allowed late r at) (λ v. given r)))

  module _ {B C : Type 0} {num : B → List ℕ} {more : C → List ℕ} {q : NoteTaker B} {r : NoteTaker C} where
    pub resolve : (allowed late : Bool) (w : ResolveWord) {p : Judges Within} {f : Judges Filtered} (at : Place) → Follows p q num → Follows f r more → Follows (rule.resolve x allowed late w p f at) (q & (r & next_note)) (λ y. number y.1.1 ++ (num y.0 ++ more y.1.0))
    unfolding rule.resolve
    resolve allowed late w at a b = numbered (λ n. part a (λ i. last b (λ f. before_answer (resolve_ruled allowed late joint.Sourceless w None (rule.looked_for x w i f) at) (λ r. answering n r))))

    pub resolve_step : (allowed late : Bool) (j : Joint) (w : ResolveWord) {p : Judges Within} {f : Judges Filtered} (at : Place) → Follows p q num → Follows f r more → (o : Option Ty) → Follows (rule.resolve_step x allowed late j w p f at o) (q & (r & next_note)) (λ y. num y.0 ++ (number y.1.1 ++ more y.1.0))
    unfolding rule.resolve_step
    resolve_step allowed late j w at a b o = both a (λ i. behind b (λ f. before_mark (resolve_ruled allowed late j w o (rule.looked_for x w i f) at) (λ r. marking r)))

-- Statements.

aimed : (missing : RefusalKind) (at : Place) (a : Aim) → Marks (rule_of.aimed missing at a)
aimed missing at a = before_mark (checking (aims.nowhere_told missing a) at) (λ u. after_mark (marking (aims.aim_read a)) (λ o. given a))

module _ (x : TypingContext) where
  pub bare_target : (name : List ℕ) (at : Place) → Marks (rule_of.bare_target x name at)
  unfolding rule_of.bare_target
  bare_target name at = before_mark looked (λ s. aimed refusal.UnknownName at (aims.bare_aim x s name))

  pub result_target : (at : Place) → Marks (rule_of.result_target x at)
  unfolding rule_of.result_target
  result_target at = aimed refusal.ResultPlace at (aims.result_aim x.sets_result x.result)

  condition_quiet : (c : Option Ty) (at : Place) → Quiet (rule_of.condition_checked x c at)
  condition_quiet c at = checking (rule_of.condition_told x c) at

  declared : (name : List ℕ) (k v : Given) (at : Place) → Marks (rule_of.declared x name k v at)
  unfolding rule_of.declared
  declared name k v at = before_mark (checking (ruling.var_wrong x.heads.metas k.is_given k.ty v.is_given v.ty) at) (λ u. before_mark (declaring name (record { sort = sort.Settable; ty = ruling.var_type k.is_given k.ty v.ty }) at) (λ w. blank))

  each_settled : (o : Option Ty) (k v : Given) (at : Place) → Marks (rule_of.for_each_settled x o k v at)
  each_settled o k v at = before_mark (checking (rule_of.for_each_told x (iterators.item_type o) k v) at) (λ u. after_mark (marking (rule_of.wraps o)) (λ w. given tt))

  module _ {B : Type 0} {num : B → List ℕ} {q : NoteTaker B} where
    pub member_target : {p : Judges (Option Ty)} (name : List ℕ) (at : Place) → Follows p q num → Follows (rule_of.member_target x p name at) (q & next_note) (λ y. num y.0)
    unfolding rule_of.member_target
    member_target name at a = closed a (λ o. aimed refusal.UnknownName at (aims.member_aim x.heads name o))

    pub value : {p : Judges (Option Ty)} → Follows p q num → Follows (rule_of.value x p) (q & next_note) (λ y. num y.0)
    unfolding rule_of.value
    value a = closed a (λ o. blank)

    pub return_ : {p : Judges Given} (at : Place) → Follows p q num → Follows (rule_of.return_ x p at) (q & next_note) (λ y. num y.0)
    unfolding rule_of.return_ rule_of.returned
    return_ at a = closed a (λ v. before_mark (checking (rule_of.return_told x x.returns v.is_given v.ty) at) (λ u. blank))

    pub condition : {p : Judges (Option Ty)} (at : Place) → Follows p q num → Follows (rule_of.condition x p at) q num
    unfolding rule_of.condition
    condition at a = after a (λ c. condition_quiet c at)

    pub block : (ps : List (Judges (Unit {0}))) → Follows (rule_of.each ps) q num → Follows (rule_of.block x ps) q num
    unfolding rule_of.block
    block ps a = inside a

  module _ {B C : Type 0} {num : B → List ℕ} {more : C → List ℕ} {q : NoteTaker B} {r : NoteTaker C} where
    pub variable : (name : List ℕ) {p v : Judges Given} (at : Place) → Follows p q num → Follows v r more → Follows (rule_of.variable x name p v at) (q & (r & next_note)) (λ y. num y.0 ++ more y.1.0)
    unfolding rule_of.variable
    variable name at a b = both a (λ k. closed b (λ v. declared name k v at))

    pub assign : {p : Judges Aim} (adds : Bool) {v : Bool → Judges (Option Ty)} (at : Place) → Follows p q num → ((late : Bool) → Follows (v late) r more) → Follows (rule_of.assign x p adds v at) (q & (r & next_note)) (λ y. num y.0 ++ more y.1.0)
    unfolding rule_of.assign rule_of.assigned
    assign adds at a b = both a (λ t. closed (b (aims.takes_late t)) (λ v. before_mark (checking (rule_of.change_told x t v) at) (λ u. before_mark (checking (aims.assign_wrong x.heads adds t v) at) (λ w. blank))))

    pub while_ : {p : Judges (Option Ty)} (body : List (Judges (Unit {0}))) (at : Place) → Follows p q num → Follows (rule_of.each body) r more → Follows (rule_of.while_ x p body at) (q & (r & next_note)) (λ y. num y.0 ++ more y.1.0)
    unfolding rule_of.while_
    while_ body at a b = both (condition at a) (λ u. closed (block body b) (λ w. blank))

    pub arm : {p : Judges (Option Ty)} (body : List (Judges (Unit {0}))) → Follows p q num → Follows (rule_of.each body) r more → Follows (rule_of.arm x p body) (q & r) (λ y. num y.0 ++ more y.1)
    unfolding rule_of.arm
    arm body a b = both a (λ c. after (block body b) (λ u. given c))

  module _ {B C D E : Type 0} {num : B → List ℕ} {more : C → List ℕ} {most : D → List ℕ} {end : E → List ℕ} {q : NoteTaker B} {r : NoteTaker C} {t : NoteTaker D} {v : NoteTaker E} where
    pub if_ : {p : Judges (Option Ty)} (body : List (Judges (Unit {0}))) (arms : List (Judges (Option Ty))) (otherwise : List (Judges (Unit {0}))) (at : Place)
        → Follows p q num → Follows (rule_of.each body) r more → ((done : List (Option Ty)) → Follows (rule.all done arms) t most) → Follows (rule_of.each otherwise) v end
        → Follows (rule_of.if_ x p body arms otherwise at) (q & (r & (t & (v & next_note)))) (λ y. num y.0 ++ (more y.1.0 ++ (most y.1.1.0 ++ end y.1.1.1.0)))
    unfolding rule_of.if_ rule_of.arm
    if_ body arms otherwise at a b c d = both a (λ o. both (block body b) (λ u. both (c (o ∷ [])) (λ os. closed (block otherwise d) (λ w. before_mark (checking (ruling.wrong_unless (rule_of.are_conditions x (rule.all_types os))) at) (λ z. blank)))))

    pub for_each : {p : Judges (Option Ty)} (name : List ℕ) {k c : Judges Given} (body : List (Judges (Unit {0}))) (at : Place)
        → Follows p q num → Follows k r more → Follows c t most → Follows (rule_of.each body) v end
        → Follows (rule_of.for_each x p name k c body at) (q & (r & ((t & v) & next_note))) (λ y. num y.0 ++ (more y.1.0 ++ (most y.1.1.0.0 ++ end y.1.1.0.1)))
    unfolding rule_of.for_each
    for_each name body at a b c d = both a (λ o. both b (λ k.
        closed (inside (before (declaring name (rule_of.for_each_known (iterators.item_type o) k) at) (λ u. both c (λ w. after (block body d) (λ z. given w))))) (λ w. each_settled o k w at)))
