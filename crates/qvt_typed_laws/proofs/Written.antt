-- What each rule writes, over what its parts write: the notes of its parts, and then its own.
use Rattle.qvt_base.specs.declared.numbers.ExprNo.{ExprNo}
use Rattle.qvt_base.specs.declared.numbers.Place.{Place}
use Rattle.qvt_tree_types.specs.declared.types.PathTree.{PathTree}
use Rattle.qvt_tree_types.specs.declared.words.BinaryOp.{BinaryOp}
use Rattle.qvt_tree_types.specs.declared.words.CollKind.{CollKind}
use Rattle.qvt_tree_types.specs.declared.words.Sign.{Sign}
use Rattle.qvt_typed_laws.proofs.Follows.{◌&◌, Quiet, Marks, Answers, Follows, quietly, given, looked, checking, either, settling, blank, marking, answering, before_mark, after_mark, before_answer, after_answer, no_number, nothing, one_mark, both, closed, behind, last, part, numbered, alone, after, made}
use Rattle.qvt_typed_laws.specs.Numbers.{number}
use Rattle.qvt_types_data.specs.Notes.{plain}
use Rattle.qvt_types_data.specs.declared.note.Reading.TheVariants as reading
use Rattle.qvt_types_data.specs.declared.ruling.Read.{Read}
use Rattle.qvt_types_data.specs.declared.ruling.Ruling.{Ruling}
use Rattle.qvt_types_data.specs.declared.ty.Ty.{Ty}
use Rattle.qvt_types_laws.specs.Join.{NoteTaker, next_note, join_signs}
use Rattle.qvt_types_paths.specs.Paths.{path_type, path_class, element_no}
use Rattle.qvt_types_states.specs.Judge.{Judges}
use Rattle.qvt_types_steps.specs.Calls.{dot_call}
use Rattle.qvt_types_steps.specs.Classes as classes
use Rattle.qvt_types_steps.specs.Properties.{property}
use Rattle.qvt_types_steps.specs.declared.classes.ClassPart.TheVariants as part
use Rattle.qvt_types_steps.specs.declared.classes.ClassPart.{ClassPart}
use Rattle.qvt_types_steps.specs.declared.classes.ClassTest.{ClassTest}
use Rattle.qvt_types_steps.specs.declared.classes.ModelCall.TheVariants as model_call
use Rattle.qvt_types_steps.specs.declared.classes.ModelCall.{ModelCall}
use Rattle.qvt_types_words.specs.Rulings as ruling
use Rattle.qvt_typing.specs.Calls as calls
use Rattle.qvt_typing.specs.Context.{TypingContext, unless_untyped}
use Rattle.qvt_typing.specs.Names as names
use Rattle.qvt_typing.specs.Rules as rule
use Rattle.qvt_typing.specs.declared.parts.Effect.TheVariants.{PlainOne, ImpureOne}
use Rattle.qvt_typing.specs.declared.parts.Effect.{Effect}
use Rattle.std.proofs.Common.{refl, ℕ, Bool, true, false, List, [], ◌∷◌, ◌++◌, Option, Some, None}
use Rattle.std.specs.Prelude.{is_some, if◌then◌else◌}

module _ (x : TypingContext) where
  pub effect : (e : Effect) (r : Read) (at : Place) → Quiet (rule.effect_told x e r at)
  effect e r at = either (is_some r.answer) (quietly (checking (calls.not_pure x e) at) (λ u. checking (calls.not_plain x e) at)) (given tt)

  pub ruled : (n : ExprNo) (w : Ruling) (e : Effect) (at : Place) → Answers n (rule.ruled x n w e at)
  ruled n w e at = before_answer (settling w at) (λ r. before_answer (effect e r at) (λ u. answering n r))

  pub stepped : (w : Ruling) (e : Effect) (at : Place) → Marks (rule.stepped x w e at)
  stepped w e at = before_mark (settling w at) (λ r. before_mark (effect e r at) (λ u. marking r))

either_mark : {A : Type 0} {a b : Judges A} (c : Bool) → Marks a → Marks b → Marks (if c then a else b)
either_mark true a b = a
either_mark false a b = b

pub settled_bare : (w : Ruling) (at : Place) → Marks (rule.settled_bare w at)
settled_bare w at = before_mark (settling w at) (λ r. after_mark blank (λ u. given r.answer))

pub stands_as : (n : ExprNo) (o : Option Ty) → Answers n (rule.stands_as n o)
stands_as n o = answering n (plain reading.Nothing o)

pub is_written : {B : Type 0} {num : B → List ℕ} {p : Judges (Option Ty)} {q : NoteTaker B} → Follows p q num → Follows (rule.is_written p) q num
is_written a = after a (λ o. given (record { is_given = true; ty = o }))

-- Types and classes.

pub constant : (t : Ty) → Follows (rule.constant t) next_note number
constant t = alone (λ n. answering n (plain reading.Nothing (Some t)))

pub named_type : (x : TypingContext) (p : PathTree) → Marks (rule.named_type x p)
unfolding rule.named_type
named_type x p = before_mark (settling (names.type_ruled (path_type x.heads.given x.heads.types p.names)) p.place) (λ r. marking r)

pub collection_type : {B : Type 0} {num : B → List ℕ} (k : CollKind) {p : Judges (Option Ty)} {q : NoteTaker B} → Follows p q num → Follows (rule.collection_type k p) (q & next_note) (λ b. num b.0)
collection_type k a = closed a (λ o. marking (rule.coll_of k o))

pub named_class : (x : TypingContext) (p : PathTree) → Marks (rule.named_class x p)
unfolding rule.named_class
named_class x p = before_mark (settling (names.class_ruled (path_class x.heads.given x.heads.types p.names)) p.place) (λ r. after_mark (marking r) (λ o. given (names.class_found (path_class x.heads.given x.heads.types p.names))))

pub class_given : (x : TypingContext) (p : PathTree) → Follows (rule.class_given x p) next_note number
unfolding rule.class_given
class_given x p = alone (λ n. before_answer (settling (names.class_ruled (path_class x.heads.given x.heads.types p.names)) p.place) (λ r. after_answer (answering n r) (λ o. given (names.class_found (path_class x.heads.given x.heads.types p.names)))))

pub no_class : {B : Type 0} {num : B → List ℕ} {p : Judges (Option Ty)} {q : NoteTaker B} (at : Place) → Follows p q num → Follows (rule.no_class p at) q num
no_class at a = after a (λ o. quietly (checking (rule.no_class_told o) at) (λ u. given part.Untyped))

pub class_missing : {B : Type 0} {num : B → List ℕ} {p : Judges (Option Ty)} {q : NoteTaker B} → Follows p q num → Follows (rule.class_missing p) q num
class_missing a = after a (λ o. given (rule.no_path o))

pub sign_notes : (ss : List Sign) → Follows (rule.sign_notes ss) (join_signs ss) no_number
sign_notes [] = nothing [] refl (given tt)
sign_notes (s ∷ ss) = made no_number (both (one_mark blank) (λ u. sign_notes ss)) (λ b. record { op = s.op; place = s.place; note = b.0 } ∷ b.1) (λ b. refl)

module _ (x : TypingContext) where
  pub self_ref : (at : Place) → Follows (rule.self_ref x at) next_note number
  unfolding rule.self_ref
  self_ref at = alone (λ n. ruled x n (names.self_ruled x.self) PlainOne at)

  pub result_ref : (at : Place) → Follows (rule.result_ref x at) next_note number
  unfolding rule.result_ref
  result_ref at = alone (λ n. ruled x n (names.result_ruled x.result) PlainOne at)

  pub path : (is_source : Bool) (p : PathTree) → Follows (rule.path x is_source p) next_note number
  unfolding rule.path
  path is_source p = alone (λ n. before_answer looked (λ s. ruled x n (names.path_ruled x.heads is_source s p.names) PlainOne p.place))

  sign : (s : Sign) (o : Option Ty) → Quiet (rule.sign x s o)
  sign s o = quietly (settling (ruling.prefixed x.heads.metas s.op o) s.place) (λ r. given r.answer)

  signed : (ss : List Sign) (o : Option Ty) → Quiet (rule.signed x ss o)
  signed [] o = given o
  signed (s ∷ ss) o = quietly (signed ss o) (λ t. sign s t)

  pub property_step : (name : List ℕ) (at : Place) (o : Option Ty) → Marks (rule.property_step x name at o)
  unfolding rule.property_step
  property_step name at o = stepped x (unless_untyped x.heads (property x.heads.metas name o)) PlainOne at

  module _ {B C D : Type 0} {num : B → List ℕ} {more : C → List ℕ} {most : D → List ℕ} {q : NoteTaker B} {r : NoteTaker C} {t : NoteTaker D} where
    pub conditional : {a b c : Judges (Option Ty)} (at : Place) → Follows a q num → Follows b r more → Follows c t most → Follows (rule.conditional x a b c at) (q & (r & (t & next_note))) (λ y. number y.1.1.1 ++ (num y.0 ++ (more y.1.0 ++ most y.1.1.0)))
    unfolding rule.conditional
    conditional at a b c = numbered (λ n. part a (λ u. part b (λ v. last c (λ w. ruled x n (ruling.conditional x.heads.metas u v w) PlainOne at))))

  module _ {B C : Type 0} {num : B → List ℕ} {more : C → List ℕ} {q : NoteTaker B} {r : NoteTaker C} where
    pub chain : {a : Judges (Option Ty)} (fs : List (Option Ty → Judges (Option Ty))) → Follows a q num → ((o : Option Ty) → Follows (rule.beside o fs) r more) → Follows (rule.chain x a fs) (q & (r & next_note)) (λ y. number y.1.1 ++ (num y.0 ++ more y.1.0))
    unfolding rule.chain
    chain fs a b = numbered (λ n. part a (λ o. last (b o) (λ t. stands_as n t)))

    pub post : {a : Judges (Option Ty)} (fs : List (Option Ty → Judges (Option Ty))) → Follows a q num → ((o : Option Ty) → Follows (rule.beside o fs) r more) → Follows (rule.post x a fs) (q & (r & next_note)) (λ y. number y.1.1 ++ (num y.0 ++ more y.1.0))
    unfolding rule.post
    post fs a b = numbered (λ n. part a (λ o. last (b o) (λ t. stands_as n t)))

    -- both ends, and the note of the `..`
    pub range : {a b : Judges (Option Ty)} (at : Place) → Follows a q num → Follows b r more → Follows (rule.range x a b at) (q & (r & next_note) & next_note) (λ y. num y.0.0 ++ more y.0.1.0)
    unfolding rule.range
    range at a b = closed (both a (λ u. closed b (λ v. settled_bare (ruling.range x.heads.metas u v) at))) (λ t. after_mark blank (λ u. given t))

  module _ {B : Type 0} {num : B → List ℕ} {q : NoteTaker B} where
    pub link : (op : BinaryOp) {a : Judges (Option Ty)} (at : Place) → Follows a q num → (o : Option Ty) → Follows (rule.link x op a at o) (q & next_note) (λ y. num y.0)
    unfolding rule.link
    link op at a o = closed a (λ t. settled_bare (ruling.operator x.heads.metas op o t) at)

    pub prefix : (ss : List Sign) {a : Judges (Option Ty)} → Follows a q num → Follows (rule.prefix x ss a) (join_signs ss & (q & next_note)) (λ y. number y.1.1 ++ num y.1.0)
    unfolding rule.prefix
    prefix ss a = numbered (λ n. part (sign_notes ss) (λ u. last a (λ o. before_answer (signed ss o) (λ t. stands_as n t))))

    pub single : {a : Judges (Option Ty)} → Follows a q num → Follows (rule.single a) (q & next_note) (λ y. num y.0)
    single a = closed a (λ o. after_mark blank (λ u. given o))

    pub literal : (k : CollKind) (ps : List (Judges (Option Ty))) (at : Place) → Follows (rule.all [] ps) q num → Follows (rule.literal x k ps at) (q & next_note) (λ y. number y.1 ++ num y.0)
    unfolding rule.literal
    literal k ps at a = numbered (λ n. last a (λ os. ruled x n (ruling.literal x.heads.metas k (rule.all_types os)) PlainOne at))

    -- Steps.

    test_step : (name : List ℕ) (t : ClassTest) (cs : List (Judges ClassPart)) (at : Place) → Follows (rule.all [] cs) q num → (o : Option Ty) → Follows (rule.test_step x name t cs at o) (q & next_note) (λ y. num y.0)
    unfolding rule.test_step
    test_step name t cs at a o = closed a (λ ps. stepped x (classes.class_test name t o ps) PlainOne at)

    call_step : (name : List ℕ) (args : List (Judges (Option Ty))) (at : Place) → Follows (rule.all [] args) q num → (o : Option Ty) → Follows (rule.call_step x name args at o) (q & next_note) (λ y. num y.0)
    unfolding rule.call_step
    call_step name args at a o = closed a (λ os. either_mark (rule.reads_operation name o) (stepped x (dot_call x.heads.metas name o (rule.all_types os)) PlainOne at)
        (stepped x (calls.unit_ruled x.heads o (calls.called_behind x.heads false false name o) (rule.all_types os)) (calls.effect_of x.heads (calls.called_behind x.heads false false name o)) at))

    called_with : (t : Option ClassTest) (name : List ℕ) (args : List (Judges (Option Ty))) (cs : List (Judges ClassPart)) (at : Place) → Follows (rule.all [] args) q num → Follows (rule.all [] cs) q num → (o : Option Ty) → Follows (rule.called_with x t name args cs at o) (q & next_note) (λ y. num y.0)
    called_with None name args cs at a b o = call_step name args at a o
    called_with (Some t) name args cs at a b o = test_step name t cs at b o

    model_step : (name : List ℕ) (args : List (Judges (Option Ty))) (at : Place) → Follows (rule.all [] args) q num → Follows (rule.model_step x name args at) (q & next_note) (λ y. num y.0)
    unfolding rule.model_step
    model_step name args at a = closed a (λ os. stepped x (classes.model_objects name (element_no x.heads.types) (rule.all_types os)) PlainOne at)

    typed_model_step : (name : List ℕ) (cs : List (Judges ClassPart)) (at : Place) → Follows (rule.all [] cs) q num → Follows (rule.typed_model_step x name cs at) (q & next_note) (λ y. num y.0)
    unfolding rule.typed_model_step
    typed_model_step name cs at a = closed a (λ ps. stepped x (classes.model_objects_of name ps) PlainOne at)

    model_called_with : (m : Option ModelCall) (name : List ℕ) (args : List (Judges (Option Ty))) (cs : List (Judges ClassPart)) (at : Place) → Follows (rule.all [] args) q num → Follows (rule.all [] cs) q num → Follows (rule.model_called_with x m name args cs at) (q & next_note) (λ y. num y.0)
    model_called_with (Some model_call.ObjectsOfType) name args cs at a b = typed_model_step name cs at b
    model_called_with m name args cs at a b = model_step name args at a

    pub called : (is_model : Bool) (name : List ℕ) (args : List (Judges (Option Ty))) (cs : List (Judges ClassPart)) (at : Place) → Follows (rule.all [] args) q num → Follows (rule.all [] cs) q num → (o : Option Ty) → Follows (rule.called x is_model name args cs at o) (q & next_note) (λ y. num y.0)
    called true name args cs at a b o = model_called_with (classes.model_call_named name) name args cs at a b
    called false name args cs at a b o = called_with (classes.class_test_named name) name args cs at a b o

    -- Calls of units.

    pub call : (name : List ℕ) (args : List (Judges (Option Ty))) (at : Place) → Follows (rule.all [] args) q num → Follows (rule.call x name args at) (q & next_note) (λ y. number y.1 ++ num y.0)
    unfolding rule.call
    call name args at a = numbered (λ n. last a (λ os. before_answer looked (λ s.
        ruled x n (calls.call_ruled x.heads false (calls.called_alone x.heads false name s.sources) (rule.all_types os)) (calls.effect_of x.heads (calls.called_alone x.heads false name s.sources)) at)))

    pub map : (name : List ℕ) (args : List (Judges (Option Ty))) (at : Place) → Follows (rule.all [] args) q num → Follows (rule.map x name args at) (q & next_note) (λ y. number y.1 ++ num y.0)
    unfolding rule.map
    map name args at a = numbered (λ n. last a (λ os. before_answer looked (λ s.
        ruled x n (calls.call_ruled x.heads true (calls.called_alone x.heads true name s.sources) (rule.all_types os)) ImpureOne at)))

    pub map_step : (arrow : Bool) (name : List ℕ) (args : List (Judges (Option Ty))) (at : Place) → Follows (rule.all [] args) q num → (o : Option Ty) → Follows (rule.map_step x arrow name args at o) (q & next_note) (λ y. number y.1 ++ num y.0)
    unfolding rule.map_step
    map_step arrow name args at a o = behind a (λ os. stepped x (calls.map_ruled x.heads arrow o (calls.called_behind x.heads true arrow name o) (rule.all_types os)) ImpureOne at)
