-- What each rule keeps, over what its parts keep.
use Rattle.std.proofs.Common.{◌≡◌, refl, sym, subst, ℕ, Bool, true, false, List, [], ◌∷◌, ◌++◌, Option, Some, None}
use Rattle.std.proofs.lemmas.Bool.{false≢true}
use Rattle.std.specs.Prelude.{is_some, not, ◌||◌}
use Rattle.std.specs.List.{list_any}
use Rattle.qvt_base.specs.declared.numbers.ExprNo.{ExprNo}
use Rattle.qvt_base.specs.declared.numbers.Place.{Place}
use Rattle.qvt_tree_types.specs.declared.types.PathTree.{PathTree}
use Rattle.qvt_tree_types.specs.declared.words.BinaryOp.{BinaryOp}
use Rattle.qvt_tree_types.specs.declared.words.CollKind.{CollKind}
use Rattle.qvt_tree_types.specs.declared.words.Sign.{Sign}
use Rattle.qvt_types_data.specs.Notes.{plain}
use Rattle.qvt_types_data.specs.declared.note.Reading.TheVariants as reading
use Rattle.qvt_types_data.specs.declared.refusal.RefusalKind.{RefusalKind}
use Rattle.qvt_types_data.specs.declared.refusal.RefusalKind.TheVariants as refusal
use Rattle.qvt_types_data.specs.declared.ruling.Read.{Read}
use Rattle.qvt_types_data.specs.declared.ruling.Ruling.{Ruling}
use Rattle.qvt_types_data.specs.declared.ty.Ty.{Ty}
use Rattle.qvt_types_paths.specs.Paths.{path_type, path_class, element_no}
use Rattle.qvt_types_states.specs.Judge.{Judges, checked, settled, answers, marks}
use Rattle.qvt_types_steps.specs.Calls.{dot_call}
use Rattle.qvt_types_steps.specs.Classes as classes
use Rattle.qvt_types_steps.specs.Iterators as iterators
use Rattle.qvt_types_steps.specs.Properties.{property}
use Rattle.qvt_types_steps.specs.declared.classes.ClassPart.{ClassPart}
use Rattle.qvt_types_steps.specs.declared.classes.ClassPart.TheVariants as part
use Rattle.qvt_types_steps.specs.declared.classes.ClassTest.{ClassTest}
use Rattle.qvt_types_steps.specs.declared.classes.ModelCall.{ModelCall}
use Rattle.qvt_types_steps.specs.declared.classes.ModelCall.TheVariants as model_call
use Rattle.qvt_types_words.specs.Rulings as ruling
use Rattle.qvt_typing.specs.Calls as calls
use Rattle.qvt_typing.specs.Context.{TypingContext, unless_untyped}
use Rattle.qvt_typing.specs.Names as names
use Rattle.qvt_typing.specs.Rules as rule
use Rattle.qvt_typing.specs.Statements.{has_type}
use Rattle.qvt_typing.specs.declared.parts.Effect.{Effect}
use Rattle.qvt_typing.specs.declared.parts.Effect.TheVariants.{PlainOne, ImpureOne}
use Rattle.qvt_typing.specs.declared.parts.Given.{Given}
use Rattle.qvt_typed_laws.proofs.Contexts.{TypedContext}
use Rattle.qvt_typed_laws.proofs.Every.{Every, none, first, others, every_last, every_none}
use Rattle.qvt_typed_laws.proofs.Keeps.{SomeTy, Anything, Keeps, weak, with, next, given, numbered, looked, checking, either, Settles, settling, is_read, answering, marking, blank}
use Rattle.qvt_typed_laws.proofs.Rulings as rulings
use Rattle.qvt_typed_laws.proofs.Rulings.{Readable, readable_read, or_first, IsClass, class_there, class_typed}
use Rattle.qvt_typed_laws.proofs.Solid as solid
use Rattle.qvt_typed_laws.proofs.Solid.{Solid, Typed, solid_read}

-- Parts of rules.

pub settled_solid : {P : Type 0} (w : Ruling) (at : Place) → (P → Solid w) → Keeps P (λ r. SomeTy r.answer) (settled w at)
settled_solid w at f = with (settling w at) (λ r h s. subst (λ (r : Read). SomeTy r.answer) (sym s.read) (solid_read w (f h) s.untold))

pub settled_readable : {P : Type 0} (w : Ruling) (at : Place) → (P → Readable w) → Keeps P (λ r. is_read r ≡ true) (settled w at)
settled_readable w at f = with (settling w at) (λ r h s. subst (λ (r : Read). is_read r ≡ true) (sym s.read) (readable_read w (f h) s.untold))

pub checked_any : {P : Type 0} (o : Option RefusalKind) (at : Place) → Keeps P Anything (checked o at)
checked_any o at = with (checking o at) (λ u h e. tt)

pub answered : {P : Type 0} (n : ExprNo) (r : Read) → (P → SomeTy r.answer) → Keeps P SomeTy (answers n r)
answered n r f = with (answering n r (λ h. or_first _ _ (f h))) (λ o h e. subst SomeTy (sym e) (f h))

pub marked_some : {P : Type 0} (r : Read) → (P → SomeTy r.answer) → Keeps P SomeTy (marks r)
marked_some r f = with (marking r) (λ o h e. subst SomeTy (sym e) (f h))

pub marked_any : {P : Type 0} (r : Read) → Keeps P Anything (marks r)
marked_any r = with (marking r) (λ o h e. tt)

pub effect : {P : Type 0} (x : TypingContext) (e : Effect) (r : Read) (at : Place) → Keeps P Anything (rule.effect_told x e r at)
effect x e r at = either (is_some r.answer) (next (checked_any (calls.not_pure x e) at) (λ u. checked_any (calls.not_plain x e) at)) (given tt (λ h. tt))

pub ruled : {P : Type 0} (x : TypingContext) (n : ExprNo) (w : Ruling) (e : Effect) (at : Place) → (P → Solid w) → Keeps P SomeTy (rule.ruled x n w e at)
ruled x n w e at f = next (settled_solid w at f) (λ r. next (effect x e r at) (λ u. answered n r (λ h. h.0.1)))

pub ruled_readable : {P : Type 0} (x : TypingContext) (n : ExprNo) (w : Ruling) (e : Effect) (at : Place) → (P → Readable w) → Keeps P Anything (rule.ruled x n w e at)
ruled_readable x n w e at f = next (settled_readable w at f) (λ r. next (effect x e r at) (λ u. with (answering n r (λ h. h.0.1)) (λ o h e. tt)))

pub stepped : {P : Type 0} (x : TypingContext) (w : Ruling) (e : Effect) (at : Place) → (P → Solid w) → Keeps P SomeTy (rule.stepped x w e at)
stepped x w e at f = next (settled_solid w at f) (λ r. next (effect x e r at) (λ u. marked_some r (λ h. h.0.1)))

pub settled_bare : {P : Type 0} (w : Ruling) (at : Place) → (P → Solid w) → Keeps P SomeTy (rule.settled_bare w at)
settled_bare w at f = next (settled_solid w at f) (λ r. next blank (λ u. given r.answer (λ h. h.0.1)))

pub stands_as : {P : Type 0} (n : ExprNo) (o : Option Ty) → (P → SomeTy o) → Keeps P SomeTy (rule.stands_as n o)
stands_as n o f = answered n (plain reading.Nothing o) f

-- Lists of parts.

all : {P A : Type 0} {Q : A → Type 0} (done : List A) (ps : List (Judges A)) → Every (Keeps P Q) ps → Keeps (P × Every Q done) (Every Q) (rule.all done ps)
all done [] k = given done (λ h. h.1)
all {Q = Q} done (p ∷ ps) k = next (weak (λ h. h.0) (first k)) (λ a. weak (λ h. (h.0.0, every_last Q done a h.0.1 h.1)) (all (done ++ a ∷ []) ps (others k)))

pub in_order : {P A : Type 0} {Q : A → Type 0} {ps : List (Judges A)} → Every (Keeps P Q) ps → Keeps P (Every Q) (rule.in_order ps)
in_order {ps = ps} k = weak (λ h. (h, none)) (all [] ps k)

-- each on the type of what is before it
abbrev pub Behind : Type 0 → (Option Ty → Judges (Option Ty)) → Type 0
Behind P f = (o : Option Ty) → Keeps (P × SomeTy o) SomeTy (f o)

pub beside : {P : Type 0} (o : Option Ty) (fs : List (Option Ty → Judges (Option Ty))) → Every (Behind P) fs → Keeps (P × SomeTy o) SomeTy (rule.beside o fs)
beside o [] k = given o (λ h. h.1)
beside o (f ∷ fs) k = next (first k o) (λ t. weak (λ h. (h.0.0, h.1)) (beside t fs (others k)))

types : (done : List Ty) (os : List (Option Ty)) → Every SomeTy os → is_some (rule.types_from done os) ≡ true
types done [] h = refl
types done (None ∷ os) h = first h
types done (Some t ∷ os) h = types (done ++ t ∷ []) os (others h)

pub all_types : (os : List (Option Ty)) → Every SomeTy os → is_some (rule.all_types os) ≡ true
all_types os h = types [] os h

pub none_untyped : (ps : List ClassPart) → Every Typed ps → list_any classes.is_untyped ps ≡ false
none_untyped ps h = every_none classes.is_untyped ps h

-- What is given, or is not.

abbrev pub HasType : Given → Type 0
HasType k = has_type k ≡ true

pub not_given : {P : Type 0} → Keeps P HasType rule.not_given
not_given = given (record { is_given = false; ty = None }) (λ h. refl)

pub is_written : {P : Type 0} {p : Judges (Option Ty)} → Keeps P SomeTy p → Keeps P HasType (rule.is_written p)
is_written k = next k (λ o. given (record { is_given = true; ty = o }) (λ h. h.1))

chosen_type : (b : Bool) (k i : Option Ty) → (not b || is_some k) ≡ true → SomeTy i → SomeTy (iterators.iterator_type b k i)
chosen_type true k i h j = h
chosen_type false k i h j = j

pub known_some : (k : Given) (items : Option Ty) → HasType k → SomeTy items → SomeTy (iterators.iterator_type k.is_given k.ty items)
known_some k items h j = chosen_type k.is_given k.ty items h j

-- the item of a collection literal that is no range
pub single : {P : Type 0} {p : Judges (Option Ty)} → Keeps P SomeTy p → Keeps P SomeTy (rule.single p)
single a = next a (λ o. next blank (λ u. given o (λ h. h.0.1)))

-- Types and classes, as they are written.

pub constant : {P : Type 0} (t : Ty) → Keeps P SomeTy (rule.constant t)
constant t = next numbered (λ n. answered n (plain reading.Nothing (Some t)) (λ h. refl))

pub named_type : {P : Type 0} (x : TypingContext) (p : PathTree) → Keeps P SomeTy (rule.named_type x p)
unfolding rule.named_type
named_type x p = next (settled_solid (names.type_ruled (path_type x.heads.given x.heads.types p.names)) p.place (λ h. rulings.type_solid (path_type x.heads.given x.heads.types p.names))) (λ r. marked_some r (λ h. h.1))

coll_some : (k : CollKind) (o : Option Ty) → SomeTy o → SomeTy (rule.coll_of k o).answer
coll_some k None h = h
coll_some k (Some t) h = refl

pub collection_type : {P : Type 0} (k : CollKind) {p : Judges (Option Ty)} → Keeps P SomeTy p → Keeps P SomeTy (rule.collection_type k p)
collection_type k a = next a (λ o. marked_some (rule.coll_of k o) (λ h. coll_some k o h.1))

pub named_class : {P : Type 0} (x : TypingContext) (p : PathTree) → Keeps P IsClass (rule.named_class x p)
unfolding rule.named_class
named_class x p = next (settling (names.class_ruled (path_class x.heads.given x.heads.types p.names)) p.place) (λ r. next (marking r) (λ o. given (names.class_found (path_class x.heads.given x.heads.types p.names)) (λ h. class_there (path_class x.heads.given x.heads.types p.names) h.0.1.untold)))

pub class_given : {P : Type 0} (x : TypingContext) (p : PathTree) → Keeps P IsClass (rule.class_given x p)
unfolding rule.class_given
class_given x p = next numbered (λ n. next (settling (names.class_ruled (path_class x.heads.given x.heads.types p.names)) p.place) (λ r. next (answered n r (λ h. settled_some (names.class_ruled (path_class x.heads.given x.heads.types p.names)) r h.1 (rulings.class_solid (path_class x.heads.given x.heads.types p.names)))) (λ o. given (names.class_found (path_class x.heads.given x.heads.types p.names)) (λ h. class_there (path_class x.heads.given x.heads.types p.names) h.0.1.untold))))
  where
    settled_some : (w : Ruling) (r : Read) → Settles w r → Solid w → SomeTy r.answer
    settled_some w r s k = subst (λ (r : Read). SomeTy r.answer) (sym s.read) (solid_read w k s.untold)

-- a collection is no class
not_class : (o : Option Ty) → SomeTy o → rule.no_class_told o ≡ None → ⊥
not_class None h e = false≢true h
not_class (Some t) h e = cc

pub no_class : {P : Type 0} {p : Judges (Option Ty)} (at : Place) → Keeps P SomeTy p → Keeps P IsClass (rule.no_class p at)
no_class at a = next a (λ o. next (checking (rule.no_class_told o) at) (λ u. given part.Untyped (λ h. absurd (not_class o h.0.1 h.1))))

path_missing : (o : Option Ty) → SomeTy o → Typed (rule.no_path o)
path_missing None h = absurd (false≢true h)
path_missing (Some t) h = refl

pub class_argument : {P : Type 0} (x : TypingContext) (o : Option PathTree) {p : Judges (Option Ty)} → Keeps P SomeTy p → Keeps P Typed (rule.class_argument x o p)
class_argument x None a = next a (λ o. given (rule.no_path o) (λ h. path_missing o h.1))
class_argument x (Some path) a = with (class_given x path) (λ c h k. class_typed c k)

module _ {P : Type 0} (x : TypingContext) (tx : P → TypedContext x) where
  -- Names, `self` and `result`.

  pub self_ref : (at : Place) → Keeps P SomeTy (rule.self_ref x at)
  unfolding rule.self_ref
  self_ref at = next numbered (λ n. ruled x n (names.self_ruled x.self) PlainOne at (λ h. rulings.held_solid names.self_name refusal.UnknownName x.self (tx h.0).self))

  pub result_ref : (at : Place) → Keeps P SomeTy (rule.result_ref x at)
  unfolding rule.result_ref
  result_ref at = next numbered (λ n. ruled x n (names.result_ruled x.result) PlainOne at (λ h. rulings.held_solid names.result_name refusal.ResultPlace x.result (tx h.0).result))

  pub path : (p : PathTree) → Keeps P SomeTy (rule.path x false p)
  unfolding rule.path
  path p = next numbered (λ n. next looked (λ s. ruled x n (names.path_ruled x.heads false s p.names) PlainOne p.place (λ h. rulings.path_solid x.heads (tx h.0.0).heads s p.names h.1)))

  -- the source of a model's operation
  pub model_path : (p : PathTree) → Keeps P Anything (rule.path x true p)
  unfolding rule.path
  model_path p = next numbered (λ n. next looked (λ s. ruled_readable x n (names.path_ruled x.heads true s p.names) PlainOne p.place (λ h. rulings.path_readable x.heads (tx h.0.0).heads s p.names h.1)))

  -- Operators, conditionals, collection literals.

  pub conditional : {p q r : Judges (Option Ty)} (at : Place) → Keeps P SomeTy p → Keeps P SomeTy q → Keeps P SomeTy r → Keeps P SomeTy (rule.conditional x p q r at)
  unfolding rule.conditional
  conditional at a b c = next numbered (λ n. next (weak (λ h. h.0) a) (λ u. next (weak (λ h. h.0.0) b) (λ y. next (weak (λ h. h.0.0.0) c) (λ z.
      ruled x n (ruling.conditional x.heads.metas u y z) PlainOne at (λ h. solid.conditional x.heads.metas u y z h.0.0.1 h.0.1 h.1)))))

  pub link : (op : BinaryOp) {p : Judges (Option Ty)} (at : Place) → Keeps P SomeTy p → Behind P (rule.link x op p at)
  unfolding rule.link
  link op at a o = next (weak (λ h. h.0) a) (λ t. settled_bare (ruling.operator x.heads.metas op o t) at (λ h. solid.operator x.heads.metas op o t h.0.1 h.1))

  pub chain : {p : Judges (Option Ty)} {fs : List (Option Ty → Judges (Option Ty))} → Keeps P SomeTy p → Every (Behind P) fs → Keeps P SomeTy (rule.chain x p fs)
  unfolding rule.chain
  chain {fs = fs} a b = next numbered (λ n. next (weak (λ h. h.0) a) (λ o. next (weak (λ h. (h.0.0, h.1)) (beside o fs b)) (λ t. stands_as n t (λ h. h.1))))

  sign_notes : {P : Type 0} (ss : List Sign) → Keeps P Anything (rule.sign_notes ss)
  sign_notes [] = given tt (λ h. tt)
  sign_notes (s ∷ ss) = next blank (λ u. sign_notes ss)

  sign : (s : Sign) → Behind P (rule.sign x s)
  sign s o = next (settled_solid (ruling.prefixed x.heads.metas s.op o) s.place (λ h. solid.prefixed x.heads.metas s.op o h.1)) (λ r. given r.answer (λ h. h.1))

  signed : (ss : List Sign) → Behind P (rule.signed x ss)
  signed [] o = given o (λ h. h.1)
  signed (s ∷ ss) o = next (signed ss o) (λ t. weak (λ h. (h.0.0, h.1)) (sign s t))

  pub prefix : (ss : List Sign) {p : Judges (Option Ty)} → Keeps P SomeTy p → Keeps P SomeTy (rule.prefix x ss p)
  unfolding rule.prefix
  prefix ss a = next numbered (λ n. next (sign_notes ss) (λ u. next (weak (λ h. h.0.0) a) (λ o. next (weak (λ h. (h.0.0.0, h.1)) (signed ss o)) (λ t. stands_as n t (λ h. h.1)))))

  pub range : {p q : Judges (Option Ty)} (sign : Place) → Keeps P SomeTy p → Keeps P SomeTy q → Keeps P SomeTy (rule.range x p q sign)
  unfolding rule.range
  range sign a b = next a (λ u. next (weak (λ h. h.0) b) (λ v. next (settled_bare (ruling.range x.heads.metas u v) sign (λ h. solid.range x.heads.metas u v h.0.1 h.1)) (λ t. next blank (λ n. given t (λ h. h.0.1)))))

  pub literal : (k : CollKind) {ps : List (Judges (Option Ty))} (at : Place) → Every (Keeps P SomeTy) ps → Keeps P SomeTy (rule.literal x k ps at)
  unfolding rule.literal
  literal k at a = next numbered (λ n. next (weak (λ h. h.0) (in_order a)) (λ os. ruled x n (ruling.literal x.heads.metas k (rule.all_types os)) PlainOne at (λ h. solid.literal x.heads.metas k (rule.all_types os) (all_types os h.1))))

  -- Steps.

  pub post : {p : Judges (Option Ty)} {fs : List (Option Ty → Judges (Option Ty))} → Keeps P SomeTy p → Every (Behind P) fs → Keeps P SomeTy (rule.post x p fs)
  unfolding rule.post
  post {fs = fs} a b = next numbered (λ n. next (weak (λ h. h.0) a) (λ o. next (weak (λ h. (h.0.0, h.1)) (beside o fs b)) (λ t. stands_as n t (λ h. h.1))))

  -- on a model, of which the first step asks nothing
  pub model_post : {p : Judges (Option Ty)} {f : Option Ty → Judges (Option Ty)} {fs : List (Option Ty → Judges (Option Ty))} → Keeps P Anything p → ((o : Option Ty) → Keeps P SomeTy (f o)) → Every (Behind P) fs → Keeps P SomeTy (rule.post x p (f ∷ fs))
  unfolding rule.post
  model_post {fs = fs} a b c = next numbered (λ n. next (weak (λ h. h.0) a) (λ o.
      next (next (weak (λ h. h.0.0) (b o)) (λ t. weak (λ h. (h.0.0.0, h.1)) (beside t fs c))) (λ t. stands_as n t (λ h. h.1))))

  pub property_step : (name : List ℕ) (at : Place) → Behind P (rule.property_step x name at)
  unfolding rule.property_step
  property_step name at o = stepped x (unless_untyped x.heads (property x.heads.metas name o)) PlainOne at (λ h. rulings.unless_solid x.heads (tx h.0).heads (property x.heads.metas name o) (solid.property_step x.heads.metas name o h.1))

  test_step : (name : List ℕ) (t : ClassTest) {args : List (Judges ClassPart)} (at : Place) → Every (Keeps P Typed) args → Behind P (rule.test_step x name t args at)
  unfolding rule.test_step
  test_step name t at a o = next (weak (λ h. h.0) (in_order a)) (λ ps. stepped x (classes.class_test name t o ps) PlainOne at (λ h. solid.test name t o ps h.0.1 (none_untyped ps h.1)))

  call_step : (name : List ℕ) {args : List (Judges (Option Ty))} (at : Place) → Every (Keeps P SomeTy) args → Behind P (rule.call_step x name args at)
  unfolding rule.call_step
  call_step name at a o = next (weak (λ h. h.0) (in_order a)) (λ os. either (rule.reads_operation name o)
      (stepped x (dot_call x.heads.metas name o (rule.all_types os)) PlainOne at (λ h. solid.dot x.heads.metas name o (rule.all_types os) h.0.1 (all_types os h.1)))
      (stepped x (calls.unit_ruled x.heads o (calls.called_behind x.heads false false name o) (rule.all_types os)) (calls.effect_of x.heads (calls.called_behind x.heads false false name o)) at (λ h. rulings.unit_solid x.heads (tx h.0.0).heads o (calls.called_behind x.heads false false name o) (rule.all_types os) h.0.1 (rulings.behind_typed x.heads (tx h.0.0).heads false false name o h.0.1) (all_types os h.1))))

  called_with : (t : Option ClassTest) (name : List ℕ) {args : List (Judges (Option Ty))} {cs : List (Judges ClassPart)} (at : Place) → Every (Keeps P SomeTy) args → Every (Keeps P Typed) cs → Behind P (rule.called_with x t name args cs at)
  called_with None name at a b o = call_step name at a o
  called_with (Some t) name at a b o = test_step name t at b o

  model_step : (name : List ℕ) {args : List (Judges (Option Ty))} (at : Place) → Every (Keeps P SomeTy) args → Keeps P SomeTy (rule.model_step x name args at)
  unfolding rule.model_step
  model_step name at a = next (in_order a) (λ os. stepped x (classes.model_objects name (element_no x.heads.types) (rule.all_types os)) PlainOne at (λ h. solid.model_objects name (element_no x.heads.types) (rule.all_types os) (all_types os h.1)))

  typed_model_step : (name : List ℕ) {cs : List (Judges ClassPart)} (at : Place) → Every (Keeps P Typed) cs → Keeps P SomeTy (rule.typed_model_step x name cs at)
  unfolding rule.typed_model_step
  typed_model_step name at a = next (in_order a) (λ ps. stepped x (classes.model_objects_of name ps) PlainOne at (λ h. solid.model_objects_of name ps (none_untyped ps h.1)))

  model_called_with : (m : Option ModelCall) (name : List ℕ) {args : List (Judges (Option Ty))} {cs : List (Judges ClassPart)} (at : Place) → Every (Keeps P SomeTy) args → Every (Keeps P Typed) cs → Keeps P SomeTy (rule.model_called_with x m name args cs at)
  model_called_with (Some model_call.ObjectsOfType) name at a b = typed_model_step name at b
  model_called_with m name at a b = model_step name at a

  pub called : (name : List ℕ) {args : List (Judges (Option Ty))} {cs : List (Judges ClassPart)} (at : Place) → Every (Keeps P SomeTy) args → Every (Keeps P Typed) cs → Behind P (rule.called x false name args cs at)
  called name at a b o = called_with (classes.class_test_named name) name at a b o

  pub model_called : (name : List ℕ) {args : List (Judges (Option Ty))} {cs : List (Judges ClassPart)} (at : Place) → Every (Keeps P SomeTy) args → Every (Keeps P Typed) cs → (o : Option Ty) → Keeps P SomeTy (rule.called x true name args cs at o)
  model_called name at a b o = model_called_with (classes.model_call_named name) name at a b

  -- Calls of units.

  pub call : (name : List ℕ) {args : List (Judges (Option Ty))} (at : Place) → Every (Keeps P SomeTy) args → Keeps P SomeTy (rule.call x name args at)
  unfolding rule.call
  call name at a = next numbered (λ n. next (weak (λ h. h.0) (in_order a)) (λ os. next looked (λ s.
      ruled x n (calls.call_ruled x.heads false (calls.called_alone x.heads false name s.sources) (rule.all_types os)) (calls.effect_of x.heads (calls.called_alone x.heads false name s.sources)) at (λ h. rulings.call_solid x.heads (tx h.0.0.0).heads false (calls.called_alone x.heads false name s.sources) (rule.all_types os) (rulings.alone_typed x.heads (tx h.0.0.0).heads false name s.sources h.1.sources) (all_types os h.0.1)))))

  pub map : (name : List ℕ) {args : List (Judges (Option Ty))} (at : Place) → Every (Keeps P SomeTy) args → Keeps P SomeTy (rule.map x name args at)
  unfolding rule.map
  map name at a = next numbered (λ n. next (weak (λ h. h.0) (in_order a)) (λ os. next looked (λ s.
      ruled x n (calls.call_ruled x.heads true (calls.called_alone x.heads true name s.sources) (rule.all_types os)) ImpureOne at (λ h. rulings.call_solid x.heads (tx h.0.0.0).heads true (calls.called_alone x.heads true name s.sources) (rule.all_types os) (rulings.alone_typed x.heads (tx h.0.0.0).heads true name s.sources h.1.sources) (all_types os h.0.1)))))

  pub map_step : (arrow : Bool) (name : List ℕ) {args : List (Judges (Option Ty))} (at : Place) → Every (Keeps P SomeTy) args → Behind P (rule.map_step x arrow name args at)
  unfolding rule.map_step
  map_step arrow name at a o = next (weak (λ h. h.0) (in_order a)) (λ os.
      stepped x (calls.map_ruled x.heads arrow o (calls.called_behind x.heads true arrow name o) (rule.all_types os)) ImpureOne at (λ h. rulings.map_solid x.heads (tx h.0.0).heads arrow o (calls.called_behind x.heads true arrow name o) (rule.all_types os) h.0.1 (rulings.behind_typed x.heads (tx h.0.0).heads true arrow name o h.0.1) (all_types os h.1)))
