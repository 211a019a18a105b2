-- What is ruled of names and of calls where heads and scope have types.
use Rattle.std.proofs.Common.{◌≡◌, refl, sym, ℕ, Bool, true, false, List, [], ◌∷◌, Option, Some, None, length}
use Rattle.std.proofs.lemmas.Bool.{false≢true}
use Rattle.std.specs.Prelude.{is_some, if◌then◌else◌, Result, Ok, Err, ◌||◌}
use Rattle.std.specs.Str.{bytes_eq}
use Rattle.qvt_base.specs.declared.numbers.ClassNo.{ClassNo}
use Rattle.qvt_base.specs.declared.numbers.FeatureNo.{FeatureNo}
use Rattle.qvt_metas.specs.Metamodels.{shape_of}
use Rattle.qvt_types_classes.specs.Classes.{is_typed}
use Rattle.qvt_types_data.specs.Notes.{told}
use Rattle.qvt_types_data.specs.Term.{same_type, ty_view}
use Rattle.qvt_types_data.specs.declared.note.Reading.{Reading}
use Rattle.qvt_types_data.specs.declared.note.Reading.TheVariants as reading
use Rattle.qvt_types_data.specs.declared.refusal.RefusalKind.{RefusalKind}
use Rattle.qvt_types_data.specs.declared.refusal.RefusalKind.TheVariants as refusal
use Rattle.qvt_types_data.specs.declared.ruling.Ruling.{Ruling}
use Rattle.qvt_types_data.specs.declared.ruling.Ruling.TheVariants.{Holds, Fails, Silent}
use Rattle.qvt_types_data.specs.declared.ty.Ty.{Ty}
use Rattle.qvt_types_data.specs.declared.ty.Ty.TheVariants as ty
use Rattle.qvt_types_data.specs.declared.variable.Variable.{Variable}
use Rattle.qvt_types_data.specs.declared.variable.VariableSort.{VariableSort}
use Rattle.qvt_types_data.specs.declared.variable.VariableSort.TheVariants as sort
use Rattle.qvt_types_paths.specs.Paths.{path_literal}
use Rattle.qvt_types_names.specs.Names.{is_implicit, property_of, or_property, on_source, by_source, by_sources, model_or}
use Rattle.qvt_types_states.specs.Scopes.{ScopeTerm, found}
use Rattle.qvt_types_states.specs.declared.scope.Known.{Known}
use Rattle.qvt_types_words.specs.Types.{feature_type, innermost}
use Rattle.qvt_types_steps.specs.Calls.{source_of}
use Rattle.qvt_types_steps.specs.UnitCalls.{class_in, static_class, arguments_wrong}
use Rattle.qvt_types_steps.specs.declared.classes.ClassPart.{ClassPart}
use Rattle.qvt_types_steps.specs.declared.classes.ClassPart.TheVariants as part
use Rattle.qvt_types_units.specs.Choice.{is_unknown, is_unsure, context_at, candidates, is_empty, is_ambiguous, chosen, chosen_of, looked_up, called_on}
use Rattle.qvt_types_units.specs.Numbers.{unit_at, group, constructor_of}
use Rattle.qvt_types_units.specs.declared.choice.FoundUnit.{FoundUnit}
use Rattle.qvt_types_units.specs.declared.choice.FoundUnit.TheVariants.{NoUnit, Untyped, Unclear, Chosen}
use Rattle.qvt_types_units.specs.declared.signature.HeadClass.{HeadClass}
use Rattle.qvt_types_units.specs.declared.signature.HeadClass.TheVariants as head
use Rattle.qvt_value.specs.declared.value.LiteralRef.{LiteralRef}
use Rattle.qvt_typing.specs.Calls as calls
use Rattle.qvt_typing.specs.Context.{TypingContext, DeclaredHeads, is_typed_reading, unless_untyped}
use Rattle.qvt_typing.specs.Names as names
use Rattle.qvt_typing.specs.Rules as rule
use Rattle.qvt_typing.specs.declared.parts.Called.{Called}
use Rattle.qvt_typing.specs.declared.parts.ObjectVariable.{ObjectVariable}
use Rattle.qvt_typing.specs.declared.parts.ObjectVariable.TheVariants.{NoVariable, OfType, OfNone}
use Rattle.qvt_typed_laws.specs.Typed.{is_model}
use Rattle.qvt_typed_laws.proofs.Contexts.{TypedHeads}
use Rattle.qvt_typed_laws.proofs.Every.{Every, none, also, first, others, every_none, every_found}
use Rattle.qvt_typed_laws.proofs.Keeps.{SomeTy, TypedName, TypedSource, TypedScope, is_read}
use Rattle.qvt_typed_laws.proofs.Solid.{Solid, Typed, stepped_unit, stepped_mapping, solid_if}

-- what is noted of an expression: a type, or a model
abbrev pub is_readable : Ruling → Bool
is_readable (Holds r) = is_read r
is_readable (Fails k) = true
is_readable Silent = false

abbrev pub Readable : Ruling → Type 0
Readable w = is_readable w ≡ true

pub or_first : (a b : Bool) → a ≡ true → (a || b) ≡ true
or_first true b h = refl
or_first false b h = absurd (false≢true h)

pub readable : (w : Ruling) → Solid w → Readable w
readable (Holds r) h = or_first (is_some r.answer) (is_model r.reading) h
readable (Fails k) h = refl
readable Silent h = h

pub readable_read : (w : Ruling) → Readable w → (told w).0 ≡ None → is_read (told w).1 ≡ true
readable_read (Holds r) h e = h
readable_read (Fails k) h e = absurd (cc)
readable_read Silent h e = absurd (false≢true h)

-- Types and classes by path.

pub type_solid : (R : Result Ty RefusalKind) → Solid (names.type_ruled R)
type_solid (Ok t) = refl
type_solid (Err k) = refl

pub class_solid : (R : Result ClassNo RefusalKind) → Solid (names.class_ruled R)
class_solid (Ok c) = refl
class_solid (Err k) = refl

abbrev pub is_class : ClassPart → Bool
is_class (part.Class c) = true
is_class part.Untyped = false
is_class part.Missing = false

abbrev pub IsClass : ClassPart → Type 0
IsClass c = is_class c ≡ true

pub class_there : (R : Result ClassNo RefusalKind) → (told (names.class_ruled R)).0 ≡ None → IsClass (names.class_found R)
class_there (Ok c) e = refl
class_there (Err k) e = absurd (cc)

pub class_typed : (c : ClassPart) → IsClass c → Typed c
class_typed (part.Class c) h = refl
class_typed part.Untyped h = absurd (false≢true h)
class_typed part.Missing h = refl

pub class_type_some : (c : ClassPart) → IsClass c → SomeTy (names.class_type c)
class_type_some (part.Class c) h = refl
class_type_some part.Untyped h = h
class_type_some part.Missing h = h

-- Names.

pub held_solid : (name : List ℕ) (missing : RefusalKind) (c : ClassPart) → Typed c → Solid (names.held_ruled name missing c)
held_solid name missing (part.Class c) h = refl
held_solid name missing part.Untyped h = sym h
held_solid name missing part.Missing h = refl

pub found_some : (name : List ℕ) (s : ScopeTerm) → TypedScope s → (k : Known) → found name s ≡ Some k → SomeTy k.ty
found_some name s t k e = every_found (bytes_eq name) TypedName (λ k. SomeTy k.ty) (λ e h. h) s.named t.named k e

module _ (h : DeclaredHeads) (th : TypedHeads h) where
  property_solid : (source : List ℕ) (f : FeatureNo) → Solid (property_of h.metas h.first h.flags source f)
  property_solid source f = by (is_typed h.first h.flags f.0) (th.properties f.0) (feature_type (shape_of h.metas f.0))
    where
      by : (b : Bool) → b ≡ true → (t : Ty) → SomeTy (if b then Some t else None)
      by true e t = refl
      by false e t = e

  or_property_solid : (source : List ℕ) (o : Option FeatureNo) (w : Ruling) → Solid w → Solid (or_property h.metas h.first h.flags source o w)
  or_property_solid source None w k = k
  or_property_solid source (Some f) w k = property_solid source f

  on_source_solid : (name source : List ℕ) (o : Option Ty) (w : Ruling) → SomeTy o → Solid w → Solid (on_source h.metas h.first h.flags name source o w)
  on_source_solid name source None w k l = k
  on_source_solid name source (Some t) w k l = or_property_solid source _ w l

  by_source_solid : (name : List ℕ) (v : Variable) (w : Ruling) → SomeTy v.ty → Solid w → Solid (by_source h.metas h.first h.flags name v w)
  unfolding by_source
  by_source_solid name v w k l = solid_if (is_implicit v.sort) _ w (on_source_solid name v.name v.ty w k l) l

  by_sources_solid : (name : List ℕ) (w : Ruling) (vs : List Variable) → Every TypedSource vs → Solid w → Solid (by_sources h.metas h.first h.flags name w vs)
  by_sources_solid name w [] k l = l
  by_sources_solid name w (v ∷ vs) k l = by_sources_solid name (by_source h.metas h.first h.flags name v w) vs (others k) (by_source_solid name v w (first k) l)

  model_or_solid : (vs : List Variable) (name : List ℕ) (i : Option ℕ) → Every TypedSource vs → Solid (model_or h.metas h.first h.flags false vs name i)
  model_or_solid vs name (Some i) k = refl
  model_or_solid vs name None k = by_sources_solid name _ vs k refl

  model_or_readable : (is_source : Bool) (vs : List Variable) (name : List ℕ) (i : Option ℕ) → Every TypedSource vs → Readable (model_or h.metas h.first h.flags is_source vs name i)
  model_or_readable true vs name (Some i) k = refl
  model_or_readable false vs name (Some i) k = refl
  model_or_readable b vs name None k = readable (by_sources h.metas h.first h.flags name (Fails refusal.UnknownName) vs) (by_sources_solid name (Fails refusal.UnknownName) vs k refl)

  known_solid : (P : Ruling → Type 0) (name : List ℕ) (o : Option Known) (w : Ruling) → ((k : Known) → o ≡ Some k → P (names.variable_ruled name k.ty)) → P w → P (names.known_or name o w)
  known_solid P name None w f l = l
  known_solid P name (Some k) w f l = f k refl

  pub name_solid : (s : ScopeTerm) (name : List ℕ) → TypedScope s → Solid (names.name_ruled h false s name)
  unfolding names.name_ruled
  name_solid s name t = known_solid Solid name (found name s) _ (λ k e. found_some name s t k e) (model_or_solid s.sources name _ t.sources)

  pub name_readable : (s : ScopeTerm) (name : List ℕ) → TypedScope s → Readable (names.name_ruled h true s name)
  unfolding names.name_ruled
  name_readable s name t = known_solid Readable name (found name s) _ (λ k e. readable (names.variable_ruled name k.ty) (found_some name s t k e)) (model_or_readable true s.sources name _ t.sources)

  literal_solid : (R : Result LiteralRef RefusalKind) → Solid (names.literal_ruled R)
  literal_solid (Ok l) = refl
  literal_solid (Err k) = refl

  pub path_solid : (s : ScopeTerm) (path : List (List ℕ)) → TypedScope s → Solid (names.path_ruled h false s path)
  path_solid s [] t = literal_solid (path_literal h.given h.types [])
  path_solid s (a ∷ []) t = name_solid s a t
  path_solid s (a ∷ b ∷ more) t = literal_solid (path_literal h.given h.types (a ∷ b ∷ more))

  pub path_readable : (s : ScopeTerm) (path : List (List ℕ)) → TypedScope s → Readable (names.path_ruled h true s path)
  path_readable s [] t = readable (names.literal_ruled (path_literal h.given h.types [])) (literal_solid (path_literal h.given h.types []))
  path_readable s (a ∷ []) t = name_readable s a t
  path_readable s (a ∷ b ∷ more) t = readable (names.literal_ruled (path_literal h.given h.types (a ∷ b ∷ more))) (literal_solid (path_literal h.given h.types (a ∷ b ∷ more)))

  pub unless_solid : (w : Ruling) → Solid w → Solid (unless_untyped h w)
  unless_solid (Holds r) k = solid_typed (is_typed_reading h r.reading) (read_typed r.reading)
    where
      read_typed : (r : Reading) → is_typed_reading h r ≡ true
      read_typed (reading.Feature f) = th.properties f.0
      read_typed r = refl

      solid_typed : (b : Bool) → b ≡ true → Solid (if b then Holds r else Silent)
      solid_typed true e = k
      solid_typed false e = e
  unless_solid (Fails kind) k = refl
  unless_solid Silent k = k

  -- Calls.

  abbrev pub is_untyped_found : FoundUnit → Bool
  is_untyped_found Untyped = true
  is_untyped_found f = false

  abbrev pub TypedFound : FoundUnit → Type 0
  TypedFound f = is_untyped_found f ≡ false

  known_each : (ns : List ℕ) → Every (λ n. is_unknown (context_at h.units n) ≡ false) ns
  known_each [] = none
  known_each (n ∷ ns) = also (th.units n).context (known_each ns)

  sure : (ns : List ℕ) → is_unsure h.units ns ≡ false
  sure ns = every_none (λ n. is_unknown (context_at h.units n)) ns (known_each ns)

  looked_up_typed : (ns : List ℕ) (c : ℕ) → TypedFound (looked_up h.metas h.units ns c)
  looked_up_typed ns c = by (is_unsure h.units ns) (sure ns) _ (inner (is_empty (candidates h.metas h.units ns c)) _ (chosen_typed (is_ambiguous h.metas h.units ns c) (chosen h.metas h.units ns c)))
    where
      chosen_typed : (b : Bool) (o : Option ℕ) → TypedFound (chosen_of b o)
      chosen_typed true o = refl
      chosen_typed false None = refl
      chosen_typed false (Some n) = refl

      inner : (b : Bool) (f : FoundUnit) → TypedFound f → TypedFound (if b then NoUnit else f)
      inner true f k = refl
      inner false f k = k

      by : (b : Bool) → b ≡ false → (f : FoundUnit) → TypedFound f → TypedFound (if b then Untyped else f)
      by true e f k = absurd (false≢true (sym e))
      by false e f k = k

  on_class_typed : (maps : Bool) (name : List ℕ) (c : ClassPart) → Typed c → TypedFound (calls.on_class h maps name c)
  unfolding called_on
  on_class_typed maps name (part.Class c) k = looked_up_typed (group maps name h.units) c.0
  on_class_typed maps name part.Untyped k = k
  on_class_typed maps name part.Missing k = refl

  class_in_typed : (t : Ty) → Typed (class_in t)
  class_in_typed (ty.Class c) = refl
  class_in_typed t = refl

  static_typed : (arrow : Bool) (o : Option Ty) → SomeTy o → Typed (static_class arrow o)
  static_typed arrow None k = absurd (false≢true k)
  static_typed true (Some t) k = class_in_typed (source_of t).item
  static_typed false (Some t) k = class_in_typed (innermost t)

  sure_typed : (ns : List ℕ) (c : Called) → TypedFound c.found → TypedFound (calls.unless_unsure h ns c).found
  sure_typed ns c k = by (is_unsure h.units ns) (sure ns)
    where
      by : (b : Bool) → b ≡ false → TypedFound (if b then record { found = Untyped; units = ns; source = None } else c).found
      by true e = absurd (false≢true (sym e))
      by false e = k

  pub behind_typed : (maps arrow : Bool) (name : List ℕ) (o : Option Ty) → SomeTy o → TypedFound (calls.called_behind h maps arrow name o).found
  behind_typed maps arrow name o k = sure_typed (group maps name h.units) _ (on_class_typed maps name (static_class arrow o) (static_typed arrow o k))

  from_typed : (maps : Bool) (name : List ℕ) (v : Variable) → SomeTy v.ty → TypedFound (calls.called_from h maps name v).found
  from_typed maps name v k = on_class_typed maps name (calls.class_part_of v.ty) (by v.ty k)
    where
      by : (o : Option Ty) → SomeTy o → Typed (calls.class_part_of o)
      by None e = absurd (false≢true e)
      by (Some t) e = class_in_typed t

  unless_none_typed : (f : FoundUnit) (c d : Called) → TypedFound c.found → TypedFound d.found → TypedFound (calls.unless_none f c d).found
  unless_none_typed NoUnit c d k l = l
  unless_none_typed Untyped c d k l = k
  unless_none_typed Unclear c d k l = k
  unless_none_typed (Chosen n) c d k l = k

  implicitly_typed : (maps : Bool) (name : List ℕ) (c : Called) (vs : List Variable) → TypedFound c.found → Every TypedSource vs → TypedFound (calls.called_implicitly h maps name c vs).found
  implicitly_typed maps name c [] k l = k
  implicitly_typed maps name c (v ∷ vs) k l = implicitly_typed maps name (calls.unless_none (calls.called_from h maps name v).found (calls.called_from h maps name v) c) vs (unless_none_typed (calls.called_from h maps name v).found (calls.called_from h maps name v) c (from_typed maps name v (first l)) k) (others l)

  free_typed : (o : Option ℕ) (c : Called) → TypedFound c.found → TypedFound (calls.free_or o c).found
  free_typed None c k = k
  free_typed (Some n) c k = refl

  pub alone_typed : (maps : Bool) (name : List ℕ) (vs : List Variable) → Every TypedSource vs → TypedFound (calls.called_alone h maps name vs).found
  unfolding calls.called_alone
  alone_typed maps name vs l = sure_typed (group maps name h.units) _ (free_typed _ _ (implicitly_typed maps name calls.nothing_called vs refl l))

  fits : (o : Option RefusalKind) (n : ℕ) (f : ℕ → Ruling) → ((n : ℕ) → Solid (f n)) → Solid (calls.or_ruled (calls.fitting o n) f)
  fits None n f k = k n
  fits (Some kind) n f k = refl

  called_solid : (found : FoundUnit) (us : Option (List Ty)) (f : ℕ → Ruling) → TypedFound found → is_some us ≡ true → ((n : ℕ) → Solid (f n)) → Solid (calls.or_ruled (calls.unit_called h found us) f)
  called_solid found None f k l m = l
  called_solid NoUnit (Some us) f k l m = refl
  called_solid Untyped (Some us) f k l m = sym k
  called_solid Unclear (Some us) f k l m = refl
  called_solid (Chosen n) (Some us) f k l m = fits _ n f m

  alone_solid : (r : Reading) (source : Option (List ℕ)) (a : Option Ty) → SomeTy a → Solid (calls.alone r source a)
  alone_solid r source None k = k
  alone_solid r source (Some a) k = refl

  pub call_solid : (maps : Bool) (c : Called) (us : Option (List Ty)) → TypedFound c.found → is_some us ≡ true → Solid (calls.call_ruled h maps c us)
  call_solid maps c us k l = called_solid c.found us _ k l (λ n. alone_solid _ c.source (unit_at h.units n).answer (th.units n).answer)

  pub unit_solid : (o : Option Ty) (c : Called) (us : Option (List Ty)) → SomeTy o → TypedFound c.found → is_some us ≡ true → Solid (calls.unit_ruled h o c us)
  unit_solid None c us j k l = j
  unit_solid (Some t) c us j k l = called_solid c.found us _ k l (λ n. stepped_unit (Some t) _ (unit_at h.units n).answer refl (th.units n).answer)

  pub map_solid : (arrow : Bool) (o : Option Ty) (c : Called) (us : Option (List Ty)) → SomeTy o → TypedFound c.found → is_some us ≡ true → Solid (calls.map_ruled h arrow o c us)
  map_solid arrow None c us j k l = j
  map_solid arrow (Some t) c us j k l = called_solid c.found us _ k l (λ n. stepped_mapping arrow (Some t) _ (unit_at h.units n).answer refl (th.units n).answer)

-- Objects.

pub made_solid : (c : ClassNo) (e : Option ℕ) → Solid (rule.made_in c e)
made_solid c None = refl
made_solid c (Some e) = refl

abbrev pub has_no_type : ObjectVariable → Bool
has_no_type OfNone = true
has_no_type NoVariable = false
has_no_type (OfType t) = false

pub object_solid : (x : TypingContext) (v : ObjectVariable) (name : Option (List ℕ)) (c : ClassPart) → has_no_type v ≡ false → IsClass c → Solid (rule.object_ruled x v name c)
object_solid x v name part.Untyped h k = k
object_solid x v name part.Missing h k = k
object_solid x OfNone name (part.Class c) h k = sym h
object_solid x NoVariable name (part.Class c) h k = made_solid c (rule.extent_of x name c)
object_solid x (OfType t) name (part.Class c) h k = solid_if (same_type (ty_view t) (ty_view (ty.Class c))) (rule.made_in c (rule.extent_of x name c)) (Fails refusal.WrongType) (made_solid c (rule.extent_of x name c)) refl

unless_wrong_solid : (o : Option RefusalKind) (w : Ruling) → Solid w → Solid (calls.unless_wrong o w)
unless_wrong_solid None w h = h
unless_wrong_solid (Some kind) w h = refl

constructed_solid : (x : TypingContext) (c : ClassNo) (name : Option (List ℕ)) (k : Option ℕ) (us : List Ty) → Solid (rule.constructed_by x c name k us)
constructed_solid x c name (Some k) us = unless_wrong_solid (arguments_wrong x.heads.metas (unit_at x.heads.units k).params us) (rule.made_in c (rule.extent_of x name c)) (made_solid c (rule.extent_of x name c))
constructed_solid x c name None [] = made_solid c (rule.extent_of x name c)
constructed_solid x c name None (u ∷ us) = refl

pub new_solid : (x : TypingContext) (name : Option (List ℕ)) (c : ClassPart) (us : Option (List Ty)) → IsClass c → is_some us ≡ true → Solid (rule.new_ruled x name c us)
new_solid x name (part.Class c) (Some us) h k = constructed_solid x c name (constructor_of c.0 (length us) x.heads.units) us
new_solid x name (part.Class c) None h k = k
new_solid x name part.Untyped us h k = h
new_solid x name part.Missing us h k = h

settable_if : (s : VariableSort) (w : Ruling) → Solid w → Solid (rule.if_settable s w)
settable_if sort.Settable w h = h
settable_if s w h = refl

pub settable_solid : (name : List ℕ) (o : Option Known) → ((k : Known) → o ≡ Some k → SomeTy k.ty) → Solid (rule.settable_ruled name o)
settable_solid name None f = refl
settable_solid name (Some k) f = settable_if k.sort _ (f k refl)

-- a class of a head that is known, or is missing
pub head_typed : (c : HeadClass) → is_unknown c ≡ false → Typed (rule.head_part c)
head_typed (head.Known c) h = refl
head_typed head.Unknown h = h
head_typed head.Missing h = refl
