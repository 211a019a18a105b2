-- The test of one shape is true exactly where the shapes are equal.
use Rattle.std.proofs.Common.{◌≡◌, ℕ, ℤ, Bool, true, false, ◌&&◌, List, [], ◌∷◌, Option, Some, None, refl, ap}
use Rattle.std.proofs.lemmas.Bool.{false≢true}
use Rattle.std.proofs.lemmas.Bool.Decides.{Decides-int_eq}
use Rattle.std.proofs.lemmas.Slice.Eq.{bytes_eq-Decides, slice_eq-Decides}
use Rattle.std.specs.Bool.{beq}
use Rattle.std.specs.Ordering.{int_eq}
use Rattle.std.specs.Str.{bytes_eq}
use Rattle.qvt_tree.specs.SameWords.{same_kind, same_level, same_op, same_prefix, same_word}
use Rattle.qvt_tree_types.specs.Tree.{TypeTerm, ExprTerm, ExprTerms, OptionalExpr, OptionalArgs, LinkTerm, LinkTerms, ItemTerm, RangeTerm, ItemTerms, MapTerm, ResolveTerm, FilterTerm, HeadTerm, AccumulatorTerm, StepTerm, StepTerms, TargetTerm, StmtTerm, StmtTerms, ElseTerm, ArmTerm, ArmTerms}
use Rattle.qvt_tree_types.specs.Tree.{CollType, PathType, IntExpr, StrExpr, BoolExpr, NullExpr, SelfExpr, ResultExpr, PathExpr, CallExpr, CollExpr, IfExpr, ObjectExpr, NewExpr, MapExpr, ResolveExpr, ChainExpr, PrefixExpr, PostExpr, NoExprs, MoreExprs, NoExpr, SomeExpr, NoArgs, SomeArgs, LinkOf, NoLinks, MoreLinks, ItemOf, NoRange, RangeTo, NoItems, MoreItems, MapOf, ResolveOf, NoFilter, FilterOf, NoHead, HeadOf, NoAccumulator, AccumulatorOf, DotStep, ArrowStep, DotMapStep, ArrowMapStep, DotResolveStep, ArrowResolveStep, NoSteps, MoreSteps, BareTarget, ResultTarget, MemberTarget, VarStmt, AssignStmt, ReturnStmt, ValueStmt, IfStmt, WhileStmt, ForEachStmt, NoStmts, MoreStmts, NoElse, ElseOf, ArmOf, NoArms, MoreArms}
use Rattle.qvt_tree_types.specs.declared.words.Sign.{Sign}
use Rattle.qvt_tree_types.specs.declared.types.PathTree.{PathTree}
use Rattle.qvt_tree_types.specs.declared.types.ObjectVar.{ObjectVar}
use Rattle.qvt_tree_types.specs.declared.types.ObjectVar.TheVariants.{Named, ResultVar}
use Rattle.qvt_tree.specs.Shape.{nowhere, erase_path, erase_optional_path, erase_variable, erase_optional_variable, erase_signs, erase_optional_type, erase_type, erase_expr, erase_exprs, erase_optional_expr, erase_args, erase_link, erase_links, erase_item, erase_range, erase_items, erase_map_call, erase_resolve, erase_filter, erase_head, erase_accumulator, erase_step, erase_steps, erase_target, erase_stmt, erase_stmts, erase_else, erase_arm, erase_arms}
use Rattle.qvt_tree.specs.Same.{same_names, same_path, same_optional_path, same_optional_text, same_variable, same_optional_variable, same_signs, same_optional_type, same_type, same_expr, same_exprs, same_optional_expr, same_args, same_link, same_links, same_item, same_range, same_items, same_map_call, same_resolve, same_filter, same_head, same_accumulator, same_step, same_steps, same_target, same_stmt, same_stmts, same_else, same_arm, same_arms}
use Rattle.qvt_tree.proofs.Numbered.{and_left, and_right, and_both, kind_sound, kind_self, level_sound, level_self, op_sound, op_self, prefix_sound, prefix_self, word_sound, word_self}

integer_sound : (x y : ℤ) → int_eq x y ≡ true → x ≡ y
integer_sound x y h = (Decides-int_eq x y).0 h

integer_self : (x : ℤ) → int_eq x x ≡ true
integer_self x = (Decides-int_eq x x).1 refl

pub text_sound : (x y : List ℕ) → bytes_eq x y ≡ true → x ≡ y
text_sound x y h = (bytes_eq-Decides x y).0 h

pub text_self : (x : List ℕ) → bytes_eq x x ≡ true
text_self x = (bytes_eq-Decides x x).1 refl

pub bool_sound : (x y : Bool) → beq x y ≡ true → x ≡ y
bool_sound true true h = refl
bool_sound false false h = refl
bool_sound _ _ h = absurd (false≢true h)

pub bool_self : (x : Bool) → beq x x ≡ true
bool_self true = refl
bool_self false = refl

pub names_sound : (x y : List (List ℕ)) → same_names x y ≡ true → x ≡ y
names_sound x y h = (slice_eq-Decides bytes_eq-Decides x y (same_names x y) refl).0 h

pub names_self : (x : List (List ℕ)) → same_names x x ≡ true
names_self x = (slice_eq-Decides bytes_eq-Decides x x (same_names x x) refl).1 refl

pub optional_text_sound : (x y : Option (List ℕ)) → same_optional_text x y ≡ true → x ≡ y
optional_text_sound None None h = refl
optional_text_sound (Some s) (Some t) h = ap Some (text_sound s t h)
optional_text_sound _ _ h = absurd (false≢true h)

pub optional_text_self : (x : Option (List ℕ)) → same_optional_text x x ≡ true
optional_text_self None = refl
optional_text_self (Some t) = text_self t

pub sound_path : (x y : PathTree) → same_path x y ≡ true → erase_path x ≡ erase_path y
sound_path x y h = λ i. record { names = names_sound x.names y.names h i; place = nowhere }

pub erased_path : (x y : PathTree) → same_path (erase_path x) (erase_path y) ≡ same_path x y
erased_path x y = refl

pub self_path : (x : PathTree) → same_path x x ≡ true
self_path x = names_self x.names

sound_optional_path : (x y : Option PathTree) → same_optional_path x y ≡ true → erase_optional_path x ≡ erase_optional_path y
sound_optional_path None None h = refl
sound_optional_path (Some p) (Some q) h = ap Some (sound_path p q h)
sound_optional_path _ _ h = absurd (false≢true h)

erased_optional_path : (x y : Option PathTree) → same_optional_path (erase_optional_path x) (erase_optional_path y) ≡ same_optional_path x y
erased_optional_path None None = refl
erased_optional_path (Some p) (Some q) = refl
erased_optional_path _ _ = refl

self_optional_path : (x : Option PathTree) → same_optional_path x x ≡ true
self_optional_path None = refl
self_optional_path (Some p) = self_path p

sound_variable : (x y : ObjectVar) → same_variable x y ≡ true → erase_variable x ≡ erase_variable y
sound_variable (Named m p) (Named n q) h = ap (λ z. Named z nowhere) (text_sound m n h)
sound_variable (ResultVar p) (ResultVar q) h = refl
sound_variable _ _ h = absurd (false≢true h)

sound_optional_variable : (x y : Option ObjectVar) → same_optional_variable x y ≡ true → erase_optional_variable x ≡ erase_optional_variable y
sound_optional_variable None None h = refl
sound_optional_variable (Some v) (Some w) h = ap Some (sound_variable v w h)
sound_optional_variable _ _ h = absurd (false≢true h)

erased_variable : (x y : ObjectVar) → same_variable (erase_variable x) (erase_variable y) ≡ same_variable x y
erased_variable (Named m p) (Named n q) = refl
erased_variable (ResultVar p) (ResultVar q) = refl
erased_variable _ _ = refl

erased_optional_variable : (x y : Option ObjectVar) → same_optional_variable (erase_optional_variable x) (erase_optional_variable y) ≡ same_optional_variable x y
erased_optional_variable None None = refl
erased_optional_variable (Some v) (Some w) = erased_variable v w
erased_optional_variable _ _ = refl

self_optional_variable : (x : Option ObjectVar) → same_optional_variable x x ≡ true
self_optional_variable None = refl
self_optional_variable (Some (Named n p)) = text_self n
self_optional_variable (Some (ResultVar p)) = refl

sound_signs : (x y : List Sign) → same_signs x y ≡ true → erase_signs x ≡ erase_signs y
sound_signs [] [] h = refl
sound_signs (s ∷ ss) (t ∷ ts) h =
    λ i. record { op = prefix_sound s.op t.op (and_left _ _ h) i; place = nowhere } ∷ sound_signs ss ts (and_right _ _ h) i
sound_signs _ _ h = absurd (false≢true h)

erased_signs : (x y : List Sign) → same_signs (erase_signs x) (erase_signs y) ≡ same_signs x y
erased_signs [] [] = refl
erased_signs (s ∷ ss) (t ∷ ts) = ap (λ z. same_prefix s.op t.op && z) (erased_signs ss ts)
erased_signs _ _ = refl

self_signs : (x : List Sign) → same_signs x x ≡ true
self_signs [] = refl
self_signs (s ∷ ss) = and_both _ _ (prefix_self s.op) (self_signs ss)

pub sound_type : (x y : TypeTerm) → same_type x y ≡ true → erase_type x ≡ erase_type y
sound_type (CollType a1 b1 c1) (CollType a2 b2 c2) h = λ i. CollType ((kind_sound a1 a2 (and_left _ _ h)) i) ((sound_type b1 b2 (and_right _ _ h)) i) nowhere
sound_type (PathType a1) (PathType a2) h = λ i. PathType ((sound_path a1 a2 h) i)
sound_type _ _ h = absurd (false≢true h)

pub erased_type : (x y : TypeTerm) → same_type (erase_type x) (erase_type y) ≡ same_type x y
erased_type (CollType a1 b1 c1) (CollType a2 b2 c2) = λ i. same_kind a1 a2 && erased_type b1 b2 i
erased_type (PathType a1) (PathType a2) = λ i. erased_path a1 a2 i
erased_type _ _ = refl

pub self_type : (x : TypeTerm) → same_type x x ≡ true
self_type (CollType a1 b1 c1) = and_both _ _ (kind_self a1) (self_type b1)
self_type (PathType a1) = self_path a1

pub sound_optional_type : (x y : Option TypeTerm) → same_optional_type x y ≡ true → erase_optional_type x ≡ erase_optional_type y
sound_optional_type None None h = refl
sound_optional_type (Some s) (Some t) h = ap Some (sound_type s t h)
sound_optional_type _ _ h = absurd (false≢true h)

pub erased_optional_type : (x y : Option TypeTerm) → same_optional_type (erase_optional_type x) (erase_optional_type y) ≡ same_optional_type x y
erased_optional_type None None = refl
erased_optional_type (Some s) (Some t) = erased_type s t
erased_optional_type _ _ = refl

pub self_optional_type : (x : Option TypeTerm) → same_optional_type x x ≡ true
self_optional_type None = refl
self_optional_type (Some t) = self_type t

mutual
  sound_expr : (x y : ExprTerm) → same_expr x y ≡ true → erase_expr x ≡ erase_expr y
  sound_expr (IntExpr a1 b1) (IntExpr a2 b2) h = λ i. IntExpr ((integer_sound a1 a2 h) i) nowhere
  sound_expr (StrExpr a1 b1) (StrExpr a2 b2) h = λ i. StrExpr ((text_sound a1 a2 h) i) nowhere
  sound_expr (BoolExpr a1 b1) (BoolExpr a2 b2) h = λ i. BoolExpr ((bool_sound a1 a2 h) i) nowhere
  sound_expr (NullExpr a1) (NullExpr a2) h = refl
  sound_expr (SelfExpr a1) (SelfExpr a2) h = refl
  sound_expr (ResultExpr a1) (ResultExpr a2) h = refl
  sound_expr (PathExpr a1) (PathExpr a2) h = λ i. PathExpr ((sound_path a1 a2 h) i)
  sound_expr (CallExpr a1 b1 c1) (CallExpr a2 b2 c2) h = λ i. CallExpr ((text_sound a1 a2 (and_left _ _ h)) i) ((sound_exprs b1 b2 (and_right _ _ h)) i) nowhere
  sound_expr (CollExpr a1 b1 c1) (CollExpr a2 b2 c2) h = λ i. CollExpr ((kind_sound a1 a2 (and_left _ _ h)) i) ((sound_items b1 b2 (and_right _ _ h)) i) nowhere
  sound_expr (IfExpr a1 b1 c1 d1) (IfExpr a2 b2 c2 d2) h = λ i. IfExpr ((sound_expr a1 a2 (and_left _ _ (and_left _ _ h))) i) ((sound_expr b1 b2 (and_right _ _ (and_left _ _ h))) i) ((sound_expr c1 c2 (and_right _ _ h)) i) nowhere
  sound_expr (ObjectExpr a1 b1 c1 d1 e1) (ObjectExpr a2 b2 c2 d2 e2) h = λ i. ObjectExpr ((sound_optional_variable a1 a2 (and_left _ _ (and_left _ _ (and_left _ _ h)))) i) ((sound_path b1 b2 (and_right _ _ (and_left _ _ (and_left _ _ h)))) i) ((optional_text_sound c1 c2 (and_right _ _ (and_left _ _ h))) i) ((sound_stmts d1 d2 (and_right _ _ h)) i) nowhere
  sound_expr (NewExpr a1 b1 c1 d1) (NewExpr a2 b2 c2 d2) h = λ i. NewExpr ((sound_path a1 a2 (and_left _ _ (and_left _ _ h))) i) ((optional_text_sound b1 b2 (and_right _ _ (and_left _ _ h))) i) ((sound_exprs c1 c2 (and_right _ _ h)) i) nowhere
  sound_expr (MapExpr a1) (MapExpr a2) h = λ i. MapExpr ((sound_map_call a1 a2 h) i)
  sound_expr (ResolveExpr a1) (ResolveExpr a2) h = λ i. ResolveExpr ((sound_resolve a1 a2 h) i)
  sound_expr (ChainExpr a1 b1 c1 d1) (ChainExpr a2 b2 c2 d2) h = λ i. ChainExpr ((level_sound a1 a2 (and_left _ _ (and_left _ _ h))) i) ((sound_expr b1 b2 (and_right _ _ (and_left _ _ h))) i) ((sound_links c1 c2 (and_right _ _ h)) i) nowhere
  sound_expr (PrefixExpr a1 b1 c1) (PrefixExpr a2 b2 c2) h = λ i. PrefixExpr ((sound_signs a1 a2 (and_left _ _ h)) i) ((sound_expr b1 b2 (and_right _ _ h)) i) nowhere
  sound_expr (PostExpr a1 b1 c1) (PostExpr a2 b2 c2) h = λ i. PostExpr ((sound_expr a1 a2 (and_left _ _ h)) i) ((sound_steps b1 b2 (and_right _ _ h)) i) nowhere
  sound_expr _ _ h = absurd (false≢true h)

  sound_exprs : (x y : ExprTerms) → same_exprs x y ≡ true → erase_exprs x ≡ erase_exprs y
  sound_exprs NoExprs NoExprs h = refl
  sound_exprs (MoreExprs a1 b1) (MoreExprs a2 b2) h = λ i. MoreExprs ((sound_expr a1 a2 (and_left _ _ h)) i) ((sound_exprs b1 b2 (and_right _ _ h)) i)
  sound_exprs _ _ h = absurd (false≢true h)

  pub sound_optional_expr : (x y : OptionalExpr) → same_optional_expr x y ≡ true → erase_optional_expr x ≡ erase_optional_expr y
  sound_optional_expr NoExpr NoExpr h = refl
  sound_optional_expr (SomeExpr a1) (SomeExpr a2) h = λ i. SomeExpr ((sound_expr a1 a2 h) i)
  sound_optional_expr _ _ h = absurd (false≢true h)

  sound_args : (x y : OptionalArgs) → same_args x y ≡ true → erase_args x ≡ erase_args y
  sound_args NoArgs NoArgs h = refl
  sound_args (SomeArgs a1) (SomeArgs a2) h = λ i. SomeArgs ((sound_exprs a1 a2 h) i)
  sound_args _ _ h = absurd (false≢true h)

  sound_link : (x y : LinkTerm) → same_link x y ≡ true → erase_link x ≡ erase_link y
  sound_link (LinkOf a1 b1 c1) (LinkOf a2 b2 c2) h = λ i. LinkOf ((op_sound a1 a2 (and_left _ _ h)) i) ((sound_expr b1 b2 (and_right _ _ h)) i) nowhere

  sound_links : (x y : LinkTerms) → same_links x y ≡ true → erase_links x ≡ erase_links y
  sound_links NoLinks NoLinks h = refl
  sound_links (MoreLinks a1 b1) (MoreLinks a2 b2) h = λ i. MoreLinks ((sound_link a1 a2 (and_left _ _ h)) i) ((sound_links b1 b2 (and_right _ _ h)) i)
  sound_links _ _ h = absurd (false≢true h)

  sound_item : (x y : ItemTerm) → same_item x y ≡ true → erase_item x ≡ erase_item y
  sound_item (ItemOf a1 b1 c1) (ItemOf a2 b2 c2) h = λ i. ItemOf ((sound_expr a1 a2 (and_left _ _ h)) i) ((sound_range b1 b2 (and_right _ _ h)) i) nowhere

  sound_range : (x y : RangeTerm) → same_range x y ≡ true → erase_range x ≡ erase_range y
  sound_range NoRange NoRange h = refl
  sound_range (RangeTo a1 b1) (RangeTo a2 b2) h = λ i. RangeTo ((sound_expr a1 a2 h) i) nowhere
  sound_range _ _ h = absurd (false≢true h)

  sound_items : (x y : ItemTerms) → same_items x y ≡ true → erase_items x ≡ erase_items y
  sound_items NoItems NoItems h = refl
  sound_items (MoreItems a1 b1) (MoreItems a2 b2) h = λ i. MoreItems ((sound_item a1 a2 (and_left _ _ h)) i) ((sound_items b1 b2 (and_right _ _ h)) i)
  sound_items _ _ h = absurd (false≢true h)

  sound_map_call : (x y : MapTerm) → same_map_call x y ≡ true → erase_map_call x ≡ erase_map_call y
  sound_map_call (MapOf a1 b1 c1 d1) (MapOf a2 b2 c2 d2) h = λ i. MapOf ((bool_sound a1 a2 (and_left _ _ (and_left _ _ h))) i) ((text_sound b1 b2 (and_right _ _ (and_left _ _ h))) i) ((sound_exprs c1 c2 (and_right _ _ h)) i) nowhere

  sound_resolve : (x y : ResolveTerm) → same_resolve x y ≡ true → erase_resolve x ≡ erase_resolve y
  sound_resolve (ResolveOf a1 b1 c1 d1 e1) (ResolveOf a2 b2 c2 d2 e2) h = λ i. ResolveOf ((bool_sound a1 a2 (and_left _ _ (and_left _ _ (and_left _ _ h)))) i) ((word_sound b1 b2 (and_right _ _ (and_left _ _ (and_left _ _ h)))) i) ((sound_optional_path c1 c2 (and_right _ _ (and_left _ _ h))) i) ((sound_filter d1 d2 (and_right _ _ h)) i) nowhere

  sound_filter : (x y : FilterTerm) → same_filter x y ≡ true → erase_filter x ≡ erase_filter y
  sound_filter NoFilter NoFilter h = refl
  sound_filter (FilterOf a1 b1 c1 d1) (FilterOf a2 b2 c2 d2) h = λ i. FilterOf ((optional_text_sound a1 a2 (and_left _ _ (and_left _ _ h))) i) ((sound_type b1 b2 (and_right _ _ (and_left _ _ h))) i) ((sound_optional_expr c1 c2 (and_right _ _ h)) i) nowhere
  sound_filter _ _ h = absurd (false≢true h)

  sound_head : (x y : HeadTerm) → same_head x y ≡ true → erase_head x ≡ erase_head y
  sound_head NoHead NoHead h = refl
  sound_head (HeadOf a1 b1 c1 d1) (HeadOf a2 b2 c2 d2) h = λ i. HeadOf ((text_sound a1 a2 (and_left _ _ (and_left _ _ h))) i) ((sound_optional_type b1 b2 (and_right _ _ (and_left _ _ h))) i) ((sound_accumulator c1 c2 (and_right _ _ h)) i) nowhere
  sound_head _ _ h = absurd (false≢true h)

  sound_accumulator : (x y : AccumulatorTerm) → same_accumulator x y ≡ true → erase_accumulator x ≡ erase_accumulator y
  sound_accumulator NoAccumulator NoAccumulator h = refl
  sound_accumulator (AccumulatorOf a1 b1 c1 d1) (AccumulatorOf a2 b2 c2 d2) h = λ i. AccumulatorOf ((text_sound a1 a2 (and_left _ _ (and_left _ _ h))) i) ((sound_type b1 b2 (and_right _ _ (and_left _ _ h))) i) ((sound_expr c1 c2 (and_right _ _ h)) i) nowhere
  sound_accumulator _ _ h = absurd (false≢true h)

  sound_step : (x y : StepTerm) → same_step x y ≡ true → erase_step x ≡ erase_step y
  sound_step (DotStep a1 b1 c1) (DotStep a2 b2 c2) h = λ i. DotStep ((text_sound a1 a2 (and_left _ _ h)) i) ((sound_args b1 b2 (and_right _ _ h)) i) nowhere
  sound_step (ArrowStep a1 b1 c1 d1) (ArrowStep a2 b2 c2 d2) h = λ i. ArrowStep ((text_sound a1 a2 (and_left _ _ (and_left _ _ h))) i) ((sound_head b1 b2 (and_right _ _ (and_left _ _ h))) i) ((sound_exprs c1 c2 (and_right _ _ h)) i) nowhere
  sound_step (DotMapStep a1) (DotMapStep a2) h = λ i. DotMapStep ((sound_map_call a1 a2 h) i)
  sound_step (ArrowMapStep a1) (ArrowMapStep a2) h = λ i. ArrowMapStep ((sound_map_call a1 a2 h) i)
  sound_step (DotResolveStep a1) (DotResolveStep a2) h = λ i. DotResolveStep ((sound_resolve a1 a2 h) i)
  sound_step (ArrowResolveStep a1) (ArrowResolveStep a2) h = λ i. ArrowResolveStep ((sound_resolve a1 a2 h) i)
  sound_step _ _ h = absurd (false≢true h)

  sound_steps : (x y : StepTerms) → same_steps x y ≡ true → erase_steps x ≡ erase_steps y
  sound_steps NoSteps NoSteps h = refl
  sound_steps (MoreSteps a1 b1) (MoreSteps a2 b2) h = λ i. MoreSteps ((sound_step a1 a2 (and_left _ _ h)) i) ((sound_steps b1 b2 (and_right _ _ h)) i)
  sound_steps _ _ h = absurd (false≢true h)

  sound_target : (x y : TargetTerm) → same_target x y ≡ true → erase_target x ≡ erase_target y
  sound_target (BareTarget a1 b1) (BareTarget a2 b2) h = λ i. BareTarget ((text_sound a1 a2 h) i) nowhere
  sound_target (ResultTarget a1) (ResultTarget a2) h = refl
  sound_target (MemberTarget a1 b1 c1) (MemberTarget a2 b2 c2) h = λ i. MemberTarget ((sound_expr a1 a2 (and_left _ _ h)) i) ((text_sound b1 b2 (and_right _ _ h)) i) nowhere
  sound_target _ _ h = absurd (false≢true h)

  sound_stmt : (x y : StmtTerm) → same_stmt x y ≡ true → erase_stmt x ≡ erase_stmt y
  sound_stmt (VarStmt a1 b1 c1 d1) (VarStmt a2 b2 c2 d2) h = λ i. VarStmt ((text_sound a1 a2 (and_left _ _ (and_left _ _ h))) i) ((sound_optional_type b1 b2 (and_right _ _ (and_left _ _ h))) i) ((sound_optional_expr c1 c2 (and_right _ _ h)) i) nowhere
  sound_stmt (AssignStmt a1 b1 c1 d1) (AssignStmt a2 b2 c2 d2) h = λ i. AssignStmt ((sound_target a1 a2 (and_left _ _ (and_left _ _ h))) i) ((bool_sound b1 b2 (and_right _ _ (and_left _ _ h))) i) ((sound_expr c1 c2 (and_right _ _ h)) i) nowhere
  sound_stmt (ReturnStmt a1 b1) (ReturnStmt a2 b2) h = λ i. ReturnStmt ((sound_optional_expr a1 a2 h) i) nowhere
  sound_stmt (ValueStmt a1 b1) (ValueStmt a2 b2) h = λ i. ValueStmt ((sound_expr a1 a2 h) i) nowhere
  sound_stmt (IfStmt a1 b1 c1 d1 e1) (IfStmt a2 b2 c2 d2 e2) h = λ i. IfStmt ((sound_expr a1 a2 (and_left _ _ (and_left _ _ (and_left _ _ h)))) i) ((sound_stmts b1 b2 (and_right _ _ (and_left _ _ (and_left _ _ h)))) i) ((sound_arms c1 c2 (and_right _ _ (and_left _ _ h))) i) ((sound_else d1 d2 (and_right _ _ h)) i) nowhere
  sound_stmt (WhileStmt a1 b1 c1) (WhileStmt a2 b2 c2) h = λ i. WhileStmt ((sound_expr a1 a2 (and_left _ _ h)) i) ((sound_stmts b1 b2 (and_right _ _ h)) i) nowhere
  sound_stmt (ForEachStmt a1 b1 c1 d1 e1 f1) (ForEachStmt a2 b2 c2 d2 e2 f2) h = λ i. ForEachStmt ((sound_expr a1 a2 (and_left _ _ (and_left _ _ (and_left _ _ (and_left _ _ h))))) i) ((text_sound b1 b2 (and_right _ _ (and_left _ _ (and_left _ _ (and_left _ _ h))))) i) ((sound_optional_type c1 c2 (and_right _ _ (and_left _ _ (and_left _ _ h)))) i) ((sound_optional_expr d1 d2 (and_right _ _ (and_left _ _ h))) i) ((sound_stmts e1 e2 (and_right _ _ h)) i) nowhere
  sound_stmt _ _ h = absurd (false≢true h)

  pub sound_stmts : (x y : StmtTerms) → same_stmts x y ≡ true → erase_stmts x ≡ erase_stmts y
  sound_stmts NoStmts NoStmts h = refl
  sound_stmts (MoreStmts a1 b1) (MoreStmts a2 b2) h = λ i. MoreStmts ((sound_stmt a1 a2 (and_left _ _ h)) i) ((sound_stmts b1 b2 (and_right _ _ h)) i)
  sound_stmts _ _ h = absurd (false≢true h)

  sound_else : (x y : ElseTerm) → same_else x y ≡ true → erase_else x ≡ erase_else y
  sound_else NoElse NoElse h = refl
  sound_else (ElseOf a1) (ElseOf a2) h = λ i. ElseOf ((sound_stmts a1 a2 h) i)
  sound_else _ _ h = absurd (false≢true h)

  sound_arm : (x y : ArmTerm) → same_arm x y ≡ true → erase_arm x ≡ erase_arm y
  sound_arm (ArmOf a1 b1) (ArmOf a2 b2) h = λ i. ArmOf ((sound_expr a1 a2 (and_left _ _ h)) i) ((sound_stmts b1 b2 (and_right _ _ h)) i)

  sound_arms : (x y : ArmTerms) → same_arms x y ≡ true → erase_arms x ≡ erase_arms y
  sound_arms NoArms NoArms h = refl
  sound_arms (MoreArms a1 b1) (MoreArms a2 b2) h = λ i. MoreArms ((sound_arm a1 a2 (and_left _ _ h)) i) ((sound_arms b1 b2 (and_right _ _ h)) i)
  sound_arms _ _ h = absurd (false≢true h)

mutual
  erased_expr : (x y : ExprTerm) → same_expr (erase_expr x) (erase_expr y) ≡ same_expr x y
  erased_expr (IntExpr a1 b1) (IntExpr a2 b2) = refl
  erased_expr (StrExpr a1 b1) (StrExpr a2 b2) = refl
  erased_expr (BoolExpr a1 b1) (BoolExpr a2 b2) = refl
  erased_expr (NullExpr a1) (NullExpr a2) = refl
  erased_expr (SelfExpr a1) (SelfExpr a2) = refl
  erased_expr (ResultExpr a1) (ResultExpr a2) = refl
  erased_expr (PathExpr a1) (PathExpr a2) = λ i. erased_path a1 a2 i
  erased_expr (CallExpr a1 b1 c1) (CallExpr a2 b2 c2) = λ i. bytes_eq a1 a2 && erased_exprs b1 b2 i
  erased_expr (CollExpr a1 b1 c1) (CollExpr a2 b2 c2) = λ i. same_kind a1 a2 && erased_items b1 b2 i
  erased_expr (IfExpr a1 b1 c1 d1) (IfExpr a2 b2 c2 d2) = λ i. erased_expr a1 a2 i && erased_expr b1 b2 i && erased_expr c1 c2 i
  erased_expr (ObjectExpr a1 b1 c1 d1 e1) (ObjectExpr a2 b2 c2 d2 e2) = λ i. erased_optional_variable a1 a2 i && erased_path b1 b2 i && same_optional_text c1 c2 && erased_stmts d1 d2 i
  erased_expr (NewExpr a1 b1 c1 d1) (NewExpr a2 b2 c2 d2) = λ i. erased_path a1 a2 i && same_optional_text b1 b2 && erased_exprs c1 c2 i
  erased_expr (MapExpr a1) (MapExpr a2) = λ i. erased_map_call a1 a2 i
  erased_expr (ResolveExpr a1) (ResolveExpr a2) = λ i. erased_resolve a1 a2 i
  erased_expr (ChainExpr a1 b1 c1 d1) (ChainExpr a2 b2 c2 d2) = λ i. same_level a1 a2 && erased_expr b1 b2 i && erased_links c1 c2 i
  erased_expr (PrefixExpr a1 b1 c1) (PrefixExpr a2 b2 c2) = λ i. erased_signs a1 a2 i && erased_expr b1 b2 i
  erased_expr (PostExpr a1 b1 c1) (PostExpr a2 b2 c2) = λ i. erased_expr a1 a2 i && erased_steps b1 b2 i
  erased_expr _ _ = refl

  erased_exprs : (x y : ExprTerms) → same_exprs (erase_exprs x) (erase_exprs y) ≡ same_exprs x y
  erased_exprs NoExprs NoExprs = refl
  erased_exprs (MoreExprs a1 b1) (MoreExprs a2 b2) = λ i. erased_expr a1 a2 i && erased_exprs b1 b2 i
  erased_exprs _ _ = refl

  pub erased_optional_expr : (x y : OptionalExpr) → same_optional_expr (erase_optional_expr x) (erase_optional_expr y) ≡ same_optional_expr x y
  erased_optional_expr NoExpr NoExpr = refl
  erased_optional_expr (SomeExpr a1) (SomeExpr a2) = λ i. erased_expr a1 a2 i
  erased_optional_expr _ _ = refl

  erased_args : (x y : OptionalArgs) → same_args (erase_args x) (erase_args y) ≡ same_args x y
  erased_args NoArgs NoArgs = refl
  erased_args (SomeArgs a1) (SomeArgs a2) = λ i. erased_exprs a1 a2 i
  erased_args _ _ = refl

  erased_link : (x y : LinkTerm) → same_link (erase_link x) (erase_link y) ≡ same_link x y
  erased_link (LinkOf a1 b1 c1) (LinkOf a2 b2 c2) = λ i. same_op a1 a2 && erased_expr b1 b2 i

  erased_links : (x y : LinkTerms) → same_links (erase_links x) (erase_links y) ≡ same_links x y
  erased_links NoLinks NoLinks = refl
  erased_links (MoreLinks a1 b1) (MoreLinks a2 b2) = λ i. erased_link a1 a2 i && erased_links b1 b2 i
  erased_links _ _ = refl

  erased_item : (x y : ItemTerm) → same_item (erase_item x) (erase_item y) ≡ same_item x y
  erased_item (ItemOf a1 b1 c1) (ItemOf a2 b2 c2) = λ i. erased_expr a1 a2 i && erased_range b1 b2 i

  erased_range : (x y : RangeTerm) → same_range (erase_range x) (erase_range y) ≡ same_range x y
  erased_range NoRange NoRange = refl
  erased_range (RangeTo a1 b1) (RangeTo a2 b2) = λ i. erased_expr a1 a2 i
  erased_range _ _ = refl

  erased_items : (x y : ItemTerms) → same_items (erase_items x) (erase_items y) ≡ same_items x y
  erased_items NoItems NoItems = refl
  erased_items (MoreItems a1 b1) (MoreItems a2 b2) = λ i. erased_item a1 a2 i && erased_items b1 b2 i
  erased_items _ _ = refl

  erased_map_call : (x y : MapTerm) → same_map_call (erase_map_call x) (erase_map_call y) ≡ same_map_call x y
  erased_map_call (MapOf a1 b1 c1 d1) (MapOf a2 b2 c2 d2) = λ i. beq a1 a2 && bytes_eq b1 b2 && erased_exprs c1 c2 i

  erased_resolve : (x y : ResolveTerm) → same_resolve (erase_resolve x) (erase_resolve y) ≡ same_resolve x y
  erased_resolve (ResolveOf a1 b1 c1 d1 e1) (ResolveOf a2 b2 c2 d2 e2) = λ i. beq a1 a2 && same_word b1 b2 && erased_optional_path c1 c2 i && erased_filter d1 d2 i

  erased_filter : (x y : FilterTerm) → same_filter (erase_filter x) (erase_filter y) ≡ same_filter x y
  erased_filter NoFilter NoFilter = refl
  erased_filter (FilterOf a1 b1 c1 d1) (FilterOf a2 b2 c2 d2) = λ i. same_optional_text a1 a2 && erased_type b1 b2 i && erased_optional_expr c1 c2 i
  erased_filter _ _ = refl

  erased_head : (x y : HeadTerm) → same_head (erase_head x) (erase_head y) ≡ same_head x y
  erased_head NoHead NoHead = refl
  erased_head (HeadOf a1 b1 c1 d1) (HeadOf a2 b2 c2 d2) = λ i. bytes_eq a1 a2 && erased_optional_type b1 b2 i && erased_accumulator c1 c2 i
  erased_head _ _ = refl

  erased_accumulator : (x y : AccumulatorTerm) → same_accumulator (erase_accumulator x) (erase_accumulator y) ≡ same_accumulator x y
  erased_accumulator NoAccumulator NoAccumulator = refl
  erased_accumulator (AccumulatorOf a1 b1 c1 d1) (AccumulatorOf a2 b2 c2 d2) = λ i. bytes_eq a1 a2 && erased_type b1 b2 i && erased_expr c1 c2 i
  erased_accumulator _ _ = refl

  erased_step : (x y : StepTerm) → same_step (erase_step x) (erase_step y) ≡ same_step x y
  erased_step (DotStep a1 b1 c1) (DotStep a2 b2 c2) = λ i. bytes_eq a1 a2 && erased_args b1 b2 i
  erased_step (ArrowStep a1 b1 c1 d1) (ArrowStep a2 b2 c2 d2) = λ i. bytes_eq a1 a2 && erased_head b1 b2 i && erased_exprs c1 c2 i
  erased_step (DotMapStep a1) (DotMapStep a2) = λ i. erased_map_call a1 a2 i
  erased_step (ArrowMapStep a1) (ArrowMapStep a2) = λ i. erased_map_call a1 a2 i
  erased_step (DotResolveStep a1) (DotResolveStep a2) = λ i. erased_resolve a1 a2 i
  erased_step (ArrowResolveStep a1) (ArrowResolveStep a2) = λ i. erased_resolve a1 a2 i
  erased_step _ _ = refl

  erased_steps : (x y : StepTerms) → same_steps (erase_steps x) (erase_steps y) ≡ same_steps x y
  erased_steps NoSteps NoSteps = refl
  erased_steps (MoreSteps a1 b1) (MoreSteps a2 b2) = λ i. erased_step a1 a2 i && erased_steps b1 b2 i
  erased_steps _ _ = refl

  erased_target : (x y : TargetTerm) → same_target (erase_target x) (erase_target y) ≡ same_target x y
  erased_target (BareTarget a1 b1) (BareTarget a2 b2) = refl
  erased_target (ResultTarget a1) (ResultTarget a2) = refl
  erased_target (MemberTarget a1 b1 c1) (MemberTarget a2 b2 c2) = λ i. erased_expr a1 a2 i && bytes_eq b1 b2
  erased_target _ _ = refl

  erased_stmt : (x y : StmtTerm) → same_stmt (erase_stmt x) (erase_stmt y) ≡ same_stmt x y
  erased_stmt (VarStmt a1 b1 c1 d1) (VarStmt a2 b2 c2 d2) = λ i. bytes_eq a1 a2 && erased_optional_type b1 b2 i && erased_optional_expr c1 c2 i
  erased_stmt (AssignStmt a1 b1 c1 d1) (AssignStmt a2 b2 c2 d2) = λ i. erased_target a1 a2 i && beq b1 b2 && erased_expr c1 c2 i
  erased_stmt (ReturnStmt a1 b1) (ReturnStmt a2 b2) = λ i. erased_optional_expr a1 a2 i
  erased_stmt (ValueStmt a1 b1) (ValueStmt a2 b2) = λ i. erased_expr a1 a2 i
  erased_stmt (IfStmt a1 b1 c1 d1 e1) (IfStmt a2 b2 c2 d2 e2) = λ i. erased_expr a1 a2 i && erased_stmts b1 b2 i && erased_arms c1 c2 i && erased_else d1 d2 i
  erased_stmt (WhileStmt a1 b1 c1) (WhileStmt a2 b2 c2) = λ i. erased_expr a1 a2 i && erased_stmts b1 b2 i
  erased_stmt (ForEachStmt a1 b1 c1 d1 e1 f1) (ForEachStmt a2 b2 c2 d2 e2 f2) = λ i. erased_expr a1 a2 i && bytes_eq b1 b2 && erased_optional_type c1 c2 i && erased_optional_expr d1 d2 i && erased_stmts e1 e2 i
  erased_stmt _ _ = refl

  pub erased_stmts : (x y : StmtTerms) → same_stmts (erase_stmts x) (erase_stmts y) ≡ same_stmts x y
  erased_stmts NoStmts NoStmts = refl
  erased_stmts (MoreStmts a1 b1) (MoreStmts a2 b2) = λ i. erased_stmt a1 a2 i && erased_stmts b1 b2 i
  erased_stmts _ _ = refl

  erased_else : (x y : ElseTerm) → same_else (erase_else x) (erase_else y) ≡ same_else x y
  erased_else NoElse NoElse = refl
  erased_else (ElseOf a1) (ElseOf a2) = λ i. erased_stmts a1 a2 i
  erased_else _ _ = refl

  erased_arm : (x y : ArmTerm) → same_arm (erase_arm x) (erase_arm y) ≡ same_arm x y
  erased_arm (ArmOf a1 b1) (ArmOf a2 b2) = λ i. erased_expr a1 a2 i && erased_stmts b1 b2 i

  erased_arms : (x y : ArmTerms) → same_arms (erase_arms x) (erase_arms y) ≡ same_arms x y
  erased_arms NoArms NoArms = refl
  erased_arms (MoreArms a1 b1) (MoreArms a2 b2) = λ i. erased_arm a1 a2 i && erased_arms b1 b2 i
  erased_arms _ _ = refl

mutual
  self_expr : (x : ExprTerm) → same_expr x x ≡ true
  self_expr (IntExpr a1 b1) = integer_self a1
  self_expr (StrExpr a1 b1) = text_self a1
  self_expr (BoolExpr a1 b1) = bool_self a1
  self_expr (NullExpr a1) = refl
  self_expr (SelfExpr a1) = refl
  self_expr (ResultExpr a1) = refl
  self_expr (PathExpr a1) = self_path a1
  self_expr (CallExpr a1 b1 c1) = and_both _ _ (text_self a1) (self_exprs b1)
  self_expr (CollExpr a1 b1 c1) = and_both _ _ (kind_self a1) (self_items b1)
  self_expr (IfExpr a1 b1 c1 d1) = and_both _ _ (and_both _ _ (self_expr a1) (self_expr b1)) (self_expr c1)
  self_expr (ObjectExpr a1 b1 c1 d1 e1) = and_both _ _ (and_both _ _ (and_both _ _ (self_optional_variable a1) (self_path b1)) (optional_text_self c1)) (self_stmts d1)
  self_expr (NewExpr a1 b1 c1 d1) = and_both _ _ (and_both _ _ (self_path a1) (optional_text_self b1)) (self_exprs c1)
  self_expr (MapExpr a1) = self_map_call a1
  self_expr (ResolveExpr a1) = self_resolve a1
  self_expr (ChainExpr a1 b1 c1 d1) = and_both _ _ (and_both _ _ (level_self a1) (self_expr b1)) (self_links c1)
  self_expr (PrefixExpr a1 b1 c1) = and_both _ _ (self_signs a1) (self_expr b1)
  self_expr (PostExpr a1 b1 c1) = and_both _ _ (self_expr a1) (self_steps b1)

  self_exprs : (x : ExprTerms) → same_exprs x x ≡ true
  self_exprs NoExprs = refl
  self_exprs (MoreExprs a1 b1) = and_both _ _ (self_expr a1) (self_exprs b1)

  pub self_optional_expr : (x : OptionalExpr) → same_optional_expr x x ≡ true
  self_optional_expr NoExpr = refl
  self_optional_expr (SomeExpr a1) = self_expr a1

  self_args : (x : OptionalArgs) → same_args x x ≡ true
  self_args NoArgs = refl
  self_args (SomeArgs a1) = self_exprs a1

  self_link : (x : LinkTerm) → same_link x x ≡ true
  self_link (LinkOf a1 b1 c1) = and_both _ _ (op_self a1) (self_expr b1)

  self_links : (x : LinkTerms) → same_links x x ≡ true
  self_links NoLinks = refl
  self_links (MoreLinks a1 b1) = and_both _ _ (self_link a1) (self_links b1)

  self_item : (x : ItemTerm) → same_item x x ≡ true
  self_item (ItemOf a1 b1 c1) = and_both _ _ (self_expr a1) (self_range b1)

  self_range : (x : RangeTerm) → same_range x x ≡ true
  self_range NoRange = refl
  self_range (RangeTo a1 b1) = self_expr a1

  self_items : (x : ItemTerms) → same_items x x ≡ true
  self_items NoItems = refl
  self_items (MoreItems a1 b1) = and_both _ _ (self_item a1) (self_items b1)

  self_map_call : (x : MapTerm) → same_map_call x x ≡ true
  self_map_call (MapOf a1 b1 c1 d1) = and_both _ _ (and_both _ _ (bool_self a1) (text_self b1)) (self_exprs c1)

  self_resolve : (x : ResolveTerm) → same_resolve x x ≡ true
  self_resolve (ResolveOf a1 b1 c1 d1 e1) = and_both _ _ (and_both _ _ (and_both _ _ (bool_self a1) (word_self b1)) (self_optional_path c1)) (self_filter d1)

  self_filter : (x : FilterTerm) → same_filter x x ≡ true
  self_filter NoFilter = refl
  self_filter (FilterOf a1 b1 c1 d1) = and_both _ _ (and_both _ _ (optional_text_self a1) (self_type b1)) (self_optional_expr c1)

  self_head : (x : HeadTerm) → same_head x x ≡ true
  self_head NoHead = refl
  self_head (HeadOf a1 b1 c1 d1) = and_both _ _ (and_both _ _ (text_self a1) (self_optional_type b1)) (self_accumulator c1)

  self_accumulator : (x : AccumulatorTerm) → same_accumulator x x ≡ true
  self_accumulator NoAccumulator = refl
  self_accumulator (AccumulatorOf a1 b1 c1 d1) = and_both _ _ (and_both _ _ (text_self a1) (self_type b1)) (self_expr c1)

  self_step : (x : StepTerm) → same_step x x ≡ true
  self_step (DotStep a1 b1 c1) = and_both _ _ (text_self a1) (self_args b1)
  self_step (ArrowStep a1 b1 c1 d1) = and_both _ _ (and_both _ _ (text_self a1) (self_head b1)) (self_exprs c1)
  self_step (DotMapStep a1) = self_map_call a1
  self_step (ArrowMapStep a1) = self_map_call a1
  self_step (DotResolveStep a1) = self_resolve a1
  self_step (ArrowResolveStep a1) = self_resolve a1

  self_steps : (x : StepTerms) → same_steps x x ≡ true
  self_steps NoSteps = refl
  self_steps (MoreSteps a1 b1) = and_both _ _ (self_step a1) (self_steps b1)

  self_target : (x : TargetTerm) → same_target x x ≡ true
  self_target (BareTarget a1 b1) = text_self a1
  self_target (ResultTarget a1) = refl
  self_target (MemberTarget a1 b1 c1) = and_both _ _ (self_expr a1) (text_self b1)

  self_stmt : (x : StmtTerm) → same_stmt x x ≡ true
  self_stmt (VarStmt a1 b1 c1 d1) = and_both _ _ (and_both _ _ (text_self a1) (self_optional_type b1)) (self_optional_expr c1)
  self_stmt (AssignStmt a1 b1 c1 d1) = and_both _ _ (and_both _ _ (self_target a1) (bool_self b1)) (self_expr c1)
  self_stmt (ReturnStmt a1 b1) = self_optional_expr a1
  self_stmt (ValueStmt a1 b1) = self_expr a1
  self_stmt (IfStmt a1 b1 c1 d1 e1) = and_both _ _ (and_both _ _ (and_both _ _ (self_expr a1) (self_stmts b1)) (self_arms c1)) (self_else d1)
  self_stmt (WhileStmt a1 b1 c1) = and_both _ _ (self_expr a1) (self_stmts b1)
  self_stmt (ForEachStmt a1 b1 c1 d1 e1 f1) = and_both _ _ (and_both _ _ (and_both _ _ (and_both _ _ (self_expr a1) (text_self b1)) (self_optional_type c1)) (self_optional_expr d1)) (self_stmts e1)

  pub self_stmts : (x : StmtTerms) → same_stmts x x ≡ true
  self_stmts NoStmts = refl
  self_stmts (MoreStmts a1 b1) = and_both _ _ (self_stmt a1) (self_stmts b1)

  self_else : (x : ElseTerm) → same_else x x ≡ true
  self_else NoElse = refl
  self_else (ElseOf a1) = self_stmts a1

  self_arm : (x : ArmTerm) → same_arm x x ≡ true
  self_arm (ArmOf a1 b1) = and_both _ _ (self_expr a1) (self_stmts b1)

  self_arms : (x : ArmTerms) → same_arms x x ≡ true
  self_arms NoArms = refl
  self_arms (MoreArms a1 b1) = and_both _ _ (self_arm a1) (self_arms b1)
