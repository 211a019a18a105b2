-- An expression with steps does what it does with the source of an operation lent.
use Rattle.std.proofs.Common.{◌≡◌, ◌∙◌, ℕ, zero, suc, Bool, true, false, if◌then◌else◌, refl, sym, ap, List, [], ◌∷◌, drop, Option, Some, None, Result, Ok, Err}
use Rattle.qvt_base.specs.declared.numbers.Place.{Place}
use Rattle.qvt_types_data.specs.declared.note.Note.{Note}
use Rattle.qvt_types_data.specs.declared.note.Reading.{Reading}
use Rattle.qvt_types_data.specs.declared.note.Reading.TheVariants as reading
use Rattle.qvt_types_data.specs.declared.ty.Ty.{Ty}
use Rattle.qvt_types_nodes.specs.Tree.{TypedExprTerm, TypedSelfExpr, TypedResultExpr, TypedPathExpr, TypedExprTerms, TypedHeadTerm, TypedNoArgs, TypedSomeArgs, TypedDotStep, TypedArrowStep, TypedDotMapStep, TypedArrowMapStep, TypedDotResolveStep, TypedArrowResolveStep, TypedStepTerms, TypedNoSteps, TypedMoreSteps}
use Rattle.qvt_types_steps.specs.Classes.{is_selection}
use Rattle.qvt_types_steps.specs.IteratorTable.{iterator_named}
use Rattle.qvt_types_steps.specs.OperationNames.{operation_named}
use Rattle.qvt_types_steps.specs.declared.iterators.IteratorKind.{IteratorKind}
use Rattle.qvt_value.specs.declared.value.Kind.{Kind}
use Rattle.qvt_value.specs.declared.value.Value.{Value, Null, Obj, Invalid}
use Rattle.qvt_ocl_words.specs.declared.op.Op.{Op}
use Rattle.qvt_run_data.specs.declared.exit.Exit.{Exit}
use Rattle.qvt_run_rules.specs.State.{State, Done, Does, on_outcome, ◌>>=◌, ◌>>◌, pure, misfit, found}
use Rattle.qvt_run_rules.specs.Calls.{CallRule}
use Rattle.qvt_run_rules.specs.Locals.{local_named, value_in, read}
use Rattle.qvt_run_rules.specs.Sources.{before_arrow}
use Rattle.qvt_run_rules.specs.Store as store
use Rattle.qvt_run_rules.specs.Store.{read_property}
use Rattle.qvt_run_rules.specs.Expressions as rule
use Rattle.qvt_meaning.specs.Nodes.{type_of, class_argument}
use Rattle.qvt_meaning.specs.Phrases as of
use Rattle.qvt_meaning.specs.Readings as by
use Rattle.qvt_meaning.specs.Readings.{Setting, HeadDoes}
use Rattle.qvt_meaning.specs.StepTypes.{step_type, kind_before}
use Rattle.qvt_exec_quiet.specs.Leaves.{IsQuiet, are_quiet}
use Rattle.qvt_exec_quiet.specs.Lent.{SourceTerm, OfVariable, OfImplicit, OfSlot, LentTerm, steps_before, source_in, source_named, slot_in, slot_named, lent_slot, lent_by, lent_first, lent_with, lent_from, type_before, kind_for, reading_of, there, given_of, with_done, or_first, along_rest, charged, lent_operation, begun_of, LentFirst}
use Rattle.qvt_exec_quiet.specs.Operations.{unless_iterator, operation_alone}
use Rattle.qvt_exec_quiet.proofs.Leaving.{follows, quiet_leave}

-- ---- what follows what

module _ {E : Type 0} where
  same_after : {A B : Type 0} (o : Result A Exit) (t : State E) (f g : A → Does E B) → ((a : A) → f a t ≡ g a t) → on_outcome o t f ≡ on_outcome o t g
  same_after (Ok a) t f g h = h a
  same_after (Err e) t f g h = refl

  grouped_after : {A B C : Type 0} (o : Result A Exit) (t : State E) (f : A → Does E B) (g : B → Does E C) →
      on_outcome (on_outcome o t f).0 (on_outcome o t f).1 g ≡ on_outcome o t (λ a. f a >>= g)
  grouped_after (Ok a) t f g = refl
  grouped_after (Err e) t f g = refl

  grouped : {A B C : Type 0} (p : Does E A) (f : A → Does E B) (g : B → Does E C) (s : State E) → (p >>= f >>= g) s ≡ (p >>= (λ a. f a >>= g)) s
  grouped p f g s = grouped_after (p s).0 (p s).1 f g

  behind : {A B : Type 0} (p : Does E A) (f g : A → Does E B) (s : State E) → ((a : A) (t : State E) → f a t ≡ g a t) → (p >>= f) s ≡ (p >>= g) s
  behind p f g s h = same_after (p s).0 (p s).1 f g (λ a. h a (p s).1)

  before : {A B : Type 0} (p q : Does E A) (f : A → Does E B) (s : State E) → p s ≡ q s → (p >>= f) s ≡ (q >>= f) s
  before {A} p q f s h = ap (λ (d : Done E A). on_outcome d.0 d.1 f) h

-- ---- phrases that read alone: whatever the cost is, and leaving all as it is

record IsReading {E A : Type 0} (p : Does E A) : Type 0 where
  same : (s : State E) → (p s).1 ≡ s
  still : (s : State E) (c : ℕ) → (p (record s { cost = c })).0 ≡ (p s).0

module _ {E : Type 0} where
  found_same : {A : Type 0} (o : Option A) (at : Place) (s : State E) → (found o at s).1 ≡ s
  found_same None at s = refl
  found_same (Some a) at s = refl

  found_still : {A : Type 0} (o : Option A) (at : Place) (s t : State E) → (found o at t).0 ≡ (found o at s).0
  found_still None at s t = refl
  found_still (Some a) at s t = refl

  gives : {A : Type 0} (a : A) → IsReading {E = E} (pure a)
  gives a = record { same = λ s. refl; still = λ s c. refl }

  fits_not : {A : Type 0} (at : Place) → IsReading {E = E} {A = A} (misfit at)
  fits_not at = record { same = λ s. refl; still = λ s c. refl }

  reads : (name : List ℕ) (at : Place) → IsReading {E = E} (read name at)
  unfolding read
  reads name at = record { same = λ s. found_same (value_in (local_named name s.locals)) at s; still = λ s c. found_still (value_in (local_named name s.locals)) at s (record s { cost = c }) }

  property : (f : ℕ) (at : Place) (v : Value) → IsReading {E = E} (rule.property_of f at v)
  unfolding read_property
  property f at (Invalid r p) = gives (Invalid r p)
  property f at Null = record { same = λ s. refl; still = λ s c. refl }
  property f at (Obj o) = record { same = λ s. found_same (store.property at s.store o.0 f) at s; still = λ s c. found_still (store.property at s.store o.0 f) at s (record s { cost = c }) }
  property f at v = fits_not at

  goes_on_same : {A B : Type 0} (f : A → Does E B) (o : Result A Exit) (t s : State E) → ((a : A) → IsReading (f a)) → t ≡ s → (on_outcome o t f).1 ≡ s
  goes_on_same f (Ok a) t s r h = (r a).same t ∙ h
  goes_on_same f (Err e) t s r h = h

  goes_on_still : {A B : Type 0} (f : A → Does E B) (o : Result A Exit) (s : State E) (c : ℕ) → ((a : A) → IsReading (f a)) → (on_outcome o (record s { cost = c }) f).0 ≡ (on_outcome o s f).0
  goes_on_still f (Ok a) s c r = (r a).still s c
  goes_on_still f (Err e) s c r = refl

  both_read : {A B : Type 0} (p : Does E A) (f : A → Does E B) → IsReading p → ((a : A) → IsReading (f a)) → IsReading (p >>= f)
  both_read {A} p f q r = record {
    same = λ s. goes_on_same f (p s).0 (p s).1 s r (q.same s);
    still = λ s c.
        ap (λ (t : State E). (on_outcome (p (record s { cost = c })).0 t f).0) (q.same (record s { cost = c }))
        ∙ ap (λ (o : Result A Exit). (on_outcome o (record s { cost = c }) f).0) (q.still s c)
        ∙ goes_on_still f (p s).0 s c r
        ∙ sym (ap (λ (t : State E). (on_outcome (p s).0 t f).0) (q.same s));
  }

  source_reads : (l : SourceTerm) → IsReading {E = E} (reading_of l)
  source_reads (OfVariable name at) = reads name at
  source_reads (OfImplicit name f at) = both_read (read name at) (rule.property_of f at) (reads name at) (property f at)
  source_reads (OfSlot name at f dot) = both_read (read name at) (rule.property_of f dot) (reads name at) (property f dot)

  -- ---- what is read is read again behind a phrase that leaves all but the cost

  again : {A B : Type 0} (p : Does E A) (g : A → Does E B) (a : A) (t u : State E) → IsReading p → (p t).0 ≡ Ok a → u ≡ record t { cost = u.cost } → g a u ≡ (p >>= g) u
  again {A} p g a t u r is kept =
      let value : (p u).0 ≡ Ok a = ap (λ (w : State E). (p w).0) kept ∙ r.still t u.cost ∙ is in
      sym (ap (λ (o : Result A Exit). on_outcome o (p u).1 g) value ∙ ap (λ (w : State E). g a w) (r.same u))

  again_after : {A B C : Type 0} (p : Does E A) (g : A → B → Does E C) (a : A) (o : Result B Exit) (t u : State E) → IsReading p → (p t).0 ≡ Ok a → u ≡ record t { cost = u.cost } →
      on_outcome o u (g a) ≡ on_outcome o u (λ b. p >>= (λ w. g w b))
  again_after p g a (Ok b) t u r is kept = again p (λ w. g w b) a t u r is kept
  again_after p g a (Err e) t u r is kept = refl

  late_after : {A B C : Type 0} (p : Does E A) (q : Does E B) (g : A → B → Does E C) (o : Result A Exit) (t : State E) → IsReading p → IsQuiet q → (p t).0 ≡ o →
      on_outcome o t (λ a. q >>= g a) ≡ ((λ (u : State E). on_outcome o u (λ _. pure {E = E} {A = Unit {0}} tt)) >> q >>= (λ b. p >>= (λ w. g w b))) t
  late_after p q g (Ok a) t r k is = again_after p g a (q t).0 t (q t).1 r is (k.leaves t)
  late_after p q g (Err e) t r k is = refl

  late : {A B C : Type 0} (p : Does E A) (q : Does E B) (g : A → B → Does E C) (s : State E) → IsReading p → IsQuiet q →
      (p >>= (λ a. q >>= g a)) s ≡ ((there p >> q) >>= (λ b. p >>= (λ w. g w b))) s
  late {A} {B} {C} p q g s r k =
      ap (λ (t : State E). on_outcome (p s).0 t (λ a. q >>= g a)) (r.same s)
      ∙ late_after p q g (p s).0 s r k refl
      ∙ sym (ap (λ (t : State E). ((λ (u : State E). on_outcome (p s).0 t (λ _. pure {E = E} {A = Unit {0}} tt)) >> q >>= (λ b. p >>= (λ w. g w b))) s) (r.same s))

-- ---- the operation, with its source lent

module _ {E : Type 0} (x : Setting E) (calls : CallRule E) (answer : Option Ty) (charges : (n : ℕ) → IsQuiet (x.spend n)) where
  abbrev tick : Does E (Unit {0})
  tick = rule.tick x.spend

  -- the source, as it is written
  abbrev source_does : SourceTerm → Does E Value
  source_does (OfVariable name at) = rule.variable x.spend name at
  source_does (OfImplicit name f at) = rule.implicit x.spend name f at
  source_does (OfSlot name at f dot) = rule.variable x.spend name at >>= rule.dot x.spend false f dot

  source_is : (l : SourceTerm) (s : State E) → source_does l s ≡ (charged x.spend l >> reading_of l) s
  unfolding rule.variable rule.implicit rule.dot
  source_is (OfVariable name at) s = refl
  source_is (OfImplicit name f at) s = refl
  source_is (OfSlot name at f dot) s =
      let p : Does E Value = read name at in
      let g : Value → Unit {0} → Does E Value = λ v _. rule.property_of f dot v in
      grouped tick (λ _. p) (λ v. tick >>= g v) s
      ∙ behind tick (λ _. p >>= (λ v. tick >>= g v)) (λ _. (there p >> tick) >>= (λ u. p >>= (λ w. g w u))) s (λ _ t. late p tick g t (reads name at) (charges 1))
      ∙ sym (grouped tick (λ _. there p >> tick) (λ u. p >>= (λ w. g w u)) s)

  -- the operation on it, as it is written
  abbrev written : Kind → LentTerm → Does E Value
  written k l = source_does l.source >>= (λ v. rule.called x.spend false l.op (of.exprs x calls answer l.args) l.at (before_arrow l.wrap k v))

  lends : (k : Kind) (l : LentTerm) (s : State E) → are_quiet l.args ≡ true → written k l s ≡ lent_operation x calls answer k l s
  unfolding rule.called given_of
  lends k l s h =
      let c : Does E (Unit {0}) = charged x.spend l.source in
      let r : Does E Value = reading_of l.source in
      let ps : Does E (List Value) = rule.values (of.exprs x calls answer l.args) in
      let p : Does E (List Value) = tick >> ps in
      let g : Value → List Value → Does E Value = λ v ws. rule.applied x.spend l.op ws l.at (before_arrow l.wrap k v) in
      let given : List Value → Does E Value = λ ws. r >>= (λ v. g v ws) in
      let q : IsQuiet p = follows tick (λ _. ps) (charges 1) (λ _. quiet_leave x calls answer charges l.args h) in
      before (source_does l.source) (c >> r) (λ v. tick >> (ps >>= g v)) s (source_is l.source s)
      ∙ grouped c (λ _. r) (λ v. tick >> (ps >>= g v)) s
      ∙ behind c (λ _. r >>= (λ v. tick >> (ps >>= g v))) (λ _. (there r >> p) >>= given) s (λ _ t.
      behind r (λ v. tick >> (ps >>= g v)) (λ v. p >>= g v) t (λ v u. sym (grouped tick (λ _. ps) (g v) u))
      ∙ late r p g t (source_reads l.source) q)
      ∙ sym (grouped c (λ _. there r >> p) given s)

  -- ---- which steps they are

  abbrev source_or : Option SourceTerm → Does E Value
  source_or None = pure Null
  source_or (Some l) = source_does l

  by_reading : (r : Reading) (source : Option (List ℕ)) (at : Place) (l : SourceTerm) → source_in r source at ≡ Some l → by.name_of x.spend r source at ≡ source_does l
  by_reading (reading.Variable m) source at l h = ap source_or h
  by_reading (reading.Feature f) (Some source) at l h = ap source_or h
  by_reading r source at l h = absurd (cc)

  of_source : (e : TypedExprTerm) (l : SourceTerm) → source_named e ≡ Some l → of.expr x calls answer e ≡ source_does l
  unfolding of.expr
  of_source (TypedSelfExpr at n) l h = ap source_or h
  of_source (TypedResultExpr at n) l h = ap source_or h
  of_source (TypedPathExpr p) l h = by_reading p.note.reading p.note.source p.place l h
  of_source e l h = absurd (cc)

  -- no step stands before its arrow
  abbrev before_or : Option SourceTerm → ℕ
  before_or None = 0
  before_or (Some l) = steps_before l

  by_reading_alone : (r : Reading) (source : Option (List ℕ)) (at : Place) (l : SourceTerm) → source_in r source at ≡ Some l → 0 ≡ steps_before l
  by_reading_alone (reading.Variable m) source at l h = ap before_or h
  by_reading_alone (reading.Feature f) (Some source) at l h = ap before_or h
  by_reading_alone r source at l h = absurd (cc)

  stands_alone : (e : TypedExprTerm) (l : SourceTerm) → source_named e ≡ Some l → 0 ≡ steps_before l
  stands_alone (TypedSelfExpr at n) l h = ap before_or h
  stands_alone (TypedResultExpr at n) l h = ap before_or h
  stands_alone (TypedPathExpr p) l h = by_reading_alone p.note.reading p.note.source p.place l h
  stands_alone e l h = absurd (cc)

  -- what an arrow does by what its name is
  abbrev arrow_does : List ℕ → HeadDoes E → List (Does E Value) → Option ℕ → Place → Value → Bool → Option IteratorKind → Option Op → Does E Value
  arrow_does name h ps c at v true i o = by.selection_by x.spend name c at v
  arrow_does name h ps c at v false None o = by.operation_by x o ps false at v
  arrow_does name h ps c at v false (Some i) o = by.iterator_step x i h ps at v

  abbrev alone : Bool → Option IteratorKind → Option Op → Option Op
  alone b i o = if b then None else unless_iterator i o

  by_words : (name : List ℕ) (h : HeadDoes E) (ps : List (Does E Value)) (c : Option ℕ) (at : Place) (v : Value) (b : Bool) (i : Option IteratorKind) →
      (if b then by.selection_by x.spend name c at v else by.named_step x i name h ps at v) ≡ arrow_does name h ps c at v b i (operation_named name)
  by_words name h ps c at v true i = refl
  by_words name h ps c at v false None = refl
  by_words name h ps c at v false (Some i) = refl

  by_alone : (name : List ℕ) (h : HeadDoes E) (ps : List (Does E Value)) (c : Option ℕ) (at : Place) (v : Value) (b : Bool) (i : Option IteratorKind) (o : Option Op) (op : Op) → alone b i o ≡ Some op →
      arrow_does name h ps c at v b i o ≡ rule.called x.spend false op ps at v
  by_alone name h ps c at v true i o op e = absurd (cc)
  by_alone name h ps c at v false None o op e = ap (λ k. by.operation_by x k ps false at v) e
  by_alone name h ps c at v false (Some i) o op e = absurd (cc)

  of_arrow : (name : List ℕ) (h : HeadDoes E) (ps : List (Does E Value)) (c : Option ℕ) (at : Place) (v : Value) (op : Op) → operation_alone name ≡ Some op →
      by.arrow_on x name h ps c at v ≡ rule.called x.spend false op ps at v
  of_arrow name h ps c at v op e =
      by_words name h ps c at v (is_selection name) (iterator_named name)
      ∙ by_alone name h ps c at v (is_selection name) (iterator_named name) (operation_named name) op e

  -- ---- the whole

  counts : (n : ℕ) (p : Does E Value) (all fs : List (Value → Does E Value)) (o : Result Value Exit) (t : State E) → drop n all ≡ fs →
      on_outcome o t (λ v. rule.along v fs)
      ≡ on_outcome (on_outcome (on_outcome o t (with_done n)).0 (on_outcome o t (with_done n)).1 (or_first p)).0 (on_outcome (on_outcome o t (with_done n)).0 (on_outcome o t (with_done n)).1 (or_first p)).1 (along_rest all)
  counts n p all fs (Ok v) t h = ap (λ (gs : List (Value → Does E Value)). rule.along v gs t) (sym h)
  counts n p all fs (Err e) t h = refl

  -- the operation is done with its source lent
  lent_whole : (k : Kind) (l : LentTerm) (p q : Does E Value) (f : Value → Does E Value) (all fs : List (Value → Does E Value)) (s : State E) → are_quiet l.args ≡ true → drop (suc (steps_before l.source)) all ≡ fs →
      rule.on_first p all s ≡ (q >>= (λ v. rule.along v (f ∷ fs))) s → (q >>= f) s ≡ written k l s →
      rule.on_first p all s ≡ (lent_operation x calls answer k l >>= with_done (suc (steps_before l.source)) >>= or_first p >>= along_rest all) s
  lent_whole k l p q f all fs s h rest is e =
      let whole : Does E Value = lent_operation x calls answer k l in
      is
      ∙ sym (grouped q f (λ v. rule.along v fs) s)
      ∙ before (q >>= f) whole (λ v. rule.along v fs) s (e ∙ lends k l s h)
      ∙ counts (suc (steps_before l.source)) p all fs (whole s).0 (whole s).1 rest

  abbrev tail_or : {A : Type 0} → List A → List A → List A
  tail_or l [] = l
  tail_or l (a ∷ r) = r

  next : {A : Type 0} (n : ℕ) (l : List A) (a : A) (r : List A) → drop n l ≡ a ∷ r → drop (suc n) l ≡ r
  next zero [] a r e = ap (tail_or []) e
  next zero (b ∷ l) a r e = ap (tail_or []) e
  next (suc n) [] a r e = ap (tail_or []) e
  next (suc n) (b ∷ l) a r e = next n l a r e

  module _ (e : TypedExprTerm) (ss : TypedStepTerms) (s : State E) where
    abbrev first_does : Does E Value
    first_does = of.expr x calls answer e

    abbrev all : List (Value → Does E Value)
    all = of.steps x calls answer (type_of e) ss

    abbrev Holds : Option LentTerm → Type 0
    Holds l = rule.on_first first_does all s ≡ (begun_of x calls answer (type_of e) ss l first_does >>= along_rest all) s

    nothing : Holds None
    unfolding rule.on_first
    nothing = sym (grouped first_does (λ v. pure (0, v)) (along_rest all) s)

    -- the phrase that the arrow of the source stands behind, with the steps from the arrow on and the type before it
    record Reaches (source : SourceTerm) (q : Does E Value) (o : Option Ty) (rest : TypedStepTerms) : Type 0 where
      does : q s ≡ source_does source s
      whole : rule.on_first first_does all s ≡ (q >>= (λ v. rule.along v (of.steps x calls answer o rest))) s
      behind : drop (steps_before source) all ≡ of.steps x calls answer o rest
      typed : type_before x.program (type_of e) ss (steps_before source) ≡ o

    on_arrow : (source : SourceTerm) (q : Does E Value) (o : Option Ty) (step : List ℕ) (h : TypedHeadTerm) (args : TypedExprTerms) (at : Place) (n : Note) (rest : TypedStepTerms) (op : Op) →
        Reaches source q o (TypedMoreSteps (TypedArrowStep step h args at n) rest) → operation_alone step ≡ Some op → are_quiet args ≡ true →
        Holds (Some (record { source = source; op = op; args = args; wrap = n.wrap; at = at }))
    unfolding of.steps
    on_arrow source q o step h args at n rest op r is_operation quiet =
        let l : LentTerm = record { source = source; op = op; args = args; wrap = n.wrap; at = at } in
        let k : Kind = kind_for x.program (type_of e) ss l in
        let f : Value → Does E Value = of.step x calls answer o (TypedArrowStep step h args at n) in
        let fs : List (Value → Does E Value) = of.steps x calls answer (step_type x.program (TypedArrowStep step h args at n) o) rest in
        let called : Kind → Value → Does E Value = λ z v. rule.called x.spend false op (of.exprs x calls answer args) at (before_arrow n.wrap z v) in
        lent_whole k l first_does q f all fs s quiet (next (steps_before source) all f fs r.behind) r.whole
        (before q (source_does source) f s r.does
        ∙ behind (source_does source) f (called k) s (λ v t.
        ap (λ (z : Option Ty). by.arrow_on x step (of.head x calls answer h) (of.exprs x calls answer args) (class_argument args) at (before_arrow n.wrap (kind_before z) v) t) (sym r.typed)
        ∙ ap (λ (p : Does E Value). p t) (of_arrow step (of.head x calls answer h) (of.exprs x calls answer args) (class_argument args) at (before_arrow n.wrap k v) op is_operation)))

    by_quiet : (source : SourceTerm) (q : Does E Value) (o : Option Ty) (step : List ℕ) (h : TypedHeadTerm) (args : TypedExprTerms) (at : Place) (n : Note) (rest : TypedStepTerms) (op : Op) →
        Reaches source q o (TypedMoreSteps (TypedArrowStep step h args at n) rest) → operation_alone step ≡ Some op → (b : Bool) → are_quiet args ≡ b →
        Holds (if b then Some (record { source = source; op = op; args = args; wrap = n.wrap; at = at }) else None)
    by_quiet source q o step h args at n rest op r is_operation true quiet = on_arrow source q o step h args at n rest op r is_operation quiet
    by_quiet source q o step h args at n rest op r is_operation false quiet = nothing

    by_operation : (source : SourceTerm) (q : Does E Value) (o : Option Ty) (step : List ℕ) (h : TypedHeadTerm) (args : TypedExprTerms) (at : Place) (n : Note) (rest : TypedStepTerms) →
        Reaches source q o (TypedMoreSteps (TypedArrowStep step h args at n) rest) → (op : Option Op) → operation_alone step ≡ op →
        Holds (lent_by source op args n.wrap at)
    by_operation source q o step h args at n rest r None is_operation = nothing
    by_operation source q o step h args at n rest r (Some op) is_operation = by_quiet source q o step h args at n rest op r is_operation (are_quiet args) refl

    by_steps : (source : SourceTerm) (q : Does E Value) (o : Option Ty) (rest : TypedStepTerms) → Reaches source q o rest → Holds (lent_first source rest)
    by_steps source q o TypedNoSteps r = nothing
    by_steps source q o (TypedMoreSteps (TypedArrowStep step h args at n) rest) r = by_operation source q o step h args at n rest r (operation_alone step) refl
    by_steps source q o (TypedMoreSteps (TypedDotStep step args at n) rest) r = nothing
    by_steps source q o (TypedMoreSteps (TypedDotMapStep m) rest) r = nothing
    by_steps source q o (TypedMoreSteps (TypedArrowMapStep m) rest) r = nothing
    by_steps source q o (TypedMoreSteps (TypedDotResolveStep m) rest) r = nothing
    by_steps source q o (TypedMoreSteps (TypedArrowResolveStep m) rest) r = nothing

    -- the first part is the source
    at_first : (source : SourceTerm) → source_named e ≡ Some source → Reaches source first_does (type_of e) ss
    unfolding rule.on_first
    at_first source h =
        let none : steps_before source ≡ 0 = sym (stands_alone e source h) in
        record {
          does = ap (λ (p : Does E Value). p s) (of_source e source h);
          whole = refl;
          behind = ap (λ n. drop n all) none;
          typed = ap (type_before x.program (type_of e) ss) none;
        }

  module _ (e : TypedExprTerm) (s : State E) where
    -- the first part is a variable, and the first step a property of what it holds
    at_slot : (name : List ℕ) (at : Place) (f : ℕ) (step : List ℕ) (dot : Place) (n : Note) (ss : TypedStepTerms) → source_named e ≡ Some (OfVariable name at) →
        ((v : Value) → of.step x calls answer (type_of e) (TypedDotStep step TypedNoArgs dot n) v ≡ rule.dot x.spend false f dot v) →
        Reaches e (TypedMoreSteps (TypedDotStep step TypedNoArgs dot n) ss) s (OfSlot name at f dot)
        (of.expr x calls answer e >>= of.step x calls answer (type_of e) (TypedDotStep step TypedNoArgs dot n)) (step_type x.program (TypedDotStep step TypedNoArgs dot n) (type_of e)) ss
    unfolding rule.on_first of.steps
    at_slot name at f step dot n ss h is =
        let p : Does E Value = of.expr x calls answer e in
        let d : Value → Does E Value = of.step x calls answer (type_of e) (TypedDotStep step TypedNoArgs dot n) in
        record {
          does =
              before p (rule.variable x.spend name at) d s (ap (λ (q : Does E Value). q s) (of_source e (OfVariable name at) h))
              ∙ behind (rule.variable x.spend name at) d (rule.dot x.spend false f dot) s (λ v t. ap (λ (q : Does E Value). q t) (is v));
          whole = sym (grouped p d (λ v. rule.along v (of.steps x calls answer (step_type x.program (TypedDotStep step TypedNoArgs dot n) (type_of e)) ss)) s);
          behind = refl;
          typed = refl;
        }

    by_slot : (name : List ℕ) (at : Place) (step : List ℕ) (dot : Place) (n : Note) (ss : TypedStepTerms) → source_named e ≡ Some (OfVariable name at) → (c : Bool) (r : Reading) → n.collect ≡ c → n.reading ≡ r →
        Holds e (TypedMoreSteps (TypedDotStep step TypedNoArgs dot n) ss) s (lent_slot (slot_in c r name at dot) ss)
    unfolding of.step
    by_slot name at step dot n ss h false (reading.Feature f) collects reads_as =
        by_steps e (TypedMoreSteps (TypedDotStep step TypedNoArgs dot n) ss) s (OfSlot name at f.0 dot)
        (of.expr x calls answer e >>= of.step x calls answer (type_of e) (TypedDotStep step TypedNoArgs dot n)) (step_type x.program (TypedDotStep step TypedNoArgs dot n) (type_of e)) ss
        (at_slot name at f.0 step dot n ss h (λ v. ap (λ (z : Reading). by.property_by x.spend z n.collect dot v) reads_as ∙ ap (λ (z : Bool). by.property_by x.spend (reading.Feature f) z dot v) collects))
    by_slot name at step dot n ss h c r collects reads_as = nothing e (TypedMoreSteps (TypedDotStep step TypedNoArgs dot n) ss) s

    by_dot : (source : SourceTerm) (step : List ℕ) (dot : Place) (n : Note) (ss : TypedStepTerms) → source_named e ≡ Some source →
        Holds e (TypedMoreSteps (TypedDotStep step TypedNoArgs dot n) ss) s (lent_slot (slot_named source dot n) ss)
    by_dot (OfVariable name at) step dot n ss h = by_slot name at step dot n ss h n.collect n.reading refl refl
    by_dot (OfImplicit name f at) step dot n ss h = nothing e (TypedMoreSteps (TypedDotStep step TypedNoArgs dot n) ss) s
    by_dot (OfSlot name at f d) step dot n ss h = nothing e (TypedMoreSteps (TypedDotStep step TypedNoArgs dot n) ss) s

    by_first : (source : SourceTerm) (ss : TypedStepTerms) → source_named e ≡ Some source → Holds e ss s (lent_with source ss)
    by_first source TypedNoSteps h = nothing e TypedNoSteps s
    by_first source (TypedMoreSteps (TypedDotStep step TypedNoArgs dot n) ss) h = by_dot source step dot n ss h
    by_first source (TypedMoreSteps (TypedDotStep step (TypedSomeArgs es) dot n) ss) h = nothing e (TypedMoreSteps (TypedDotStep step (TypedSomeArgs es) dot n) ss) s
    by_first source (TypedMoreSteps (TypedArrowStep step hd args at n) ss) h =
        by_steps e (TypedMoreSteps (TypedArrowStep step hd args at n) ss) s source (of.expr x calls answer e) (type_of e) (TypedMoreSteps (TypedArrowStep step hd args at n) ss)
        (at_first e (TypedMoreSteps (TypedArrowStep step hd args at n) ss) s source h)
    by_first source (TypedMoreSteps (TypedDotMapStep m) ss) h = nothing e (TypedMoreSteps (TypedDotMapStep m) ss) s
    by_first source (TypedMoreSteps (TypedArrowMapStep m) ss) h = nothing e (TypedMoreSteps (TypedArrowMapStep m) ss) s
    by_first source (TypedMoreSteps (TypedDotResolveStep m) ss) h = nothing e (TypedMoreSteps (TypedDotResolveStep m) ss) s
    by_first source (TypedMoreSteps (TypedArrowResolveStep m) ss) h = nothing e (TypedMoreSteps (TypedArrowResolveStep m) ss) s

    by_source : (source : Option SourceTerm) (ss : TypedStepTerms) → source_named e ≡ source → Holds e ss s (lent_from source ss)
    by_source None ss h = nothing e ss s
    by_source (Some source) ss h = by_first source ss h

pub lends_first : {E : Type 0} → LentFirst E
lends_first x calls answer charges e ss s = by_source x calls answer charges e s (source_named e) ss refl
