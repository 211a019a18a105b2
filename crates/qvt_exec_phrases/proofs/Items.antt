-- What is done for the items of collections.
use Rattle.std.proofs.Common.{◌≡◌, ◌∙◌, refl, sym, ap, subst, ℕ, zero, suc, ◌+◌, ◌<◌, false, List, [], ◌∷◌, ◌++◌, drop, length, get_or, Result, Ok, Err, IsErrAnd, arith}
use Rattle.std.proofs.lemmas.List.{drop_all, drop_more}
use Rattle.qvt_base.specs.declared.numbers.Place.{Place}
use Rattle.qvt_value.specs.Make.{is_invalid}
use Rattle.qvt_value.specs.declared.value.Value.{Value, Invalid, Coll', Row_of-Value, end_of-Value, more_of-Value, items-the_row-Value, items_hidden-the_row-Value-0}
use Rattle.qvt_value.specs.declared.value.Value.TheViews.{Coll}
use Rattle.qvt_value.specs.declared.value.Kind.{Kind}
use Rattle.qvt_run_data.specs.declared.late.LateWrite.{LateWrite}
use Rattle.qvt_run_data.specs.declared.exit.Halt.{Halt}
use Rattle.qvt_run_data.specs.declared.exit.Halt.TheVariants.{Exits, NoMemory}
use Rattle.qvt_run_rules.specs.State.{State, Done, Does, on_outcome}
use Rattle.qvt_exec_state.specs.Runs.{Runs}
use Rattle.qvt_exec_state.specs.declared.state.RunState.{RunState}
use Rattle.qvt_run_rules.specs.Sources.{as_flat, collected_kind, for_items, for_row, in_turn, unless_invalid}
use Rattle.qvt_exec_phrases.specs.Choice.{for_list}

pub row_is_list : (at : Place) (f : Value → Does LateWrite Value) {m : _} (r : Row_of-Value m) → for_list at f (items-the_row-Value m r) ≡ for_row at f r
row_is_list at f end_of-Value = refl
row_is_list at f (more_of-Value v vs) = ap (λ l. for_items at f v ∷ l) (row_is_list at f vs)

abbrev items_of : Value → List Value
items_of (Coll' k s r) = items-the_row-Value _ r
items_of v = []

abbrev kind_of : Value → Kind → Kind
kind_of (Coll' k s r) l = k
kind_of v l = l

abbrev IsColl : Value → Type 0
IsColl (Coll' k s r) = Unit {0}
IsColl v = ⊥

inner : (at : Place) (f : Value → Does LateWrite Value) (l : Kind) (v : Value) → IsColl v → for_items at f v ≡ in_turn (as_flat at (collected_kind (kind_of v l))) [] (for_list at f (items_of v))
inner at f l (Coll' k s r) h = ap (λ ps. in_turn (as_flat at (collected_kind k)) [] ps) (sym (row_is_list at f r))
inner at f l v h = absurd h

pub for_coll : (at : Place) (f : Value → Does LateWrite Value) (k : Kind) (vs : List Value) → for_items at f (Coll k vs) ≡ in_turn (as_flat at (collected_kind k)) [] (for_list at f vs)
for_coll at f k vs = inner at f k (Coll k vs) tt ∙ ap (λ xs. in_turn (as_flat at (collected_kind k)) [] (for_list at f xs)) (items_hidden-the_row-Value-0 vs)

-- what follows an outcome
abbrev onto : {A B : Type 0} → (A → Does LateWrite B) → Done LateWrite A → Done LateWrite B
onto f q = on_outcome q.0 q.1 f

-- one that ends
ends : {A B : Type 0} (q : Done LateWrite A) (f : A → Does LateWrite B) (d : Done LateWrite B) (h : Halt) (r : Result B Halt) (t : RunState) →
    d ≡ on_outcome q.0 q.1 f → Runs q (Err h) t → IsErrAnd r (λ e. e ≡ h) → Runs d r t
ends q f d h (Ok x) t e k is = absurd is
ends q f d NoMemory (Err g) t e k is = subst (λ (z : Halt). Runs d (Err z) t) (sym is) tt
ends q f d (Exits x) (Err g) t e k is = subst (λ (z : Halt). Runs d (Err z) t) (sym is) (e ∙ ap (onto f) k)

module _ (at : Place) (fin : List Value → Does LateWrite Value) where
  -- the answers for the rest of a list, behind this value
  abbrev then_rest : (Value → Does LateWrite Value) → List Value → List Value → Value → Does LateWrite Value
  then_rest f done rest w = unless_invalid w (in_turn fin (done ++ w ∷ []) (for_list at f rest))

  next_is : (f : Value → Does LateWrite Value) (done xs : List Value) (i : ℕ) (x : Value) (s : State LateWrite) → i < length xs → x ≡ get_or xs i x →
      in_turn fin done (for_list at f (drop i xs)) s ≡ on_outcome (for_items at f x s).0 (for_items at f x s).1 (then_rest f done (drop (i + 1) xs))
  next_is f done xs i x s within is =
      ap (λ (ys : List Value). in_turn fin done (for_list at f ys) s) (drop_more xs i x within)
      ∙ ap (λ (y : Value). on_outcome (for_items at f y s).0 (for_items at f y s).1 (then_rest f done (drop (i + 1) xs))) (sym is)

  -- an item ends it
  pub item_ends : (f g : Value → Does LateWrite Value) (done xs : List Value) (i : ℕ) (x : Value) (s : State LateWrite) (d : Done LateWrite Value) (h : Halt) (r : Result Value Halt) (t : RunState) →
      i < length xs → x ≡ get_or xs i x → in_turn fin done (for_list at f (drop i xs)) s ≡ d → g ≡ f → Runs (for_items at g x s) (Err h) t → IsErrAnd r (λ e. e ≡ h) → Runs d r t
  item_ends f g done xs i x s d h r t within is before same on err =
      ends (for_items at f x s) (then_rest f done (drop (i + 1) xs)) d h r t (sym before ∙ next_is f done xs i x s within is)
      (subst (λ (k : Value → Does LateWrite Value). Runs (for_items at k x s) (Err h) t) same on) err

  goes_on : (w : Value) (q : Does LateWrite Value) → is_invalid w ≡ false → unless_invalid w q ≡ q
  goes_on (Invalid r p) q h = absurd (cc)
  goes_on w q h = refl

  rest_is : (f h : Value → Does LateWrite Value) (xs : List Value) (i : ℕ) (left : ℕ) → left + i ≡ length xs → (0 < left → h ≡ f) → for_list at h (drop i xs) ≡ for_list at f (drop i xs)
  rest_is f h xs i zero all kept = ap (λ (ys : List Value). for_list at h ys) (drop_all i xs (omega (arith, all))) ∙ sym (ap (λ (ys : List Value). for_list at f ys) (drop_all i xs (omega (arith, all))))
  rest_is f h xs i (suc left) all kept = ap (λ (k : Value → Does LateWrite Value). for_list at k (drop i xs)) (kept (omega arith))

  -- an item gives a value that is not invalid
  pub item_on : (f g h : Value → Does LateWrite Value) (done more xs : List Value) (i left : ℕ) (x w : Value) (s t : State LateWrite) (d : Done LateWrite Value) →
      i < length xs → x ≡ get_or xs i x → in_turn fin done (for_list at f (drop i xs)) s ≡ d → g ≡ f → for_items at g x s ≡ (Ok w, t) → is_invalid w ≡ false → more ≡ done ++ w ∷ []
      → left + (i + 1) ≡ length xs → (0 < left → h ≡ f) → in_turn fin more (for_list at h (drop (i + 1) xs)) t ≡ d
  item_on f g h done more xs i left x w s t d within is before same on sure put all kept =
      ap (λ (ps : List (Does LateWrite Value)). in_turn fin more ps t) (rest_is f h xs (i + 1) left all kept)
      ∙ ap (λ (vs : List Value). in_turn fin vs (for_list at f (drop (i + 1) xs)) t) put
      ∙ sym (ap (λ (q : Does LateWrite Value). q t) (goes_on w (in_turn fin (done ++ w ∷ []) (for_list at f (drop (i + 1) xs))) sure))
      ∙ sym (ap (λ (q : Done LateWrite Value). on_outcome q.0 q.1 (then_rest f done (drop (i + 1) xs))) (subst (λ (k : Value → Does LateWrite Value). for_items at k x s ≡ (Ok w, t)) same on))
      ∙ sym (next_is f done xs i x s within is) ∙ before
