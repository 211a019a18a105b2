-- Arguments that are there, by their types; and which of them may be null.
use Rattle.std.proofs.Common.{◌≡◌, ◌∙◌, ℕ, Bool, true, false, ◌||◌, ◌&&◌, ◌==◌, cond, ℤ, List, [], ◌∷◌, refl, sym, ap, subst}
use Rattle.std.specs.Prelude.{⊤, IsTrue, Option, Some, None}
use Rattle.std.specs.List.{list_any}
use Rattle.std.proofs.lemmas.Bool.{eqb-true}
use Rattle.qvt_base.specs.declared.numbers.Oid.{Oid}
use Rattle.qvt_value.specs.declared.value.LiteralRef.{LiteralRef}
use Rattle.qvt_value.specs.declared.value.Value.{Value, Null, Bool as Truth, Int, Str, Enum, Obj, Coll', Invalid, items-the_row-Value}
use Rattle.qvt_value.specs.declared.value.Kind.{Kind}
use Rattle.qvt_value.specs.declared.value.Kind.TheVariants.{Set, Bag, Sequence, OrderedSet}
use Rattle.qvt_value.specs.Make.{is_invalid}
use Rattle.qvt_ocl_words.specs.declared.op.Op.{Op}
use Rattle.qvt_ocl_words.specs.declared.op.Op.TheVariants.{Includes, Excludes, Count, Including, Excluding, IndexOf, Append, Prepend, InsertAt}
use Rattle.qvt_ocl_words.specs.Lists.{is_null}
use Rattle.qvt_ocl_words.specs.Collections.{same_kind}
use Rattle.qvt_ocl_words.specs.Operation.{besides_items, takes_item}
use Rattle.qvt_types_data.specs.Term.{TyTerm, Void, Boolean, Integer, Text, Literals, Class, Collection}
use Rattle.qvt_ocl_types.specs.Types.{conforms, join}
use Rattle.qvt_ocl_types.specs.declared.signature.ArgumentSort.{ArgumentSort}
use Rattle.qvt_ocl_types.specs.declared.signature.ArgumentSort.TheVariants as param
use Rattle.qvt_ocl_types.specs.declared.signature.Kinds.{Kinds}
use Rattle.qvt_ocl_types.specs.Table.{listed, allows}
use Rattle.qvt_ocl_types.specs.Fits.{Each, Sure, IsCollection, Fits}
use Rattle.qvt_ocl_types.specs.Rows.{FitsWithin, GivenArguments}
use Rattle.qvt_ocl_types.specs.Typing.{Taken, accepts, on_join, on_items}
use Rattle.qvt_ocl_types.specs.Law.{AreBelow, AllFit}
use Rattle.qvt_ocl_types.proofs.Fitting as fit

same : (k l : Kind) → same_kind k l ≡ true → k ≡ l
same Set Set h = refl
same Bag Bag h = refl
same Sequence Sequence h = refl
same OrderedSet OrderedSet h = refl
same k l h = cc

both : (a b : Bool) → (a && b) ≡ true → (a ≡ true) × (b ≡ true)
both true b h = (refl, h)
both false b h = cc

some_same : {A : Type 0} (a b : A) → Some a ≡ Some b → a ≡ b
some_same a b h = cc

module _ (below : ℕ → ℕ → Bool) (literals : ℕ → ℕ → LiteralRef → Bool) (objects : ℕ → Oid → Bool) (ab : AreBelow below objects) where
  abbrev In : TyTerm → Value → Type 0
  In T v = Fits literals objects T v

  -- what fits a type fits one to which it conforms
  nothing : (U : TyTerm) (v : Value) → In Void v → In U v
  nothing U Null h = fit.null_fits literals objects U
  nothing U (Invalid r p) h = fit.invalid_fits literals objects U r p
  nothing U v h = absurd h

  each : (P Q : Value → Type 0) → ((v : Value) → P v → Q v) → (k l : Kind) → k ≡ l → (v : Value) → IsCollection k P v → IsCollection l Q v
  each P Q f k l e (Coll' m s r) h = (h.0 ∙ e, fit.each_map (Sure P) (Sure Q) (λ v g. (f v g.0, g.1)) (items-the_row-Value _ r) h.1)
  each P Q f k l e Null h = tt
  each P Q f k l e (Invalid r p) h = tt
  each P Q f k l e v h = absurd h

  higher : (c d : ℕ) → below c d ≡ true → (v : Value) → In (Class c) v → In (Class d) v
  higher c d e (Obj o) h = ab.up c d o e h
  higher c d e Null h = tt
  higher c d e (Invalid r p) h = tt
  higher c d e v h = absurd h

  pub wide : (S U : TyTerm) → conforms below S U ≡ true → (v : Value) → In S v → In U v
  wide Void U e v h = nothing U v h
  wide Boolean Boolean e v h = h
  wide Integer Integer e v h = h
  wide Text Text e v h = h
  wide (Literals m f) (Literals n g) e v h =
      let p = both (m == n) (f == g) e in subst (λ x. In (Literals x g) v) (eqb-true m n p.0) (subst (λ x. In (Literals m x) v) (eqb-true f g p.1) h)
  wide (Class c) (Class d) e v h = higher c d e v h
  wide (Collection k S) (Collection l U) e v h =
      let p = both (same_kind k l) (conforms below S U) e in each (In S) (In U) (wide S U p.1) k l (same k l p.0) v h
  wide S U e v h = cc

  within_itself : (S : TyTerm) → FitsWithin literals objects S S
  within_itself S = record { fits = λ v h. h }

  joined : (b c : Bool) (S U K : TyTerm) → conforms below S U ≡ b → conforms below U S ≡ c → cond b (Some U) (cond c (Some S) None) ≡ Some K → FitsWithin literals objects S K × FitsWithin literals objects U K
  joined true c S U K e f h = let i : U ≡ K = some_same U K h in subst (λ X. FitsWithin literals objects S X × FitsWithin literals objects U X) i (record { fits = wide S U e }, within_itself U)
  joined false true S U K e f h = let i : S ≡ K = some_same S K h in subst (λ X. FitsWithin literals objects S X × FitsWithin literals objects U X) i (within_itself S, record { fits = wide U S f })
  joined false false S U K e f h = cc

  joins : (S U K : TyTerm) → join below S U ≡ Some K → FitsWithin literals objects S K × FitsWithin literals objects U K
  joins S U K h = joined (conforms below S U) (conforms below U S) S U K refl refl h

  -- the arguments that are no items are not null
  abbrev pub Present : List ArgumentSort → List Value → Type 0
  Present (param.Item ∷ ps) (v ∷ vs) = Present ps vs
  Present (p ∷ ps) (v ∷ vs) = (is_null v ≡ false) × Present ps vs
  Present ps vs = ⊤

  abbrev pub Valid : List Value → Type 0
  Valid [] = ⊤
  Valid (v ∷ vs) = (is_invalid v ≡ false) × Valid vs

  -- a value that is there, by its type
  as_number : (v : Value) (Q : Value → Type 0) → In Integer v → is_invalid v ≡ false → is_null v ≡ false → ((m : ℤ) → Q (Int m)) → Q v
  as_number (Int m) Q h x y f = f m
  as_number Null Q h x y f = cc
  as_number (Invalid r p) Q h x y f = cc
  as_number v Q h x y f = absurd h

  as_text : (v : Value) (Q : Value → Type 0) → In Text v → is_invalid v ≡ false → is_null v ≡ false → ((s : List ℕ) → Q (Str s)) → Q v
  as_text (Str s) Q h x y f = f s
  as_text Null Q h x y f = cc
  as_text (Invalid r p) Q h x y f = cc
  as_text v Q h x y f = absurd h

  as_items : (l : Kind) (V : TyTerm) (v : Value) (Q : Value → Type 0) → In (Collection l V) v → is_invalid v ≡ false → is_null v ≡ false
      → ((m : Kind) (s : _) (r : _) → m ≡ l → Each (Sure (In V)) (items-the_row-Value _ r) → Q (Coll' m s r)) → Q v
  as_items l V (Coll' m s r) Q h x y f = f m s r h.0 h.1
  as_items l V Null Q h x y f = cc
  as_items l V (Invalid r p) Q h x y f = cc
  as_items l V v Q h x y f = absurd h

  -- a test that gave something, a join that did
  on_test : (b : Bool) (o : Option Taken) (t : Taken) (Q : Type 0) → cond b o None ≡ Some t → (b ≡ true → o ≡ Some t → Q) → Q
  on_test true o t Q e f = f refl e
  on_test false o t Q e f = cc

  joined_on : (o : Option TyTerm) (h : TyTerm → Option Taken) (t : Taken) (Q : Type 0) → on_join below o h ≡ Some t → ((K : TyTerm) → o ≡ Some K → h K ≡ Some t → Q) → Q
  joined_on (Some K) h t Q e f = f K refl e
  joined_on None h t Q e f = cc

  items_on : (ok : Kinds) (T U : TyTerm) (h : Kind → TyTerm → Option Taken) (t : Taken) (Q : Type 0) → on_items below ok T U h ≡ Some t
      → ((l : Kind) (V K : TyTerm) → U ≡ Collection l V → allows ok l ≡ true → join below T V ≡ Some K → h l K ≡ Some t → Q) → Q
  items_on ok T (Collection l V) h t Q e f =
      on_test (allows ok l) (on_join below (join below T V) (h l)) t Q e (λ o g. joined_on (join below T V) (h l) t Q g (λ K j k. f l V K refl o j k))
  items_on ok T U h t Q e f = cc

  -- what holds of arguments of these sorts holds of these
  pub apply_given : (ps : List ArgumentSort) (k : Kind) (T : TyTerm) (P : Kind → TyTerm → List Value → Type 0) → GivenArguments literals objects ps k T P → (Us : List TyTerm) (vs : List Value) → AllFit literals objects Us vs → Valid vs → Present ps vs
      → (t : Taken) → accepts below ps k T Us ≡ Some t → P t.kind t.joined vs
  apply_given [] k T P g [] [] f i n t e = subst (λ x. P x.kind x.joined []) (some_same (record { kind = k; joined = T }) t e) g
  apply_given [] k T P g (U ∷ Us) vs f i n t e = cc
  apply_given (param.Integer ∷ ps) k T P g [] vs f i n t e = cc
  apply_given (param.Text ∷ ps) k T P g [] vs f i n t e = cc
  apply_given (param.Item ∷ ps) k T P g [] vs f i n t e = cc
  apply_given (param.Items ok ∷ ps) k T P g [] vs f i n t e = cc
  apply_given (param.Integer ∷ ps) k T P g (U ∷ Us) (v ∷ vs) f i n t e =
      on_test (conforms below U Integer) (accepts below ps k T Us) t (P t.kind t.joined (v ∷ vs)) e (λ c d.
      as_number v (λ w. P t.kind t.joined (w ∷ vs)) (wide U Integer c v f.0) i.0 n.0 (λ m.
      apply_given ps k T (λ l K ws. P l K (Int m ∷ ws)) (g m) Us vs f.1 i.1 n.1 t d))
  apply_given (param.Text ∷ ps) k T P g (U ∷ Us) (v ∷ vs) f i n t e =
      on_test (conforms below U Text) (accepts below ps k T Us) t (P t.kind t.joined (v ∷ vs)) e (λ c d.
      as_text v (λ w. P t.kind t.joined (w ∷ vs)) (wide U Text c v f.0) i.0 n.0 (λ m.
      apply_given ps k T (λ l K ws. P l K (Str m ∷ ws)) (g m) Us vs f.1 i.1 n.1 t d))
  apply_given (param.Item ∷ ps) k T P g (U ∷ Us) (v ∷ vs) f i n t e =
      joined_on (join below T U) (λ K. accepts below ps k K Us) t (P t.kind t.joined (v ∷ vs)) e (λ K j d.
      apply_given ps k K (λ l L ws. P l L (v ∷ ws)) (g K (joins T U K j).0 v ((joins T U K j).1.fits v f.0, i.0)) Us vs f.1 i.1 n t d)
  apply_given (param.Items ok ∷ ps) k T P g (U ∷ Us) (v ∷ vs) f i n t e =
      items_on ok T U (λ l K. accepts below ps l K Us) t (P t.kind t.joined (v ∷ vs)) e (λ l V K is o j d.
      as_items l V v (λ w. P t.kind t.joined (w ∷ vs)) (subst (λ X. In X v) is f.0) i.0 n.0 (λ m s r q a.
      apply_given ps l K (λ y L ws. P y L (Coll' m s r ∷ ws))
      (subst (λ z. GivenArguments literals objects ps z K (λ y L ws. P y L (Coll' m s r ∷ ws))) q
      (g K (joins T V K j).0 m (ap (allows ok) q ∙ o) s r (fit.each_map (Sure (In V)) (Sure (In K)) (λ u w. ((joins T V K j).1.fits u w.0, w.1)) (items-the_row-Value _ r) a)))
      Us vs f.1 i.1 n.1 t d))
  apply_given ps k T P g (U ∷ Us) [] f i n t e = absurd f
  apply_given ps k T P g [] (v ∷ vs) f i n t e = absurd f

  -- ---- arguments of collections that may be null

  none_left : (a b : Bool) → (a || b) ≡ false → a ≡ false
  none_left false b h = refl
  none_left true b h = cc

  none_right : (a b : Bool) → (a || b) ≡ false → b ≡ false
  none_right false b h = h
  none_right true b h = cc

  -- all parameters are no items
  abbrev pub NoItem : List ArgumentSort → Type 0
  NoItem [] = ⊤
  NoItem (param.Item ∷ ps) = ⊥
  NoItem (p ∷ ps) = NoItem ps

  -- where no argument is null
  pub all_present : (ps : List ArgumentSort) (vs : List Value) → list_any is_null vs ≡ false → Present ps vs
  all_present [] vs h = tt
  all_present (param.Integer ∷ ps) [] h = tt
  all_present (param.Text ∷ ps) [] h = tt
  all_present (param.Item ∷ ps) [] h = tt
  all_present (param.Items ok ∷ ps) [] h = tt
  all_present (param.Integer ∷ ps) (v ∷ vs) h = (none_left (is_null v) _ h, all_present ps vs (none_right (is_null v) _ h))
  all_present (param.Text ∷ ps) (v ∷ vs) h = (none_left (is_null v) _ h, all_present ps vs (none_right (is_null v) _ h))
  all_present (param.Items ok ∷ ps) (v ∷ vs) h = (none_left (is_null v) _ h, all_present ps vs (none_right (is_null v) _ h))
  all_present (param.Item ∷ ps) (v ∷ vs) h = all_present ps vs (none_right (is_null v) _ h)

  -- a row whose one argument is an item; an Integer and an item
  pub item_present : (vs : List Value) → Present (param.Item ∷ []) vs
  item_present [] = tt
  item_present (v ∷ vs) = tt

  pub place_present : (vs : List Value) → list_any is_null (besides_items InsertAt vs) ≡ false → Present (param.Integer ∷ param.Item ∷ []) vs
  place_present [] h = tt
  place_present (v ∷ []) h = (none_left (is_null v) _ h, tt)
  place_present (v ∷ w ∷ vs) h = (none_left (is_null v) _ h, tt)
