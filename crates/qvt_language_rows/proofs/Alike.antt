-- No row looks at places: the same tokens are the same rows wherever they stand.
use Rattle.std.proofs.Common.{◌≡◌, List, [], ◌∷◌, ◌++◌, map, IsTrue, inl, inr, refl, sym, ap, ◌∙◌, subst, Option, Some, None}
use Rattle.qvt_base.specs.declared.numbers.Place.{Place}
use Rattle.qvt_grammar.specs.Language.{head_of}
use Rattle.qvt_grammar.specs.Reader.{starts}
use Rattle.qvt_language.specs.Tokens.{Tok, is}
use Rattle.qvt_language.specs.Same.{unplaced, SameTokens}
use Rattle.qvt_language.specs.Readers.{nowhere}
use Rattle.qvt_language.specs.Units.{is_strictness}
use Rattle.qvt_tree_types.specs.Module.{UnitTerm, ModuleTerm}
use Rattle.qvt_language.specs.UnitTrees.{ClauseTree}
use Rattle.qvt_language.specs.declared.class.Class.{Class}
use Rattle.qvt_language.specs.declared.class.Class.TheVariants as class
use Rattle.qvt_language_rows.specs.Phrase.{Phrase, ◌or◌, ◌gives◌, ◌then◌, the, many, maybe, placed, commas, listed, or_none, barring, such_that}
use Rattle.qvt_language_rows.specs.Values.{kind_of, IsOther, AreOnce}
use Rattle.qvt_language_rows.specs.Units.{UnitRow, ModuleRow}
use Rattle.qvt_language_rows.specs.Language.{Is}
use Rattle.qvt_language_rows.proofs.Every.{any_of, Forms, Said, Makers, every_unit, every_module}

-- the same tokens are read as a value that is so related
record Alike (A : Type 0) (R : A → A → Type 0) (p : Phrase A) : Type 0 where
  all : (ts us : List Tok) (a : A) → SameTokens ts us → p ts a → (b : A) × p us b × R a b

abbrev Relation : Type 0 → Type 1
Relation A = A → A → Type 0

abbrev Both : {A B : Type 0} → Relation A → Relation B → Relation (A × B)
Both R S a b = R a.0 b.0 × S a.1 b.1

-- one by one
abbrev Each : {A : Type 0} → Relation A → Relation (List A)
Each R [] [] = Prim.Unit {0}
Each R (a ∷ all) (b ∷ more) = R a b × Each R all more
Each R all more = ⊥

abbrev IfThere : {A : Type 0} → Relation A → Relation (Option A)
IfThere R None None = Prim.Unit {0}
IfThere R (Some a) (Some b) = R a b
IfThere R a b = ⊥

abbrev Makes : {A B : Type 0} → Relation A → Relation B → (A → B) → Type 0
Makes {A} R S f = (a b : A) → R a b → S (f a) (f b)

abbrev SameToken : Relation Tok
SameToken t s = unplaced t ≡ unplaced s

-- the same tokens are cut alike
cut : (u v us : List Tok) → SameTokens (u ++ v) us → (x : List Tok) × (y : List Tok) × (us ≡ x ++ y) × SameTokens u x × SameTokens v y
cut [] v us e = ([], us, refl, refl, e)
cut (t ∷ u) v [] e = absurd cc
cut (t ∷ u) v (s ∷ us) e =
    let tail : map unplaced (u ++ v) ≡ map unplaced us = cc in
    let head : unplaced t ≡ unplaced s = cc in
    let w = cut u v us tail in
    (s ∷ w.0, w.1, ap (λ z. s ∷ z) {y = w.0 ++ w.1} w.2, (λ i. head i ∷ w.3 i), w.4)

cut_at : (ts u v us : List Tok) → ts ≡ u ++ v → SameTokens ts us → (x : List Tok) × (y : List Tok) × (us ≡ x ++ y) × SameTokens u x × SameTokens v y
cut_at ts u v us d e = cut u v us (ap (map unplaced) (sym d) ∙ e)

none_left : (us : List Tok) → SameTokens [] us → us ≡ []
none_left [] e = refl
none_left (t ∷ us) e = absurd cc

none_too : (ts us : List Tok) → SameTokens ts us → ts ≡ [] → us ≡ []
none_too ts us e n = none_left us (ap (map unplaced) (sym n) ∙ e)

one_left : (t : Tok) (us : List Tok) → SameTokens (t ∷ []) us → (s : Tok) × (us ≡ s ∷ []) × (unplaced t ≡ unplaced s)
one_left t [] e = absurd cc
one_left t (s ∷ []) e = (s, refl, cc)
one_left t (s ∷ x ∷ us) e = absurd cc

one_too : (ts us : List Tok) (t : Tok) → SameTokens ts us → ts ≡ t ∷ [] → (s : Tok) × (us ≡ s ∷ []) × (unplaced t ≡ unplaced s)
one_too ts us t e d = one_left t us (ap (map unplaced) (sym d) ∙ e)

same_is : (c : Class) (t s : Tok) → unplaced t ≡ unplaced s → is c t ≡ is c s
same_is c t s e = ap (λ z. is c z) e

same_strict : (t s : Tok) → unplaced t ≡ unplaced s → is_strictness t ≡ is_strictness s
same_strict t s e = ap (λ z. is_strictness z) e

same_starts : (c : Class) (ts us : List Tok) → SameTokens ts us → starts (is c) ts ≡ starts (is c) us
same_starts c [] [] e = refl
same_starts c [] (s ∷ us) e = absurd cc
same_starts c (t ∷ ts) [] e = absurd cc
same_starts c (t ∷ ts) (s ∷ us) e = let head : unplaced t ≡ unplaced s = cc in same_is c t s head

chosen : (cs : List Class) (ts us : List Tok) (t : Tok) → SameTokens ts us → any_of cs ts t → (s : Tok) × any_of cs us s × SameToken t s
chosen [] ts us t e rd = absurd rd
chosen (c ∷ []) ts us t e rd = let w = one_too ts us t e rd.0 in (w.0, (w.1, subst IsTrue (same_is c t w.0 w.2) rd.1), w.2)
chosen (c ∷ d ∷ cs) ts us t e (inl rd) = let w = one_too ts us t e rd.0 in (w.0, inl (w.1, subst IsTrue (same_is c t w.0 w.2) rd.1), w.2)
chosen (c ∷ d ∷ cs) ts us t e (inr rd) = let w = chosen (d ∷ cs) ts us t e rd in (w.0, inr w.1, w.2)

token_of : (cs : List Class) → Alike Tok SameToken (any_of cs)
token_of cs = record { all = chosen cs }

strict_too : (ts us : List Tok) (t : Tok) → SameTokens ts us → such_that (λ t. IsTrue (is_strictness t)) (the class.Str) ts t → (s : Tok) × such_that (λ t. IsTrue (is_strictness t)) (the class.Str) us s × SameToken t s
strict_too ts us t e rd = let w = one_too ts us t e rd.0.0 in (w.0, ((w.1, subst IsTrue (same_is class.Str t w.0 w.2) rd.0.1), subst IsTrue (same_strict t w.0 w.2) rd.1), w.2)

in_turn : {A B : Type 0} {R : Relation A} {S : Relation B} {p : Phrase A} {q : Phrase B} → Alike A R p → Alike B S q → Alike (A × B) (Both R S) (p then q)
in_turn h k = record {
  all = λ ts us ab e rd. (
      let w = cut_at ts rd.0 rd.1 us rd.2 e in
      let a = h.all rd.0 w.0 ab.0 w.3 rd.3 in
      let b = k.all rd.1 w.1 ab.1 w.4 rd.4 in
      ((a.0, b.0), (w.0, w.1, w.2, a.1, b.1), (a.2, b.2)));
}

of_made : {A B : Type 0} {R : Relation A} {S : Relation B} {p : Phrase A} {f : A → B} → Makes R S f → Alike A R p → Alike B S (p gives f)
of_made {S = S} {f = f} k h = record {
  all = λ ts us b e rd. (let w = h.all ts us rd.0 e rd.1 in (f w.0, (w.0, w.1, refl), subst (λ z. S z (f w.0)) (sym rd.2) (k rd.0 w.0 w.2)));
}

module _ {A : Type 0} {R : Relation A} {p : Phrase A} (h : Alike A R p) where
  either_cases : (q : Phrase A) → Alike A R q → (ts us : List Tok) (a : A) → SameTokens ts us → (p or q) ts a → (b : A) × (p or q) us b × R a b
  either_cases q k ts us a e (inl rd) = let w = h.all ts us a e rd in (w.0, inl w.1, w.2)
  either_cases q k ts us a e (inr rd) = let w = k.all ts us a e rd in (w.0, inr w.1, w.2)

  either : {q : Phrase A} → Alike A R q → Alike A R (p or q)
  either {q = q} k = record { all = either_cases q k }

  turns : (as_ : List A) (ts us : List Tok) → SameTokens ts us → many p ts as_ → (bs : List A) × many p us bs × Each R as_ bs
  turns [] ts us e rd = ([], none_too ts us e rd, tt)
  turns (a ∷ as_) ts us e (u, v, d, one, rest) =
      let w = cut_at ts u v us d e in
      let b = h.all u w.0 a w.3 one in
      let bs = turns as_ v w.1 w.4 rest in
      (b.0 ∷ bs.0, (w.0, w.1, w.2, b.1, bs.1), (b.2, bs.2))

  many_of : Alike (List A) (Each R) (many p)
  many_of = record { all = λ ts us as_ e rd. turns as_ ts us e rd }

  maybe_cases : (ts us : List Tok) (a : Option A) → SameTokens ts us → maybe p ts a → (b : Option A) × maybe p us b × IfThere R a b
  maybe_cases ts us a e (inl (x, rd, d)) = let w = h.all ts us x e rd in (Some w.0, inl (w.0, w.1, refl), subst (λ z. IfThere R z (Some w.0)) (sym d) w.2)
  maybe_cases ts us a e (inr (x, rd, d)) = (None, inr (x, none_too ts us e rd, refl), subst (λ z. IfThere R z None) (sym d) tt)

  perhaps : Alike (Option A) (IfThere R) (maybe p)
  perhaps = record { all = maybe_cases }

  placed_of : Alike (Place × A) (λ a b. R a.1 b.1) (placed p)
  placed_of = record { all = λ ts us pa e rd. (let w = h.all ts us pa.1 e rd.0 in ((head_of (λ t. t.place) nowhere us, w.0), (w.1, refl), w.2)) }

  barring_of : (c : Class) → Alike A R (barring c p)
  barring_of c = record { all = λ ts us a e rd. (let w = h.all ts us a e rd.0 in (w.0, (w.1, sym (same_starts c ts us e) ∙ rd.1), w.2)) }

commas_of : {A : Type 0} {R : Relation A} {p : Phrase A} → Alike A R p → Alike (List A) (Each R) (commas p)
commas_of h = of_made (λ a b k. k) (in_turn h (many_of (of_made (λ a b k. k.1) (in_turn (token_of (class.Comma ∷ [])) h))))

listed_too : {A : Type 0} (R : Relation A) (a b : Option (List A)) → IfThere (Each R) a b → Each R (or_none a) (or_none b)
listed_too R None None h = tt
listed_too R None (Some b) h = absurd h
listed_too R (Some a) None h = absurd h
listed_too R (Some a) (Some b) h = h

listed_of : {A : Type 0} {R : Relation A} {p : Phrase A} (c : Class) → Alike A R p → (d : Class) → Alike (List A) (Each R) (listed c (commas p) d)
listed_of {R = R} c h d = of_made (λ a b k. k.1.0) (in_turn (token_of (c ∷ [])) (in_turn (of_made {S = Each R} (listed_too R) (perhaps (commas_of h))) (token_of (d ∷ []))))

abbrev forms : Forms Relation Alike
forms = record {
  token = λ cs. SameToken;
  pair = Both;
  list = Each;
  option = IfThere;
  marked = λ R a b. R a.1 b.1;
  after_a = λ c R. R;
  before_a = λ R c. R;
  in_two = λ c R d. R;
  in_commas = Each;
  in_list = λ c R d. Each R;
  Makes = Makes;
  no_list = record { all = λ ts us a e rd. absurd rd };
  choice = token_of;
  both = in_turn;
  one_of = λ h k. either h k;
  made = of_made;
  turns = many_of;
  perhaps = perhaps;
  at = placed_of;
  barred = λ c h. barring_of h c;
  behind = λ c h. of_made (λ a b k. k.1) (in_turn (token_of (c ∷ [])) h);
  ahead = λ h c. of_made (λ a b k. k.0) (in_turn h (token_of (c ∷ [])));
  round = λ c h d. of_made (λ a b k. k.1.0) (in_turn (token_of (c ∷ [])) (in_turn h (token_of (d ∷ []))));
  series = commas_of;
  lists = listed_of;
  also = λ k h. record { all = λ ts us a e rd. (let w = h.all ts us a e rd in (w.0, w.1, k a w.0 w.2)) };
}

-- an Extra is read as one of the same kind

abbrev SameKind : Relation ClauseTree
SameKind x y = kind_of x ≡ kind_of y

other_too : (a b : ClauseTree) (all more : List ClauseTree) → SameKind a b → Each SameKind all more → IsOther a all → IsOther b more
other_too a b [] [] q k o = tt
other_too a b [] (d ∷ more) q k o = absurd k
other_too a b (c ∷ all) [] q k o = absurd k
other_too a b (c ∷ all) (d ∷ more) q k o = ((λ e. o.0 (q ∙ e ∙ sym k.0)), other_too a b all more q k.1 o.1)

once_too : (all more : List ClauseTree) → Each SameKind all more → AreOnce all → AreOnce more
once_too [] [] k o = tt
once_too [] (d ∷ more) k o = absurd k
once_too (c ∷ all) [] k o = absurd k
once_too (c ∷ all) (d ∷ more) k o = (other_too c d all more k.0 k.1 o.0, once_too all more k.1 o.1)

abbrev Any : {A : Type 0} → Relation A
Any a b = Prim.Unit {0}

abbrev said : Said Relation
said = record {
  named = Any;
  name = Any;
  string = Any;
  uri = Any;
  source = Any;
  path = Any;
  kind = Any;
  expr = Any;
  range = Any;
  item = Any;
  filter = Any;
  form = Any;
  resolve = Any;
  accumulator = Any;
  map = Any;
  args = Any;
  step = Any;
  dot = Any;
  arrow = Any;
  dot_call = Any;
  arrow_call = Any;
  variable = Any;
  sign = Any;
  link = Any;
  target = Any;
  stmt = Any;
  compound = Any;
  items = Any;
  inside = Any;
  block = Any;
  turn = Any;
  helper_body = Any;
  arm = Any;
  each = Any;
  unit_path = Any;
  typed = Any;
  feature = Any;
  result = Any;
  guard_end = SameToken;
  guard = Any;
  clause = SameKind;
  clauses = Any;
  ending = Any;
  sections = Any;
  body = Any;
  unit = Any;
  turn_units = Any;
  model_type = Any;
  model_param = Any;
  model_params = Any;
  whole = Any;
}

makers : Makers forms said
makers = record {
  named_of = λ a b h. tt;
  name_of = λ a b h. tt;
  string_of = λ a b h. tt;
  path_of = λ a b h. tt;
  unit_path_of = λ a b h. tt;
  coll_type_of = λ a b h. tt;
  path_type = λ a b h. tt;
  range_of = λ a b h. tt;
  item_of = λ a b h. tt;
  filter_of = λ a b h. tt;
  all_of = λ a b h. tt;
  in_of = λ a b h. tt;
  resolve_of = λ a b h. tt;
  accumulator_of = λ a b h. tt;
  map_of = λ a b h. tt;
  dot_of = λ a b h. tt;
  headed_body = λ a b h. tt;
  without_head = λ a b h. tt;
  or_no_args = λ a b h. tt;
  arrow_of = λ a b h. tt;
  dot_map = λ a b h. tt;
  dot_resolve = λ a b h. tt;
  arrow_map = λ a b h. tt;
  arrow_resolve = λ a b h. tt;
  after_dot = λ a b h. tt;
  after_arrow = λ a b h. tt;
  call_after_dot = λ a b h. tt;
  call_after_arrow = λ a b h. tt;
  int_of = λ a b h. tt;
  str_of = λ a b h. tt;
  true_of = λ a b h. tt;
  false_of = λ a b h. tt;
  null_of = λ a b h. tt;
  self_of = λ a b h. tt;
  result_of = λ a b h. tt;
  path_expr = λ a b h. tt;
  call_of = λ a b h. tt;
  coll_of = λ a b h. tt;
  if_of = λ a b h. tt;
  named_var = λ a b h. tt;
  result_var = λ a b h. tt;
  object_of = λ a b h. tt;
  new_of = λ a b h. tt;
  map_expr = λ a b h. tt;
  resolve_expr = λ a b h. tt;
  brackets = λ a b h. tt;
  stepped_of = λ a b h. tt;
  not_of = λ a b h. tt;
  minus_of = λ a b h. tt;
  signed_of = λ a b h. tt;
  linked = λ level a b h. tt;
  chained = λ level a b h. tt;
  named_target = λ a b h. tt;
  result_target = λ a b h. tt;
  feature_target = λ a b h. tt;
  var_of = λ a b h. tt;
  assign_of = λ a b h. tt;
  return_of = λ a b h. tt;
  value_of = λ a b h. tt;
  arm_of = λ a b h. tt;
  block_form_of = λ a b h. tt;
  while_of = λ a b h. tt;
  each_of = λ a b h. tt;
  loop_of = λ a b h. tt;
  no_stmts = λ a b h. tt;
  simple_turn = λ a b h. tt;
  compound_turn = λ a b h. tt;
  concat = λ a b h. tt;
  with_last = λ a b h. tt;
  braces = λ a b h. tt;
  param_of = λ a b h. tt;
  typed_name_of = λ a b h. tt;
  class_of = λ a b h. tt;
  main_of = λ a b h. tt;
  return_body = λ a b h. tt;
  block_body = λ a b h. tt;
  helper_of = λ a b h. tt;
  constructor_of = λ a b h. tt;
  result_decl_of = λ a b h. tt;
  inherits = λ a b h. refl;
  merges = λ a b h. refl;
  disjuncts = λ a b h. refl;
  guard_end = λ a b h. h.1;
  guard = λ a b h. tt;
  condition = λ a b h. refl;
  clauses_of = λ a b h. tt;
  sections_of = λ a b h. tt;
  ends_in_simple = λ a b h. tt;
  ends_in_block = λ a b h. tt;
  open_sections = λ a b h. tt;
  empty_body = λ a b h. tt;
  body_of = λ a b h. tt;
  mapping_of = λ a b h. tt;
  some_unit = λ a b h. tt;
  no_units = λ a b h. tt;
  uri_text = λ a b h. tt;
  uri_named = λ a b h. tt;
  source = λ a b h. tt;
  model_type_of = λ a b h. tt;
  model_param_of = λ a b h. tt;
  model_params = λ a b h. tt;
  module_of = λ a b h. tt;
  strict = record { all = strict_too };
  once = λ j h. record { all = λ ts us all e rd. (let w = turns h all ts us e rd.0 in (w.0, (w.1, once_too all w.0 w.2 rd.1), w.2)) };
}

-- the same tokens at other places are a unit and a transformation too
pub unit_alike : (ts us : List Tok) (a : UnitTerm) → SameTokens ts us → Is UnitRow ts a → (b : UnitTerm) × Is UnitRow us b
unit_alike ts us a e rd = let every = every_unit makers rd.nesting in let w = every.all ts us a e rd.is in (w.0, record { nesting = rd.nesting; is = w.1 })

pub module_alike : (ts us : List Tok) (a : ModuleTerm) → SameTokens ts us → Is ModuleRow ts a → (b : ModuleTerm) × Is ModuleRow us b
module_alike ts us a e rd = let every = every_module makers rd.nesting in let w = every.all ts us a e rd.is in (w.0, record { nesting = rd.nesting; is = w.1 })
