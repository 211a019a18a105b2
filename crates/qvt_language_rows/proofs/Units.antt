-- The rows of units and of the module.
use Rattle.std.proofs.Common.{◌≡◌, ℕ, zero, suc, ◌+◌, ◌≤◌, List, [], ◌∷◌, ◌++◌, Bool, true, false, ◌||◌, ◌&&◌, IsTrue, inl, inr, refl, sym, ap, ◌∙◌, subst, append-nil, arith, eqb, eqb-true, Option, Some, None}
use Rattle.qvt_grammar.specs.Language as language
use Rattle.qvt_grammar.specs.Reader.{starts}
use Rattle.qvt_tree_types.specs.Tree.{ExprTerm, StmtTerm}
use Rattle.qvt_tree_types.specs.Module.{UnitTerm}
use Rattle.qvt_tree_types.specs.declared.types.PathTree.{PathTree}
use Rattle.qvt_language.specs.Tokens.{Tok, is, of, code_of}
use Rattle.qvt_language.specs.declared.class.Class.{Class}
use Rattle.qvt_language.specs.declared.class.Class.TheVariants as class
use Rattle.qvt_language.specs.Trees.{second, inner, text_of, is_there}
use Rattle.qvt_language.specs.StmtTrees.{last_of}
use Rattle.qvt_language.specs.UnitTrees.{typed_name_of, param_of, class_unit_of, main_of, return_body, helper_of, constructor_of, result_decl_of, ClausesTree, no_clauses, ClauseTree, InheritsClause, MergesClause, DisjunctsClause, WhenClause, with_clause, where_there, read_words, or_same, stmts_or_none, empty_body, body_of, sections_of, open_sections_of, mapping_of, some_unit, model_type_of, model_param_of, module_of}
use Rattle.qvt_language.specs.Grammar.{expr}
use Rattle.qvt_language.specs.Statements.{statements}
use Rattle.qvt_language.specs.Units.{param, params, feature, features, class_unit, main_unit, helper_body, helper_unit, constructor_unit, result_decl, when_clause, clause, init_part, end_part, end_unless, end_after, sections, body, clauses, mapping_unit, unit, is_strictness, strictness, uri, model_type, model_param, header, transformation}
use Rattle.qvt_language.specs.Nesting.{nested}
use Rattle.qvt_language.proofs.Sets.{has}
use Rattle.qvt_language.proofs.GoodNesting.{good_nested}
use Rattle.qvt_language_rows.specs.Phrase.{Phrase, ◌or◌, ◌gives◌, ◌then◌, the, many, maybe, placed, after, before, between, listed, such_that}
use Rattle.qvt_language_rows.specs.Values.{open_sections, no_units, kind_of, IsOther, AreOnce, with_clauses, clauses_of}
use Rattle.qvt_language_rows.specs.Rows.{NestedRows, NameRow, PathRow, PathsRow, ExtentRow, TypeRow, SimpleRow, ItemsRow}
use Rattle.qvt_language_rows.specs.Units.{UnitPathRow, ModelTypeRow, ModelParamRow, HeaderRow, ParamRow, ParamsRow, ExtraRow, BodyRow, UnitRow, ModuleRow}
use Rattle.qvt_language_rows.proofs.Ties.{Ties, ties_the, ties_then, ties_or, ties_swap, ties_gives, ties_many, ties_maybe, ties_placed, ties_after, ties_before, ties_between, ties_commas}
use Rattle.qvt_language_rows.proofs.Plain.{TiesInside, ties_listed, ties_name, ties_path, ties_paths, ties_unit_path, ties_extent, ties_colon_type}
use Rattle.qvt_language_rows.proofs.Statements.{ended_from, statements_to, statements_of}

-- the module's own rows

and_first : (a b : Bool) → (a && b) ≡ true → a ≡ true
and_first true b h = refl
and_first false b h = absurd cc

ties_strictness : Ties strictness (such_that (λ t. IsTrue (is_strictness t)) (the class.Str)) strictness
ties_strictness = record {
  to = λ ts t h. ((h.0, and_first (is class.Str t) _ h.1), h.1);
  of = λ ts t h. (h.0.0, h.1);
}

ties_uri : Ties uri (the class.Str gives text_of or after class.Name (between class.OpenRound (the class.Str gives text_of) class.CloseRound)) uri
unfolding uri
ties_uri = ties_or (ties_gives text_of (ties_the class.Str)) (ties_after class.Name (ties_between class.OpenRound class.CloseRound (ties_gives text_of (ties_the class.Str))))

ties_model_type : Ties model_type ModelTypeRow model_type
unfolding model_type ModelTypeRow
ties_model_type = ties_gives model_type_of (ties_placed (ties_after class.ModelTypeWord (ties_then ties_name (ties_gives second (ties_then (ties_maybe ties_strictness) (ties_between class.UsesWord class.Semicolon ties_uri))))))

ties_model_param : Ties model_param ModelParamRow model_param
unfolding model_param ModelParamRow
ties_model_param = ties_gives model_param_of (ties_then (ties_or (ties_the class.InWord) (ties_or (ties_the class.OutWord) (ties_the class.InoutWord))) (ties_then ties_name (ties_after class.Colon ties_name)))

ties_header : Ties header HeaderRow header
unfolding header HeaderRow
ties_header = ties_after class.TransformationWord (ties_then (ties_gives text_of (ties_the class.Name)) (ties_gives inner (ties_then (ties_the class.OpenRound) (ties_then (ties_commas ties_model_param) (ties_before (ties_the class.CloseRound) class.Semicolon)))))

ties_result : Ties result_decl (after class.Colon (PathRow then maybe ExtentRow gives result_decl_of)) result_decl
unfolding result_decl
ties_result = ties_after class.Colon (ties_gives result_decl_of (ties_then ties_path ties_extent))

-- each kind of Extra once

or_true : (b : Bool) → (b || true) ≡ true
or_true true = refl
or_true false = refl

or_false : (b c : Bool) → c ≡ false → (b || c) ≡ b
or_false true c e = refl
or_false false c e = e

of_has : (s : List ℕ) (t : Tok) → of s t ≡ has (code_of t.class) s
of_has [] t = refl
of_has (k ∷ ks) t = ap (λ z. z || eqb (code_of t.class) k) (of_has ks t)

has_here : {A : Type 0} (k : ℕ) (a : A) (rest : List ℕ) → eqb k k ≡ true → has k (where_there (Some a) k ++ rest) ≡ true
has_here k a rest e = ap (λ z. has k rest || z) e ∙ or_true (has k rest)

has_past : {A : Type 0} (k c : ℕ) (o : Option A) (rest : List ℕ) → eqb k c ≡ false → has k (where_there o c ++ rest) ≡ has k rest
has_past k c None rest e = refl
has_past k c (Some a) rest e = or_false (has k rest) (eqb k c) e

has_last : {A : Type 0} (k c : ℕ) (o : Option A) → eqb k c ≡ false → has k (where_there o c) ≡ false
has_last k c None e = refl
has_last k c (Some a) e = e

-- whether a clause of this one's kind was read
abbrev read_of : ClausesTree → ClauseTree → Bool
read_of x (InheritsClause paths) = is_there x.inherits
read_of x (MergesClause paths) = is_there x.merges
read_of x (DisjunctsClause paths) = is_there x.disjuncts
read_of x (WhenClause e) = is_there x.condition

-- the words of the clauses that were read, from the last
abbrev last_word : Option ExprTerm → List ℕ
last_word d = where_there d (code_of class.WhenWord)

abbrev last_two : Option (List PathTree) → Option ExprTerm → List ℕ
last_two c d = where_there c (code_of class.DisjunctsWord) ++ last_word d

abbrev last_three : Option (List PathTree) → Option (List PathTree) → Option ExprTerm → List ℕ
last_three b c d = where_there b (code_of class.MergesWord) ++ last_two c d

abbrev words : Option (List PathTree) → Option (List PathTree) → Option (List PathTree) → Option ExprTerm → List ℕ
words a b c d = where_there a (code_of class.InheritsWord) ++ last_three b c d

has_inherits : (a : Option (List PathTree)) (b : Option (List PathTree)) (c : Option (List PathTree)) (d : Option ExprTerm) → has (code_of class.InheritsWord) (words a b c d) ≡ is_there a
has_inherits (Some x) b c d = has_here (code_of class.InheritsWord) x (last_three b c d) refl
has_inherits None b c d = has_past (code_of class.InheritsWord) (code_of class.MergesWord) b (last_two c d) refl ∙ has_past (code_of class.InheritsWord) (code_of class.DisjunctsWord) c (last_word d) refl ∙ has_last (code_of class.InheritsWord) (code_of class.WhenWord) d refl

has_merges : (a : Option (List PathTree)) (b : Option (List PathTree)) (c : Option (List PathTree)) (d : Option ExprTerm) → has (code_of class.MergesWord) (words a b c d) ≡ is_there b
has_merges a (Some x) c d = has_past (code_of class.MergesWord) (code_of class.InheritsWord) a (last_three (Some x) c d) refl ∙ has_here (code_of class.MergesWord) x (last_two c d) refl
has_merges a None c d = has_past (code_of class.MergesWord) (code_of class.InheritsWord) a (last_three None c d) refl ∙ has_past (code_of class.MergesWord) (code_of class.DisjunctsWord) c (last_word d) refl ∙ has_last (code_of class.MergesWord) (code_of class.WhenWord) d refl

has_disjuncts : (a : Option (List PathTree)) (b : Option (List PathTree)) (c : Option (List PathTree)) (d : Option ExprTerm) → has (code_of class.DisjunctsWord) (words a b c d) ≡ is_there c
has_disjuncts a b (Some x) d = has_past (code_of class.DisjunctsWord) (code_of class.InheritsWord) a (last_three b (Some x) d) refl ∙ has_past (code_of class.DisjunctsWord) (code_of class.MergesWord) b (last_two (Some x) d) refl ∙ has_here (code_of class.DisjunctsWord) x (last_word d) refl
has_disjuncts a b None d = has_past (code_of class.DisjunctsWord) (code_of class.InheritsWord) a (last_three b None d) refl ∙ has_past (code_of class.DisjunctsWord) (code_of class.MergesWord) b (last_two None d) refl ∙ has_last (code_of class.DisjunctsWord) (code_of class.WhenWord) d refl

has_when : (a : Option (List PathTree)) (b : Option (List PathTree)) (c : Option (List PathTree)) (d : Option ExprTerm) → has (code_of class.WhenWord) (words a b c d) ≡ is_there d
has_when a b c (Some x) = has_past (code_of class.WhenWord) (code_of class.InheritsWord) a (last_three b c (Some x)) refl ∙ has_past (code_of class.WhenWord) (code_of class.MergesWord) b (last_two c (Some x)) refl ∙ has_past (code_of class.WhenWord) (code_of class.DisjunctsWord) c (last_word (Some x)) refl
has_when a b c None = has_past (code_of class.WhenWord) (code_of class.InheritsWord) a (last_three b c None) refl ∙ has_past (code_of class.WhenWord) (code_of class.MergesWord) b (last_two c None) refl ∙ has_past (code_of class.WhenWord) (code_of class.DisjunctsWord) c (last_word None) refl

has_read : (x : ClausesTree) (c : ClauseTree) → has (kind_of c) (read_words x) ≡ read_of x c
has_read x (InheritsClause paths) = has_inherits x.inherits x.merges x.disjuncts x.condition
has_read x (MergesClause paths) = has_merges x.inherits x.merges x.disjuncts x.condition
has_read x (DisjunctsClause paths) = has_disjuncts x.inherits x.merges x.disjuncts x.condition
has_read x (WhenClause e) = has_when x.inherits x.merges x.disjuncts x.condition

-- what was not read after c was neither before it, and is of another kind
later : (x : ClausesTree) (c d : ClauseTree) → read_of (with_clause x c) d ≡ false → (kind_of c ≡ kind_of d → ⊥) × (read_of x d ≡ false)
later x (InheritsClause p) (InheritsClause q) h = absurd cc
later x (MergesClause p) (MergesClause q) h = absurd cc
later x (DisjunctsClause p) (DisjunctsClause q) h = absurd cc
later x (WhenClause p) (WhenClause q) h = absurd cc
later x c d h = (λ e. absurd (omega (arith, e)), h)

sooner : (x : ClausesTree) (c d : ClauseTree) → (kind_of c ≡ kind_of d → ⊥) → read_of x d ≡ false → read_of (with_clause x c) d ≡ false
sooner x (InheritsClause p) (InheritsClause q) n h = absurd (n refl)
sooner x (MergesClause p) (MergesClause q) n h = absurd (n refl)
sooner x (DisjunctsClause p) (DisjunctsClause q) n h = absurd (n refl)
sooner x (WhenClause p) (WhenClause q) n h = absurd (n refl)
sooner x c d n h = h

abbrev AllUnread : ClausesTree → List ClauseTree → Type 0
AllUnread x [] = Prim.Unit {0}
AllUnread x (c ∷ cs) = (read_of x c ≡ false) × AllUnread x cs

all_later : (x : ClausesTree) (c : ClauseTree) (cs : List ClauseTree) → AllUnread (with_clause x c) cs → IsOther c cs × AllUnread x cs
all_later x c [] h = (tt, tt)
all_later x c (d ∷ cs) h = let w = all_later x c cs h.1 in let l = later x c d h.0 in ((l.0, w.0), (l.1, w.1))

all_sooner : (x : ClausesTree) (c : ClauseTree) (cs : List ClauseTree) → IsOther c cs → AllUnread x cs → AllUnread (with_clause x c) cs
all_sooner x c [] o h = tt
all_sooner x c (d ∷ cs) o h = (sooner x c d o.0 h.0, all_sooner x c cs o.1 h.1)

none_read : (cs : List ClauseTree) → AllUnread no_clauses cs
none_read [] = tt
none_read ((InheritsClause p) ∷ cs) = (refl, none_read cs)
none_read ((MergesClause p) ∷ cs) = (refl, none_read cs)
none_read ((DisjunctsClause p) ∷ cs) = (refl, none_read cs)
none_read ((WhenClause e) ∷ cs) = (refl, none_read cs)

-- how many kinds were not read
abbrev missing : {A : Type 0} → Option A → ℕ
missing None = 1
missing (Some a) = 0

abbrev left_kinds : ClausesTree → ℕ
left_kinds x = missing x.inherits + (missing x.merges + (missing x.disjuncts + missing x.condition))

is_missing : {A : Type 0} (o : Option A) → is_there o ≡ false → missing o ≡ 1
is_missing None h = refl
is_missing (Some a) h = absurd cc

fewer : (x : ClausesTree) (c : ClauseTree) → read_of x c ≡ false → left_kinds x ≡ suc (left_kinds (with_clause x c))
fewer x (InheritsClause p) h = let m = is_missing x.inherits h in omega (arith, m)
fewer x (MergesClause p) h = let m = is_missing x.merges h in omega (arith, m)
fewer x (DisjunctsClause p) h = let m = is_missing x.disjuncts h in omega (arith, m)
fewer x (WhenClause e) h = let m = is_missing x.condition h in omega (arith, m)

-- the first token is of this class
first_token : (s : List ℕ) (c : Class) (ts u v : List Tok) (t : Tok) → ts ≡ u ++ v → the c u t → starts (of s) ts ≡ has (code_of c) s
first_token s c ts u v t e h = ap (starts (of s)) (e ∙ ap (λ z. z ++ v) h.0) ∙ of_has s t ∙ ap (λ z. has z s) (eqb-true (code_of t.class) (code_of c) h.1)

module _ (n m : ℕ) {j : NestedRows} (h : TiesInside (nested n) j (nested m)) where
  -- at one nesting more
  pub g : TiesInside (nested n) j (nested (suc m))
  unfolding expr
  g = record {
    type = record { to = h.type.to; of = λ ts a rd. (good_nested m).kind.loose.sub.reads ts a (h.type.of ts a rd) };
    expr = record { to = h.expr.to; of = λ ts a rd. (let w = h.expr.of ts a rd in (w.0, (good_nested m).flagged.loose.sub.reads ts w.0 w.1, w.2)) };
    block = record { to = h.block.to; of = λ ts a rd. (good_nested m).block.loose.sub.reads ts a (h.block.of ts a rd) };
    bare_to = h.bare_to;
    bare_of = λ ts a rd. (good_nested m).flagged.loose.sub.reads ts _ (h.bare_of ts a rd);
  }

  ties_param : Ties (param (nested n)) (ParamRow j) (param (nested (suc m)))
  unfolding param ParamRow
  ties_param = ties_gives param_of (ties_placed (ties_then (ties_maybe (ties_the class.InWord)) (ties_then ties_name (ties_colon_type g))))

  ties_params : Ties (params (nested n)) (listed class.OpenRound (ParamsRow j) class.CloseRound) (params (nested (suc m)))
  unfolding params ParamsRow
  ties_params = ties_listed (ties_commas ties_param) class.OpenRound class.CloseRound

  ties_feature : Ties (feature (nested n)) (before (NameRow then after class.Colon (TypeRow j) gives typed_name_of) class.Semicolon) (feature (nested (suc m)))
  unfolding feature
  ties_feature = ties_before (ties_gives typed_name_of (ties_then ties_name (ties_colon_type g))) class.Semicolon

  ties_features : Ties (features (nested n)) (the class.OpenBrace then many (before (NameRow then after class.Colon (TypeRow j) gives typed_name_of) class.Semicolon) then the class.CloseBrace gives inner) (features (nested (suc m)))
  unfolding features
  ties_features = ties_gives inner (ties_then (ties_the class.OpenBrace) (ties_then (ties_many ties_feature) (ties_the class.CloseBrace)))

  ties_class : Ties (class_unit (nested n)) (placed (after class.IntermediateWord (after class.ClassWord (NameRow then maybe (after class.ExtendsWord PathsRow) then
      (the class.OpenBrace then many (before (NameRow then after class.Colon (TypeRow j) gives typed_name_of) class.Semicolon) then the class.CloseBrace gives inner)))) gives class_unit_of) (class_unit (nested (suc m)))
  unfolding class_unit
  ties_class = ties_gives class_unit_of (ties_placed (ties_after class.IntermediateWord (ties_after class.ClassWord (ties_then ties_name (ties_then (ties_maybe (ties_after class.ExtendsWord ties_paths)) ties_features)))))

  ties_main : Ties (main_unit (nested n)) (placed (after class.MainWord (after class.OpenRound (after class.CloseRound j.block))) gives main_of) (main_unit (nested (suc m)))
  unfolding main_unit
  ties_main = ties_gives main_of (ties_placed (ties_after class.MainWord (ties_after class.OpenRound (ties_after class.CloseRound g.block))))

  ties_helper_body : Ties (helper_body (nested n)) (j.block or before (the class.EqualSign then j.expr) class.Semicolon gives return_body) (helper_body (nested (suc m)))
  unfolding helper_body
  ties_helper_body = ties_swap g.block (ties_gives return_body (ties_before (ties_then (ties_the class.EqualSign) g.expr) class.Semicolon))

  ties_helper : Ties (helper_unit (nested n)) ((the class.HelperWord or the class.QueryWord) then UnitPathRow then listed class.OpenRound (ParamsRow j) class.CloseRound then maybe (after class.Colon (TypeRow j)) then
      (j.block or before (the class.EqualSign then j.expr) class.Semicolon gives return_body) gives helper_of) (helper_unit (nested (suc m)))
  unfolding helper_unit
  ties_helper = ties_gives helper_of (ties_then (ties_or (ties_the class.HelperWord) (ties_the class.QueryWord)) (ties_then ties_unit_path (ties_then ties_params (ties_then (ties_maybe (ties_colon_type g)) ties_helper_body))))

  ties_constructor : Ties (constructor_unit (nested n)) (after class.ConstructorWord (UnitPathRow then listed class.OpenRound (ParamsRow j) class.CloseRound then j.block) gives constructor_of) (constructor_unit (nested (suc m)))
  unfolding constructor_unit
  ties_constructor = ties_gives constructor_of (ties_after class.ConstructorWord (ties_then ties_unit_path (ties_then ties_params g.block)))

  ties_extra : Ties (clause (nested n)) (ExtraRow j) (clause (nested (suc m)))
  unfolding clause when_clause ExtraRow
  ties_extra = ties_or (ties_gives InheritsClause (ties_after class.InheritsWord ties_paths)) (ties_or (ties_gives MergesClause (ties_after class.MergesWord ties_paths)) (ties_or (ties_gives DisjunctsClause (ties_after class.DisjunctsWord ties_paths))
      (ties_gives WhenClause (ties_after class.WhenWord (ties_gives inner (ties_then (ties_the class.OpenBrace) (ties_then g.expr (ties_gives second (ties_then (ties_maybe (ties_the class.Semicolon)) (ties_the class.CloseBrace))))))))))

  -- which words stand first in a clause
  extra_first : (s : List ℕ) (ts : List Tok) (c : ClauseTree) → ExtraRow j ts c → starts (of s) ts ≡ has (kind_of c) s
  unfolding ExtraRow
  extra_first s ts c (inl (x, (y, (u, v, e, t, rd), d), q)) = first_token s class.InheritsWord ts u v y.0 e t ∙ ap (λ z. has (kind_of z) s) (sym q)
  extra_first s ts c (inr (inl (x, (y, (u, v, e, t, rd), d), q))) = first_token s class.MergesWord ts u v y.0 e t ∙ ap (λ z. has (kind_of z) s) (sym q)
  extra_first s ts c (inr (inr (inl (x, (y, (u, v, e, t, rd), d), q)))) = first_token s class.DisjunctsWord ts u v y.0 e t ∙ ap (λ z. has (kind_of z) s) (sym q)
  extra_first s ts c (inr (inr (inr (x, (y, (u, v, e, t, rd), d), q)))) = first_token s class.WhenWord ts u v y.0 e t ∙ ap (λ z. has (kind_of z) s) (sym q)

  abbrev IsAfter : ClausesTree → List Tok → ClausesTree → Type 0
  IsAfter x ts y = (cs : List ClauseTree) × many (ExtraRow j) ts cs × AreOnce cs × AllUnread x cs × (y ≡ with_clauses x cs)

  one_more : (x : ClausesTree) (c : ClauseTree) (ts u v : List Tok) (y : ClausesTree) → ts ≡ u ++ v → ExtraRow j u c → starts (of (read_words x)) u ≡ false → IsAfter (with_clause x c) v y → IsAfter x ts y
  one_more x c ts u v y cut rd bar (cs, all, once, unread, q) =
      let l = all_later x c cs unread in
      (c ∷ cs, (u, v, cut, rd, all), (l.0, once), (sym (has_read x c) ∙ sym (extra_first (read_words x) u c rd) ∙ bar, l.1), q)

  clauses_to : (k : ℕ) (x : ClausesTree) (ts : List Tok) (y : ClausesTree) → (clauses (nested n) k x).reads ts y → IsAfter x ts y
  clauses_to zero x ts y (a, none, q) = ([], none, tt, tt, q)
  clauses_to (suc k) x ts y (o, (inl (z, (w, (u, v, cut, (c, (rd, bar), r), rest), d), p)), q) =
      subst (λ b. IsAfter x ts b) (sym (q ∙ ap (or_same x) (p ∙ ap Some d)))
      (one_more x c ts u v w.1 cut (ties_extra.to u c rd) bar (clauses_to k (with_clause x c) v w.1 (subst (λ b. (clauses (nested n) k b).reads v w.1) r rest)))
  clauses_to (suc k) x ts y (o, (inr (z, none, p)), q) = ([], none, tt, tt, q ∙ ap (or_same x) p)

  clauses_from : (k : ℕ) (x : ClausesTree) (cs : List ClauseTree) (ts : List Tok) → many (ExtraRow j) ts cs → AreOnce cs → AllUnread x cs → left_kinds x ≤ k → (clauses (nested (suc m)) k x).reads ts (with_clauses x cs)
  clauses_from zero x [] ts rd once unread le = (tt, rd, refl)
  clauses_from (suc k) x [] ts rd once unread le = (None, inr (tt, rd, refl), refl)
  clauses_from zero x (c ∷ cs) ts rd once unread le = absurd (let f = fewer x c unread.0 in omega (arith, f, le))
  clauses_from (suc k) x (c ∷ cs) ts (u, v, cut, rd, all) once unread le =
      let bar : starts (of (read_words x)) u ≡ false = extra_first (read_words x) u c rd ∙ has_read x c ∙ unread.0 in
      let f = fewer x c unread.0 in
      let rest = clauses_from k (with_clause x c) cs v all once.1 (all_sooner x c cs once.0 unread.1) (omega (arith, f, le)) in
      (Some (with_clauses x (c ∷ cs)), inl (with_clauses x (c ∷ cs), ((with_clause x c, with_clauses x (c ∷ cs)), (u, v, cut, (c, (ties_extra.of u c rd, bar), refl), rest), refl), refl), refl)

  ties_clauses : Ties (clauses (nested n) 4 no_clauses) (such_that AreOnce (many (ExtraRow j)) gives clauses_of) (clauses (nested (suc m)) 4 no_clauses)
  ties_clauses = record {
    to = λ ts y rd. (let w = clauses_to 4 no_clauses ts y rd in (w.0, (w.1, w.2), w.4));
    of = λ ts y rd. subst (λ z. (clauses (nested (suc m)) 4 no_clauses).reads ts z) (sym rd.2) (clauses_from 4 no_clauses rd.0 ts rd.1.0 rd.1.1 (none_read rd.0) (omega arith));
  }

  -- sections

  ties_end : Ties (end_part (nested n)) (after class.EndWord j.block) (end_part (nested (suc m)))
  unfolding end_part
  ties_end = ties_after class.EndWord g.block

  abbrev open_row : Phrase (List StmtTerm × List StmtTerm)
  open_row = ItemsRow j then (maybe (SimpleRow j) gives inl or after class.EndWord j.block gives inr) gives open_sections

  open_to : (ts u v : List Tok) (all : List StmtTerm) (last : Option StmtTerm) (finish : Option (List StmtTerm)) → ts ≡ u ++ v → (ItemsRow j then maybe (SimpleRow j)) u (all, last) → (end_unless (nested n) (is_there last)).reads v finish → open_row ts (all ++ last_of last, stmts_or_none finish)
  open_to ts u v all (Some s) finish cut (a, b, e, items, simple) (x, none, q) =
      ((all, inl (Some s)), (a, b, cut ∙ ap (λ z. u ++ z) none ∙ append-nil u ∙ e, items, inl (Some s, simple, refl)), λ i. (all ++ last_of (Some s), stmts_or_none (q i)))
  open_to ts u v all None finish cut (a, b, e, items, (inl (x, rd, p))) fin = absurd cc
  open_to ts u v all None finish cut (a, b, e, items, (inr (x, n, p))) (inl (ss, rd, q)) =
      ((all, inr ss), (a, v, cut ∙ ap (λ z. z ++ v) (e ∙ ap (λ z. a ++ z) n ∙ append-nil a), items, inr (ss, ties_end.to v ss rd, refl)), λ i. (append-nil all i, stmts_or_none (q i)))
  open_to ts u v all None finish cut (a, b, e, items, (inr (x, n, p))) (inr (y, none, q)) =
      ((all, inl None), (a, b, cut ∙ ap (λ z. u ++ z) none ∙ append-nil u ∙ e, items, inl (None, inr (tt, n, refl), refl)), λ i. (all ++ last_of None, stmts_or_none (q i)))

  no_more : (last : Option StmtTerm) → (end_unless (nested (suc m)) (is_there last)).reads [] None
  no_more None = inr (tt, refl, refl)
  no_more (Some s) = (tt, refl, refl)

  open_of : (ts : List Tok) (y : List StmtTerm × List StmtTerm) → open_row ts y → (language.made open_sections_of (language.follow (statements (nested (suc m))) (end_after (nested (suc m))))).reads ts y
  open_of ts y (x, (a, b, cut, items, (inl (last, rd, p))), q) =
      ((ended_from (x.0, last), None), (ts, [], sym (append-nil ts), statements_of n m h ts (x.0, last) (a, b, cut, items, rd), no_more last), q ∙ ap (λ z. open_sections (x.0, z)) p)
  open_of ts y (x, (a, b, cut, items, (inr (ss, rd, p))), q) = (
    (ended_from (x.0, None), Some ss),
    (a, b, cut, statements_of n m h a (x.0, None) (a, [], sym (append-nil a), items, inr (tt, refl, refl)), inl (ss, ties_end.of b ss rd, refl)),
    q ∙ ap (λ z. open_sections (x.0, z)) p ∙ λ i. (sym (append-nil x.0) i, ss),
  )

  ties_open : Ties (language.made open_sections_of (language.follow (statements (nested n)) (end_after (nested n)))) open_row (language.made open_sections_of (language.follow (statements (nested (suc m))) (end_after (nested (suc m)))))
  ties_open = record {
    to = λ ts y (x, (u, v, cut, st, fin), q). (let w = statements_to n m h u x.0 st in
        subst (λ z. open_row ts z) (sym (q ∙ ap (λ z. open_sections_of (z, x.1)) w.2)) (open_to ts u v w.0.0 w.0.1 x.1 cut w.1 (subst (λ z. (end_after (nested n) z).reads v x.1) w.2 fin)));
    of = open_of;
  }

  ties_sections : Ties (sections (nested n)) (after class.PopulationWord (j.block then maybe (after class.EndWord j.block)) gives sections_of or open_row) (sections (nested (suc m)))
  unfolding sections
  ties_sections = ties_or (ties_gives sections_of (ties_after class.PopulationWord (ties_then g.block (ties_maybe ties_end)))) ties_open

  ties_body : Ties (body (nested n)) (BodyRow j or the class.Semicolon gives empty_body) (body (nested (suc m)))
  unfolding body init_part BodyRow
  ties_body = ties_swap (ties_gives body_of (ties_then (ties_the class.OpenBrace) (ties_then (ties_maybe (ties_after class.InitWord g.block)) (ties_then ties_sections (ties_the class.CloseBrace))))) (ties_gives empty_body (ties_the class.Semicolon))

  ties_mapping : Ties (mapping_unit (nested n)) (after class.MappingWord (UnitPathRow then listed class.OpenRound (ParamsRow j) class.CloseRound then maybe (after class.Colon (PathRow then maybe ExtentRow gives result_decl_of)) then
      (such_that AreOnce (many (ExtraRow j)) gives clauses_of) then (BodyRow j or the class.Semicolon gives empty_body)) gives mapping_of) (mapping_unit (nested (suc m)))
  unfolding mapping_unit
  ties_mapping = ties_gives mapping_of (ties_after class.MappingWord (ties_then ties_unit_path (ties_then ties_params (ties_then (ties_maybe ties_result) (ties_then ties_clauses ties_body)))))

  unit_to : (ts : List Tok) (a : UnitTerm) → (unit (nested n)).reads ts a → UnitRow j ts a
  unfolding unit UnitRow
  unit_to ts a (inl rd) = inl (ties_class.to ts a rd)
  unit_to ts a (inr (inl rd)) = inr (inl (ties_main.to ts a rd))
  unit_to ts a (inr (inr (inl rd))) = inr (inr (inr (inl (ties_constructor.to ts a rd))))
  unit_to ts a (inr (inr (inr (inl rd)))) = inr (inr (inr (inr (ties_mapping.to ts a rd))))
  unit_to ts a (inr (inr (inr (inr rd)))) = inr (inr (inl (ties_helper.to ts a rd)))

  unit_of : (ts : List Tok) (a : UnitTerm) → UnitRow j ts a → (unit (nested (suc m))).reads ts a
  unfolding unit UnitRow
  unit_of ts a (inl rd) = inl (ties_class.of ts a rd)
  unit_of ts a (inr (inl rd)) = inr (inl (ties_main.of ts a rd))
  unit_of ts a (inr (inr (inl rd))) = inr (inr (inr (inr (ties_helper.of ts a rd))))
  unit_of ts a (inr (inr (inr (inl rd)))) = inr (inr (inl (ties_constructor.of ts a rd)))
  unit_of ts a (inr (inr (inr (inr rd)))) = inr (inr (inr (inl (ties_mapping.of ts a rd))))

  pub ties_unit : Ties (unit (nested n)) (UnitRow j) (unit (nested (suc m)))
  ties_unit = record { to = unit_to; of = unit_of }

  pub ties_module : Ties (transformation (nested n)) (ModuleRow j) (transformation (nested (suc m)))
  unfolding transformation ModuleRow
  ties_module = ties_gives module_of (ties_then (ties_many ties_model_type) (ties_then ties_header (ties_many (ties_swap (ties_gives some_unit ties_unit) (ties_gives no_units (ties_the class.Semicolon))))))
