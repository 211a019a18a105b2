-- The rows at each nesting, and the law of the rows.
use Rattle.std.proofs.Common.{◌≡◌, ℕ, zero, suc, List, [], ◌++◌, true, inl, inr, refl, sym, subst, append-nil, Some}
use Rattle.qvt_grammar.specs.Language.{head_of}
use Rattle.qvt_tree_types.specs.Tree.{ExprTerm, PathExpr, BareTarget}
use Rattle.qvt_language.specs.Tokens.{Tok}
use Rattle.qvt_language.specs.declared.named.Named.{Named}
use Rattle.qvt_language.specs.Readers.{nowhere}
use Rattle.qvt_language.specs.Leads.{Plain}
use Rattle.qvt_language.specs.Trees.{path_of}
use Rattle.qvt_language.specs.Grammar.{NestedLanguages, more_names, bare_expr, named_expr, other_primary, primary, post, pre, expr, flagged}
use Rattle.qvt_language.specs.Units.{transformation, unit}
use Rattle.qvt_language.specs.Module.{Start, ReadsFrom, FrontFrom}
use Rattle.qvt_language.specs.Laws.{Beginnings}
use Rattle.qvt_language.specs.Nesting.{nested}
use Rattle.qvt_language.proofs.Starts.{beginnings}
use Rattle.qvt_language.proofs.Whole as grammar
use Rattle.qvt_language_rows.specs.Phrase.{Phrase}
use Rattle.qvt_language_rows.specs.Rows.{NestedRows, NameRow, TargetRow}
use Rattle.qvt_language_rows.specs.Units.{UnitRow, ModuleRow}
use Rattle.qvt_language_rows.specs.Language.{inside, Is, BeginsRow}
use Rattle.qvt_language_rows.specs.Law.{AreOne}
use Rattle.qvt_language_rows.proofs.Ties.{Ties, ties_none}
use Rattle.qvt_language_rows.proofs.Plain.{TiesInside, ties_name, ties_type}
use Rattle.qvt_language_rows.proofs.Leads.{raise}
use Rattle.qvt_language_rows.proofs.Levels.{flagged_to, ties_flagged}
use Rattle.qvt_language_rows.proofs.Statements.{solid_i, solid_k, ties_block}
use Rattle.qvt_language_rows.proofs.Units.{g, ties_unit, ties_module}

-- a name is read as an expression at any nesting
name_flagged : (k : NestedLanguages) (ts : List Tok) (a : Named) → NameRow ts a → (flagged k).reads ts (Plain (PathExpr (path_of (a, []))) (Some (BareTarget a.text a.place)))
unfolding flagged pre post primary other_primary bare_expr named_expr more_names
name_flagged k ts a rd = raise (pre k) (pre k) 8 ts (Plain (PathExpr (path_of (a, []))) (Some (BareTarget a.text a.place)))
    (inr (
      (head_of (λ t. t.place) nowhere ts, ((PathExpr (path_of (a, [])), true), [])),
      ((ts, [], sym (append-nil ts), inr (inr (PathExpr (path_of (a, [])), inr (inr (inl ((a, inr []), (ts, [], sym (append-nil ts), ties_name.of ts a rd, inr ([], refl, refl)), refl))), refl)), refl), refl),
      refl,
    ))

-- a target of one name is one
target_name : (j : NestedRows) (ts : List Tok) (text : List ℕ) (place : _) → TargetRow j ts (BareTarget text place) → NameRow ts (record { text = text; place = place })
unfolding TargetRow
target_name j ts text place (inl (a, rd, q)) = (let one : text ≡ a.text = cc in let two : place ≡ a.place = cc in subst (λ z. NameRow ts z) (λ i. record { text = sym one i; place = sym two i }) rd)
target_name j ts text place (inr (inl (t, rd, q))) = absurd cc
target_name j ts text place (inr (inr (x, rd, q))) = absurd cc

-- the nesting of the parser's productions that has the rows of this one
abbrev above : ℕ → ℕ
above zero = suc zero
above (suc n) = suc (suc (above n))

module _ (n m : ℕ) {j : NestedRows} (h : TiesInside (nested n) j (nested m)) where
  name_of : (ts : List Tok) (e : ExprTerm) (text : List ℕ) (place : _) → (flagged (nested n)).reads ts (Plain e (Some (BareTarget text place))) → NameRow ts (record { text = text; place = place })
  name_of ts e text place rd = target_name j ts text place (flagged_to h (solid_i n m h) (solid_k n m h) ts (Plain e (Some (BareTarget text place))) rd).1

pub ties_inside : (n : ℕ) → TiesInside (nested n) (inside n) (nested (above n))
unfolding nested inside expr
ties_inside zero = record {
  type = ties_none;
  expr = record { to = λ ts e rd. rd.1; of = λ ts e rd. absurd rd };
  block = ties_none;
  bare_to = λ ts e text place rd. absurd rd;
  bare_of = λ ts a rd. name_flagged (nested zero) ts a rd;
}
ties_inside (suc n) = let h = ties_inside n in let more = g n (above n) h in record {
  type = ties_type more;
  expr = ties_flagged more (solid_i n (suc (above n)) more) (solid_k n (suc (above n)) more);
  block = ties_block n (above n) h;
  bare_to = name_of n (above n) h;
  bare_of = λ ts a rd. name_flagged (nested (suc (above n))) ts a rd;
}

module _ {A : Type 0} (row : NestedRows → Phrase A) (start : Start A) (ties : (n : ℕ) → Ties (start (nested n)) (row (inside n)) (start (nested (suc (above n))))) (law : Beginnings start) where
  is_of : (ts : List Tok) (a : A) → ReadsFrom start ts a → Is row ts a
  is_of ts a r = record { nesting = r.nesting; is = (ties r.nesting).to ts a r.reads }

  reads_of : (ts : List Tok) (a : A) → Is row ts a → ReadsFrom start ts a
  reads_of ts a r = record { nesting = suc (above r.nesting); reads = (ties r.nesting).of ts a r.is }

  front_of : (ts : List Tok) → BeginsRow row ts → FrontFrom start ts
  front_of ts b = law.begins ts b.more b.value (reads_of (ts ++ b.more) b.value b.whole)

  begins_of : (ts : List Tok) → FrontFrom start ts → BeginsRow row ts
  begins_of ts f = let w = law.completed ts f in record { more = w.0; value = w.1; whole = is_of (ts ++ w.0) w.1 w.2 }

  pub are_one : AreOne row start
  are_one = record {
    read = λ ts a. (reads_of ts a, is_of ts a);
    begun = λ ts. (front_of ts, begins_of ts);
    faulty = λ ts rest. (
      (λ f. record { before = (f.before.0, f.before.1, front_of f.before.0 f.before.2); longest = λ u s e b. f.longest u s e (begins_of u b); unread = λ a r. f.unread a (is_of ts a r) }),
      (λ f. record { before = (f.before.0, f.before.1, begins_of f.before.0 f.before.2); longest = λ u s e b. f.longest u s e (front_of u b); unread = λ a r. f.unread a (reads_of ts a r) }),
    );
  }

pub whole : AreOne ModuleRow transformation
whole = are_one ModuleRow transformation (λ n. ties_module n (above n) (ties_inside n)) (beginnings grammar.whole)

pub part : AreOne UnitRow unit
part = are_one UnitRow unit (λ n. ties_unit n (above n) (ties_inside n)) (beginnings grammar.part)
