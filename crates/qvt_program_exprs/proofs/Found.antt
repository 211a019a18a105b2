-- What is found at the first place that passes.
use Rattle.std.proofs.Common.{◌≡◌, ◌∙◌, refl, sym, ap, ℕ, Bool, true, false, cond, List, length, Option, Some, None}
use Rattle.std.specs.Prelude.{find, nat_lt, option_map, position, slice_get}
use Rattle.std.specs.List.{position_or_len}
use Rattle.std.proofs.lemmas.Bool.{ltb-false}
use Rattle.std.proofs.lemmas.List.Folds.{find_at}
use Rattle.std.proofs.lemmas.Option.{slice_get-map, slice_get_past}
use Rattle.qvt_base.specs.declared.numbers.ExprNo.{ExprNo}
use Rattle.qvt_types_program.specs.Program.{program_view}
use Rattle.qvt_meaning.specs.Numbered.{all_listed, has_number}
use Rattle.qvt_program_exprs.specs.Index.{numbered_so, place_under}
use Rattle.qvt_program_exprs.specs.Listing.{listed_view, listing}
use Rattle.qvt_program_exprs.specs.Table.{IsTable}
use Rattle.qvt_program_exprs.specs.declared.listed.ListedExpr.{ListedExpr}
use Rattle.qvt_program_exprs.specs.declared.table.Expressions.{Expressions}

abbrev item_at : {X : Type 0} → List X → Option ℕ → Option X
item_at xs None = None
item_at xs (Some i) = slice_get xs i

found : {X : Type 0} (p : X → Bool) (xs : List X) (o : Option ℕ) → o ≡ position p xs → find p xs ≡ item_at xs o
found p xs o is = find_at p xs ∙ by (nat_lt (position_or_len p xs) (length xs)) refl ∙ ap (item_at xs) (sym is)
  where
    by : (b : Bool) → nat_lt (position_or_len p xs) (length xs) ≡ b → slice_get xs (position_or_len p xs) ≡ item_at xs (cond b (Some (position_or_len p xs)) None)
    by true e = refl
    by false e = slice_get_past xs (position_or_len p xs) (ltb-false (position_or_len p xs) (length xs) e)

-- no place stands under the number
pub none_listed : (es : Expressions) (n : ExprNo) → IsTable es → None ≡ place_under es.places n.0 → None ≡ find (has_number n) (all_listed (program_view es.program.now))
none_listed es n t none = sym (found (numbered_so n.0) (listing es.all) None (none ∙ t.finds n.0)) ∙ ap (find (has_number n)) t.lists

listed_at : (all : List ListedExpr) (place : ℕ) → option_map listed_view (slice_get all place) ≡ slice_get (listing all) place
unfolding listing
listed_at all place = sym (slice_get-map listed_view all place)

pub one_listed : (es : Expressions) (n : ExprNo) (place : ℕ) → IsTable es → Some place ≡ place_under es.places n.0
    → option_map listed_view (slice_get es.all place) ≡ find (has_number n) (all_listed (program_view es.program.now))
one_listed es n place t there =
    listed_at es.all place ∙ sym (found (numbered_so n.0) (listing es.all) (Some place) (there ∙ t.finds n.0)) ∙ ap (find (has_number n)) t.lists
