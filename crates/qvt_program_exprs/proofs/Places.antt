-- Places that are entered under numbers, one after the other.
use Rattle.std.proofs.Common.{◌≡◌, ◌∙◌, sym, ap, subst, ℕ, ◌<◌, ◌≤◌, ◌+◌, List, length, map, drop, get_or, Option, Some, None}
use Rattle.std.specs.Prelude.{if◌then◌else◌}
use Rattle.std.specs.Option.{option_or}
use Rattle.std.proofs.lemmas.List.{get_or-map, length-map}
use Rattle.qvt_meta_names.proofs.Tables.{first_at, first-all, first-next}
use Rattle.qvt_meaning.specs.Numbered.{Listed}
use Rattle.qvt_program_exprs.specs.Index.{IsExprIndex, numbered_so, place_under}
use Rattle.qvt_program_exprs.specs.Listing.{listed_view, listing}
use Rattle.qvt_program_exprs.specs.declared.listed.ListedExpr.{ListedExpr}

-- of the items before this place each number has the first place
abbrev pub AreFirst : List Listed → List (Option ℕ) → ℕ → Type 0
AreFirst ls places place = (n : ℕ) → option_or (place_under places n) (first_at (numbered_so n) place (drop place ls)) ≡ first_at (numbered_so n) 0 ls

pub one_more : (all : List ListedExpr) (old new : List (Option ℕ)) (place : ℕ) (e : ListedExpr) → place < length all → e ≡ get_or all place e → AreFirst (listing all) old place
    → ((n : ℕ) → place_under new n ≡ option_or (place_under old n) (if numbered_so n (listed_view e) then Some place else None)) → AreFirst (listing all) new (place + 1)
unfolding listing
one_more all old new place e l at before now n =
    first-next (numbered_so n) place (map listed_view all) (listed_view e) (place_under old n) (place_under new n) (first_at (numbered_so n) 0 (map listed_view all))
    (subst (λ k. place < k) (sym (length-map all listed_view)) l)
    (before n)
    (now n ∙ ap (λ x. option_or (place_under old n) (if numbered_so n x then Some place else None)) (ap listed_view at ∙ sym (get_or-map listed_view all place e (listed_view e) l)))

pub all_placed : (all : List ListedExpr) (places : List (Option ℕ)) (place : ℕ) → length all ≤ place → AreFirst (listing all) places place → IsExprIndex (listing all) places
unfolding listing
all_placed all places place l are n =
    first-all (numbered_so n) place (map listed_view all) (place_under places n) (subst (λ k. k ≤ place) (sym (length-map all listed_view)) l) (are n)
