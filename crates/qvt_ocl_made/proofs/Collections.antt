-- Collections as made.
use Rattle.std.proofs.Common.{◌≡◌, ◌∙◌, Bool, true, false, ◌&&◌, List, refl, sym, ap, subst}
use Rattle.std.specs.Prelude.{⊤, ◌↔◌, All, IsTrue}
use Rattle.std.specs.List.{AllByRecursion}
use Rattle.std.specs.Ordering.{is_eq}
use Rattle.std.specs.declared.cmp.Ordering.{Ordering}
use Rattle.std.specs.declared.cmp.Ordering.TheVariants.{Less, Equal, Greater}
use Rattle.std.proofs.lemmas.List.Elements.{All-from_recursion, recursion_from_All}
use Rattle.qvt_value.specs.declared.value.Value.{Value, Coll', Row_of-Value, end_of-Value, more_of-Value, items-the_row-Value, items_hidden-the_row-Value-0}
use Rattle.qvt_value.specs.declared.value.Value.TheViews.{Coll}
use Rattle.qvt_value.specs.declared.value.Kind.{Kind}
use Rattle.qvt_value.specs.Kept.{is_same}
use Rattle.qvt_value.specs.Make.{made}
use Rattle.qvt_value.specs.Order.{order_of}
use Rattle.qvt_value.proofs.MadeLists.{made_again, same_lists}
use Rattle.qvt_value.proofs.OrderOfValues.{exact, itself}
use Rattle.qvt_ocl_words.specs.Collections.{kept}
use Rattle.qvt_ocl_made.specs.AsMade.{IsAsMade, IsRowAsMade}
use Rattle.qvt_ocl_made.specs.Law.{CollectionIsAsMade, MadeIsAsMade}
use Rattle.qvt_ocl_made.proofs.Each as each

abbrev pub AreAsMade : List Value → Type 0
AreAsMade = AllByRecursion IsAsMade

pub row_items : {m : _} (r : Row_of-Value m) → IsRowAsMade r → AreAsMade (items-the_row-Value m r)
row_items end_of-Value a = tt
row_items (more_of-Value v vs) a = (a.0, row_items vs a.1)

items_row : {m : _} (r : Row_of-Value m) → AreAsMade (items-the_row-Value m r) → IsRowAsMade r
items_row end_of-Value a = tt
items_row (more_of-Value v vs) a = (a.0, items_row vs a.1)

-- of a collection, its list and its items
abbrev Parts : Value → Type 0
Parts (Coll' k s r) = (made k (items-the_row-Value _ r) ≡ items-the_row-Value _ r) × AreAsMade (items-the_row-Value _ r)
Parts v = ⊤

to_parts : (v : Value) → IsAsMade v → Parts v
to_parts (Coll' k s r) a = (a.0, row_items r a.1)
to_parts v a = tt

from_parts : (v : Value) → Parts v → IsAsMade v
from_parts (Coll' k s r) a = (a.0, items_row r a.1)
from_parts v a = tt

abbrev PartsOf : Kind → List Value → Type 0
PartsOf k xs = (made k xs ≡ xs) × AreAsMade xs

pub collection : (k : Kind) (xs : List Value) → made k xs ≡ xs → AreAsMade xs → IsAsMade (Coll k xs)
collection k xs m a = from_parts (Coll k xs) (subst (PartsOf k) (sym (items_hidden-the_row-Value-0 xs)) (m, a))

pub parts : (k : Kind) (xs : List Value) → IsAsMade (Coll k xs) → (made k xs ≡ xs) × AreAsMade xs
parts k xs h = subst (PartsOf k) (items_hidden-the_row-Value-0 xs) (to_parts (Coll k xs) h)

pub collection_is : CollectionIsAsMade
collection_is k xs = (
  λ h. let p = parts k xs h in (p.0, All-from_recursion IsAsMade xs p.1),
  λ p. collection k xs p.0 (recursion_from_All IsAsMade xs p.1),
)

pub made_items : (k : Kind) (xs : List Value) → AreAsMade xs → IsAsMade (Coll k (made k xs))
made_items k xs a = collection k (made k xs) (made_again k xs) (each.made_of IsAsMade k xs a)

pub made_is : MadeIsAsMade
made_is k xs h = made_items k xs (recursion_from_All IsAsMade xs h)

pub made_value : (v : Value) (k : Kind) (xs : List Value) → v ≡ Coll k (made k xs) → All IsAsMade xs → IsAsMade v
made_value v k xs e h = subst IsAsMade (sym e) (made_is k xs h)

pub kept_is : (k : Kind) (xs : List Value) → AreAsMade xs → IsAsMade (kept k xs)
unfolding kept
kept_is k xs a = made_items k xs a

-- ---- the test

equal_is : (r : Ordering) → is_eq r ≡ true → r ≡ Equal
equal_is Less h = cc
equal_is Equal h = refl
equal_is Greater h = cc

pub list_test : (k : Kind) (xs : List Value) (again : Value) (b : Bool) → again ≡ Coll k (made k xs) → b ≡ is_same order_of (Coll k xs) again → IsTrue b ↔ (made k xs ≡ xs)
list_test k xs again b e t = (to, from)
  where
    said : b ≡ is_same order_of (Coll k xs) (Coll k (made k xs))
    said = t ∙ ap (is_same order_of (Coll k xs)) e

    to : IsTrue b → made k xs ≡ xs
    to h = sym ((same_lists k k xs (made k xs)).0 (exact (Coll k xs) (Coll k (made k xs)) (equal_is _ (sym said ∙ h)))).1

    from : made k xs ≡ xs → IsTrue b
    from h = said ∙ ap (λ ys. is_same order_of (Coll k xs) (Coll k ys)) h ∙ ap is_eq (itself (Coll k xs))

both_true : (a b : Bool) → (a && b) ≡ true → (a ≡ true) × (b ≡ true)
both_true true b h = (refl, h)
both_true false b h = cc

and_true : (a b : Bool) → a ≡ true → b ≡ true → (a && b) ≡ true
and_true true b h k = k
and_true false b h k = cc

value_test : (k : Kind) (xs : List Value) (a b : Bool) → IsTrue a ↔ (made k xs ≡ xs) → IsTrue b ↔ All IsAsMade xs → IsTrue (a && b) ↔ IsAsMade (Coll k xs)
value_test k xs a b f g = (
  λ h. let p = both_true a b h in (collection_is k xs).1 (f.0 p.0, g.0 p.1),
  λ h. let p = (collection_is k xs).0 h in and_true a b (f.1 p.0) (g.1 p.1),
)

pub value_held : (k : Kind) (xs : List Value) (v : Value) (a b : Bool) → v ≡ Coll k xs → a ≡ true → IsTrue a ↔ (made k xs ≡ xs) → IsTrue b ↔ All IsAsMade xs → IsTrue b ↔ IsAsMade v
value_held k xs v a b e t f g = subst (λ w. IsTrue b ↔ IsAsMade w) (sym e) (subst (λ c. IsTrue (c && b) ↔ IsAsMade (Coll k xs)) t (value_test k xs a b f g))
