-- What is told of units one after the other.
use Rattle.std.proofs.Common.{◌≡◌, ◌∙◌, ℕ, ◌+◌, ◌<◌, ◌≤◌, true, arith, List, [], ◌∷◌, ◌++◌, length, map, get_or, drop, take, refl, sym, ap, append_assoc}
use Rattle.std.specs.List.{list_any, flat_map}
use Rattle.std.proofs.lemmas.Grind.{flat_map-append}
use Rattle.std.proofs.lemmas.List.{drop_more, take_more}
use Rattle.qvt_metamodel.specs.Metamodels.{Metamodels}
use Rattle.qvt_tree_types.specs.Module.{UnitTerm, ClassOf, MainOf, HelperOf, ConstructorOf, MappingOf, unit_view}
use Rattle.qvt_tree_types.specs.View.{block_view}
use Rattle.qvt_tree_types.specs.declared.tree.Stmt.{Stmt}
use Rattle.qvt_tree_types.specs.declared.module.Unit as code
use Rattle.qvt_types_data.specs.declared.refusal.TypingRefusal.{TypingRefusal}
use Rattle.qvt_types_data.specs.declared.refusal.RefusalKind.TheVariants.{SameName}
use Rattle.qvt_types_paths.specs.ModelTypes.{NamedTypes}
use Rattle.qvt_types_paths.specs.Told.{told_if}
use Rattle.qvt_types_groups.specs.declared.signature.Signature.{Signature}
use Rattle.qvt_types_groups.specs.Reuse.{has_stmts}
use Rattle.qvt_types_groups.specs.Units.{lists_told, same_told, are_same}
use Rattle.qvt_types_lists.specs.Lists.{unit_told}

first_told : (m e : Metamodels) (t : NamedTypes) (us : List Signature) (lists : List (List ℕ)) (n : ℕ) (v : UnitTerm) (more : List UnitTerm)
    → lists_told m e t us lists n (v ∷ more) ≡ unit_told m e t us lists n v ++ lists_told m e t us lists (n + 1) more
first_told m e t us lists n (ClassOf c) more = refl
first_told m e t us lists n (MainOf body at) more = refl
first_told m e t us lists n (HelperOf h) more = refl
first_told m e t us lists n (ConstructorOf h) more = refl
first_told m e t us lists n (MappingOf u) more = refl

-- the unit at the next place is told of
pub lists_next : (m e : Metamodels) (t : NamedTypes) (us : List Signature) (lists : List (List ℕ)) (written : List code.Unit) (n : ℕ) (u : code.Unit) (had has r : List TypingRefusal)
    → n < length written → u ≡ get_or written n u
    → had ++ lists_told m e t us lists n (map unit_view (drop n written)) ≡ r
    → has ≡ had ++ unit_told m e t us lists n (unit_view u)
    → has ++ lists_told m e t us lists (n + 1) (map unit_view (drop (n + 1) written)) ≡ r
lists_next m e t us lists written n u had has r l at before is =
    ap (λ xs. xs ++ lists_told m e t us lists (n + 1) (map unit_view (drop (n + 1) written))) is
    ∙ append_assoc had (unit_told m e t us lists n (unit_view u)) (lists_told m e t us lists (n + 1) (map unit_view (drop (n + 1) written)))
    ∙ ap (λ xs. had ++ xs) (sym (first_told m e t us lists n (unit_view u) (map unit_view (drop (n + 1) written))))
    ∙ ap (λ xs. had ++ lists_told m e t us lists n (map unit_view xs)) (ap (λ x. x ∷ drop (n + 1) written) at ∙ sym (drop_more written n u l))
    ∙ before

-- the unit at the next place is compared with those before it
pub same_next : (us : List Signature) (n : ℕ) (u : Signature) (had has r : List TypingRefusal)
    → n < length us → u ≡ get_or us n u
    → had ++ same_told (take n us) (drop n us) ≡ r
    → has ≡ had ++ told_if (list_any (are_same u) (take n us)) SameName u.place
    → has ++ same_told (take (n + 1) us) (drop (n + 1) us) ≡ r
same_next us n u had has r l at before is =
    ap (λ xs. xs ++ same_told (take (n + 1) us) (drop (n + 1) us)) is
    ∙ append_assoc had (told_if (list_any (are_same u) (take n us)) SameName u.place) (same_told (take (n + 1) us) (drop (n + 1) us))
    ∙ ap (λ ts. had ++ (told_if (list_any (are_same u) (take n us)) SameName u.place ++ same_told ts (drop (n + 1) us))) (take_more us n u l ∙ ap (λ x. take n us ++ x ∷ []) (sym at))
    ∙ ap (λ xs. had ++ same_told (take n us) xs) (ap (λ x. x ∷ drop (n + 1) us) at ∙ sym (drop_more us n u l))
    ∙ before

pub some_stmts : (ss : List Stmt) → 1 ≤ length ss → true ≡ has_stmts (block_view ss)
some_stmts [] some = absurd (omega (arith, some))
some_stmts (s ∷ ss) some = refl

-- three lists looked through one after the other
pub three : {X : Type 0} (f : X → List ℕ) (a b d : List X) (x y z : List ℕ) → x ≡ flat_map f a → y ≡ x ++ flat_map f b → z ≡ y ++ flat_map f d → z ≡ flat_map f (a ++ b ++ d)
three f a b d x y z p q r =
    r ∙ ap (λ ns. ns ++ flat_map f d) (q ∙ ap (λ ns. ns ++ flat_map f b) p ∙ sym (flat_map-append f a b)) ∙ sym (flat_map-append f (a ++ b) d)
