-- Lists of numbers by name, when a number is put there.
use Rattle.std.proofs.Common.{◌≡◌, ◌∙◌, ℕ, ◌+◌, ◌<◌, List, [], ◌∷◌, ◌++◌, length, get_or, set, drop, Bool, true, false, ◌&&◌, Option, Some, None, position, refl, sym, ap, subst, arith, append_assoc}
use Rattle.std.specs.Prelude.{if◌then◌else◌}
use Rattle.std.specs.Option.{option_or}
use Rattle.std.specs.Str.{bytes_eq}
use Rattle.std.proofs.lemmas.List.{append-nil, drop_more, get_or-set_same, get_or-set_other, get_or_append_left, get_or-append-add}
use Rattle.std.proofs.lemmas.List.Quantifiers.{position-Some}
use Rattle.std.proofs.lemmas.Slice.Eq.{bytes_eq-Decides}
use Rattle.qvt_metamodel.proofs.Bools.{clash}
use Rattle.qvt_types_paths.proofs.Places.{position-push}
use Rattle.qvt_types_units.specs.declared.signature.Signature.{Signature}
use Rattle.qvt_types_units.specs.Numbers.{numbers_where, is_called}
use Rattle.qvt_types_groups.specs.Lists.{NamedLists, list_at, numbers_under, is_wanted, is_listed, is_one}

pub same_bytes : (x y : List ℕ) → bytes_eq x y ≡ true → x ≡ y
same_bytes x y h = (bytes_eq-Decides x y).0 h

-- two names that stand at one place are one
pub one_place : (names : List (List ℕ)) (x y : List ℕ) (s : ℕ) → position (bytes_eq x) names ≡ Some s → position (bytes_eq y) names ≡ Some s → x ≡ y
one_place names x y s p q =
    same_bytes x (get_or names s []) (position-Some (bytes_eq x) names s [] p).1
    ∙ sym (same_bytes y (get_or names s []) (position-Some (bytes_eq y) names s [] q).1)

abbrev MoreAt : NamedLists → ℕ → ℕ → Option ℕ → Bool → Type 0
MoreAt t s n o b = list_at (set t.lists s (get_or t.lists s [] ++ n ∷ [])) o ≡ list_at t.lists o ++ (if b then n ∷ [] else [])

abbrev NewAt : NamedLists → ℕ → Option ℕ → Bool → Type 0
NewAt t n o b = list_at (t.lists ++ (n ∷ []) ∷ []) (option_or o (if b then Some (length t.names) else None)) ≡ list_at t.lists o ++ (if b then n ∷ [] else [])

-- a number is put last in the list of a name that is there
pub more_under : (t : NamedLists) (name : List ℕ) (s n : ℕ) → length t.lists ≡ length t.names → position (bytes_eq name) t.names ≡ Some s → (other : List ℕ)
    → list_at (set t.lists s (get_or t.lists s [] ++ n ∷ [])) (position (bytes_eq other) t.names) ≡ numbers_under t other ++ (if bytes_eq other name then n ∷ [] else [])
more_under t name s n each at other = by (bytes_eq other name) refl
  where
    there : s < length t.lists
    there = (let low : s < length t.names = (position-Some (bytes_eq name) t.names s [] at).0 in omega (arith, low, each))

    apart : (o : Option ℕ) → position (bytes_eq other) t.names ≡ o → bytes_eq other name ≡ false → MoreAt t s n o false
    apart None e other_name = refl
    apart (Some k) e other_name =
        get_or-set_other t.lists s k (get_or t.lists s [] ++ n ∷ []) []
        (λ same. clash ((bytes_eq-Decides other name).1 (one_place t.names other name s (e ∙ ap Some same) at)) other_name)
        ∙ sym (append-nil (get_or t.lists k []))

    by : (b : Bool) → bytes_eq other name ≡ b → MoreAt t s n (position (bytes_eq other) t.names) b
    by true e = subst (λ o. MoreAt t s n o true) (sym (ap (λ x. position (bytes_eq x) t.names) (same_bytes other name e) ∙ at))
        (get_or-set_same t.lists s (get_or t.lists s [] ++ n ∷ []) [] there)
    by false e = apart (position (bytes_eq other) t.names) refl e

-- a name comes last, with a number under it
pub name_under : (t : NamedLists) (name : List ℕ) (n : ℕ) → length t.lists ≡ length t.names → position (bytes_eq name) t.names ≡ None → (other : List ℕ)
    → list_at (t.lists ++ (n ∷ []) ∷ []) (position (bytes_eq other) (t.names ++ name ∷ [])) ≡ numbers_under t other ++ (if bytes_eq other name then n ∷ [] else [])
name_under t name n each at other =
    ap (list_at (t.lists ++ (n ∷ []) ∷ [])) (position-push (bytes_eq other) t.names name) ∙ by (bytes_eq other name) refl
  where
    last : get_or (t.lists ++ (n ∷ []) ∷ []) (length t.names) [] ≡ n ∷ []
    last = ap (λ k. get_or (t.lists ++ (n ∷ []) ∷ []) k []) (let same : length t.names ≡ length t.lists + 0 = omega (arith, each) in same)
        ∙ get_or-append-add t.lists ((n ∷ []) ∷ []) 0 []

    kept : (o : Option ℕ) → position (bytes_eq other) t.names ≡ o → NewAt t n o false
    kept None e = refl
    kept (Some k) e =
        get_or_append_left t.lists ((n ∷ []) ∷ []) [] k (let low : k < length t.names = (position-Some (bytes_eq other) t.names k [] e).0 in omega (arith, low, each))
        ∙ sym (append-nil (get_or t.lists k []))

    by : (b : Bool) → bytes_eq other name ≡ b → NewAt t n (position (bytes_eq other) t.names) b
    by true e = subst (λ o. NewAt t n o true) (sym (ap (λ x. position (bytes_eq x) t.names) (same_bytes other name e) ∙ at)) last
    by false e = kept (position (bytes_eq other) t.names) refl

-- the numbers of what is left of the units, one step on
pub where_next : (p : Signature → Bool) (us : List Signature) (n : ℕ) (d : Signature) (has had r : List ℕ) → n < length us
    → had ++ numbers_where p n (drop n us) ≡ r → has ≡ had ++ (if p (get_or us n d) then n ∷ [] else []) → has ++ numbers_where p (n + 1) (drop (n + 1) us) ≡ r
where_next p us n d has had r l before is =
    ap (λ ns. ns ++ numbers_where p (n + 1) (drop (n + 1) us)) is
    ∙ by (p (get_or us n d)) refl
    ∙ ap (λ xs. had ++ numbers_where p n xs) (sym (drop_more us n d l))
    ∙ before
  where
    by : (b : Bool) → p (get_or us n d) ≡ b
        → (had ++ (if b then n ∷ [] else [])) ++ numbers_where p (n + 1) (drop (n + 1) us) ≡ had ++ (if b then n ∷ numbers_where p (n + 1) (drop (n + 1) us) else numbers_where p (n + 1) (drop (n + 1) us))
    by true e = append_assoc had (n ∷ []) (numbers_where p (n + 1) (drop (n + 1) us))
    by false e = ap (λ ns. ns ++ numbers_where p (n + 1) (drop (n + 1) us)) (append-nil had)

not_listed : (a n h : Bool) → (a && h) ≡ false → (a && (n && h)) ≡ false
not_listed true true h e = e
not_listed true false h e = refl
not_listed false n h e = refl

listed : (a n h : Bool) → (a && h) ≡ true → (a && (n && h)) ≡ n
listed true true h e = e
listed true false h e = refl
listed false n h e = absurd (cc)

-- a unit that is not wanted is put nowhere
pub left_out : (maps with_context : Bool) (u : Signature) (n : ℕ) (ns name : List ℕ) → is_one maps with_context u ≡ false → ns ≡ ns ++ (if is_listed maps with_context name u then n ∷ [] else [])
left_out maps with_context u n ns name e =
    sym (append-nil ns)
    ∙ ap (λ b. ns ++ (if b then n ∷ [] else [])) (sym (not_listed (is_called maps u.sort) (bytes_eq name u.name) (is_wanted with_context u.context) e))

-- one that is wanted is put under its name
pub put_under : (maps with_context : Bool) (u : Signature) (n : ℕ) (had has name : List ℕ) → is_one maps with_context u ≡ true
    → has ≡ had ++ (if bytes_eq name u.name then n ∷ [] else []) → has ≡ had ++ (if is_listed maps with_context name u then n ∷ [] else [])
put_under maps with_context u n had has name e is =
    is ∙ ap (λ b. had ++ (if b then n ∷ [] else [])) (sym (listed (is_called maps u.sort) (bytes_eq name u.name) (is_wanted with_context u.context) e))
