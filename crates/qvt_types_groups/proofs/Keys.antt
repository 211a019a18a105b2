-- Units are told by their keys.
use Rattle.std.proofs.Common.{◌≡◌, ◌∙◌, ℕ, ◌==◌, List, length, map, Bool, true, false, ◌&&◌, Option, Some, None, position, refl, sym, ap}
use Rattle.std.specs.Prelude.{if◌then◌else◌, is_some}
use Rattle.std.specs.Map.{lookup}
use Rattle.std.specs.Option.{option_or}
use Rattle.std.specs.Str.{bytes_eq}
use Rattle.std.proofs.lemmas.Bool.{eq-eqb, eqb-true}
use Rattle.std.proofs.lemmas.Slice.Eq.{bytes_eq-Decides}
use Rattle.qvt_metamodel.proofs.Bools.{and_left, and_right, and_both, and_no, not_true}
use Rattle.qvt_metamodel.proofs.Lookups.{position-map}
use Rattle.qvt_types_units.specs.declared.signature.HeadClass.{HeadClass}
use Rattle.qvt_types_units.specs.declared.signature.HeadClass.TheVariants.{Missing, Unknown, Known}
use Rattle.qvt_types_units.specs.declared.signature.Signature.{Signature}
use Rattle.qvt_types_units.specs.Numbers.{is_called, is_constructor, is_context, has_context, is_constructor_of, is_in_group, group}
use Rattle.qvt_types_groups.specs.declared.class_table.ClassKey.{ClassKey}
use Rattle.qvt_types_groups.specs.Keys.{same_key, is_key, key_in, named_key, constructor_key, is_named}
use Rattle.qvt_types_groups.specs.Lists.{NamedLists, numbers_under, list_at}
use Rattle.qvt_types_groups.proofs.Lists.{one_place, same_bytes}
use Rattle.qvt_types_groups.proofs.Firsts.{none_where}

same_test : (a b : Bool) → (a ≡ true → b ≡ true) → (b ≡ true → a ≡ true) → a ≡ b
same_test true b f g = sym (f refl)
same_test false true f g = g refl
same_test false false f g = refl

pub flip_eq : (a b : ℕ) → (a == b) ≡ (b == a)
flip_eq a b = same_test (a == b) (b == a) (λ h. eq-eqb b a (sym (eqb-true a b h))) (λ h. eq-eqb a b (sym (eqb-true b a h)))

and_flip : (a b : Bool) → (a && b) ≡ (b && a)
and_flip true true = refl
and_flip true false = refl
and_flip false true = refl
and_flip false false = refl

pub key_is : (a b : ClassKey) → same_key a b ≡ true → a ≡ b
key_is a b h =
    let class : a.class.0 ≡ b.class.0 = eqb-true a.class.0 b.class.0 (and_left (a.class.0 == b.class.0) (a.number == b.number) h) in
    let number : a.number ≡ b.number = eqb-true a.number b.number (and_right (a.class.0 == b.class.0) (a.number == b.number) h) in
    λ i. record { class = record { 0 = class i }; number = number i }

-- a key that is there is not entered again
pub known_key : (t : List (ClassKey × ℕ)) (key : ClassKey) (n : ℕ) → is_some (lookup (same_key key) t) ≡ true → (k : ClassKey)
    → lookup (same_key k) t ≡ option_or (lookup (same_key k) t) (if same_key k key then Some n else None)
known_key t key n there k = by (same_key k key) refl
  where
    here : (o : Option ℕ) → is_some o ≡ true → o ≡ option_or o (Some n)
    here None h = absurd (cc)
    here (Some x) h = refl

    nothing : (o : Option ℕ) → o ≡ option_or o None
    nothing None = refl
    nothing (Some x) = refl

    by : (b : Bool) → same_key k key ≡ b → lookup (same_key k) t ≡ option_or (lookup (same_key k) t) (if b then Some n else None)
    by true e = here (lookup (same_key k) t) (ap (λ x. is_some (lookup (same_key x) t)) (key_is k key e) ∙ there)
    by false e = nothing (lookup (same_key k) t)

module _ (names : List (List ℕ)) (name : List ℕ) (s : ℕ) (at : position (bytes_eq name) names ≡ Some s) where
  -- a name has this place where it is this name
  here : (x : List ℕ) (r : ℕ) → position (bytes_eq x) names ≡ Some r → (s == r) ≡ bytes_eq name x
  here x r e = same_test (s == r) (bytes_eq name x)
      (λ h. (bytes_eq-Decides name x).1 (one_place names name x s at (e ∙ ap Some (sym (eqb-true s r h)))))
      (λ h. eq-eqb s r (some_is s r (sym at ∙ ap (λ y. position (bytes_eq y) names) (same_bytes name x h) ∙ e)))
    where
      some_is : (a b : ℕ) → Some a ≡ Some b → a ≡ b
      some_is a b h = ap (λ (o : Option ℕ). option_or_zero o) h
        where
          option_or_zero : Option ℕ → ℕ
          option_or_zero None = 0
          option_or_zero (Some n) = n

  elsewhere : (x : List ℕ) → position (bytes_eq x) names ≡ None → bytes_eq name x ≡ false
  elsewhere x e = not_true (bytes_eq name x) (λ h. some_none (sym at ∙ ap (λ y. position (bytes_eq y) names) (same_bytes name x h) ∙ e))
    where
      some_none : Some s ≡ None → ⊥
      some_none h = absurd (cc)

  named_known : (c : ℕ) (d : HeadClass) (x : List ℕ) (o : Option ℕ) → position (bytes_eq x) names ≡ o
      → is_key (record { class = record { 0 = c }; number = s }) (key_in d o) ≡ (bytes_eq name x && is_context d c)
  named_known c Missing x o e = sym (and_no (bytes_eq name x) false refl)
  named_known c Unknown x o e = sym (and_no (bytes_eq name x) false refl)
  named_known c (Known d) x None e = sym (ap (λ b. b && (d.0 == c)) (elsewhere x e))
  named_known c (Known d) x (Some r) e = (λ i. flip_eq c d.0 i && here x r e i) ∙ and_flip (d.0 == c) (bytes_eq name x)

  -- a mapping, or a helper or query, is told by its context and its name
  named_is : (maps : Bool) (c : ℕ) (u : Signature) → is_key (record { class = record { 0 = c }; number = s }) (named_key maps names u) ≡ is_named maps c name u
  named_is maps c u = by (is_called maps u.sort)
    where
      by : (b : Bool) → is_key (record { class = record { 0 = c }; number = s }) (if b then key_in u.context (position (bytes_eq u.name) names) else None)
          ≡ (b && (bytes_eq name u.name && is_context u.context c))
      by true = named_known c u.context u.name (position (bytes_eq u.name) names) refl
      by false = refl

  pub named_at : (maps : Bool) (c : ℕ) (us : List Signature)
      → position (is_key (record { class = record { 0 = c }; number = s })) (map (named_key maps names) us) ≡ position (is_named maps c name) us
  named_at maps c us =
      sym (position-map (is_key (record { class = record { 0 = c }; number = s })) (named_key maps names) us)
      ∙ (λ i. position (λ u. named_is maps c u i) us)

context_there : (h : HeadClass) (c : ℕ) → is_context h c ≡ true → has_context h ≡ true
context_there Missing c h = absurd (cc)
context_there Unknown c h = refl
context_there (Known d) c h = refl

in_group : (maps : Bool) (c : ℕ) (name : List ℕ) (u : Signature) → is_named maps c name u ≡ true → is_in_group maps name u ≡ true
in_group maps c name u h =
    let rest : (bytes_eq name u.name && is_context u.context c) ≡ true = and_right (is_called maps u.sort) (bytes_eq name u.name && is_context u.context c) h in
    and_both (is_called maps u.sort) (bytes_eq name u.name && has_context u.context)
    (and_left (is_called maps u.sort) (bytes_eq name u.name && is_context u.context c) h)
    (and_both (bytes_eq name u.name) (has_context u.context) (and_left (bytes_eq name u.name) (is_context u.context c) rest)
    (context_there u.context c (and_right (bytes_eq name u.name) (is_context u.context c) rest)))

-- a name that no unit with a context has
pub named_nowhere : (t : NamedLists) (maps : Bool) (c : ℕ) (name : List ℕ) (us : List Signature) → numbers_under t name ≡ group maps name us
    → position (bytes_eq name) t.names ≡ None → position (is_named maps c name) us ≡ None
unfolding group
named_nowhere t maps c name us all none =
    none_where (is_in_group maps name) (is_named maps c name) us (sym all ∙ ap (list_at t.lists) none) (in_group maps c name)

constructor_in : (c count : ℕ) (h : HeadClass) (n : ℕ)
    → is_key (record { class = record { 0 = c }; number = count }) (key_in h (Some n)) ≡ (is_context h c && (n == count))
constructor_in c count Missing n = refl
constructor_in c count Unknown n = refl
constructor_in c count (Known d) n = λ i. flip_eq c d.0 i && flip_eq count n i

constructor_is : (c count : ℕ) (u : Signature) → is_key (record { class = record { 0 = c }; number = count }) (constructor_key u) ≡ is_constructor_of c count u
constructor_is c count u = by (is_constructor u.sort)
  where
    by : (b : Bool) → is_key (record { class = record { 0 = c }; number = count }) (if b then key_in u.context (Some (length u.params)) else None)
        ≡ (b && (is_context u.context c && (length u.params == count)))
    by true = constructor_in c count u.context (length u.params)
    by false = refl

pub constructor_at : (c count : ℕ) (us : List Signature)
    → position (is_key (record { class = record { 0 = c }; number = count })) (map constructor_key us) ≡ position (is_constructor_of c count) us
constructor_at c count us =
    sym (position-map (is_key (record { class = record { 0 = c }; number = count })) constructor_key us)
    ∙ (λ i. position (λ u. constructor_is c count u i) us)
