-- The types of items, where objects are added or slots change.
use Rattle.std.proofs.Common.{◌≡◌, ℕ, Bool, true, false, ◌||◌, ◌&&◌, ◌==◌, refl, ap, ◌∙◌, subst, List, [], ◌∷◌}
use Rattle.std.specs.Prelude.{Option, Some, None}
use Rattle.std.specs.List.{list_all}
use Rattle.qvt_value.specs.declared.value.Value.{Value}
use Rattle.qvt_value.specs.declared.value.Value.TheVariants.{Obj}
use Rattle.qvt_metamodel.specs.declared.info.TypeKind.{TypeKind}
use Rattle.qvt_metamodel.specs.declared.info.TypeKind.TheVariants.{Bool as BoolKind, Int as IntKind, Str as StrKind, Enum as EnumKind, Class as ClassKind}
use Rattle.qvt_metas.specs.Metamodels.{shape_of}
use Rattle.qvt_metas.specs.Descends.{descends, is_class_type}
use Rattle.qvt_relation.proofs.Bools.{and_left, and_right, and_both}
use Rattle.qvt_slots.specs.Slots.{object_in, passes, has}
use Rattle.qvt_slots.specs.Contents.{Contents, is_live, class_of}
use Rattle.qvt_slots.specs.Types.{is_literal, is_of_kind, is_of_type}

-- a test of objects that follows from another
pub passes_more : (p q : ℕ → Bool) → ((y : ℕ) → p y ≡ true → q y ≡ true) → (o : Option ℕ) → passes p o ≡ true → passes q o ≡ true
passes_more p q more None h = h
passes_more p q more (Some y) h = more y h

pub all_more : (p q : Value → Bool) → ((v : Value) → p v ≡ true → q v ≡ true) → (vs : List Value) → list_all p vs ≡ true → list_all q vs ≡ true
all_more p q more [] h = refl
all_more p q more (v ∷ vs) h = and_both _ _ (more v (and_left _ _ h)) (all_more p q more vs (and_right (p v) _ h))

-- where the objects that are there keep their classes
pub type_kept : (s s' : Contents) (metas : s.metas ≡ s'.metas) → ((y : ℕ) → is_live s y ≡ true → (is_live s' y ≡ true) × (class_of s y ≡ class_of s' y)) →
    (k : TypeKind) (v : Value) → is_of_kind s k v ≡ true → is_of_kind s' k v ≡ true
type_kept s s' metas stay BoolKind v h = h
type_kept s s' metas stay IntKind v h = h
type_kept s s' metas stay StrKind v h = h
type_kept s s' metas stay (EnumKind k e) v h = subst (λ m. is_literal m k e v ≡ true) metas h
type_kept s s' metas stay (ClassKind c) v h = passes_more (λ y. is_live s y && descends s.metas (class_of s y) c.0) (λ y. is_live s' y && descends s'.metas (class_of s' y) c.0) more (object_in v) h
  where
    more : (y : ℕ) → (is_live s y && descends s.metas (class_of s y) c.0) ≡ true → (is_live s' y && descends s'.metas (class_of s' y) c.0) ≡ true
    more y t =
        let r : (is_live s' y ≡ true) × (class_of s y ≡ class_of s' y) = stay y (and_left _ _ t) in
        and_both _ _ r.0 (subst (λ m. descends m (class_of s' y) c.0 ≡ true) metas (subst (λ n. descends s.metas n c.0 ≡ true) r.1 (and_right (is_live s y) _ t)))

pub all_kept : (s s' : Contents) (metas : s.metas ≡ s'.metas) → ((y : ℕ) → is_live s y ≡ true → (is_live s' y ≡ true) × (class_of s y ≡ class_of s' y)) →
    (f : ℕ) (vs : List Value) → list_all (is_of_type s f) vs ≡ true → list_all (is_of_type s' f) vs ≡ true
all_kept s s' metas stay f vs h = all_more (is_of_type s f) (is_of_type s' f)
    (λ v t. subst (λ m. is_of_kind s' (shape_of m f).kind v ≡ true) metas (type_kept s s' metas stay (shape_of s.metas f).kind v t)) vs h

-- a value of a type that is no class is no object
pub no_object : (s : Contents) (k : TypeKind) (v : Value) → is_class_type k ≡ false → is_of_kind s k v ≡ true → object_in v ≡ None
no_object s (ClassKind c) v n h = cc
no_object s BoolKind (Obj o) n h = cc
no_object s BoolKind v n h = refl
no_object s IntKind (Obj o) n h = cc
no_object s IntKind v n h = refl
no_object s StrKind (Obj o) n h = cc
no_object s StrKind v n h = refl
no_object s (EnumKind a b) (Obj o) n h = cc
no_object s (EnumKind a b) v n h = refl

pub no_objects : (s : Contents) (f : ℕ) (vs : List Value) (y : ℕ) → is_class_type (shape_of s.metas f).kind ≡ false → list_all (is_of_type s f) vs ≡ true → has vs y ≡ false
no_objects s f [] y n h = refl
no_objects s f (v ∷ vs) y n h =
    ap (λ o. passes (λ x. x == y) o || has vs y) (no_object s (shape_of s.metas f).kind v n (and_left _ _ h))
    ∙ no_objects s f vs y n (and_right (is_of_type s f v) _ h)
