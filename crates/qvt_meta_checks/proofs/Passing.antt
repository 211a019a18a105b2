-- What it says that a check of a metamodel finds nothing.
use Rattle.std.proofs.Common.{◌≡◌, ◌∙◌, ℕ, zero, suc, ◌+◌, ◌<◌, List, [], ◌∷◌, ◌++◌, length, map, get_or, Bool, true, false, Option, Some, None, refl, ap, sym, arith, append_assoc, drop}
use Rattle.std.specs.Prelude.{if◌then◌else◌, option_map}
use Rattle.std.proofs.lemmas.List.{drop_more}
use Rattle.qvt_json.specs.Steps.{or_next}
use Rattle.qvt_metamodel.specs.declared.info.EnumInfo.{EnumInfo}
use Rattle.qvt_metamodel.specs.declared.declared.DeclaredFeature.{DeclaredFeature}
use Rattle.qvt_metamodel.specs.declared.declared.DeclaredClass.{DeclaredClass}
use Rattle.qvt_metamodel.specs.declared.declared.MetaData.{MetaData}
use Rattle.qvt_metamodel.specs.MetaData.{class_names, enum_names}
use Rattle.qvt_json.specs.Repeated.{repeated}
use Rattle.qvt_metamodel.specs.Names.{primitive_names, is_among}
use Rattle.qvt_metamodel.specs.Named.{nowhere_enumeration}
use Rattle.qvt_metamodel.specs.Added.{declared_at, nothing_declared}
use Rattle.qvt_metamodel.specs.Checks.{first_in, first_from, failing_feature, same_enum, same_name}
use Rattle.qvt_metamodel.proofs.Infos.{featured_at, nothing_featured}
use Rattle.qvt_metamodel.proofs.Lookups.{none_repeated, repeated-fewer}

pub next_none : {X : Type 0} (a b : Option X) → or_next a b ≡ None → (a ≡ None) × (b ≡ None)
next_none None b h = (refl, h)
next_none (Some x) b h = absurd (cc)

pub map_none : {X Y : Type 0} (g : X → Y) (o : Option X) → option_map g o ≡ None → o ≡ None
map_none g None h = refl
map_none g (Some x) h = absurd (cc)

pub if_none : {X : Type 0} (b : Bool) (x : X) → (if b then Some x else None) ≡ None → b ≡ false
if_none true x h = absurd (cc)
if_none false x h = refl

pub first_in-none : {X F : Type 0} (f : X → Option F) (xs : List X) (i : ℕ) (d : X) → first_in f xs ≡ None → i < length xs → f (get_or xs i d) ≡ None
first_in-none f [] i d h l = absurd (omega arith)
first_in-none f (x ∷ xs) zero d h l = (next_none (f x) (first_in f xs) h).0
first_in-none f (x ∷ xs) (suc i) d h l = first_in-none f xs i d (next_none (f x) (first_in f xs) h).1 (omega arith)

pub first_from-none : {X F : Type 0} (f : ℕ → X → Option F) (n : ℕ) (xs : List X) (i : ℕ) (d : X) → first_from f n xs ≡ None → i < length xs → f (n + i) (get_or xs i d) ≡ None
first_from-none f n [] i d h l = absurd (omega arith)
first_from-none f n (x ∷ xs) zero d h l = ap (λ k. f k x) (omega arith) ∙ (next_none (f n x) (first_from f (suc n) xs) h).0
first_from-none f n (x ∷ xs) (suc i) d h l =
    ap (λ k. f k (get_or xs i d)) (omega arith) ∙ first_from-none f (suc n) xs i d (next_none (f n x) (first_from f (suc n) xs) h).1 (omega arith)

-- a test that no feature fails, at each
pub no_fault : (is : DeclaredClass → DeclaredFeature → Bool) (ks : List DeclaredClass) (c j : ℕ) → first_in (failing_feature is) ks ≡ None → c < length ks → j < length (declared_at ks c).features
    → is (declared_at ks c) (featured_at (declared_at ks c) j) ≡ false
no_fault is ks c j h l w =
    let k : DeclaredClass = declared_at ks c in
    if_none (is k (featured_at k j)) (k.name, (featured_at k j).name)
    (first_in-none (λ f. if is k f then Some (k.name, f.name) else None) k.features j nothing_featured (first_in-none (failing_feature is) ks c nothing_declared h l) w)

-- the next of those that are left
pub from_next : {X F : Type 0} (f : ℕ → X → Option F) (n : ℕ) (xs : List X) (d : X) (all : Option F) → n < length xs → first_from f n (drop n xs) ≡ all → f n (get_or xs n d) ≡ None → first_from f (n + 1) (drop (n + 1) xs) ≡ all
from_next f n xs d all l h none =
    ap (λ k. first_from f k (drop (n + 1) xs)) (let one : n + 1 ≡ suc n = omega arith in one)
    ∙ sym (ap (λ o. or_next o (first_from f (suc n) (drop (n + 1) xs))) none)
    ∙ sym (ap (first_from f n) (drop_more xs n d l)) ∙ h

pub from_found : {X F : Type 0} (f : ℕ → X → Option F) (n : ℕ) (xs : List X) (d : X) (all : Option F) (x : F) → n < length xs → first_from f n (drop n xs) ≡ all → f n (get_or xs n d) ≡ Some x → Some x ≡ all
from_found f n xs d all x l h found =
    sym (ap (λ o. or_next o (first_from f (suc n) (drop (n + 1) xs))) found)
    ∙ sym (ap (first_from f n) (drop_more xs n d l)) ∙ h

pub enum_names_differ : (taken : List (List ℕ)) (es : List EnumInfo) → same_enum taken es ≡ None → repeated taken (map (λ e. e.name) es) ≡ None
enum_names_differ taken [] h = refl
enum_names_differ taken (e ∷ es) h =
    let p : (is_among e.name taken ≡ false) × (or_next (repeated [] e.literals) (same_enum (taken ++ e.name ∷ []) es) ≡ None) = none_repeated (is_among e.name taken) e.name _ h in
    ap (λ b. if b then Some e.name else repeated (taken ++ e.name ∷ []) (map (λ (e : EnumInfo). e.name) es)) p.0
    ∙ enum_names_differ (taken ++ e.name ∷ []) es (next_none _ _ p.1).1

pub literals_differ : (taken : List (List ℕ)) (es : List EnumInfo) (i : ℕ) → same_enum taken es ≡ None → repeated [] (get_or es i nowhere_enumeration).literals ≡ None
literals_differ taken [] i h = refl
literals_differ taken (e ∷ es) zero h =
    (next_none (repeated [] e.literals) (same_enum (taken ++ e.name ∷ []) es) (none_repeated (is_among e.name taken) e.name _ h).1).0
literals_differ taken (e ∷ es) (suc i) h =
    literals_differ (taken ++ e.name ∷ []) es i (next_none (repeated [] e.literals) (same_enum (taken ++ e.name ∷ []) es) (none_repeated (is_among e.name taken) e.name _ h).1).1

pub repeated-append : (t xs ys : List (List ℕ)) → repeated t (xs ++ ys) ≡ None → (repeated t xs ≡ None) × (repeated (t ++ xs) ys ≡ None)
repeated-append t [] ys h = (refl, ap (λ l. repeated l ys) (append_nil t) ∙ h)
  where
    append_nil : (t : List (List ℕ)) → t ++ [] ≡ t
    append_nil [] = refl
    append_nil (x ∷ t) = ap (λ l. x ∷ l) (append_nil t)
repeated-append t (x ∷ xs) ys h =
    let p : (is_among x t ≡ false) × (repeated (t ++ x ∷ []) (xs ++ ys) ≡ None) = none_repeated (is_among x t) x (repeated (t ++ x ∷ []) (xs ++ ys)) h in
    let q : (repeated (t ++ x ∷ []) xs ≡ None) × (repeated ((t ++ x ∷ []) ++ xs) ys ≡ None) = repeated-append (t ++ x ∷ []) xs ys p.1 in
    (ap (λ b. if b then Some x else repeated (t ++ x ∷ []) xs) p.0 ∙ q.0, ap (λ l. repeated l ys) (sym (append_assoc t (x ∷ []) xs)) ∙ q.1)

-- none of the taken names counts when fewer are taken
pub repeated-alone : (t xs : List (List ℕ)) → repeated t xs ≡ None → repeated [] xs ≡ None
repeated-alone t xs h = repeated-fewer t [] xs (λ x e. absurd (cc)) h

module _ (d : MetaData) (ok : same_name d ≡ None) where
  parts : (same_enum primitive_names d.enums ≡ None) × (repeated (primitive_names ++ enum_names d) (class_names d) ≡ None)
  unfolding same_name
  parts = next_none (same_enum primitive_names d.enums) (repeated (primitive_names ++ enum_names d) (class_names d)) ok

  pub enums_differ : repeated primitive_names (enum_names d) ≡ None
  enums_differ = enum_names_differ primitive_names d.enums parts.0

  pub enums_alone : repeated [] (enum_names d) ≡ None
  enums_alone = repeated-alone primitive_names (enum_names d) enums_differ

  pub literals_alone : (i : ℕ) → repeated [] (get_or d.enums i nowhere_enumeration).literals ≡ None
  literals_alone i = literals_differ primitive_names d.enums i parts.0

  pub classes_differ : repeated (primitive_names ++ enum_names d) (class_names d) ≡ None
  classes_differ = parts.1

  pub classes_alone : repeated [] (class_names d) ≡ None
  classes_alone = repeated-alone (primitive_names ++ enum_names d) (class_names d) classes_differ
