-- Types are equal exactly where they are the same.
use Rattle.std.proofs.Common.{◌≡◌, refl, sym, ap, ◌∙◌, ℕ, Bool, true, false, ◌==◌, ◌&&◌}
use Rattle.std.proofs.lemmas.Bool.{eq-eqb}
use Rattle.std.proofs.lemmas.Map.Views.{exact_unsigned_eq}
use Rattle.qvt_value.specs.Order.{kind_rank}
use Rattle.qvt_value.specs.declared.value.Kind.{Kind}
use Rattle.qvt_value.specs.declared.value.Kind.TheVariants.{Set, Bag, Sequence, OrderedSet}
use Rattle.qvt_types_data.specs.Term.{TyTerm, Void, Boolean, Integer, Text, Literals, Class, Collection, ty_of, ty_view, same_type}
use Rattle.qvt_types_data.specs.declared.ty.Ty.{Ty}
use Rattle.qvt_types_data.proofs.PlainTypes.{again}

same_rank : (k l : Kind) → (kind_rank k == kind_rank l) ≡ true → k ≡ l
same_rank Set Set h = refl
same_rank Bag Bag h = refl
same_rank Sequence Sequence h = refl
same_rank OrderedSet OrderedSet h = refl
same_rank k l h = cc

first_true : (a b : Bool) → (a && b) ≡ true → a ≡ true
first_true true b h = refl
first_true false b h = h

second_true : (a b : Bool) → (a && b) ≡ true → b ≡ true
second_true true b h = h
second_true false b h = cc

exact : (T U : TyTerm) → same_type T U ≡ true → T ≡ U
exact Void Void h = refl
exact Boolean Boolean h = refl
exact Integer Integer h = refl
exact Text Text h = refl
exact (Literals m e) (Literals n f) h =
    let a : m ≡ n = exact_unsigned_eq m n (first_true (m == n) (e == f) h) in
    let b : e ≡ f = exact_unsigned_eq e f (second_true (m == n) (e == f) h) in
    λ i. Literals (a i) (b i)
exact (Class c) (Class d) h = ap Class (exact_unsigned_eq c d h)
exact (Collection k T) (Collection l U) h =
    let a : k ≡ l = same_rank k l (first_true (kind_rank k == kind_rank l) (same_type T U) h) in
    let b : T ≡ U = exact T U (second_true (kind_rank k == kind_rank l) (same_type T U) h) in
    λ i. Collection (a i) (b i)
exact T U h = cc

same_number : (n : ℕ) → (n == n) ≡ true
same_number n = eq-eqb n n refl

itself : (T : TyTerm) → same_type T T ≡ true
itself Void = refl
itself Boolean = refl
itself Integer = refl
itself Text = refl
itself (Literals m e) = λ i. same_number m i && same_number e i
itself (Class c) = same_number c
itself (Collection k T) = λ i. same_number (kind_rank k) i && itself T i

pub one : (t u : Ty) → same_type (ty_view t) (ty_view u) ≡ true → t ≡ u
one t u h = sym (again t) ∙ ap ty_of (exact (ty_view t) (ty_view u) h) ∙ again u

pub alike : (t u : Ty) → t ≡ u → same_type (ty_view t) (ty_view u) ≡ true
alike t u h = ap (λ v. same_type (ty_view t) (ty_view v)) (sym h) ∙ itself (ty_view t)
