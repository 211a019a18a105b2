-- What judging keeps: where nothing is told, what is in scope has a type, and so have the expressions that are noted.
use Rattle.std.proofs.Common.{◌≡◌, refl, ℕ, Bool, true, false, List, [], ◌∷◌, ◌++◌, Option, Some, None, length}
use Rattle.std.specs.Prelude.{is_some, if◌then◌else◌, ◌||◌}
use Rattle.qvt_base.specs.declared.numbers.ExprNo.{ExprNo}
use Rattle.qvt_base.specs.declared.numbers.Place.{Place}
use Rattle.qvt_types_data.specs.Notes.{told, noted, marked, bare}
use Rattle.qvt_types_data.specs.declared.note.Note.{Note}
use Rattle.qvt_types_data.specs.declared.refusal.RefusalKind.{RefusalKind}
use Rattle.qvt_types_data.specs.declared.refusal.RefusalKind.TheVariants as refusal
use Rattle.qvt_types_data.specs.declared.ruling.Read.{Read}
use Rattle.qvt_types_data.specs.declared.ruling.Ruling.{Ruling}
use Rattle.qvt_types_data.specs.declared.ty.Ty.{Ty}
use Rattle.qvt_types_data.specs.declared.variable.Variable.{Variable}
use Rattle.qvt_types_states.specs.Judge.{Judges, ◌>>=◌, gives, fresh, scope, in_scope, add_source, scoped, tell, checked, declare, settled, write, answers, marks, writes_nothing}
use Rattle.qvt_types_states.specs.Scopes.{ScopeTerm, is_known, with_named}
use Rattle.qvt_types_states.specs.declared.scope.Known.{Known}
use Rattle.qvt_types_states.specs.declared.state.TypingState.{TypingState}
use Rattle.qvt_typed_laws.specs.Typed.{is_typed_note, is_model}
use Rattle.qvt_typed_laws.proofs.Every.{Every, every_last, every_front}

abbrev pub SomeTy : Option Ty → Type 0
SomeTy o = is_some o ≡ true

abbrev pub Anything : {A : Type 0} → A → Type 0
Anything a = Unit {0}

abbrev pub TypedName : List ℕ × Known → Type 0
TypedName e = SomeTy e.1.ty

abbrev pub TypedSource : Variable → Type 0
TypedSource v = SomeTy v.ty

abbrev pub TypedNote : Note → Type 0
TypedNote n = is_typed_note n ≡ true

pub record TypedScope (s : ScopeTerm) : Type 0 where
  pub named : Every TypedName s.named
  pub sources : Every TypedSource s.sources

pub record Tidy (s : TypingState) : Type 0 where
  pub scope : TypedScope s.scope
  pub notes : Every TypedNote s.notes

-- where P holds and nothing is told in the end: what was tidy stays so, and Q holds of what is given; what is told stays told
pub record Keeps (P : Type 0) {A : Type 0} (Q : A → Type 0) (p : Judges A) : Type 0 where
  pub back : (s : TypingState) → (p s).1.log ≡ [] → s.log ≡ []
  pub on : P → (s : TypingState) → Tidy s → (p s).1.log ≡ [] → Tidy (p s).1 × Q (p s).0

pub weak : {P P' A : Type 0} {Q : A → Type 0} {p : Judges A} → (P' → P) → Keeps P Q p → Keeps P' Q p
weak f a = record { back = a.back; on = λ h. a.on (f h) }

pub with : {P A : Type 0} {Q R : A → Type 0} {p : Judges A} → Keeps P Q p → ((a : A) → P → Q a → R a) → Keeps P R p
with a f = record { back = a.back; on = λ h s t e. let r = a.on h s t e in (r.0, f _ h r.1) }

pub next : {P A B : Type 0} {Q : A → Type 0} {R : B → Type 0} {p : Judges A} {f : A → Judges B}
    → Keeps P Q p → ((a : A) → Keeps (P × Q a) R (f a)) → Keeps P R (p >>= f)
next {p = p} a b = record {
  back = λ s e. a.back s ((b (p s).0).back (p s).1 e);
  on = λ h s t e.
      let mid = a.on h s t ((b (p s).0).back (p s).1 e) in
      (b (p s).0).on (h, mid.1) (p s).1 mid.0 e;
}

pub given : {P A : Type 0} {Q : A → Type 0} (a : A) → (P → Q a) → Keeps P Q (gives a)
given a f = record { back = λ s e. e; on = λ h s t e. (t, f h) }

pub numbered : {P : Type 0} → Keeps P Anything fresh
numbered = record { back = λ s e. e; on = λ h s t e. (record { scope = t.scope; notes = t.notes }, tt) }

pub looked : {P : Type 0} → Keeps P TypedScope scope
looked = record { back = λ s e. e; on = λ h s t e. (t, t.scope) }

pub sourced : {P : Type 0} (v : Variable) → (P → SomeTy v.ty) → Keeps P Anything (add_source v)
sourced v f = record {
  back = λ s e. e;
  on = λ h s t e. (record { scope = record { named = t.scope.named; sources = every_last TypedSource s.scope.sources v t.scope.sources (f h) }; notes = t.notes }, tt);
}

pub inside : {P A : Type 0} {Q : A → Type 0} {p : Judges A} → Keeps P Q p → Keeps P Q (scoped p)
inside {p = p} a = record {
  back = a.back;
  on = λ h s t e.
      let r = a.on h s t e in (
        record {
          scope = record {
            named = every_front TypedName (length s.scope.named) (p s).1.scope.named r.0.scope.named;
            sources = every_front TypedSource (length s.scope.sources) (p s).1.scope.sources r.0.scope.sources;
          };
          notes = r.0.notes;
        },
        r.1,
      );
}

pub not_told : {X : Type 0} (l : List X) (x : X) → l ++ x ∷ [] ≡ [] → ⊥
not_told [] x e = cc
not_told (y ∷ l) x e = cc

pub telling : {P : Type 0} {Q : Unit {0} → Type 0} (k : RefusalKind) (at : Place) → Keeps P Q (tell k at)
telling k at = record { back = λ s e. absurd (not_told s.log _ e); on = λ h s t e. absurd (not_told s.log _ e) }

pub checking : {P : Type 0} (o : Option RefusalKind) (at : Place) → Keeps P (λ u. o ≡ None) (checked o at)
checking None at = given tt (λ h. refl)
checking (Some k) at = telling k at

pub either : {P A : Type 0} {Q : A → Type 0} {p q : Judges A} (b : Bool) → Keeps P Q p → Keeps P Q q → Keeps P Q (if b then p else q)
either true a b = a
either false a b = b

-- a variable that is declared has a type
named_on : {P : Type 0} (name : List ℕ) (k : Known) → (P → SomeTy k.ty) → Keeps P Anything (in_scope (with_named name k))
named_on name k f = record {
  back = λ s e. e;
  on = λ h s t e. (record { scope = record { named = every_last TypedName s.scope.named (name, k) t.scope.named (f h); sources = t.scope.sources }; notes = t.notes }, tt);
}

-- in a state where the name is known or not
declared_by : {P : Type 0} (name : List ℕ) (k : Known) (at : Place) → (P → SomeTy k.ty) → (b : Bool) → Keeps P (λ u. b ≡ false) (if b then tell refusal.SameName at else in_scope (with_named name k))
declared_by name k at f true = telling refusal.SameName at
declared_by name k at f false = with (named_on name k f) (λ u h q. refl)

pub declaring : {P : Type 0} (name : List ℕ) (k : Known) (at : Place) → (P → SomeTy k.ty) → Keeps P Anything (declare name k at)
declaring name k at f = record {
  back = λ s e. (declared_by name k at f (is_known name s.scope)).back s e;
  on = λ h s t e. (((declared_by name k at f (is_known name s.scope)).on h s t e).0, tt);
}

-- a ruling after which nothing is told
pub record Settles (w : Ruling) (r : Read) : Type 0 where
  pub untold : (told w).0 ≡ None
  pub read : r ≡ (told w).1

pub settling : {P : Type 0} (w : Ruling) (at : Place) → Keeps P (Settles w) (settled w at)
settling w at = next (checking (told w).0 at) (λ u. given (told w).1 (λ h. record { untold = h.1; read = refl }))

pub writing : {P : Type 0} (n : Note) → (P → TypedNote n) → Keeps P Anything (write n)
writing n f = record {
  back = λ s e. e;
  on = λ h s t e. (record { scope = t.scope; notes = every_last TypedNote s.notes n t.notes (f h) }, tt);
}

abbrev pub is_read : Read → Bool
is_read r = is_some r.answer || is_model r.reading

pub answering : {P : Type 0} (n : ExprNo) (r : Read) → (P → is_read r ≡ true) → Keeps P (λ o. o ≡ r.answer) (answers n r)
answering n r f = next (writing (noted n r) f) (λ u. given r.answer (λ h. refl))

pub marking : {P : Type 0} (r : Read) → Keeps P (λ o. o ≡ r.answer) (marks r)
marking r = next (writing (marked r) (λ h. refl)) (λ u. given r.answer (λ h. refl))

pub blank : {P : Type 0} → Keeps P Anything writes_nothing
blank = writing bare (λ h. refl)
