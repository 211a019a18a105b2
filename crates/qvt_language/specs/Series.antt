-- Any number of turns of a language, the last of which alone may be of the other kind, or is; and lists that do not begin
-- with certain tokens.
use Rattle.std.specs.Prelude.{◌≡◌, List, Option, Some, None, ◌⊎◌, Bool, false, cond, Ok, Err}
use Rattle.std.proofs.Common.{inl, inr}
use Rattle.qvt_grammar.specs.Language.{Language, ended}
use Rattle.qvt_results.specs.Bind.{◌>>=◌}
use Rattle.qvt_grammar.specs.Reader.{At, Answer, starts, ended_at}

abbrev pub left : {T A B : Type 0} → Language T (A ⊎ B) → Language T A
left l = record { reads = λ ts a. l.reads ts (inl a); front = l.front }

abbrev pub right : {T A B : Type 0} → Language T (A ⊎ B) → Language T B
right l = record { reads = λ ts b. l.reads ts (inr b); front = l.front }

abbrev pub series : {T A B : Type 0} → Language T (A ⊎ B) → Language T (List A × Option B)
series l = ended (left l) (right l)

-- any number of turns of the one kind, and then one of the other
abbrev pub finished : {T A B : Type 0} → Language T (A ⊎ B) → Language T (List A × B)
finished l = record { reads = λ ts got. (series l).reads ts (got.0, Some got.1); front = (series l).front }

-- where the last turn is not there, the token after the turns is the faulty one
abbrev pub finish : {T A B : Type 0} → List A × Option B → List T → Answer T (List A × B)
finish (got, None) r = Err (At r)
finish (got, (Some b)) r = Ok ((got, b), r)

abbrev pub finished_at : {T A B : Type 0} → (T → Bool) → (List T → Answer T (A ⊎ B)) → List T → Answer T (List A × B)
finished_at p f ts = ended_at p f ts >>= λ (got, r). finish got r

-- the lists that begin with no token of p
abbrev pub barring : {T A : Type 0} → (T → Bool) → Language T A → Language T A
barring p l = record {
  reads = λ ts a. l.reads ts a × (starts p ts ≡ false);
  front = λ ts. l.front ts × (starts p ts ≡ false);
}

abbrev pub barring_at : {T A : Type 0} → (T → Bool) → (List T → Answer T A) → List T → Answer T A
barring_at p f ts = cond (starts p ts) (Err (At ts)) (f ts)
