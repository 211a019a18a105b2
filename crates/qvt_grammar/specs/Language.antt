-- Languages over tokens of any type, by the forms of an EBNF grammar (ISO 14977). A language tells which lists of tokens
-- it reads, and as which value, and which lists are fronts: the beginnings of what it reads, told by the forms too.
use Rattle.std.specs.Prelude.{◌≡◌, List, [], ◌∷◌, ◌++◌, Bool, IsTrue, ◌⊎◌, Option, Some, None}

pub record Language (T A : Type 0) : Type 1 where
  -- the whole list is read as the value
  pub reads : List T → A → Type 0
  pub front : List T → Type 0

-- one token that passes the test; its fronts are the empty list and itself
abbrev pub token : {T : Type 0} → (T → Bool) → Language T T
token {T} p = record {
  reads = λ ts t. (ts ≡ t ∷ []) × IsTrue (p t);
  front = λ ts. (ts ≡ []) ⊎ ((t : T) × (ts ≡ t ∷ []) × IsTrue (p t));
}

-- the first, and then the second, which may depend on the value of the first
abbrev pub follow : {T A B : Type 0} → Language T A → (A → Language T B) → Language T (A × B)
follow {T} {A} {B} l m = record {
  reads = λ ts ab. (u : List T) × (v : List T) × (ts ≡ u ++ v) × l.reads u ab.0 × (m ab.0).reads v ab.1;
  front = λ ts. l.front ts ⊎ ((u : List T) × (v : List T) × (a : A) × (ts ≡ u ++ v) × l.reads u a × (m a).front v);
}

abbrev pub then : {T A B : Type 0} → Language T A → Language T B → Language T (A × B)
then l m = follow l (λ _. m)

abbrev pub either : {T A : Type 0} → Language T A → Language T A → Language T A
either l m = record {
  reads = λ ts a. l.reads ts a ⊎ m.reads ts a;
  front = λ ts. l.front ts ⊎ m.front ts;
}

-- these values, one after the other
abbrev pub turns : {T A : Type 0} → Language T A → List T → List A → Type 0
turns l ts [] = ts ≡ []
turns {T} l ts (a ∷ more) = (u : List T) × (v : List T) × (ts ≡ u ++ v) × l.reads u a × turns l v more

-- any number of turns
abbrev pub many : {T A : Type 0} → Language T A → Language T (List A)
many {T} {A} l = record {
  reads = turns l;
  front = λ ts. (got : List A) × (u : List T) × (v : List T) × (ts ≡ u ++ v) × turns l u got × ((v ≡ []) ⊎ l.front v);
}

-- the same lists, with the value made into another
abbrev pub made : {T A B : Type 0} → (A → B) → Language T A → Language T B
made {T} {A} {B} f l = record {
  reads = λ ts b. (a : A) × l.reads ts a × (b ≡ f a);
  front = l.front;
}

-- nothing is read, not even the empty list
abbrev pub never : {T A : Type 0} → Language T A
never = record { reads = λ ts a. ⊥; front = λ ts. ts ≡ [] }

-- the empty list alone
abbrev pub empty : {T : Type 0} → Language T (Unit {0})
empty = record { reads = λ ts a. ts ≡ []; front = λ ts. ts ≡ [] }

-- one, or nothing
abbrev pub maybe : {T A : Type 0} → Language T A → Language T (Option A)
maybe l = either (made Some l) (made (λ _. None) empty)

-- what the first token shows, or d where there is none
abbrev pub head_of : {T P : Type 0} → (T → P) → P → List T → P
head_of h d [] = d
head_of h d (t ∷ ts) = h t

-- the value with what the first token shows, as its place
abbrev pub marked : {T P A : Type 0} → (T → P) → P → Language T A → Language T (P × A)
marked h d l = record {
  reads = λ ts pa. l.reads ts pa.1 × (pa.0 ≡ head_of h d ts);
  front = l.front;
}

abbrev pub lastly : {T B : Type 0} → Language T B → List T → Option B → Type 0
lastly m ts None = ts ≡ []
lastly m ts (Some b) = m.reads ts b

-- any number of turns of the one, and then perhaps one of the other
abbrev pub ended : {T A B : Type 0} → Language T A → Language T B → Language T (List A × Option B)
ended {T} {A} {B} l m = record {
  reads = λ ts got. (u : List T) × (v : List T) × (ts ≡ u ++ v) × turns l u got.0 × lastly m v got.1;
  front = λ ts. (got : List A) × (u : List T) × (v : List T) × (ts ≡ u ++ v) × turns l u got × ((v ≡ []) ⊎ (l.front v ⊎ m.front v));
}
