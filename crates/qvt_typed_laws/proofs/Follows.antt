-- What judging writes, and what joining takes of it: each note for its node, with the numbers in the order of the text.
use Rattle.std.proofs.Common.{◌≡◌, refl, sym, ◌∙◌, ap, ℕ, zero, suc, ◌+◌, Bool, true, false, List, [], ◌∷◌, ◌++◌, Option, Some, None, arith}
use Rattle.std.proofs.lemmas.List.{append_assoc, append-nil}
use Rattle.std.specs.Prelude.{if◌then◌else◌}
use Rattle.std.specs.List.{range_with_len}
use Rattle.qvt_base.specs.declared.numbers.ExprNo.{ExprNo}
use Rattle.qvt_base.specs.declared.numbers.Place.{Place}
use Rattle.qvt_types_data.specs.Notes.{told, noted, marked, bare}
use Rattle.qvt_types_data.specs.declared.note.Note.{Note}
use Rattle.qvt_types_data.specs.declared.refusal.RefusalKind.{RefusalKind}
use Rattle.qvt_types_data.specs.declared.refusal.RefusalKind.TheVariants as refusal
use Rattle.qvt_types_data.specs.declared.ruling.Read.{Read}
use Rattle.qvt_types_data.specs.declared.ruling.Ruling.{Ruling}
use Rattle.qvt_types_data.specs.declared.variable.Variable.{Variable}
use Rattle.qvt_types_laws.specs.Join.{NoteTaker, next_note}
use Rattle.qvt_types_laws.specs.Join as join
use Rattle.qvt_types_states.specs.Judge.{Judges, ◌>>=◌, gives, fresh, scope, in_scope, add_source, scoped, tell, checked, declare, settled, answers, marks, writes_nothing}
use Rattle.qvt_types_states.specs.Scopes.{ScopeTerm, is_known, with_named}
use Rattle.qvt_types_states.specs.declared.scope.Known.{Known}
use Rattle.qvt_types_states.specs.declared.state.TypingState.{TypingState}
use Rattle.qvt_typed_laws.specs.Numbers.{number, number_if}

-- one after the other
infixl 20 ◌&◌
abbrev pub ◌&◌ : {B C : Type 0} → NoteTaker B → NoteTaker C → NoteTaker (B × C)
(q & r) ns = (((q ns).0, (r (q ns).1).0), (r (q ns).1).1)

abbrev pub changed : {B C : Type 0} → (B → C) → NoteTaker B → NoteTaker C
changed f q ns = (f (q ns).0, (q ns).1)

-- nothing is written or numbered
pub record Quiet {A : Type 0} (p : Judges A) : Type 0 where
  pub notes : (s : TypingState) → (p s).1.notes ≡ s.notes
  pub next : (s : TypingState) → (p s).1.next ≡ s.next

-- one note is written, that has no number
pub record Marks {A : Type 0} (p : Judges A) : Type 0 where
  pub note : TypingState → Note
  pub notes : (s : TypingState) → (p s).1.notes ≡ s.notes ++ note s ∷ []
  pub next : (s : TypingState) → (p s).1.next ≡ s.next
  pub number : (s : TypingState) → (note s).number ≡ None

-- one note is written, that has this number
pub record Answers {A : Type 0} (n : ExprNo) (p : Judges A) : Type 0 where
  pub note : TypingState → Note
  pub notes : (s : TypingState) → (p s).1.notes ≡ s.notes ++ note s ∷ []
  pub next : (s : TypingState) → (p s).1.next ≡ s.next
  pub number : (s : TypingState) → (note s).number ≡ Some n

-- what is written is taken, and the numbers of what is taken are the next ones
pub record Follows {A B : Type 0} (p : Judges A) (q : NoteTaker B) (num : B → List ℕ) : Type 0 where
  pub notes : TypingState → List Note
  pub node : TypingState → B
  pub count : TypingState → ℕ
  pub writes : (s : TypingState) → (p s).1.notes ≡ s.notes ++ notes s
  pub counts : (s : TypingState) → (p s).1.next ≡ s.next + count s
  pub takes : (s : TypingState) (rest : List Note) → q (notes s ++ rest) ≡ (node s, rest)
  pub numbers : (s : TypingState) → num (node s) ≡ range_with_len s.next (count s)

-- the same, where the last note has the number n
pub record Closes {A B : Type 0} (n : ExprNo) (p : Judges A) (q : NoteTaker B) (num : B → List ℕ) (own : B → Note) : Type 0 where
  pub follows : Follows p q num
  pub own_number : (s : TypingState) → (own (follows.node s)).number ≡ Some n

range_more : (a m n : ℕ) → range_with_len a (m + n) ≡ range_with_len a m ++ range_with_len (a + m) n
range_more a zero n = ap (range_with_len a) (let z : 0 + n ≡ n = omega arith in z) ∙ ap (λ k. range_with_len k n) (let z : a ≡ a + 0 = omega arith in z)
range_more a (suc m) n =
    ap (range_with_len a) (let z : suc m + n ≡ suc (m + n) = omega arith in z)
    ∙ ap (λ xs. a ∷ xs) (range_more (a + 1) m n ∙ ap (λ k. range_with_len (a + 1) m ++ range_with_len k n) (let z : a + 1 + m ≡ a + suc m = omega arith in z))

-- Steps that write nothing.

pub quietly : {A B : Type 0} {p : Judges A} {f : A → Judges B} → Quiet p → ((a : A) → Quiet (f a)) → Quiet (p >>= f)
quietly {p = p} a b = record {
  notes = λ s. (b (p s).0).notes (p s).1 ∙ a.notes s;
  next = λ s. (b (p s).0).next (p s).1 ∙ a.next s;
}

pub given : {A : Type 0} (a : A) → Quiet (gives a)
given a = record { notes = λ s. refl; next = λ s. refl }

pub looked : Quiet scope
looked = record { notes = λ s. refl; next = λ s. refl }

pub changing : (f : ScopeTerm → ScopeTerm) → Quiet (in_scope f)
changing f = record { notes = λ s. refl; next = λ s. refl }

pub sourced : (v : Variable) → Quiet (add_source v)
sourced v = record { notes = λ s. refl; next = λ s. refl }

pub telling : (k : RefusalKind) (at : Place) → Quiet (tell k at)
telling k at = record { notes = λ s. refl; next = λ s. refl }

pub checking : (o : Option RefusalKind) (at : Place) → Quiet (checked o at)
checking None at = given tt
checking (Some k) at = telling k at

pub either : {A : Type 0} {p q : Judges A} (b : Bool) → Quiet p → Quiet q → Quiet (if b then p else q)
either true a b = a
either false a b = b

pub declaring : (name : List ℕ) (k : Known) (at : Place) → Quiet (declare name k at)
declaring name k at = record {
  notes = λ s. (either (is_known name s.scope) (telling refusal.SameName at) (changing (with_named name k))).notes s;
  next = λ s. (either (is_known name s.scope) (telling refusal.SameName at) (changing (with_named name k))).next s;
}

pub settling : (w : Ruling) (at : Place) → Quiet (settled w at)
settling w at = quietly (checking (told w).0 at) (λ u. given (told w).1)

-- Notes.

pub blank : Marks writes_nothing
blank = record { note = λ s. bare; notes = λ s. refl; next = λ s. refl; number = λ s. refl }

pub marking : (r : Read) → Marks (marks r)
marking r = record { note = λ s. marked r; notes = λ s. refl; next = λ s. refl; number = λ s. refl }

pub answering : (n : ExprNo) (r : Read) → Answers n (answers n r)
answering n r = record { note = λ s. noted n r; notes = λ s. refl; next = λ s. refl; number = λ s. refl }

pub before_mark : {A B : Type 0} {p : Judges A} {f : A → Judges B} → Quiet p → ((a : A) → Marks (f a)) → Marks (p >>= f)
before_mark {p = p} a b = record {
  note = λ s. (b (p s).0).note (p s).1;
  notes = λ s. (b (p s).0).notes (p s).1 ∙ ap (λ ns. ns ++ (b (p s).0).note (p s).1 ∷ []) (a.notes s);
  next = λ s. (b (p s).0).next (p s).1 ∙ a.next s;
  number = λ s. (b (p s).0).number (p s).1;
}

pub after_mark : {A B : Type 0} {p : Judges A} {f : A → Judges B} → Marks p → ((a : A) → Quiet (f a)) → Marks (p >>= f)
after_mark {p = p} a b = record {
  note = a.note;
  notes = λ s. (b (p s).0).notes (p s).1 ∙ a.notes s;
  next = λ s. (b (p s).0).next (p s).1 ∙ a.next s;
  number = a.number;
}

pub before_answer : {A B : Type 0} {n : ExprNo} {p : Judges A} {f : A → Judges B} → Quiet p → ((a : A) → Answers n (f a)) → Answers n (p >>= f)
before_answer {p = p} a b = record {
  note = λ s. (b (p s).0).note (p s).1;
  notes = λ s. (b (p s).0).notes (p s).1 ∙ ap (λ ns. ns ++ (b (p s).0).note (p s).1 ∷ []) (a.notes s);
  next = λ s. (b (p s).0).next (p s).1 ∙ a.next s;
  number = λ s. (b (p s).0).number (p s).1;
}

pub after_answer : {A B : Type 0} {n : ExprNo} {p : Judges A} {f : A → Judges B} → Answers n p → ((a : A) → Quiet (f a)) → Answers n (p >>= f)
after_answer {p = p} a b = record {
  note = a.note;
  notes = λ s. (b (p s).0).notes (p s).1 ∙ a.notes s;
  next = λ s. (b (p s).0).next (p s).1 ∙ a.next s;
  number = a.number;
}

-- Nodes.

abbrev pub no_number : {B : Type 0} → B → List ℕ
no_number b = []

pub nothing : {A B : Type 0} {num : B → List ℕ} {p : Judges A} (b : B) → num b ≡ [] → Quiet p → Follows p (join.gives b) num
nothing b none a = record {
  notes = λ s. [];
  node = λ s. b;
  count = λ s. 0;
  writes = λ s. a.notes s ∙ sym (append-nil s.notes);
  counts = λ s. a.next s ∙ (let z : s.next ≡ s.next + 0 = omega arith in z);
  takes = λ s rest. refl;
  numbers = λ s. none;
}

pub one_mark : {A : Type 0} {p : Judges A} → Marks p → Follows p next_note no_number
one_mark a = record {
  notes = λ s. a.note s ∷ [];
  node = a.note;
  count = λ s. 0;
  writes = a.notes;
  counts = λ s. a.next s ∙ (let z : s.next ≡ s.next + 0 = omega arith in z);
  takes = λ s rest. refl;
  numbers = λ s. refl;
}

pub both : {A B C D : Type 0} {num : C → List ℕ} {more : D → List ℕ} {p : Judges A} {f : A → Judges B} {q : NoteTaker C} {r : NoteTaker D}
    → Follows p q num → ((a : A) → Follows (f a) r more) → Follows (p >>= f) (q & r) (λ (x : C × D). num x.0 ++ more x.1)
both {C = C} {D = D} {more = more} {p = p} {q = q} {r = r} a b = record {
  notes = λ s. a.notes s ++ (b (p s).0).notes (p s).1;
  node = λ s. (a.node s, (b (p s).0).node (p s).1);
  count = λ s. a.count s + (b (p s).0).count (p s).1;
  writes = λ s. (b (p s).0).writes (p s).1 ∙ ap (λ ns. ns ++ (b (p s).0).notes (p s).1) (a.writes s) ∙ append_assoc s.notes (a.notes s) ((b (p s).0).notes (p s).1);
  counts = λ s. let d = (b (p s).0).counts (p s).1 in let e = a.counts s in omega (arith, d, e);
  takes = λ s rest.
      let all = ap q (append_assoc (a.notes s) ((b (p s).0).notes (p s).1) rest) ∙ a.takes s ((b (p s).0).notes (p s).1 ++ rest) in
      ap (λ (x : C × List Note). ((x.0, (r x.1).0), (r x.1).1)) all ∙ ap (λ (y : D × List Note). ((a.node s, y.0), y.1)) ((b (p s).0).takes (p s).1 rest);
  numbers = λ s.
      ap (λ xs. xs ++ more ((b (p s).0).node (p s).1)) (a.numbers s)
      ∙ ap (λ xs. range_with_len s.next (a.count s) ++ xs) ((b (p s).0).numbers (p s).1 ∙ ap (λ k. range_with_len k ((b (p s).0).count (p s).1)) (a.counts s))
      ∙ sym (range_more s.next (a.count s) ((b (p s).0).count (p s).1));
}

-- parts, and then the note of a node without a number
pub closed : {A B C : Type 0} {num : C → List ℕ} {p : Judges A} {f : A → Judges B} {q : NoteTaker C} → Follows p q num → ((a : A) → Marks (f a)) → Follows (p >>= f) (q & next_note) (λ (x : C × Note). num x.0)
closed {C = C} {p = p} {q = q} a b = record {
  notes = λ s. a.notes s ++ (b (p s).0).note (p s).1 ∷ [];
  node = λ s. (a.node s, (b (p s).0).note (p s).1);
  count = a.count;
  writes = λ s. (b (p s).0).notes (p s).1 ∙ ap (λ ns. ns ++ (b (p s).0).note (p s).1 ∷ []) (a.writes s) ∙ append_assoc s.notes (a.notes s) _;
  counts = λ s. (b (p s).0).next (p s).1 ∙ a.counts s;
  takes = λ s rest. ap (λ (x : C × List Note). ((x.0, (next_note x.1).0), (next_note x.1).1)) (ap q (append_assoc (a.notes s) ((b (p s).0).note (p s).1 ∷ []) rest) ∙ a.takes s ((b (p s).0).note (p s).1 ∷ rest));
  numbers = a.numbers;
}

-- the same, with the number of its note, which is none
pub behind : {A B C : Type 0} {num : C → List ℕ} {p : Judges A} {f : A → Judges B} {q : NoteTaker C} → Follows p q num → ((a : A) → Marks (f a)) → Follows (p >>= f) (q & next_note) (λ (x : C × Note). number x.1 ++ num x.0)
unfolding closed
behind {num = num} {p = p} a b = record {
  notes = (closed a b).notes;
  node = (closed a b).node;
  count = (closed a b).count;
  writes = (closed a b).writes;
  counts = (closed a b).counts;
  takes = (closed a b).takes;
  numbers = λ s. ap (λ o. number_if o ++ num (a.node s)) ((b (p s).0).number (p s).1) ∙ a.numbers s;
}

-- the same, where the node has the number n
pub last : {A B C : Type 0} {n : ExprNo} {num : C → List ℕ} {p : Judges A} {f : A → Judges B} {q : NoteTaker C} → Follows p q num → ((a : A) → Answers n (f a)) → Closes n (p >>= f) (q & next_note) (λ (x : C × Note). num x.0) (λ (x : C × Note). x.1)
last {C = C} {p = p} {q = q} a b = record {
  follows = record {
    notes = λ s. a.notes s ++ (b (p s).0).note (p s).1 ∷ [];
    node = λ s. (a.node s, (b (p s).0).note (p s).1);
    count = a.count;
    writes = λ s. (b (p s).0).notes (p s).1 ∙ ap (λ ns. ns ++ (b (p s).0).note (p s).1 ∷ []) (a.writes s) ∙ append_assoc s.notes (a.notes s) _;
    counts = λ s. (b (p s).0).next (p s).1 ∙ a.counts s;
    takes = λ s rest. ap (λ (x : C × List Note). ((x.0, (next_note x.1).0), (next_note x.1).1)) (ap q (append_assoc (a.notes s) ((b (p s).0).note (p s).1 ∷ []) rest) ∙ a.takes s ((b (p s).0).note (p s).1 ∷ rest));
    numbers = a.numbers;
  };
  own_number = λ s. (b (p s).0).number (p s).1;
}

-- a part before those of such a node
pub part : {A B C D : Type 0} {n : ExprNo} {num : C → List ℕ} {more : D → List ℕ} {own : D → Note} {p : Judges A} {f : A → Judges B} {q : NoteTaker C} {r : NoteTaker D}
    → Follows p q num → ((a : A) → Closes n (f a) r more own) → Closes n (p >>= f) (q & r) (λ (x : C × D). num x.0 ++ more x.1) (λ (x : C × D). own x.1)
unfolding both
part {p = p} a b = record {
  follows = both a (λ x. (b x).follows);
  own_number = λ s. (b (p s).0).own_number (p s).1;
}

-- the number is taken before the parts
pub numbered : {A B : Type 0} {num : B → List ℕ} {own : B → Note} {f : ExprNo → Judges A} {q : NoteTaker B} → ((n : ExprNo) → Closes n (f n) q num own) → Follows (fresh >>= f) q (λ (b : B). number (own b) ++ num b)
numbered {num = num} {own = own} b = record {
  notes = λ s. (b (fresh s).0).follows.notes (fresh s).1;
  node = λ s. (b (fresh s).0).follows.node (fresh s).1;
  count = λ s. suc ((b (fresh s).0).follows.count (fresh s).1);
  writes = λ s. (b (fresh s).0).follows.writes (fresh s).1;
  counts = λ s. let d = (b (fresh s).0).follows.counts (fresh s).1 in omega (arith, d);
  takes = λ s rest. (b (fresh s).0).follows.takes (fresh s).1 rest;
  numbers = λ s.
      ap (λ o. number_if o ++ num ((b (fresh s).0).follows.node (fresh s).1)) ((b (fresh s).0).own_number (fresh s).1)
      ∙ ap (λ xs. s.next ∷ xs) ((b (fresh s).0).follows.numbers (fresh s).1);
}

-- a node without parts
pub alone : {A : Type 0} {f : ExprNo → Judges A} → ((n : ExprNo) → Answers n (f n)) → Follows (fresh >>= f) next_note number
alone b = record {
  notes = λ s. (b (fresh s).0).note (fresh s).1 ∷ [];
  node = λ s. (b (fresh s).0).note (fresh s).1;
  count = λ s. 1;
  writes = λ s. (b (fresh s).0).notes (fresh s).1;
  counts = λ s. (b (fresh s).0).next (fresh s).1;
  takes = λ s rest. refl;
  numbers = λ s. ap number_if ((b (fresh s).0).number (fresh s).1);
}

pub before : {A B C : Type 0} {num : C → List ℕ} {p : Judges A} {f : A → Judges B} {q : NoteTaker C} → Quiet p → ((a : A) → Follows (f a) q num) → Follows (p >>= f) q num
before {p = p} a b = record {
  notes = λ s. (b (p s).0).notes (p s).1;
  node = λ s. (b (p s).0).node (p s).1;
  count = λ s. (b (p s).0).count (p s).1;
  writes = λ s. (b (p s).0).writes (p s).1 ∙ ap (λ ns. ns ++ (b (p s).0).notes (p s).1) (a.notes s);
  counts = λ s. (b (p s).0).counts (p s).1 ∙ ap (λ k. k + (b (p s).0).count (p s).1) (a.next s);
  takes = λ s rest. (b (p s).0).takes (p s).1 rest;
  numbers = λ s. (b (p s).0).numbers (p s).1 ∙ ap (λ k. range_with_len k ((b (p s).0).count (p s).1)) (a.next s);
}

pub after : {A B C : Type 0} {num : C → List ℕ} {p : Judges A} {f : A → Judges B} {q : NoteTaker C} → Follows p q num → ((a : A) → Quiet (f a)) → Follows (p >>= f) q num
after {p = p} a b = record {
  notes = a.notes;
  node = a.node;
  count = a.count;
  writes = λ s. (b (p s).0).notes (p s).1 ∙ a.writes s;
  counts = λ s. (b (p s).0).next (p s).1 ∙ a.counts s;
  takes = a.takes;
  numbers = a.numbers;
}

pub before_closing : {A B C : Type 0} {n : ExprNo} {num : C → List ℕ} {own : C → Note} {p : Judges A} {f : A → Judges B} {q : NoteTaker C} → Quiet p → ((a : A) → Closes n (f a) q num own) → Closes n (p >>= f) q num own
unfolding before
before_closing {p = p} a b = record { follows = before a (λ x. (b x).follows); own_number = λ s. (b (p s).0).own_number (p s).1 }

pub inside : {A B : Type 0} {num : B → List ℕ} {p : Judges A} {q : NoteTaker B} → Follows p q num → Follows (scoped p) q num
inside a = record { notes = a.notes; node = a.node; count = a.count; writes = a.writes; counts = a.counts; takes = a.takes; numbers = a.numbers }

-- the node is made of what is taken
pub made : {A B C : Type 0} {num : B → List ℕ} {p : Judges A} {q : NoteTaker B} (whole : C → List ℕ) → Follows p q num → (f : B → C) → ((b : B) → whole (f b) ≡ num b) → Follows p (changed f q) whole
made {B = B} whole a f same = record {
  notes = a.notes;
  node = λ s. f (a.node s);
  count = a.count;
  writes = a.writes;
  counts = a.counts;
  takes = λ s rest. ap (λ (x : B × List Note). (f x.0, x.1)) (a.takes s rest);
  numbers = λ s. same (a.node s) ∙ a.numbers s;
}
