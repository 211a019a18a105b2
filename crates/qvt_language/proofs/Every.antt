-- What is kept by the forms of the grammar holds of every production that the parser follows, with its reader.
use Rattle.std.proofs.Common.{◌≡◌, ℕ, List, [], ◌∷◌, ◌++◌, Bool, true, false, ◌&&◌, ◌||◌, not, cond, ◌⊎◌, inl, inr, Option, Some, None, refl}
use Rattle.qvt_base.specs.declared.numbers.Place.{Place}
use Rattle.qvt_grammar.specs.Language.{Language, follow, then, either, many, made, empty, maybe}
use Rattle.qvt_grammar.specs.Reader.{follow_at, then_at, made_at, choose_at, many_at, empty_at, maybe_at, ended_at}
use Rattle.qvt_grammar.proofs.Firsts.{Within}
use Rattle.qvt_tree_types.specs.Tree.{TypeTerm, StmtTerm}
use Rattle.qvt_words.specs.declared.class.Class.{Class}
use Rattle.qvt_words.specs.declared.class.Class.TheVariants.{Str}
use Rattle.qvt_language.specs.Tokens.{Tok, of, code_of}
use Rattle.qvt_language.specs.Readers.{Reader, the, the_at, placed, placed_at}
use Rattle.qvt_language.specs.Series.{series, finished, finished_at, barring, barring_at}
use Rattle.qvt_language.specs.Firsts.{expr_first, expr_next}
use Rattle.qvt_language.specs.Leads.{Lead}
use Rattle.qvt_language.specs.Grammar.{NestedLanguages}
use Rattle.qvt_language.specs.Reading.{NestedAt}
use Rattle.qvt_language.specs.Units.{strictness}
use Rattle.qvt_language.specs.ReadingUnits.{strictness_at}
use Rattle.qvt_language.proofs.Sets.{all_in, none_in, within, and_parts}

-- what is said of a production: whether it begins with a token of its own, and reads no empty list; the classes that it begins
-- with, and those with which it may go on
pub record Said (N : Type 0) : Type 0 where
  pub early : Bool
  pub full : Bool
  pub first : List ℕ
  pub next : N

abbrev pub by : {N : Type 0} → Bool → Bool → List ℕ → N → Said N
by early full first next = record { early = early; full = full; first = first; next = next }

abbrev pub solid : {N : Type 0} → List ℕ → N → Said N
solid first next = by true true first next

-- what may read the empty list; what may begin with what stands nested inside
abbrev pub loose : {N : Type 0} → List ℕ → N → Said N
loose first next = by true false first next

abbrev pub later : {N : Type 0} → List ℕ → N → Said N
later first next = by false true first next

-- what is said of two parts, the one after the other; of a choice, where p has the classes that the reader asks for
abbrev pub in_turn : Said (List ℕ) → Said (List ℕ) → Said (List ℕ)
in_turn s t = by (cond s.full s.early (s.early && t.early)) (s.full || t.full) (cond s.full s.first (s.first ++ t.first)) (cond t.full t.next (s.next ++ t.next))

abbrev pub chosen : List ℕ → Said (List ℕ) → Said (List ℕ) → Said (List ℕ)
chosen p s t = by (s.early && t.early) t.full (s.first ++ t.first) (cond t.full (s.next ++ t.next) (p ++ (s.next ++ t.next)))

-- what may go on after a part that may be missing, after a turn, after turns
abbrev pub optional_next : {A : Type 0} → List ℕ → List ℕ → Option A → List ℕ
optional_next p x None = p
optional_next p x (Some a) = x

abbrev pub turn_next : {A B : Type 0} → List ℕ → List ℕ → A ⊎ B → List ℕ
turn_next c1 c2 (inl a) = c1
turn_next c1 c2 (inr b) = c2

abbrev pub ended_next : {A B : Type 0} → List ℕ → List ℕ → List A × Option B → List ℕ
ended_next x y (got, None) = x
ended_next x y (got, (Some b)) = y

-- what is said more loosely
pub record IsWithin (s t : Said (List ℕ)) : Type 0 where
  pub early : t.early ≡ true → s.early ≡ true
  pub full : t.full ≡ true → s.full ≡ true
  pub first : Within (of s.first) (of t.first)
  pub next : Within (of s.next) (of t.next)

at_most : (a b : Bool) → (a || not b) ≡ true → b ≡ true → a ≡ true
at_most true b h e = refl
at_most false true h e = h
at_most false false h e = e

pub fits : {s t : Said (List ℕ)} → ((s.early || not t.early) && ((s.full || not t.full) && (all_in s.first t.first && all_in s.next t.next))) ≡ true → IsWithin s t
fits {s = s} {t = t} h =
    let q = and_parts (s.early || not t.early) _ h in
    let k = and_parts (s.full || not t.full) _ q.1 in
    let j = and_parts (all_in s.first t.first) _ k.1 in
    record { early = at_most s.early t.early q.0; full = at_most s.full t.full k.0; first = within s.first t.first j.0; next = within s.next t.next j.1 }

abbrev pub Keeping : Type 1
Keeping = (A : Type 0) → Said (List ℕ) → Language Tok A → Language Tok A → Reader A → Type 0

abbrev pub Valuing : Type 1
Valuing = (A : Type 0) → Said (A → List ℕ) → Language Tok A → Language Tok A → Reader A → Type 0

-- The forms of the grammar: K is what is kept of a production at a nesting and at one more, with its reader, where so much is
-- said of it; KB, of one that is barred; KV, of one whose next tokens depend on its value.
pub record Forms (K KB : Keeping) (KV : Valuing) : Type 1 where
  pub token : (c : Class) → K Tok (solid (code_of c ∷ []) []) (the c) (the c) (the_at c)
  pub strict : K Tok (solid (code_of Str ∷ []) []) strictness strictness strictness_at
  pub no_token : K (Unit {0}) (loose [] []) empty empty empty_at
  pub wider : {A : Type 0} {s t : Said (List ℕ)} {l l2 : Language Tok A} {f : Reader A} → IsWithin s t → K A s l l2 f → K A t l l2 f
  pub gives : {A B : Type 0} {s : Said (List ℕ)} {l l2 : Language Tok A} {f : Reader A} (h : A → B) → K A s l l2 f → K B s (made h l) (made h l2) (made_at h f)
  pub at : {A : Type 0} {b : Bool} {f1 x1 : List ℕ} {l l2 : Language Tok A} {f : Reader A} → K A (by b true f1 x1) l l2 f → K (Place × A) (by b true f1 x1) (placed l) (placed l2) (placed_at f)
  pub perhaps : {A : Type 0} {b : Bool} {f1 x1 : List ℕ} {l l2 : Language Tok A} {f : Reader A} (p : List ℕ) → all_in f1 p ≡ true → K A (by b true f1 x1) l l2 f
      → K (Option A) (by b false f1 (p ++ x1)) (maybe l) (maybe l2) (maybe_at (of p) f)
  pub turns : {A : Type 0} {b : Bool} {f1 x1 : List ℕ} {l l2 : Language Tok A} {f : Reader A} (p : List ℕ) → all_in f1 p ≡ true → none_in x1 f1 ≡ true → K A (by b true f1 x1) l l2 f
      → K (List A) (by b false f1 (p ++ x1)) (many l) (many l2) (many_at (of p) f)
  pub both : {A B : Type 0} {s t : Said (List ℕ)} {l l2 : Language Tok A} {m m2 : Language Tok B} {f : Reader A} {g : Reader B} → K A s l l2 f → K B t m m2 g → none_in s.next t.first ≡ true
      → K (A × B) (in_turn s t) (then l m) (then l2 m2) (then_at f g)
  pub depending : {A B : Type 0} {s t : Said (List ℕ)} {l l2 : Language Tok A} {m m2 : A → Language Tok B} {f : Reader A} {g : A → Reader B} → K A s l l2 f → ((a : A) → K B t (m a) (m2 a) (g a)) → none_in s.next t.first ≡ true
      → K (A × B) (in_turn s t) (follow l m) (follow l2 m2) (follow_at f g)
  pub one_of : {A : Type 0} {b : Bool} {f1 x1 : List ℕ} {t : Said (List ℕ)} {l l2 m m2 : Language Tok A} {f g : Reader A} (p : List ℕ) → K A (by b true f1 x1) l l2 f → K A t m m2 g → all_in f1 p ≡ true → none_in p t.first ≡ true
      → K A (chosen p (by b true f1 x1) t) (either l m) (either l2 m2) (choose_at (of p) f g)
  -- the lists that do not begin with a token of q
  pub barred : {A : Type 0} {b : Bool} {f1 x1 : List ℕ} {l l2 : Language Tok A} {f : Reader A} (q : Tok → Bool) → K A (by b true f1 x1) l l2 f → KB A (by b true f1 x1) (barring q l) (barring q l2) (barring_at q f)
  pub barred_gives : {A B : Type 0} {s : Said (List ℕ)} {l l2 : Language Tok A} {f : Reader A} (h : A → B) → KB A s l l2 f → KB B s (made h l) (made h l2) (made_at h f)
  pub barred_depending : {A B : Type 0} {s t : Said (List ℕ)} {l l2 : Language Tok A} {m m2 : A → Language Tok B} {f : Reader A} {g : A → Reader B} → KB A s l l2 f → ((a : A) → K B t (m a) (m2 a) (g a)) → none_in s.next t.first ≡ true
      → KB (A × B) (in_turn s t) (follow l m) (follow l2 m2) (follow_at f g)
  pub barred_perhaps : {A : Type 0} {b : Bool} {f1 x1 : List ℕ} {l l2 : Language Tok A} {f : Reader A} (p : List ℕ) → all_in f1 p ≡ true → KB A (by b true f1 x1) l l2 f → K (Option A) (by b false f1 (p ++ x1)) (maybe l) (maybe l2) (maybe_at (of p) f)
  -- where the next tokens depend on the value
  pub valued : {A : Type 0} {s : Said (List ℕ)} {l l2 : Language Tok A} {f : Reader A} → K A s l l2 f → KV A (by s.early s.full s.first (λ _. s.next)) l l2 f
  pub alike : {A : Type 0} {s : Said (A → List ℕ)} {l l2 : Language Tok A} {f : Reader A} (next : List ℕ) → ((a : A) → Within (of (s.next a)) (of next)) → KV A s l l2 f → K A (by s.early s.full s.first next) l l2 f
  pub value_wider : {A : Type 0} {s : Said (A → List ℕ)} {l l2 : Language Tok A} {f : Reader A} (first : List ℕ) → all_in s.first first ≡ true → KV A s l l2 f → KV A (by s.early s.full first s.next) l l2 f
  pub value_gives : {A B : Type 0} {s : Said (A → List ℕ)} {l l2 : Language Tok A} {f : Reader A} (h : A → B) (next : B → List ℕ) → ((a : A) → Within (of (s.next a)) (of (next (h a)))) → KV A s l l2 f
      → KV B (by s.early s.full s.first next) (made h l) (made h l2) (made_at h f)
  pub value_at : {A : Type 0} {b : Bool} {f1 : List ℕ} {x1 : A → List ℕ} {l l2 : Language Tok A} {f : Reader A} → KV A (by b true f1 x1) l l2 f → KV (Place × A) (by b true f1 (λ pa. x1 pa.1)) (placed l) (placed l2) (placed_at f)
  pub value_perhaps : {A : Type 0} {b : Bool} {f1 x1 : List ℕ} {l l2 : Language Tok A} {f : Reader A} (p : List ℕ) → all_in f1 p ≡ true → K A (by b true f1 x1) l l2 f → KV (Option A) (by b false f1 (optional_next p x1)) (maybe l) (maybe l2) (maybe_at (of p) f)
  pub value_one_of : {A : Type 0} {b1 b2 : Bool} {f1 f2 : List ℕ} {next : A → List ℕ} {l l2 m m2 : Language Tok A} {f g : Reader A} (p : List ℕ) → KV A (by b1 true f1 next) l l2 f → KV A (by b2 true f2 next) m m2 g → all_in f1 p ≡ true → none_in p f2 ≡ true
      → KV A (by (b1 && b2) true (f1 ++ f2) next) (either l m) (either l2 m2) (choose_at (of p) f g)
  pub value_depending : {A B : Type 0} {b1 b2 w2 : Bool} {f1 f2 : List ℕ} {x1 : A → List ℕ} {x2 : A → B → List ℕ} {l l2 : Language Tok A} {m m2 : A → Language Tok B} {f : Reader A} {g : A → Reader B} (next : A × B → List ℕ)
      → KV A (by b1 true f1 x1) l l2 f → ((a : A) → KV B (by b2 w2 f2 (x2 a)) (m a) (m2 a) (g a)) → ((a : A) → none_in (x1 a) f2 ≡ true)
      → ((a : A) (b : B) → (m a).reads [] b → Within (of (x1 a)) (of (next (a, b)))) → ((a : A) (b : B) → Within (of (x2 a b)) (of (next (a, b))))
      → KV (A × B) (by b1 true f1 next) (follow l m) (follow l2 m2) (follow_at f g)
  pub value_both : {A B : Type 0} {b1 b2 : Bool} {f1 f2 : List ℕ} {x1 : A → List ℕ} {x2 : B → List ℕ} {l l2 : Language Tok A} {m m2 : Language Tok B} {f : Reader A} {g : Reader B} (next : A × B → List ℕ)
      → KV A (by b1 false f1 x1) l l2 f → KV B (by b2 false f2 x2) m m2 g → ((a : A) → none_in (x1 a) f2 ≡ true)
      → ((a : A) (b : B) → m.reads [] b → Within (of (x1 a)) (of (next (a, b)))) → ((a : A) (b : B) → Within (of (x2 b)) (of (next (a, b))))
      → KV (A × B) (by (b1 && b2) false (f1 ++ f2) next) (then l m) (then l2 m2) (then_at f g)
  -- turns, the last of which alone may be of the other kind, or is: there is some list that is read as one of that kind
  pub turns_of : {A B : Type 0} {b : Bool} {f1 : List ℕ} {l l2 : Language Tok (A ⊎ B)} {f : Reader (A ⊎ B)} (p c1 c2 : List ℕ) → all_in f1 p ≡ true → none_in c1 p ≡ true → KV (A ⊎ B) (by b true f1 (turn_next c1 c2)) l l2 f
      → KV (List A × Option B) (by b false p (ended_next (p ++ c1) c2)) (series l) (series l2) (ended_at (of p) f)
  pub last_of : {A B : Type 0} {b : Bool} {f1 : List ℕ} {t : Said (List ℕ)} {l l2 : Language Tok (A ⊎ B)} {f : Reader (A ⊎ B)} {m m2 : Language Tok B} {g : Reader B} (p c1 c2 : List ℕ) → all_in f1 p ≡ true → none_in c1 p ≡ true
      → KV (A ⊎ B) (by b true f1 (turn_next c1 c2)) l l2 f → K B t m m2 g → ((ts : List Tok) (b : B) → m2.reads ts b → l2.reads ts (inr b)) → K (List A × B) (by b true p c2) (finished l) (finished l2) (finished_at (of p) f)

-- what is kept of what stands nested inside
pub record Inside {K KB : Keeping} {KV : Valuing} (F : Forms K KB KV) (i j : NestedLanguages) (r : NestedAt) : Type 0 where
  pub flagged : K Lead (later expr_first expr_next) i.flagged j.flagged r.flagged
  pub block : K (List StmtTerm) (later (5 ∷ []) []) i.block j.block r.block
  pub kind : K TypeTerm (later (0 ∷ 30 ∷ 66 ∷ 77 ∷ 78 ∷ []) (10 ∷ [])) i.kind j.kind r.kind
