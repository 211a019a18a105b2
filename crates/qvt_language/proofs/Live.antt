-- A front is what begins a read list, form by form: l at a nesting, m at one more.
use Rattle.std.proofs.Common.{◌≡◌, ℕ, codes, List, [], ◌∷◌, ◌++◌, Bool, true, false, ◌⊎◌, inl, inr, refl, sym, ap, ◌∙◌, append-nil, append_assoc, eq-eqb, Option, Some, None, pos}
use Rattle.qvt_grammar.specs.Language.{Language, follow, then, either, many, turns, made, empty, maybe}
use Rattle.qvt_grammar.specs.Reader.{starts}
use Rattle.qvt_grammar.proofs.Wider.{Sub, sub_ended, sub_turns, sub_follow, sub_made, sub_maybe}
use Rattle.qvt_grammar.proofs.Fronts.{Closed, Completes, closed_token, completes_token, closed_follow, completes_follow, closed_then, completes_then, closed_either, completes_either, closed_made, completes_made, closed_marked, completes_marked, closed_empty, completes_empty, closed_many, completes_many, closed_maybe, completes_maybe, closed_ended, Each, each_both, turns_push}
use Rattle.qvt_language.specs.Tokens.{Tok, is, code_of}
use Rattle.qvt_language.specs.Readers.{nowhere, the, placed}
use Rattle.qvt_language.specs.Series.{left, right, series, finished, barring}
use Rattle.qvt_language.specs.Same.{SimpleText, IsSimple}
use Rattle.qvt_language.specs.Grammar.{NestedLanguages}
use Rattle.qvt_language.specs.Reading.{NestedAt}
use Rattle.qvt_language.specs.Units.{is_strictness, strictness}
use Rattle.qvt_language.proofs.Every.{Keeping, Valuing, Forms, Inside}
use Rattle.qvt_words.specs.declared.class.Class.{Class}
use Rattle.qvt_words.specs.declared.class.Class.TheVariants.{Name, Str}

pub record Live {A : Type 0} (l m : Language Tok A) : Type 0 where
  pub closed : Closed l
  pub completes : Completes IsSimple l m

-- what a token says that says as little as it can
abbrev pub sample_text : Class → List ℕ
sample_text Name = codes "a"
sample_text c = []

abbrev pub sample : Class → Tok
sample c = record { class = c; text = sample_text c; number = pos 0; place = nowhere }

sample_simple : (c : Class) → SimpleText c (sample_text c)
sample_simple Name = refl
sample_simple Str = inl refl
sample_simple _ = refl

pub simple_sample : (c : Class) → IsSimple (sample c)
simple_sample c = record { number = refl; text = sample_simple c }

pub live_the : (c : Class) → Live (the c) (the c)
live_the c = record { closed = closed_token (is c); completes = completes_token (is c) IsSimple (sample c) (simple_sample c) (eq-eqb (code_of c) (code_of c) refl) }

pub live_empty : Live (empty {T = Tok}) empty
live_empty = record { closed = closed_empty; completes = completes_empty }

module _ {A : Type 0} {l l2 : Language Tok A} where
  pub live_made : {B : Type 0} (h : A → B) → Live l l2 → Live (made h l) (made h l2)
  live_made h k = record { closed = closed_made h l k.closed; completes = completes_made h l l2 k.completes }

  pub live_placed : Live l l2 → Live (placed l) (placed l2)
  live_placed k = record { closed = closed_marked (λ t. t.place) nowhere l k.closed; completes = completes_marked (λ t. t.place) nowhere l l2 k.completes }

  pub live_maybe : Live l l2 → Live (maybe l) (maybe l2)
  live_maybe k = record { closed = closed_maybe l k.closed; completes = completes_maybe l l2 k.completes }

  pub live_many : Live l l2 → Live (many l) (many l2)
  live_many k = record { closed = closed_many l k.closed; completes = completes_many l l2 k.completes }

  pub live_either : {m m2 : Language Tok A} → Live l l2 → Live m m2 → Live (either l m) (either l2 m2)
  live_either {m = m} {m2 = m2} k j = record { closed = closed_either l m k.closed j.closed; completes = completes_either l l2 m m2 k.completes j.completes }

  pub live_then : {B : Type 0} {m m2 : Language Tok B} → Live l l2 → Live m m2 → Live (then l m) (then l2 m2)
  live_then {m = m} {m2 = m2} k j = record { closed = closed_then l m k.closed j.closed; completes = completes_then l l2 m m2 k.completes j.completes }

  pub live_follow : {B : Type 0} {m m2 : A → Language Tok B} → Live l l2 → ((a : A) → Live (m a) (m2 a)) → Live (follow l m) (follow l2 m2)
  live_follow {m = m} {m2 = m2} k j = record { closed = closed_follow l m k.closed (λ a. (j a).closed); completes = completes_follow l l2 m m2 k.completes (λ a. (j a).completes) }

module _ {A B : Type 0} (l l2 : Language Tok (A ⊎ B)) where
  left_sub : Sub l l2 → Sub (left l) (left l2)
  left_sub s = record { reads = λ ts a h. s.reads ts (inl a) h; front = s.front }

  right_sub : Sub l l2 → Sub (right l) (right l2)
  right_sub s = record { reads = λ ts a h. s.reads ts (inr a) h; front = s.front }

  last_turn : Sub l l2 → (ts : List Tok) (got : List A) (u v w : List Tok) (x : A ⊎ B) → ts ≡ u ++ v → turns (left l) u got → l2.reads (v ++ w) x → (all : List A × Option B) × (series l2).reads (ts ++ w) all
  last_turn s ts got u v w (inl a) e rd q = (
    (got ++ a ∷ [], None),
    (u ++ (v ++ w), [], ap (λ z. z ++ w) e ∙ append_assoc u v w ∙ sym (append-nil (u ++ (v ++ w))), turns_push (left l) (left l2) (left_sub s) got u (v ++ w) a rd q, refl),
  )
  last_turn s ts got u v w (inr b) e rd q = (
    (got, Some b),
    (u, v ++ w, ap (λ z. z ++ w) e ∙ append_assoc u v w, sub_turns (left l) (left l2) (left_sub s) got u rd, q),
  )

pub live_series : {A B : Type 0} {l l2 : Language Tok (A ⊎ B)} → Live l l2 → Live (series l) (series l2)
live_series {l = l} {l2 = l2} k = record {
  closed = closed_ended (left l) (right l) (record { front = λ ts v a rd. k.closed.front ts v (inl a) rd }) (record { front = λ ts v a rd. k.closed.front ts v (inr a) rd });
  completes = record {
    within = sub_ended (left l) (left l2) (right l) (right l2) (left_sub l l2 k.completes.within) (right_sub l l2 k.completes.within);
    some = ([], ([], None), ([], [], refl, refl, refl), tt);
    whole = λ ts fr. elim fr.5 [
      | inl e ↦ ([], (fr.0, None), (fr.1, [], append-nil ts ∙ fr.3 ∙ ap (λ z. fr.1 ++ z) e, sub_turns (left l) (left l2) (left_sub l l2 k.completes.within) fr.0 fr.1 fr.4, refl), tt)
      | inr q ↦ (let w = k.completes.whole fr.2 (elim q [ inl z ↦ z | inr z ↦ z ]) in let y = last_turn l l2 k.completes.within ts fr.0 fr.1 fr.2 w.0 w.1 fr.3 fr.4 w.2 in (w.0, y.0, y.1, w.3))
    ];
  };
}

-- one turn of the other kind finishes the turns
with_last : {A B : Type 0} (l : Language Tok (A ⊎ B)) (v : List Tok) (b : B) → l.reads v (inr b) → Each IsSimple v → (ts w : List Tok) (got : List A) (o : Option B) → (series l).reads (ts ++ w) (got, o) → Each IsSimple w
    → (more : List Tok) × (all : List A × B) × (finished l).reads (ts ++ more) all × Each IsSimple more
with_last l v b last told ts w got (Some c) rd simple = (w, (got, c), rd, simple)
with_last l v b last told ts w got None rd simple = (
  w ++ v,
  (got, b),
  (rd.0, v, sym (append_assoc ts w v) ∙ ap (λ z. z ++ v) (rd.2 ∙ ap (λ z. rd.0 ++ z) rd.4 ∙ append-nil rd.0), rd.3, last),
  each_both IsSimple w v simple told,
)

pub live_finished : {A B : Type 0} {l l2 : Language Tok (A ⊎ B)} → Live l l2 → (v : List Tok) (b : B) → l2.reads v (inr b) → Each IsSimple v → Live (finished l) (finished l2)
live_finished {l2 = l2} k v b last told = let s = live_series k in record {
  closed = record { front = λ ts w got rd. s.closed.front ts w (got.0, Some got.1) rd };
  completes = record {
    within = record { reads = λ ts got rd. s.completes.within.reads ts (got.0, Some got.1) rd; front = s.completes.within.front };
    some = (v, ([], b), ([], v, refl, refl, last), told);
    whole = λ ts fr. (let w = s.completes.whole ts fr in with_last l2 v b last told ts w.0 w.1.0 w.1.1 w.2 w.3);
  };
}

-- the same but for the empty list, which need not be completed
pub record LiveMore {A : Type 0} (l m : Language Tok A) : Type 0 where
  pub closed : Closed l
  pub within : Sub l m
  pub whole : (t : Tok) (ts : List Tok) → l.front (t ∷ ts) → (v : List Tok) × (a : A) × m.reads ((t ∷ ts) ++ v) a × Each IsSimple v

barred_before : (p : Tok → Bool) (ts v : List Tok) → starts p (ts ++ v) ≡ false → starts p ts ≡ false
barred_before p [] v h = refl
barred_before p (t ∷ ts) v h = h

pub more_barring : {A : Type 0} {l l2 : Language Tok A} (p : Tok → Bool) → Live l l2 → LiveMore (barring p l) (barring p l2)
more_barring p k = record {
  closed = record { front = λ ts v a rd. (k.closed.front ts v a rd.0, barred_before p ts v rd.1) };
  within = record { reads = λ ts a rd. (k.completes.within.reads ts a rd.0, rd.1); front = λ ts fr. (k.completes.within.front ts fr.0, fr.1) };
  whole = λ t ts fr. (let w = k.completes.whole (t ∷ ts) fr.0 in (w.0, w.1, (w.2, fr.1), w.3));
}

pub more_made : {A B : Type 0} {l l2 : Language Tok A} (h : A → B) → LiveMore l l2 → LiveMore (made h l) (made h l2)
more_made {l = l} {l2 = l2} h k = record {
  closed = closed_made h l k.closed;
  within = sub_made h l l2 k.within;
  whole = λ t ts fr. (let w = k.whole t ts fr in (w.0, h w.1, (w.1, w.2, refl), w.3));
}

pub more_follow : {A B : Type 0} {l l2 : Language Tok A} {m m2 : A → Language Tok B} → LiveMore l l2 → ((a : A) → Live (m a) (m2 a)) → LiveMore (follow l m) (follow l2 m2)
more_follow {l = l} {l2 = l2} {m = m} {m2 = m2} k j = record {
  closed = closed_follow l m k.closed (λ a. (j a).closed);
  within = sub_follow l l2 m m2 k.within (λ a. (j a).completes.within);
  whole = λ t ts fr. elim fr [
    | inl q ↦ (let w = k.whole t ts q in let n = (j w.1).completes.some in (w.0 ++ n.0, (w.1, n.1), ((t ∷ ts) ++ w.0, n.0, sym (append_assoc (t ∷ ts) w.0 n.0), w.2, n.2), each_both IsSimple w.0 n.0 w.3 n.3))
    | inr q ↦ (let w = (j q.2).completes.whole q.1 q.5 in (w.0, (q.2, w.1), (q.0, q.1 ++ w.0, ap (λ z. z ++ w.0) q.3 ∙ append_assoc q.0 q.1 w.0, k.within.reads q.0 q.2 q.4, w.2), w.3))
  ];
}

maybe_whole : {A : Type 0} (l l2 : Language Tok A) → LiveMore l l2 → (ts : List Tok) → (maybe l).front ts → (v : List Tok) × (o : Option A) × (maybe l2).reads (ts ++ v) o × Each IsSimple v
maybe_whole l l2 k [] fr = ([], None, inr (tt, refl, refl), tt)
maybe_whole l l2 k (t ∷ ts) (inl fr) = let w = k.whole t ts fr in (w.0, Some w.1, inl (w.1, w.2, refl), w.3)
maybe_whole l l2 k (t ∷ ts) (inr fr) = absurd cc

pub live_maybe_more : {A : Type 0} {l l2 : Language Tok A} → LiveMore l l2 → Live (maybe l) (maybe l2)
live_maybe_more {l = l} {l2 = l2} k = record {
  closed = closed_maybe l k.closed;
  completes = record { within = sub_maybe l l2 k.within; some = ([], None, inr (tt, refl, refl), tt); whole = maybe_whole l l2 k };
}

-- the forms of the grammar

strict_sample : Tok
strict_sample = record { class = Str; text = codes "strict"; number = pos 0; place = nowhere }

strict_passes : is_strictness strict_sample ≡ true
unfolding strict_sample
strict_passes = refl

pub live_strictness : Live strictness strictness
unfolding strict_sample
live_strictness = record { closed = closed_token is_strictness; completes = completes_token is_strictness IsSimple strict_sample (record { number = refl; text = inr refl }) strict_passes }

abbrev pub Lives : Keeping
Lives = λ A s l m f. Live l m

abbrev pub LivesBarred : Keeping
LivesBarred = λ A s l m f. LiveMore l m

abbrev pub LivesValued : Valuing
LivesValued = λ A s l m f. Live l m

abbrev pub live_forms : Forms Lives LivesBarred LivesValued
live_forms = record {
  token = live_the;
  strict = live_strictness;
  no_token = live_empty;
  wider = λ w k. k;
  gives = live_made;
  at = live_placed;
  perhaps = λ p w k. live_maybe k;
  turns = λ p w a k. live_many k;
  both = λ k j a. live_then k j;
  depending = λ k j a. live_follow k j;
  one_of = λ p k j w a. live_either k j;
  barred = more_barring;
  barred_gives = more_made;
  barred_depending = λ k j a. more_follow k j;
  barred_perhaps = λ p w k. live_maybe_more k;
  valued = λ k. k;
  alike = λ next w k. k;
  value_wider = λ first w k. k;
  value_gives = λ h next w k. live_made h k;
  value_at = live_placed;
  value_perhaps = λ p w k. live_maybe k;
  value_one_of = λ p k j w a. live_either k j;
  value_depending = λ next k j a over more. live_follow k j;
  value_both = λ next k j a over more. live_then k j;
  turns_of = λ p c1 c2 w a k. live_series k;
  last_of = λ p c1 c2 w a k q h. (let v = q.completes.some in live_finished k v.0 v.1 (h v.0 v.1 v.2) v.3);
}

abbrev pub LiveNested : NestedLanguages → NestedLanguages → NestedAt → Type 0
LiveNested i j r = Inside live_forms i j r
