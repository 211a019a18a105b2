-- What stands between two quotes.
use Rattle.std.proofs.Common.{◌≡◌, ℕ, zero, suc, ◌+◌, ◌*◌, ◌≤◌, ◌<◌, List, [], ◌∷◌, ◌++◌, length, Bool, true, false, ◌||◌, ◌==◌, refl, sym, ap, ◌∙◌, subst, arith, append_assoc, length-append, cond, Option, Some, None}
use Rattle.qvt_lexer.specs.Characters.{is_hex, hex_value}
use Rattle.qvt_lexer.specs.Literals.{TakenCodePoint, hex_at, is_surrogate, no_surrogate, simple_escape, simple_at, escape_at, item_at, Content}
use Rattle.qvt_lexer.specs.Scan.{items_end, content_end}

-- f takes v from a front u of cs that leaves s, and takes it in whatever stands after u
pub record Takes (f : List ℕ → TakenCodePoint) (cs : List ℕ) (v : ℕ) (s : List ℕ) : Type 0 where
  pub front : List ℕ
  pub cut : cs ≡ front ++ s
  pub again : (t : List ℕ) → f (front ++ t) ≡ Some (v, t)

same_taken : (v w : ℕ) (s t : List ℕ) → ◌≡◌ {A = TakenCodePoint} (Some (v, s)) (Some (w, t)) → (v ≡ w) × (s ≡ t)
same_taken v w s t e =
    let pairs : ◌≡◌ {A = ℕ × List ℕ} (v, s) (w, t) = cc in ((λ i. (pairs i).0), (λ i. (pairs i).1))

-- one more character before
module _ (f g : List ℕ → TakenCodePoint) (c : ℕ) (cs : List ℕ) (v : ℕ) (s : List ℕ) (same : (t : List ℕ) → g (c ∷ t) ≡ f t) where
  takes_more : Takes f cs v s → Takes g (c ∷ cs) v s
  takes_more k = record { front = c ∷ k.front; cut = ap (λ z. c ∷ z) k.cut; again = λ t. same (k.front ++ t) ∙ k.again t }

hex_cases : (n a c : ℕ) (cs : List ℕ) (v : ℕ) (s : List ℕ) (b : Bool) → is_hex c ≡ b → (hex_at n (16 * a + hex_value c) cs ≡ Some (v, s) → Takes (hex_at n (16 * a + hex_value c)) cs v s)
    → cond b (hex_at n (16 * a + hex_value c) cs) None ≡ Some (v, s) → Takes (hex_at (suc n) a) (c ∷ cs) v s
hex_cases n a c cs v s true h ih e =
    takes_more (hex_at n (16 * a + hex_value c)) (hex_at (suc n) a) c cs v s (λ t. ap (λ b. cond b (hex_at n (16 * a + hex_value c) t) None) h) (ih e)
hex_cases n a c cs v s false h ih e = absurd cc

hex_takes : (n a : ℕ) (cs : List ℕ) (v : ℕ) (s : List ℕ) → hex_at n a cs ≡ Some (v, s) → Takes (hex_at n a) cs v s
hex_takes zero a cs v s e =
    let same = same_taken a v cs s e in
    record { front = []; cut = same.1; again = λ t. ap (λ z. Some (z, t)) same.0 }
hex_takes (suc n) a [] v s e = absurd cc
hex_takes (suc n) a (c ∷ cs) v s e = hex_cases n a c cs v s (is_hex c) refl (hex_takes n (16 * a + hex_value c) cs v s) e

unicode_takes : (f : List ℕ → TakenCodePoint) (cs : List ℕ) (x : TakenCodePoint) → f cs ≡ x → ((w : ℕ) (t : List ℕ) → f cs ≡ Some (w, t) → Takes f cs w t) → (v : ℕ) (s : List ℕ) → no_surrogate x ≡ Some (v, s) → Takes (λ z. no_surrogate (f z)) cs v s
unicode_takes f cs None h k v s e = absurd cc
unicode_takes f cs (Some (w, r)) h k v s e = cases (is_surrogate w) refl e where
  cases : (b : Bool) → is_surrogate w ≡ b → ◌≡◌ {A = TakenCodePoint} (cond b None (Some (w, r))) (Some (v, s)) → Takes (λ z. no_surrogate (f z)) cs v s
  cases true g e = absurd cc
  cases false g e =
      let same = same_taken w v r s e in
      let inner = k w r h in
      record {
        front = inner.front;
        cut = inner.cut ∙ ap (λ z. inner.front ++ z) same.1;
        again = λ t. ap no_surrogate (inner.again t) ∙ ap (λ b. cond b None (Some (w, t))) g ∙ ap (λ z. Some (z, t)) same.0;
      }

simple_takes : (c : ℕ) (cs : List ℕ) (x : Option ℕ) → simple_escape c ≡ x → (v : ℕ) (s : List ℕ) → simple_at x cs ≡ Some (v, s) → Takes (λ z. simple_at (simple_escape c) z) cs v s
simple_takes c cs None h v s e = absurd cc
simple_takes c cs (Some w) h v s e =
    let same = same_taken w v cs s e in
    record { front = []; cut = same.1; again = λ t. ap (λ z. simple_at z t) h ∙ ap (λ z. Some (z, t)) same.0 }

-- the three kinds of escape, by the character after the backslash
abbrev escape_by : Bool → Bool → ℕ → List ℕ → TakenCodePoint
escape_by x u c cs = cond x (hex_at 2 0 cs) (cond u (no_surrogate (hex_at 4 0 cs)) (simple_at (simple_escape c) cs))

kinds_take : (x u : Bool) (c : ℕ) (cs : List ℕ) (v : ℕ) (s : List ℕ) → escape_by x u c cs ≡ Some (v, s) → Takes (escape_by x u c) cs v s
kinds_take true u c cs v s e = hex_takes 2 0 cs v s e
kinds_take false true c cs v s e = unicode_takes (hex_at 4 0) cs (hex_at 4 0 cs) refl (hex_takes 4 0 cs) v s e
kinds_take false false c cs v s e = simple_takes c cs (simple_escape c) refl v s e

escape_takes : (cs : List ℕ) (v : ℕ) (s : List ℕ) → escape_at cs ≡ Some (v, s) → Takes escape_at cs v s
escape_takes [] v s e = absurd cc
escape_takes (c ∷ cs) v s e = takes_more (escape_by (c == 120) (c == 117) c) escape_at c cs v s (λ t. refl) (kinds_take (c == 120) (c == 117) c cs v s e)

abbrev item_by : Bool → Bool → ℕ → List ℕ → TakenCodePoint
item_by stop slash c cs = cond stop None (cond slash (escape_at cs) (Some (c, cs)))

items_take : (stop slash : Bool) (c : ℕ) (cs : List ℕ) (v : ℕ) (s : List ℕ) → item_by stop slash c cs ≡ Some (v, s) → Takes (item_by stop slash c) cs v s
items_take true slash c cs v s e = absurd cc
items_take false true c cs v s e = escape_takes cs v s e
items_take false false c cs v s e = let same = same_taken c v cs s e in record { front = []; cut = same.1; again = λ t. ap (λ z. Some (z, t)) same.0 }

-- an item takes at least one character
pub record TakesItem (q : ℕ) (cs : List ℕ) (v : ℕ) (s : List ℕ) : Type 0 where
  pub first : ℕ
  pub front : List ℕ
  pub cut : cs ≡ first ∷ (front ++ s)
  pub again : (t : List ℕ) → item_at q (first ∷ (front ++ t)) ≡ Some (v, t)

pub item_takes : (q : ℕ) (cs : List ℕ) (v : ℕ) (s : List ℕ) → item_at q cs ≡ Some (v, s) → TakesItem q cs v s
item_takes q [] v s e = absurd cc
item_takes q (c ∷ cs) v s e =
    let k = items_take (c == q || c == 10) (c == 92) c cs v s e in
    record { first = c; front = k.front; cut = ap (λ z. c ∷ z) k.cut; again = k.again }

pub item_shorter : (q : ℕ) (cs : List ℕ) (v : ℕ) (s : List ℕ) → item_at q cs ≡ Some (v, s) → length s < length cs
item_shorter q cs v s e = let k = item_takes q cs v s e in omega (arith, ap length k.cut, length-append k.front s)

-- what items take from a front they take from the longer text
pub content_more : (q : ℕ) (vs cs s t : List ℕ) → Content q cs vs s → Content q (cs ++ t) vs (s ++ t)
content_more q [] cs s t k = ap (λ z. z ++ t) k
content_more q (v ∷ vs) cs s t k =
    let i = item_takes q cs v k.0 k.1 in
    (k.0 ++ t, ap (item_at q) (ap (λ z. z ++ t) i.cut ∙ ap (λ z. i.first ∷ z) (append_assoc i.front k.0 t)) ∙ i.again (k.0 ++ t), content_more q vs k.0 s t k.2)

-- and what they take from a text they take from its front
pub record Front (q : ℕ) (cs vs s : List ℕ) : Type 0 where
  pub front : List ℕ
  pub cut : cs ≡ front ++ s
  pub again : (t : List ℕ) → Content q (front ++ t) vs t

pub content_front : (q : ℕ) (vs cs s : List ℕ) → Content q cs vs s → Front q cs vs s
content_front q [] cs s k = record { front = []; cut = k; again = λ t. refl }
content_front q (v ∷ vs) cs s k =
    let i = item_takes q cs v k.0 k.1 in
    let more = content_front q vs k.0 s k.2 in
    record {
      front = i.first ∷ (i.front ++ more.front);
      cut = i.cut ∙ ap (λ z. i.first ∷ (i.front ++ z)) more.cut ∙ ap (λ z. i.first ∷ z) (sym (append_assoc i.front more.front s));
      again = λ t. (more.front ++ t, ap (λ z. item_at q (i.first ∷ z)) (append_assoc i.front more.front t) ∙ i.again (more.front ++ t), more.again t);
    }

-- the end of the content
pub record Ends (q : ℕ) (cs s : List ℕ) : Type 0 where
  pub values : List ℕ
  pub content : Content q cs values s
  pub stops : item_at q s ≡ None

ends_cases : (n q : ℕ) (cs : List ℕ) (x : TakenCodePoint) → item_at q cs ≡ x → ((v : ℕ) (s : List ℕ) → item_at q cs ≡ Some (v, s) → Ends q s (items_end n q s))
    → Ends q cs (elim x [ None ↦ cs | Some y ↦ items_end n q y.1 ])
ends_cases n q cs None h ih = record { values = []; content = refl; stops = h }
ends_cases n q cs (Some (v, s)) h ih =
    let k = ih v s h in record { values = v ∷ k.values; content = (s, h, k.content); stops = k.stops }

ends_in : (n q : ℕ) (cs : List ℕ) → length cs ≤ n → Ends q cs (items_end n q cs)
ends_in zero q [] le = record { values = []; content = refl; stops = refl }
ends_in zero q (c ∷ cs) le = absurd (omega arith)
ends_in (suc n) q cs le = ends_cases n q cs (item_at q cs) refl (λ v s h. ends_in n q s (let lt = item_shorter q cs v s h in omega arith))

pub content_ends : (q : ℕ) (cs : List ℕ) → Ends q cs (content_end q cs)
content_ends q cs = ends_in (length cs) q cs (omega arith)

-- there is one end
pub one_end : (q : ℕ) (vs ws cs s t : List ℕ) → Content q cs vs s → item_at q s ≡ None → Content q cs ws t → item_at q t ≡ None → s ≡ t
one_end q [] [] cs s t k e j d = sym k ∙ j
one_end q [] (w ∷ ws) cs s t k e j d = absurd (let z : Some (w, j.0) ≡ None = sym j.1 ∙ ap (item_at q) k ∙ e in cc)
one_end q (v ∷ vs) [] cs s t k e j d = absurd (let z : Some (v, k.0) ≡ None = sym k.1 ∙ ap (item_at q) j ∙ d in cc)
one_end q (v ∷ vs) (w ∷ ws) cs s t k e j d =
    let same = same_taken v w k.0 j.0 (sym k.1 ∙ j.1) in
    one_end q vs ws k.0 s t k.2 e (subst (λ z. Content q z ws t) (sym same.1) j.2) d

-- for a loop that takes item after item
pub end_past : (q : ℕ) (cs : List ℕ) (v : ℕ) (s : List ℕ) → item_at q cs ≡ Some (v, s) → content_end q cs ≡ content_end q s
end_past q cs v s h =
    let k = content_ends q cs in
    let j = content_ends q s in
    one_end q k.values (v ∷ j.values) cs (content_end q cs) (content_end q s) k.content k.stops (s, h, j.content) j.stops

pub end_here : (q : ℕ) (cs : List ℕ) → item_at q cs ≡ None → content_end q cs ≡ cs
end_here q cs h = let k = content_ends q cs in one_end q k.values [] cs (content_end q cs) cs k.content k.stops refl h
