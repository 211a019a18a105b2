-- Lists of places that go along a list of tokens.
use Rattle.std.proofs.Common.{◌≡◌, ◌≤◌, List, [], ◌∷◌, ◌++◌, map, ◌⊎◌, inl, inr, refl, sym, ap, ◌∙◌, subst, append_assoc, append-nil, arith}
use Rattle.qvt_base.specs.declared.numbers.Place.{Place}
use Rattle.qvt_grammar.specs.Language.{head_of}
use Rattle.qvt_language.specs.Tokens.{Tok}
use Rattle.qvt_language.specs.Readers.{nowhere}
use Rattle.qvt_parser_nodes.specs.Law.{NoneBefore, DoNotFall, IsTokenPlace, ArePlacesOf}

-- each place is that of a token, which is no token before that of the place before
abbrev pub Along : List Place → List Tok → Type 0
Along [] ts = Unit {0}
Along (p ∷ ps) ts = (u : List Tok) × (t : Tok) × (v : List Tok) × (ts ≡ u ++ (t ∷ v)) × (p ≡ t.place) × Along ps (t ∷ v)

pub along_after : (ps : List Place) (u v : List Tok) → Along ps v → Along ps (u ++ v)
along_after [] u v h = tt
along_after (p ∷ ps) u v h = (u ++ h.0, h.1, h.2, ap (λ z. u ++ z) h.3 ∙ sym (append_assoc u h.0 (h.1 ∷ h.2)), h.4, h.5)

longer : (ts u v w : List Tok) (t : Tok) → ts ≡ u ++ (t ∷ v) → ts ++ w ≡ u ++ (t ∷ (v ++ w))
longer ts u v w t e = ap (λ z. z ++ w) e ∙ append_assoc u (t ∷ v) w

pub along_more : (ps : List Place) (u v : List Tok) → Along ps u → Along ps (u ++ v)
along_more [] u v h = tt
along_more (p ∷ ps) u v h = (h.0, h.1, h.2 ++ v, longer u h.0 h.2 v h.1 h.3, h.4, along_more ps (h.1 ∷ h.2) v h.5)

pub along_both : (ps qs : List Place) (u v : List Tok) → Along ps u → Along qs v → Along (ps ++ qs) (u ++ v)
along_both [] qs u v h k = along_after qs u v k
along_both (p ∷ ps) qs u v h k = (h.0, h.1, h.2 ++ v, longer u h.0 h.2 v h.1 h.3, h.4, along_both ps qs (h.1 ∷ h.2) v h.5 k)

along_tail : (p : Place) (ps : List Place) (ts : List Tok) → Along (p ∷ ps) ts → Along ps ts
along_tail p ps ts h = subst (Along ps) (sym h.3) (along_after ps h.0 (h.1 ∷ h.2) h.5)

-- the place of the first token may stand before them
pub along_head : (ps : List Place) (ts : List Tok) → (ts ≡ [] → ⊥) → Along ps ts → Along (head_of (λ t. t.place) nowhere ts ∷ ps) ts
along_head ps [] n h = absurd (n refl)
along_head ps (t ∷ ts) n h = ([], t, ts, refl, refl, h)

-- the first list is what is left of the second where some places are let go
abbrev pub Thin : List Place → List Place → Type 0
Thin [] qs = Unit {0}
Thin (p ∷ ps) [] = ⊥
Thin (p ∷ ps) (q ∷ qs) = ((p ≡ q) × Thin ps qs) ⊎ Thin (p ∷ ps) qs

pub thin_same : (ps : List Place) → Thin ps ps
thin_same [] = tt
thin_same (p ∷ ps) = inl (refl, thin_same ps)

pub thin_is : (ps qs : List Place) → ps ≡ qs → Thin ps qs
thin_is ps qs e = subst (Thin ps) e (thin_same ps)

pub thin_over : (q : Place) (ps qs : List Place) → Thin ps qs → Thin ps (q ∷ qs)
thin_over q [] qs h = tt
thin_over q (p ∷ ps) qs h = inr h

thin_past : (xs ps qs : List Place) → Thin ps qs → Thin ps (xs ++ qs)
thin_past [] ps qs h = h
thin_past (x ∷ xs) ps qs h = thin_over x ps (xs ++ qs) (thin_past xs ps qs h)

pub thin_both : (ps qs xs ys : List Place) → Thin ps qs → Thin xs ys → Thin (ps ++ xs) (qs ++ ys)
thin_both [] qs xs ys h k = thin_past qs xs ys k
thin_both (p ∷ ps) [] xs ys h k = absurd h
thin_both (p ∷ ps) (q ∷ qs) xs ys (inl h) k = inl (h.0, thin_both ps qs xs ys h.1 k)
thin_both (p ∷ ps) (q ∷ qs) xs ys (inr h) k = inr (thin_both (p ∷ ps) qs xs ys h k)

pub thin_front : (ps qs : List Place) → Thin ps (ps ++ qs)
thin_front ps qs = subst (λ z. Thin z (ps ++ qs)) (append-nil ps) (thin_both ps ps [] qs (thin_same ps) tt)

pub along_thin : (ps qs : List Place) (ts : List Tok) → Thin ps qs → Along qs ts → Along ps ts
along_thin [] qs ts h k = tt
along_thin (p ∷ ps) [] ts h k = absurd h
along_thin (p ∷ ps) (q ∷ qs) ts (inl h) k = (k.0, k.1, k.2, k.3, h.0 ∙ k.4, along_thin ps qs (k.1 ∷ k.2) h.1 k.5)
along_thin (p ∷ ps) (q ∷ qs) ts (inr h) k = along_thin (p ∷ ps) qs ts h (along_tail q qs ts k)

thin_trans : (ps qs rs : List Place) → Thin ps qs → Thin qs rs → Thin ps rs
thin_trans [] qs rs h k = tt
thin_trans (p ∷ ps) [] rs h k = absurd h
thin_trans (p ∷ ps) (q ∷ qs) [] h k = absurd k
thin_trans (p ∷ ps) (q ∷ qs) (r ∷ rs) (inl h) (inl k) = inl (h.0 ∙ k.0, thin_trans ps qs rs h.1 k.1)
thin_trans (p ∷ ps) (q ∷ qs) (r ∷ rs) (inr h) (inl k) = inr (thin_trans (p ∷ ps) qs rs h k.1)
thin_trans (p ∷ ps) (q ∷ qs) (r ∷ rs) h (inr k) = inr (thin_trans (p ∷ ps) (q ∷ qs) rs h k)

-- the same, part by part
pub record Less (ps qs : List Place) : Type 0 where
  pub thin : Thin ps qs

pub same : {ps : List Place} → Less ps ps
same {ps} = record { thin = thin_same ps }

pub is_same : {ps qs : List Place} → ps ≡ qs → Less ps qs
is_same {ps} {qs} e = record { thin = thin_is ps qs e }

pub none_of : {qs : List Place} → Less [] qs
none_of = record { thin = tt }

pub at : (p : Place) {ps qs : List Place} → Less ps qs → Less (p ∷ ps) (p ∷ qs)
at p h = record { thin = inl (refl, h.thin) }

pub over : (q : Place) {ps qs : List Place} → Less ps qs → Less ps (q ∷ qs)
over q {ps} {qs} h = record { thin = thin_over q ps qs h.thin }

pub past : (xs : List Place) {ps qs : List Place} → Less ps qs → Less ps (xs ++ qs)
past xs {ps} {qs} h = record { thin = thin_past xs ps qs h.thin }

pub parts : {ps qs xs ys : List Place} → Less ps qs → Less xs ys → Less (ps ++ xs) (qs ++ ys)
parts {ps} {qs} {xs} {ys} h k = record { thin = thin_both ps qs xs ys h.thin k.thin }

pub front : (ps qs : List Place) → Less ps (ps ++ qs)
front ps qs = record { thin = thin_front ps qs }

pub less_trans : {ps qs rs : List Place} → Less ps qs → Less qs rs → Less ps rs
less_trans {ps} {qs} {rs} h k = record { thin = thin_trans ps qs rs h.thin k.thin }

-- what the tokens show shows in the places

abbrev spots : List Tok → List Place
spots = map (λ t. t.place)

one_of : (u v : List Tok) (t : Tok) (p : Place) → p ≡ t.place → IsTokenPlace (u ++ (t ∷ v)) p
one_of [] v t p e = inl e
one_of (x ∷ u) v t p e = inr (one_of u v t p e)

of_end : (u v : List Tok) (p : Place) → IsTokenPlace v p → IsTokenPlace (u ++ v) p
of_end [] v p h = h
of_end (x ∷ u) v p h = inr (of_end u v p h)

all_of_end : (ps : List Place) (u v : List Tok) → ArePlacesOf v ps → ArePlacesOf (u ++ v) ps
all_of_end [] u v h = tt
all_of_end (p ∷ ps) u v h = (of_end u v p h.0, all_of_end ps u v h.1)

pub along_tokens : (ps : List Place) (ts : List Tok) → Along ps ts → ArePlacesOf ts ps
along_tokens [] ts h = tt
along_tokens (p ∷ ps) ts h =
    let one = one_of h.0 h.2 h.1 p h.4 in
    let rest = all_of_end ps h.0 (h.1 ∷ h.2) (along_tokens ps (h.1 ∷ h.2) h.5) in
    (subst (λ z. IsTokenPlace z p) (sym h.3) one, subst (λ z. ArePlacesOf z ps) (sym h.3) rest)

falls_no_end : (u v : List Tok) → DoNotFall (spots (u ++ v)) → DoNotFall (spots v)
falls_no_end [] v h = h
falls_no_end (t ∷ u) v h = falls_no_end u v h.1

before_end : (p : Place) (u v : List Tok) → NoneBefore p (spots (u ++ v)) → NoneBefore p (spots v)
before_end p [] v h = h
before_end p (t ∷ u) v h = before_end p u v h.1

-- none stands before a place that none of the tokens stands before
none_before : (at : Place) (ps : List Place) (ts : List Tok) → NoneBefore at (spots ts) → Along ps ts → NoneBefore at ps
none_before at [] ts h k = tt
none_before at (p ∷ ps) ts h k =
    let all = subst (λ z. NoneBefore at (spots z)) k.3 h in
    let here = before_end at k.0 (k.1 ∷ k.2) all in
    (subst (λ z. at.offset ≤ z.offset) (sym k.4) here.0, none_before at ps (k.1 ∷ k.2) here k.5)

first_none_before : (t : Tok) (v : List Tok) → DoNotFall (spots (t ∷ v)) → NoneBefore t.place (spots (t ∷ v))
first_none_before t v h = (omega arith, h.0)

pub along_order : (ps : List Place) (ts : List Tok) → DoNotFall (spots ts) → Along ps ts → DoNotFall ps
along_order [] ts h k = tt
along_order (p ∷ ps) ts h k =
    let all = subst (λ z. DoNotFall (spots z)) k.3 h in
    let here = falls_no_end k.0 (k.1 ∷ k.2) all in
    let none = none_before k.1.place ps (k.1 ∷ k.2) (first_none_before k.1 k.2 here) k.5 in
    (subst (λ z. NoneBefore z ps) (sym k.4) none, along_order ps (k.1 ∷ k.2) here k.5)
