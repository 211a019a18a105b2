-- The far ends of records, found one after another.
use Rattle.std.proofs.Common.{◌≡◌, ◌∙◌, ◌<◌, ◌+◌, ℕ, Bool, true, false, ◌==◌, ◌&&◌, ◌||◌, cond, refl, sym, ap, subst, List, [], ◌∷◌, ◌++◌, fold, filter, filter_map, length, slice_get, take, get_or, eqb-true}
use Rattle.std.specs.Prelude.{if◌then◌else◌, Option, Some, None}
use Rattle.std.specs.List.{cons_option, list_any, flat_map}
use Rattle.std.proofs.lemmas.List.{map-append, take_more}
use Rattle.std.proofs.lemmas.List.Concat.{flat_map-append}
use Rattle.std.proofs.lemmas.List.Elements.{filter-append, filter_map-append}
use Rattle.std.proofs.lemmas.List.Folds.{list_any_more}
use Rattle.qvt_base.specs.declared.numbers.MappingNo.{MappingNo}
use Rattle.qvt_base.specs.declared.numbers.Oid.{Oid}
use Rattle.qvt_store.specs.Contents.{Contents}
use Rattle.qvt_run_data.specs.declared.record.Record.{Record}
use Rattle.qvt_run_data.specs.declared.request.Request.{Request}
use Rattle.qvt_run_rules.specs.Trace.{comes_from, far_end, has_object, is_object_of, is_within, with_new}
use Rattle.qvt_trace.specs.Numbers.{numbers}
use Rattle.qvt_trace.proofs.Numbers.{picked}
use Rattle.qvt_relation.proofs.Bools.{or_false, or_left}
use Rattle.qvt_meaning.specs.Program.{with_number}
use Rattle.qvt_exec_resolves.specs.Numbers.{has}
use Rattle.qvt_exec_resolves.specs.Candidates.{oid, oids, with_end, ends_of, ends_within, ends_from, is_near}
use Rattle.qvt_exec_resolves.proofs.Holding.{has-last}
use Rattle.qvt_exec_resolves.proofs.Turns.{fold-joined}

-- ---- objects by their numbers

same_has : (ks : List ℕ) (o : Oid) → has ks o.0 ≡ has_object (oids ks) o
same_has [] o = refl
same_has (k ∷ ks) o = ap (λ b. (k == o.0) || b) (same_has ks o)

pub put_new : (ks : List ℕ) (o : Oid) → oids (with_number ks o.0) ≡ with_new (oids ks) o
put_new ks o = by (has ks o.0) ∙ ap (λ b. cond b (oids ks) (oids ks ++ o ∷ [])) (same_has ks o)
  where
    by : (b : Bool) → oids (cond b ks (ks ++ o.0 ∷ [])) ≡ cond b (oids ks) (oids ks ++ o ∷ [])
    by true = refl
    by false = map-append oid ks (o.0 ∷ [])

pub put_last : (s : Contents) (c : ℕ) (ks new : List ℕ) (o : Oid) → is_object_of s c o ≡ true → new ≡ with_number ks o.0 → oids new ≡ with_end s c (oids ks) (Some o)
put_last s c ks new o is more = ap oids more ∙ put_new ks o ∙ sym (ap (λ b. if b then with_new (oids ks) o else oids ks) is)

-- ---- one record

filter_twice : {X : Type 0} (p q : X → Bool) (xs : List X) → filter q (filter p xs) ≡ filter (λ x. p x && q x) xs
filter_twice p q [] = refl
filter_twice {X} p q (x ∷ xs) = by (filter p xs) (filter (λ y. p y && q y) xs) (p x) (filter_twice p q xs)
  where
    by : (a b : List X) (t : Bool) → filter q a ≡ b → filter q (cond t (x ∷ a) a) ≡ cond (t && q x) (x ∷ b) b
    by a b true e = ap (λ (l : List X). cond (q x) (x ∷ l) l) e
    by a b false e = e

module _ (s : Contents) (q : Request) where
  one_end : (done : List Oid) (r : Record) → with_end s q.class.0 done (far_end q r) ≡ ends_of s q done (r ∷ [])
  one_end done r = by (far_end q r)
    where
      of_object : (o : Oid) (b : Bool) → cond b (with_new done o) done ≡ fold with_new done (cond b (o ∷ []) [])
      of_object o true = refl
      of_object o false = refl

      by : (e : Option Oid) → with_end s q.class.0 done e ≡ fold with_new done (filter (is_object_of s q.class.0) (cons_option e []))
      by None = refl
      by (Some o) = of_object o (is_object_of s q.class.0 o)

  pub one_within : (done : List Oid) (r : Record) → is_within q r ≡ true → with_end s q.class.0 done (far_end q r) ≡ ends_within s q done (r ∷ [])
  one_within done r h = one_end done r ∙ ap (λ b. ends_of s q done (cond b (r ∷ []) [])) (sym h)

  pub one_without : (done : List Oid) (r : Record) → is_within q r ≡ false → done ≡ ends_within s q done (r ∷ [])
  one_without done r h = ap (λ b. ends_of s q done (cond b (r ∷ []) [])) (sym h)

  -- ---- and more

  pub ends_joined : (done : List Oid) (xs ys : List Record) → ends_of s q done (xs ++ ys) ≡ ends_of s q (ends_of s q done xs) ys
  ends_joined done xs ys =
      ap (λ (os : List Oid). fold with_new done (filter (is_object_of s q.class.0) os)) (filter_map-append (far_end q) xs ys)
      ∙ ap (fold with_new done) (filter-append (is_object_of s q.class.0) (filter_map (far_end q) xs) (filter_map (far_end q) ys))
      ∙ fold-joined with_new done (filter (is_object_of s q.class.0) (filter_map (far_end q) xs)) (filter (is_object_of s q.class.0) (filter_map (far_end q) ys))

  ends_last : (start : List Oid) (xs : List Record) (r : Record) (old new : List Oid) → old ≡ ends_within s q start xs → new ≡ ends_within s q old (r ∷ []) → new ≡ ends_within s q start (xs ++ r ∷ [])
  ends_last start xs r old new before is =
      is ∙ ap (λ (d : List Oid). ends_within s q d (r ∷ [])) before
      ∙ sym (ends_joined start (filter (is_within q) xs) (filter (is_within q) (r ∷ [])))
      ∙ ap (ends_of s q start) (sym (filter-append (is_within q) xs (r ∷ [])))

  pub within_more : (start : List Oid) (rs : List Record) (i : ℕ) (r : Record) (old new : List Oid) → i < length rs → r ≡ get_or rs i r
      → old ≡ ends_within s q start (take i rs) → new ≡ ends_within s q old (r ∷ []) → new ≡ ends_within s q start (take (i + 1) rs)
  within_more start rs i r old new l at before is =
      ends_last start (take i rs) r old new before is
      ∙ ap (λ (x : Record). ends_within s q start (take i rs ++ x ∷ [])) at
      ∙ ap (ends_within s q start) (sym (take_more rs i r l))

  -- the records with these numbers, one after another
  pub numbered_more : (start : List Oid) (rs : List Record) (ns : List ℕ) (i : ℕ) (r : Record) (old new : List Oid) → i < length ns → slice_get rs (get_or ns i 0) ≡ Some r
      → old ≡ ends_within s q start (filter_map (slice_get rs) (take i ns)) → new ≡ ends_within s q old (r ∷ []) → new ≡ ends_within s q start (filter_map (slice_get rs) (take (i + 1) ns))
  numbered_more start rs ns i r old new l there before is =
      ends_last start (filter_map (slice_get rs) (take i ns)) r old new before is
      ∙ ap (λ (o : Option Record). ends_within s q start (filter_map (slice_get rs) (take i ns) ++ cons_option o [])) (sym there)
      ∙ ap (ends_within s q start) (sym (filter_map-append (slice_get rs) (take i ns) (get_or ns i 0 ∷ [])))
      ∙ ap (λ (ms : List ℕ). ends_within s q start (filter_map (slice_get rs) ms)) (sym (take_more ns i 0 l))

  -- those whose near end is the source
  pub from_numbered : (o : Oid) (rs : List Record) (ns : List ℕ) (done new : List Oid) → ns ≡ numbers (is_near q o) rs
      → new ≡ ends_within s q done (filter_map (slice_get rs) ns) → new ≡ ends_from s q o done rs
  from_numbered o rs ns done new e is =
      is ∙ ap (λ (ms : List ℕ). ends_within s q done (filter_map (slice_get rs) ms)) e
      ∙ ap (ends_within s q done) (picked (is_near q o) rs)
      ∙ ap (ends_of s q done) (filter_twice (is_near q o) (is_within q) rs)

  -- the records of sources, one after another
  abbrev pub from_all : List Record → List Oid → List Record
  from_all rs os = flat_map (λ o. filter (comes_from q o) rs) os

  pub source_more : (rs : List Record) (os : List Oid) (i : ℕ) (o : Oid) (old new : List Oid) → i < length os → o ≡ get_or os i o
      → old ≡ ends_of s q [] (from_all rs (take i os)) → new ≡ ends_from s q o old rs → new ≡ ends_of s q [] (from_all rs (take (i + 1) os))
  source_more rs os i o old new l at before is =
      is ∙ ap (λ (d : List Oid). ends_from s q o d rs) before
      ∙ sym (ends_joined [] (from_all rs (take i os)) (filter (comes_from q o) rs))
      ∙ ap (λ (l : List Record). ends_of s q [] (from_all rs (take i os) ++ l)) (sym (Rattle.std.proofs.Common.append-nil (filter (comes_from q o) rs)))
      ∙ ap (ends_of s q []) (sym (flat_map-append (λ x. filter (comes_from q x) rs) (take i os) (o ∷ [])))
      ∙ ap (λ (x : Oid). ends_of s q [] (from_all rs (take i os ++ x ∷ []))) at
      ∙ ap (λ (l : List Oid). ends_of s q [] (from_all rs l)) (sym (take_more os i o l))

-- ---- the numbers of mappings

has_more : (ks : List ℕ) (k x : ℕ) → has (with_number ks k) x ≡ (has ks x || (k == x))
has_more ks k x = by (has ks k) refl
  where
    there : (b : Bool) → (k == x) ≡ b → has ks k ≡ true → has ks x ≡ (has ks x || b)
    there true e h = let is : has ks x ≡ true = subst (λ y. has ks y ≡ true) (eqb-true k x e) h in is ∙ sym (or_left (has ks x) true is)
    there false e h = sym (or_false (has ks x))

    by : (b : Bool) → has ks k ≡ b → has (cond b ks (ks ++ k ∷ [])) x ≡ (has ks x || (k == x))
    by true h = there (k == x) refl h
    by false h = has-last ks k x

pub number_more : (ms : List MappingNo) (i : ℕ) (d : MappingNo) (old new : List ℕ) → i < length ms → d ≡ get_or ms i d
    → ((m : ℕ) → has old m ≡ list_any (λ n. n.0 == m) (take i ms)) → new ≡ with_number old d.0 → (m : ℕ) → has new m ≡ list_any (λ n. n.0 == m) (take (i + 1) ms)
number_more ms i d old new l at before is m =
    ap (λ ks. has ks m) is ∙ has_more old d.0 m
    ∙ ap (λ b. b || (d.0 == m)) (before m)
    ∙ ap (λ (x : MappingNo). list_any (λ (n : MappingNo). n.0 == m) (take i ms) || (x.0 == m)) at
    ∙ sym (list_any_more (λ (n : MappingNo). n.0 == m) ms i d l)
