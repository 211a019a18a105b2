-- Keys that are equal by value, and the records that a list has for them.
use Rattle.std.proofs.Common.{◌≡◌, ◌∙◌, ℕ, Bool, true, false, cond, not, ◌&&◌, ◌||◌, ◌==◌, refl, sym, ap, subst, List, [], ◌∷◌, ◌++◌, map, Option, Some, None, arith}
use Rattle.std.specs.List.{list_any}
use Rattle.std.specs.Option.{is_some}
use Rattle.std.specs.Ordering.{is_eq}
use Rattle.std.specs.declared.cmp.Ordering.{Ordering}
use Rattle.std.specs.declared.cmp.Ordering.TheVariants.{Less, Equal, Greater}
use Rattle.std.proofs.lemmas.Bool.Decides.{nat_tests}
use Rattle.std.proofs.lemmas.List.{map-append}
use Rattle.std.proofs.lemmas.List.Elements.{filter-append}
use Rattle.std.proofs.lemmas.List.Folds.{list_any-append}
use Rattle.qvt_repeats.specs.Repeats.{repeats_by}
use Rattle.qvt_repeats.proofs.Repeating.{repeats-last}
use Rattle.qvt_base.specs.declared.numbers.Oid.{Oid}
use Rattle.qvt_value.specs.declared.value.Value.{Value}
use Rattle.qvt_value.specs.Order.{order_of}
use Rattle.qvt_value.proofs.OrderOfValues.{exact, itself}
use Rattle.qvt_ocl_words.specs.Lists.{same}
use Rattle.qvt_run_data.specs.declared.record.Key.{Key}
use Rattle.qvt_run_data.specs.declared.record.Record.{Record}
use Rattle.qvt_run_rules.specs.Trace.{same_end, same_values, same_key, key_of, result_for, has_key}
use Rattle.qvt_meaning.specs.Laws.{keys_differ}
use Rattle.qvt_run_laws.specs.Records.{records_of, OneStays}

both_true : (a b : Bool) → (a && b) ≡ true → (a ≡ true) × (b ≡ true)
both_true true true h = (refl, refl)
both_true true false h = absurd (cc)
both_true false b h = absurd (cc)

and_true : (a b : Bool) → a ≡ true → b ≡ true → (a && b) ≡ true
and_true true b h k = k
and_true false b h k = absurd (cc)

-- Keys that the test calls equal are equal.

nat_same : (a b : ℕ) → (a == b) ≡ true → a ≡ b
nat_same a b h = grind (arith, nat_tests)

nat_self : (a : ℕ) → (a == a) ≡ true
nat_self a = grind (arith, nat_tests)

equal_is : (r : Ordering) → is_eq r ≡ true → r ≡ Equal
equal_is Less h = absurd (cc)
equal_is Equal h = refl
equal_is Greater h = absurd (cc)

value_same : (v w : Value) → same v w ≡ true → v ≡ w
value_same v w h = exact v w (equal_is (order_of v w) h)

value_self : (v : Value) → same v v ≡ true
value_self v = ap is_eq (itself v)

values_same : (vs ws : List Value) → same_values vs ws ≡ true → vs ≡ ws
values_same [] [] h = refl
values_same [] (w ∷ ws) h = absurd (cc)
values_same (v ∷ vs) [] h = absurd (cc)
values_same (v ∷ vs) (w ∷ ws) h = let z = both_true (same v w) (same_values vs ws) h in λ i. value_same v w z.0 i ∷ values_same vs ws z.1 i

values_self : (vs : List Value) → same_values vs vs ≡ true
values_self [] = refl
values_self (v ∷ vs) = and_true (same v v) (same_values vs vs) (value_self v) (values_self vs)

end_same : (a b : Option Oid) → same_end a b ≡ true → a ≡ b
end_same None None h = refl
end_same None (Some b) h = absurd (cc)
end_same (Some a) None h = absurd (cc)
end_same (Some a) (Some b) h = let e : a.0 ≡ b.0 = nat_same a.0 b.0 h in λ i. Some (record { 0 = e i })

end_self : (a : Option Oid) → same_end a a ≡ true
end_self None = refl
end_self (Some a) = nat_self a.0

pub key_same : (a b : Key) → same_key a b ≡ true → a ≡ b
unfolding same_key
key_same a b h =
    let z = both_true (a.mapping.0 == b.mapping.0) (same_end a.context b.context && same_values a.args b.args) h in
    let w = both_true (same_end a.context b.context) (same_values a.args b.args) z.1 in
    let m : a.mapping.0 ≡ b.mapping.0 = nat_same a.mapping.0 b.mapping.0 z.0 in
    let c : a.context ≡ b.context = end_same a.context b.context w.0 in
    let vs : a.args ≡ b.args = values_same a.args b.args w.1 in
    λ i. record { mapping = record { 0 = m i }; context = c i; args = vs i }

pub key_self : (a : Key) → same_key a a ≡ true
unfolding same_key
key_self a = and_true (a.mapping.0 == a.mapping.0) (same_end a.context a.context && same_values a.args a.args) (nat_self a.mapping.0)
    (and_true (same_end a.context a.context) (same_values a.args a.args) (end_self a.context) (values_self a.args))

key_flip : (a b : Key) → same_key a b ≡ same_key b a
key_flip a b = by (same_key a b) (same_key b a) refl refl
  where
    by : (s t : Bool) → same_key a b ≡ s → same_key b a ≡ t → s ≡ t
    by true true e h = refl
    by true false e h = sym (key_self b) ∙ ap (same_key b) (sym (key_same a b e)) ∙ h
    by false true e h = sym e ∙ ap (same_key a) (key_same b a h) ∙ key_self a
    by false false e h = refl

-- A record more.

passed : (b : Bool) (v : Option Oid) (o p : Option (Option Oid)) → cond b (Some v) o ≡ None → (o ≡ None → p ≡ None) → cond b (Some v) p ≡ None
passed true v o p h k = absurd (cc)
passed false v o p h k = k h

pub result_more : (k : Key) (rs : List Record) (r : Record) → result_for k rs ≡ None → same_key (key_of r) k ≡ false → result_for k (rs ++ r ∷ []) ≡ None
result_more k [] r h e = ap (λ b. cond b (Some r.result) None) e
result_more k (x ∷ rs) r h e = passed (same_key (key_of x) k) x.result (result_for k rs) (result_for k (rs ++ r ∷ [])) h (λ q. result_more k rs r q e)

-- where a key has no record, no record has that key
other : (b : Bool) (v : Option Oid) (o : Option (Option Oid)) → cond b (Some v) o ≡ None → (b ≡ false) × (o ≡ None)
other true v o h = absurd (cc)
other false v o h = (refl, h)

none_of : (o : Option (Option Oid)) → not (is_some o) ≡ true → o ≡ None
none_of None h = refl
none_of (Some r) h = absurd (cc)

-- a key is among those of the records where they have a result for it
among_keys : (k : Key) (rs : List Record) → list_any (same_key k) (map key_of rs) ≡ is_some (result_for k rs)
among_keys k [] = refl
among_keys k (r ∷ rs) = ap (λ b. b || list_any (same_key k) (map key_of rs)) (key_flip k (key_of r)) ∙ by (same_key (key_of r) k) (among_keys k rs)
  where
    by : (b : Bool) → list_any (same_key k) (map key_of rs) ≡ is_some (result_for k rs) → (b || list_any (same_key k) (map key_of rs)) ≡ is_some (cond b (Some r.result) (result_for k rs))
    by true rest = refl
    by false rest = rest

pub differ_more : (rs : List Record) (r : Record) → keys_differ rs ≡ true → result_for (key_of r) rs ≡ None → keys_differ (rs ++ r ∷ []) ≡ true
differ_more rs r d h =
    ap (λ ks. not (repeats_by same_key ks)) (map-append key_of rs (r ∷ []))
    ∙ ap not (repeats-last same_key key_flip (map key_of rs) (key_of r))
    ∙ ap (λ b. not (b || repeats_by same_key (map key_of rs))) (among_keys (key_of r) rs ∙ ap is_some h) ∙ d

-- the key of the first has no other record, and those of the others differ
first_differs : (r : Record) (rs : List Record) → keys_differ (r ∷ rs) ≡ true → (result_for (key_of r) rs ≡ None) × (keys_differ rs ≡ true)
first_differs r rs d = by (list_any (same_key (key_of r)) (map key_of rs)) (among_keys (key_of r) rs) d
  where
    by : (b : Bool) → b ≡ is_some (result_for (key_of r) rs) → not (b || repeats_by same_key (map key_of rs)) ≡ true → (result_for (key_of r) rs ≡ None) × (keys_differ rs ≡ true)
    by true e h = absurd (cc)
    by false e h = (none_of (result_for (key_of r) rs) (ap not (sym e)), h)

-- Keys that are open.

or_cases : (a b c : Bool) → (a || (b || c)) ≡ true → c ≡ false → a ≡ false → b ≡ true
or_cases false true c h e n = refl
or_cases false false c h e n = absurd (cc)
or_cases true b c h e n = absurd (cc)

or_left : (a b : Bool) → a ≡ true → (a || b) ≡ true
or_left true b h = refl
or_left false b h = absurd (cc)

or_right : (a b : Bool) → b ≡ true → (a || (b || false)) ≡ true
or_right true b h = refl
or_right false true h = refl
or_right false false h = absurd (cc)

-- a key among those that are open is the last, or was there before
pub key_last : (ks : List Key) (k j : Key) → has_key (ks ++ k ∷ []) j ≡ true → has_key ks j ≡ false → same_key k j ≡ true
key_last ks k j h n = or_cases (has_key ks j) (same_key k j) false (sym (list_any-append (λ x. same_key x j) ks (k ∷ [])) ∙ h) refl n

pub key_before : (ks : List Key) (k j : Key) → has_key ks j ≡ true → has_key (ks ++ k ∷ []) j ≡ true
key_before ks k j h = list_any-append (λ x. same_key x j) ks (k ∷ []) ∙ or_left (has_key ks j) (list_any (λ x. same_key x j) (k ∷ [])) h

pub key_itself : (ks : List Key) (k : Key) → has_key (ks ++ k ∷ []) k ≡ true
key_itself ks k = list_any-append (λ x. same_key x k) ks (k ∷ []) ∙ or_right (has_key ks k) (same_key k k) (key_self k)

-- a key that is open is not one that is not
pub key_apart : (ks : List Key) (k j : Key) (t : Bool) → same_key k j ≡ t → has_key ks j ≡ true → has_key ks k ≡ false → same_key k j ≡ false
key_apart ks k j true e h n = let q : k ≡ j = key_same k j e in let r : has_key ks k ≡ has_key ks j = ap (has_key ks) q in absurd (cc)
key_apart ks k j false e h n = e

-- The records of a key.

pub no_records : (k : Key) (rs : List Record) → result_for k rs ≡ None → records_of k rs ≡ []
no_records k [] h = refl
no_records k (r ∷ rs) h =
    let w = other (same_key (key_of r) k) r.result (result_for k rs) h in
    ap (λ b. cond b (r ∷ records_of k rs) (records_of k rs)) w.0 ∙ no_records k rs w.1

-- one record more, of the key, that had none
pub first_record : (k : Key) (rs : List Record) (r : Record) → key_of r ≡ k → result_for k rs ≡ None → records_of k (rs ++ r ∷ []) ≡ r ∷ []
first_record k rs r e h =
    let is : same_key (key_of r) k ≡ true = ap (λ j. same_key j k) e ∙ key_self k in
    filter-append (λ x. same_key (key_of x) k) rs (r ∷ []) ∙ ap (λ xs. xs ++ records_of k (r ∷ [])) (no_records k rs h) ∙ ap (λ b. cond b (r ∷ []) []) is

abbrev results : List Record → List (Option Oid)
results rs = map (λ (r : Record). r.result) rs

abbrev result_in : Option (Option Oid) → Option Oid
result_in None = None
result_in (Some r) = r

known_step : (k : Key) (r : Record) (rs : List Record) (v : Option Oid) (b : Bool) → same_key (key_of r) k ≡ b → result_for (key_of r) rs ≡ None → cond b (Some r.result) (result_for k rs) ≡ Some v
    → (result_for k rs ≡ Some v → results (records_of k rs) ≡ v ∷ []) → results (cond b (r ∷ records_of k rs) (records_of k rs)) ≡ v ∷ []
known_step k r rs v true e n h more =
    let here : r.result ≡ v = ap result_in h in
    let none : records_of k rs ≡ [] = no_records k rs (subst (λ j. result_for j rs ≡ None) (key_same (key_of r) k e) n) in
    λ i. here i ∷ results (none i)
known_step k r rs v false e n h more = more h

-- the result that the list has for a key is that of its one record
pub known : (k : Key) (rs : List Record) (v : Option Oid) → keys_differ rs ≡ true → result_for k rs ≡ Some v → results (records_of k rs) ≡ v ∷ []
known k [] v d h = absurd (cc)
known k (r ∷ rs) v d h =
    let z = first_differs r rs d in
    known_step k r rs v (same_key (key_of r) k) refl z.0 h (λ e. known k rs v z.1 e)

empty_list : (rs : List Record) → results rs ≡ [] → rs ≡ []
empty_list [] h = refl
empty_list (r ∷ rs) h = absurd (cc)

abbrev rest_of : List (Option Oid) → List (Option Oid)
rest_of [] = []
rest_of (r ∷ rs) = rs

stays_by : (rs more : List Record) (k : Key) (r : Record) (o : Option (Option Oid)) → result_for k (rs ++ more) ≡ o → keys_differ (rs ++ more) ≡ true → records_of k (rs ++ more) ≡ r ∷ records_of k more
    → records_of k (rs ++ more) ≡ r ∷ []
stays_by rs more k r None e d joined = let none : [] ≡ r ∷ records_of k more = sym (no_records k (rs ++ more) e) ∙ joined in absurd (cc)
stays_by rs more k r (Some v) e d joined =
    let one : r.result ∷ results (records_of k more) ≡ v ∷ [] = sym (ap results joined) ∙ known k (rs ++ more) v d e in
    joined ∙ ap (λ xs. r ∷ xs) (empty_list (records_of k more) (ap rest_of one))

pub one_stays : OneStays
one_stays rs more k r d h =
    stays_by rs more k r (result_for k (rs ++ more)) refl d (filter-append (λ x. same_key (key_of x) k) rs more ∙ ap (λ xs. xs ++ records_of k more) h)

-- so does its result
single : (rs more : List Record) (k : Key) (v : Option Oid) (own : List Record) → records_of k rs ≡ own → results own ≡ v ∷ [] → keys_differ (rs ++ more) ≡ true → results (records_of k (rs ++ more)) ≡ v ∷ []
single rs more k v [] is h d = absurd (cc)
single rs more k v (r ∷ own) is h d =
    let none : own ≡ [] = empty_list own (ap rest_of h) in
    let same : r.result ≡ v = cc in
    let one : records_of k (rs ++ more) ≡ r ∷ [] = one_stays rs more k r d (is ∙ ap (λ xs. r ∷ xs) none) in
    ap results one ∙ (λ i. same i ∷ [])

pub result_stays : (rs more : List Record) (k : Key) (v : Option Oid) → results (records_of k rs) ≡ v ∷ [] → keys_differ (rs ++ more) ≡ true → results (records_of k (rs ++ more)) ≡ v ∷ []
result_stays rs more k v h d = single rs more k v (records_of k rs) refl h d
