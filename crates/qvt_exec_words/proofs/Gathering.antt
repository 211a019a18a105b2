-- Steps of gathering the items of a literal.
use Rattle.std.proofs.Common.{◌≡◌, ◌∙◌, ℕ, zero, suc, ◌+◌, ◌*◌, ◌<◌, ◌≤◌, Bool, true, false, cond, refl, sym, ap, subst, List, [], ◌∷◌, ◌++◌, length, arith}
use Rattle.std.specs.Prelude.{Option, Some, None, Result, Ok, Err, OnOk, MatchOption, nat_lt}
use Rattle.std.specs.List.{find}
use Rattle.std.specs.Option.{option_or}
use Rattle.std.proofs.lemmas.Bool.{ltb-true, ltb-false}
use Rattle.std.proofs.lemmas.List.Folds.{find-append}
use Rattle.qvt_base.specs.declared.numbers.Place.{Place}
use Rattle.qvt_value.specs.declared.value.Value.{Value, Invalid}
use Rattle.qvt_value.specs.declared.value.Kind.{Kind}
use Rattle.qvt_value.specs.declared.value.Reason.TheVariants.{TooLarge}
use Rattle.qvt_value.specs.Kept.{firsts}
use Rattle.qvt_value.specs.Limits.{most}
use Rattle.qvt_value.specs.Make.{is_invalid}
use Rattle.qvt_value.specs.Order.{order_of}
use Rattle.qvt_ocl_words.specs.Collections.{is_once}
use Rattle.qvt_run_rules.specs.Expressions.{collection}
use Rattle.qvt_run_rules.specs.Logic.{value_or}
use Rattle.qvt_exec_words.specs.declared.literals.Gathered.{Gathered}
use Rattle.qvt_exec_words.specs.Gathered.{kept_of, IsKeptOf, AreGathered, AreAllHeld, HasMore}
use Rattle.qvt_exec_words.proofs.KeptOf.{kept_onto, kept_longer, kept_of_firsts, kept_of_list, kept_of_set, find_firsts, same_collection, large_collection}

pub none_yet : (k : Kind) → AreGathered k [] (record { kind = k; items = []; is_full = false })
none_yet k = record { same_kind = refl; invalid = refl; kept = (refl, omega arith) }

found : (xs ys zs : List Value) → find is_invalid xs ≡ find is_invalid ys → find is_invalid (xs ++ zs) ≡ find is_invalid (ys ++ zs)
found xs ys zs h =
    find-append is_invalid xs zs ∙ ap (λ o. option_or o (find is_invalid zs)) h ∙ sym (find-append is_invalid ys zs)

or_none : {A : Type 0} → (o : Option A) → option_or o None ≡ o
or_none None = refl
or_none (Some a) = refl

-- items behind that are all valid
found_first : (xs zs : List Value) → find is_invalid zs ≡ None → find is_invalid (xs ++ zs) ≡ find is_invalid xs
found_first xs zs h =
    find-append is_invalid xs zs ∙ ap (option_or (find is_invalid xs)) h ∙ or_none (find is_invalid xs)

abbrev with_items : Gathered → List Value → Gathered
with_items g xs = record g { items = xs }

kept_few : (b : Bool) (k : Kind) (xs all : List Value) → b ≡ false → IsKeptOf b k xs all → kept_of k xs ≡ kept_of k all
kept_few true k xs all e h = cc
kept_few false k xs all e h = h.0

kept_many : (b : Bool) (k : Kind) (xs all : List Value) → b ≡ true → IsKeptOf b k xs all → most < length (kept_of k all)
kept_many true k xs all e h = h
kept_many false k xs all e h = cc

is_many : (b : Bool) (k : Kind) (xs all : List Value) → b ≡ true → most < length (kept_of k all) → IsKeptOf b k xs all
is_many true k xs all e h = h
is_many false k xs all e h = cc

-- one more, where there is room
pub put : (g : Gathered) (k : Kind) (all : List Value) (v : Value) → AreGathered k all g → g.is_full ≡ false → AreAllHeld k (all ++ v ∷ []) (with_items g (g.items ++ v ∷ []))
put g k all v a e = record {
  same_kind = a.same_kind;
  not_full = e;
  invalid = found g.items all (v ∷ []) a.invalid;
  kept = kept_onto k g.items all (v ∷ []) (kept_few g.is_full k g.items all e a.kept);
}

-- items that are valid, where there is none
pub passed : (g : Gathered) (k : Kind) (all zs : List Value) → AreGathered k all g → g.is_full ≡ true → find is_invalid zs ≡ None → AreGathered k (all ++ zs) g
passed g k all zs a e n = record {
  same_kind = a.same_kind;
  invalid = a.invalid ∙ sym (found_first all zs n);
  kept = is_many g.is_full k g.items (all ++ zs) e (omega (arith, kept_longer k all zs, kept_many g.is_full k g.items all e a.kept));
}

pub passed_one : (g : Gathered) (k : Kind) (all : List Value) (v : Value) → AreGathered k all g → g.is_full ≡ true → is_invalid v ≡ false → AreGathered k (all ++ v ∷ []) g
passed_one g k all v a e n = passed g k all (v ∷ []) a e (ap (λ b. cond b (Some v) None) n)

-- one that is invalid, where there is none
pub put_behind : (g : Gathered) (k : Kind) (all : List Value) (v : Value) → AreGathered k all g → g.is_full ≡ true → AreGathered k (all ++ v ∷ []) (with_items g (g.items ++ v ∷ []))
put_behind g k all v a e = record {
  same_kind = a.same_kind;
  invalid = found g.items all (v ∷ []) a.invalid;
  kept = is_many g.is_full k (g.items ++ v ∷ []) (all ++ v ∷ []) e (omega (arith, kept_longer k all (v ∷ []), kept_many g.is_full k g.items all e a.kept));
}

-- ---- how many are held

abbrev seen_full : Gathered → Gathered
seen_full g = record g { is_full = nat_lt most (length g.items) }

counted : (b : Bool) (k : Kind) (xs all : List Value) → nat_lt most (length xs) ≡ b → kept_of k xs ≡ kept_of k all → kept_of k xs ≡ xs → IsKeptOf b k xs all
counted true k xs all t h e = let many : most < length xs = ltb-true most (length xs) t in omega (arith, many, ap length h, ap length e)
counted false k xs all t h e = let few : length xs ≤ most = ltb-false most (length xs) t in (h, omega (arith, few))

pub seen_list : (g : Gathered) (k : Kind) (all : List Value) → is_once g.kind ≡ false → AreAllHeld k all g → AreGathered k all (seen_full g)
seen_list g k all o a = record {
  same_kind = a.same_kind;
  invalid = a.invalid;
  kept = counted (nat_lt most (length g.items)) k g.items all refl a.kept (kept_of_list k g.items (ap is_once (sym a.same_kind) ∙ o));
}

pub seen_firsts : (g : Gathered) (k : Kind) (all : List Value) → is_once g.kind ≡ true → AreAllHeld k all g → AreGathered k all (seen_full (with_items g (firsts order_of g.items)))
seen_firsts g k all o a =
    let once : is_once k ≡ true = ap is_once (sym a.same_kind) ∙ o in
    record {
      same_kind = a.same_kind;
      invalid = find_firsts g.items ∙ a.invalid;
      kept =
          counted (nat_lt most (length (firsts order_of g.items))) k (firsts order_of g.items) all refl
          (kept_of_firsts k g.items once ∙ a.kept) (kept_of_firsts k g.items once ∙ kept_of_set k g.items once);
    }

pub few_held : (g : Gathered) (k : Kind) (all : List Value) → length g.items ≤ 2 * most → AreAllHeld k all g → AreGathered k all g
few_held g k all l a = record {
  same_kind = a.same_kind;
  invalid = a.invalid;
  kept = subst (λ b. IsKeptOf b k g.items all) (sym a.not_full) (a.kept, l);
}

-- ---- the collection

pub collected : (at : Place) (g : Gathered) (k : Kind) (all : List Value) → AreGathered k all g → g.is_full ≡ false → collection at g.kind g.items ≡ collection at k all
collected at g k all a e =
    ap (λ l. collection at l g.items) a.same_kind
    ∙ same_collection at k g.items all a.invalid (kept_few g.is_full k g.items all e a.kept)

pub too_many : (at : Place) (g : Gathered) (k : Kind) (all : List Value) → AreGathered k all g → g.is_full ≡ true → value_or (find is_invalid g.items) (Invalid TooLarge at) ≡ collection at k all
too_many at g k all a e =
    ap (λ o. value_or o (Invalid TooLarge at)) a.invalid
    ∙ sym (large_collection at k all (kept_many g.is_full k g.items all e a.kept))

-- ---- at the returns

pub settled_firsts : (g h : Gathered) (n : ℕ) (k : Kind) (all : List Value) → is_once g.kind ≡ true → h ≡ with_items g (firsts order_of g.items) → n ≡ length h.items → AreAllHeld k all g
    → AreGathered k all (record { kind = h.kind; items = h.items; is_full = nat_lt most n })
settled_firsts g h n k all o e l a =
    let m : nat_lt most (length (firsts order_of g.items)) ≡ nat_lt most n = ap (nat_lt most) (ap (λ (f : Gathered). length f.items) (sym e) ∙ sym l) in
    subst (λ (f : Gathered). AreGathered k all f) (λ i. record { kind = (sym e i).kind; items = (sym e i).items; is_full = m i }) (seen_firsts g k all o a)

pub pushed : {A E : Type 0} (r : Result A E) (g p h : Gathered) (v : Value) → g.is_full ≡ false → p ≡ with_items g (g.items ++ v ∷ []) → OnOk r ((k : Kind) (all : List Value) → AreAllHeld k all p → AreGathered k all h)
    → OnOk r (HasMore (v ∷ []) g h)
pushed (Ok x) g p h v e q s = λ k all a. s k (all ++ v ∷ []) (subst (λ (f : Gathered). AreAllHeld k (all ++ v ∷ []) f) (sym q) (put g k all v a e))
pushed (Err x) g p h v e q s = tt

pub pushed_behind : {A E : Type 0} (r : Result A E) (g h : Gathered) (v : Value) → g.is_full ≡ true → OnOk r (h ≡ with_items g (g.items ++ v ∷ [])) → OnOk r (HasMore (v ∷ []) g h)
pushed_behind (Ok x) g h v e q = λ k all a. subst (λ (f : Gathered). AreGathered k (all ++ v ∷ []) f) (sym q) (put_behind g k all v a e)
pushed_behind (Err x) g h v e q = tt

pub ranged : (o : Option (List Value)) (xs : List Value) (g h : Gathered) → Some xs ≡ o → HasMore xs g h → MatchOption o (true ≡ false) (λ items. (true ≡ true) × HasMore items g h)
ranged None xs g h e m = cc
ranged (Some ys) xs g h e m = let same : xs ≡ ys = cc in (refl, subst (λ (zs : List Value). HasMore zs g h) same m)

pub not_ranged : (o : Option (List Value)) (g h : Gathered) → None ≡ o → MatchOption o (false ≡ false) (λ items. (false ≡ true) × HasMore items g h)
not_ranged None g h e = refl
not_ranged (Some ys) g h e = cc
