-- The objects of a model, as the code finds them.
use Rattle.std.proofs.Common.{◌≡◌, ℕ, zero, suc, ◌+◌, ◌<◌, Bool, true, false, ◌==◌, cond, refl, sym, ap, ◌∙◌, List, [], ◌∷◌, ◌++◌, take, length, get_or, add-one, arith}
use Rattle.std.specs.Prelude.{filter}
use Rattle.qvt_base.specs.declared.numbers.Oid.{Oid}
use Rattle.qvt_store.specs.Contents.{Contents, Instance, extent_of, members_from, members_of, no_instance}
use Rattle.qvt_run_rules.specs.declared.questions.ModelQuery.{ModelQuery}
use Rattle.qvt_run_rules.specs.declared.questions.ModelQuery.TheVariants.{Objects, RootObjects, ObjectsOfType}
use Rattle.qvt_run_rules.specs.Expressions.{model_objects}
use Rattle.qvt_exec_reads.specs.Asked.{is_asked}

all_pass : (os : List Oid) → filter (λ (o : Oid). true) os ≡ os
all_pass [] = refl
all_pass (o ∷ os) = ap (λ l. o ∷ l) (all_pass os)

-- an operation gives the objects of its model that it asks for
pub asked_objects : (s : Contents) (q : ModelQuery) (e : ℕ) → model_objects s q e ≡ filter (is_asked s q) (members_of s e)
asked_objects s Objects e = sym (all_pass (members_of s e))
asked_objects s RootObjects e = refl
asked_objects s (ObjectsOfType c) e = refl

abbrev oid : ℕ → Oid
oid x = record { 0 = x }

members-more : (obs : List Instance) (x i n e : ℕ) (d : Instance) → i < length obs → x + i ≡ n →
    members_from x (take (suc i) obs) e ≡ cond ((get_or obs i d).extent == e) (members_from x (take i obs) e ++ oid n ∷ []) (members_from x (take i obs) e)
members-more [] x i n e d h same = absurd (omega arith)
members-more (o ∷ obs) x zero n e d h same = let here : x ≡ n = omega arith in ap (λ k. cond (o.extent == e) (oid k ∷ []) []) here
members-more (o ∷ obs) x (suc i) n e d h same = ap (λ l. cond (o.extent == e) (oid x ∷ l) l) (members-more obs (suc x) i n e d (omega arith) (omega arith)) ∙ go (o.extent == e) ((get_or obs i d).extent == e)
  where
    go : (a b : Bool) → cond a (oid x ∷ cond b (members_from (suc x) (take i obs) e ++ oid n ∷ []) (members_from (suc x) (take i obs) e)) (cond b (members_from (suc x) (take i obs) e ++ oid n ∷ []) (members_from (suc x) (take i obs) e))
        ≡ cond b (cond a (oid x ∷ members_from (suc x) (take i obs) e) (members_from (suc x) (take i obs) e) ++ oid n ∷ []) (cond a (oid x ∷ members_from (suc x) (take i obs) e) (members_from (suc x) (take i obs) e))
    go true true = refl
    go true false = refl
    go false true = refl
    go false false = refl

-- one more object, as at a step of a loop
pub next_member : (s : Contents) (i e : ℕ) → i < length s.objects → members_from 0 (take (i + 1) s.objects) e ≡ cond (extent_of s i == e) (members_from 0 (take i s.objects) e ++ oid i ∷ []) (members_from 0 (take i s.objects) e)
next_member s i e h = rw add-one (members-more s.objects 0 i i e no_instance h (omega arith))
