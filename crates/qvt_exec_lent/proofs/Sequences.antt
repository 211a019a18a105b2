-- A slot that is a Sequence is its list.
use Rattle.std.proofs.Common.{◌≡◌, ◌∙◌, ◌≤◌, ℕ, Bool, true, false, not, ◌&&◌, nat_lt, if◌then◌else◌, refl, sym, ap, List, length, Some, None, arith}
use Rattle.qvt_base.specs.declared.numbers.Place.{Place}
use Rattle.qvt_metamodel.specs.Metamodels.{shape_of, is_single}
use Rattle.qvt_relation.proofs.Bools.{and_left, and_right}
use Rattle.qvt_store.specs.Contents.{Contents, slot_of}
use Rattle.qvt_value.specs.Limits.{most, is_beyond, limited}
use Rattle.qvt_value.specs.Make.{made}
use Rattle.qvt_value.specs.declared.value.Kind.{Kind}
use Rattle.qvt_value.specs.declared.value.Kind.TheVariants.{Sequence}
use Rattle.qvt_value.specs.declared.value.Value.{Value, Invalid, items_hidden-the_row-Value-0}
use Rattle.qvt_value.specs.declared.value.Value.TheViews.{Coll}
use Rattle.qvt_value.specs.declared.value.Reason.TheVariants.{TooLarge}
use Rattle.qvt_run_rules.specs.Store.{property, slot_value, single, flags_kind}
use Rattle.qvt_exec_lent.specs.Sequences.{IsSequenceOf}

not_true : (b : Bool) → not b ≡ true → b ≡ false
not_true true h = absurd (cc)
not_true false h = refl

no_more : (m n : ℕ) → n ≤ m → nat_lt m n ≡ false
no_more m n h = grind (arith, h)

within : (at : Place) (k : Kind) (vs : List Value) → length vs ≤ most → limited at (Coll k vs) ≡ Coll k vs
unfolding limited
within at k vs h =
    let is : is_beyond (Coll k vs) ≡ false = ap (λ (ws : List Value). nat_lt most (length ws)) (items_hidden-the_row-Value-0 vs) ∙ no_more most (length vs) h in
    ap (λ b. if b then Invalid TooLarge at else Coll k vs) is

-- the value of a slot by its flags
abbrev by_flags : Place → List Value → Bool → Bool → Bool → Value
by_flags at vs one ordered unique = limited at (if one then single vs else Coll (flags_kind ordered unique) (made (flags_kind ordered unique) vs))

pub sequence_is : (at : Place) (s : Contents) (o f : ℕ) (vs : List Value) → IsSequenceOf s o f vs → Some (Coll Sequence vs) ≡ property at s o f
unfolding property
sequence_is at s o f vs h =
    let ordered : (shape_of s.metas f).ordered ≡ true = and_left (shape_of s.metas f).ordered (not (shape_of s.metas f).unique && not (is_single s.metas f)) h.kind in
    let rest : (not (shape_of s.metas f).unique && not (is_single s.metas f)) ≡ true = and_right (shape_of s.metas f).ordered (not (shape_of s.metas f).unique && not (is_single s.metas f)) h.kind in
    let unique : (shape_of s.metas f).unique ≡ false = not_true (shape_of s.metas f).unique (and_left (not (shape_of s.metas f).unique) (not (is_single s.metas f)) rest) in
    let one : is_single s.metas f ≡ false = not_true (is_single s.metas f) (and_right (not (shape_of s.metas f).unique) (not (is_single s.metas f)) rest) in
    sym (ap (λ b. if b then Some (slot_value at s.metas f (slot_of s o f)) else None) h.there
    ∙ ap (λ (ws : List Value). Some (slot_value at s.metas f ws)) (sym h.items)
    ∙ ap (λ b. Some (by_flags at vs b (shape_of s.metas f).ordered (shape_of s.metas f).unique)) one
    ∙ ap (λ b. Some (by_flags at vs false b (shape_of s.metas f).unique)) ordered
    ∙ ap (λ b. Some (by_flags at vs false true b)) unique
    ∙ ap Some (within at Sequence vs h.within))
