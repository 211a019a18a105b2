-- A unit is the single choice for a class where it is above the class, and each other unit of the name that is above the class is
-- strictly above this one.
use Rattle.std.specs.Prelude.{ℕ, eqb, nat_lt, not, ◌&&◌, Bool, List, [], ◌∷◌, length, Option, Some, None}
use Rattle.std.specs.List.{list_any, range_with_len}
use Rattle.qvt_metas.specs.Metamodels.{Metamodels}
use Rattle.qvt_types_units.specs.declared.signature.Signature.{Signature}
use Rattle.qvt_types_units.specs.Choice.{is_context_above, context_at, candidates}
use Rattle.qvt_types_units.specs.Overrides.{is_strictly_below}
use Rattle.qvt_types_choices.specs.Least.{lower, least_of}

-- another unit that is not strictly above this one
abbrev pub is_rival : Metamodels → List Signature → ℕ → ℕ → Bool
is_rival m us n k = not (eqb n k) && not (is_strictly_below m (context_at us n) (context_at us k))

abbrev pub is_only : Metamodels → List Signature → List ℕ → ℕ → ℕ → Bool
is_only m us ns n c =
    is_context_above m (context_at us n) c
    && not (list_any (λ k. is_rival m us n k && is_context_above m (context_at us k) c) ns)

-- each of the two is a rival of the other: neither is strictly above the other. Two are asked once, in the order of their numbers
abbrev pub are_rivals : Metamodels → List Signature → ℕ → ℕ → Bool
are_rivals m us n k = nat_lt n k && (is_rival m us n k && is_rival m us k n)

-- the two are rivals of each other, and a class is below both
abbrev pub is_contested : Metamodels → List Signature → ℕ → ℕ → Bool
is_contested m us n k =
    are_rivals m us n k
    && list_any (λ d. is_context_above m (context_at us n) d && is_context_above m (context_at us k) d) (range_with_len 0 (length m.classes))

-- of the units the lowest one, from the first to the last
abbrev pub least : Metamodels → List Signature → List ℕ → Option ℕ
least m us [] = None
least m us (n ∷ ns) = Some (least_of m us n ns)

-- of those that are above the class
abbrev pub least_above : Metamodels → List Signature → List ℕ → ℕ → Option ℕ
least_above m us ns c = least m us (candidates m us ns c)

-- of a unit that may be there and another the lower
abbrev pub lower_of : Metamodels → List Signature → Option ℕ → ℕ → ℕ
lower_of m us None k = k
lower_of m us (Some n) k = lower m us n k

-- the same where the ones before have this as the lowest
abbrev pub least_from : Metamodels → List Signature → Option ℕ → List ℕ → Option ℕ
least_from m us None ns = least m us ns
least_from m us (Some n) ns = Some (least_of m us n ns)
