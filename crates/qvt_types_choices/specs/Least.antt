-- A unit that is below each of a list, where there is one: of two units the lower one, from the first to the last.
use Rattle.std.specs.Prelude.{ℕ, Bool, List, [], ◌∷◌, filter, if◌then◌else◌}
use Rattle.qvt_metas.specs.Metamodels.{Metamodels}
use Rattle.qvt_types_units.specs.declared.signature.Signature.{Signature}
use Rattle.qvt_types_units.specs.Choice.{is_below, context_at}

-- the context of the first is that of the second or below it
abbrev pub stands_below : Metamodels → List Signature → ℕ → ℕ → Bool
stands_below m us n k = is_below m (context_at us n) (context_at us k)

abbrev pub lower : Metamodels → List Signature → ℕ → ℕ → ℕ
lower m us n k = if stands_below m us k n then k else n

abbrev pub least_of : Metamodels → List Signature → ℕ → List ℕ → ℕ
least_of m us n [] = n
least_of m us n (k ∷ ks) = least_of m us (lower m us n k) ks

-- those that are below unit n
abbrev pub those_below : Metamodels → List Signature → ℕ → List ℕ → List ℕ
those_below m us n ns = filter (λ k. stands_below m us k n) ns
