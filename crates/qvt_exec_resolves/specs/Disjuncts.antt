-- A search for the mappings that a mapping disjuncts to, through any depth (QVT 1.3, 8.2.1.15). It takes turns, the last that waits first.
use Rattle.std.specs.Prelude.{ℕ, zero, suc, ◌&&◌, List, [], ◌∷◌, ◌++◌, map, reverse, if◌then◌else◌}
use Rattle.std.specs.List.{list_all, flat_map}
use Rattle.qvt_meaning.specs.Accepts.{ProgramTerm}
use Rattle.qvt_meaning.specs.Program.{disjuncts_in, mapping_term, with_number}
use Rattle.qvt_exec_resolves.specs.Numbers.{has}
use Rattle.qvt_exec_resolves.specs.declared.disjuncts.Search.{Search}
use Rattle.qvt_exec_resolves.specs.declared.disjuncts.Turn.{Turn}
use Rattle.qvt_exec_resolves.specs.declared.disjuncts.Turn.TheVariants.{Open, Close}

-- the mappings that a mapping names in its list
unfoldable pub next_of : ProgramTerm → ℕ → List ℕ
next_of p k = disjuncts_in (mapping_term p k)

-- the numbers wait, through fewer than n mappings, the first of them to be taken first
abbrev pub waiting : ℕ → List ℕ → List Turn
waiting n ks = reverse (map (λ k. Open k n) ks)

module _ (next : ℕ → List ℕ) where
  -- a mapping and those that it disjuncts to, through fewer than n mappings, depth first
  abbrev pub from : ℕ → ℕ → List ℕ
  from zero k = []
  from (suc n) k = k ∷ flat_map (from n) (next k)

  abbrev pub opened : Search → ℕ → ℕ → Search
  opened s k zero = s
  opened s k (suc n) = if has s.done k then s else record { listed = with_number s.listed k; done = s.done; turns = (s.turns ++ Close k ∷ []) ++ waiting n (next k) }

  abbrev pub closed : Search → ℕ → Search
  closed s k = if has s.listed k && list_all (has s.done) (next k) then record { listed = s.listed; done = with_number s.done k; turns = s.turns } else s

  abbrev pub taken : Search → Turn → Search
  taken s (Open k n) = opened s k n
  taken s (Close k) = closed s k
