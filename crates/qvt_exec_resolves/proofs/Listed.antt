-- The list of a mapping and those that it disjuncts to, as the search has it.
use Rattle.std.proofs.Common.{◌≡◌, ◌∙◌, ℕ, zero, suc, refl, sym, ap, [], ◌∷◌, fold, length}
use Rattle.std.specs.List.{flat_map}
use Rattle.std.proofs.lemmas.List.{length-map}
use Rattle.qvt_types_nodes.specs.Module.{typed_unit_view}
use Rattle.qvt_exec_types.specs.Program.{program_view}
use Rattle.qvt_exec_types.specs.declared.program.Program.{Program}
use Rattle.qvt_meaning.specs.Accepts.{ProgramTerm}
use Rattle.qvt_meaning.specs.Program as meaning
use Rattle.qvt_exec_resolves.specs.Disjuncts.{from, next_of}

same_list : (p : ProgramTerm) (n k : ℕ) → from (next_of p) n k ≡ meaning.listed_from p n k
unfolding next_of
same_list p zero k = refl
same_list p (suc n) k = λ i. k ∷ flat_map (λ j. same_list p n j i) (next_of p k)

pub all_listed : (p : Program) (k : ℕ) → fold meaning.with_number [] (from (next_of (program_view p)) (length p.«module».units) k) ≡ meaning.listed_with (program_view p) k
unfolding meaning.listed_with
all_listed p k =
    ap (fold meaning.with_number []) (same_list (program_view p) (length p.«module».units) k
    ∙ ap (λ n. meaning.listed_from (program_view p) n k) (sym (length-map p.«module».units typed_unit_view)))
