-- What a program that is accepted is, by what judging gives.
use Rattle.std.specs.Prelude.{◌≡◌, [], Ok}
use Rattle.qvt_metas.specs.Metamodels.{Metamodels}
use Rattle.qvt_tree_types.specs.Module.{ModuleTerm}
use Rattle.qvt_types_laws.specs.JoinModule.{joined}
use Rattle.qvt_typing.specs.Accepts.{ProgramTerm, accepts, heads_of, heads_told, judged}

-- the tree joined with its notes, with what its heads declare; and nothing is told, of the heads or of any node
pub record IsJudged (m : Metamodels) (t : ModuleTerm) (p : ProgramTerm) : Type 0 where
  pub heads : p.heads ≡ heads_of m t
  pub tree : p.module_ ≡ joined t (judged (heads_of m t) t).notes
  pub untold : (judged (heads_of m t) t).log ≡ []
  pub heads_untold : heads_told (heads_of m t) t ≡ []

abbrev pub AcceptedIsJudged : Type 0
AcceptedIsJudged = (m : Metamodels) (t : ModuleTerm) (p : ProgramTerm) → accepts m t ≡ Ok p → IsJudged m t p
