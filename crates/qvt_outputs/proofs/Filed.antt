-- Files planned one after the other.
use Rattle.std.proofs.Common.{◌≡◌, ◌∙◌, ap, sym, refl, subst, ℕ, ◌<◌, ◌+◌, List, [], ◌∷◌, ◌++◌, map, take, length, get_or}
use Rattle.std.specs.List.{AllByRecursion}
use Rattle.std.proofs.lemmas.List.{map_more}
use Rattle.qvt_store.specs.Contents.{Contents}
use Rattle.qvt_outcome.specs.Outcome.{write_fault_line}
use Rattle.qvt_outcome.specs.Plans.{file_of, files_in, HaveFaultLines}
use Rattle.qvt_outcome.specs.declared.plan.Output.{Output}
use Rattle.qvt_job.specs.declared.job.JobModel.{JobModel}
use Rattle.qvt_outputs.specs.Left.{model_file}

files_push : (outputs : List Output) (o : Output) → files_in (outputs ++ o ∷ []) ≡ files_in outputs ++ file_of o ∷ []
files_push [] o = refl
files_push (x ∷ xs) o = ap (λ fs. file_of x ∷ fs) (files_push xs o)

-- the file of the next output
pub one_file : (s : Contents) (models : List JobModel) (i : ℕ) (m : JobModel) (outputs next : List Output) (o : Output) → i < length models → m ≡ get_or models i m
    → file_of o ≡ model_file s m → next ≡ outputs ++ o ∷ [] → files_in outputs ≡ map (model_file s) (take i models) → files_in next ≡ map (model_file s) (take (i + 1) models)
one_file s models i m outputs next o within is file pushed so_far =
    ap files_in pushed ∙ files_push outputs o ∙ (λ j. so_far j ++ file j ∷ []) ∙ ap (λ x. map (model_file s) (take i models) ++ model_file s x ∷ []) is
    ∙ sym (map_more (model_file s) models i m within)

all_push : (P : Output → Type 0) (outputs : List Output) (o : Output) → AllByRecursion P outputs → P o → AllByRecursion P (outputs ++ o ∷ [])
all_push P [] o h p = (p, tt)
all_push P (x ∷ xs) o h p = (h.0, all_push P xs o h.1 p)

pub one_ready : (outputs next : List Output) (o : Output) → next ≡ outputs ++ o ∷ [] → HaveFaultLines outputs → o.fault_line ≡ write_fault_line o.file → HaveFaultLines next
one_ready outputs next o pushed ready line = subst HaveFaultLines (sym pushed) (all_push (λ o. o.fault_line ≡ write_fault_line o.file) outputs o ready line)
