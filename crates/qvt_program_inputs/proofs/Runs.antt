-- The inputs of a job can be loaded.
use Rattle.std.proofs.Common.{◌≡◌, ◌≢◌, ◌∙◌, refl, sym, ap, subst, ℕ, ◌+◌, ◌<◌, true, false, List, [], ◌∷◌, length, inl, inr, arith, length-append}
use Rattle.std.specs.Prelude.{slice_index_or}
use Rattle.std.specs.List.{list_any, AllByRecursion}
use Rattle.std.specs.Str.{bytes_eq}
use Rattle.std.proofs.lemmas.Bool.{ltb-true, cases_lt}
use Rattle.std.proofs.lemmas.List.{length-map}
use Rattle.qvt_metamodel.specs.Metamodels.{Metamodels}
use Rattle.qvt_metamodel.specs.Extended.{unnamed}
use Rattle.qvt_metamodel.specs.Named.{metamodel_at, nowhere_metamodel}
use Rattle.qvt_tree_types.specs.Module.{ModuleTerm}
use Rattle.qvt_tree_types.specs.declared.module.ModelParam.{ModelParam}
use Rattle.qvt_types_paths.specs.declared.models.ModelRow.{ModelRow}
use Rattle.qvt_store.specs.declared.extent.Extent.{Extent}
use Rattle.qvt_store.specs.Contents.{AreNamed, is_named, no_extent}
use Rattle.qvt_typing.specs.Accepts.{ProgramTerm}
use Rattle.qvt_types_program.specs.Extents.{row_at, model_extent, extents_from, intermediate_extent, extents}
use Rattle.qvt_types_program.specs.Program.{model_metamodel}
use Rattle.qvt_program_laws.specs.Models.{HasModels, ModelsAreDeclared}
use Rattle.qvt_job.specs.Parameters.{is_parameter}
use Rattle.qvt_job.specs.Served.{IsOnly, InputsAreApart, ParametersHaveNames}
use Rattle.qvt_job.specs.declared.job.Job.{Job}
use Rattle.qvt_job.specs.declared.job.JobModel.{JobModel}
use Rattle.qvt_inputs.specs.Inputs.{HaveExtents}
use Rattle.qvt_inputs.proofs.Apart.{IsAlone, have_extents}
use Rattle.qvt_program_inputs.specs.Start.{start_of}
use Rattle.qvt_program_inputs.specs.Law.{AreAllNamed, JobCanLoad}
use Rattle.qvt_program_inputs.proofs.Named.{count, front, last_at, front_at, each_at, is_named_of, names_named, any_name, among_front}

module _ (m : Metamodels) (t : ModuleTerm) (p : ProgramTerm) (h : HasModels m t p) where
  abbrev rows : List ModelRow
  rows = p.heads.models.rows

  abbrev names : List (List ℕ)
  names = p.heads.models.names

  many : length names ≡ length t.params
  many = ap length h.names ∙ length-map t.params (λ (x : ModelParam). x.name)

  metas_count : length p.heads.metas.metamodels ≡ length m.metamodels + 1
  metas_count = ap length h.metamodels ∙ length-append m.metamodels (unnamed ∷ [])

  extents_count : length (extents p) ≡ length t.params + 1
  extents_count = length-append (extents_from rows 0 names) _ ∙ ap (λ n. n + 1) (count rows 0 names ∙ many)

  -- the extent of a model
  model : (e : ℕ) → e < length t.params → slice_index_or (extents p) e no_extent ≡ model_extent (slice_index_or names e []) (row_at rows e)
  model e l = front rows 0 names (intermediate_extent (length p.heads.metas.metamodels)) e (subst (λ n. e < n) (sym many) l)
      ∙ ap (λ k. model_extent (slice_index_or names e []) (row_at rows k)) (omega arith)

  model_known : (e : ℕ) → e < length t.params → (slice_index_or (extents p) e no_extent).metamodel ≡ model_metamodel p e
  model_known e l = ap (λ (x : Extent). x.metamodel) (model e l)

  -- that of intermediate instances
  last : (e : ℕ) → e ≡ length t.params → slice_index_or (extents p) e no_extent ≡ intermediate_extent (length p.heads.metas.metamodels)
  last e l = last_at (extents_from rows 0 names) _ no_extent e (l ∙ sym (count rows 0 names ∙ many))

  last_known : (e : ℕ) → e ≡ length t.params → (slice_index_or (extents p) e no_extent).metamodel ≡ length m.metamodels
  last_known e l = ap (λ (x : Extent). x.metamodel) (last e l) ∙ (let n = metas_count in omega (arith, n))

  -- each has a metamodel that is there
  live : (e : ℕ) → e < length (extents p) → (slice_index_or (extents p) e no_extent).metamodel < length p.heads.metas.metamodels
  live e l = elim (cases_lt e (length t.params)) [
    | inl before ↦ (let a = model_known e before in let b = (h.known e before).given in let n = metas_count in omega (arith, a, b, n))
    | inr past ↦ (let c = extents_count in let a = last_known e (omega (arith, l, past, c)) in let n = metas_count in omega (arith, a, n))
  ]

  named_param : AllByRecursion (λ (x : ModelParam). x.name ≢ []) t.params → (e : ℕ) → e < length t.params → is_named (slice_index_or names e []) ≡ true
  named_param all e l = subst (λ (ns : List (List ℕ)). is_named (slice_index_or ns e []) ≡ true) (sym h.names) (names_named t.params all e l)

  named_meta : AreAllNamed m → (k : ℕ) → k < length m.metamodels → is_named (metamodel_at p.heads.metas k).name ≡ true
  named_meta all k l = is_named_of _ (subst (λ (n : List ℕ). n ≢ []) (sym (ap (λ i. i.name) (ap (λ ms. slice_index_or ms k nowhere_metamodel) h.metamodels ∙ front_at m.metamodels (unnamed ∷ []) nowhere_metamodel k l)))
      (each_at (λ i. i.name ≢ []) m.metamodels nowhere_metamodel k all l))

  unnamed_meta : is_named (metamodel_at p.heads.metas (length m.metamodels)).name ≡ false
  unnamed_meta = ap (λ i. is_named i.name) (ap (λ ms. slice_index_or ms (length m.metamodels) nowhere_metamodel) h.metamodels ∙ last_at m.metamodels unnamed nowhere_metamodel (length m.metamodels) refl)

  pub are_named : AreAllNamed m → AllByRecursion (λ (x : ModelParam). x.name ≢ []) t.params → AreNamed p.heads.metas (extents p)
  are_named metas params = record { named = λ e l. by e (ltb-true e (length (extents p)) l) }
    where
      by : (e : ℕ) → e < length (extents p) → is_named (slice_index_or (extents p) e no_extent).name ≡ is_named (metamodel_at p.heads.metas (slice_index_or (extents p) e no_extent).metamodel).name
      by e l = elim (cases_lt e (length t.params)) [
        | inl before ↦ ap (λ (x : Extent). is_named x.name) (model e before) ∙ named_param params e before
            ∙ sym (ap (λ k. is_named (metamodel_at p.heads.metas k).name) (model_known e before) ∙ named_meta metas (model_metamodel p e) (h.known e before).given)
        | inr past ↦ (let here : e ≡ length t.params = let c = extents_count in omega (arith, l, past, c) in
            ap (λ (x : Extent). is_named x.name) (last e here) ∙ sym (ap (λ k. is_named (metamodel_at p.heads.metas k).name) (last_known e here) ∙ unnamed_meta))
      ]

  -- the extent of an input
  param_extent : (name : List ℕ) → is_parameter t.params name ≡ true → list_any (λ (x : Extent). bytes_eq name x.name) (extents p) ≡ true
  param_extent name is = among_front rows 0 name names (intermediate_extent (length p.heads.metas.metamodels))
      (subst (λ (ns : List (List ℕ)). list_any (bytes_eq name) ns ≡ true) (sym h.names) (any_name name t.params ∙ is))

  alone : (job : Job) (xs : List JobModel) → AllByRecursion (IsOnly job t.params) xs → AllByRecursion (IsAlone (start_of p) job.inputs) xs
  alone job [] all = tt
  alone job (x ∷ xs) all = (record { named = param_extent x.model all.0.parameter; once = all.0.once }, alone job xs all.1)

  pub inputs_have : (job : Job) → AllByRecursion (IsOnly job t.params) job.inputs → HaveExtents (start_of p) job.inputs
  inputs_have job all = have_extents (start_of p) job.inputs refl live job.inputs (alone job job.inputs all) (λ name. omega arith)

pub job_can_load : ModelsAreDeclared → InputsAreApart → ParametersHaveNames → JobCanLoad
job_can_load declared apart named job m t p of =
    let h = declared m t p of.accepted in
    record {
      named = are_named m t p h of.metamodels (named job t.params of.inputs of.outputs of.models);
      extents_of = inputs_have m t p h job (apart job t.params of.models);
    }
