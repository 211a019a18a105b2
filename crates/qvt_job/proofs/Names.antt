-- The form of a job asks a name of each model.
use Rattle.std.proofs.Common.{◌≡◌, ◌≢◌, ◌∙◌, ℕ, suc, List, [], Bool, true, false, ◌&&◌, Option, Some, None, Result, Ok, refl, ap, subst}
use Rattle.std.specs.Prelude.{if◌then◌else◌, nat_le, length, option_map, option_and_then, unwrap_or, codes, ⊤}
use Rattle.std.specs.Option.{option_map_or}
use Rattle.std.proofs.lemmas.Str.{chars-nil}
use Rattle.serde_json.specs.Data.{Data, Items, no_items, item}
use Rattle.serde_json.specs.Find.{get, as_str, as_array}
use Rattle.qvt_base.specs.Names.{is_name, begins_name}
use Rattle.qvt_json.specs.Json.{json, map_items}
use Rattle.qvt_json.specs.Leaves.{is_text_of}
use Rattle.qvt_json.specs.Shape.{leaf, form_of_list, list_fault, items_fault, key_fault, shown}
use Rattle.qvt_results.specs.Bind.{◌>>=◌}
use Rattle.qvt_json.specs.Steps.{or_fault, none_of, or_next}
use Rattle.qvt_job.specs.Job.{job_model_form, job_form, job_model_in, job_in, too_many, same_file, job_of}
use Rattle.qvt_job.specs.Names.{HaveNames, ModelsHaveNames}
use Rattle.qvt_job.specs.declared.job.JobFault.{JobFault}
use Rattle.qvt_job.specs.declared.job.JobFault.TheVariants.{Json, Shape, SameFile}
use Rattle.qvt_job.specs.declared.job.Job.{Job}

next_none : {X : Type 0} (a b : Option X) → or_next a b ≡ None → (a ≡ None) × (b ≡ None)
next_none None b h = (refl, h)
next_none (Some x) b h = absurd (cc)

map_none : {X Y : Type 0} (g : X → Y) (o : Option X) → option_map g o ≡ None → o ≡ None
map_none g None h = refl
map_none g (Some x) h = absurd (cc)

no_empty_name : is_name [] ≡ false
unfolding is_name
no_empty_name = ap (λ cs. begins_name cs && nat_le (length cs) 200) chars-nil

clash : {b : Bool} → b ≡ true → b ≡ false → ⊥
clash h k = absurd (cc)

text_of_name : (o : Option (List ℕ)) → option_map_or is_name o false ≡ true → unwrap_or o [] ≢ []
text_of_name None h e = clash h refl
text_of_name (Some s) h e = clash h (ap is_name e ∙ no_empty_name)

abbrev none_unless : Bool → Option (List ℕ)
none_unless b = if b then None else Some []

leaf_none : (b : Bool) → none_unless b ≡ None → b ≡ true
leaf_none true h = refl
leaf_none false h = absurd (cc)

name_at : (key : List ℕ) (o : Option Data) → key_fault key true (leaf (is_text_of is_name)) o ≡ None → unwrap_or (option_and_then as_str o) [] ≢ []
name_at key None h = absurd (cc)
name_at key (Some d) h = text_of_name (as_str d) (leaf_none (is_text_of is_name d) (map_none _ (leaf (is_text_of is_name) d) h))

keys_pass : (b : Bool) (o : Option (List ℕ)) → (if b then o else Some []) ≡ None → o ≡ None
keys_pass true o h = h
keys_pass false o h = absurd (cc)

model_named : (d : Data) → job_model_form d ≡ None → (job_model_in d).model ≢ []
unfolding job_model_form
model_named d h = name_at (codes "model") (get (codes "model") d) (next_none _ _ (next_none _ _ (keys_pass _ _ h)).1).0

items_named : (n : ℕ) (ds : Items) → items_fault job_model_form n ds ≡ None → HaveNames (map_items job_model_in ds)
items_named n no_items h = tt
items_named n (item d ds) h = (model_named d (map_none _ (job_model_form d) (next_none _ _ h).0), items_named (suc n) ds (next_none _ _ h).1)

list_named : (o : Option Items) → list_fault job_model_form o ≡ None → HaveNames (map_items job_model_in (unwrap_or o no_items))
list_named None h = tt
list_named (Some ds) h = items_named 0 ds h

models_at : (key : List ℕ) (o : Option Data) → key_fault key true (form_of_list job_model_form) o ≡ None → HaveNames (map_items job_model_in (unwrap_or (option_and_then as_array o) no_items))
models_at key None h = tt
models_at key (Some d) h = list_named (as_array d) (map_none _ (form_of_list job_model_form d) h)

formed : (d : Data) → job_form d ≡ None → HaveNames (job_in d).inputs × HaveNames (job_in d).outputs
unfolding job_form
formed d h =
    let after_fuel = (next_none _ _ (keys_pass _ _ h)).1 in
    let inputs = next_none _ _ after_fuel in
    let outputs = next_none _ _ (next_none _ _ inputs.1).1 in
    (models_at (codes "inputs") (get (codes "inputs") d) inputs.0, models_at (codes "outputs") (get (codes "outputs") d) outputs.0)

-- a job that is read passed its form
passed : (shape many same : Option JobFault) (read job : Job) → (none_of shape >>= (λ (_ : ⊤). none_of many >>= (λ (_ : ⊤). none_of same >>= (λ (_ : ⊤). Ok read)))) ≡ Ok job
    → (shape ≡ None) × (read ≡ job)
passed None None None read job e = (refl, cc)
passed None None (Some f) read job e = absurd (cc)
passed None (Some f) same read job e = absurd (cc)
passed (Some f) many same read job e = absurd (cc)

abbrev shape_told : Data → Option JobFault
shape_told d = option_map (λ path. Shape (shown path)) (job_form d)

abbrev same_told : Data → Option JobFault
same_told d = option_map SameFile (same_file (job_in d))

abbrev job_from : Data → Result Job JobFault
job_from d = none_of (shape_told d) >>= (λ (_ : ⊤). none_of (too_many (job_in d)) >>= (λ (_ : ⊤). none_of (same_told d) >>= (λ (_ : ⊤). Ok (job_in d))))

named_from : (o : Option Data) (job : Job) → (or_fault Json o >>= job_from) ≡ Ok job → HaveNames job.inputs × HaveNames job.outputs
named_from None job e = absurd (cc)
named_from (Some d) job e =
    let p = passed (shape_told d) (too_many (job_in d)) (same_told d) (job_in d) job e in
    subst (λ (j : Job). HaveNames j.inputs × HaveNames j.outputs) p.1 (formed d (map_none (λ path. Shape (shown path)) (job_form d) p.0))

pub models_have_names : ModelsHaveNames
unfolding job_of
models_have_names bytes job e = named_from (json bytes) job e
