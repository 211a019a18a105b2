-- A value of the form of a metamodel has a name.
use Rattle.std.proofs.Common.{◌≡◌, ◌≢◌, ◌∙◌, ℕ, List, [], Bool, true, false, Option, Some, None, refl, ap, ◌&&◌, nat_le, length}
use Rattle.std.specs.Prelude.{if◌then◌else◌, option_and_then, unwrap_or, codes}
use Rattle.std.specs.Option.{option_map_or}
use Rattle.std.proofs.lemmas.Str.{chars-nil}
use Rattle.serde_json.specs.Data.{Data}
use Rattle.serde_json.specs.Find.{get, as_str}
use Rattle.qvt_base.specs.Names.{is_name, begins_name}
use Rattle.qvt_json.specs.Json.{text_or}
use Rattle.qvt_json.specs.Leaves.{is_text_of}
use Rattle.qvt_json.specs.Shape.{key_fault}
use Rattle.qvt_meta_read.specs.MetaForm.{name_form, meta_form}
use Rattle.qvt_meta_read.specs.DataOf.{meta_data}
use Rattle.qvt_metamodel.proofs.Bools.{clash}
use Rattle.qvt_meta_checks.proofs.Passing.{next_none, map_none}

no_empty_name : is_name [] ≡ false
unfolding is_name
no_empty_name = ap (λ cs. begins_name cs && nat_le (length cs) 200) chars-nil

text_of_name : (o : Option (List ℕ)) → option_map_or is_name o false ≡ true → unwrap_or o [] ≢ []
text_of_name None h e = clash h refl
text_of_name (Some s) h e = clash h (ap is_name e ∙ no_empty_name)

abbrev none_unless : Bool → Option (List ℕ)
none_unless b = if b then None else Some []

leaf_none : (b : Bool) → none_unless b ≡ None → b ≡ true
leaf_none true h = refl
leaf_none false h = absurd (cc)

name_at : (o : Option Data) → key_fault (codes "name") true name_form o ≡ None → unwrap_or (option_and_then as_str o) [] ≢ []
name_at None h = absurd (cc)
name_at (Some d) h = text_of_name (as_str d) (leaf_none (is_text_of is_name d) (map_none _ (name_form d) h))

keys_pass : (b : Bool) (o : Option (List ℕ)) → (if b then o else Some []) ≡ None → o ≡ None
keys_pass true o h = h
keys_pass false o h = absurd (cc)

pub named : (d : Data) → meta_form d ≡ None → text_or (codes "name") d ≢ []
unfolding meta_form
named d h = name_at (get (codes "name") d) (next_none _ _ (next_none _ _ (next_none _ _ (keys_pass _ _ h)).1).1).0

pub named_data : (d : Data) → meta_form d ≡ None → (meta_data d).name ≢ []
unfolding meta_data
named_data d h = named d h
