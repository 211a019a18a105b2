-- The form that a JSON value is to have. A form tells of a value where its first fault is: the path from the value on,
-- which is empty where the value itself is at fault.
use Rattle.std.specs.Prelude.{ℕ, suc, List, [], ◌∷◌, ◌++◌, map, Bool, true, false, Option, Some, None, option_map, if◌then◌else◌, decimal, codes}
use Rattle.serde_json.specs.Data.{Data, Items, no_items, item}
use Rattle.serde_json.specs.Find.{get, as_array}
use Rattle.qvt_json.specs.Json.{has_only}
use Rattle.qvt_json.specs.Steps.{or_next}

abbrev pub Form : Type 0
Form = Data → Option (List ℕ)

-- a fault inside, seen from outside: `/`, the step, and the path from there
abbrev pub under : List ℕ → Option (List ℕ) → Option (List ℕ)
under step inner = option_map (λ path. codes "/" ++ step ++ path) inner

-- a value that passes a test
abbrev pub leaf : (Data → Bool) → Form
leaf is d = if is d then None else Some []

abbrev pub items_fault : Form → ℕ → Items → Option (List ℕ)
items_fault f n no_items = None
items_fault f n (item d ds) = or_next (under (decimal n) (f d)) (items_fault f (suc n) ds)

abbrev pub list_fault : Form → Option Items → Option (List ℕ)
list_fault f None = Some []
list_fault f (Some ds) = items_fault f 0 ds

-- a list, each item of this form, in the order of the indices
abbrev pub form_of_list : Form → Form
form_of_list f d = list_fault f (as_array d)

-- a key of an object, whether it is required, and the form of its value
pub record KeyForm : Type 0 where
  pub name : List ℕ
  pub required : Bool
  pub form : Form

abbrev pub required : List ℕ → Form → KeyForm
required name f = record { name = name; required = true; form = f }

abbrev pub optional : List ℕ → Form → KeyForm
optional name f = record { name = name; required = false; form = f }

abbrev pub key_fault : List ℕ → Bool → Form → Option Data → Option (List ℕ)
key_fault name is_required f None = if is_required then under name (Some []) else None
key_fault name is_required f (Some d) = under name (f d)

abbrev pub keys_fault : List KeyForm → Data → Option (List ℕ)
keys_fault [] d = None
keys_fault (k ∷ ks) d = or_next (key_fault k.name k.required k.form (get k.name d)) (keys_fault ks d)

-- an object with no keys but these, which stand in byte order: its own path where it is no object or has another key,
-- then the first key that is missing or whose value is at fault
abbrev pub form_of_object : List KeyForm → Form
form_of_object keys d = if has_only (map (λ k. k.name) keys) d then keys_fault keys d else Some []

-- the path from the root, which itself is `/`
abbrev pub shown : List ℕ → List ℕ
shown [] = codes "/"
shown (x ∷ xs) = x ∷ xs
