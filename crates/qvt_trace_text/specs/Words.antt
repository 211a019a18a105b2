-- The words and the parts of late entries, each of what it needs alone.
use Rattle.std.specs.Prelude.{ℕ, Bool, true, false, List, ◌++◌, map, Option, Some, None, codes}
use Rattle.serde_json.specs.Data.{Data, null, string, array}
use Rattle.serde_json.specs.View.{items_of}
use Rattle.qvt_base.specs.declared.numbers.MappingNo.{MappingNo}
use Rattle.qvt_base.specs.declared.numbers.Oid.{Oid}
use Rattle.qvt_store.specs.Contents.{Contents}
use Rattle.qvt_slots.specs.declared.op.SetOp.{SetOp}
use Rattle.qvt_slots.specs.declared.op.SetOp.TheVariants as op
use Rattle.qvt_typing.specs.Accepts.{ProgramTerm}
use Rattle.qvt_meaning_report.specs.TraceText.{mapping_path, objects_data}

abbrev pub plain_word : Bool → Bool → List ℕ
plain_word false false = codes "resolve"
plain_word false true = codes "resolveone"
plain_word true false = codes "invresolve"
plain_word true true = codes "invresolveone"

-- an inverse one, for one object, of the records of some mappings alone
abbrev pub form_word : Bool → Bool → Bool → List ℕ
form_word inverse one true = plain_word inverse one ++ codes "In"
form_word inverse one false = plain_word inverse one

abbrev pub op_word : SetOp → List ℕ
op_word op.Put = codes ":="
op_word op.Add = codes "+="

abbrev pub within_data : ProgramTerm → Option (List MappingNo) → Data
within_data p None = null
within_data p (Some ms) = array (items_of (map (λ m. string (mapping_path p m.0)) ms))

abbrev pub sources_data : Contents → List (Option (List ℕ)) → Option (List Oid) → Data
sources_data s ids None = null
sources_data s ids (Some os) = objects_data s ids os
