-- A late assignment behind its target (QVT 1.3, 8.1.10).
use Rattle.std.specs.Prelude.{ℕ, Bool, Option}
use Rattle.qvt_base.specs.declared.numbers.Oid.{Oid}
use Rattle.qvt_base.specs.declared.numbers.Place.{Place}
use Rattle.qvt_value.specs.declared.value.Value.{Value}
use Rattle.qvt_run_data.specs.declared.late.LateWrite.{LateWrite}
use Rattle.qvt_run_data.specs.declared.request.RequestForm.{RequestForm}
use Rattle.qvt_run_rules.specs.Cost.{spend_of}
use Rattle.qvt_run_rules.specs.Resolve as resolving
use Rattle.qvt_run_rules.specs.State.{Does, ◌>>=◌, ◌>>◌, look}
use Rattle.qvt_exec_phrases.specs.Means.{Scene, enters_in}

-- the source, one unit, and the entry, for slot f of an object
abbrev pub late_behind : Scene → Oid → ℕ → Bool → Does LateWrite (Option Value) → RequestForm → Place → Place → Does LateWrite (Unit {0})
late_behind x o f adds source form sign at = source >>= resolving.valid_source >>= (λ v. spend_of x.0.limit 1 >> (resolving.sources_of at v
    >>= (λ os. look (resolving.if_fits f form.class) sign >> resolving.entered (enters_in x.0.is_plain) o f adds (resolving.query_of form os) sign)))
