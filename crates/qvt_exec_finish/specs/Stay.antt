-- What written entries leave as it was.
use Rattle.std.specs.Prelude.{◌≡◌, List, Ok}
use Rattle.qvt_store.specs.Contents.{Contents}
use Rattle.qvt_run_data.specs.declared.late.LateValue.{LateValue}
use Rattle.qvt_run_data.specs.declared.record.Record.{Record}
use Rattle.qvt_run_data.specs.declared.request.Request.{Request}
use Rattle.qvt_run_rules.specs.Trace.{candidates}
use Rattle.qvt_meaning.specs.Run.{patched}

-- the candidates of a request, which a report tells of each entry
abbrev pub CandidatesStay : Type 0
CandidatesStay = (s t : Contents) (vs : List LateValue) (trace : List Record) (q : Request) → patched s vs ≡ Ok t → candidates trace t q ≡ candidates trace s q
