use Rattle.std.proofs.Common.{◌≡◌, drop}
use Rattle.qvt_types_context.specs.Seen.{heads_seen}
use Rattle.qvt_typing.specs.Calls.{called_implicitly, nothing_called}
use Rattle.qvt_types_context.proofs.calls.called_implicitly.Given as goal

abbrev pub invariant-loop-source : goal.invariant-loop-source
invariant-loop-source l = called_implicitly (heads_seen l.heads) l.maps l.name l.called (drop l.source-index l.sources) ≡ called_implicitly (heads_seen l.heads) l.maps l.name nothing_called l.sources
