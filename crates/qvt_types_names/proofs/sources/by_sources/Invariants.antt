use Rattle.std.proofs.Common.{◌≡◌, ◌-◌, length, take}
use Rattle.qvt_types_data.specs.declared.refusal.RefusalKind.TheVariants.{UnknownName}
use Rattle.qvt_types_data.specs.declared.ruling.Ruling.TheVariants.{Fails}
use Rattle.qvt_types_names.specs.Names.{by_sources}
use Rattle.qvt_types_names.proofs.sources.by_sources.Given as goal

abbrev pub invariant-loop-nearer : goal.invariant-loop-nearer
invariant-loop-nearer l = by_sources l.metas l.first l.typed l.name (Fails UnknownName) (take (length l.sources - l.nearer) l.sources) ≡ by_sources l.metas l.first l.typed l.name (Fails UnknownName) l.sources
