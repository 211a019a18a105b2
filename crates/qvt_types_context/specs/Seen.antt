-- What the code knows where a node stands, as the definitions say it.
use Rattle.qvt_typing.specs.Context as known
use Rattle.qvt_types_context.specs.declared.context.Heads.{Heads}
use Rattle.qvt_types_context.specs.declared.context.Context.{Context}
use Rattle.qvt_types_context.specs.declared.context.Returns.{Returns}
use Rattle.qvt_types_context.specs.declared.context.Returns.TheVariants as returns

abbrev pub heads_seen : Heads → known.DeclaredHeads
heads_seen h = record {
  given = h.given.now;
  metas = h.units.now.metas;
  types = h.types.now;
  models = h.models.now;
  units = h.units.now.units;
  first = h.first;
  flags = h.typed.now;
}

abbrev pub returns_seen : Returns → known.ReturnRule
returns_seen returns.NoValue = known.NoValue
returns_seen (returns.Value o) = known.Value o.now
returns_seen returns.Never = known.Never

abbrev pub seen : Context → known.TypingContext
seen x = record {
  heads = heads_seen x.heads;
  pure = x.pure;
  plain = x.plain;
  returns = returns_seen x.returns;
  self = x.itself;
  result = x.result;
  sets_result = x.sets_result;
  object = x.object;
  owner = x.owner;
}
