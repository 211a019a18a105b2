use Rattle.std.proofs.Common.{◌∙◌, ap}
use Rattle.std.specs.Map.{lookup}
use Rattle.std.specs.Str.{bytes_eq}
use Rattle.qvt_types_states.proofs.Names.{lookup-by_bytes}
use Rattle.qvt_types_states.proofs.scope.Scope.find.Goals as goal

pub returns : goal.returns
returns c = c.get.ensures.value ∙ lookup-by_bytes c.args.name.now c.self.inside.named.entries ∙ ap (λ s. lookup (bytes_eq c.args.name.now) s.named) c.self.view_is
