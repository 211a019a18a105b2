use Rattle.std.proofs.Common.{◌≡◌, ◌∙◌, take, ap}
use Rattle.qvt_types_states.specs.Scopes.{by_bytes}
use Rattle.qvt_types_states.proofs.Names.{by_bytes-take}
use Rattle.qvt_types_states.proofs.scope.Scope.cut.Goals as goal

pub returns : goal.returns
returns c =
    let named : by_bytes c.truncate.new.self.entries ≡ take c.args.named c.args.self.now.named =
    ap by_bytes c.truncate.ensures.entries ∙ by_bytes-take c.args.named c.self.inside.named.entries ∙ (λ i. take c.args.named (c.self.view_is i).named) in
    let sources : c.truncate-2.new.self ≡ take c.args.sources c.args.self.now.sources =
    c.truncate-2.ensures ∙ (λ i. take c.args.sources (c.self.view_is i).sources) in
    λ i. record { named = named i; sources = sources i }
