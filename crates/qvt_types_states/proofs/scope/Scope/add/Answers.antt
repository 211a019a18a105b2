use Rattle.std.proofs.Common.{◌≡◌, ◌∙◌, [], ◌∷◌, ◌++◌, None, string_bytes, ap}
use Rattle.std.specs.Map.{lookup}
use Rattle.std.specs.Str.{bytes_eq}
use Rattle.indexmap.proofs.CallerLemmas.{insert_entry-new}
use Rattle.qvt_types_states.specs.Scopes.{by_bytes}
use Rattle.qvt_types_states.proofs.Names.{lookup-by_bytes, by_bytes-last, not_known}
use Rattle.qvt_types_states.proofs.scope.Scope.add.Goals as goal

pub returns : goal.returns
returns c =
    let entries = c.self.inside.named.entries in
    let key = c.in-Ok.key in
    let same : string_bytes key ≡ c.args.name.now = c.in-Ok.ensures.ok in
    let absent : lookup (λ k. bytes_eq (string_bytes key) (string_bytes k)) entries ≡ None =
    lookup-by_bytes (string_bytes key) entries ∙ (λ i. lookup (bytes_eq (same i)) (c.self.view_is i).named) ∙ not_known _ c.requires in
    let more : by_bytes c.insert.new.self.entries ≡ c.args.self.now.named ++ (c.args.name.now, c.args.known) ∷ [] =
    ap by_bytes (c.in-Ok-insert.ensures.entries ∙ insert_entry-new _ c.self.inside.named key c.args.known absent) ∙ by_bytes-last entries key c.args.known ∙ (λ i. (c.self.view_is i).named ++ (same i, c.args.known) ∷ []) in
    λ i. record { named = more i; sources = (c.self.view_is i).sources }
