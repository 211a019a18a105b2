use Rattle.std.proofs.Common.{◌≡◌, ◌∙◌, [], ◌∷◌, ◌++◌, None, ap}
use Rattle.std.specs.Map.{lookup}
use Rattle.indexmap.proofs.CallerLemmas.{insert_entry-new}
use Rattle.qvt_types_groups.specs.Keys.{same_key}
use Rattle.qvt_types_groups.proofs.class_table.ClassTable.add.Goals as goal

pub returns : goal.returns
returns c =
    let absent : lookup (same_key c.args.key) c.self.inside.places.entries ≡ None = ap (lookup (same_key c.args.key)) c.self.view_is ∙ c.requires in
    c.in-Ok.ensures.entries ∙ insert_entry-new _ c.self.inside.places c.args.key c.args.place absent ∙ (λ i. c.self.view_is i ++ (c.args.key, c.args.place) ∷ [])
