use Rattle.std.proofs.Common.{◌≡◌, ◌∙◌, [], ◌∷◌, ◌++◌, None, string_bytes, ap}
use Rattle.std.specs.Map.{lookup}
use Rattle.std.specs.Str.{bytes_eq}
use Rattle.indexmap.proofs.CallerLemmas.{insert_entry-new}
use Rattle.qvt_meta_names.specs.Named.{named}
use Rattle.qvt_meta_names.proofs.Tables.{lookup-named, named-last}
use Rattle.qvt_meta_names.proofs.name_table.NameTable.add.Goals as goal

pub returns-clause-ok : goal.returns-clause-ok
returns-clause-ok c =
    let entries = c.self.inside.numbers.entries in
    let key = c.in-Ok.key in
    let same : string_bytes key ≡ c.args.name.now = c.in-Ok.ensures.ok in
    let absent : lookup (λ k. bytes_eq (string_bytes key) (string_bytes k)) entries ≡ None =
    lookup-named (string_bytes key) entries ∙ (λ i. lookup (bytes_eq (same i)) (c.self.view_is i)) ∙ c.requires in
    ap named (c.in-Ok-insert.ensures.entries ∙ insert_entry-new _ c.self.inside.numbers key c.args.number absent) ∙ named-last entries key c.args.number ∙ (λ i. c.self.view_is i ++ (same i, c.args.number) ∷ [])
