use Rattle.std.proofs.Common.{◌≡◌, ◌∙◌, [], ◌∷◌, ◌++◌, map, cond, false, string_bytes, ap}
use Rattle.std.specs.List.{list_any}
use Rattle.std.specs.Str.{bytes_eq}
use Rattle.qvt_dictionary.proofs.TextSets.{any-texts, texts-push}
use Rattle.qvt_dictionary.proofs.texts.TextSet.add.Goals as goal

pub returns-clause-ok : goal.returns-clause-ok
returns-clause-ok c =
    let keys = c.self.inside.keys.keys in
    let key = c.in-Ok.key in
    let named : string_bytes key ≡ c.args.text.now = c.in-Ok.ensures.ok in
    let absent : list_any (λ k. bytes_eq (string_bytes key) (string_bytes k)) keys ≡ false =
    any-texts (string_bytes key) keys ∙ (λ i. list_any (bytes_eq (named i)) (c.self.view_is i)) ∙ c.requires in
    ap (map string_bytes) (c.in-Ok-insert.ensures.keys ∙ ap (λ b. cond b keys (keys ++ key ∷ [])) absent) ∙ texts-push keys key ∙ (λ i. c.self.view_is i ++ named i ∷ [])
