use Rattle.std.proofs.Common.{◌≡◌, ◌∙◌, ◌==◌, [], ◌∷◌, ◌++◌, cond, false, ap}
use Rattle.std.specs.List.{list_any}
use Rattle.qvt_model.proofs.numbers.NumberIndex.add.Goals as goal

pub returns-clause-ok : goal.returns-clause-ok
returns-clause-ok c =
    let keys = c.self.inside.keys.keys in
    let n = c.args.number in
    let absent : list_any (λ x. n == x) keys ≡ false = ap (list_any (λ x. n == x)) c.self.view_is ∙ c.requires in
    c.in-Ok.ensures.keys ∙ ap (λ b. cond b keys (keys ++ n ∷ [])) absent ∙ ap (λ ks. ks ++ n ∷ []) c.self.view_is
