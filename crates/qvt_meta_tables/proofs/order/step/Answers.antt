use Rattle.std.proofs.Common.{◌++◌, ◌∷◌, [], sym, subst}
use Rattle.qvt_meta_tables.specs.declared.visit.Visit.{Visit}
use Rattle.qvt_meta_tables.specs.Search.{IsSearch}
use Rattle.qvt_meta_tables.proofs.Searching.{left}
use Rattle.qvt_meta_tables.proofs.order.step.Goals as goal

pub returns-in_ok-push-in-Leave-clause-search : goal.returns-in_ok-push-in-Leave-clause-search
returns-in_ok-push-in-Leave-clause-search c =
    subst (λ p. IsSearch c.args.classes.now c.args.search.now.met p c.args.search.now.visits) (sym c.in_ok-push-in-Leave.ensures.ok)
    (left c.args.classes.now c.args.search.now.met c.args.search.now.placed c.args.search.now.visits c.in-Leave.class
    (subst (λ (v : Visit). IsSearch c.args.classes.now c.args.search.now.met c.args.search.now.placed (c.args.search.now.visits ++ v ∷ [])) c.in-Leave.is c.requires.search))
