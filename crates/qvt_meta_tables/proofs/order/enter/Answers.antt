use Rattle.std.proofs.Common.{◌≡◌, ◌∙◌, ◌+◌, ◌<◌, ◌++◌, ◌∷◌, [], length, get_or, set, ap, sym, subst, true, false, arith}
use Rattle.std.proofs.lemmas.List.{get_or-set_same, length-append, length-map}
use Rattle.qvt_base.specs.declared.numbers.ClassNo.{ClassNo}
use Rattle.qvt_metamodel.specs.Metamodels.{nowhere_class}
use Rattle.qvt_metamodel.proofs.Bools.{ap2}
use Rattle.qvt_meta_tables.specs.declared.visit.Visit.TheVariants.{Enter, Leave}
use Rattle.qvt_meta_tables.specs.Search.{IsSearch, flag, work}
use Rattle.qvt_meta_tables.proofs.Searching.{enters, here_is, skipped, entered, work_set}
use Rattle.qvt_meta_tables.proofs.order.enter.Goals as goal

pub bounds-as_slice-at : goal.bounds-as_slice-at
bounds-as_slice-at c = omega (arith, ap length c.as_slice.ensures, here_is c.args.classes.now c.args.search.now.met c.args.search.now.placed c.args.search.now.visits c.args.class c.requires.search)

pub returns-then-as_slice-at-clause-search : goal.returns-then-as_slice-at-clause-search
returns-then-as_slice-at-clause-search c =
    skipped c.args.classes.now c.args.search.now.met c.args.search.now.placed c.args.search.now.visits c.args.class c.requires.acyclic c.requires.search
    (sym (ap (λ m. get_or m c.args.class false) c.as_slice.ensures) ∙ c.if-as_slice-at.true)

pub set-requires : goal.set-requires
set-requires c = here_is c.args.classes.now c.args.search.now.met c.args.search.now.placed c.args.search.now.visits c.args.class c.requires.search

pub returns-clause-search : goal.returns-clause-search
returns-clause-search c =
    let new : flag c.args.search.now.met c.args.class ≡ false = sym (ap (λ m. get_or m c.args.class false) c.as_slice.ensures) ∙ c.if-as_slice-at.false in
    let visits : c.enter_all.new.visits ≡ (c.args.search.now.visits ++ Leave c.args.class ∷ []) ++ enters (get_or c.args.classes.now c.args.class nowhere_class).supers =
    c.in_ok-enter_all.ensures ∙ ap2 (λ a b. a ++ enters b) c.in_ok-push.ensures.ok c.supers_at.ensures in
    subst (λ m. IsSearch c.args.classes.now m c.args.search.now.placed c.enter_all.new.visits) (sym c.set.ensures)
    (subst (IsSearch c.args.classes.now (set c.args.search.now.met c.args.class true) c.args.search.now.placed) (sym visits)
    (entered c.args.classes.now c.args.search.now.met c.args.search.now.placed c.args.search.now.visits c.args.class c.requires.live c.requires.search new))

pub returns-clause-met : goal.returns-clause-met
returns-clause-met c =
    let low : c.args.class < length c.args.search.now.met = here_is c.args.classes.now c.args.search.now.met c.args.search.now.placed c.args.search.now.visits c.args.class c.requires.search in
    ap (λ m. flag m c.args.class) c.set.ensures ∙ get_or-set_same c.args.search.now.met c.args.class true false low

pub returns-clause-fewer : goal.returns-clause-fewer
returns-clause-fewer c =
    let new : flag c.args.search.now.met c.args.class ≡ false = sym (ap (λ m. get_or m c.args.class false) c.as_slice.ensures) ∙ c.if-as_slice-at.false in
    let low : c.args.class < length c.args.search.now.met = here_is c.args.classes.now c.args.search.now.met c.args.search.now.placed c.args.search.now.visits c.args.class c.requires.search in
    let visits : length c.enter_all.new.visits ≡ length c.args.search.now.visits + 1 + length (get_or c.args.classes.now c.args.class nowhere_class).supers =
    ap length c.in_ok-enter_all.ensures ∙ length-append c.push.new.self (enters c.supers_at.result.now)
    ∙ ap2 (λ a b. a + b) (ap length c.in_ok-push.ensures.ok ∙ length-append c.args.search.now.visits (Leave c.args.class ∷ []))
    (length-map c.supers_at.result.now (λ (s : ClassNo). Enter s.0) ∙ ap length c.supers_at.ensures) in
    let done : work c.set.new.self c.args.classes.now ≡ work (set c.args.search.now.met c.args.class true) c.args.classes.now = ap (λ m. work m c.args.classes.now) c.set.ensures in
    omega (arith, visits, done, work_set c.args.search.now.met c.args.classes.now c.args.class c.requires.search.each low new)
