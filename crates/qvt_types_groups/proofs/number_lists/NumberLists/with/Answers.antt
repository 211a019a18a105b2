use Rattle.std.proofs.Common.{◌≡◌, ◌∙◌, ap, sym, subst, length, position}
use Rattle.std.specs.Str.{bytes_eq}
use Rattle.qvt_types_groups.specs.Lists.{NamedLists, numbers_under}
use Rattle.qvt_types_groups.proofs.Lists.{more_under, name_under}
use Rattle.qvt_types_groups.proofs.number_lists.NumberLists.with.Goals as goal

pub returns-in_ok-more-in-Some : goal.returns-in_ok-more-in-Some
returns-in_ok-more-in-Some c = λ other.
    ap (λ (t : NamedLists). numbers_under t other) c.in_ok-more-in-Some.ensures
    ∙ more_under c.args.self c.args.name.now c.in-Some.place c.args.number (subst (λ (t : NamedLists). length t.lists ≡ length t.names) c.self.view_is c.self.invariant)
    (ap (λ (t : NamedLists). position (bytes_eq c.args.name.now) t.names) (sym c.self.view_is) ∙ sym c.place.ensures.value ∙ c.in-Some.is) other

pub returns-in_ok-named-in-None : goal.returns-in_ok-named-in-None
returns-in_ok-named-in-None c = λ other.
    ap (λ (t : NamedLists). numbers_under t other) c.in_ok-named-in-None.ensures
    ∙ name_under c.args.self c.args.name.now c.args.number (subst (λ (t : NamedLists). length t.lists ≡ length t.names) c.self.view_is c.self.invariant)
    (ap (λ (t : NamedLists). position (bytes_eq c.args.name.now) t.names) (sym c.self.view_is) ∙ sym c.place.ensures.value ∙ c.in-None.is) other
