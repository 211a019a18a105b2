use Rattle.std.proofs.Common.{◌≡◌, ◌∙◌, ◌<◌, ◌^◌, [], List, ℕ, Some, position, get_or, length, refl, sym, ap, subst, arith}
use Rattle.std.specs.Str.{bytes_eq}
use Rattle.std.proofs.lemmas.List.{get_or_read_under}
use Rattle.std.proofs.lemmas.List.Quantifiers.{position-Some}
use Rattle.qvt_metas.specs.Metamodels.{Metamodels}
use Rattle.qvt_metas.specs.Named.{enumeration_at}
use Rattle.qvt_dictionary.proofs.dictionary.Dictionary.literal.Goals as goal

pub overflow_cast-result : goal.overflow_cast-result
overflow_cast-result c =
    let m : Metamodels = c.self.inside.metas.now in
    let sets : List (List (List ℕ)) = c.self.inside.literals in
    let e : ℕ = c.args.enumeration in
    let set : List (List ℕ) = c.index-as_slice-at.result in
    let found : position (bytes_eq c.args.name.now) set ≡ Some c.in-Some.place = sym c.position.ensures ∙ c.in-Some.is in
    let below = (position-Some (bytes_eq c.args.name.now) set c.in-Some.place [] found).0 in
    let few : length (enumeration_at m c.args.metamodel e).literals < 2 ^ 32 = c.are_well_formed.ensures.well_formed.few_literals c.args.metamodel e in
    let there : e < length sets = omega (arith, c.if-at-len.false, c.len.ensures) in
    let read : set ≡ get_or sets e set = subst (λ (xs : List (List (List ℕ))). set ≡ get_or xs e set) c.as_slice.ensures c.index-as_slice-at.is in
    let own : c.self.inside.metamodel ≡ c.args.metamodel = omega (arith, c.if-metamodel-self.false) in
    let kept : get_or sets e [] ≡ (enumeration_at m c.args.metamodel e).literals = subst (λ k. get_or sets e [] ≡ (enumeration_at m k e).literals) own (c.self.invariant.each e there) in
    let same : set ≡ (enumeration_at m c.args.metamodel e).literals = get_or_read_under sets e (length sets) set [] read there refl ∙ kept in
    omega (arith, below, few, ap length same)
