use Rattle.std.proofs.Common.{◌≡◌, ◌∷◌, ◌++◌, map}
use Rattle.qvt_parser_grammar.proofs.names.names_of.Given as goal

abbrev pub invariant-loop-name : goal.invariant-loop-name
invariant-loop-name l = l.names ++ map (λ n. n.text) l.name-iterator.rest.items ≡ l.fn.first.text ∷ map (λ n. n.text) l.fn.more
