use Rattle.std.proofs.Common.{◌≡◌, ◌∷◌, ◌++◌, map}
use Rattle.qvt_language.specs.Trees.{last_place}
use Rattle.qvt_parser_grammar.proofs.names.unit_path_of.Given as goal

abbrev pub invariant-loop-name : goal.invariant-loop-name
invariant-loop-name l = record {
  names : l.names ++ map (λ n. n.text) l.name-iterator.rest.items ≡ l.fn.first.text ∷ map (λ n. n.text) l.fn.more;
  last : last_place l.place l.name-iterator.rest.items ≡ last_place l.fn.first.place l.fn.more;
}
