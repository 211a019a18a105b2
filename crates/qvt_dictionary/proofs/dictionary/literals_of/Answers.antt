use Rattle.std.proofs.Common.{sym, subst}
use Rattle.qvt_dictionary.specs.Literals.{EachIsFirst}
use Rattle.qvt_dictionary.proofs.dictionary.literals_of.Goals as goal

pub set_of-requires : goal.set_of-requires
set_of-requires c = subst EachIsFirst (sym c.literals.ensures.literals) (c.are_well_formed.ensures.well_formed.literal_found c.args.metamodel c.args.enumeration)
