-- What is read in a loop takes a token.
use Rattle.std.proofs.Common.{zero, refl}
use Rattle.qvt_grammar.specs.Reader.{Consumes, made_at, then_at}
use Rattle.qvt_language.specs.declared.class.Class.TheVariants.{DoubleColon, Comma}
use Rattle.qvt_language.specs.Readers.{the_at}
use Rattle.qvt_language.specs.Trees.{second}
use Rattle.qvt_language.specs.Reading.{name_at, path_at}
use Rattle.qvt_language.proofs.Forms.{good_the, good_made, good_then}
use Rattle.qvt_language.proofs.Good.{good_name, good_path}
use Rattle.qvt_language.proofs.GoodNesting.{consumes}

pub less_name : Consumes (made_at second (then_at (the_at DoubleColon) name_at))
less_name = consumes {n = zero} (good_made second (good_then (good_the DoubleColon) good_name refl))

pub less_path : Consumes (made_at second (then_at (the_at Comma) path_at))
less_path = consumes {n = zero} (good_made second (good_then (good_the Comma) good_path refl))
