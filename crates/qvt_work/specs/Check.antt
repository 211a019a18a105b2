-- What `check METAMODEL MODEL` does over the bytes that the files hold: the metamodel, then the model, which is one of the metamodel
-- and conforms to it.
use Rattle.std.specs.Prelude.{ℕ, List, [], length, Result, Ok}
use Rattle.qvt_metamodel.specs.Metamodels.{Metamodels}
use Rattle.qvt_model.specs.declared.data.ObjectData.{ObjectData}
use Rattle.qvt_inputs.specs.Conforming.{model_read}
use Rattle.qvt_outcome.specs.Outcome.{Outcome, done, conforms_line}
use Rattle.qvt_outcome.specs.Chain.{Chain, step, ◌>=>◌}
use Rattle.qvt_work.specs.Metas.{no_metamodels, metamodel_read}

abbrev pub conforms : List ObjectData → Result Outcome Outcome
conforms os = Ok (done [] (conforms_line (length os)))

-- reads the model of the first metamodel
unfoldable pub after_metamodel : List ℕ → Metamodels → Chain Outcome
after_metamodel model metas = model_read metas 0 0 model >=> (λ os. step (conforms os))

unfoldable pub check_of : List ℕ → List ℕ → Chain Outcome
check_of metamodel model = metamodel_read no_metamodels metamodel >=> after_metamodel model
