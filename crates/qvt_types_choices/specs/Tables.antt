-- What is told once of the units of a name.
use Rattle.std.specs.Prelude.{◌≡◌, ℕ, List, true, false}
use Rattle.qvt_metas.specs.Metamodels.{Metamodels}
use Rattle.qvt_metamodel.specs.declared.row.Row.{Row}
use Rattle.qvt_types_units.specs.declared.signature.Signature.{Signature}
use Rattle.qvt_types_units.specs.Choice.{is_unsure}
use Rattle.qvt_types_choices.specs.Stuck.{is_stuck}
use Rattle.qvt_types_choices.specs.Sets.{IsSetOf}
use Rattle.qvt_types_choices.specs.ByClass.{AreChosen}
use Rattle.qvt_types_choices.specs.declared.class_choices.ClassChoices.{ClassChoices}
use Rattle.qvt_types_choices.specs.declared.tables.GroupTable.{GroupTable}
use Rattle.qvt_types_choices.specs.declared.tables.GroupTable.TheVariants.{Untold, Unsure, Stuck, Each}

-- each context is known, and this is the set of the classes without a single choice
pub record StuckAre (m : Metamodels) (us : List Signature) (ns : List ℕ) (r : Row) : Type 0 where
  pub sure : is_unsure us ns ≡ false
  pub stuck : IsSetOf m (is_stuck m us ns) r

-- each context is known, and these are the choices
pub record ChoicesAre (m : Metamodels) (us : List Signature) (ns : List ℕ) (t : ClassChoices) : Type 0 where
  pub sure : is_unsure us ns ≡ false
  pub chosen : AreChosen m us ns t

abbrev pub TellsOf : Metamodels → List Signature → List ℕ → GroupTable → Type 0
TellsOf m us ns Untold = Unit {0}
TellsOf m us ns Unsure = is_unsure us ns ≡ true
TellsOf m us ns (Stuck r) = StuckAre m us ns r
TellsOf m us ns (Each t) = ChoicesAre m us ns t
