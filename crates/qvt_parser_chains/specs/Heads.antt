-- The name that an expression is, with which the head of an iterator may begin.
use Rattle.std.specs.Prelude.{Option, Some, None}
use Rattle.qvt_tree_types.specs.Tree.{BareTarget}
use Rattle.qvt_language.specs.Leads.{Lead, Plain}
use Rattle.qvt_language.specs.declared.named.Named.{Named}

abbrev pub name_in : Lead → Option Named
name_in (Plain e (Some (BareTarget text place))) = Some (record { text = text; place = place })
name_in _ = None
