use Rattle.std.proofs.Common.{◌∙◌, ap}
use Rattle.std.specs.Prelude.{option_map}
use Rattle.qvt_program_exprs.specs.Index.{place_under}
use Rattle.qvt_program_exprs.specs.Listing.{listed_view}
use Rattle.qvt_program_exprs.proofs.Found.{none_listed, one_listed}
use Rattle.qvt_program_exprs.proofs.table.Expressions.listed.Goals as goal

pub returns-in-None : goal.returns-in-None
returns-in-None c = none_listed c.args.self.now c.args.number c.requires (c.in-None.ensures ∙ ap (λ ps. place_under ps c.args.number.0) c.as_slice.ensures)

pub returns-in-Some : goal.returns-in-Some
returns-in-Some c =
    ap (option_map listed_view) (c.copied.ensures ∙ c.get.ensures.value)
    ∙ one_listed c.args.self.now c.args.number c.in-Some.place c.requires (c.in-Some.ensures ∙ ap (λ ps. place_under ps c.args.number.0) c.as_slice.ensures)
