use Rattle.std.proofs.Common.{sym, ap, ◌∙◌, ◌++◌, flat_map}
use Rattle.std.proofs.lemmas.Iterator.{YieldsList-from_chars}
use Rattle.std.proofs.lemmas.Iterator.Consumers.{YieldsList-end}
use Rattle.std.proofs.lemmas.List.{map-id}
use Rattle.qvt_printer_layout.specs.Layout as layout
use Rattle.qvt_printer_layout.proofs.layout.escape_all.Goals as goal

pub returns : goal.returns
returns c =
    let t = YieldsList-end (YieldsList-from_chars c.args.source.now c.utf8.source cc) c.loop-c.yielded _ c.loop-c.yielded_by _ _ c.in-None.is c.next.ensures.steps in
    c.loop-c.invariant ∙ ap (λ cs. c.args.text.now ++ flat_map layout.escaped cs) (sym (map-id c.loop-c.yielded) ∙ t.0)
