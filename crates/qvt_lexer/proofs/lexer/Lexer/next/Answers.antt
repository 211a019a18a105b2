use Rattle.std.proofs.Common.{◌+◌, length, sym, ap, ◌∙◌}
use Rattle.std.specs.List.{slice_range}
use Rattle.qvt_lexer.proofs.Slices.{after_left, offset_left, token_slice}
use Rattle.qvt_lexer.proofs.lexer.Lexer.next.Goals as goal

pub invariant_of-self : goal.invariant_of-self
invariant_of-self c =
    let inside = c.self.inside in (
      after_left inside.source.now _ c.in-Ok.token c.in-Ok.after c.self.invariant.0 c.in-Ok.ensures.spans,
      offset_left inside.source.now _ c.in-Ok.token c.in-Ok.after c.self.invariant.0 c.in-Ok.ensures.spans c.self.invariant.1,
      c.in-Ok.ensures.room,
    )

pub returns-in-Ok-clause-slice : goal.returns-in-Ok-clause-slice
returns-in-Ok-clause-slice c =
    let t = c.in-Ok.token in
    ap (λ s. slice_range s.source t.place.offset (t.place.offset + length t.text.now)) (sym c.self.view_is)
    ∙ token_slice c.self.inside.source.now _ t c.in-Ok.after c.self.invariant.0 c.in-Ok.ensures.spans
