use Rattle.qvt_meta_repeats.proofs.Flags.{first_put}
use Rattle.qvt_meta_repeats.proofs.line_flags.LineFlags.push.Goals as goal

pub invariant_of-self-then-is_none : goal.invariant_of-self-then-is_none
invariant_of-self-then-is_none c =
    first_put c.self.inside.flags _ c.self.inside.first c.args.flag _ c.self.invariant c.if-is_none.ensures c.if-flag.true c.in_ok-push.ensures.ok c.len-place.ensures
