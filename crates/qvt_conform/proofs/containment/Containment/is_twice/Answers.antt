use Rattle.std.proofs.Common.{◌∙◌, ◌<◌, ap, nat_lt, length, refl, sym, subst}
use Rattle.std.proofs.lemmas.List.{get_or_read_under}
use Rattle.qvt_conform.proofs.Twice.{counts_above, counts_long}
use Rattle.qvt_conform.proofs.containment.Containment.is_twice.Goals as goal

pub returns : goal.returns
returns c =
    let lists = c.args.self.now.contents in
    let there : c.args.place < length c.args.self.now.counts.items = subst (λ n. c.args.place < n) (sym (counts_long lists c.args.self.now c.requires.containment)) c.requires.there in
    ap (nat_lt 1) (get_or_read_under c.args.self.now.counts.items c.args.place (length c.args.self.now.counts.items) c.index.result.now 0 c.index.ensures there refl)
    ∙ counts_above lists c.args.self.now c.args.place c.requires.containment c.requires.there
