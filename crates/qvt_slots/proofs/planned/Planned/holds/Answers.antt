use Rattle.std.proofs.Common.{◌≡◌, ◌∙◌, ◌||◌, false, sym, ap, take, drop, List}
use Rattle.qvt_slots.specs.declared.commit.Write.{Write}
use Rattle.qvt_slots.specs.Listed.{listed}
use Rattle.qvt_slots.proofs.Keyed.{listed_parts}
use Rattle.qvt_slots.proofs.planned.Planned.holds.Goals as goal

pub returns-else-is_listed : goal.returns-else-is_listed
returns-else-is_listed c =
    let ws : List Write = c.self.inside.writes.items in
    let none : listed (take 8 ws) c.args.object.0 c.args.feature.0 ≡ false =
    ap (λ (l : List Write). listed (take 8 l) c.args.object.0 c.args.feature.0) (sym c.as_slice-2.ensures.value)
    ∙ ap (λ (l : List Write). listed l c.args.object.0 c.args.feature.0) (sym c.split_at.ensures.front)
    ∙ sym c.is_listed-2.ensures ∙ c.if-is_listed.false in
    c.contains.ensures ∙ c.self.invariant c.args.object.0 c.args.feature.0
    ∙ sym (ap (λ b. b || listed (drop 8 ws) c.args.object.0 c.args.feature.0) none)
    ∙ sym (listed_parts ws 8 c.args.object.0 c.args.feature.0)
    ∙ ap (λ (l : List Write). listed l c.args.object.0 c.args.feature.0) c.self.view_is
