use Rattle.std.proofs.Common.{◌≡◌, ◌∙◌, ℕ, ap, cond, sym, subst, OnOk, List, Bor}
use Rattle.qvt_value.specs.declared.value.Value.{Value}
use Rattle.qvt_ocl_words.specs.Lists.{same}
use Rattle.qvt_ocl_lists.specs.Counts.{shown, left}
use Rattle.qvt_ocl_lists.proofs.CountTables.{put}
use Rattle.qvt_ocl_lists.proofs.counts.Counts.set.Goals as goal
use Rattle.qvt_ocl_lists.proofs.counts.Counts.set.Goals.{in-Ok, in-Err}

pub returns : goal.returns
returns c = elim c.match-insert.branch [
  | in-Ok w ↦ subst (λ r. OnOk r ((x : Value) → left (shown c.insert.new.self.entries) x ≡ cond (same x c.args.value.now) c.args.n (left c.args.self.now x))) (sym w.result-is)
      (λ x. ap (λ (l : List (Bor Value × ℕ)). left (shown l) x) w.in-Ok.ensures.entries
      ∙ put c.args.value c.args.n c.self.inside.counts.entries x
      ∙ ap (λ (t : List (Value × ℕ)). cond (same x c.args.value.now) c.args.n (left t x)) c.self.view_is)
  | in-Err w ↦ subst (λ r. OnOk r ((x : Value) → left (shown c.insert.new.self.entries) x ≡ cond (same x c.args.value.now) c.args.n (left c.args.self.now x))) (sym w.result-is) tt
]
