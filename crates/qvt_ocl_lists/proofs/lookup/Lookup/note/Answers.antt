use Rattle.std.proofs.Common.{◌≡◌, ◌∙◌, ◌||◌, Bool, not, ap, sym, subst, map, IfOk, OnOk, List, Bor}
use Rattle.qvt_value.specs.declared.value.Value.{Value}
use Rattle.qvt_ocl_words.specs.Lists.{same, has}
use Rattle.qvt_ocl_lists.proofs.ItemLists.{held, noted}
use Rattle.qvt_ocl_lists.proofs.lookup.Lookup.note.Goals as goal
use Rattle.qvt_ocl_lists.proofs.lookup.Lookup.note.Goals.{in-Ok, in-Err}

pub returns-clause-fresh : goal.returns-clause-fresh
returns-clause-fresh c = elim c.match-insert.branch [
  | in-Ok w ↦ subst (λ r. IfOk r (λ (b : Bool). b ≡ not (has c.args.self.now c.args.value.now))) (sym w.result-is)
      (w.in-Ok.ensures.added ∙ ap not (held c.args.value.now c.self.inside.keys.keys ∙ ap (λ l. has l c.args.value.now) c.self.view_is))
  | in-Err w ↦ subst (λ r. IfOk r (λ (b : Bool). b ≡ not (has c.args.self.now c.args.value.now))) (sym w.result-is) tt
]

pub returns-clause-more : goal.returns-clause-more
returns-clause-more c = elim c.match-insert.branch [
  | in-Ok w ↦ subst (λ r. OnOk r ((x : Value) → has (map (λ (k : Bor Value). k.now) c.insert.new.self.keys) x ≡ (has c.args.self.now x || same x c.args.value.now))) (sym w.result-is)
      (λ x. ap (λ (l : List (Bor Value)). has (map (λ k. k.now) l) x) w.in-Ok.ensures.keys
      ∙ noted c.args.value c.self.inside.keys.keys x
      ∙ ap (λ l. has l x || same x c.args.value.now) c.self.view_is)
  | in-Err w ↦ subst (λ r. OnOk r ((x : Value) → has (map (λ (k : Bor Value). k.now) c.insert.new.self.keys) x ≡ (has c.args.self.now x || same x c.args.value.now))) (sym w.result-is) tt
]
