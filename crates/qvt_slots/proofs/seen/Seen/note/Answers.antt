use Rattle.std.proofs.Common.{◌≡◌, ◌∙◌, ◌||◌, ap, sym, subst, map, IfOk, OnOk, List, Bor}
use Rattle.std.specs.List.{list_any}
use Rattle.qvt_value.specs.declared.value.Value.{Value}
use Rattle.qvt_value.specs.Kept.{is_same}
use Rattle.qvt_value.specs.Order.{order_of}
use Rattle.qvt_slots.specs.Noted.{with_noted, NotesValue}
use Rattle.qvt_slots.proofs.Noting.{found, notes_key, key_noted, denied}
use Rattle.qvt_slots.proofs.seen.Seen.note.Goals as goal
use Rattle.qvt_slots.proofs.seen.Seen.note.Goals.{in-Ok, in-Err}

pub returns-clause-before : goal.returns-clause-before
returns-clause-before c = elim c.match-insert.branch [
  | in-Ok w ↦ subst (λ r. IfOk r (λ before. before ≡ list_any (is_same order_of c.args.value.now) c.args.self.now)) (sym w.result-is)
      (denied w.in-Ok.ensures.added ∙ found c.args.value c.self.inside.keys.keys ∙ ap (list_any (is_same order_of c.args.value.now)) c.self.view_is)
  | in-Err w ↦ subst (λ r. IfOk r (λ before. before ≡ list_any (is_same order_of c.args.value.now) c.args.self.now)) (sym w.result-is) tt
]

pub returns-clause-noted : goal.returns-clause-noted
returns-clause-noted c = elim c.match-insert.branch [
  | in-Ok w ↦ subst (λ r. OnOk r (NotesValue c.args.self.now (map (λ (k : Bor Value). k.now) c.insert.new.self.keys) c.args.value.now)) (sym w.result-is)
      (λ u. ap (λ (l : List (Bor Value)). list_any (is_same order_of u) (map (λ k. k.now) l)) w.in-Ok.ensures.keys
      ∙ notes_key c.args.value c.self.inside.keys.keys u
      ∙ ap (λ l. list_any (is_same order_of u) l || is_same order_of u c.args.value.now) c.self.view_is)
  | in-Err w ↦ subst (λ r. OnOk r (NotesValue c.args.self.now (map (λ (k : Bor Value). k.now) c.insert.new.self.keys) c.args.value.now)) (sym w.result-is) tt
]

pub returns-clause-exact : goal.returns-clause-exact
returns-clause-exact c = elim c.match-insert.branch [
  | in-Ok w ↦ subst (λ r. OnOk r (map (λ (k : Bor Value). k.now) c.insert.new.self.keys ≡ with_noted c.args.self.now c.args.value.now)) (sym w.result-is)
      (ap (map (λ (k : Bor Value). k.now)) w.in-Ok.ensures.keys
      ∙ key_noted c.args.value c.self.inside.keys.keys
      ∙ ap (λ l. with_noted l c.args.value.now) c.self.view_is)
  | in-Err w ↦ subst (λ r. OnOk r (map (λ (k : Bor Value). k.now) c.insert.new.self.keys ≡ with_noted c.args.self.now c.args.value.now)) (sym w.result-is) tt
]
