use Rattle.std.proofs.Common.{◌≡◌, ◌∙◌, refl, ℕ, ◌+◌, ap, min, List, [], ◌∷◌, ◌++◌, length, arith, rules}
use Rattle.std.specs.Prelude.{Option, None}
use Rattle.std.proofs.lemmas.List.{length_push}
use Rattle.qvt_model.specs.IdTables.{id_in, with_room}
use Rattle.qvt_model.proofs.IdTables.{no_id_pushed, room_more, room_none, room_enough}
use Rattle.qvt_model.proofs.id_table.reach.Goals as goal

pub loop-place-init : goal.loop-place-init
loop-place-init c =
    let before : length c.args.ids.now.items ≡ c.len-before.result = search rules in
    record {
      room = before;
      same = λ x. refl;
      exact = room_none c.args.ids.now.items c.args.count ∙ ap (λ n. with_room c.args.ids.now.items (min n c.args.count)) before;
    }

pub loop-place-preserved : goal.loop-place-preserved
loop-place-preserved c = record {
  room = ap length c.in-Ok.ensures.items ∙ length_push c.loop-place.ids.items None ∙ ap (λ n. n + 1) c.loop-place.invariant.room;
  same = λ x. ap (λ (t : List (Option (List ℕ))). id_in t x) c.in-Ok.ensures.items ∙ no_id_pushed c.loop-place.ids.items x ∙ c.loop-place.invariant.same x;
  exact = c.in-Ok.ensures.items ∙ ap (λ (t : List (Option (List ℕ))). t ++ None ∷ []) c.loop-place.invariant.exact
      ∙ room_more c.args.ids.now.items c.loop-place._place c.args.count (let before : length c.args.ids.now.items ≡ c.len-before.result = search rules in omega (arith, before, c.loop-place.auto._place)) c.loop-place-test.true;
}

pub returns-clause-ok : goal.returns-clause-ok
returns-clause-ok c = record {
  room = omega (arith, c.loop-place.invariant.room, c.loop-place-test.false);
  same = c.loop-place.invariant.same;
  exact = c.loop-place.invariant.exact ∙ room_enough c.args.ids.now.items c.loop-place._place c.args.count c.loop-place-test.false;
}
