use Rattle.std.proofs.Common.{◌∙◌, ◌+◌, ◌<◌, [], ◌∷◌, List, ℕ, length, ap, subst, sym, slice_index_or}
use Rattle.std.proofs.lemmas.List.{length-append}
use Rattle.qvt_meta_names.specs.Rooted.{FindsPlaces}
use Rattle.qvt_meta_names.proofs.FirstPlaces.{ready_on, still_finds}
use Rattle.qvt_meta_names.proofs.Tables.{each-last}
use Rattle.qvt_meta_names.proofs.place_tables.place_tables.Goals as goal

pub loop-line-preserved : goal.loop-line-preserved
loop-line-preserved c = record {
  each = ap length c.in_ok-push.ensures.ok ∙ length-append c.loop-line.roots (c.in_ok-root.root ∷ []) ∙ ap (λ n. n + 1) c.loop-line.invariant.each;
  ready = ready_on _ _ _ _ c.loop-line.invariant.ready c.in_ok-root.ensures.more;
  finds = subst (λ (rs : List ℕ). (k : ℕ) → k < c.loop-line.line + 1 → FindsPlaces c.args.numbers.now (slice_index_or c.args.lists.now.lines k []) c.put_line.new.words c.levels_for-levels.result (slice_index_or rs k 0))
      (sym c.in_ok-push.ensures.ok)
      (each-last (λ k r. FindsPlaces c.args.numbers.now (slice_index_or c.args.lists.now.lines k []) c.put_line.new.words c.levels_for-levels.result r)
      0 c.loop-line.roots c.loop-line.line c.in_ok-root.root c.loop-line.invariant.each
      (λ k h. still_finds _ _ _ _ _ _ c.loop-line.invariant.ready.empty c.in_ok-root.ensures.more (c.loop-line.invariant.finds k h)) c.in_ok-root.ensures.finds);
}
