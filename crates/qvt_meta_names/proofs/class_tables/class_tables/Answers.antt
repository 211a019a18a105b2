use Rattle.std.proofs.Common.{◌≡◌, ◌∙◌, ◌+◌, [], ◌∷◌, List, ℕ, length, ◌==◌, ◌&&◌, position, ap, subst, sym, slice_index_or, ◌<◌}
use Rattle.std.specs.Map.{lookup}
use Rattle.std.specs.Str.{bytes_eq}
use Rattle.std.proofs.lemmas.List.{length-append}
use Rattle.qvt_metamodel.specs.declared.info.ClassInfo.{ClassInfo}
use Rattle.qvt_meta_names.proofs.Tables.{each-next}
use Rattle.qvt_meta_names.proofs.class_tables.class_tables.Goals as goal

pub loop-metamodel-preserved : goal.loop-metamodel-preserved
loop-metamodel-preserved c = record {
  each = ap length c.in_ok-push.ensures.ok ∙ length-append c.loop-metamodel.tables (c.in_ok-class_table.field-0 ∷ []) ∙ ap (λ n. n + 1) c.loop-metamodel.invariant.each;
  names = subst (λ (ts : List (List (List ℕ × ℕ))). (k : ℕ) → k < c.loop-metamodel.metamodel + 1 → (name : List ℕ) → lookup (bytes_eq name) (slice_index_or ts k []) ≡ position (λ (x : ClassInfo). (x.metamodel == k) && bytes_eq name x.name) c.args.classes.now)
      (sym c.in_ok-push.ensures.ok)
      (each-next (λ k t. (name : List ℕ) → lookup (bytes_eq name) t ≡ position (λ (x : ClassInfo). (x.metamodel == k) && bytes_eq name x.name) c.args.classes.now)
      c.loop-metamodel.tables c.loop-metamodel.metamodel c.in_ok-class_table.field-0 c.loop-metamodel.invariant.each c.loop-metamodel.invariant.names c.in_ok-class_table.ensures);
}
