use Rattle.std.proofs.Common.{◌≡◌, ◌∙◌, ◌<◌, ◌+◌, ℕ, List, [], ◌∷◌, length, position, ap, sym, subst, arith, slice_index_or}
use Rattle.std.specs.Map.{lookup}
use Rattle.std.specs.Str.{bytes_eq}
use Rattle.std.proofs.lemmas.List.{length-append, get_or_default}
use Rattle.qvt_metamodel.specs.declared.info.EnumInfo.{EnumInfo}
use Rattle.qvt_metamodel.specs.Named.{nowhere_enumeration}
use Rattle.qvt_meta_names.proofs.Tables.{each-last}
use Rattle.qvt_meta_names.proofs.enum_tables.literal_tables.Goals as goal

pub loop-place-preserved : goal.loop-place-preserved
loop-place-preserved c =
    let here : (name : List ℕ) → lookup (bytes_eq name) c.in_ok-literal_table.field-0 ≡ position (bytes_eq name) (slice_index_or c.args.enums.now c.loop-place.place nowhere_enumeration).literals =
    λ name. c.in_ok-literal_table.ensures name ∙ ap (position (bytes_eq name)) (c.as_slice-literals.ensures ∙ ap (λ (e : EnumInfo). e.literals) (get_or_default c.args.enums.now c.loop-place.place c.index-enums-place.result nowhere_enumeration (omega (arith, c.loop-place-test.true)))) in
    record {
      each = ap length c.in_ok-push.ensures.ok ∙ length-append c.loop-place.tables (c.in_ok-literal_table.field-0 ∷ []) ∙ ap (λ n. n + 1) c.loop-place.invariant.each;
      literals = subst (λ (ts : List (List (List ℕ × ℕ))). (e : ℕ) → e < c.loop-place.place + 1 → (name : List ℕ) → lookup (bytes_eq name) (slice_index_or ts e []) ≡ position (bytes_eq name) (slice_index_or c.args.enums.now e nowhere_enumeration).literals)
          (sym c.in_ok-push.ensures.ok)
          (each-last (λ e t. (name : List ℕ) → lookup (bytes_eq name) t ≡ position (bytes_eq name) (slice_index_or c.args.enums.now e nowhere_enumeration).literals)
          [] c.loop-place.tables c.loop-place.place c.in_ok-literal_table.field-0 c.loop-place.invariant.each c.loop-place.invariant.literals here);
    }
