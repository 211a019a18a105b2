use Rattle.std.proofs.Common.{◌≡◌, ◌∙◌, ◌<◌, ◌+◌, ℕ, List, [], ◌∷◌, length, ap, sym, subst, arith, slice_index_or}
use Rattle.std.proofs.lemmas.List.{length-append, get_or_default}
use Rattle.qvt_metamodel.specs.declared.info.EnumInfo.{EnumInfo}
use Rattle.qvt_metamodel.specs.declared.info.MetamodelInfo.{MetamodelInfo}
use Rattle.qvt_metamodel.specs.Named.{nowhere_metamodel}
use Rattle.qvt_meta_names.specs.declared.enum_tables.EnumTable.{EnumTable}
use Rattle.qvt_meta_names.specs.Enumerated.{IsTabled, no_table}
use Rattle.qvt_meta_names.proofs.Tables.{each-last}
use Rattle.qvt_meta_names.proofs.enum_tables.enum_tables.Goals as goal

pub loop-place-preserved : goal.loop-place-preserved
loop-place-preserved c =
    let enums : c.as_slice.result.now ≡ (slice_index_or c.args.metamodels.now c.loop-place.place nowhere_metamodel).enums = c.as_slice.ensures ∙ ap (λ (m : MetamodelInfo). m.enums) (get_or_default c.args.metamodels.now c.loop-place.place c.index-metamodels-place.result nowhere_metamodel (omega (arith, c.loop-place-test.true))) in
    let here : IsTabled (slice_index_or c.args.metamodels.now c.loop-place.place nowhere_metamodel).enums c.in_ok-enum_table.field-0 = subst (λ (es : List EnumInfo). IsTabled es c.in_ok-enum_table.field-0) enums c.in_ok-enum_table.ensures in
    record {
      each = ap length c.in_ok-push.ensures.ok ∙ length-append c.loop-place.tables (c.in_ok-enum_table.field-0 ∷ []) ∙ ap (λ n. n + 1) c.loop-place.invariant.each;
      at = subst (λ (ts : List EnumTable). (k : ℕ) → k < c.loop-place.place + 1 → IsTabled (slice_index_or c.args.metamodels.now k nowhere_metamodel).enums (slice_index_or ts k no_table))
          (sym c.in_ok-push.ensures.ok)
          (each-last (λ k t. IsTabled (slice_index_or c.args.metamodels.now k nowhere_metamodel).enums t)
          no_table c.loop-place.tables c.loop-place.place c.in_ok-enum_table.field-0 c.loop-place.invariant.each c.loop-place.invariant.at here);
    }
