use Rattle.std.proofs.Common.{◌≡◌, ◌∙◌, [], List, length, ap, arith, subst, sym, None, ℕ}
use Rattle.qvt_base.specs.declared.numbers.FeatureNo.{FeatureNo}
use Rattle.qvt_metamodel.specs.declared.info.MetamodelInfo.{MetamodelInfo}
use Rattle.qvt_metamodel.specs.declared.info.ClassInfo.{ClassInfo}
use Rattle.qvt_metamodel.specs.declared.info.FeatureInfo.{FeatureInfo}
use Rattle.qvt_metamodel.specs.Kept.{IsKept}
use Rattle.qvt_metamodel.specs.Metamodels.{Metamodels}
use Rattle.qvt_metamodel.specs.declared.row.Row.{Row}
use Rattle.qvt_metamodel.proofs.Empty.{kept, no_metamodels}
use Rattle.qvt_metamodel.specs.Lists.{Lists, all_lists}
use Rattle.qvt_meta_names.specs.declared.place_tables.PlaceTables.{PlaceTables}
use Rattle.qvt_metas.proofs.FeaturePlaces.{none_numbered, none_placed}
use Rattle.qvt_metas.proofs.metas.Metas.new.Goals as goal

at_nothing : (ms : List MetamodelInfo) (cs : List ClassInfo) (fs : List FeatureInfo) (lists : List (List FeatureNo)) (rows : List Row) (ranks : List ℕ)
    → ms ≡ [] → cs ≡ [] → fs ≡ [] → lists ≡ [] → rows ≡ [] → ranks ≡ [] → IsKept (record { metamodels = ms; classes = cs; features = fs; element = None }) lists rows ranks
at_nothing ms cs fs lists rows ranks e1 e2 e3 e4 e5 e6 =
    subst (λ (x : Metamodels). IsKept x lists rows ranks) (λ i. record { metamodels = sym e1 i; classes = sym e2 i; features = sym e3 i; element = None })
    (subst (λ (x : List (List FeatureNo)). IsKept no_metamodels x rows ranks) (sym e4)
    (subst (λ (x : List Row). IsKept no_metamodels [] x ranks) (sym e5)
    (subst (λ (x : List ℕ). IsKept no_metamodels [] [] x) (sym e6) kept)))

pub invariant_of-result : goal.invariant_of-result
invariant_of-result c = record {
  kept = at_nothing _ _ _ _ _ _ c.new.ensures.items c.new-2.ensures.items c.new-3.ensures.items (ap all_lists c.new-4.ensures) c.new-5.ensures.items c.new-6.ensures.items;
  each = ap length c.new-7.ensures.items ∙ sym (ap length c.new.ensures.items);
  named = λ k h. absurd (omega (arith, h, ap length c.new.ensures.items));
  numbered = none_numbered _ _ _ c.new-3.ensures.items c.new-8.ensures c.new-9.ensures.items;
  placed = none_placed _ _ _ (ap (λ (ls : Lists). ls.lines) c.new-4.ensures) (ap (λ (t : PlaceTables). t.roots) c.new-10.ensures);
  enumerated = record {
    each = ap length c.new-11.ensures.items ∙ sym (ap length c.new.ensures.items);
    at = λ k h. absurd (omega (arith, h, ap length c.new.ensures.items));
  };
}
