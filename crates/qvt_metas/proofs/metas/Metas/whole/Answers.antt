use Rattle.std.proofs.Common.{◌≡◌, ◌∙◌, ℕ, ◌==◌, ◌&&◌, List, length, ap, subst, sym, arith, position}
use Rattle.std.specs.Str.{bytes_eq}
use Rattle.qvt_metamodel.specs.declared.info.ClassInfo.{ClassInfo}
use Rattle.qvt_metamodel.specs.declared.info.FeatureInfo.{FeatureInfo}
use Rattle.qvt_metamodel.specs.declared.info.MetamodelInfo.{MetamodelInfo}
use Rattle.qvt_meta_names.specs.Enumerated.{AreEachFew, AreTabled}
use Rattle.qvt_meta_names.specs.Named.{numbers_of}
use Rattle.qvt_meta_names.specs.Rooted.{ArePlaced}
use Rattle.qvt_metas.proofs.metas.Metas.whole.Goals as goal

pub invariant_of-result : goal.invariant_of-result
invariant_of-result c = let many : c.len.result ≡ length c.args.metamodels.items = omega (arith, c.len.ensures) in record {
  kept = c.requires;
  each = c.in_ok-names.ensures.each ∙ many;
  named = λ k h name. c.in_ok-names.ensures.names k (omega (arith, h, many)) name ∙ ap (λ (cs : List ClassInfo). position (λ (x : ClassInfo). (x.metamodel == k) && bytes_eq name x.name) cs) c.as_slice.ensures.value;
  numbered = record {
    first = λ name. c.in_ok-feature_names.ensures name ∙ ap (λ (fs : List FeatureInfo). position (λ (x : FeatureInfo). bytes_eq name x.name) fs) c.as_slice-2.ensures.value;
    each = c.in_ok-numbers.ensures ∙ ap (λ (fs : List FeatureInfo). numbers_of c.in_ok-feature_names.feature_names fs) c.as_slice-3.ensures.value;
  };
  placed = subst (λ (ns : List ℕ). ArePlaced ns c.args.lists.lines c.in_ok-places.places) c.as_slice-4.ensures.value c.in_ok-places.ensures;
  enumerated = subst (λ (ms : List MetamodelInfo). AreTabled ms c.in_ok-enumerations.enumerations.items) c.as_slice-5.ensures.value c.in_ok-enumerations.ensures;
}

pub enum_tables-requires : goal.enum_tables-requires
enum_tables-requires c = subst AreEachFew (sym c.as_slice-5.ensures.value) (λ k. record { enumerations = c.requires.well_formed.few_enumerations k; literals = c.requires.well_formed.few_literals k })
