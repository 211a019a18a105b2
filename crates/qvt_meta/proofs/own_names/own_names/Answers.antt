use Rattle.std.proofs.Common.{◌≡◌, ◌∙◌, ◌+◌, ◌<◌, [], ◌∷◌, List, ℕ, length, position, ap, subst, sym, arith, slice_index_or}
use Rattle.std.specs.Map.{lookup}
use Rattle.std.specs.Str.{bytes_eq}
use Rattle.std.proofs.lemmas.List.{length-append, get_or_read}
use Rattle.qvt_metamodel.specs.declared.declared.DeclaredClass.{DeclaredClass}
use Rattle.qvt_metamodel.specs.declared.declared.DeclaredFeature.{DeclaredFeature}
use Rattle.qvt_metas.specs.Added.{declared_at, nothing_declared}
use Rattle.qvt_meta_checks.proofs.Paired.{each-more}
use Rattle.qvt_meta.proofs.own_names.own_names.Goals as goal

pub loop-class-preserved : goal.loop-class-preserved
loop-class-preserved c = record {
  each = ap length c.in_ok-push.ensures.ok ∙ length-append c.loop-class.tables (c.in_ok-names_of.field-0 ∷ []) ∙ ap (λ n. n + 1) c.loop-class.invariant.each;
  at = subst (λ (ts : List (List (List ℕ × ℕ))). (k : ℕ) → k < c.loop-class.class + 1 → (name : List ℕ) → lookup (bytes_eq name) (slice_index_or ts k []) ≡ position (λ (f : DeclaredFeature). bytes_eq name f.name) (declared_at c.args.classes.now k).features)
      (sym c.in_ok-push.ensures.ok)
      (each-more (λ k (t : List (List ℕ × ℕ)). (name : List ℕ) → lookup (bytes_eq name) t ≡ position (λ (f : DeclaredFeature). bytes_eq name f.name) (declared_at c.args.classes.now k).features) []
      c.loop-class.tables c.loop-class.class c.in_ok-names_of.field-0 c.loop-class.invariant.each c.loop-class.invariant.at
      (λ name. c.in_ok-names_of.ensures name
      ∙ ap (position (λ (f : DeclaredFeature). bytes_eq name f.name)) (c.as_slice.ensures ∙ ap (λ (k : DeclaredClass). k.features) (sym c.index-classes-class.is ∙ get_or_read c.args.classes.now c.loop-class.class _ (omega (arith, c.loop-class-test.true)) c.index-classes-class.is nothing_declared))));
}

pub returns : goal.returns
returns c =
    let test = c.loop-class-test.false in
    let end = c.loop-class.auto.class-end in
    record {
      each = c.loop-class.invariant.each ∙ (let all : c.loop-class.class ≡ length c.args.classes.now = omega (arith, test, end) in all);
      at = λ k live name. c.loop-class.invariant.at k (omega (arith, test, live)) name;
    }
