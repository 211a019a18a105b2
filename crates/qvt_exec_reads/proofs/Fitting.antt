-- The conditions of the store's calls as words that compute.
use Rattle.std.proofs.Common.{◌≡◌, ℕ, Bool, true, ◌==◌, List, length}
use Rattle.std.specs.Prelude.{nat_lt}
use Rattle.std.specs.List.{list_all}
use Rattle.std.proofs.lemmas.Bool.{eq-eqb, lt-ltb, ltb-true}
use Rattle.std.proofs.lemmas.Bool.Decides.{Decides-eqb}
use Rattle.qvt_value.specs.declared.value.Value.{Value}
use Rattle.qvt_metas.specs.Metamodels.{class_at}
use Rattle.qvt_relation.proofs.Bools.{and_both, and_left, and_right, not_of_false, not_true, same_test}
use Rattle.qvt_store.specs.Contents.{Contents, extent_at, is_extent, is_live, is_slot}
use Rattle.qvt_store.specs.Types.{IsAssignable, is_of_type}
use Rattle.qvt_store.specs.Sound.{IsClassFor}
use Rattle.qvt_run_rules.specs.Store.{are_fit, is_class_for}

module _ (s : Contents) (c e : ℕ) where
  met : IsClassFor s c e → is_class_for s c e ≡ true
  met k = and_both _ _ k.extent (and_both _ _ (lt-ltb c (length s.metas.classes) k.live) (and_both _ _ (eq-eqb (class_at s.metas c).metamodel (extent_at s e).metamodel k.metamodel) (not_of_false _ k.concrete)))

  told : is_class_for s c e ≡ true → IsClassFor s c e
  told h =
      let rest = and_right (is_extent s e) _ h in
      let last = and_right (nat_lt c (length s.metas.classes)) _ rest in record {
        extent = and_left _ _ h;
        live = ltb-true c (length s.metas.classes) (and_left _ _ rest);
        metamodel = (Decides-eqb (class_at s.metas c).metamodel (extent_at s e).metamodel).0 (and_left _ _ last);
        concrete = not_true _ (and_right ((class_at s.metas c).metamodel == (extent_at s e).metamodel) _ last);
      }

  pub class_for : (can : Bool) → (can ≡ true → IsClassFor s c e) → (IsClassFor s c e → can ≡ true) → can ≡ is_class_for s c e
  class_for can only full = same_test can (is_class_for s c e) (λ h. met (only h)) (λ h. full (told h))

module _ (s : Contents) (o f : ℕ) (vs : List Value) where
  fits : IsAssignable s o f vs → are_fit s o f vs ≡ true
  fits k = and_both _ _ (and_both _ _ k.live k.feature) k.types

  assigned : are_fit s o f vs ≡ true → IsAssignable s o f vs
  assigned h =
      let slot = and_left (is_slot s o f) (list_all (is_of_type s f) vs) h in record {
        live = and_left _ _ slot;
        feature = and_right (is_live s o) _ slot;
        types = and_right (is_slot s o f) _ h;
      }

  pub fit : (can : Bool) → (can ≡ true → IsAssignable s o f vs) → (IsAssignable s o f vs → can ≡ true) → can ≡ are_fit s o f vs
  fit can only full = same_test can (are_fit s o f vs) (λ h. fits (only h)) (λ h. full (assigned h))
