-- The signatures of units are numbered.
use Rattle.std.proofs.Common.{◌≡◌, ℕ, ◌+◌, ◌==◌, ◌&&◌, Bool, true, false, List, [], ◌∷◌, refl}
use Rattle.std.specs.Prelude.{if◌then◌else◌}
use Rattle.std.proofs.lemmas.Bool.{and_from, eq-eqb}
use Rattle.qvt_metamodel.specs.Metamodels.{Metamodels}
use Rattle.qvt_tree_types.specs.Module.{UnitTerm, ClassOf, MainOf, HelperOf, ConstructorOf, MappingOf}
use Rattle.qvt_types_paths.specs.ModelTypes.{NamedTypes}
use Rattle.qvt_types_groups.specs.Signatures.{signature, signatures_from}
use Rattle.qvt_types_groups.specs.declared.signature.UnitSort.TheVariants as sort
use Rattle.qvt_types_program.specs.Mappings.{AreNumbered, are_numbered, has_number, number_after}

pub signed_from : (m : Metamodels) (t : NamedTypes) (n : ℕ) (us : List UnitTerm) → AreNumbered n (signatures_from m t n us)
unfolding signature
signed_from m t n [] = refl
signed_from m t n (ClassOf c ∷ us) = signed_from m t n us
signed_from m t n (MainOf body at ∷ us) = signed_from m t n us
signed_from m t n (HelperOf h ∷ us) = by h.pure (signed_from m t n us)
  where
    by : (pure : Bool) → AreNumbered n (signatures_from m t n us)
        → (has_number n (if pure then sort.Query else sort.Helper) && are_numbered (number_after n (if pure then sort.Query else sort.Helper)) (signatures_from m t n us)) ≡ true
    by true rest = rest
    by false rest = rest
signed_from m t n (ConstructorOf h ∷ us) = signed_from m t n us
signed_from m t n (MappingOf u ∷ us) = and_from (n == n) (are_numbered (n + 1) (signatures_from m t (n + 1) us)) (eq-eqb n n refl) (signed_from m t (n + 1) us)
