-- No text comes after itself.
use Rattle.std.proofs.Common.{◌≡◌, ◌∙◌, ℕ, List, true, false, refl, sym, ap}
use Rattle.std.specs.Ordering.{nat_cmp, is_eq}
use Rattle.std.specs.Str.{bytes_eq}
use Rattle.std.specs.Cmp.Lexicographic.{slice_cmp}
use Rattle.std.specs.declared.cmp.Ordering.TheVariants.{Greater}
use Rattle.std.proofs.lemmas.Map.Text.{is_eq-slice_cmp}
use Rattle.std.proofs.lemmas.Slice.Eq.{bytes_eq-Decides}

pub not_after_itself : (a : List ℕ) → slice_cmp nat_cmp a a ≡ Greater → ⊥
not_after_itself a h =
    let one : bytes_eq a a ≡ true = (bytes_eq-Decides a a).1 refl in
    let other : bytes_eq a a ≡ false = sym (is_eq-slice_cmp a a) ∙ ap is_eq h in
    let d : true ≡ false = sym one ∙ other in
    absurd cc
