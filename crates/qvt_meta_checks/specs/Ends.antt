-- The ends of opposites that features are, by their names, types and opposites.
use Rattle.std.specs.Prelude.{◌≡◌, ℕ, Bool, ◌&&◌, ◌||◌, not, List, [], slice_index_or}
use Rattle.std.specs.List.{list_any}
use Rattle.std.specs.Str.{bytes_eq}
use Rattle.qvt_metamodel.specs.declared.declared.DeclaredFeature.{DeclaredFeature}
use Rattle.qvt_metamodel.specs.declared.declared.DeclaredClass.{DeclaredClass}
use Rattle.qvt_metamodel.specs.Added.{declared_at}
use Rattle.qvt_metamodel.specs.Checks.{is_given_name, is_one_at_most}
use Rattle.qvt_meta_checks.specs.declared.ends.OppositeEnd.{OppositeEnd}
use Rattle.qvt_meta_checks.specs.declared.ends.Ends.{Ends}

abbrev pub same_end : OppositeEnd → OppositeEnd → Bool
same_end a b = bytes_eq a.name b.name && (bytes_eq a.kind b.kind && bytes_eq a.opposite b.opposite)

-- the feature is this end
abbrev pub is_end : OppositeEnd → DeclaredFeature → Bool
is_end e g = bytes_eq e.name g.name && (bytes_eq e.kind g.kind && is_given_name g.opposite e.opposite)

-- the feature is this end, and where only these count a containment
abbrev pub is_end_of : Bool → OppositeEnd → DeclaredFeature → Bool
is_end_of only e g = (not only || g.containment) && is_end e g

-- with this feature joined to it a set holds what it held, and the end that the feature is
pub record JoinedEnd (only : Bool) (old : List OppositeEnd) (g : DeclaredFeature) (new : List OppositeEnd) : Type 0 where
  pub holds : (e : OppositeEnd) → list_any (same_end e) new ≡ (list_any (same_end e) old || is_end_of only e g)

-- the ends that these features are
pub record AreEnds (only : Bool) (gs : List DeclaredFeature) (ends : List OppositeEnd) : Type 0 where
  pub holds : (e : OppositeEnd) → list_any (same_end e) ends ≡ list_any (is_end_of only e) gs

-- the ends that a class declares, and those of them that are containments
pub record AreEndsOf (gs : List DeclaredFeature) (ends : Ends) : Type 0 where
  pub all : (e : OppositeEnd) → list_any (same_end e) ends.all ≡ list_any (is_end e) gs
  pub containers : (e : OppositeEnd) → list_any (same_end e) ends.containers ≡ list_any (λ g. g.containment && is_end e g) gs

abbrev pub no_ends : Ends
no_ends = record { all = []; containers = [] }

-- the ends of each of these classes
pub record AreAllEnds (ks : List DeclaredClass) (ends : List Ends) : Type 0 where
  pub at : (c : ℕ) → AreEndsOf (declared_at ks c).features (slice_index_or ends c no_ends)

-- the feature may not be contained by its opposite
abbrev pub may_not_be_contained : DeclaredFeature → Bool
may_not_be_contained f = f.containment || not (is_one_at_most f.upper)
