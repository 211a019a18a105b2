-- An early end by the fault of a metamodel is one of what is stated, and what an added metamodel leaves.
use Rattle.std.proofs.Common.{◌≡◌, ◌≢◌, ◌∙◌, ◌<◌, ap, sym, subst, arith, List, [], ◌∷◌, ◌++◌, length-append, true, false, Ok, Err}
use Rattle.std.specs.Prelude.{length, if◌then◌else◌}
use Rattle.std.specs.List.{AllByRecursion}
use Rattle.qvt_metas.specs.Metamodels.{Metamodels}
use Rattle.qvt_metas.specs.Added.{added, numbered}
use Rattle.qvt_metamodel.specs.Joined.{joined}
use Rattle.qvt_metamodel.specs.declared.declared.MetaData.{MetaData}
use Rattle.qvt_metamodel.specs.declared.info.MetamodelInfo.{MetamodelInfo}
use Rattle.qvt_metas.specs.Named.{has_metamodel}
use Rattle.qvt_metamodel.specs.declared.fault.MetasFault.{MetasFault}
use Rattle.qvt_metamodel.specs.declared.fault.MetasFault.TheVariants.{SameMetamodel}
use Rattle.qvt_work.specs.Metas.{with_metamodel}
use Rattle.qvt_program_inputs.specs.Law.{AreAllNamed}

one_added : (m : Metamodels) (d : MetaData) → 0 < length (added m d).metamodels
unfolding joined numbered
one_added m d = let more = length-append m.metamodels (numbered d).metamodels in omega (arith, more)

-- where one was added, there is one
pub some_metamodel : (m now : Metamodels) (d : MetaData) → now ≡ added m d → 0 < length now.metamodels
some_metamodel m now d h = subst (λ t. 0 < length t.metamodels) (sym h) (one_added m d)

-- a metamodel of the name is there
pub same_metamodel : (m : Metamodels) (d : MetaData) (why : MetasFault) → has_metamodel m d.name ≡ true → why ≡ SameMetamodel d.name → with_metamodel m d ≡ Err why
same_metamodel m d why there is = ap (λ b. if b then Err (SameMetamodel d.name) else Ok (added m d)) there ∙ ap Err (sym is)

pub new_metamodel : (m : Metamodels) (d : MetaData) → has_metamodel m d.name ≡ false → with_metamodel m d ≡ Ok (added m d)
new_metamodel m d fresh = ap (λ b. if b then Err (SameMetamodel d.name) else Ok (added m d)) fresh

one_more : (is : List MetamodelInfo) (i : MetamodelInfo) → AllByRecursion (λ (x : MetamodelInfo). x.name ≢ []) is → i.name ≢ [] → AllByRecursion (λ (x : MetamodelInfo). x.name ≢ []) (is ++ i ∷ [])
one_more [] i all h = (h, tt)
one_more (x ∷ xs) i all h = (all.0, one_more xs i all.1 h)

all_added : (m : Metamodels) (d : MetaData) → d.name ≢ [] → AreAllNamed m → AreAllNamed (added m d)
unfolding joined numbered
all_added m d named all = one_more m.metamodels _ all named

-- where one with a name was added to those that have names, each has one
pub named_metamodel : (m now : Metamodels) (d : MetaData) → now ≡ added m d → d.name ≢ [] → AreAllNamed m → AreAllNamed now
named_metamodel m now d h named all = subst AreAllNamed (sym h) (all_added m d named all)
