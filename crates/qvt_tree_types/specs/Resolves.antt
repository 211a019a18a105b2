-- The words of a resolve (QVT 1.3, 8.1.10), by what they ask.
use Rattle.std.specs.Prelude.{Bool, true, false}
use Rattle.qvt_tree_types.specs.declared.words.ResolveWord.{ResolveWord}
use Rattle.qvt_tree_types.specs.declared.words.ResolveWord.TheVariants.{ResolveOne, InvResolve, InvResolveOne, ResolveIn, ResolveOneIn, InvResolveIn, InvResolveOneIn}

-- the first of what is found, and no list
abbrev pub is_one : ResolveWord → Bool
is_one ResolveOne = true
is_one InvResolveOne = true
is_one ResolveOneIn = true
is_one InvResolveOneIn = true
is_one _ = false

-- from results to sources
abbrev pub is_inverse : ResolveWord → Bool
is_inverse InvResolve = true
is_inverse InvResolveOne = true
is_inverse InvResolveIn = true
is_inverse InvResolveOneIn = true
is_inverse _ = false

-- an `In` form: by the records of the mapping that is named, and where it is a dispatcher of those that it disjuncts to
abbrev pub is_within : ResolveWord → Bool
is_within ResolveIn = true
is_within ResolveOneIn = true
is_within InvResolveIn = true
is_within InvResolveOneIn = true
is_within _ = false
