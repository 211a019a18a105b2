-- Of a transformation that is accepted nothing is told.
use Rattle.std.proofs.Common.{◌≡◌, refl, sym, ap, List, [], ◌∷◌, Option, Some, None, Result, Ok, Err}
use Rattle.qvt_types_data.specs.declared.refusal.TypingRefusal.{TypingRefusal}
use Rattle.qvt_types_laws.specs.JoinModule.{joined}
use Rattle.qvt_types_nodes.specs.Module.{TypedModuleTerm}
use Rattle.qvt_typing.specs.Accepts.{ProgramTerm, accepts, accepted, heads_of, judged, least, least_from, sooner}
use Rattle.qvt_typing.specs.Context.{DeclaredHeads}
use Rattle.qvt_typed_laws.specs.Accepted.{AcceptedIsJudged}
use Rattle.qvt_typed_laws.proofs.Whole.{heads_untold}

-- what has refusals has a least one
some_least : (r : TypingRefusal) (rs : List TypingRefusal) → least_from (Some r) rs ≡ None → ⊥
some_least r [] e = cc
some_least r (s ∷ rs) e = some_least (sooner (Some r) s) rs e

none_told : (rs : List TypingRefusal) → least rs ≡ None → rs ≡ []
none_told [] e = refl
none_told (r ∷ rs) e = absurd (some_least r rs e)

pub record Parts (h : DeclaredHeads) (typed : TypedModuleTerm) (o : Option TypingRefusal) (p : ProgramTerm) : Type 0 where
  pub heads : p.heads ≡ h
  pub tree : p.module_ ≡ typed
  pub none : o ≡ None

abbrev heads_or : DeclaredHeads → Result ProgramTerm TypingRefusal → DeclaredHeads
heads_or h (Ok p) = p.heads
heads_or h (Err r) = h

abbrev tree_or : TypedModuleTerm → Result ProgramTerm TypingRefusal → TypedModuleTerm
tree_or typed (Ok p) = p.module_
tree_or typed (Err r) = typed

parts : (h : DeclaredHeads) (typed : TypedModuleTerm) (o : Option TypingRefusal) (p : ProgramTerm) → accepted h typed o ≡ Ok p → Parts h typed o p
parts h typed None p e = record { heads = ap (heads_or h) (sym e); tree = ap (tree_or typed) (sym e); none = refl }
parts h typed (Some r) p e = absurd (cc)

pub accepted_is_judged : AcceptedIsJudged
unfolding accepts
accepted_is_judged m t p e =
    let h = heads_of m t in
    let of = parts h (joined t (judged h t).notes) (least (judged h t).log) p e in
    let untold = none_told (judged h t).log of.none in
    record { heads = of.heads; tree = of.tree; untold = untold; heads_untold = heads_untold m t untold }
