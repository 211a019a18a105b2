-- The whole transformation.
use Rattle.std.proofs.Common.{◌≡◌, true, List, [], ◌∷◌}
use Rattle.std.specs.List.{list_all}
use Rattle.qvt_metas.specs.Metamodels.{Metamodels}
use Rattle.qvt_tree_types.specs.Module.{ModuleTerm}
use Rattle.qvt_types_data.specs.declared.refusal.TypingRefusal.{TypingRefusal}
use Rattle.qvt_typing.specs.Accepts.{heads_of, heads_told, bare_notes, whole, start, judged}
use Rattle.qvt_typing.specs.Context.{DeclaredHeads}
use Rattle.qvt_typed_laws.specs.Typed.{is_typed_note}
use Rattle.qvt_typed_laws.proofs.Contexts.{TypedHeads}
use Rattle.qvt_typed_laws.proofs.Every.{none, every_all}
use Rattle.qvt_typed_laws.proofs.Heads.{heads_typed}
use Rattle.qvt_typed_laws.proofs.Keeps.{Anything, Tidy, Keeps, weak, next, given, blank}
use Rattle.qvt_typed_laws.proofs.Units.{units}

blanks : {A P : Type 0} (all : List A) → Keeps P Anything (bare_notes all)
blanks [] = given tt (λ h. tt)
blanks (a ∷ all) = next blank (λ u. blanks all)

kept : (h : DeclaredHeads) (t : ModuleTerm) → Keeps (TypedHeads h) Anything (whole h t)
kept h t = next (blanks t.model_types) (λ u. next (blanks t.params) (λ v. weak (λ k. k.0.0) (units h 0 t.units)))

at_the_start : (told : List TypingRefusal) → Tidy (start told)
at_the_start told = record { scope = record { named = none; sources = none }; notes = none }

-- what is told of the heads stays told
pub heads_untold : (m : Metamodels) (t : ModuleTerm) → (judged (heads_of m t) t).log ≡ [] → heads_told (heads_of m t) t ≡ []
unfolding judged
heads_untold m t e = (kept (heads_of m t) t).back (start (heads_told (heads_of m t) t)) e

pub whole_typed : (m : Metamodels) (t : ModuleTerm) → (judged (heads_of m t) t).log ≡ [] → list_all is_typed_note (judged (heads_of m t) t).notes ≡ true
unfolding judged
whole_typed m t e =
    let h = heads_of m t in
    let all = kept h t in
    every_all is_typed_note _ (all.on (heads_typed m t (all.back (start (heads_told h t)) e)) (start (heads_told h t)) (at_the_start (heads_told h t)) e).0.notes
