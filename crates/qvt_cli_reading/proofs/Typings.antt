-- What typing refuses is told of the text.
use Rattle.std.proofs.Common.{◌≡◌, ◌≢◌, ◌∙◌, ap, sym, subst, refl, ℕ, List, Option, Some, None, Result, Ok, Err}
use Rattle.std.specs.Prelude.{MatchOption}
use Rattle.qvt_base.specs.declared.numbers.Place.{Place}
use Rattle.qvt_types_data.specs.declared.refusal.TypingRefusal.{TypingRefusal}
use Rattle.qvt_types_data.specs.declared.refusal.RefusalKind.{RefusalKind}
use Rattle.qvt_types_data.specs.declared.refusal.RefusalKind.TheVariants as kind
use Rattle.qvt_typing.specs.Accepts.{ProgramTerm}
use Rattle.qvt_types.specs.Faults.{fault_at, fault_of, answered}
use Rattle.qvt_types.specs.declared.fault.TypingFault.{TypingFault}
use Rattle.qvt_types.specs.declared.fault.TypingFault.TheVariants as fault
use Rattle.qvt_outcome.specs.Steps.{Stops, RefusedOrNoMemory, or_refused}
use Rattle.qvt_outcome.specs.declared.refusal.Refusal.TheVariants as refusal
use Rattle.qvt_outcome.specs.declared.stop.Stop.{Stop}
use Rattle.qvt_outcome.specs.declared.stop.Stop.TheVariants as stop
use Rattle.qvt_cli_reading.specs.Typing.{refusal_in}
use Rattle.qvt_cli_reading.proofs.Sources.{refused_stops}

abbrev at : RefusalKind → Place → TypingRefusal
at k p = record { kind = k; place = p }

-- a refusal is told by its fault
told : (k : RefusalKind) (p : Place) → refusal_in (fault_at k p) ≡ Some (at k p)
told kind.UnknownMetamodel p = refl
told kind.UnknownName p = refl
told kind.UnknownType p = refl
told kind.SameName p = refl
told kind.Ambiguous p = refl
told kind.WrongType p = refl
told kind.WrongCount p = refl
told kind.NotPure p = refl
told kind.LatePlace p = refl
told kind.NotPlain p = refl
told kind.ReuseCycle p = refl
told kind.BadReuse p = refl
told kind.BadOverride p = refl
told kind.BadContext p = refl
told kind.BadTarget p = refl
told kind.BadReturn p = refl
told kind.BadExtent p = refl
told kind.AbstractClass p = refl
told kind.ResultPlace p = refl
told kind.BadDisjunct p = refl
told kind.ModelUse p = refl
told kind.NoMain p = refl

the_refusal : (f : TypingFault) (why : TypingRefusal) (r : Result ProgramTerm TypingRefusal) → refusal_in f ≡ Some why → answered r ≡ Err f → r ≡ Err why
the_refusal f why (Ok p) is e = cc
the_refusal f why (Err q) is e =
    let same : fault_of q ≡ f = cc in
    let both : Some q ≡ Some why = sym (told q.kind q.place) ∙ ap refusal_in same ∙ is in
    cc

pub typing_stops : (name : List ℕ) (f : TypingFault) (e : Stop) (r : Result ProgramTerm TypingRefusal)
    → MatchOption (refusal_in f) (e ≡ stop.NoMemory) (λ why. RefusedOrNoMemory name (refusal.Typing why) e) → (f ≢ fault.NoMemory → answered r ≡ Err f)
    → Stops e (or_refused refusal.Typing name r)
typing_stops name f e r h is = go (refusal_in f) refl h
  where
    go : (o : Option TypingRefusal) → refusal_in f ≡ o → MatchOption o (e ≡ stop.NoMemory) (λ why. RefusedOrNoMemory name (refusal.Typing why) e) → Stops e (or_refused refusal.Typing name r)
    go None nothing end = subst (λ (s : Stop). Stops s (or_refused refusal.Typing name r)) (sym end) tt
    go (Some why) one end =
        let other : f ≢ fault.NoMemory = λ none. (let q : Some why ≡ None = sym one ∙ ap refusal_in none in absurd cc) in
        refused_stops name (refusal.Typing why) e (or_refused refusal.Typing name r) (ap (or_refused refusal.Typing name) (the_refusal f why r one (is other))) end

-- a program that is given is that of the tree
pub not_refused : (name : List ℕ) (r : Result ProgramTerm TypingRefusal) (p : ProgramTerm) → or_refused refusal.Typing name r ≡ Ok p → r ≡ Ok p
not_refused name (Ok q) p e = cc
not_refused name (Err why) p e = absurd (cc)
