-- The tree of bytes that are UTF-8, and the refusal of others.
use Rattle.std.proofs.Common.{◌≡◌, ◌∙◌, ap, sym, subst, refl, ℕ, List, Bool, true, false, cond, Result, Err, IsUtf8}
use Rattle.std.specs.Str.{is_utf8}
use Rattle.std.proofs.lemmas.Str.{is_utf8-from_IsUtf8, IsUtf8-from_is_utf8}
use Rattle.qvt_tree_types.specs.Module.{ModuleTerm, module_view}
use Rattle.qvt_tree_types.specs.declared.module.Module.{Module}
use Rattle.qvt_parsed.specs.Parsed.{parsed}
use Rattle.qvt_outcome.specs.Outcome.{Outcome, refused}
use Rattle.qvt_work.specs.Source.{tree_in}
use Rattle.qvt_outcome.specs.Steps.{Stops, GivesOrStops, RefusedOrNoMemory, or_refused}
use Rattle.qvt_outcome.specs.declared.refusal.Refusal.{Refusal}
use Rattle.qvt_outcome.specs.declared.refusal.Refusal.TheVariants as refusal
use Rattle.qvt_outcome.specs.declared.stop.Stop.{Stop}
use Rattle.qvt_outcome.specs.declared.stop.Stop.TheVariants as stop

not_utf8 : (bytes : List ℕ) (b : Bool) → ¬ IsUtf8 bytes → is_utf8 bytes ≡ b → b ≡ false
not_utf8 bytes true isnt is = absurd (isnt (IsUtf8-from_is_utf8 bytes is))
not_utf8 bytes false isnt is = refl

-- a file that is refused
pub refused_stops : {A : Type 0} (name : List ℕ) (why : Refusal) (e : Stop) (r : Result A Outcome) → r ≡ Err (refused name why) → RefusedOrNoMemory name why e → Stops e r
refused_stops name why (stop.Refused file cause) r is h = is ∙ (λ i. Err (refused (sym h.0 i) (sym h.1 i)))
refused_stops name why (stop.Fault line) r is h = absurd h
refused_stops name why (stop.OutOfFuel fuel) r is h = absurd h
refused_stops name why (stop.Low model id feature) r is h = absurd h
refused_stops name why (stop.ReadFault file) r is h = absurd h
refused_stops name why stop.NoMemory r is h = tt

pub no_text : (name bytes : List ℕ) (e : Stop) → ¬ IsUtf8 bytes → RefusedOrNoMemory name refusal.Utf8 e → Stops e (tree_in name bytes)
unfolding tree_in
no_text name bytes e isnt h = refused_stops name refusal.Utf8 e _
    (ap (λ b. cond b (or_refused refusal.Parse name (parsed bytes)) (Err (refused name refusal.Utf8))) (not_utf8 bytes (is_utf8 bytes) isnt refl)) h

pub tree_of_bytes : (name bytes text : List ℕ) (r : Result Module Stop) → IsUtf8 bytes → text ≡ bytes → GivesOrStops module_view r (or_refused refusal.Parse name (parsed text))
    → GivesOrStops module_view r (tree_in name bytes)
unfolding tree_in
tree_of_bytes name bytes text r valid same h = subst (λ (x : Result ModuleTerm Outcome). GivesOrStops module_view r x)
    (ap (λ t. or_refused refusal.Parse name (parsed t)) same
    ∙ sym (ap (λ b. cond b (or_refused refusal.Parse name (parsed bytes)) (Err (refused name refusal.Utf8))) (is_utf8-from_IsUtf8 bytes valid))) h
