-- Inputs that are loaded one after the other.
use Rattle.std.proofs.Common.{◌≡◌, ◌≢◌, ◌∙◌, ◌<◌, ap, sym, subst, ℕ, List, [], ◌∷◌, drop, get_or, length, ◌+◌, arith, Option, Result, Ok, Err}
use Rattle.std.specs.Prelude.{position, unwrap_or, nat_lt, OnOk, IfErr}
use Rattle.std.specs.Str.{bytes_eq}
use Rattle.std.proofs.lemmas.Bool.{ltb-true}
use Rattle.std.proofs.lemmas.List.{drop_more}
use Rattle.qvt_store.specs.declared.extent.Extent.{Extent}
use Rattle.qvt_store.specs.Contents.{Contents, Instance, is_extent, members_of}
use Rattle.qvt_store.specs.Sound.{Sound}
use Rattle.qvt_store.specs.Stay.{StaysIn}
use Rattle.qvt_model.specs.IdTables.{id_in}
use Rattle.qvt_model.specs.Loaded.{MembersStay}
use Rattle.qvt_job.specs.declared.job.JobModel.{JobModel}
use Rattle.qvt_outcome.specs.Steps.{Stops, GivesOrStops, IsFaultWith, IfFaultOf}
use Rattle.qvt_outcome.specs.declared.stop.Stop.{Stop}
use Rattle.qvt_outcome.specs.declared.stop.Stop.TheVariants as stop
use Rattle.qvt_inputs.specs.declared.loaded.Loaded.{Loaded}
use Rattle.qvt_inputs.specs.Inputs.{extent_named, metamodel_of, HasExtent, AreElsewhere, HaveExtents, IsLoaded}

module _ (s s' : Contents) (e : ℕ) (stays : StaysIn s s') (others : MembersStay s s' e) where
  same : (name : List ℕ) → extent_named s' name ≡ extent_named s name
  same name = ap (λ (es : List Extent). unwrap_or (position (λ x. bytes_eq name x.name) es) 0) stays.extents

  -- an input of another extent still has it
  still : (input : JobModel) → extent_named s input.model ≢ e → HasExtent s input → HasExtent s' input
  still input other h = record {
    there = ap (is_extent s') (same input.model) ∙ ap (λ (es : List Extent). is_extent (record s { extents = es }) (extent_named s input.model)) stays.extents ∙ h.there;
    empty = ap (members_of s') (same input.model) ∙ others.others (extent_named s input.model) other ∙ h.empty;
    metamodel = subst (λ n. n < length s'.metas.metamodels) (sym (ap (metamodel_of s') (same input.model) ∙ ap (λ (es : List Extent). metamodel_of (record s { extents = es }) (extent_named s input.model)) stays.extents))
        (subst (λ m. metamodel_of s (extent_named s input.model) < length m.metamodels) (sym stays.metas) h.metamodel);
  }

  elsewhere : (f : ℕ) (inputs : List JobModel) → AreElsewhere s f inputs → AreElsewhere s' f inputs
  elsewhere f [] h = tt
  elsewhere f (input ∷ inputs) h = (subst (λ k. k ≢ f) (sym (same input.model)) h.0, elsewhere f inputs h.1)

  -- what is left after one is loaded
  pub next : (inputs : List JobModel) → AreElsewhere s e inputs → HaveExtents s inputs → HaveExtents s' inputs
  next [] apart h = tt
  next (input ∷ inputs) apart h = (
    still input apart.0 h.0,
    subst (λ f. AreElsewhere s' f inputs) (sym (same input.model)) (elsewhere (extent_named s input.model) inputs h.1),
    next inputs apart.1 h.2,
  )

-- at the next input
pub first_of : (s : Contents) (inputs : List JobModel) (i : ℕ) (input : JobModel) → i < length inputs → input ≡ get_or inputs i input → HaveExtents s (drop i inputs) → HaveExtents s (input ∷ drop (i + 1) inputs)
first_of s inputs i input within is h = subst (HaveExtents s) (drop_more inputs i input within ∙ ap (λ x. x ∷ drop (i + 1) inputs) (sym is)) h

pub next_of : (s s' : Contents) (inputs : List JobModel) (i : ℕ) (input : JobModel) → i < length inputs → input ≡ get_or inputs i input → HaveExtents s (drop i inputs)
    → StaysIn s s' → MembersStay s s' (extent_named s input.model) → HaveExtents s' (drop (i + 1) inputs)
next_of s s' inputs i input within is h stays others =
    let all = first_of s inputs i input within is h in
    next s s' (extent_named s input.model) stays others (drop (i + 1) inputs) all.1 all.2

-- before the first
pub begins : (s : Contents) (ids : List (Option (List ℕ))) → ids ≡ [] → s.objects ≡ [] → Sound s → StaysIn s s → IsLoaded s (record { store = s; ids = ids })
begins s ids none empty sound stays = record {
  sound = sound;
  stays = stays;
  told = λ x live. absurd (let no : x < length {A = Instance} [] = ltb-true x 0 (ap (λ (obs : List Instance). nat_lt x (length obs)) (sym empty) ∙ live) in omega (arith, no));
  no_other = λ x dead. ap (λ table. id_in table x) none;
}

-- an input that was loaded, or for which there was no memory
pub loaded_gives : (r : Result (Unit {0}) Stop) (new x : Loaded) → OnOk r (new ≡ x) → IfErr r (λ e. e ≡ stop.NoMemory) → GivesOrStops (λ _. new) r (Ok x)
loaded_gives (Ok u) new x h k = ap Ok (sym h)
loaded_gives (Err e) new x h k = subst (λ s. Stops s (Ok x)) (sym k) tt

pub quiet : (r : Result (Unit {0}) Stop) → IfErr r (λ e. e ≡ stop.NoMemory) → IfFaultOf r (λ file. ⊥)
quiet (Ok u) k = tt
quiet (Err e) k = subst (λ s. IsFaultWith s (λ file. ⊥)) (sym k) tt
