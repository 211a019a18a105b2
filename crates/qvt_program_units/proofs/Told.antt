-- What typing finds for a class tells the choice.
use Rattle.std.proofs.Common.{◌≡◌, ◌∙◌, refl, sym, ap, ℕ, Bool, true, false, ◌&&◌, ◌||◌, List, [], ◌∷◌, Option, Some, None}
use Rattle.std.specs.Prelude.{if◌then◌else◌}
use Rattle.std.specs.Str.{bytes_eq}
use Rattle.std.proofs.lemmas.Bool.{eq-eqb}
use Rattle.std.proofs.lemmas.Slice.Eq.{bytes_eq-Decides}
use Rattle.qvt_metas.specs.Metamodels.{Metamodels, is_element}
use Rattle.qvt_metas.specs.Descends.{descends, reaches}
use Rattle.qvt_types_units.specs.declared.choice.FoundUnit.{FoundUnit}
use Rattle.qvt_types_units.specs.declared.choice.FoundUnit.TheVariants.{NoUnit, Untyped}
use Rattle.qvt_types_units.specs.declared.signature.HeadClass.{HeadClass}
use Rattle.qvt_types_units.specs.declared.signature.HeadClass.TheVariants.{Missing, Unknown, Known}
use Rattle.qvt_types_units.specs.declared.signature.Signature.{Signature}
use Rattle.qvt_types_units.specs.Choice.{candidates, chosen, chosen_of, context_at, is_context_above, is_ambiguous, is_below, is_empty, is_unsure, looked_up, lowest, single}
use Rattle.qvt_program_units.specs.Chosen.{alone, told}

abbrev inner : Option (Option ℕ) → Option ℕ
inner None = None
inner (Some o) = o

module _ (m : Metamodels) (us : List Signature) where
  none_of : (ns : List ℕ) → is_empty ns ≡ true → single (lowest m us ns) ≡ None
  none_of [] h = refl
  none_of (n ∷ ns) h = absurd (cc)

  where_clear : (a : Bool) (o x : Option ℕ) → Some x ≡ told (chosen_of a o) → x ≡ o
  where_clear true o x h = absurd (cc)
  where_clear false None x h = absurd (cc)
  where_clear false (Some n) x h = ap inner h

  by : (ns : List ℕ) (c : ℕ) (b e : Bool) (x : Option ℕ) → is_empty (candidates m us ns c) ≡ e
      → Some x ≡ told (if b then Untyped else if e then NoUnit else chosen_of (is_ambiguous m us ns c) (chosen m us ns c)) → x ≡ chosen m us ns c
  unfolding chosen
  by ns c true e x none h = absurd (cc)
  by ns c false true x none h = ap inner h ∙ sym (none_of (candidates m us ns c) none)
  by ns c false false x none h = where_clear (is_ambiguous m us ns c) (chosen m us ns c) x h

  pub told_is : (ns : List ℕ) (c : ℕ) (f : FoundUnit) (x : Option ℕ) → f ≡ looked_up m us ns c → Some x ≡ told f → x ≡ chosen m us ns c
  told_is ns c f x is h = by ns c (is_unsure us ns) (is_empty (candidates m us ns c)) x refl (h ∙ ap told is)

  -- one unit alone
  itself : (d : ℕ) → descends m d d ≡ true
  itself d = ap (λ b. b || is_element m d || reaches m d d) (eq-eqb d d refl)

  with_context : (n c : ℕ) (h : HeadClass) → h ≡ context_at us n → alone m h n c ≡ single (lowest m us (if is_context_above m h c then n ∷ [] else []))
  with_context n c Missing is = refl
  with_context n c Unknown is = refl
  with_context n c (Known d) is = from (descends m c d.0)
    where
      from : (b : Bool) → (if b then Some n else None) ≡ single (lowest m us (if b then n ∷ [] else []))
      from true = sym (ap (λ b. single (if b && true then n ∷ [] else [])) ((λ i. is_below m (sym is i) (sym is i)) ∙ itself d.0))
      from false = refl

  pub alone_is : (n c : ℕ) → alone m (context_at us n) n c ≡ chosen m us (n ∷ []) c
  unfolding chosen
  alone_is n c = with_context n c (context_at us n) refl

-- lists that are equal by their numbers
pub same_list : (xs ys : List ℕ) → bytes_eq xs ys ≡ true → xs ≡ ys
same_list xs ys h = (bytes_eq-Decides xs ys).0 h
