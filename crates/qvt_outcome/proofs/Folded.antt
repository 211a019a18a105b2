-- Files that are read one after the other: what follows the chains of those that are left follows those of all.
use Rattle.std.proofs.Common.{◌≡◌, ◌<◌, ◌≤◌, ◌+◌, ◌∙◌, ap, sym, refl, subst, ℕ, List, ◌∷◌, drop, length, get_or, Ok, Err}
use Rattle.std.proofs.lemmas.List.{drop_more, drop_all}
use Rattle.qvt_base.specs.Outside.{FilesSeen}
use Rattle.qvt_outcome.specs.Chain.{Chain, step, folded, ◌>=>◌}
use Rattle.qvt_outcome.specs.Follows.{Follows, Continues}
use Rattle.qvt_outcome.specs.declared.stop.Stop.{Stop}
use Rattle.qvt_outcome.proofs.Chained.{stopped, chained, unread}

module _ {A B : Type 0} (f : B → A → Chain B) (xs : List A) where
  left : (b : B) (i : ℕ) (x : A) → i < length xs → x ≡ get_or xs i x → folded f b (drop i xs) ≡ (f b x >=> (λ c. folded f c (drop (i + 1) xs)))
  unfolding folded
  left b i x within is = ap (folded f b) (drop_more xs i x within ∙ ap (λ y. y ∷ drop (i + 1) xs) (sym is))

  none_left : (b : B) (i : ℕ) → length xs ≤ i → folded f b (drop i xs) ≡ step (Ok b)
  unfolding folded
  none_left b i past = ap (folded f b) (drop_all i xs past)

module _ {X Y A B : Type 0} (view : X → B) (seen : Y → B) (f : B → A → Chain B) (xs : List A) (whole : Chain B) (old : FilesSeen) where
  -- at the next item it ended
  pub fails : (b : B) (i : ℕ) (x : A) (now new : FilesSeen) (e : Stop) → i < length xs → x ≡ get_or xs i x
      → Continues view whole old (folded f b (drop i xs)) now → Follows seen (f b x) now (Err e) new → Follows view whole old (Err e) new
  fails b i x now new e within is so_far h = so_far (Err e) new (subst (λ c. Follows view c now (Err e) new) (sym (left f xs b i x within is))
      (stopped seen view (f b x) (λ c. folded f c (drop (i + 1) xs)) now new e h))

  -- the next item gave a value
  pub goes_on : (b : B) (i : ℕ) (x : A) (y : Y) (now next : FilesSeen) → i < length xs → x ≡ get_or xs i x
      → Continues view whole old (folded f b (drop i xs)) now → Follows seen (f b x) now (Ok y) next → Continues view whole old (folded f (seen y) (drop (i + 1) xs)) next
  goes_on b i x y now next within is so_far h = λ r new k. so_far r new (subst (λ c. Follows view c now r new) (sym (left f xs b i x within is))
      (chained seen view (f b x) (λ c. folded f c (drop (i + 1) xs)) now next new y r h k))

module _ {X A B : Type 0} (view : X → B) (f : B → A → Chain B) (xs : List A) (whole : Chain B) (old : FilesSeen) where
  -- none was left
  pub ends : (i : ℕ) (r : X) (now : FilesSeen) → length xs ≤ i → Continues view whole old (folded f (view r) (drop i xs)) now → Follows view whole old (Ok r) now
  ends i r now past so_far = so_far (Ok r) now (subst (λ c. Follows view c now (Ok r) now) (sym (none_left f xs (view r) i past))
      (unread view (Ok (view r)) now (Ok r) refl tt))
