-- The items of a list that repeat an earlier one.
use Rattle.std.proofs.Common.{◌≡◌, ◌∙◌, ℕ, zero, suc, ◌+◌, ◌<◌, ◌≤◌, ◌==◌, ◌||◌, List, [], ◌∷◌, ◌++◌, length, map, take, drop, get_or, Bool, true, false, Option, Some, None, position, refl, ap, sym, arith, append_assoc, append-nil}
use Rattle.std.specs.Prelude.{is_some}
use Rattle.std.specs.List.{list_any, slice_get, AllByRecursion}
use Rattle.std.proofs.lemmas.List.{take_more, length-append, length-map, length-take-le, get_or-map, get_or-take, get_or_append_left, get_or_push}
use Rattle.std.proofs.lemmas.List.Folds.{list_any-append}
use Rattle.std.proofs.lemmas.Option.{slice_get_within, get_or_from_slice_get}
use Rattle.qvt_base.specs.declared.numbers.FeatureNo.{FeatureNo}
use Rattle.qvt_metamodel.specs.declared.front.Front.{Front}
use Rattle.qvt_metamodel.specs.Lists.{front_of, BeginsWith}
use Rattle.qvt_metamodel.proofs.Lookups.{position-first}
use Rattle.qvt_meta_names.proofs.Fronts.{position-none}
use Rattle.qvt_meta_names.specs.Named.{number_at}
use Rattle.qvt_meta_repeats.specs.Flags.{repeat_flags, same_number, number_flags, front_flags, AreFlagged}

module _ {X : Type 0} (same : X → X → Bool) where
  pub flags_count : (earlier xs : List X) → length (repeat_flags same earlier xs) ≡ length xs
  flags_count earlier [] = refl
  flags_count earlier (x ∷ xs) = ap suc (flags_count (earlier ++ x ∷ []) xs)

  -- the flags of the first ones are the first flags
  pub flags_take : (n : ℕ) (earlier xs : List X) → take n (repeat_flags same earlier xs) ≡ repeat_flags same earlier (take n xs)
  flags_take zero earlier xs = refl
  flags_take (suc n) earlier [] = refl
  flags_take (suc n) earlier (x ∷ xs) = ap (λ bs. list_any (same x) earlier ∷ bs) (flags_take n (earlier ++ x ∷ []) xs)

  -- those of the others count the first ones as earlier
  pub flags_drop : (n : ℕ) (earlier xs : List X) → drop n (repeat_flags same earlier xs) ≡ repeat_flags same (earlier ++ take n xs) (drop n xs)
  flags_drop zero earlier xs = ap (λ e. repeat_flags same e xs) (sym (append-nil earlier))
  flags_drop (suc n) earlier [] = refl
  flags_drop (suc n) earlier (x ∷ xs) = flags_drop n (earlier ++ x ∷ []) xs ∙ ap (λ e. repeat_flags same e (drop n xs)) (append_assoc earlier (x ∷ []) (take n xs))

  -- the flag of a place
  pub flag_at : (earlier xs : List X) (i : ℕ) (d : X) → i < length xs → get_or (repeat_flags same earlier xs) i false ≡ list_any (same (get_or xs i d)) (earlier ++ take i xs)
  flag_at earlier [] i d l = absurd (omega (arith, l))
  flag_at earlier (x ∷ xs) zero d l = ap (list_any (same x)) (sym (append-nil earlier))
  flag_at earlier (x ∷ xs) (suc i) d l = flag_at (earlier ++ x ∷ []) xs i d (omega (arith, l)) ∙ ap (list_any (same (get_or xs i d))) (append_assoc earlier (x ∷ []) (take i xs))

  -- one flag more
  pub flags_next : (bs next : List Bool) (b : Bool) (xs : List X) (i : ℕ) (d : X) → i < length xs
      → b ≡ list_any (same (get_or xs i d)) (take i xs)
      → bs ≡ take i (repeat_flags same [] xs)
      → next ≡ bs ++ b ∷ []
      → next ≡ take (i + 1) (repeat_flags same [] xs)
  flags_next bs next b xs i d l is h more =
      more
      ∙ (λ t. h t ++ (is ∙ sym (flag_at [] xs i d l)) t ∷ [])
      ∙ sym (take_more (repeat_flags same [] xs) i false (omega (arith, l, flags_count [] xs)))

-- items that are the same exactly where others are have the same flags
pub flags_map : {X Y : Type 0} (h : X → Y) (P : X → Type 0) (same : X → X → Bool) (other : Y → Y → Bool) → ((x y : X) → P x → P y → other (h x) (h y) ≡ same x y)
    → (earlier xs : List X) → AllByRecursion P earlier → AllByRecursion P xs → repeat_flags other (map h earlier) (map h xs) ≡ repeat_flags same earlier xs
flags_map {X} {Y} h P same other is earlier xs old new = by earlier xs old new
  where
    among : (x : X) → P x → (es : List X) → AllByRecursion P es → list_any (other (h x)) (map h es) ≡ list_any (same x) es
    among x p [] all = refl
    among x p (e ∷ es) all = (λ t. is x e p all.0 t || among x p es all.1 t)

    more : (es : List X) (x : X) → P x → AllByRecursion P es → AllByRecursion P (es ++ x ∷ [])
    more [] x p all = (p, tt)
    more (e ∷ es) x p all = (all.0, more es x p all.1)

    grown : (es : List X) (x : X) → map h es ++ h x ∷ [] ≡ map h (es ++ x ∷ [])
    grown [] x = refl
    grown (e ∷ es) x = ap (λ ys. h e ∷ ys) (grown es x)

    by : (es ys : List X) → AllByRecursion P es → AllByRecursion P ys → repeat_flags other (map h es) (map h ys) ≡ repeat_flags same es ys
    by es [] a b = refl
    by es (y ∷ ys) a b = (λ t. among y b.0 es a t ∷ (ap (λ e. repeat_flags other e (map h ys)) (grown es y) ∙ by (es ++ y ∷ []) ys (more es y b.0 a) b.1) t)

or_false : (b : Bool) → (b || false) ≡ b
or_false true = refl
or_false false = refl

-- one more name is seen
pub seen_next : (numbers : List ℕ) (list : List FeatureNo) (i n : ℕ) (e : FeatureNo) → i < length list
    → list_any (λ g. number_at numbers g == n) (take (i + 1) list) ≡ (list_any (λ g. number_at numbers g == n) (take i list) || (number_at numbers (get_or list i e) == n))
seen_next numbers list i n e l =
    ap (list_any (λ (g : FeatureNo). number_at numbers g == n)) (take_more list i e l)
    ∙ list_any-append (λ (g : FeatureNo). number_at numbers g == n) (take i list) (get_or list i e ∷ [])
    ∙ ap (λ b. list_any (λ (g : FeatureNo). number_at numbers g == n) (take i list) || b) (or_false (number_at numbers (get_or list i e) == n))

pub or_assoc : (a b c : Bool) → (a || (b || c)) ≡ ((a || b) || c)
or_assoc true b c = refl
or_assoc false b c = refl

-- the first flag, put last
pub first_put : (bs next : List Bool) (o : Option ℕ) (b : Bool) (n : ℕ) → o ≡ position (λ x. x) bs → is_some o ≡ false → b ≡ true → next ≡ bs ++ b ∷ [] → n ≡ length bs
    → Some n ≡ position (λ x. x) next
first_put bs next (Some i) b n at none flag more last = absurd (cc)
first_put bs next None b n at none flag more last =
    sym (ap (position (λ x. x)) (more ∙ ap (λ x. bs ++ x ∷ []) flag)
    ∙ position-first (λ x. x) (bs ++ true ∷ []) n false (omega (arith, last, length-append bs (true ∷ []))) (get_or_push bs true false n (sym last))
    (λ j l. (let below : j < length bs = omega (arith, last, l) in get_or_append_left bs (true ∷ []) false j below ∙ position-none (λ x. x) bs j false (sym at) below)))

-- the flags of lines, and of lists that are the first ones of them

pub flags_at : (numbers : List ℕ) (lines : List (List FeatureNo)) (l : ℕ) → get_or (map (number_flags numbers) lines) l [] ≡ number_flags numbers (get_or lines l [])
flags_at numbers [] l = refl
flags_at numbers (x ∷ lines) zero = refl
flags_at numbers (x ∷ lines) (suc l) = flags_at numbers lines l

-- a line that begins with a front of a line before it, by the flags of those
module _ (numbers : List ℕ) (lines : List (List FeatureNo)) (l : ℕ) (f : Front) (begins : BeginsWith lines l f) (all : List (List Bool)) (flagged : all ≡ map (number_flags numbers) (take l lines)) where
  flags_before : get_or all f.line [] ≡ number_flags numbers (get_or lines f.line [])
  flags_before =
      ap (λ fs. get_or fs f.line []) flagged ∙ flags_at numbers (take l lines) f.line
      ∙ ap (number_flags numbers) (get_or-take l lines f.line [] begins.before)

  pub flags_there : l < length lines → f.line < length all
  flags_there h = omega (arith, begins.before, ap (λ x. length x) flagged, length-map (take l lines) (number_flags numbers), length-take-le l lines (omega (arith, h)))

  pub flags_within : f.count ≤ length (get_or all f.line [])
  flags_within = omega (arith, begins.front.count, ap (λ x. length x) flags_before, flags_count (same_number numbers) [] (get_or lines f.line []))

  pub flags_begun : take f.count (get_or all f.line []) ≡ take f.count (number_flags numbers (get_or lines l []))
  flags_begun =
      ap (take f.count) flags_before
      ∙ flags_take (same_number numbers) f.count [] (get_or lines f.line [])
      ∙ ap (number_flags numbers) (sym begins.has.same)
      ∙ sym (flags_take (same_number numbers) f.count [] (get_or lines l []))

pub are_flagged : (numbers : List ℕ) (lines : List (List FeatureNo)) → AreFlagged lines (map (number_flags numbers) lines)
are_flagged numbers lines = record {
  each = length-map lines (number_flags numbers);
  places = λ l. ap (λ x. length x) (flags_at numbers lines l) ∙ flags_count (same_number numbers) [] (get_or lines l []);
}

pub fronts_flagged : (numbers : List ℕ) (lines : List (List FeatureNo)) (fronts : List Front) → map (front_flags (map (number_flags numbers) lines)) fronts ≡ map (number_flags numbers) (map (front_of lines) fronts)
fronts_flagged numbers lines [] = refl
fronts_flagged numbers lines (f ∷ fronts) = (λ t. (ap (take f.count) (flags_at numbers lines f.line) ∙ flags_take (same_number numbers) f.count [] (get_or lines f.line [])) t ∷ fronts_flagged numbers lines fronts t)

pub flags_of_front : (flags : List (List Bool)) (fronts : List Front) (c : ℕ) (f : Front) → slice_get fronts c ≡ Some f → get_or (map (front_flags flags) fronts) c [] ≡ front_flags flags f
flags_of_front flags fronts c f e =
    get_or-map (front_flags flags) fronts c f [] (slice_get_within fronts c f e) ∙ ap (front_flags flags) (get_or_from_slice_get fronts c f f e)

pub no_flags : (flags : List (List Bool)) (fronts : List Front) (c : ℕ) → slice_get fronts c ≡ None → get_or (map (front_flags flags) fronts) c [] ≡ []
no_flags flags [] c e = refl
no_flags flags (f ∷ fronts) zero e = absurd (cc)
no_flags flags (f ∷ fronts) (suc c) e = no_flags flags fronts c e
