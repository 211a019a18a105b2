-- Lists as the fronts of lines, and what stays of them where a line grows.
use Rattle.std.proofs.Common.{◌≡◌, ◌∙◌, ℕ, zero, suc, ◌+◌, ◌<◌, ◌≤◌, List, [], ◌∷◌, ◌++◌, ◌-◌, ◌≢◌, length, map, take, get_or, set, Option, Some, None, refl, ap, sym, subst, arith, inl, inr, replicate, option_map}
use Rattle.std.specs.Prelude.{IfSome}
use Rattle.std.specs.List.{All, slice_get}
use Rattle.std.proofs.lemmas.Bool.{cases_eq}
use Rattle.std.proofs.lemmas.Bool.Decides.{leb_tells}
use Rattle.std.proofs.lemmas.List.{length-map, length-append, length-set, length-take-le, map-set, map-append, take-map, get_or-map, get_or-set_same, get_or-set_other, get_or_append_left, get_or-append-add, get_or_push, take_all, take-append-le, append-nil}
use Rattle.std.proofs.lemmas.List.Elements.{All-head, All-tail, All-weaker, All-append, All-map, All-from_get_or}
use Rattle.std.proofs.lemmas.Option.{slice_get_within, get_or_from_slice_get}
use Rattle.qvt_base.specs.declared.numbers.FeatureNo.{FeatureNo}
use Rattle.qvt_metamodel.specs.declared.front.Front.{Front}
use Rattle.qvt_metamodel.specs.Lists.{front_of, HasFront, BeginsWith, AreLined, AreMapped, IsLineFront}

abbrev pub Lines : Type 0
Lines = List (List FeatureNo)

abbrev pub line_at : Lines → ℕ → List FeatureNo
line_at lines l = get_or lines l []

same_map : {X Y : Type 0} (f g : X → Y) (xs : List X) → All (λ x. f x ≡ g x) xs → map f xs ≡ map g xs
same_map f g [] all = refl
same_map f g (x ∷ xs) all = λ i. All-head (λ y. f y ≡ g y) x xs all i ∷ same_map f g xs (All-tail (λ y. f y ≡ g y) x xs all) i

-- there are more lines, and each begins with what it was
pub record Grows (lines more : Lines) : Type 0 where
  pub count : length lines ≤ length more
  pub longer : (l : ℕ) → l < length lines → length (line_at lines l) ≤ length (line_at more l)
  pub begins : (l n : ℕ) → l < length lines → n ≤ length (line_at lines l) → take n (line_at more l) ≡ take n (line_at lines l)

pub grows_append : (lines others : Lines) → Grows lines (lines ++ others)
grows_append lines others = record {
  count = omega (arith, length-append lines others);
  longer = λ l h. omega (arith, ap (λ x. length x) (get_or_append_left lines others [] l h));
  begins = λ l n h k. ap (take n) (get_or_append_left lines others [] l h);
}

pub grows_longer : (lines : Lines) (at : ℕ) (own : List FeatureNo) → Grows lines (set lines at (line_at lines at ++ own))
grows_longer lines at own = record {
  count = omega (arith, length-set lines at (line_at lines at ++ own));
  longer = λ l h. elim (cases_eq l at) [
    | inl e ↦ omega (arith, ap (λ x. length x) (here l h e), ap (λ k. length (line_at lines k)) e, length-append (line_at lines at) own)
    | inr e ↦ omega (arith, ap (λ x. length x) (get_or-set_other lines at l (line_at lines at ++ own) [] e))
  ];
  begins = λ l n h k. elim (cases_eq l at) [
    | inl e ↦ ap (take n) (here l h e) ∙ take-append-le n (line_at lines at) own (omega (arith, k, ap (λ j. length (line_at lines j)) e)) ∙ ap (λ j. take n (line_at lines j)) (sym e)
    | inr e ↦ ap (take n) (get_or-set_other lines at l (line_at lines at ++ own) [] e)
  ];
}
  where
    here : (l : ℕ) → l < length lines → l ≡ at → line_at (set lines at (line_at lines at ++ own)) l ≡ line_at lines at ++ own
    here l h e = ap (λ k. line_at (set lines at (line_at lines at ++ own)) k) e ∙ get_or-set_same lines at (line_at lines at ++ own) [] (omega (arith, h, e))

module _ (lines more : Lines) (g : Grows lines more) where
  pub front_stays : (f : Front) → IsLineFront lines f → IsLineFront more f
  front_stays f k =
      let longer : length (line_at lines f.line) ≤ length (line_at more f.line) = g.longer f.line k.line in
      record { line = omega (arith, k.line, g.count); count = omega (arith, k.count, longer) }

  pub lists_stay : (fronts : List Front) → All (IsLineFront lines) fronts → map (front_of more) fronts ≡ map (front_of lines) fronts
  lists_stay fronts all = same_map (front_of more) (front_of lines) fronts
      (All-weaker (IsLineFront lines) (λ f. front_of more f ≡ front_of lines f) (λ f k. g.begins f.line f.count k.line k.count) fronts all)

  pub fronts_stay : (fronts : List Front) → All (IsLineFront lines) fronts → All (IsLineFront more) fronts
  fronts_stay fronts all = All-weaker (IsLineFront lines) (IsLineFront more) front_stays fronts all

  put : (fronts : List Front) (place : ℕ) (f : Front) (list : List FeatureNo) → All (IsLineFront lines) fronts → front_of more f ≡ list
      → map (front_of more) (set fronts place f) ≡ set (map (front_of lines) fronts) place list
  put fronts place f list all e = map-set (front_of more) fronts place f ∙ (λ i. set (lists_stay fronts all i) place (e i))

-- a list that is a line of its own
pub front_last : (lines : Lines) (list : List FeatureNo) (n k : ℕ) → n ≡ length lines → k ≡ length list → IsLineFront (lines ++ list ∷ []) (record { line = n; count = k })
front_last lines list n k en ek = record {
  line = omega (arith, en, length-append lines (list ∷ []));
  count = omega (arith, ek, ap (λ x. length x) (get_or_push lines list [] n (sym en)));
}

pub put_last : (lines : Lines) (fronts : List Front) (place : ℕ) (list : List FeatureNo) (n k : ℕ) → n ≡ length lines → k ≡ length list → All (IsLineFront lines) fronts
    → map (front_of (lines ++ list ∷ [])) (set fronts place (record { line = n; count = k })) ≡ set (map (front_of lines) fronts) place list
put_last lines fronts place list n k en ek all =
    put lines (lines ++ list ∷ []) (grows_append lines (list ∷ [])) fronts place (record { line = n; count = k }) list all
    (ap (take k) (get_or_push lines list [] n (sym en)) ∙ take_all k list (omega (arith, ek)))

-- a list that goes on from a whole line
pub front_longer : (lines : Lines) (l k : ℕ) (own : List FeatureNo) → l < length lines → k ≡ length (line_at lines l ++ own)
    → IsLineFront (set lines l (line_at lines l ++ own)) (record { line = l; count = k })
front_longer lines l k own h ek = record {
  line = omega (arith, h, length-set lines l (line_at lines l ++ own));
  count = omega (arith, ek, ap (λ x. length x) (get_or-set_same lines l (line_at lines l ++ own) [] h));
}

pub put_longer : (lines : Lines) (fronts : List Front) (place : ℕ) (f : Front) (own : List FeatureNo) (k : ℕ) → IsLineFront lines f → f.count ≡ length (line_at lines f.line)
    → k ≡ length (line_at lines f.line ++ own) → All (IsLineFront lines) fronts
    → map (front_of (set lines f.line (line_at lines f.line ++ own))) (set fronts place (record { line = f.line; count = k })) ≡ set (map (front_of lines) fronts) place (front_of lines f ++ own)
put_longer lines fronts place f own k is whole ek all =
    let line : List FeatureNo = line_at lines f.line in
    put lines (set lines f.line (line ++ own)) (grows_longer lines f.line own) fronts place (record { line = f.line; count = k }) (front_of lines f ++ own) all
    (ap (take k) (get_or-set_same lines f.line (line ++ own) [] is.line) ∙ take_all k (line ++ own) (omega (arith, ek)) ∙ ap (λ x. x ++ own) (sym (take_all f.count line (omega (arith, whole)))))

-- the list of a class
pub list_at : (lines : Lines) (fronts : List Front) (c : ℕ) (f : Front) → slice_get fronts c ≡ Some f → get_or (map (front_of lines) fronts) c [] ≡ front_of lines f
list_at lines fronts c f e =
    get_or-map (front_of lines) fronts c f [] (slice_get_within fronts c f e) ∙ ap (front_of lines) (get_or_from_slice_get fronts c f f e)

pub no_list : (lines : Lines) (fronts : List Front) (c : ℕ) → slice_get fronts c ≡ None → get_or (map (front_of lines) fronts) c [] ≡ []
no_list lines [] c e = refl
no_list lines (f ∷ fronts) zero e = absurd (cc)
no_list lines (f ∷ fronts) (suc c) e = no_list lines fronts c e

-- the same list for another class
pub put_same : (lines : Lines) (fronts : List Front) (place c : ℕ) (f : Front) (own : List FeatureNo) → slice_get fronts c ≡ Some f → own ≡ []
    → map (front_of lines) (set fronts place f) ≡ set (map (front_of lines) fronts) place (get_or (map (front_of lines) fronts) c [] ++ own)
put_same lines fronts place c f own e none =
    map-set (front_of lines) fronts place f
    ∙ ap (set (map (front_of lines) fronts) place) (sym (list_at lines fronts c f e) ∙ sym (append-nil (get_or (map (front_of lines) fronts) c [])) ∙ ap (λ x. get_or (map (front_of lines) fronts) c [] ++ x) (sym none))

pub empty_lists : (n : ℕ) → map (front_of ([] ∷ [])) (replicate n (record { line = 0; count = 0 })) ≡ replicate n []
empty_lists zero = refl
empty_lists (suc n) = ap (λ ls. [] ∷ ls) (empty_lists n)

-- lists whose lines come after others

abbrev pub after : ℕ → Front → Front
after start f = record { line = start + f.line; count = f.count }

lists_after : (lines others : Lines) (fronts : List Front) → map (front_of (lines ++ others)) (map (after (length lines)) fronts) ≡ map (front_of others) fronts
lists_after lines others [] = refl
lists_after lines others (f ∷ fronts) = λ i. take f.count (get_or-append-add lines others f.line [] i) ∷ lists_after lines others fronts i

pub both_lists : (lines others : Lines) (fronts more : List Front) → All (IsLineFront lines) fronts
    → map (front_of (lines ++ others)) (fronts ++ map (after (length lines)) more) ≡ map (front_of lines) fronts ++ map (front_of others) more
both_lists lines others fronts more all =
    map-append (front_of (lines ++ others)) fronts (map (after (length lines)) more)
    ∙ (λ i. lists_stay lines (lines ++ others) (grows_append lines others) fronts all i ++ lists_after lines others more i)

lengths_at : (lines : Lines) (l : ℕ) → get_or (map (λ x. length x) lines) l 0 ≡ length (line_at lines l)
lengths_at [] l = refl
lengths_at (x ∷ lines) zero = refl
lengths_at (x ∷ lines) (suc l) = lengths_at lines l

-- lines of the same lengths have the same fronts
pub same_fronts : (lines others : Lines) → map (λ x. length x) lines ≡ map (λ x. length x) others → (fronts : List Front) → All (IsLineFront others) fronts → All (IsLineFront lines) fronts
same_fronts lines others e fronts all = All-weaker (IsLineFront others) (IsLineFront lines) (λ f k. record {
  line = omega (arith, k.line, ap (λ x. length x) e, length-map lines (λ x. length x), length-map others (λ x. length x));
  count = omega (arith, k.count, ap (λ x. get_or x f.line 0) e, lengths_at lines f.line, lengths_at others f.line);
}) fronts all

pub both_fronts : (lines others : Lines) (fronts more : List Front) → All (IsLineFront lines) fronts → All (IsLineFront others) more → All (IsLineFront (lines ++ others)) (fronts ++ map (after (length lines)) more)
both_fronts lines others fronts more all too =
    All-append (IsLineFront (lines ++ others)) fronts (map (after (length lines)) more) (fronts_stay lines (lines ++ others) (grows_append lines others) fronts all)
    (All-map (IsLineFront (lines ++ others)) (after (length lines)) more
    (All-weaker (IsLineFront others) (λ f. IsLineFront (lines ++ others) (after (length lines) f)) (λ f k. record {
      line = omega (arith, k.line, length-append lines others);
      count = omega (arith, k.count, ap (λ x. length x) (get_or-append-add lines others f.line []));
    }) more too))

-- what lines begin with

abbrev pub Begins : Type 0
Begins = List (Option Front)

some_within : (begins : Begins) (l : ℕ) (f : Front) → get_or begins l None ≡ Some f → l < length begins
some_within [] l f e = absurd (cc)
some_within (b ∷ begins) zero f e = omega arith
some_within (b ∷ begins) (suc l) f e = (let more : l < length begins = some_within begins l f e in omega (arith, more))

module _ (lines more : Lines) (g : Grows lines more) where
  pub begins_stay : (l : ℕ) (f : Front) → l < length lines → BeginsWith lines l f → BeginsWith more l f
  begins_stay l f h b = record {
    before = b.before;
    front = front_stays lines more g f b.front;
    has = record {
      within = (let longer : length (line_at lines l) ≤ length (line_at more l) = g.longer l h in omega (arith, b.has.within, longer));
      same = g.begins l f.count h b.has.within ∙ b.has.same ∙ sym (g.begins f.line f.count b.front.line b.front.count);
    };
  }

-- the lines grow, and as many are told of
pub lined_longer : (lines : Lines) (begins : Begins) (fronts next : List Front) (l : ℕ) (own : List FeatureNo) → AreLined lines begins fronts
    → All (IsLineFront (set lines l (line_at lines l ++ own))) next → AreLined (set lines l (line_at lines l ++ own)) begins next
lined_longer lines begins fronts next l own k all = record {
  within = all;
  each = k.each ∙ sym (length-set lines l (line_at lines l ++ own));
  begun = λ i f e. begins_stay lines (set lines l (line_at lines l ++ own)) (grows_longer lines l own) i f (omega (arith, some_within begins i f e, k.each)) (k.begun i f e);
}

-- a line more
pub lined_more : (lines : Lines) (begins : Begins) (fronts next : List Front) (list : List FeatureNo) (b : Option Front) → AreLined lines begins fronts
    → ((f : Front) → b ≡ Some f → IsLineFront lines f × HasFront list f (front_of lines f)) → All (IsLineFront (lines ++ list ∷ [])) next → AreLined (lines ++ list ∷ []) (begins ++ b ∷ []) next
lined_more lines begins fronts next list b k new all = record {
  within = all;
  each = length-append begins (b ∷ []) ∙ ap (λ n. n + 1) k.each ∙ sym (length-append lines (list ∷ []));
  begun = λ i f e. elim (cases_eq i (length begins)) [
    | inl last ↦ at_end i f (last ∙ k.each) (sym (get_or_push begins b None i (sym last)) ∙ e)
    | inr other ↦ before i f (other_within i f e other) e
  ];
}
  where
    grown : Grows lines (lines ++ list ∷ [])
    grown = grows_append lines (list ∷ [])

    other_within : (i : ℕ) (f : Front) → get_or (begins ++ b ∷ []) i None ≡ Some f → i ≢ length begins → i < length begins
    other_within i f e other = omega (arith, some_within (begins ++ b ∷ []) i f e, length-append begins (b ∷ []), other)

    before : (i : ℕ) (f : Front) → i < length begins → get_or (begins ++ b ∷ []) i None ≡ Some f → BeginsWith (lines ++ list ∷ []) i f
    before i f h e = begins_stay lines (lines ++ list ∷ []) grown i f (omega (arith, h, k.each)) (k.begun i f (sym (get_or_append_left begins (b ∷ []) None i h) ∙ e))

    at_end : (i : ℕ) (f : Front) → i ≡ length lines → b ≡ Some f → BeginsWith (lines ++ list ∷ []) i f
    at_end i f last e =
        let is = new f e in
        let here : line_at (lines ++ list ∷ []) i ≡ list = get_or_push lines list [] i (sym last) in
        record {
          before = omega (arith, last, is.0.line);
          front = front_stays lines (lines ++ list ∷ []) grown f is.0;
          has = record {
            within = omega (arith, is.1.within, ap (λ x. length x) here);
            same = ap (take f.count) here ∙ is.1.same ∙ sym (grown.begins f.line f.count is.0.line is.0.count);
          };
        }

-- a line that could not be put there
pub lined_as_before : (lines : Lines) (begins : Begins) (fronts : List Front) (b : Option Front) (n : ℕ) → AreLined lines begins fronts → n ≡ length lines
    → AreLined lines (take n (begins ++ b ∷ [])) fronts
lined_as_before lines begins fronts b n k last =
    subst (λ (bs : Begins). AreLined lines bs fronts) (sym (take-append-le n begins (b ∷ []) (omega (arith, last, k.each)) ∙ take_all n begins (omega (arith, last, k.each)))) k

-- a list that goes on from a front
pub followed_has : (lines : Lines) (f : Front) (own list : List FeatureNo) → IsLineFront lines f → list ≡ front_of lines f ++ own → HasFront list f (front_of lines f)
followed_has lines f own list is e = record {
  within = omega (arith, ap (λ x. length x) e, length-append (front_of lines f) own, long);
  same = ap (take f.count) e ∙ take-append-le f.count (front_of lines f) own (omega (arith, long)) ∙ take_all f.count (front_of lines f) (omega (arith, long));
}
  where
    long : length (front_of lines f) ≡ f.count
    long = length-take-le f.count (line_at lines f.line) is.count

-- lines in which each feature stands for one of others

line_mapped : (s : FeatureNo → FeatureNo) (lines : Lines) (l : ℕ) → line_at (map (map s) lines) l ≡ map s (line_at lines l)
line_mapped s [] l = refl
line_mapped s (x ∷ lines) zero = refl
line_mapped s (x ∷ lines) (suc l) = line_mapped s lines l

pub mapped_lengths : (lines others : Lines) → AreMapped lines others → map (λ x. length x) others ≡ map (λ x. length x) lines
mapped_lengths lines others mapped = ap (map (λ x. length x)) mapped.1 ∙ each lines
  where
    each : (ls : Lines) → map (λ x. length x) (map (map mapped.0) ls) ≡ map (λ x. length x) ls
    each [] = refl
    each (l ∷ ls) = λ i. length-map l mapped.0 i ∷ each ls i

pub mapped_count : (lines others : Lines) → AreMapped lines others → length others ≡ length lines
mapped_count lines others mapped = ap (λ x. length x) mapped.1 ∙ length-map lines (map mapped.0)

begin_mapped : (h : Front → Front) (begins : Begins) (l : ℕ) (f : Front) → get_or (map (option_map h) begins) l None ≡ Some f
    → (g : Front) × (get_or begins l None ≡ Some g) × (f ≡ h g)
begin_mapped h [] l f e = absurd (cc)
begin_mapped h (None ∷ begins) zero f e = absurd (cc)
begin_mapped h (Some g ∷ begins) zero f e = (g, refl, from e)
  where
    from : Some (h g) ≡ Some f → f ≡ h g
    from e = cc
begin_mapped h (b ∷ begins) (suc l) f e = begin_mapped h begins l f e

begins_after : (lines others next : Lines) (mapped : AreMapped others next) (l : ℕ) (g : Front) → BeginsWith others l g → BeginsWith (lines ++ next) (length lines + l) (after (length lines) g)
begins_after lines others next mapped l g b = record {
  before = omega (arith, b.before);
  front = record {
    line = omega (arith, b.front.line, length-append lines next, ap (λ x. length x) mapped.1, length-map others (map mapped.0));
    count = omega (arith, b.front.count, ap (λ x. length x) (line g.line), length-map (line_at others g.line) mapped.0);
  };
  has = record {
    within = omega (arith, b.has.within, ap (λ x. length x) (line l), length-map (line_at others l) mapped.0);
    same = ap (take g.count) (line l) ∙ take-map mapped.0 g.count (line_at others l) ∙ ap (map mapped.0) b.has.same
        ∙ sym (take-map mapped.0 g.count (line_at others g.line)) ∙ sym (ap (take g.count) (line g.line));
  };
}
  where
    line : (k : ℕ) → line_at (lines ++ next) (length lines + k) ≡ map mapped.0 (line_at others k)
    line k = get_or-append-add lines next k [] ∙ ap (λ ls. line_at ls k) mapped.1 ∙ line_mapped mapped.0 others k

pub lined_both : (lines others next : Lines) (begins more : Begins) (fronts behind : List Front) → AreLined lines begins fronts → AreLined others more behind → AreMapped others next
    → AreLined (lines ++ next) (begins ++ map (option_map (after (length lines))) more) (fronts ++ map (after (length lines)) behind)
lined_both lines others next begins more fronts behind k n mapped = record {
  within = both_fronts lines next fronts behind k.within (same_fronts next others (mapped_lengths others next mapped) behind n.within);
  each = omega (arith, length-append begins (map (option_map (after (length lines))) more), length-map more (option_map (after (length lines))), length-append lines next, k.each, n.each, ap (λ x. length x) mapped.1, length-map others (map mapped.0));
  begun = λ i f e. elim (leb_tells (suc i) (length begins)) [
    | inl t ↦ begins_stay lines (lines ++ next) (grows_append lines next) i f (omega (arith, t.1, k.each))
        (k.begun i f (sym (get_or_append_left begins (map (option_map (after (length lines))) more) None i (omega (arith, t.1))) ∙ e))
    | inr r ↦ behind_at i f e (omega (arith, r.1))
  ];
}
  where
    from : (j : ℕ) (f : Front) → get_or (map (option_map (after (length lines))) more) j None ≡ Some f → BeginsWith (lines ++ next) (length lines + j) f
    from j f e =
        let it = begin_mapped (after (length lines)) more j f e in
        subst (BeginsWith (lines ++ next) (length lines + j)) (sym it.2) (begins_after lines others next mapped j it.0 (n.begun j it.0 it.1))

    behind_at : (i : ℕ) (f : Front) → get_or (begins ++ map (option_map (after (length lines))) more) i None ≡ Some f → length begins ≤ i → BeginsWith (lines ++ next) i f
    behind_at i f e h =
        let j : ℕ = i - length begins in
        let sum : length begins + j ≡ i = omega (arith, h) in
        let same : length lines + j ≡ i = omega (arith, h, k.each) in
        subst (λ l. BeginsWith (lines ++ next) l f) same
        (from j f (sym (get_or-append-add begins (map (option_map (after (length lines))) more) j None) ∙ ap (λ l. get_or (begins ++ map (option_map (after (length lines))) more) l None) sum ∙ e))

-- the lines that others begin with are there, so their numbers fit after these
pub begins_fit : (lines : Lines) (begins : Begins) (fronts : List Front) (n m : ℕ) → AreLined lines begins fronts → n + length lines ≤ m → All (λ b. IfSome b (λ f. n + f.line < m)) begins
begins_fit lines begins fronts n m k h = All-from_get_or (λ b. IfSome b (λ f. n + f.line < m)) begins None (λ i l. by (get_or begins i None) (λ f e. (k.begun i f e).front.line))
  where
    by : (o : Option Front) → ((f : Front) → o ≡ Some f → f.line < length lines) → IfSome o (λ f. n + f.line < m)
    by None there = tt
    by (Some f) there = omega (arith, h, there f refl)
