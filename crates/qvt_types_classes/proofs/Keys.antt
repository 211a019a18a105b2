-- The numbers of names: two names have one number exactly where they are one; and the flags of names that were there before.
use Rattle.std.proofs.Common.{◌≡◌, ◌∙◌, ℕ, ◌+◌, ◌-◌, ◌<◌, ◌≤◌, List, [], ◌∷◌, ◌++◌, length, map, take, drop, get_or, Bool, true, false, ◌||◌, Some, is_some, refl, ap, sym, arith, append_assoc, append-nil}
use Rattle.std.specs.Prelude.{if◌then◌else◌}
use Rattle.std.specs.List.{drop-map}
use Rattle.std.specs.Str.{bytes_eq}
use Rattle.std.proofs.Math.Bool.{or-false}
use Rattle.std.proofs.lemmas.List.{length-map, length-take-le, take-append-drop, take-map, map_more, drop_more, get_or-map}
use Rattle.std.proofs.lemmas.List.Folds.{list_any-append}
use Rattle.std.proofs.lemmas.Slice.Eq.{bytes_eq-Decides}
use Rattle.std.proofs.Math.Seq.{drop-append_seam}
use Rattle.qvt_base.specs.declared.numbers.FeatureNo.{FeatureNo}
use Rattle.qvt_base.specs.declared.numbers.Place.{Place}
use Rattle.qvt_metamodel.specs.Names.{is_among, repeated}
use Rattle.qvt_metamodel.proofs.Bools.{ap2, clash, or_left}
use Rattle.qvt_metamodel.proofs.Infos.{map-at_all}
use Rattle.qvt_meta_repeats.specs.Flags.{name_flags, number_flags, repeat_flags}
use Rattle.qvt_meta_repeats.proofs.Flags.{flag_at, flags_count, flags_drop}
use Rattle.qvt_meta_repeats.proofs.Names.{first_empty, flags_of_places}
use Rattle.qvt_types_classes.specs.declared.declared.Declared.{Declared}
use Rattle.qvt_types_classes.specs.declared.declared.Property.{Property}
use Rattle.qvt_types_data.specs.declared.refusal.TypingRefusal.{TypingRefusal}
use Rattle.qvt_types_data.specs.declared.refusal.RefusalKind.TheVariants.{SameName}
use Rattle.qvt_types_paths.specs.Told.{told_if}
use Rattle.qvt_types_classes.specs.Inherited.{names_of, no_property, property_at, firsts, own_told, same_told, inherits_twice, read_class, IsOwnLast}
use Rattle.qvt_types_classes.specs.Keys.{key_of, keys_of, names_at}

-- its number stands among the numbers of the properties
key_stands : (all : List Property) (f : FeatureNo) → get_or (keys_of all) f.0 0 ≡ key_of all (property_at all f).name
key_stands all f =
    ap (get_or (keys_of all) f.0) (sym (first_empty (names_of all)))
    ∙ map-at_all (λ (p : Property). key_of all p.name) all f.0 no_property

-- properties that differ in their names from each other and from earlier ones are all first
firsts_differ : (earlier : List (List ℕ)) (ps qs : List Property) → is_some (repeated earlier (names_of ps)) ≡ false → firsts earlier (ps ++ qs) ≡ ps ++ firsts (earlier ++ names_of ps) qs
firsts_differ earlier [] qs h = ap (λ (l : List (List ℕ)). firsts l qs) (sym (append-nil earlier))
firsts_differ earlier (p ∷ ps) qs h = by (is_among p.name earlier) refl (firsts_differ (earlier ++ p.name ∷ []) ps qs)
  where
    by : (b : Bool) → is_among p.name earlier ≡ b
        → (is_some (repeated (earlier ++ p.name ∷ []) (names_of ps)) ≡ false → firsts (earlier ++ p.name ∷ []) (ps ++ qs) ≡ ps ++ firsts ((earlier ++ p.name ∷ []) ++ names_of ps) qs)
        → firsts earlier (p ∷ (ps ++ qs)) ≡ p ∷ (ps ++ firsts (earlier ++ p.name ∷ names_of ps) qs)
    by true e next = clash (ap (λ b. is_some (if b then Some p.name else repeated (earlier ++ p.name ∷ []) (names_of ps))) e) h
    by false e next =
        ap (λ b. if b then firsts earlier (ps ++ qs) else p ∷ firsts (earlier ++ p.name ∷ []) (ps ++ qs)) e
        ∙ ap (λ (l : List Property). p ∷ l) (next (ap (λ b. is_some (if b then Some p.name else repeated (earlier ++ p.name ∷ []) (names_of ps))) (sym e) ∙ h))
        ∙ ap (λ (l : List (List ℕ)). p ∷ (ps ++ firsts l qs)) (append_assoc earlier (p.name ∷ []) (names_of ps))

-- those after the first so many, where these differ in their names
pub firsts_after : (ps : List Property) (k : ℕ) → k ≤ length ps → is_some (repeated [] (names_of (take k ps))) ≡ false → drop k (firsts [] ps) ≡ firsts (names_of (take k ps)) (drop k ps)
firsts_after ps k le h =
    ap (λ (l : List Property). drop k (firsts [] l)) (sym (take-append-drop k ps))
    ∙ ap (drop k) (firsts_differ [] (take k ps) (drop k ps) h)
    ∙ ap (λ n. drop n (take k ps ++ firsts (names_of (take k ps)) (drop k ps))) (sym (length-take-le k ps le))
    ∙ drop-append_seam (take k ps) (firsts (names_of (take k ps)) (drop k ps))

pub own_next : (names earlier : List (List ℕ)) (log next whole : List TypingRefusal) (ps : List Property) (i : ℕ) (d : Property) (b : Bool) → i < length ps
    → b ≡ is_among (get_or ps i d).name (names ++ earlier)
    → log ++ own_told (names ++ earlier) (drop i ps) ≡ whole
    → next ≡ log ++ told_if b SameName (get_or ps i d).place
    → next ++ own_told (names ++ (earlier ++ (get_or ps i d).name ∷ [])) (drop (i + 1) ps) ≡ whole
own_next names earlier log next whole ps i d b l is h told =
    let p = get_or ps i d in
    ap2 (λ (a : List TypingRefusal) (e : List (List ℕ)). a ++ own_told e (drop (i + 1) ps)) (told ∙ ap (λ t. log ++ told_if t SameName p.place) is) (sym (append_assoc names earlier (p.name ∷ [])))
    ∙ append_assoc log (told_if (is_among p.name (names ++ earlier)) SameName p.place) (own_told ((names ++ earlier) ++ p.name ∷ []) (drop (i + 1) ps))
    ∙ ap (λ (qs : List Property). log ++ own_told (names ++ earlier) qs) (sym (drop_more ps i d l))
    ∙ h

-- names among others of which one is there twice
again : (names : List (List ℕ)) (n x : List ℕ) → is_among n names ≡ true → is_among x (names ++ n ∷ []) ≡ is_among x names
again names n x here = list_any-append (bytes_eq x) names (n ∷ []) ∙ by (bytes_eq x n) refl
  where
    by : (b : Bool) → bytes_eq x n ≡ b → (is_among x names || (bytes_eq x n || false)) ≡ is_among x names
    by true e = (let there : is_among x names ≡ true = ap (λ y. is_among y names) ((bytes_eq-Decides x n).0 e) ∙ here in or_left (is_among x names) (bytes_eq x n || false) there ∙ sym there)
    by false e = ap (λ b. is_among x names || (b || false)) e ∙ or-false (is_among x names)

-- the first of each name, after the same names
firsts_same : (names others : List (List ℕ)) (ps : List Property) → ((x : List ℕ) → is_among x names ≡ is_among x others) → firsts names ps ≡ firsts others ps
firsts_same names others [] same = refl
firsts_same names others (p ∷ ps) same =
    (λ t. if same p.name t then firsts_same names others ps same t else p ∷ firsts_same (names ++ p.name ∷ []) (others ++ p.name ∷ []) ps grown t)
  where
    grown : (x : List ℕ) → is_among x (names ++ p.name ∷ []) ≡ is_among x (others ++ p.name ∷ [])
    grown x = list_any-append (bytes_eq x) names (p.name ∷ []) ∙ ap (λ b. b || (bytes_eq x p.name || false)) (same x) ∙ sym (list_any-append (bytes_eq x) others (p.name ∷ []))

-- one property more, where it is told whether its name was there
one_more : (b : Bool) (names : List (List ℕ)) (p : Property) (ps : List Property) → b ≡ is_among p.name names → (if b then [] else p ∷ []) ++ firsts (names ++ p.name ∷ []) ps ≡ firsts names (p ∷ ps)
one_more true names p ps is =
    firsts_same (names ++ p.name ∷ []) names ps (λ x. again names p.name x (sym is))
    ∙ ap (λ b. if b then firsts names ps else p ∷ firsts (names ++ p.name ∷ []) ps) is
one_more false names p ps is = ap (λ b. if b then firsts names ps else p ∷ firsts (names ++ p.name ∷ []) ps) is

abbrev name_of : Property → List ℕ
name_of p = p.name

-- the flag of a property tells whether its name is an earlier one
pub flag_is : (names : List (List ℕ)) (ps : List Property) (flags : List Bool) (i : ℕ) (d : Property) → i < length ps → flags ≡ repeat_flags bytes_eq names (names_of ps)
    → get_or flags i false ≡ is_among (get_or ps i d).name (names ++ names_of (take i ps))
flag_is names ps flags i d l is =
    ap (λ (fs : List Bool). get_or fs i false) is
    ∙ flag_at bytes_eq names (names_of ps) i [] (omega (arith, l, length-map ps name_of))
    ∙ (λ t. is_among (get_or-map name_of ps i d [] l t) (names ++ take-map name_of i ps t))

names_next : (names : List (List ℕ)) (ps : List Property) (i : ℕ) (d : Property) → i < length ps → names ++ names_of (take (i + 1) ps) ≡ (names ++ names_of (take i ps)) ++ (get_or ps i d).name ∷ []
names_next names ps i d l = ap (λ (n : List (List ℕ)). names ++ n) (map_more name_of ps i d l) ∙ sym (append_assoc names (names_of (take i ps)) ((get_or ps i d).name ∷ []))

-- the loops over the properties of a class, one step
pub told_next : (names : List (List ℕ)) (log next whole : List TypingRefusal) (ps : List Property) (i : ℕ) (d : Property) (b : Bool) → i < length ps
    → b ≡ is_among (get_or ps i d).name (names ++ names_of (take i ps))
    → log ++ own_told (names ++ names_of (take i ps)) (drop i ps) ≡ whole
    → next ≡ log ++ told_if b SameName (get_or ps i d).place
    → next ++ own_told (names ++ names_of (take (i + 1) ps)) (drop (i + 1) ps) ≡ whole
told_next names log next whole ps i d b l is h told =
    ap (λ (n : List (List ℕ)). next ++ own_told (names ++ n) (drop (i + 1) ps)) (map_more name_of ps i d l)
    ∙ own_next names (names_of (take i ps)) log next whole ps i d b l is h told

pub kept_next : (names : List (List ℕ)) (kept next whole : List Property) (ps : List Property) (i : ℕ) (d : Property) (b : Bool) → i < length ps
    → b ≡ is_among (get_or ps i d).name (names ++ names_of (take i ps))
    → kept ++ firsts (names ++ names_of (take i ps)) (drop i ps) ≡ whole
    → next ≡ kept ++ (if b then [] else get_or ps i d ∷ [])
    → next ++ firsts (names ++ names_of (take (i + 1) ps)) (drop (i + 1) ps) ≡ whole
kept_next names kept next whole ps i d b l is h more =
    let p = get_or ps i d in
    let e = names ++ names_of (take i ps) in
    let one : List Property = if b then [] else p ∷ [] in
    ap2 (λ (ks : List Property) (n : List (List ℕ)). ks ++ firsts n (drop (i + 1) ps)) more (names_next names ps i d l)
    ∙ append_assoc kept one (firsts (e ++ p.name ∷ []) (drop (i + 1) ps))
    ∙ ap (λ (qs : List Property). kept ++ qs) (one_more b e p (drop (i + 1) ps) is ∙ ap (firsts e) (sym (drop_more ps i d l)))
    ∙ h

-- what a class is told and read from, by the numbers of its properties
pub names_are : (all : List Property) (fs : List FeatureNo) → names_of (map (property_at all) fs) ≡ names_at all fs
names_are all [] = refl
names_are all (f ∷ fs) = ap (λ (n : List (List ℕ)). (property_at all f).name ∷ n) (names_are all fs)

pub above_are : (all : List Property) (list : List FeatureNo) (own : List Property) → names_at all (take (length list - length own) list) ≡ names_of (take (length (map (property_at all) list) - length own) (map (property_at all) list))
above_are all list own =
    sym (names_are all (take (length list - length own) list))
    ∙ ap names_of (sym (take-map (property_at all) (length list - length own) list))
    ∙ ap (λ n. names_of (take (n - length own) (map (property_at all) list))) (sym (length-map list (property_at all)))

pub twice_is : (all : List Property) (list : List FeatureNo) (own : List Property) → is_some (repeated [] (names_at all (take (length list - length own) list))) ≡ is_some (repeated [] (names_of (take (length (map (property_at all) list) - length own) (map (property_at all) list))))
twice_is all list own = ap (λ (n : List (List ℕ)). is_some (repeated [] n)) (above_are all list own)

pub others_are : (all : List Property) (list : List FeatureNo) (own : List Property) → is_some (repeated [] (names_at all (take (length list - length own) list))) ≡ false
    → firsts (names_at all (take (length list - length own) list)) (map (property_at all) (drop (length list - length own) list)) ≡ drop (length (map (property_at all) list) - length own) (firsts [] (map (property_at all) list))
others_are all list own none =
    let ps = map (property_at all) list in
    let k = length ps - length own in
    ap2 (λ (n : List (List ℕ)) (qs : List Property). firsts n qs) (above_are all list own) (sym (drop-map (property_at all) (length list - length own) list) ∙ ap (λ n. drop (n - length own) ps) (sym (length-map list (property_at all))))
    ∙ sym (firsts_after ps k (let le : length ps - length own ≤ length ps = omega arith in le) (sym (twice_is all list own) ∙ none))

pub told_is : (all : List Property) (list : List FeatureNo) (d : Declared) (twice : Bool) (log middle end : List TypingRefusal)
    → twice ≡ is_some (repeated [] (names_at all (take (length list - length d.properties) list)))
    → middle ≡ log ++ told_if twice SameName d.place
    → end ≡ middle ++ own_told (names_at all (take (length list - length d.properties) list)) d.properties
    → end ≡ log ++ same_told (map (property_at all) list) d
unfolding same_told inherits_twice
told_is all list d twice log middle end is told own =
    own
    ∙ ap2 (λ (m : List TypingRefusal) (n : List (List ℕ)). m ++ own_told n d.properties) (told ∙ ap (λ t. log ++ told_if t SameName d.place) (is ∙ twice_is all list d.properties)) (above_are all list d.properties)
    ∙ append_assoc log _ _

-- a class whose inherited properties differ in their names
abbrev whole : List Property → List FeatureNo → Declared → Declared
whole all list d = record { name = d.name; supers = d.supers; properties = drop (length (map (property_at all) list) - length d.properties) (firsts [] (map (property_at all) list)); place = d.place }

-- a class that inherits two properties of one name
abbrev pub apart : List Property → List FeatureNo → Declared → Declared
apart all list d = record { name = d.name; supers = []; properties = firsts [] (map (property_at all) list); place = d.place }

abbrev pub made : List ℕ → List ℕ → List Property → Place → Declared
made name supers ps place = record { name = name; supers = supers; properties = ps; place = place }

pub read_is : (all : List Property) (list : List FeatureNo) (d : Declared) (name supers : List ℕ) (ps : List Property)
    → false ≡ is_some (repeated [] (names_at all (take (length list - length d.properties) list)))
    → name ≡ d.name → supers ≡ d.supers
    → ps ≡ firsts (names_at all (take (length list - length d.properties) list)) (map (property_at all) (drop (length list - length d.properties) list))
    → made name supers ps d.place ≡ read_class (map (property_at all) list) d
unfolding read_class inherits_twice
read_is all list d name supers ps none n s is =
    (λ t. made (n t) (s t) ((is ∙ others_are all list d.properties (sym none)) t) d.place)
    ∙ ap (λ t. if t then apart all list d else whole all list d) (none ∙ twice_is all list d.properties)

pub apart_is : (all : List Property) (list : List FeatureNo) (d : Declared)
    → true ≡ is_some (repeated [] (names_at all (take (length list - length d.properties) list)))
    → apart all list d ≡ read_class (map (property_at all) list) d
unfolding read_class inherits_twice
apart_is all list d twice = ap (λ t. if t then apart all list d else whole all list d) (twice ∙ twice_is all list d.properties)

flags_are_count : (all : List Property) (list : List FeatureNo) (flags : List Bool) → flags ≡ name_flags (names_at all list) → length flags ≡ length list
flags_are_count all list flags is = ap length is ∙ flags_count bytes_eq [] (names_at all list) ∙ length-map list (λ (f : FeatureNo). (property_at all f).name)

-- the flags of the class's own properties, among the names that it inherits
pub own_flags : (all : List Property) (list : List FeatureNo) (d : Declared) (flags own : List Bool) → flags ≡ name_flags (names_at all list) → own ≡ drop (length flags - length d.properties) flags → IsOwnLast all list d
    → own ≡ repeat_flags bytes_eq (names_at all (take (length list - length d.properties) list)) (names_of d.properties)
own_flags all list d flags own is part last =
    let k = length list - length d.properties in
    part
    ∙ (λ t. drop (flags_are_count all list flags is t - length d.properties) (is t))
    ∙ flags_drop bytes_eq k [] (names_at all list)
    ∙ ap2 (λ (a b : List (List ℕ)). repeat_flags bytes_eq a b) (take-map (λ (f : FeatureNo). (property_at all f).name) k list)
    (drop-map (λ (f : FeatureNo). (property_at all f).name) k list ∙ sym (names_are all (drop k list)) ∙ ap names_of last)

-- whether two of those that it inherits have one name
pub above_twice : (all : List Property) (list : List FeatureNo) (d : Declared) (flags : List Bool) (n : ℕ) (twice : Bool) → flags ≡ name_flags (names_at all list) → n ≡ length flags - length d.properties
    → twice ≡ is_some (repeated [] (take n (names_at all list))) → twice ≡ is_some (repeated [] (names_at all (take (length list - length d.properties) list)))
above_twice all list d flags n twice is count told =
    told
    ∙ ap (λ k. is_some (repeated [] (take k (names_at all list)))) (count ∙ ap (λ k. k - length d.properties) (flags_are_count all list flags is))
    ∙ ap (λ (ns : List (List ℕ)). is_some (repeated [] ns)) (take-map (λ (f : FeatureNo). (property_at all f).name) (length list - length d.properties) list)

-- the flags of lists by the numbers of names
pub same_flags : (all : List Property) (lists : List (List FeatureNo)) → map (number_flags (keys_of all)) lists ≡ map (λ list. name_flags (names_at all list)) lists
same_flags all [] = refl
same_flags all (list ∷ lists) =
    (λ t. flags_of_places (λ f. (property_at all f).name) (names_of all) (keys_of all) (λ f. sym (map-at_all name_of all f.0 no_property)) (key_stands all) list t ∷ same_flags all lists t)
