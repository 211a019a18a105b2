-- The first places of the names of features, after the empty name.
use Rattle.std.proofs.Common.{◌≡◌, ◌∙◌, ℕ, suc, ◌+◌, ◌<◌, List, [], ◌∷◌, length, map, get_or, drop, Bool, true, false, Option, Some, None, position, refl, ap, sym, arith}
use Rattle.std.specs.Prelude.{if◌then◌else◌, unwrap_or}
use Rattle.std.specs.Map.{lookup}
use Rattle.std.specs.Option.{option_or}
use Rattle.std.specs.Str.{bytes_eq}
use Rattle.std.proofs.lemmas.List.{drop_more}
use Rattle.qvt_base.specs.declared.numbers.FeatureNo.{FeatureNo}
use Rattle.qvt_metas.specs.Added.{place_in}
use Rattle.qvt_metas.specs.Metamodels.{nowhere_feature}
use Rattle.qvt_metamodel.specs.declared.info.FeatureInfo.{FeatureInfo}
use Rattle.qvt_metamodel.proofs.Infos.{map-at_all}
use Rattle.qvt_meta_names.specs.Named.{number_at, number_in, numbers_of}
use Rattle.qvt_meta_names.proofs.Tables.{first_at}
use Rattle.qvt_meta_repeats.specs.Flags.{name_flags, number_flags}
use Rattle.qvt_meta_repeats.proofs.Names.{first_empty, flags_of_places}
use Rattle.qvt_meta_given.specs.Given.{name_in, known_names}

abbrev pub name_of : FeatureInfo → List ℕ
name_of f = f.name

both : (a : Option ℕ) (t : Bool) (n : ℕ) (rest : Option ℕ) → option_or (option_or a (if t then Some n else None)) rest ≡ option_or a (if t then Some n else rest)
both None true n rest = refl
both None false n rest = refl
both (Some x) true n rest = refl
both (Some x) false n rest = refl

-- a turn that looks at the next name, whose place is after the empty one
pub known_next : (name : List ℕ) (names : List (List ℕ)) (i : ℕ) (a b r : Option ℕ) → i < length names → option_or a (first_at (bytes_eq name) (suc i) (drop i names)) ≡ r
    → b ≡ option_or a (if bytes_eq name (get_or names i []) then Some (suc i) else None) → option_or b (first_at (bytes_eq name) (suc (i + 1)) (drop (i + 1) names)) ≡ r
known_next name names i a b r l before is =
    ap (λ o. option_or o (first_at (bytes_eq name) (suc (i + 1)) (drop (i + 1) names))) is
    ∙ both a (bytes_eq name (get_or names i [])) (suc i) (first_at (bytes_eq name) (suc (i + 1)) (drop (i + 1) names))
    ∙ ap (λ n. option_or a (if bytes_eq name (get_or names i []) then Some (suc i) else first_at (bytes_eq name) n (drop (i + 1) names))) (let same : suc (i + 1) ≡ suc i + 1 = omega arith in same)
    ∙ ap (λ (ys : List (List ℕ)). option_or a (first_at (bytes_eq name) (suc i) ys)) (sym (drop_more names i [] l))
    ∙ before

-- the flags of features by a table of the first places of names
module _ (fs : List FeatureInfo) (table : List (List ℕ × ℕ)) (first : (name : List ℕ) → lookup (bytes_eq name) table ≡ position (bytes_eq name) (known_names fs)) where
  number_is : (name : List ℕ) → number_in table name ≡ place_in (known_names fs) name
  number_is name = ap (λ (o : Option ℕ). unwrap_or o 0) (first name)

  place_is : (f : FeatureNo) → number_at (numbers_of table fs) f ≡ place_in (known_names fs) (name_in fs f)
  place_is f =
      ap (λ d. get_or (map (λ (g : FeatureInfo). number_in table g.name) fs) f.0 d) (sym (first_empty (map name_of fs)) ∙ sym (number_is []))
      ∙ map-at_all (λ (g : FeatureInfo). number_in table g.name) fs f.0 nowhere_feature
      ∙ number_is (name_in fs f)

  pub flags_known : (lists : List (List FeatureNo)) → map (number_flags (numbers_of table fs)) lists ≡ map (λ list. name_flags (map (name_in fs) list)) lists
  flags_known [] = refl
  flags_known (list ∷ lists) =
      (λ t. flags_of_places (name_in fs) (map name_of fs) (numbers_of table fs) (λ f. sym (map-at_all name_of fs f.0 nowhere_feature)) place_is list t ∷ flags_known lists t)
