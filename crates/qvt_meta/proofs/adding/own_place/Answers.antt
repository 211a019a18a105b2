use Rattle.std.proofs.Common.{◌≡◌, ◌∙◌, ℕ, ◌<◌, List, [], length, get_or, Bool, Option, Some, None, ap, sym, arith, position}
use Rattle.std.specs.Prelude.{unwrap_or}
use Rattle.std.specs.Map.{lookup}
use Rattle.std.specs.Str.{bytes_eq}
use Rattle.std.specs.List.{position_or_len}
use Rattle.std.proofs.lemmas.List.{get_or_read}
use Rattle.qvt_metamodel.specs.declared.declared.DeclaredFeature.{DeclaredFeature}
use Rattle.qvt_metamodel.specs.declared.declared.DeclaredClass.{DeclaredClass}
use Rattle.qvt_metas.specs.Added.{declared_at, place_in}
use Rattle.qvt_metamodel.specs.MetaData.{feature_names}
use Rattle.qvt_metamodel.proofs.Lookups.{position-map, some-within}
use Rattle.qvt_meta.specs.Places.{AreOwnNames}
use Rattle.qvt_meta.proofs.adding.own_place.Goals as goal

abbrev named : List ℕ → DeclaredFeature → Bool
named name f = bytes_eq name f.name

-- what the table of the class tells of the name
told : (ks : List DeclaredClass) (own ts : List (List (List ℕ × ℕ))) (c : ℕ) (name text : List ℕ) (t : List (List ℕ × ℕ)) (o : Option ℕ)
    → AreOwnNames ks own → c < length ks → ts ≡ own → t ≡ get_or ts c t → text ≡ name → o ≡ lookup (bytes_eq text) t → o ≡ position (named name) (declared_at ks c).features
told ks own ts c name text t o are l same is en found =
    found
    ∙ ap (λ n. lookup (bytes_eq n) t) en
    ∙ ap (lookup (bytes_eq name)) (get_or_read ts c t (omega (arith, l, are.each, ap length same)) is [])
    ∙ ap (λ xs. lookup (bytes_eq name) (get_or xs c [])) same
    ∙ are.at c l name

place_of : (name : List ℕ) (k : DeclaredClass) (o : Option ℕ) → o ≡ position (named name) k.features → unwrap_or o 0 ≡ place_in (feature_names k) name
place_of name k o e = ap (λ (x : Option ℕ). unwrap_or x 0) (e ∙ position-map (bytes_eq name) (λ (f : DeclaredFeature). f.name) k.features)

within : (p : DeclaredFeature → Bool) (fs : List DeclaredFeature) (i : ℕ) → Some i ≡ position p fs → i < length fs
within p fs i e = (let at : (position_or_len p fs < length fs) × (position_or_len p fs ≡ i) = some-within (position_or_len p fs) (length fs) i (sym e) in omega (arith, at.0, at.1))

pub bounds-tables-class : goal.bounds-tables-class
bounds-tables-class c = omega (arith, c.if-class-classes.false, c.requires.each, ap length c.as_slice-tables.ensures)

pub returns-in-Some-clause-place : goal.returns-in-Some-clause-place
returns-in-Some-clause-place c = place_of c.args.name.now (declared_at c.args.classes.now c.args.class) (Some c.in-Some.place)
    (told c.args.classes.now c.args.own.now _ c.args.class c.args.name.now _ _ _ c.requires (omega (arith, c.if-class-classes.false)) c.as_slice-tables.ensures c.index-tables-class.is c.as_str.ensures (sym c.in-Some.is ∙ c.find.ensures))

pub returns-in-None-clause-place : goal.returns-in-None-clause-place
returns-in-None-clause-place c = place_of c.args.name.now (declared_at c.args.classes.now c.args.class) None
    (told c.args.classes.now c.args.own.now _ c.args.class c.args.name.now _ _ _ c.requires (omega (arith, c.if-class-classes.false)) c.as_slice-tables.ensures c.index-tables-class.is c.as_str.ensures (sym c.in-None.is ∙ c.find.ensures))

pub returns-in-Some-clause-bound : goal.returns-in-Some-clause-bound
returns-in-Some-clause-bound c =
    let live = within (named c.args.name.now) (declared_at c.args.classes.now c.args.class).features c.in-Some.place
    (told c.args.classes.now c.args.own.now _ c.args.class c.args.name.now _ _ _ c.requires (omega (arith, c.if-class-classes.false)) c.as_slice-tables.ensures c.index-tables-class.is c.as_str.ensures (sym c.in-Some.is ∙ c.find.ensures)) in
    omega (arith, live)
