-- A metamodel that passes its checks is the data that was read.
use Rattle.std.proofs.Common.{◌≡◌, ◌≢◌, [], Option, Some, None, Result, Ok, refl, subst}
use Rattle.std.specs.Prelude.{option_map, ⊤}
use Rattle.serde_json.specs.Data.{Data}
use Rattle.qvt_json.specs.Json.{json}
use Rattle.qvt_json.specs.Shape.{shown}
use Rattle.qvt_results.specs.Bind.{◌>>=◌}
use Rattle.qvt_json.specs.Steps.{or_fault, none_of}
use Rattle.qvt_metamodel.specs.declared.declared.MetaData.{MetaData}
use Rattle.qvt_metamodel.specs.declared.fault.MetaFault.{MetaFault}
use Rattle.qvt_metamodel.specs.declared.fault.MetaFault.TheVariants.{Json, Shape, SameName, UnknownType, InheritanceCycle, BadBounds, BadOpposite, SameFeature}
use Rattle.qvt_metamodel.specs.Checks.{same_name, unknown_type, inheritance_cycle, bad_bounds, bad_opposite, same_feature}
use Rattle.qvt_meta_read.specs.MetaForm.{meta_form}
use Rattle.qvt_meta_read.specs.DataOf.{meta_data}
use Rattle.qvt_meta_checks.proofs.Passing.{map_none}
use Rattle.qvt_meta.specs.MetaOf.{tell, checked, meta_of}
use Rattle.qvt_meta.specs.Named.{MetaHasName}
use Rattle.qvt_meta.proofs.NameThere.{named_data}

-- a step that found nothing, and what came after it
record Passed {A : Type 0} (o : Option MetaFault) (r : Result A MetaFault) (x : A) : Type 0 where
  nothing : o ≡ None
  after : r ≡ Ok x

passed : {A : Type 0} (o : Option MetaFault) (r : Result A MetaFault) (x : A) → (none_of o >>= (λ (_ : ⊤). r)) ≡ Ok x → Passed o r x
passed None r x e = record { nothing = refl; after = e }
passed (Some f) r x e = absurd (cc)

checked_same : (d x : MetaData) → checked d ≡ Ok x → d ≡ x
unfolding checked
checked_same d x e =
    let a = passed (option_map SameName (same_name d)) _ x e in
    let b = passed (option_map (tell UnknownType) (unknown_type d)) _ x a.after in
    let c = passed (option_map InheritanceCycle (inheritance_cycle d)) _ x b.after in
    let f = passed (option_map (tell BadBounds) (bad_bounds d)) _ x c.after in
    let g = passed (option_map (tell BadOpposite) (bad_opposite d)) _ x f.after in
    let h = passed (option_map (tell SameFeature) (same_feature d)) (Ok d) x g.after in
    ok_same d x h.after
  where
    ok_same : (d x : MetaData) → ◌≡◌ {A = Result MetaData MetaFault} (Ok d) (Ok x) → d ≡ x
    ok_same d x e = cc

abbrev shape_told : Data → Option MetaFault
shape_told d = option_map (λ path. Shape (shown path)) (meta_form d)

read_named : (o : Option Data) (x : MetaData) → (or_fault Json o >>= (λ d. none_of (shape_told d) >>= (λ (_ : ⊤). checked (meta_data d)))) ≡ Ok x → x.name ≢ []
read_named None x e = absurd (cc)
read_named (Some d) x e =
    let a = passed (shape_told d) (checked (meta_data d)) x e in
    subst (λ (y : MetaData). y.name ≢ []) (checked_same (meta_data d) x a.after) (named_data d (map_none (λ path. Shape (shown path)) (meta_form d) a.nothing))

pub meta_has_name : MetaHasName
unfolding meta_of
meta_has_name bytes x e = read_named (json bytes) x e
