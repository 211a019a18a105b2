use Rattle.std.proofs.Common.{◌≡◌, ◌≢◌, ◌∙◌, [], None, sym, subst}
use Rattle.serde_json.specs.View.{view}
use Rattle.qvt_json.specs.Shape.{shown}
use Rattle.qvt_metamodel.specs.declared.declared.MetaData.{MetaData}
use Rattle.qvt_meta_read.specs.MetaForm.{meta_form}
use Rattle.qvt_meta.proofs.NameThere.{named_data}
use Rattle.qvt_meta_checks.proofs.Passing.{map_none}
use Rattle.qvt_meta.proofs.meta.read_meta.Goals as goal

pub checked-requires : goal.checked-requires
checked-requires c =
    let formed : meta_form (view c.in-Some.value) ≡ None = map_none shown _ (sym c.in_ok-path.ensures ∙ c.in_default-2.is) in
    subst (λ (x : MetaData). x.name ≢ []) (sym c.in_ok-meta_data.ensures) (named_data (view c.in-Some.value) formed)
