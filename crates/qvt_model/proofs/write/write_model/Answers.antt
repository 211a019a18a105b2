use Rattle.std.proofs.Common.{◌≡◌, ◌∙◌, ◌<◌, ◌^◌, eqb, [], length, sym, ap, subst, ◌≤◌, arith}
use Rattle.serde_json.specs.View.{view}
use Rattle.qvt_repeats.specs.Repeats.{repeated_by}
use Rattle.qvt_metas.specs.WellFormed.{IsWellFormed}
use Rattle.qvt_json.specs.Plain.{IsPlain, file_text}
use Rattle.qvt_store.specs.Contents.{is_live, members_of}
use Rattle.qvt_store.specs.Limits.{most_objects}
use Rattle.std.specs.List.{AllByRecursion}
use Rattle.std.specs.Prelude.{IsTrue}
use Rattle.qvt_model.specs.Extents.{numbers, data_of}
use Rattle.qvt_model.specs.Written.{model_text, model_value}
use Rattle.qvt_model.specs.Writing.{model_written}
use Rattle.qvt_model.proofs.Writing.{members-new, members-live, model_written-is, IsPlain-model_written}
use Rattle.qvt_model.proofs.write.write_model.Goals as goal

pub model_written-requires-clause-new : goal.model_written-requires-clause-new
model_written-requires-clause-new c = ap (λ ms. repeated_by eqb [] (numbers ms)) c.extent.ensures ∙ members-new c.args.store.now c.args.extent

pub model_written-requires-clause-live : goal.model_written-requires-clause-live
model_written-requires-clause-live c = subst (AllByRecursion (λ o. IsTrue (is_live c.args.store.now o.0))) (sym c.extent.ensures) (members-live c.args.store.now c.args.extent)

pub write_value-requires : goal.write_value-requires
write_value-requires c =
    let s = c.args.store.now in
    let named : IsWellFormed s.metas = c.is_whole.ensures.well_formed in
    let few : length s.objects < 2 ^ 32 = let h : length s.objects ≤ most_objects = c.is_whole.ensures.few in omega arith in
    let same : view c.in_ok-value.value ≡ model_written s (numbers (members_of s c.args.extent)) = c.in_ok-value.ensures ∙ ap (λ ms. model_written s (numbers ms)) c.extent.ensures in
    subst IsPlain (sym same) (IsPlain-model_written s c.args.extent named c.requires.sound few)

pub returns-clause-text : goal.returns-clause-text
unfolding model_text
returns-clause-text c =
    let s = c.args.store.now in
    let same : view c.in_ok-value.value ≡ model_value s.metas (data_of s c.args.extent) =
    c.in_ok-value.ensures ∙ ap (λ ms. model_written s (numbers ms)) c.extent.ensures ∙ model_written-is s c.args.extent c.is_whole.ensures.well_formed in
    c.in_ok-write_value.ensures ∙ ap file_text same
