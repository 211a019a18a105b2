use Rattle.std.proofs.Common.{◌≡◌, ◌∙◌, ap, subst, ℕ, List, length, Ok, Err}
use Rattle.std.specs.Prelude.{OnOk}
use Rattle.qvt_model.specs.declared.data.ModelData.{ModelData}
use Rattle.qvt_model.specs.declared.data.ObjectData.{ObjectData}
use Rattle.qvt_outcome.specs.Chain.{Chain, step}
use Rattle.qvt_outcome.specs.Follows.{Follows}
use Rattle.qvt_outcome.proofs.Chained.{stopped, stepped}
use Rattle.qvt_inputs.specs.Conforming.{model_read}
use Rattle.qvt_inputs.specs.Inputs.{extent_named, metamodel_of, with_input, input_read}
use Rattle.qvt_inputs.specs.declared.loaded.Loaded.{Loaded}
use Rattle.qvt_inputs.proofs.Loads.{loaded_gives, quiet}
use Rattle.qvt_inputs.proofs.inputs.read_input.Goals as goal

pub returns-in-Err-clause-follows : goal.returns-in-Err-clause-follows
unfolding input_read
returns-in-Err-clause-follows g c =
    let l : Loaded = c.args.loaded.now in
    let e : ℕ = extent_named l.store c.args.input.now.model in
    let kind : c.metamodel_of-metamodel.result ≡ metamodel_of l.store e = c.metamodel_of-metamodel.ensures ∙ ap (metamodel_of l.store) c.in-Some.ensures.number in
    stopped (λ (m : ModelData). m.objects) (λ _. l) (model_read l.store.metas (metamodel_of l.store e) (length l.store.objects) c.args.input.now.file)
    (λ (os : List ObjectData). step (Ok (with_input l e os))) (g.F.Files.seen c.args.files.now) (g.F.Files.seen c.read_conforming.new.files) c.in-Err.stop
    (subst (λ (chain : Chain (List ObjectData)). Follows (λ (m : ModelData). m.objects) chain (g.F.Files.seen c.args.files.now) (Err c.in-Err.stop) (g.F.Files.seen c.read_conforming.new.files))
    (λ i. model_read (c.metas.ensures i) (kind i) (c.len-before.ensures i) c.args.input.now.file) c.in-Err.ensures.follows)

pub returns-in-Ok-clause-follows : goal.returns-in-Ok-clause-follows
unfolding input_read
returns-in-Ok-clause-follows g c =
    let l : Loaded = c.args.loaded.now in
    let e : ℕ = extent_named l.store c.args.input.now.model in
    let kind : c.metamodel_of-metamodel.result ≡ metamodel_of l.store e = c.metamodel_of-metamodel.ensures ∙ ap (metamodel_of l.store) c.in-Some.ensures.number in
    let loaded : OnOk c.load_input.result (c.load_input.new.loaded ≡ with_input l e c.in-Ok.model.objects) =
    subst (λ k. OnOk c.load_input.result (c.load_input.new.loaded ≡ with_input l k c.in-Ok.model.objects)) c.in-Some.ensures.number c.load_input.ensures.loaded in
    stepped (λ (m : ModelData). m.objects) (λ _. c.load_input.new.loaded) (model_read l.store.metas (metamodel_of l.store e) (length l.store.objects) c.args.input.now.file)
    (λ (os : List ObjectData). Ok (with_input l e os)) (g.F.Files.seen c.args.files.now) (g.F.Files.seen c.read_conforming.new.files) c.in-Ok.model c.load_input.result
    (subst (λ (chain : Chain (List ObjectData)). Follows (λ (m : ModelData). m.objects) chain (g.F.Files.seen c.args.files.now) (Ok c.in-Ok.model) (g.F.Files.seen c.read_conforming.new.files))
    (λ i. model_read (c.metas.ensures i) (kind i) (c.len-before.ensures i) c.args.input.now.file) c.in-Ok.ensures.follows)
    (loaded_gives c.load_input.result c.load_input.new.loaded (with_input l e c.in-Ok.model.objects) loaded c.load_input.ensures.memory)
    (quiet c.load_input.result c.load_input.ensures.memory)
