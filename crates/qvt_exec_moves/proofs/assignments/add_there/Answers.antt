use Rattle.std.proofs.Common.{◌≡◌, ◌∙◌, ap, List, Some, None}
use Rattle.std.specs.Option.{option_copied}
use Rattle.std.proofs.lemmas.Option.{slice_get_within}
use Rattle.qvt_metas.specs.Metamodels.{Metamodels}
use Rattle.qvt_value.specs.declared.value.Value.{Value}
use Rattle.qvt_store.specs.Contents.{Contents}
use Rattle.qvt_exec_state.specs.Held.{contents_of}
use Rattle.qvt_run_rules.specs.Statements.{added_items, collection_type}
use Rattle.qvt_exec_state.specs.Runs.{seen}
use Rattle.qvt_exec_moves.specs.Appended.{barred}
use Rattle.qvt_exec_moves.proofs.Appended.{ends, grows}
use Rattle.qvt_exec_moves.proofs.assignments.add_there.Goals as goal

pub append-requires : goal.append-requires
append-requires c = slice_get_within c.args.state.now.locals c.args.at c.in-Some.ensures.0 c.in-Some.ensures.1

pub returns-in-Some-barred : goal.returns-in-Some-barred
returns-in-Some-barred c =
    let items : c.in_ok-items.items ≡ added_items (contents_of c.args.state.now.store).metas (collection_type (option_copied c.args.of)) c.in-Some.item.now c.args.value =
    c.in_ok-items.ensures ∙ ap (λ (m : Metamodels). added_items m (collection_type (option_copied c.args.of)) c.in-Some.item.now c.args.value) (c.metas.ensures ∙ ap (λ (s : Contents). s.metas) c.as_store-store.ensures) in
    let end : Some c.in-Some-barred.end ≡ barred (contents_of c.args.state.now.store) c.in-Some.item.now c.in-Some.held.now c.in_ok-items.items c.args.place =
    c.in-Some-barred.ensures ∙ ap (λ (s : Contents). barred s c.in-Some.item.now c.in-Some.held.now c.as_slice.result.now c.args.place) c.as_store-store.ensures
    ∙ ap (λ (vs : List Value). barred (contents_of c.args.state.now.store) c.in-Some.item.now c.in-Some.held.now vs c.args.place) c.as_slice.ensures in
    ends c.args.at (option_copied c.args.of) c.args.value c.args.place (seen c.args.state.now) c.in-Some.ensures.0 c.in-Some.item.now c.in-Some.held.now c.in_ok-items.items
    c.in-Some.ensures.1 c.in-Some.ensures.2 items c.in-Some-barred.end end

pub returns-in_ok-append-in-None : goal.returns-in_ok-append-in-None
returns-in_ok-append-in-None c =
    let items : c.in_ok-items.items ≡ added_items (contents_of c.args.state.now.store).metas (collection_type (option_copied c.args.of)) c.in-Some.item.now c.args.value =
    c.in_ok-items.ensures ∙ ap (λ (m : Metamodels). added_items m (collection_type (option_copied c.args.of)) c.in-Some.item.now c.args.value) (c.metas.ensures ∙ ap (λ (s : Contents). s.metas) c.as_store-store.ensures) in
    let free : None ≡ barred (contents_of c.args.state.now.store) c.in-Some.item.now c.in-Some.held.now c.in_ok-items.items c.args.place =
    c.in-None.ensures ∙ ap (λ (s : Contents). barred s c.in-Some.item.now c.in-Some.held.now c.as_slice.result.now c.args.place) c.as_store-store.ensures
    ∙ ap (λ (vs : List Value). barred (contents_of c.args.state.now.store) c.in-Some.item.now c.in-Some.held.now vs c.args.place) c.as_slice.ensures in
    grows c.args.at (option_copied c.args.of) c.args.value c.args.place (seen c.args.state.now) c.in-Some.ensures.0 c.in-Some.item.now c.in-Some.held.now c.in_ok-items.items
    c.in-Some.ensures.1 c.in-Some.ensures.2 items free c.append.new.locals (c.in_ok-append-in-None.ensures c.in-Some.ensures.0 c.in-Some.ensures.1)
