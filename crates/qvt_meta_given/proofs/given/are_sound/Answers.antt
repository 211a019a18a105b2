use Rattle.std.proofs.Common.{◌≡◌, ◌∙◌, ◌+◌, length, drop, ap, sym, arith}
use Rattle.std.specs.List.{list_all}
use Rattle.qvt_metas.specs.Extended.{extended}
use Rattle.qvt_metamodel.proofs.Bools.{ap2}
use Rattle.qvt_metamodel.specs.Lists.{all_lists}
use Rattle.qvt_meta_tables.specs.Cycles.{first_cycle}
use Rattle.qvt_meta_given.specs.Given.{are_named_apart}
use Rattle.qvt_meta_given.proofs.Sound.{few, are_there, not_found, none_found, lists_total, sound_of, of_sound}
use Rattle.qvt_meta_given.proofs.given.are_sound.Goals as goal

pub overflow_cast-count : goal.overflow_cast-count
overflow_cast-count c = omega (arith, c.len-count.ensures, ap length c.in_ok-infos.ensures, few c.args.metas.now c.args.classes.now c.requires.room)

pub returns-then-is_some-clause-refused : goal.returns-then-is_some-clause-refused
returns-then-is_some-clause-refused c = λ no.
    not_found c.args.metas.now c.args.classes.now _ _ (c.as_slice.ensures.value ∙ c.in_ok-infos.ensures) c.in_ok-first_cycle.ensures.cycle (sym c.is_some.ensures ∙ c.if-is_some.true) c.class_count-before.ensures.well_formed c.requires.live

pub tables_of-requires-clause-live : goal.tables_of-requires-clause-live
tables_of-requires-clause-live c =
    are_there c.args.metas.now c.args.classes.now _ (c.as_slice-2.ensures.value ∙ c.in_ok-infos.ensures) c.class_count-before.ensures.well_formed c.requires.live

pub tables_of-requires-clause-acyclic : goal.tables_of-requires-clause-acyclic
tables_of-requires-clause-acyclic c =
    none_found c.args.metas.now c.args.classes.now c.as_slice-2.result.now _ (c.in_ok-first_cycle.ensures.cycle ∙ ap first_cycle (c.as_slice.ensures.value ∙ sym c.as_slice-2.ensures.value)) (sym c.is_some.ensures ∙ c.if-is_some.false)

pub all_differ-requires : goal.all_differ-requires
all_differ-requires c =
    let total : length (all_lists c.in_ok-tables.tables.lists) ≡ length c.args.metas.now.classes + (1 + length c.args.classes.now) =
    lists_total c.args.metas.now c.args.classes.now _ _ _ _ (c.as_slice-2.ensures.value ∙ c.in_ok-infos.ensures) c.in_ok-tables.ensures in
    let each : length (all_lists c.in_ok-tables.tables.lists) ≡ length c.in_ok-infos.infos.items = c.in_ok-tables.ensures.each ∙ ap length c.as_slice-2.ensures.value in
    record {
      first = omega (arith, total, each, c.len.ensures, c.class_count-before.ensures.count);
      count = omega (arith, each, c.len.ensures);
    }

pub returns-clause-sound : goal.returns-clause-sound
returns-clause-sound c =
    let all : c.in_ok-differ.differ ≡ list_all (are_named_apart (extended c.args.metas.now c.args.classes.now).features) (drop (length c.args.metas.now.classes + 1) (all_lists c.in_ok-tables.tables.lists)) =
    c.in_ok-differ.ensures ∙ ap2 (λ fs n. list_all (are_named_apart fs) (drop (n + 1) (all_lists c.in_ok-tables.tables.lists))) (c.as_slice-3.ensures.value ∙ c.in_ok-features.ensures) c.class_count-before.ensures.count in
    λ yes. sound_of c.args.metas.now c.args.classes.now _ _ _ _ (c.as_slice-2.ensures.value ∙ c.in_ok-infos.ensures) c.in_ok-tables.ensures
    (none_found c.args.metas.now c.args.classes.now c.as_slice-2.result.now _ (c.in_ok-first_cycle.ensures.cycle ∙ ap first_cycle (c.as_slice.ensures.value ∙ sym c.as_slice-2.ensures.value)) (sym c.is_some.ensures ∙ c.if-is_some.false))
    (sym all ∙ yes)

pub returns-clause-refused : goal.returns-clause-refused
returns-clause-refused c =
    let all : c.in_ok-differ.differ ≡ list_all (are_named_apart (extended c.args.metas.now c.args.classes.now).features) (drop (length c.args.metas.now.classes + 1) (all_lists c.in_ok-tables.tables.lists)) =
    c.in_ok-differ.ensures ∙ ap2 (λ fs n. list_all (are_named_apart fs) (drop (n + 1) (all_lists c.in_ok-tables.tables.lists))) (c.as_slice-3.ensures.value ∙ c.in_ok-features.ensures) c.class_count-before.ensures.count in
    λ no. of_sound c.args.metas.now c.args.classes.now _ _ _ _ (c.as_slice-2.ensures.value ∙ c.in_ok-infos.ensures) c.in_ok-tables.ensures (sym all ∙ no)
