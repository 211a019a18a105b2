use Rattle.std.proofs.Common.{◌∙◌, ◌-◌, ◌++◌, List, ap, drop, length, sym, take}
use Rattle.std.specs.Str.{bytes_eq}
use Rattle.std.proofs.lemmas.List.{length-map}
use Rattle.qvt_meta_repeats.specs.Flags.{repeat_flags}
use Rattle.qvt_meta_repeats.proofs.Flags.{flags_count}
use Rattle.qvt_types_classes.specs.declared.declared.Property.{Property}
use Rattle.qvt_types_classes.specs.Inherited.{firsts, names_of, own_told}
use Rattle.qvt_types_classes.specs.Keys.{names_at}
use Rattle.qvt_types_classes.proofs.Keys.{above_twice, apart_is, own_flags, read_is, told_is}
use Rattle.qvt_types_classes.proofs.reading.read_class.Goals as goal

pub tell_own-requires : goal.tell_own-requires
tell_own-requires c =
    let all = c.args.all.now in
    let list = c.args.list.now in
    let d = c.args.class.now in
    let names = names_at all (take (length list - length d.properties) list) in
    let own = own_flags all list d c.args.flags.now c.parted-inherited.result.1.now c.requires.flags (c.parted-inherited.ensures.own ∙ ap (λ n. drop (length c.args.flags.now - n) c.args.flags.now) c.len.ensures) c.requires.own in
    ap length own ∙ flags_count bytes_eq names (names_of d.properties) ∙ length-map d.properties (λ (p : Property). p.name) ∙ ap length (sym c.as_slice.ensures)

pub returns-then-twice-clause-read : goal.returns-then-twice-clause-read
returns-then-twice-clause-read c =
    let all = c.args.all.now in
    let list = c.args.list.now in
    let d = c.args.class.now in
    let twice = above_twice all list d c.args.flags.now c.parted-inherited.result.0 c.inherits_twice-twice.result c.requires.flags (c.parted-inherited.ensures.inherited ∙ ap (λ n. length c.args.flags.now - n) c.len.ensures)
    (c.inherits_twice-twice.ensures (names_at all list) c.requires.first) in
    c.in_ok-read.ensures ∙ apart_is all list d (sym c.if-twice.true ∙ twice)

pub returns-then-twice-clause-told : goal.returns-then-twice-clause-told
returns-then-twice-clause-told c =
    let all = c.args.all.now in
    let list = c.args.list.now in
    let d = c.args.class.now in
    let names = names_at all (take (length list - length d.properties) list) in
    let twice = above_twice all list d c.args.flags.now c.parted-inherited.result.0 c.inherits_twice-twice.result c.requires.flags (c.parted-inherited.ensures.inherited ∙ ap (λ n. length c.args.flags.now - n) c.len.ensures)
    (c.inherits_twice-twice.ensures (names_at all list) c.requires.first) in
    let own = own_flags all list d c.args.flags.now c.parted-inherited.result.1.now c.requires.flags (c.parted-inherited.ensures.own ∙ ap (λ n. drop (length c.args.flags.now - n) c.args.flags.now) c.len.ensures) c.requires.own in
    told_is all list d c.inherits_twice-twice.result c.args.log.now c.tell_if.new.log c.tell_own.new.log twice c.in_ok-tell_if.ensures
    (c.in_ok-tell_own.ensures names (own ∙ ap (λ (ps : List Property). repeat_flags bytes_eq names (names_of ps)) (sym c.as_slice.ensures))
    ∙ ap (λ (ps : List Property). c.tell_if.new.log ++ own_told names ps) c.as_slice.ensures)

pub unflagged-requires : goal.unflagged-requires
unflagged-requires c =
    let all = c.args.all.now in
    let list = c.args.list.now in
    let d = c.args.class.now in
    let names = names_at all (take (length list - length d.properties) list) in
    let own = own_flags all list d c.args.flags.now c.parted-inherited.result.1.now c.requires.flags (c.parted-inherited.ensures.own ∙ ap (λ n. drop (length c.args.flags.now - n) c.args.flags.now) c.len.ensures) c.requires.own in
    ap length own ∙ flags_count bytes_eq names (names_of d.properties) ∙ length-map d.properties (λ (p : Property). p.name) ∙ ap length (sym c.as_slice-2.ensures)

pub returns-clause-read : goal.returns-clause-read
returns-clause-read c =
    let all = c.args.all.now in
    let list = c.args.list.now in
    let d = c.args.class.now in
    let names = names_at all (take (length list - length d.properties) list) in
    let twice = above_twice all list d c.args.flags.now c.parted-inherited.result.0 c.inherits_twice-twice.result c.requires.flags (c.parted-inherited.ensures.inherited ∙ ap (λ n. length c.args.flags.now - n) c.len.ensures)
    (c.inherits_twice-twice.ensures (names_at all list) c.requires.first) in
    let own = own_flags all list d c.args.flags.now c.parted-inherited.result.1.now c.requires.flags (c.parted-inherited.ensures.own ∙ ap (λ n. drop (length c.args.flags.now - n) c.args.flags.now) c.len.ensures) c.requires.own in
    read_is all list d c.in_ok-copy.field-0 c.in_ok-copy-2.field-0 c.in_ok-unflagged.field-0 (sym c.if-twice.false ∙ twice) c.in_ok-copy.ensures c.in_ok-copy-2.ensures
    (c.in_ok-unflagged.ensures names (own ∙ ap (λ (ps : List Property). repeat_flags bytes_eq names (names_of ps)) (sym c.as_slice-2.ensures))
    ∙ ap (firsts names) (c.as_slice-2.ensures ∙ sym c.requires.own))

pub returns-clause-told : goal.returns-clause-told
returns-clause-told c =
    let all = c.args.all.now in
    let list = c.args.list.now in
    let d = c.args.class.now in
    let names = names_at all (take (length list - length d.properties) list) in
    let twice = above_twice all list d c.args.flags.now c.parted-inherited.result.0 c.inherits_twice-twice.result c.requires.flags (c.parted-inherited.ensures.inherited ∙ ap (λ n. length c.args.flags.now - n) c.len.ensures)
    (c.inherits_twice-twice.ensures (names_at all list) c.requires.first) in
    let own = own_flags all list d c.args.flags.now c.parted-inherited.result.1.now c.requires.flags (c.parted-inherited.ensures.own ∙ ap (λ n. drop (length c.args.flags.now - n) c.args.flags.now) c.len.ensures) c.requires.own in
    told_is all list d c.inherits_twice-twice.result c.args.log.now c.tell_if.new.log c.tell_own.new.log twice c.in_ok-tell_if.ensures
    (c.in_ok-tell_own.ensures names (own ∙ ap (λ (ps : List Property). repeat_flags bytes_eq names (names_of ps)) (sym c.as_slice.ensures))
    ∙ ap (λ (ps : List Property). c.tell_if.new.log ++ own_told names ps) c.as_slice.ensures)
