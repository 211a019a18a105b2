use Rattle.std.proofs.Common.{◌≡◌, ◌∙◌, ap, sym, ◌∷◌, rules, true, false}
use Rattle.std.specs.Str.{bytes_eq}
use Rattle.std.specs.Ordering.{nat_cmp}
use Rattle.std.specs.Cmp.Lexicographic.{slice_cmp, nat_list_cmp_total}
use Rattle.std.specs.FinMap.{find, get-from_entries}
use Rattle.std.specs.VecDeque.Iter.{deque_iter_rest}
use Rattle.qvt_base.specs.MemFiles.{pairs}
use Rattle.qvt_base.proofs.Entries.{found_first, found_later}
use Rattle.qvt_base.proofs.mem_files.find.Goals as goal

pub loop-entry-init : goal.loop-entry-init
loop-entry-init c = get-from_entries nat_list_cmp_total (pairs c.args.log.now.items) c.args.name.now
    ∙ ap (λ es. find (slice_cmp nat_cmp) c.args.name.now (pairs es)) (sym c.into_iter-entry-iterator.ensures.into_iter_gives.0)

pub returns-then-eq : goal.returns-then-eq
returns-then-eq c =
    let is : deque_iter_rest c.loop-entry.entry-iterator ≡ c.in-Some.entry.now ∷ deque_iter_rest c.next.new.self = search rules in
    let same : bytes_eq c.in-Some.entry.now.name c.args.name.now ≡ true = search rules in
    sym (c.loop-entry.invariant ∙ found_first c.args.name.now _ _ c.in-Some.entry.now is same)

pub loop-entry-preserved : goal.loop-entry-preserved
loop-entry-preserved c =
    let is : deque_iter_rest c.loop-entry.entry-iterator ≡ c.in-Some.entry.now ∷ deque_iter_rest c.next.new.self = search rules in
    let other : bytes_eq c.in-Some.entry.now.name c.args.name.now ≡ false = search rules in
    c.loop-entry.invariant ∙ found_later c.args.name.now _ _ c.in-Some.entry.now is other
