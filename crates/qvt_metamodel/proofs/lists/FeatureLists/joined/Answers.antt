use Rattle.std.proofs.Common.{◌≡◌, ◌∙◌, ◌<◌, ◌+◌, ◌^◌, List, ◌++◌, Option, ap, arith, length, map, option_map, sym, subst}
use Rattle.std.specs.Prelude.{IfSome}
use Rattle.std.specs.List.{All}
use Rattle.std.proofs.lemmas.List.{length-append}
use Rattle.qvt_metamodel.specs.declared.front.Front.{Front}
use Rattle.qvt_metamodel.specs.Lists.{all_lists, front_of, AreLined, AreMapped}
use Rattle.qvt_metamodel.proofs.Fronts.{Lines, Begins, after, begins_fit, mapped_count, both_lists, lined_both}
use Rattle.qvt_metamodel.proofs.lists.FeatureLists.joined.Goals as goal

pub add_begins-requires : goal.add_begins-requires
add_begins-requires c =
    let start : c.len-start.result ≡ length c.self.inside.lines.items = omega (arith, c.len-start.ensures) in
    let all : c.in_ok-all.all.items ≡ c.self.inside.lines.items ++ c.args.lines.items = c.in_ok-all.ensures ∙ ap (λ ls. ls ++ c.args.lines.items) c.as_slice.ensures.value in
    let mapped : AreMapped c.others.inside.lines.items c.args.lines.items = subst (λ ls. AreMapped ls.lines c.args.lines.items) (sym c.others.view_is) c.requires in
    let count : length c.in_ok-all.all.items ≡ c.len-start.result + length c.others.inside.lines.items =
    ap length all ∙ length-append c.self.inside.lines.items c.args.lines.items ∙ (λ i. sym start i + mapped_count c.others.inside.lines.items c.args.lines.items mapped i) in
    subst (All (λ (b : Option Front). IfSome b (λ f. c.len-start.result + f.line < 2 ^ 64))) (sym c.as_slice-3.ensures)
    (begins_fit c.others.inside.lines.items c.others.inside.begins c.others.inside.fronts _ _ c.others.invariant (omega (arith, count, c.len-total.ensures)))

pub invariant_of-result : goal.invariant_of-result
invariant_of-result c =
    let start : c.len-start.result ≡ length c.self.inside.lines.items = omega (arith, c.len-start.ensures) in
    let all : c.in_ok-all.all.items ≡ c.self.inside.lines.items ++ c.args.lines.items = c.in_ok-all.ensures ∙ ap (λ ls. ls ++ c.args.lines.items) c.as_slice.ensures.value in
    let begins : c.add_begins.new.begins ≡ c.self.inside.begins ++ map (option_map (after (length c.self.inside.lines.items))) c.others.inside.begins =
    c.in_ok-add_begins.ensures ∙ (λ i. (c.in_ok-begins.ensures ∙ c.as_slice-2.ensures) i ++ map (option_map (after (start i))) (c.as_slice-3.ensures i)) in
    let fronts : c.add_fronts.new.fronts ≡ c.self.inside.fronts ++ map (after (length c.self.inside.lines.items)) c.others.inside.fronts =
    c.in_ok-add_fronts.ensures ∙ (λ i. (c.in_ok-fronts.ensures ∙ c.as_slice-4.ensures) i ++ map (after (start i)) (c.as_slice-5.ensures i)) in
    let mapped : AreMapped c.others.inside.lines.items c.args.lines.items = subst (λ ls. AreMapped ls.lines c.args.lines.items) (sym c.others.view_is) c.requires in
    subst (λ (ls : Lines). AreLined ls c.add_begins.new.begins c.add_fronts.new.fronts) (sym all)
    (subst (λ (bs : Begins). AreLined (c.self.inside.lines.items ++ c.args.lines.items) bs c.add_fronts.new.fronts) (sym begins)
    (subst (λ (fs : List Front). AreLined (c.self.inside.lines.items ++ c.args.lines.items) (c.self.inside.begins ++ map (option_map (after (length c.self.inside.lines.items))) c.others.inside.begins) fs) (sym fronts)
    (lined_both c.self.inside.lines.items c.others.inside.lines.items c.args.lines.items c.self.inside.begins c.others.inside.begins c.self.inside.fronts c.others.inside.fronts c.self.invariant c.others.invariant mapped)))

pub returns : goal.returns
returns c =
    let start : c.len-start.result ≡ length c.self.inside.lines.items = omega (arith, c.len-start.ensures) in
    let all : c.in_ok-all.all.items ≡ c.self.inside.lines.items ++ c.args.lines.items = c.in_ok-all.ensures ∙ ap (λ ls. ls ++ c.args.lines.items) c.as_slice.ensures.value in
    let fronts : c.add_fronts.new.fronts ≡ c.self.inside.fronts ++ map (after (length c.self.inside.lines.items)) c.others.inside.fronts =
    c.in_ok-add_fronts.ensures ∙ (λ i. (c.in_ok-fronts.ensures ∙ c.as_slice-4.ensures) i ++ map (after (start i)) (c.as_slice-5.ensures i)) in
    (λ i. map (front_of (all i)) (fronts i))
    ∙ both_lists c.self.inside.lines.items c.args.lines.items c.self.inside.fronts c.others.inside.fronts c.self.invariant.within
    ∙ (λ i. all_lists (c.self.view_is i) ++ map (front_of c.args.lines.items) ((c.others.view_is i).fronts))
