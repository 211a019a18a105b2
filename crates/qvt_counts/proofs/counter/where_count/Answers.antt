use Rattle.std.proofs.Common.{◌≡◌, ◌∙◌, ◌/◌, ◌&&◌, true, arith}
use Rattle.qvt_metamodel.specs.Kept.{is_bit}
use Rattle.qvt_counts.specs.Counts.{counted, digits, is_digit}
use Rattle.qvt_counts.proofs.Counting.{seven_and, agree_is}
use Rattle.qvt_counts.proofs.counter.where_count.Goals as goal

pub returns : goal.returns
unfolding counted
returns c = λ k l.
    let n = c.args.count in
    let counter = c.args.counter.now in
    let fours : n / 4 ≡ n / 2 / 2 = omega arith in
    let eights : n / 8 ≡ n / 2 / 2 / 2 = omega arith in
    let sixteens : n / 16 ≡ n / 2 / 2 / 2 / 2 = omega arith in
    let thirty_twos : n / 32 ≡ n / 2 / 2 / 2 / 2 / 2 = omega arith in
    let sixty_fours : n / 64 ≡ n / 2 / 2 / 2 / 2 / 2 / 2 = omega arith in
    seven_and c.same_digit.result c.same_digit-2.result c.same_digit-3.result c.same_digit-4.result c.same_digit-5.result c.same_digit-6.result c.same_digit-7.result k
    ∙ (λ i. c.same_digit.ensures k l i && (c.same_digit-2.ensures k l i && (c.same_digit-3.ensures k l i && (c.same_digit-4.ensures k l i && (c.same_digit-5.ensures k l i && (c.same_digit-6.ensures k l i && (c.same_digit-7.ensures k l i && true)))))))
    ∙ (λ i. is_digit (is_bit counter.ones k) n && (is_digit (is_bit counter.twos k) (n / 2) && (is_digit (is_bit counter.fours k) (fours i) && (is_digit (is_bit counter.eights k) (eights i)
    && (is_digit (is_bit counter.sixteens k) (sixteens i) && (is_digit (is_bit counter.thirty_twos k) (thirty_twos i) && (is_digit (is_bit counter.sixty_fours k) (sixty_fours i) && true)))))))
    ∙ agree_is (digits counter k) n (omega (arith, c.requires))
