use Rattle.std.proofs.Common.{◌≡◌, ◌∙◌, ℕ, ◌<◌, ◌==◌, [], ◌∷◌, get_or, length, refl, ap, sym, subst, arith}
use Rattle.std.proofs.lemmas.List.{length-append}
use Rattle.qvt_metamodel.specs.Kept.{is_marked, no_row}
use Rattle.qvt_meta_tables.specs.Tables.{EndsWithin}
use Rattle.qvt_rows.proofs.Pushed.{each_pushed, one_pushed}
use Rattle.qvt_rows.proofs.below.own_rows.Goals as goal

pub loop-class-preserved : goal.loop-class-preserved
loop-class-preserved c =
    let row = c.in_ok-row_of_one.field-0 in
    let own = c.in_ok-row_of_one.ensures in
    let within : EndsWithin c.args.count row = record { start = own.within.start; words = omega (arith, own.within.words, c.loop-class-test.true) } in
    record {
      each = omega (arith, ap length c.in_ok-push.ensures.ok, length-append c.loop-class.rows (row ∷ []), c.loop-class.invariant.each);
      within = λ x. subst (λ rs. EndsWithin c.args.count (get_or rs x no_row)) (sym c.in_ok-push.ensures.ok)
          (each_pushed no_row (EndsWithin c.args.count) c.loop-class.rows row (record { start = refl; words = omega arith }) c.loop-class.invariant.within within x);
      own = subst (λ rs. (x : ℕ) → x < length rs → (d : ℕ) → is_marked (get_or rs x no_row) d ≡ (x == d)) (sym c.in_ok-push.ensures.ok)
          (one_pushed no_row (λ x r. (d : ℕ) → is_marked r d ≡ (x == d)) c.loop-class.rows row c.loop-class.invariant.own
          (λ d. own.own d ∙ ap (λ n. n == d) (sym c.loop-class.invariant.each)));
    }
