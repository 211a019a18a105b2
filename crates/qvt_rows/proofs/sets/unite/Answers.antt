use Rattle.std.proofs.Common.{subst}
use Rattle.qvt_rows.specs.Sets.{ArePut}
use Rattle.qvt_rows.proofs.SetWords.{both_marks}
use Rattle.qvt_rows.proofs.sets.unite.Goals as goal

pub returns-clause-marks : goal.returns-clause-marks
returns-clause-marks c = both_marks c.args.row.now c.args.other.now c.lengthen.new.row c.put_words.new.row c.requires.row.start c.requires.other.start c.put_words.ensures.within.start c.in_ok-lengthen.ensures.ok
    (subst (λ end. ArePut end c.lengthen.new.row c.args.other.now c.put_words.new.row) c.end_of-end.ensures c.put_words.ensures.words)
