use Rattle.std.proofs.Common.{option_map}
use Rattle.qvt_metas.specs.Descends.{descends}
use Rattle.qvt_types_data.specs.Term.{ty_view}
use Rattle.qvt_types_words.specs.Answers.{accepted_view, plain_types}
use Rattle.qvt_types_words.proofs.Arguments.{two_by_two}
use Rattle.qvt_types_words.proofs.answers.accept_pair.Goals as goal

pub returns : goal.returns
returns c =
    two_by_two (descends c.args.metas.now) c.args.first c.args.second c.args.before.kind (ty_view c.args.before.joined)
    (ty_view c.args.given.now) (plain_types c.args.others.now) (option_map accepted_view c.in_ok-next.next)
    (option_map accepted_view c.in_ok-last.last) c.in_ok-next.ensures c.in_ok-last.ensures
