use Rattle.std.proofs.Common.{◌+◌, ◌*◌}
use Rattle.qvt_parser_grammar.proofs.cursor.Parser.+types.Given as goal

abbrev pub decreases-coll_type : goal.decreases-coll_type
decreases-coll_type l = 3 * l.room + 1

abbrev pub decreases-typed : goal.decreases-typed
decreases-typed l = 3 * l.room + 2

abbrev pub decreases-kind : goal.decreases-kind
decreases-kind l = 3 * l.room
