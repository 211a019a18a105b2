-- What the calls are to give that read what stands nested inside.
use Rattle.std.specs.Prelude.{◌≤◌, List, length, Result}
use Rattle.std.specs.Fn.{Shared, always_fn}
use denote.Ref.{MutBor}
use Rattle.qvt_tree_types.specs.declared.tree.Stmt.{Stmt}
use Rattle.qvt_parser_grammar.specs.declared.cursor.ParseError.{ParseError}
use Rattle.qvt_parser_grammar.specs.declared.cursor.Parser.{Parser}
use Rattle.qvt_language.specs.Tokens.{Tok}
use Rattle.qvt_language.specs.Readers.{Reader}
use Rattle.qvt_parser_grammar.specs.Gives.{Gives, toks}
use Rattle.qvt_language.specs.Nesting.{nested_at}
use Rattle.qvt_parser_exprs.specs.declared.leading.Leading.{Leading}
use Rattle.qvt_parser_stmts.specs.declared.calls.CallPair.{CallPair}
use Rattle.qvt_parser_exprs.specs.Views.{lead_view, stmts_view}

-- a call that leaves these tokens of the old ones gives what the reader reads
pub record FollowsReader {X Y : Type 0} (view : X → Y) (reader : Reader Y) (old : List Tok) (result : Result X ParseError) (new : List Tok) : Type 0 where
  pub gives : Gives view result new (reader old)
  pub fewer : length new ≤ length old

-- both may be called, and each call gives what is read at the nesting
pub record IsInside {F G : Type 0} (f : Shared F (MutBor Parser × Unit {0}) (Result Leading ParseError × (MutBor Parser × Unit {0}))) (g : Shared G (MutBor Parser × Unit {0}) (Result (List Stmt) ParseError × (MutBor Parser × Unit {0}))) (inside : CallPair F G) : Type 0 where
  pub lead_callable : always_fn f inside.lead
  pub block_callable : always_fn g inside.block
  pub lead : (p q : MutBor Parser) (r : Result Leading ParseError) → f.post inside.lead (p, tt) (r, (q, tt)) → FollowsReader lead_view (nested_at inside.room).flagged (toks p.now) r (toks q.now)
  pub block : (p q : MutBor Parser) (r : Result (List Stmt) ParseError) → g.post inside.block (p, tt) (r, (q, tt)) → FollowsReader stmts_view (nested_at inside.room).block (toks p.now) r (toks q.now)
