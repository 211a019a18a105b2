use Rattle.std.proofs.Common.{◌≤◌, length, refl, sym, ap, ◌∙◌, subst, arith}
use Rattle.std.proofs.lemmas.List.{length-map}
use Rattle.qvt_tree_types.specs.Module.{module_view}
use Rattle.qvt_language.specs.Tokens.{tok_of, toks_of}
use Rattle.qvt_language_rows.specs.Language.{Reads}
use Rattle.qvt_parser_grammar.specs.Gives.{toks}
use Rattle.qvt_language.specs.Nesting.{nested_at}
use Rattle.qvt_language.specs.ReadingUnits.{transformation_at}
use Rattle.qvt_parsed.proofs.Ends.{read_nowhere}
use Rattle.qvt_parser.proofs.parse.read_tokens.Goals as goal

pub returns-then-is_empty-clause-read : goal.returns-then-is_empty-clause-read
returns-then-is_empty-clause-read c =
    let n = length c.args.tokens.now in
    let ts = toks_of c.args.tokens.now in
    let enough : length ts ≤ n = omega (arith, length-map c.args.tokens.now tok_of) in
    let tree = module_view c.in-Ok.module in
    let reads : Reads ts tree = c.answers.ensures.reads n ts enough tree (toks c.transformation.new.parser)
    (ap (transformation_at (nested_at n)) (sym c.new-parser.ensures) ∙ c.in-Ok.ensures.gives) (sym c.is_empty.ensures ∙ c.if-is_empty.true) in
    (subst (Reads ts) (read_nowhere ts tree reads) reads, refl)

pub returns-then-is_empty-clause-one : goal.returns-then-is_empty-clause-one
returns-then-is_empty-clause-one c =
    let n = length c.args.tokens.now in
    let ts = toks_of c.args.tokens.now in
    let enough : length ts ≤ n = omega (arith, length-map c.args.tokens.now tok_of) in
    let tree = module_view c.in-Ok.module in
    let rest = toks c.transformation.new.parser in
    let gives = ap (transformation_at (nested_at n)) (sym c.new-parser.ensures) ∙ c.in-Ok.ensures.gives in
    let empty = sym c.is_empty.ensures ∙ c.if-is_empty.true in
    let reads : Reads ts tree = c.answers.ensures.reads n ts enough tree rest gives empty in
    λ other k. c.answers.ensures.one n ts enough tree rest gives empty other k ∙ read_nowhere ts tree reads

pub returns-in-Err-Syntax-clause-read : goal.returns-in-Err-Syntax-clause-read
returns-in-Err-Syntax-clause-read c =
    let n = length c.args.tokens.now in
    let ts = toks_of c.args.tokens.now in
    let enough : length ts ≤ n = omega (arith, length-map c.args.tokens.now tok_of) in
    let rest = toks c.transformation.new.parser in
    let gives = rw c.in-Err-Syntax.field-0-is at c.in-Err-Syntax.ensures.gives in
    (rest, c.answers.ensures.fault n ts enough rest (ap (transformation_at (nested_at n)) (sym c.new-parser.ensures) ∙ gives), (cc))
