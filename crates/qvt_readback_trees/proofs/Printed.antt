-- The law that the tokens of a printed text are read as a tree of the same shape.
use Rattle.std.proofs.Common.{List, map, sym, subst}
use Rattle.qvt_tree_types.specs.Module.{ModuleTerm}
use Rattle.qvt_tree.specs.ModuleShape.{shape}
use Rattle.qvt_language.specs.Tokens.{Tok}
use Rattle.qvt_language.specs.Same.{unplaced}
use Rattle.qvt_language_rows.specs.Language.{Reads}
use Rattle.qvt_language_rows.proofs.Every.{every_module}
use Rattle.qvt_language_rows.proofs.Answers.{to_rows, of_rows}
use Rattle.qvt_printer.specs.Units.{module_pieces}
use Rattle.qvt_readback_tokens.specs.Spelled.{all_spelled}
use Rattle.qvt_readback_trees.specs.Law.{ReadsShape, PrintedIsRead}
use Rattle.qvt_readback_trees.proofs.AgainModule.{again_module}
use Rattle.qvt_readback_trees.proofs.Lifted.{makers}

-- what is read without places is read with them
reads_shape : (us : List Tok) (m : ModuleTerm) → Reads (map unplaced us) (shape m) → ReadsShape us m
reads_shape us m rd =
    let every = every_module makers rd.nesting in
    let w = every.lift us (shape m) rd.is in
    record { tree = w.0; reads = record { nesting = rd.nesting; is = w.1 }; same = w.2 }

pub printed_is_read : PrintedIsRead
printed_is_read ts us m rd ok same =
    let again = again_module ts m (of_rows ts m rd) ok in
    reads_shape us m (subst (λ z. Reads z (shape m)) (sym same) (to_rows (all_spelled (module_pieces m)) (shape m) again))
