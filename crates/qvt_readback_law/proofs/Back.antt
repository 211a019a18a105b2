-- A printed text is read as a tree of the shape, or is too deep.
use Rattle.std.proofs.Common.{◌≡◌, ◌∙◌, ◌≤◌, ◌≢◌, ◌⊎◌, inl, inr, List, Option, Some, None, map, sym, ap, subst, refl}
use Rattle.qvt_base.specs.declared.numbers.Place.{Place}
use Rattle.qvt_tree_types.specs.Module.{ModuleTerm}
use Rattle.qvt_tree.specs.ModuleShape.{shape}
use Rattle.qvt_language.specs.Tokens.{Tok}
use Rattle.qvt_language.specs.Readers.{nowhere}
use Rattle.qvt_language.specs.Module.{with_end}
use Rattle.qvt_language_rows.specs.Language.{Reads}
use Rattle.qvt_parser_tokens.specs.Depth.{deep}
use Rattle.qvt_parsed.proofs.Ends.{read_nowhere}
use Rattle.qvt_parsed.specs.Parsing.{IsTransformation, IsTooDeep}
use Rattle.qvt_parsed.specs.Parsed.{parsed, IsParsing}
use Rattle.qvt_parsed.specs.declared.fault.ParseFault.TheVariants.{NoMemory, TooDeep}
use Rattle.qvt_printer_layout.specs.Layout.{laid_out}
use Rattle.qvt_printer.specs.Units.{module_pieces}
use Rattle.qvt_printer.specs.PrintText.{print_text}
use Rattle.qvt_readback_tokens.specs.Told.{AllTold}
use Rattle.qvt_readback_tokens.specs.Law.{HasSpelled, PrintedIsLexed}
use Rattle.qvt_language.specs.Same.{unplaced}
use Rattle.qvt_readback_tokens.specs.Spelled.{all_spelled}
use Rattle.qvt_readback_trees.specs.Printable.{IsPrintable}
use Rattle.qvt_readback_trees.specs.Law.{OneText, ReadsShape, PrintedIsRead}
use Rattle.qvt_readback_depth.specs.Most.{most}
use Rattle.qvt_readback_depth.specs.Law.{HasFullUnit, PrintedIsAsDeep}
use Rattle.qvt_readback_law.specs.ReadsBack.{IsReadBack, PrintedReadsBack}

-- neither the printed text nor the shape tells where the text ends
pieces_without : (end : Place) (m : ModuleTerm) → module_pieces (with_end end m) ≡ module_pieces m
unfolding module_pieces
pieces_without end m = refl

text_without : (end : Place) (m : ModuleTerm) → print_text (with_end end m) ≡ print_text m
unfolding print_text
text_without end m = ap laid_out (pieces_without end m)

shape_without : (end : Place) (m : ModuleTerm) → shape (with_end end m) ≡ shape m
unfolding shape
shape_without end m = refl

-- the printed text has these tokens, which are read as a tree of the shape
record Again (m : ModuleTerm) : Type 0 where
  spelled : HasSpelled (print_text m) (all_spelled (module_pieces m))
  read : ReadsShape spelled.tokens m

again : PrintedIsLexed → PrintedIsRead → (ts : List Tok) (m : ModuleTerm) → AllTold ts → Reads ts (with_end nowhere m) → IsPrintable m → Again m
again lexes reads ts m told rd p =
    let n = with_end nowhere m in
    let printed : HasSpelled (print_text n) (all_spelled (module_pieces n)) = lexes.lexed ts n told rd in
    let pieces : HasSpelled (print_text n) (all_spelled (module_pieces m)) = subst (λ z. HasSpelled (print_text n) (all_spelled z)) (pieces_without nowhere m) printed in
    let s : HasSpelled (print_text m) (all_spelled (module_pieces m)) = subst (λ z. HasSpelled z (all_spelled (module_pieces m))) (text_without nowhere m) pieces in
    let back : ReadsShape s.tokens n = reads ts s.tokens n rd p (s.same ∙ ap all_spelled (sym (pieces_without nowhere m))) in
    record { spelled = s; read = record { tree = back.tree; reads = back.reads; same = back.same ∙ shape_without nowhere m } }

-- where the printed tokens are not too deep
shallow : IsParsing → OneText → (ts : List Tok) (m : ModuleTerm) (a : Again m) → deep a.spelled.tokens ≡ None → IsReadBack ts m (parsed (print_text m))
shallow parsing one ts m a d =
    let end = a.spelled.end in
    let tree = a.read.tree in
    let reads = subst (Reads a.spelled.tokens) (read_nowhere a.spelled.tokens tree a.read.reads) a.read.reads in
    let t : IsTransformation (print_text m) (with_end end tree) = record { tokens = a.spelled.tokens; end = end; has = a.spelled.has; shallow = d; reads = reads; ends = refl } in
    let same : shape (with_end end tree) ≡ shape m = shape_without end tree ∙ a.read.same in
    subst (IsReadBack ts m) (sym (parsing.read (print_text m) (with_end end tree) t)) (same, one (with_end end tree) m same)

-- where they are
full : IsParsing → PrintedIsAsDeep → (ts : List Tok) (m : ModuleTerm) (a : Again m) (place : Place) → deep a.spelled.tokens ≡ Some place → HasFullUnit 64 ts m.units → IsReadBack ts m (parsed (print_text m))
full parsing depth ts m a place d h =
    let t : IsTooDeep (print_text m) place = record { tokens = a.spelled.tokens; end = a.spelled.end; has = a.spelled.has; deepest = d } in
    let no : TooDeep place ≢ NoMemory = λ e. cc in
    subst (IsReadBack ts m) (sym (parsing.told (print_text m) (TooDeep place) no t)) h

read_back : IsParsing → PrintedIsLexed → PrintedIsRead → OneText → PrintedIsAsDeep → (ts : List Tok) (m : ModuleTerm) → AllTold ts → deep ts ≡ None → Reads ts (with_end nowhere m) → IsPrintable m → IsReadBack ts m (parsed (print_text m))
read_back parsing lexes reads one depth ts m told none rd p = by (deep a.spelled.tokens) refl where
  a : Again m
  a = again lexes reads ts m told rd p

  same : map unplaced a.spelled.tokens ≡ all_spelled (module_pieces (with_end nowhere m))
  same = a.spelled.same ∙ ap all_spelled (sym (pieces_without nowhere m))

  fits : (most a.spelled.tokens ≤ 64) ⊎ HasFullUnit 64 ts m.units
  fits = depth.unit 64 ts a.spelled.tokens (with_end nowhere m) rd same ((depth.limit ts).0 none)

  too_deep : (place : Place) → deep a.spelled.tokens ≡ Some place → (most a.spelled.tokens ≤ 64) ⊎ HasFullUnit 64 ts m.units → IsReadBack ts m (parsed (print_text m))
  too_deep place d (inl few) = shallow parsing one ts m a ((depth.limit a.spelled.tokens).1 few)
  too_deep place d (inr h) = full parsing depth ts m a place d h

  by : (o : Option Place) → deep a.spelled.tokens ≡ o → IsReadBack ts m (parsed (print_text m))
  by None d = shallow parsing one ts m a d
  by (Some place) d = too_deep place d fits

pub reads_back : IsParsing → PrintedIsLexed → PrintedIsRead → OneText → PrintedIsAsDeep → PrintedReadsBack
reads_back parsing lexes reads one depth = record {
  text = one;
  back = read_back parsing lexes reads one depth;
  told = lexes.told;
  transformation = λ text m t p. read_back parsing lexes reads one depth t.tokens m (lexes.told text t.tokens t.end t.has) t.shallow t.reads p;
}
