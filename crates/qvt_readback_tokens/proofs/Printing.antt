-- The tokens of a printed text are those of its pieces.
use Rattle.std.proofs.Common.{◌≡◌, ℕ, ◌<◌, List, [], ◌∷◌, ◌++◌, false, cond, ◌==◌, map, None, refl, sym, ap, ◌∙◌, subst, arith}
use Rattle.std.proofs.lemmas.Bool.Decides.{nat_tests}
use Rattle.std.specs.Str.{chars}
use Rattle.qvt_lexer.specs.Division as division
use Rattle.qvt_lexer.specs.Division.{Position, TokenData, tokens_of, past, start_at, moved, first_place}
use Rattle.qvt_tree_types.specs.Module.{ModuleTerm}
use Rattle.qvt_tree_types.specs.declared.module.ModelType.{ModelType}
use Rattle.qvt_language.specs.Tokens.{Tok}
use Rattle.qvt_language.specs.declared.class.Class.TheVariants as class
use Rattle.qvt_language_rows.specs.Language.{Reads}
use Rattle.qvt_parser_tokens.specs.Said.{said}
use Rattle.qvt_printer_layout.specs.declared.piece.PrintPiece.{PrintPiece}
use Rattle.qvt_printer_layout.specs.declared.piece.PrintPiece.TheVariants.{Plain}
use Rattle.qvt_printer.specs.Units.{model_types, module_pieces}
use Rattle.qvt_printer.specs.PrintText.{print_text}
use Rattle.qvt_language.specs.Same.{unplaced}
use Rattle.qvt_readback_tokens.specs.Spelled.{all_spelled}
use Rattle.qvt_readback_tokens.specs.Told.{AllTold}
use Rattle.qvt_readback_tokens.specs.Law.{HasSpelled, PrintedIsLexed}
use Rattle.qvt_readback_tokens.proofs.Decoded.{one_byte}
use Rattle.qvt_readback_tokens.proofs.Meets.{Free}
use Rattle.qvt_readback_tokens.proofs.Tails.{tail, laid_out_is}
use Rattle.qvt_readback_tokens.proofs.Told.{all_told}
use Rattle.qvt_readback_tokens.proofs.Relexed.{bare_said, Lexed, relexed}
use Rattle.qvt_language_rows.specs.Lists.{AllOf}
use Rattle.qvt_language_rows.proofs.Every.{every_module}
use Rattle.qvt_readback_tokens.specs.Told.{IsTold}
use Rattle.qvt_readback_tokens.proofs.Made.{module_is}
use Rattle.qvt_readback_tokens.proofs.Makers.{makers}

map_twice : (ds : List TokenData) → map unplaced (map said ds) ≡ map bare_said ds
map_twice [] = refl
map_twice (d ∷ ds) = ap (λ z. bare_said d ∷ z) (map_twice ds)

-- a text that begins with no mark
abbrev BeginsAt : List ℕ → Type 0
BeginsAt text = start_at (chars text) ≡ record { place = first_place; rest = chars text }

pub has_spelled : (text : List ℕ) (ts : List Tok) → BeginsAt text → Lexed (chars text) ts → HasSpelled text ts
has_spelled text ts begins k = record {
  tokens = map said (tokens_of first_place k.pieces);
  end = past first_place k.pieces;
  has = record {
    tokens = tokens_of first_place k.pieces;
    last = last;
    reads = subst (λ z. division.ReadsTokens z last (tokens_of first_place k.pieces)) (sym begins) (record { pieces = k.pieces; divides = k.divides; tokens = refl; place = refl });
    nothing = refl;
    place = refl;
    are = refl;
  };
  same = map_twice (tokens_of first_place k.pieces) ∙ k.are first_place;
} where
  last : Position
  last = record { place = past first_place k.pieces; rest = [] }

no_mark : (c : ℕ) → c < 128 → (c == 65279) ≡ false
no_mark c h = grind (arith, nat_tests)

pub letter_begins : (c : ℕ) (rest : List ℕ) → c < 128 → BeginsAt (c ∷ rest)
letter_begins c rest h =
    subst (λ z. start_at z ≡ record { place = first_place; rest = z }) (sym (one_byte c rest h))
    (ap (λ b. cond b (record { place = moved first_place c; rest = chars rest }) (record { place = first_place; rest = c ∷ chars rest })) (no_mark c h))

module_begins : (ts : List ModelType) (ps : List PrintPiece) → BeginsAt (tail 0 None (model_types ts ++ (Plain class.TransformationWord ∷ ps)))
module_begins [] ps = letter_begins 116 _ (omega arith)
module_begins (t ∷ ts) ps = letter_begins 109 _ (omega arith)

pieces_begin : (m : ModuleTerm) → BeginsAt (tail 0 None (module_pieces m))
unfolding module_pieces
pieces_begin m = module_begins m.model_types _

each_told : (ts : List Tok) → AllTold ts → AllOf IsTold ts
each_told [] h = tt
each_told (t ∷ ts) h = (h.0, each_told ts h.1)

lexed_again : (ts : List Tok) (m : ModuleTerm) → AllTold ts → Reads ts m → HasSpelled (print_text m) (all_spelled (module_pieces m))
unfolding print_text
lexed_again ts m told reads =
    let every = every_module makers reads.nesting in
    let whole = every.all ts m (each_told ts told) reads.is in
    let ps = module_pieces m in
    subst (λ z. HasSpelled z (all_spelled ps)) (sym (laid_out_is ps))
    (has_spelled (tail 0 None ps) (all_spelled ps) (pieces_begin m) (relexed ps Free 0 None (module_is m whole)))

pub printed_is_lexed : PrintedIsLexed
printed_is_lexed = record { lexed = lexed_again; told = all_told }
