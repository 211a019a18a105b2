-- The law on the depth of printed texts.
use Rattle.std.proofs.Common.{◌≡◌, ℕ, suc, ◌+◌, ◌≤◌, List, [], ◌∷◌, ◌++◌, map, length, Bool, true, false, if◌then◌else◌, ◌⊎◌, inl, inr, refl, sym, ap, ◌∙◌, subst, Option, Some, None, arith, nat_le, leb-true, le-leb}
use Rattle.qvt_base.specs.declared.numbers.Place.{Place}
use Rattle.qvt_tree_types.specs.Module.{ModuleTerm}
use Rattle.qvt_language.specs.Tokens.{Tok}
use Rattle.qvt_language.specs.Trees.{is_there}
use Rattle.qvt_language_rows.specs.Language.{Reads}
use Rattle.qvt_language_rows.proofs.Every.{every_module}
use Rattle.qvt_parser_tokens.specs.declared.depth.Open.{Open}
use Rattle.qvt_parser_tokens.specs.Depth.{after, begins_statement, deep_from}
use Rattle.qvt_printer.specs.Units.{module_pieces}
use Rattle.qvt_printer_layout.specs.declared.piece.PrintPiece.{PrintPiece}
use Rattle.qvt_printer_layout.specs.declared.piece.PrintPiece.TheVariants.{Plain, Name, Integer, Quoted, Tight, Line, Indent, Dedent}
use Rattle.qvt_language.specs.Same.{unplaced}
use Rattle.qvt_readback_tokens.specs.Spelled.{spelled, all_spelled}
use Rattle.qvt_readback_depth.specs.Most.{greater, most_from, most}
use Rattle.qvt_readback_depth.specs.Law.{HasFullUnit, PrintedIsAsDeep}
use Rattle.qvt_readback_depth.proofs.Runs.{Below}
use Rattle.qvt_readback_depth.proofs.Pieces.{piece_class, pc, tc, tc_append}
use Rattle.qvt_readback_depth.proofs.Counts.{if_le, left_most, right_most, most_below, below_most}
use Rattle.qvt_readback_depth.proofs.Modules.{ModuleIs}
use Rattle.qvt_readback_depth.proofs.Makers.{makers}

-- the limit
clash : {X : Type 0} (p : Place) (o : Option Place) → o ≡ Some p → o ≡ None → X
clash p o e g = absurd (let k : true ≡ false = ap is_there (sym e ∙ g) in cc)

limit_step : (x : Bool) (a b : ℕ) (o : Option Place) (p : Place) → nat_le a 64 ≡ x → (if x then o else Some p) ≡ None → (o ≡ None → b ≤ 64) → greater a b ≤ 64
limit_step true a b o p k e h = if_le (nat_le a b) a b 64 (leb-true a 64 k) (h e)
limit_step false a b o p k e h = clash p (Some p) refl e

none_most : (f : Bool) (s : List Open) (ts : List Tok) → deep_from f s ts ≡ None → most_from f s ts ≤ 64
none_most f s [] e = omega arith
none_most f s (t ∷ ts) e =
    limit_step (nat_le (length (after f s t.class)) 64) (length (after f s t.class)) (most_from (begins_statement t.class) (after f s t.class) ts) (deep_from (begins_statement t.class) (after f s t.class) ts) t.place refl e (λ k. none_most (begins_statement t.class) (after f s t.class) ts k)

most_none : (f : Bool) (s : List Open) (ts : List Tok) → most_from f s ts ≤ 64 → deep_from f s ts ≡ None
most_none f s [] h = refl
most_none f s (t ∷ ts) h =
    let a = length (after f s t.class) in
    let b = most_from (begins_statement t.class) (after f s t.class) ts in
    ap (λ z. if z then deep_from (begins_statement t.class) (after f s t.class) ts else Some t.place) (le-leb a 64 (left_most a b 64 h)) ∙ most_none (begins_statement t.class) (after f s t.class) ts (right_most a b 64 h)

-- the classes of the tokens of pieces
unplaced_classes : (us : List Tok) → tc (map unplaced us) ≡ tc us
unplaced_classes [] = refl
unplaced_classes (u ∷ us) = ap (λ z. u.class ∷ z) (unplaced_classes us)

spelled_class : (p : PrintPiece) → tc (spelled p) ≡ piece_class p
spelled_class (Plain c) = refl
spelled_class (Name n) = refl
spelled_class (Integer v) = refl
spelled_class (Quoted t) = refl
spelled_class Tight = refl
spelled_class Line = refl
spelled_class Indent = refl
spelled_class Dedent = refl

spelled_classes : (ps : List PrintPiece) → tc (all_spelled ps) ≡ pc ps
spelled_classes [] = refl
spelled_classes (p ∷ ps) = tc_append (spelled p) (all_spelled ps) ∙ ap (λ z. z ++ tc (all_spelled ps)) (spelled_class p) ∙ ap (λ z. piece_class p ++ z) (spelled_classes ps)

-- what the two lists of tokens have of the tree
abbrev Printed : List Tok → List Tok → ModuleTerm → Type 0
Printed ts us m = Reads ts m × (map unplaced us ≡ all_spelled (module_pieces m))

classes : (us : List Tok) (m : ModuleTerm) → map unplaced us ≡ all_spelled (module_pieces m) → pc (module_pieces m) ≡ tc us
classes us m same = sym (spelled_classes (module_pieces m)) ∙ sym (ap tc same) ∙ unplaced_classes us

read : (ts : List Tok) (m : ModuleTerm) → Reads ts m → ModuleIs ts m
read ts m r = let every = every_module makers r.nesting in every.all ts m r.is

one_more : (ts us : List Tok) (m : ModuleTerm) → Printed ts us m → most us ≤ suc (most ts)
one_more ts us m (r, same) =
    let whole = read ts m r in
    let n = most ts in
    let low = whole.wide.low 0 false false [] [] (omega arith) n (below_most n false [] ts (omega arith) (omega arith)) in
    omega (arith, most_below (n + (1 + 0)) false [] us (subst (Below (n + (1 + 0)) false []) (classes us m same) low))

no_more : (n : ℕ) (ts us : List Tok) (m : ModuleTerm) → Printed ts us m → most ts ≤ n → (most us ≤ n) ⊎ HasFullUnit n ts m.units
no_more n ts us m (r, same) k = by ((read ts m r).bounded n false (below_most n false [] ts (omega arith) k)) where
  by : ((f : Bool) → Below n f [] (pc (module_pieces m))) ⊎ HasFullUnit n ts m.units → (most us ≤ n) ⊎ HasFullUnit n ts m.units
  by (inl h) = inl (most_below n false [] us (subst (Below n false []) (classes us m same) (h false)))
  by (inr h) = inr h

pub printed_is_as_deep : PrintedIsAsDeep
printed_is_as_deep = record {
  limit = λ ts. (none_most false [] ts, most_none false [] ts);
  block = λ ts us m r e. one_more ts us m (r, e);
  unit = λ n ts us m r e k. no_more n ts us m (r, e) k;
}
