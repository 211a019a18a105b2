-- The place of a syntax fault, by its sentence.
use Rattle.std.proofs.Common.{◌≡◌, ℕ, List, [], ◌∷◌, ◌++◌, length, sym, ap, ◌∙◌, subst, arith, append_assoc}
use Rattle.qvt_base.specs.declared.numbers.Place.{Place}
use Rattle.qvt_tree_types.specs.Module.{ModuleTerm}
use Rattle.qvt_language.specs.Tokens.{Tok}
use Rattle.qvt_language.specs.Same.{SameTokens, AllSimple}
use Rattle.qvt_language.specs.Module.{ReadsModule, IsFront}
use Rattle.qvt_language.proofs.Whole as grammar
use Rattle.qvt_language.proofs.Starts.{beginnings}
use Rattle.qvt_language_rows.proofs.Fronts as fronts
use Rattle.qvt_language_rows.proofs.Answers.{to_rows, of_rows, front_to_rows, front_of_rows}
use Rattle.qvt_parser_tokens.specs.Text.{HasTokens}
use Rattle.qvt_parsed.specs.Parsing.{HasSyntaxFault}
use Rattle.qvt_parsed_laws.specs.Fault.{IsOfLanguage, BeginsText, IsBefore, FaultIsFirst}
use Rattle.qvt_parsed_laws.proofs.Written.{simple_go_on, split}

-- the first tokens of a text, completed as little as can be
begin_text : (text : List ℕ) (before rest v : List Tok) (end : Place) (m : ModuleTerm) → HasTokens text (before ++ rest) end → AllSimple v → ReadsModule (before ++ v) m → BeginsText before
begin_text text before rest v end m has simple reads =
    let w = simple_go_on text before rest end has v simple in
    let k = split before v w.has.tokens w.has.same in
    let tree = fronts.whole.reads (before ++ v) w.has.tokens m (sym w.has.same) reads in
    record {
      text = w.text;
      first = k.0;
      more = k.1;
      same = k.3;
      is = record { end = w.has.end; has = subst (λ z. HasTokens w.text z w.has.end) k.2 w.has.has; tree = tree.0; reads = to_rows (k.0 ++ k.1) tree.0 (subst (λ z. ReadsModule z tree.0) k.2 tree.1) };
    }

module _ (text : List ℕ) (place : Place) (f : HasSyntaxFault text place) where
  -- a front of the list leaves no less than the fault does
  no_front : (before : List Tok) (t : Tok) (more : List Tok) → IsBefore text place f before → f.rest ≡ t ∷ more → IsFront (before ++ t ∷ []) → ⊥
  no_front before t more b e fr =
      let cut = b.cut ∙ ap (λ z. before ++ z) e ∙ sym (append_assoc before (t ∷ []) more) in
      let far = f.fault.longest (before ++ t ∷ []) more cut (front_to_rows (before ++ t ∷ []) fr) in
      absurd (omega (arith, far, ap length e))

  none_so_far : (before : List Tok) → IsBefore text place f before → (t : Tok) (more : List Tok) → f.rest ≡ t ∷ more → BeginsText (before ++ t ∷ []) → ⊥
  none_so_far before b t more e k =
      no_front before t more b e (fronts.whole.front k.first (before ++ t ∷ []) k.same ((beginnings grammar.whole).begins k.first k.more k.is.tree (of_rows (k.first ++ k.more) k.is.tree k.is.reads)))

  none_whole : f.rest ≡ [] → (other : List ℕ) (us : List Tok) → SameTokens us f.tokens → IsOfLanguage other us → ⊥
  none_whole e other us same k = let w = fronts.whole.reads us f.tokens k.tree same (of_rows us k.tree k.reads) in f.fault.unread w.0 (to_rows f.tokens w.0 w.1)

  some_text : (before : List Tok) × IsBefore text place f before × BeginsText before
  some_text =
      let before = f.fault.before in
      let w = (beginnings grammar.whole).completed before.0 (front_of_rows before.0 before.2) in
      (before.0, record { cut = before.1 }, begin_text text before.0 f.rest w.0 f.end w.1 (subst (λ z. HasTokens text z f.end) before.1 f.has) w.3 w.2)

pub fault_is_first : FaultIsFirst
fault_is_first = record { none = none_so_far; end = none_whole; some = some_text }
