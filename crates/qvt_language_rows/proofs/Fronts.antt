-- Start symbols do not look at places: the rows that they read do not.
use Rattle.std.proofs.Common.{◌≡◌, List, [], ◌∷◌, ◌++◌, map}
use Rattle.qvt_language.specs.Tokens.{Tok}
use Rattle.qvt_language.specs.Same.{unplaced, SameTokens}
use Rattle.qvt_language.specs.Units.{transformation, unit}
use Rattle.qvt_language.specs.Module.{Start, FrontFrom}
use Rattle.qvt_language_rows.specs.Phrase.{Phrase}
use Rattle.qvt_language_rows.specs.Rows.{NestedRows}
use Rattle.qvt_language_rows.specs.Units.{UnitRow, ModuleRow}
use Rattle.qvt_language_rows.specs.Language.{Is, BeginsRow}
use Rattle.qvt_language_rows.specs.Law.{AreOne, LooksAtNoPlace}
use Rattle.qvt_language_rows.proofs.Alike.{unit_alike, module_alike}
use Rattle.qvt_language_rows.proofs.Whole as rows

-- with the same tokens after them
same_more : (ts us more : List Tok) → SameTokens ts us → SameTokens (ts ++ more) (us ++ more)
same_more [] [] more e = λ i. map unplaced more
same_more [] (s ∷ us) more e = absurd cc
same_more (t ∷ ts) [] more e = absurd cc
same_more (t ∷ ts) (s ∷ us) more e =
    let tail : map unplaced ts ≡ map unplaced us = cc in
    let head : unplaced t ≡ unplaced s = cc in
    λ i. head i ∷ same_more ts us more tail i

module _ {A : Type 0} (row : NestedRows → Phrase A) (start : Start A) (one : AreOne row start) (alike : (ts us : List Tok) (a : A) → SameTokens ts us → Is row ts a → (b : A) × Is row us b) where
  front_too : (ts us : List Tok) → SameTokens ts us → BeginsRow row ts → FrontFrom start us
  front_too ts us e b =
      let w = alike (ts ++ b.more) (us ++ b.more) b.value (same_more ts us b.more e) b.whole in
      (one.begun us).0 (record { more = b.more; value = w.0; whole = w.1 })

  no_place : LooksAtNoPlace start
  no_place = record {
    reads = λ ts us a e rd. (let w = alike ts us a e ((one.read ts a).1 rd) in (w.0, (one.read us w.0).0 w.1));
    front = λ ts us e fr. front_too ts us e ((one.begun ts).1 fr);
  }

pub whole : LooksAtNoPlace transformation
whole = no_place ModuleRow transformation rows.whole module_alike

pub part : LooksAtNoPlace unit
part = no_place UnitRow unit rows.part unit_alike
