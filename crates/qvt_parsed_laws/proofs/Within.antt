-- The tree of a text in its text.
use Rattle.std.proofs.Common.{◌≡◌, ℕ, ◌*◌, ◌≤◌, List, [], ◌∷◌, ◌++◌, length, map, Bool, true, false, cond, ◌==◌, pos, length-append, refl, sym, ap, ◌∙◌, subst, arith}
use Rattle.std.specs.Str.{chars, IsUtf8}
use Rattle.std.proofs.lemmas.Str.{length-le-encodes, encodes-chars, scalars-chars}
use lib.Utf8.{scalars}
use Rattle.std.proofs.lemmas.List.{length-map}
use Rattle.qvt_base.specs.declared.numbers.Place.{Place}
use Rattle.qvt_lexer.specs.Division.{Position, Written, Divides, TokenData, token_of, tokens_of, place_after, moved, first_place, start_at}
use Rattle.qvt_lexer.specs.declared.scan.Piece.{Piece}
use Rattle.qvt_lexer.specs.declared.scan.Piece.TheVariants.{Blank, Comment, Token}
use Rattle.qvt_lexer.proofs.Steps.{spells_some}
use Rattle.qvt_tree_types.specs.Module.{MappingTerm, ModuleTerm}
use Rattle.qvt_language.specs.Tokens.{Tok}
use Rattle.qvt_language.specs.declared.class.Class.TheVariants as classes
use Rattle.qvt_language.specs.Readers.{nowhere}
use Rattle.qvt_language.specs.Module.{with_end}
use Rattle.qvt_language_rows.specs.Lists.{AllOf}
use Rattle.qvt_parser_tokens.specs.Said.{said}
use Rattle.qvt_parser_tokens.specs.Text.{HasTokens}
use Rattle.qvt_parsed.specs.Parsing.{IsTransformation}
use Rattle.qvt_parser_nodes.specs.Nodes.{nodes}
use Rattle.qvt_parser_nodes.specs.Names.{NameConditions, HasNames}
use Rattle.qvt_parser_nodes.specs.Places.{ClauseKind, places}
use Rattle.qvt_parser_nodes.specs.Law.{of_tokens, HasAtMost, at_most, DoNotFall}
use Rattle.qvt_parser_nodes.proofs.Along.{Along, along_both, along_order}
use Rattle.qvt_parser_nodes.proofs.Whole.{at_most_two_each, names_are_tokens, none_is_longer, along}
use Rattle.qvt_parsed_laws.specs.Tree.{LiesInText}
use Rattle.qvt_parsed_laws.proofs.Bytes.{bytes, bytes_more, bytes_append, scalars_parts, text_short}
use Rattle.qvt_parsed_laws.proofs.Order.{spots, tokens_rise}

-- the end is told apart from the tree

same_nodes : (end : Place) (m : ModuleTerm) → nodes (with_end end m) ≡ nodes m
unfolding nodes
same_nodes end m = refl

same_places : (c : MappingTerm → ClauseKind) (end : Place) (m : ModuleTerm) → places c (with_end end m) ≡ places c m
unfolding places
same_places c end m = refl

same_names : (N : NameConditions) (end : Place) (m : ModuleTerm) → HasNames N (with_end end m) → HasNames N m
same_names N end m h = record { model_types = h.model_types; name = h.name; params = h.params; units = h.units }

-- each piece has a character

one_token : (at : Place) (q : Piece) (u : List ℕ) → length (token_of at (record { piece = q; text = u })) ≤ 1
one_token at Blank u = omega arith
one_token at Comment u = omega arith
one_token at (Token kind) u = omega arith

few_tokens : (ps : List Written) (text rest : List ℕ) (at : Place) → Divides text ps rest → length (tokens_of at ps) ≤ length text
few_tokens [] text rest at e = omega arith
few_tokens (p ∷ ps) text rest at (t, n, k) =
    omega (arith, one_token at p.piece p.text, spells_some p.piece p.text n.piece.spells, few_tokens ps t rest (place_after at p.text) k, ap length n.piece.cut, length-append p.text t, length-append (token_of at p) (tokens_of (place_after at p.text) ps))

-- a mark at the front is no token

abbrev marked : Bool → ℕ → List ℕ → List ℕ
marked b c cs = Position.rest (cond b (record { place = moved first_place c; rest = cs }) (record { place = first_place; rest = c ∷ cs }))

marked_bytes : (b : Bool) (c : ℕ) (cs : List ℕ) → bytes (marked b c cs) ≤ bytes (c ∷ cs)
marked_bytes true c cs = omega (arith, bytes_more c cs)
marked_bytes false c cs = omega arith

start_bytes : (cs : List ℕ) → bytes (start_at cs).rest ≤ bytes cs
start_bytes [] = omega arith
start_bytes (c ∷ cs) = marked_bytes (c == 65279) c cs

marked_scalars : (b : Bool) (c : ℕ) (cs : List ℕ) → scalars (c ∷ cs) ≡ true → scalars (marked b c cs) ≡ true
marked_scalars true c cs s = (scalars_parts (c ∷ []) cs s).1
marked_scalars false c cs s = s

start_scalars : (cs : List ℕ) → scalars cs ≡ true → scalars (start_at cs).rest ≡ true
start_scalars [] s = s
start_scalars (c ∷ cs) s = marked_scalars (c == 65279) c cs s

-- what tokens say is no longer than what is left of the text

abbrev Short : ℕ → List Tok → Type 0
Short n ts = AllOf {A = Tok} (λ t. HasAtMost n t.text) ts

short_step : (n : ℕ) (at : Place) (q : Piece) (u : List ℕ) (ds : List TokenData) → scalars u ≡ true → bytes u ≤ n → Short n (map said ds) → Short n (map said (token_of at (record { piece = q; text = u }) ++ ds))
short_step n at Blank u ds s le h = h
short_step n at Comment u ds s le h = h
short_step n at (Token kind) u ds s le h = (omega (arith, text_short kind u s, le), h)

short_tokens : (n : ℕ) (ps : List Written) (text rest : List ℕ) (at : Place) → Divides text ps rest → scalars text ≡ true → bytes text ≤ n → Short n (map said (tokens_of at ps))
short_tokens n [] text rest at e s le = tt
short_tokens n (p ∷ ps) text rest at (t, m, k) s le =
    let parts = scalars_parts p.text t (ap scalars (sym m.piece.cut) ∙ s) in
    let here : bytes p.text ≤ n = omega (arith, ap bytes m.piece.cut, bytes_append p.text t, le) in
    let there : bytes t ≤ n = omega (arith, ap bytes m.piece.cut, bytes_append p.text t, le) in
    short_step n at p.piece p.text (tokens_of (place_after at p.text) ps) parts.0 here (short_tokens n ps t rest (place_after at p.text) k parts.1 there)

module _ (text : List ℕ) (ts : List Tok) (end : Place) (has : HasTokens text ts end) where
  abbrev from : Place
  from = (start_at (chars text)).place

  same_tokens : map said (tokens_of from has.reads.pieces) ≡ ts
  same_tokens = ap (map said) has.reads.tokens ∙ has.are

  text_bytes : IsUtf8 text → bytes (start_at (chars text)).rest ≤ length text
  text_bytes utf = omega (arith, start_bytes (chars text), ap length (encodes-chars text utf))

  tokens_within : IsUtf8 text → length ts ≤ length text
  tokens_within utf =
      omega (arith, few_tokens has.reads.pieces (start_at (chars text)).rest has.last.rest from has.reads.divides, ap length same_tokens, length-map (tokens_of from has.reads.pieces) said, length-le-encodes (start_at (chars text)).rest, text_bytes utf)

  tokens_short : IsUtf8 text → Short (length text) ts
  tokens_short utf = subst (Short (length text)) same_tokens (short_tokens (length text) has.reads.pieces (start_at (chars text)).rest has.last.rest from has.reads.divides (start_scalars (chars text) (scalars-chars text utf)) (text_bytes utf))

-- the end as one more token
abbrev last_token : Place → Tok
last_token end = record { class = classes.Semicolon; text = []; number = pos 0; place = end }

spots_last : (ts : List Tok) (end : Place) → spots (ts ++ last_token end ∷ []) ≡ spots ts ++ end ∷ []
spots_last [] end = refl
spots_last (t ∷ ts) end = ap (λ z. t.place ∷ z) (spots_last ts end)

module _ (text : List ℕ) (m : ModuleTerm) (t : IsTransformation text m) where
  few_nodes : IsUtf8 text → nodes m ≤ 2 * length text
  few_nodes utf = omega (arith, at_most_two_each t.tokens (with_end nowhere m) t.reads, same_nodes nowhere m, tokens_within text t.tokens t.end t.has utf)

  in_order : (c : MappingTerm → ClauseKind) → DoNotFall (places c m ++ m.end ∷ [])
  in_order c =
      let nodes_along = subst (λ z. Along z t.tokens) (same_places c nowhere m) (along c t.tokens (with_end nowhere m) t.reads) in
      let all = along_both (places c m) (t.end ∷ []) t.tokens (last_token t.end ∷ []) nodes_along ([], last_token t.end, [], refl, refl, tt) in
      let rise = subst DoNotFall (sym (spots_last t.tokens t.end)) (tokens_rise text t.tokens t.end t.has) in
      subst (λ z. DoNotFall (places c m ++ z ∷ [])) (sym t.ends) (along_order (places c m ++ t.end ∷ []) (t.tokens ++ last_token t.end ∷ []) rise all)

pub lies_in_text : LiesInText
lies_in_text = record {
  size = λ text m utf t. few_nodes text m t utf;
  numbers = λ text m utf short t. (let k = few_nodes text m t utf in omega (arith, k, short));
  tokens = λ text m t. same_names (of_tokens t.tokens) nowhere m (names_are_tokens t.tokens (with_end nowhere m) t.reads);
  longest = λ text m utf t. same_names (at_most (length text)) nowhere m (none_is_longer (length text) t.tokens (with_end nowhere m) (tokens_short text t.tokens t.end t.has utf) t.reads);
  order = λ c text m t. in_order text m t c;
}
