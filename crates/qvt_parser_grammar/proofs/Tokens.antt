-- The first of the tokens that are left.
use Rattle.std.proofs.Common.{◌≡◌, ℕ, suc, ◌+◌, ◌<◌, List, [], ◌∷◌, length, get_or, drop, refl, sym, ap, ◌∙◌, arith, Bool, true, false, nat_eq, cond, Ok, Err, Some, None, length-drop, eq-eqb, ◌≢◌}
use Rattle.std.proofs.Math.Seq.{drop-cons}
use Rattle.std.proofs.lemmas.List.{get_or-map, length-map}
use Rattle.std.proofs.lemmas.Bool.{ne_eqb}
use Rattle.qvt_grammar.specs.Language.{head_of}
use Rattle.qvt_results.specs.Bind.{◌>>=◌}
use Rattle.qvt_grammar.specs.Reader.{At, starts, maybe_at, made_at}
use Rattle.qvt_language.specs.Tokens.{Tok, is, tok_of, toks_of, code_of, place_of, is_nil}
use Rattle.qvt_language.specs.Readers.{the_at}
use Rattle.qvt_language.specs.declared.class.Class.{Class}
use Rattle.qvt_language.specs.declared.class.Class.TheVariants.{Name, Integer, Str, OpenRound, CloseRound, OpenBrace, CloseBrace, Comma, Semicolon, Colon, DoubleColon, Dot, DotDot, Arrow, Bar, AtSign, EqualSign, DoubleEqual, Diamond, BangEqual, LessSign, AtMost, GreaterSign, AtLeast, PlusSign, MinusSign, Star, Becomes, PlusEqual, AndWord, BagWord, ClassWord, ConstructorWord, DisjunctsWord, ElifWord, ElseWord, EndWord, EndifWord, ExtendsWord, FalseWord, ForEachWord, HelperWord, IfWord, ImpliesWord, ImportWord, InWord, InheritsWord, InitWord, InoutWord, IntermediateWord, InvResolveWord, InvResolveInWord, InvResolveOneWord, InvResolveOneInWord, LateWord, LibraryWord, MainWord, MapWord, MappingWord, MergesWord, ModelTypeWord, NewWord, NotWord, NullWord, ObjectWord, OrWord, OrderedSetWord, OutWord, PopulationWord, QueryWord, ResolveAllWord, ResolveInWord, ResolveOneWord, ResolveOneInWord, ResultWord, ReturnWord, SelfWord, SequenceWord, SetWord, ThenWord, TransformationWord, TrueWord, UsesWord, VarWord, WhenWord, WhileWord, XmapWord, XorWord}
use Rattle.qvt_language.specs.declared.token.SyntaxToken.{SyntaxToken}
use Rattle.qvt_words.specs.contracts.class.Class.{the_type}
use denote.Enum.Declared.{tag_of}

pub next_token : (p : List SyntaxToken) (i : ℕ) (d : SyntaxToken) → i < length p → drop i (toks_of p) ≡ tok_of (get_or p i d) ∷ drop (i + 1) (toks_of p)
next_token p i d h =
    let h' : i < length (toks_of p) = omega (arith, length-map p tok_of) in
    let n : suc i ≡ i + 1 = omega arith in
    drop-cons (toks_of p) i (tok_of d) h'
    ∙ ap (λ x. x ∷ drop (suc i) (toks_of p)) (get_or-map tok_of p i d (tok_of d) h)
    ∙ ap (λ j. tok_of (get_or p i d) ∷ drop j (toks_of p)) n

pub code-tag : (k : Class) → tag_of the_type k ≡ code_of k
code-tag Name = refl
code-tag Integer = refl
code-tag Str = refl
code-tag OpenRound = refl
code-tag CloseRound = refl
code-tag OpenBrace = refl
code-tag CloseBrace = refl
code-tag Comma = refl
code-tag Semicolon = refl
code-tag Colon = refl
code-tag DoubleColon = refl
code-tag Dot = refl
code-tag DotDot = refl
code-tag Arrow = refl
code-tag Bar = refl
code-tag AtSign = refl
code-tag EqualSign = refl
code-tag DoubleEqual = refl
code-tag Diamond = refl
code-tag BangEqual = refl
code-tag LessSign = refl
code-tag AtMost = refl
code-tag GreaterSign = refl
code-tag AtLeast = refl
code-tag PlusSign = refl
code-tag MinusSign = refl
code-tag Star = refl
code-tag Becomes = refl
code-tag PlusEqual = refl
code-tag AndWord = refl
code-tag BagWord = refl
code-tag ClassWord = refl
code-tag ConstructorWord = refl
code-tag DisjunctsWord = refl
code-tag ElifWord = refl
code-tag ElseWord = refl
code-tag EndWord = refl
code-tag EndifWord = refl
code-tag ExtendsWord = refl
code-tag FalseWord = refl
code-tag ForEachWord = refl
code-tag HelperWord = refl
code-tag IfWord = refl
code-tag ImpliesWord = refl
code-tag ImportWord = refl
code-tag InWord = refl
code-tag InheritsWord = refl
code-tag InitWord = refl
code-tag InoutWord = refl
code-tag IntermediateWord = refl
code-tag InvResolveWord = refl
code-tag InvResolveInWord = refl
code-tag InvResolveOneWord = refl
code-tag InvResolveOneInWord = refl
code-tag LateWord = refl
code-tag LibraryWord = refl
code-tag MainWord = refl
code-tag MapWord = refl
code-tag MappingWord = refl
code-tag MergesWord = refl
code-tag ModelTypeWord = refl
code-tag NewWord = refl
code-tag NotWord = refl
code-tag NullWord = refl
code-tag ObjectWord = refl
code-tag OrWord = refl
code-tag OrderedSetWord = refl
code-tag OutWord = refl
code-tag PopulationWord = refl
code-tag QueryWord = refl
code-tag ResolveAllWord = refl
code-tag ResolveInWord = refl
code-tag ResolveOneWord = refl
code-tag ResolveOneInWord = refl
code-tag ResultWord = refl
code-tag ReturnWord = refl
code-tag SelfWord = refl
code-tag SequenceWord = refl
code-tag SetWord = refl
code-tag ThenWord = refl
code-tag TransformationWord = refl
code-tag TrueWord = refl
code-tag UsesWord = refl
code-tag VarWord = refl
code-tag WhenWord = refl
code-tag WhileWord = refl
code-tag XmapWord = refl
code-tag XorWord = refl

abbrev tag : Class → ℕ
tag k = tag_of the_type k

is_tag : (k : Class) (t : SyntaxToken) → is k (tok_of t) ≡ nat_eq (tag t.class) (tag k)
is_tag k t = ap (λ x. nat_eq x (code_of k)) (sym (code-tag t.class)) ∙ ap (λ x. nat_eq (tag t.class) x) (sym (code-tag k))

pub starts_at : (p : List SyntaxToken) (i : ℕ) (d : SyntaxToken) (k : Class) → i < length p → nat_eq (tag (get_or p i d).class) (tag k) ≡ starts (is k) (drop i (toks_of p))
starts_at p i d k h = sym (ap (starts (is k)) (next_token p i d h) ∙ is_tag k (get_or p i d))

pub text_at : (p : List SyntaxToken) (i : ℕ) (d : SyntaxToken) → i < length p → (get_or p i d).text.now ≡ head_of (λ t. t.text) [] (drop i (toks_of p))
text_at p i d h = sym (ap (head_of (λ t. t.text) []) (next_token p i d h))

pub head_at : (p : List SyntaxToken) (i : ℕ) (d : SyntaxToken) (k : _) → i < length p → (get_or p i d).place ≡ head_of (λ t. t.place) k (drop i (toks_of p))
head_at p i d k h = sym (ap (head_of (λ t. t.place) k) (next_token p i d h))

the_at_cases : (k : Class) (t : Tok) (ts : List Tok) (b : Bool) → is k t ≡ b → the_at k (t ∷ ts) ≡ cond b (Ok (t, ts)) (Err (At (t ∷ ts)))
the_at_cases k t ts b e = ap (λ x. cond x (Ok (t, ts)) (Err (At (t ∷ ts)))) e

pub taken : (p : List SyntaxToken) (i : ℕ) (d : SyntaxToken) (k : Class) → i < length p → tag (get_or p i d).class ≡ tag k → the_at k (drop i (toks_of p)) ≡ Ok (tok_of (get_or p i d), drop (i + 1) (toks_of p))
taken p i d k h e = ap (the_at k) (next_token p i d h) ∙ the_at_cases k _ _ true (is_tag k (get_or p i d) ∙ eq-eqb _ _ e)

pub not_taken : (p : List SyntaxToken) (i : ℕ) (d : SyntaxToken) (k : Class) → i < length p → (tag (get_or p i d).class ≢ tag k) → the_at k (drop i (toks_of p)) ≡ Err (At (drop i (toks_of p)))
not_taken p i d k h e = ap (the_at k) (next_token p i d h) ∙ the_at_cases k _ _ false (is_tag k (get_or p i d) ∙ ne_eqb _ _ e) ∙ ap (λ z. Err (At z)) (sym (next_token p i d h))

pub head_or : (p : List SyntaxToken) (i : ℕ) (d : SyntaxToken) (k : _) → i < length p → (get_or p i d).place ≡ place_of k (drop i (toks_of p))
head_or p i d k h = sym (ap (place_of k) (next_token p i d h))

not_nil : (r : List Tok) → 0 < length r → false ≡ is_nil r
not_nil [] h = absurd (omega arith)
not_nil (t ∷ r) h = refl

pub nil_at : (p : List SyntaxToken) (i : ℕ) → i < length p → false ≡ is_nil (drop i (toks_of p))
nil_at p i h = not_nil (drop i (toks_of p)) (omega (arith, length-drop i (toks_of p), length-map p tok_of))

pub skipped_none : (p : List SyntaxToken) (i : ℕ) (d : SyntaxToken) (k : Class) → i < length p → (tag (get_or p i d).class ≢ tag k) → maybe_at (is k) (the_at k) (drop i (toks_of p)) ≡ Ok (None, drop i (toks_of p))
skipped_none p i d k h e = ap (λ b. cond b (made_at Some (the_at k) (drop i (toks_of p))) (Ok (None, drop i (toks_of p)))) (sym (starts_at p i d k h) ∙ ne_eqb _ _ e)

pub skipped_some : (p : List SyntaxToken) (i : ℕ) (d : SyntaxToken) (k : Class) → i < length p → tag (get_or p i d).class ≡ tag k → maybe_at (is k) (the_at k) (drop i (toks_of p)) ≡ Ok (Some (tok_of (get_or p i d)), drop (i + 1) (toks_of p))
skipped_some p i d k h e =
    ap (λ b. cond b (made_at Some (the_at k) (drop i (toks_of p))) (Ok (None, drop i (toks_of p)))) (sym (starts_at p i d k h) ∙ eq-eqb _ _ e)
    ∙ ap (λ x. x >>= λ (a, r). Ok (Some a, r)) (taken p i d k h e)
