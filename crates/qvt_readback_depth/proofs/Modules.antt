-- The units of a text and of its printed text, one after the other: none is printed deeper than a bound that the text keeps, but
-- one that gets a block.
use Rattle.std.proofs.Common.{◌≡◌, ℕ, suc, ◌+◌, ◌≤◌, List, [], ◌∷◌, ◌++◌, Bool, true, false, ◌⊎◌, inl, inr, refl, sym, ap, ◌∙◌, subst, append_assoc, append-nil, arith, nat_le, leb-true, leb-false}
use Rattle.qvt_tree_types.specs.Module.{UnitTerm, ModuleTerm}
use Rattle.qvt_tree_types.specs.declared.module.ModelType.{ModelType}
use Rattle.qvt_tree_types.specs.declared.module.ModelParam.{ModelParam}
use Rattle.qvt_language.specs.Tokens.{Tok}
use Rattle.qvt_language.specs.UnitTrees.{units_of, module_of}
use Rattle.qvt_readback_depth.proofs.Claims.{Many}
use Rattle.qvt_language_rows.specs.Language.{inside, Is}
use Rattle.qvt_language_rows.specs.Units.{UnitRow}
use Rattle.qvt_printer.specs.Units as printed
use Rattle.qvt_printer.specs.Units.{module_pieces}
use Rattle.qvt_printer_layout.specs.declared.piece.PrintPiece.{PrintPiece}
use Rattle.qvt_printer_layout.specs.declared.piece.PrintPiece.TheVariants as piece
use Rattle.qvt_readback_depth.specs.Most.{most}
use Rattle.qvt_readback_depth.specs.Law.{gets_block, HasFullUnit}
use Rattle.qvt_readback_depth.proofs.Runs.{items_after, fresh_after, Below, below_front, below_back, below_join}
use Rattle.qvt_readback_depth.proofs.Wide.{wide_up, below_up}
use Rattle.qvt_readback_depth.proofs.Pieces.{pc, tc, pc_append, tc_append, Cut, PStrong, Quiet, quiet_nil, none_of, pieces_of}
use Rattle.qvt_readback_depth.proofs.Counts.{most_below, below_most}
use Rattle.qvt_readback_depth.proofs.Exprs.{Printed, many_are}
use Rattle.qvt_readback_depth.proofs.Units.{PWide, slack, slack_one, wide_of, wide_more, wide_after, UnitIs, header_pieces}

-- at most n items are open in these pieces, where none is before
abbrev Fits : ℕ → List PrintPiece → Type 0
Fits n ps = (f : Bool) → Below n f [] (pc ps)

abbrev Closed : List PrintPiece → Type 0
Closed ps = (f : Bool) → items_after f [] (pc ps) ≡ []

fits_more : (n : ℕ) (a b : List PrintPiece) → Closed a → Fits n a → Fits n b → Fits n (a ++ b)
fits_more n a b e h k f = subst (Below n f []) (sym (pc_append a b)) (below_join n f [] (pc a) (pc b) (h f) (subst (λ z. Below n (fresh_after f (pc a)) z (pc b)) (sym (e f)) (k (fresh_after f (pc a)))))

-- what printing a part of the text with these units gives
abbrev Fit : ℕ → List PrintPiece → List Tok → List UnitTerm → Type 0
Fit n ps ts us = Fits n ps ⊎ HasFullUnit n ts us

abbrev Bounded : List PrintPiece → List Tok → List UnitTerm → Type 0
Bounded ps ts us = (n : ℕ) (f : Bool) → Below n f [] (tc ts) → Fit n ps ts us

-- a full unit, with more around it
full_front : (n : ℕ) (u v : List Tok) (us vs : List UnitTerm) → HasFullUnit n u us → HasFullUnit n (u ++ v) (us ++ vs)
full_front n u v us vs h = record {
  before = h.before;
  own = h.own;
  behind = h.behind ++ v;
  tokens = ap (λ z. z ++ v) h.tokens ∙ append_assoc h.before (h.own ++ h.behind) v ∙ ap (λ z. h.before ++ z) (append_assoc h.own h.behind v);
  earlier = h.earlier;
  unit = h.unit;
  later = h.later ++ vs;
  units = ap (λ z. z ++ vs) h.units ∙ append_assoc h.earlier (h.unit ∷ h.later) vs;
  reads = h.reads;
  block = h.block;
  full = h.full;
}

full_back : (n : ℕ) (u v : List Tok) (us vs : List UnitTerm) → HasFullUnit n v vs → HasFullUnit n (u ++ v) (us ++ vs)
full_back n u v us vs h = record {
  before = u ++ h.before;
  own = h.own;
  behind = h.behind;
  tokens = ap (λ z. u ++ z) h.tokens ∙ sym (append_assoc u h.before (h.own ++ h.behind));
  earlier = us ++ h.earlier;
  unit = h.unit;
  later = h.later;
  units = ap (λ z. us ++ z) h.units ∙ sym (append_assoc us h.earlier (h.unit ∷ h.later));
  reads = h.reads;
  block = h.block;
  full = h.full;
}

-- a part after the other
bounded_more : (a b : List PrintPiece) (u v : List Tok) (us vs : List UnitTerm) → PWide 1 a u → Bounded a u us → Bounded b v vs → Bounded (a ++ b) (u ++ v) (us ++ vs)
bounded_more a b u v us vs w h k n f l = both (h n f (below_front n f [] (tc u) (tc v) whole)) (k n (fresh_after f (tc u)) rest) where
  whole : Below n f [] (tc u ++ tc v)
  whole = subst (Below n f []) (tc_append u v) l

  rest : Below n (fresh_after f (tc u)) [] (tc v)
  rest = subst (λ z. Below n (fresh_after f (tc u)) z (tc v)) (w.back_t f []) (below_back n f [] (tc u) (tc v) whole)

  both : Fit n a u us → Fit n b v vs → Fit n (a ++ b) (u ++ v) (us ++ vs)
  both (inl x) (inl y) = inl (fits_more n a b (λ g. w.back_u g []) x y)
  both (inl x) (inr y) = inr (full_back n u v us vs y)
  both (inr x) y = inr (full_front n u v us vs x)

-- what is no unit
bounded_strong : (a : List PrintPiece) (u : List Tok) → PStrong a u → Bounded a u []
bounded_strong a u h n f l = inl (λ g. subst (λ z. Below z g [] (pc a)) (omega arith) (h.is.low 0 g f [] [] (omega arith) n l))

-- one unit
one_bounded : (own : List Tok) (u : UnitTerm) → Is UnitRow own u → UnitIs own u → Bounded (printed.unit u) own (u ∷ [])
one_bounded own u reads h n f l = by (gets_block own u) refl where
  kept : gets_block own u ≡ false → Fits n (printed.unit u)
  kept e g =
      let none : slack (gets_block own u) ≡ 0 = ap slack e in
      below_up (n + (slack (gets_block own u) + 0)) n g [] (pc (printed.unit u)) (omega (arith, none)) (h.wide.low 0 g f [] [] (omega arith) n l)

  own_most : most own ≤ n
  own_most = most_below n false [] own (h.steady n f [] l)

  less : gets_block own u ≡ true → suc (most own) ≤ n → Fits n (printed.unit u)
  less e q g =
      let one : slack (gets_block own u) ≡ 1 = ap slack e in
      below_up (most own + (slack (gets_block own u) + 0)) n g [] (pc (printed.unit u)) (omega (arith, q, one)) (h.wide.low 0 g false [] [] (omega arith) (most own) (below_most (most own) false [] own (omega arith) (omega arith)))

  full : gets_block own u ≡ true → n ≤ most own → HasFullUnit n own (u ∷ [])
  full e q = record {
    before = [];
    own = own;
    behind = [];
    tokens = sym (append-nil own);
    earlier = [];
    unit = u;
    later = [];
    units = refl;
    reads = reads;
    block = e;
    full = omega (arith, q, own_most);
  }

  at_most : gets_block own u ≡ true → (c : Bool) → nat_le n (most own) ≡ c → Fit n (printed.unit u) own (u ∷ [])
  at_most e true q = inr (full e (leb-true n (most own) q))
  at_most e false q = inl (less e (omega (arith, leb-false n (most own) q)))

  by : (b : Bool) → gets_block own u ≡ b → Fit n (printed.unit u) own (u ∷ [])
  by false e = inl (kept e)
  by true e = at_most e (nat_le n (most own)) refl

-- the units of a text
abbrev pub ReadUnit : List Tok → UnitTerm → Type 0
ReadUnit ts u = UnitIs ts u × ((n : ℕ) × UnitRow (inside n) ts u)

pub record UnitsAre (ts : List Tok) (us : List UnitTerm) : Type 0 where
  pub wide : PWide 1 (printed.units us) ts
  pub bounded : Bounded (printed.units us) ts us

units_append : (us vs : List UnitTerm) → printed.units (us ++ vs) ≡ printed.units us ++ printed.units vs
units_append [] vs = refl
units_append (u ∷ us) vs = ap (λ z. printed.unit u ++ (piece.Line ∷ z)) (units_append us vs) ∙ sym (append_assoc (printed.unit u) (piece.Line ∷ printed.units us) (printed.units vs))

line : PStrong (piece.Line ∷ []) []
line = pieces_of (piece.Line ∷ []) refl quiet_nil

pub no_units : {ts : List Tok} → Quiet ts → UnitsAre ts []
no_units {ts} q = record { wide = wide_of 1 (none_of q); bounded = bounded_strong [] ts (none_of q) }

pub one_unit : {ts : List Tok} (u : UnitTerm) → ReadUnit ts u → UnitsAre ts (u ∷ [])
one_unit {ts} u (h, (n, rd)) =
    let wide : PWide 1 (printed.unit u) ts = wide_up (slack (gets_block ts u)) 1 (slack_one (gets_block ts u)) h.wide in
    let reads : Is UnitRow ts u = record { nesting = n; is = rd } in
    record {
      wide = subst (PWide 1 (printed.units (u ∷ []))) (append-nil ts) (wide_more 1 (printed.unit u) (piece.Line ∷ []) ts [] wide (wide_of 1 line));
      bounded = subst (λ z. Bounded (printed.units (u ∷ [])) z (u ∷ [])) (append-nil ts) (bounded_more (printed.unit u) (piece.Line ∷ []) ts [] (u ∷ []) [] wide (one_bounded ts u reads h) (bounded_strong (piece.Line ∷ []) [] line));
    }

more_units : (u v : List Tok) (us : List UnitTerm) (uss : List (List UnitTerm)) → UnitsAre u us → UnitsAre v (units_of uss) → UnitsAre (u ++ v) (us ++ units_of uss)
more_units u v us uss h k = record {
  wide = subst (λ z. PWide 1 z (u ++ v)) (sym (units_append us (units_of uss))) (wide_more 1 (printed.units us) (printed.units (units_of uss)) u v h.wide k.wide);
  bounded = subst (λ z. Bounded z (u ++ v) (us ++ units_of uss)) (sym (units_append us (units_of uss))) (bounded_more (printed.units us) (printed.units (units_of uss)) u v us (units_of uss) h.wide h.bounded k.bounded);
}

all_units : (uss : List (List UnitTerm)) {ts : List Tok} → Many UnitsAre ts uss → UnitsAre ts (units_of uss)
all_units [] h = subst (λ z. UnitsAre z []) (sym h) (no_units quiet_nil)
all_units (us ∷ uss) h = subst (λ z. UnitsAre z (us ++ units_of uss)) (sym h.2.is) (more_units h.0 h.1 us uss h.3 (all_units uss h.4))

-- the whole
pub record ModuleIs (ts : List Tok) (m : ModuleTerm) : Type 0 where
  pub wide : PWide 1 (module_pieces m) ts
  pub bounded : Bounded (module_pieces m) ts m.units

parts_are : (x y z : List Tok) (types : List ModelType) (head : List ℕ × List ModelParam) (uss : List (List UnitTerm)) → PStrong (printed.model_types types) x → PStrong (header_pieces head) y → UnitsAre z (units_of uss) → ModuleIs (x ++ (y ++ z)) (module_of (types, (head, uss)))
unfolding module_pieces
parts_are x y z types head uss h k j =
    let units = printed.units (units_of uss) in
    let after_head = header_pieces head ++ (piece.Line ∷ units) in
    let lined : Bounded (piece.Line ∷ units) z (units_of uss) = bounded_more (piece.Line ∷ []) units [] z [] (units_of uss) (wide_of 1 line) (bounded_strong (piece.Line ∷ []) [] line) j.bounded in
    let rest : Bounded after_head (y ++ z) (units_of uss) = bounded_more (header_pieces head) (piece.Line ∷ units) y z [] (units_of uss) (wide_of 1 k) (bounded_strong (header_pieces head) y k) lined in
    record {
      wide = wide_after 1 (printed.model_types types) after_head x (y ++ z) h (wide_after 1 (header_pieces head) (piece.Line ∷ units) y z k j.wide);
      bounded = bounded_more (printed.model_types types) after_head x (y ++ z) [] (units_of uss) (wide_of 1 h) (bounded_strong (printed.model_types types) x h) rest;
    }

pub module_is : {ts u v x y : List Tok} (types : List ModelType) (head : List ℕ × List ModelParam) (uss : List (List UnitTerm)) → Cut ts u v → Many (Printed (λ t. printed.model_type t ++ (piece.Line ∷ []))) u types → Cut v x y → PStrong (header_pieces head) x → Many UnitsAre y uss → ModuleIs ts (module_of (types, (head, uss)))
module_is {ts} {u} {v} {x} {y} types head uss e h f k j =
    let all = many_are (λ t. printed.model_type t ++ (piece.Line ∷ [])) printed.model_types refl (λ t more. sym (append_assoc (printed.model_type t) (piece.Line ∷ []) (printed.model_types more))) types h in
    subst (λ z. ModuleIs z (module_of (types, (head, uss)))) (sym (e.is ∙ ap (λ z. u ++ z) f.is)) (parts_are u x y types head uss all k (all_units uss j))
