-- The law that printing opens no more items than the text had, but for one block more in two forms of units.
use Rattle.std.specs.Prelude.{◌≡◌, ◌≤◌, ◌↔◌, ℕ, suc, Bool, true, false, not, ◌&&◌, ◌||◌, ◌⊎◌, List, [], ◌∷◌, ◌++◌, map, None}
use Rattle.qvt_tree_types.specs.Module.{UnitTerm, HelperOf, MappingOf, ModuleTerm}
use Rattle.qvt_language.specs.Tokens.{Tok}
use Rattle.qvt_language.specs.declared.class.Class.{Class}
use Rattle.qvt_language.specs.declared.class.Class.TheVariants.{Semicolon, PopulationWord}
use Rattle.qvt_language_rows.specs.Units.{UnitRow}
use Rattle.qvt_language_rows.specs.Language.{Is, Reads}
use Rattle.qvt_parser_tokens.specs.Depth.{deep}
use Rattle.qvt_printer.specs.Units.{module_pieces, has_statements}
use Rattle.qvt_language.specs.Same.{unplaced}
use Rattle.qvt_readback_tokens.specs.Spelled.{all_spelled}
use Rattle.qvt_readback_depth.specs.Most.{most}

abbrev pub is_semicolon : Class → Bool
is_semicolon Semicolon = true
is_semicolon c = false

abbrev pub is_population : Class → Bool
is_population PopulationWord = true
is_population c = false

-- whether the last token is `;`, or b where there is none
abbrev pub ends_in_semicolon : Bool → List Tok → Bool
ends_in_semicolon b [] = b
ends_in_semicolon b (t ∷ ts) = ends_in_semicolon (is_semicolon t.class) ts

-- whether the word `population` is among the tokens
abbrev pub has_population : List Tok → Bool
has_population [] = false
has_population (t ∷ ts) = is_population t.class || has_population ts

-- whether a unit with these tokens is printed with a block that they have not: `{ return Expr; }` where a helper ends with
-- `= Expr ;`, and `population { .. }` round the statements that stand outside the blocks of a mapping's body with an init or
-- end section
abbrev pub gets_block : List Tok → UnitTerm → Bool
gets_block ts (HelperOf h) = ends_in_semicolon false ts
gets_block ts (MappingOf m) = (has_statements m.population && (has_statements m.init || has_statements m.finish)) && not (has_population ts)
gets_block ts u = false

-- one of these units, which stands among the tokens as `own`, gets a block, and had itself n items open at once
pub record HasFullUnit (n : ℕ) (ts : List Tok) (us : List UnitTerm) : Type 0 where
  pub before : List Tok
  pub own : List Tok
  pub behind : List Tok
  pub tokens : ts ≡ before ++ (own ++ behind)
  pub earlier : List UnitTerm
  pub unit : UnitTerm
  pub later : List UnitTerm
  pub units : us ≡ earlier ++ (unit ∷ later)
  pub reads : Is UnitRow own unit
  pub block : gets_block own unit ≡ true
  pub full : most own ≡ n

pub record PrintedIsAsDeep : Type 0 where
  -- the limit is kept where at most 64 items are open at once
  pub limit : (ts : List Tok) → (deep ts ≡ None) ↔ (most ts ≤ 64)
  -- at most one item more is open
  pub block : (ts us : List Tok) (m : ModuleTerm) → Reads ts m → map unplaced us ≡ all_spelled (module_pieces m) → most us ≤ suc (most ts)
  -- where no more than n items are open, no more are printed, unless a unit that gets a block had itself n open
  pub unit : (n : ℕ) (ts us : List Tok) (m : ModuleTerm) → Reads ts m → map unplaced us ≡ all_spelled (module_pieces m) → most ts ≤ n → (most us ≤ n) ⊎ HasFullUnit n ts m.units
